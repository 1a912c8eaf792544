use Rattle.std.specs.BinaryHeap.{heap_len}
use Rattle.lru_size.proofs.optimum.Content.keep.Given as goal

abbrev pub decreases-loop-self : goal.decreases-loop-self
decreases-loop-self l = heap_len l.self.latest
