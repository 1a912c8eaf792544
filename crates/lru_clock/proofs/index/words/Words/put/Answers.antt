use Rattle.std.proofs.Common.{sym, subst}
use Rattle.lru_clock.specs.Index.{PutsIn}
use Rattle.lru_clock.proofs.Words.Cells.{put_in}
use Rattle.lru_clock.proofs.index.words.Words.put.Goals as goal

pub returns : goal.returns
returns c = subst (λ ws. PutsIn c.args.self.now ws c.args.word) (sym c.set.ensures)
    (put_in c.args.self.now c.args.word c.args.at c.requires.filled c.requires.ends c.requires.reached c.requires.apart c.requires.absent)
