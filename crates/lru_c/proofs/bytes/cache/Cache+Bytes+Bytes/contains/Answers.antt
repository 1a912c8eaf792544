use Rattle.std.proofs.Common.{inr, refl, subst}
use Rattle.lru_c.specs.Keys.{bytes_eq}
use Rattle.lru_c.specs.Opened.{TellsReady}
use Rattle.lru_c.proofs.bytes.cache.Cache+Bytes+Bytes.contains.Goals as goal

pub returns-clause-contains : goal.returns-clause-contains
returns-clause-contains c =
    inr (c.keep.new.self.room, c.if-not-keep.ensures.kept refl, subst (λ s. TellsReady bytes_eq s.cache c.keep.new.self.room c.contains.result) c.keep.ensures.state c.contains.ensures)
