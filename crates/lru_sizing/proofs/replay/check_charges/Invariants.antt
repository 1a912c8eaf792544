use Rattle.std.specs.HashMap as hash
use Rattle.lru_sizing.proofs.Passes.{IsSeen}
use Rattle.lru_sizing.proofs.replay.check_charges.Given as goal

abbrev pub invariant-loop-place : goal.invariant-loop-place
invariant-loop-place g l = IsSeen g.K.PartialEq.eq g.met.K.Eq.laws l.trace l.place (hash.get (λ x y. g.K.PartialEq.eq x.now y.now) l.last_places)
