use Rattle.std.proofs.Common.{◌≡◌, false, take}
use Rattle.std.specs.List.{list_any}
use Rattle.lru_clock.specs.Makings.{is_of}
use Rattle.lru_clock.proofs.makings.Makings.find.Given as goal

abbrev pub invariant-loop-at : goal.invariant-loop-at
invariant-loop-at g l = list_any (is_of g.K.PartialEq.eq l.key) (take l.at l.self) ≡ false
