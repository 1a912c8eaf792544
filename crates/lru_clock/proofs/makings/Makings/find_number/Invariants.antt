use Rattle.std.proofs.Common.{◌≡◌, false, take}
use Rattle.lru_clock.specs.Makings.{has_number}
use Rattle.lru_clock.proofs.makings.Makings.find_number.Given as goal

abbrev pub invariant-loop-at : goal.invariant-loop-at
invariant-loop-at g l = has_number l.number (take l.at l.self) ≡ false
