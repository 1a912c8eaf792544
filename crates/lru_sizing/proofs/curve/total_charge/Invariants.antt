use Rattle.std.proofs.Common.{◌≡◌, ◌≤◌, ◌*◌, map, take}
use Rattle.std.specs.List.{sum}
use Rattle.lru_sizing.proofs.curve.total_charge.Given as goal

abbrev pub invariant-loop-charge : goal.invariant-loop-charge
invariant-loop-charge g l = (l.total ≡ sum (map (λ u. u.1) (take l.charge-index l.trace))) × (l.total ≤ 18446744073709551615 * l.charge-index)
