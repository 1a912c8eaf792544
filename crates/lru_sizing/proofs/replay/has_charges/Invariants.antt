use Rattle.std.proofs.Common.{◌<◌, take}
use Rattle.std.specs.List.{AllByRecursion}
use Rattle.lru_sizing.proofs.replay.has_charges.Given as goal

abbrev pub invariant-loop-charge : goal.invariant-loop-charge
invariant-loop-charge g l = AllByRecursion (λ u. 0 < u.1) (take l.charge-index l.trace)
