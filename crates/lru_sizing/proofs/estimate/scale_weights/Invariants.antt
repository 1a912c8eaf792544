use Rattle.std.proofs.Common.{◌≡◌, map, take}
use Rattle.lru_sizing.specs.Estimates.{scaled}
use Rattle.lru_sizing.proofs.estimate.scale_weights.Given as goal

abbrev pub invariant-loop-place : goal.invariant-loop-place
invariant-loop-place g l = l.scaled.items ≡ take l.place (scaled l.sample.one_in (map (λ u. u.1) l.sampled) l.weights)
