use Rattle.std.proofs.Common.{◌≡◌, map, take}
use Rattle.lru_sizing.specs.Curves.{reused}
use Rattle.lru_sizing.proofs.curve.reuses.Given as goal

abbrev pub invariant-loop-place : goal.invariant-loop-place
invariant-loop-place g l = l.reused.items ≡ reused (take l.place (map (λ u. u.1) l.trace)) (take l.place l.weights)
