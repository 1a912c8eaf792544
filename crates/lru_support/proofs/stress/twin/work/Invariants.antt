use Rattle.std.proofs.Common.{◌≡◌}
use Rattle.lru_support.proofs.stress.twin.work.Given as goal

-- the parts of the tally stay
abbrev pub invariant-loop-number : goal.invariant-loop-number
invariant-loop-number g l = l.tally.parts ≡ l.initial.tally.parts
