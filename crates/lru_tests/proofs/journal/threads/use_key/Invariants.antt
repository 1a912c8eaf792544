use Rattle.std.proofs.Common.{◌≡◌}
use Rattle.lru_tests.proofs.journal.threads.use_key.Given as goal

-- the parts of the tally stay
abbrev pub invariant-loop-pin : goal.invariant-loop-pin
invariant-loop-pin g l = l.tally.parts ≡ l.initial.tally.parts
