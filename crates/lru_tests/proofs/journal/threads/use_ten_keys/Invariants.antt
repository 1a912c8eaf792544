use Rattle.std.proofs.Common.{◌≡◌}
use Rattle.lru_tests.proofs.journal.threads.use_ten_keys.Given as goal

-- the parts of the tally stay
abbrev pub invariant-loop-next : goal.invariant-loop-next
invariant-loop-next g l = l.tally.parts ≡ l.initial.tally.parts
