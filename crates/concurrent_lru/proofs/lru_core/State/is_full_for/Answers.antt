use Rattle.std.proofs.Common.{refl}
use Rattle.concurrent_lru.proofs.lru_core.State.is_full_for.Goals as goal

pub returns-then-lacks_capacity_for-clause-yes : goal.returns-then-lacks_capacity_for-clause-yes
returns-then-lacks_capacity_for-clause-yes g c = λ lacks. (c.if-lacks_capacity_for.ensures.yes refl, c.lacks_entry.ensures.yes lacks)
