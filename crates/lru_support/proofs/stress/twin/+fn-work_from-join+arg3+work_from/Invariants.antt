use Prim.Native.Nat.{◌-◌, ◌*◌}
use Rattle.lru_support.proofs.stress.twin.+fn-work_from-join+arg3+work_from.Given as goal

abbrev pub decreases-work_from : goal.decreases-work_from
decreases-work_from g l = 2 * l.workers

abbrev pub decreases-join+arg3 : goal.decreases-join+arg3
decreases-join+arg3 g l = 2 * l.workers - 1
