use Rattle.concurrent_lru.proofs.Runs.CutAndJoined.{Run-cut, Run-join}
use Rattle.concurrent_lru.proofs.step_laws.run_in_two.Goals as goal

pub returns : goal.returns
returns g c = record { cut = Run-cut g.K.PartialEq.eq; together = Run-join g.K.PartialEq.eq }
