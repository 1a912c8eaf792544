use Rattle.concurrent_lru.proofs.Runs.PromisesOfRuns as promises
use Rattle.concurrent_lru.proofs.whole_runs.leaves_tail.Goals as goal

pub returns : goal.returns
returns g c = record { law = promises.leaves_tail _ _ _ g.met.K.Eq.laws }
