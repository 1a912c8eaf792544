use Rattle.concurrent_lru.proofs.Runs.PromisesOfRuns as promises
use Rattle.concurrent_lru.proofs.whole_runs.larger_holds.Goals as goal

pub returns : goal.returns
returns g c = record { law = promises.larger_holds _ _ _ g.met.K.Eq.laws }
