use Rattle.concurrent_lru.proofs.Runs.PromisesOfRuns as promises
use Rattle.concurrent_lru.proofs.whole_runs.keeps_stamps.Goals as goal

pub returns : goal.returns
returns g c = record { law = promises.keeps_stamps _ _ _ }
