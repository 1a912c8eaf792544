use Rattle.concurrent_lru.proofs.Runs.LargerCapacity as inclusion
use Rattle.concurrent_lru.proofs.whole_runs.one_tail.Goals as goal

pub returns : goal.returns
returns g c = record { law = inclusion.one_tail _ }
