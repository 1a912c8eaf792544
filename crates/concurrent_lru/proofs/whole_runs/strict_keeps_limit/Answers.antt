use Rattle.concurrent_lru.proofs.Runs.StrictRuns as strict
use Rattle.concurrent_lru.proofs.whole_runs.strict_keeps_limit.Goals as goal

pub returns : goal.returns
returns g c = record { law = strict.strict_runs_keep_limit _ _ _ g.met.K.Eq.laws }
