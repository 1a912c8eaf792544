use Rattle.concurrent_lru.proofs.Steps.StrictSteps as strict
use Rattle.concurrent_lru.proofs.step_laws.strict_keeps_limit.Goals as goal

pub returns : goal.returns
returns g c = record { law = strict.strict_requests_keep_limit _ _ _ }
