use Rattle.concurrent_lru.proofs.Steps.ToldCharges as steps
use Rattle.concurrent_lru.proofs.step_laws.told_is_as_known.Goals as goal

pub returns : goal.returns
returns g c = record { law = steps.told_is_as_known _ _ _ }
