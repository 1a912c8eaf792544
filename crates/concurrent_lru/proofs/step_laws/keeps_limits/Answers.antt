use Rattle.concurrent_lru.proofs.Steps.StaysLawful as lawful
use Rattle.concurrent_lru.proofs.step_laws.keeps_limits.Goals as goal

pub returns : goal.returns
returns g c = record { law = lawful.keeps_limits _ _ _ }
