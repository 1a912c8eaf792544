use Rattle.concurrent_lru.proofs.Steps.StaysLawful as lawful
use Rattle.concurrent_lru.proofs.step_laws.keeps_lawful.Goals as goal

pub returns : goal.returns
returns g c = record { step = lawful.keeps_lawful _ _ _ g.met.K.Eq.laws; run = lawful.runs_keep_lawful _ _ _ g.met.K.Eq.laws }
