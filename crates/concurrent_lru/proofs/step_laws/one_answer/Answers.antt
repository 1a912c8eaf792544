use Rattle.concurrent_lru.proofs.Steps.OneAnswer as steps
use Rattle.concurrent_lru.proofs.step_laws.one_answer.Goals as goal

pub returns : goal.returns
returns g c = record { law = steps.one_answer _ _ _ g.met.K.Eq.laws }
