use Rattle.concurrent_lru.proofs.Steps.RefusalsExclude as refusals
use Rattle.concurrent_lru.proofs.step_laws.refusals_exclude.Goals as goal

pub returns : goal.returns
returns g c = record { steps = refusals.leaves_no_step _ _ _ g.met.K.Eq.laws; refusals = refusals.one_refusal _ _ _ g.met.K.Eq.laws }
