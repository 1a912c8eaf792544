use Rattle.concurrent_lru.proofs.Steps.InOneGo as one
use Rattle.concurrent_lru.proofs.step_laws.in_one_go.Goals as goal

pub returns : goal.returns
returns g c = record { insert = one.insert_is_three _ _ _; refusal = one.insert_is_refused _ _ _ g.met.K.Eq.laws; read = one.read_is_two _ _ _ }
