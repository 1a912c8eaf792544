use Rattle.concurrent_lru.proofs.Steps.StaysAttached as attached
use Rattle.concurrent_lru.proofs.step_laws.stays_attached.Goals as goal

pub returns : goal.returns
returns g c = record { run = attached.stays_attached _ _ _; keys = attached.one_entry_of_key _ _ _ }
