use Rattle.std.proofs.Common.{inr, refl}
use Rattle.lru_c.proofs.steps.contains.Goals as goal

pub returns-else-contains : goal.returns-else-contains
returns-else-contains g c = inr (refl, c.if-contains.ensures.no refl)
