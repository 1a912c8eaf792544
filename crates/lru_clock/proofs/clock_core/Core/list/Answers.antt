-- A seat keeps its charge when the index gets its entry.
use Rattle.lru_clock.proofs.Seating.Charges.{keeps}
use Rattle.lru_clock.proofs.clock_core.Core.list.Goals as goal

pub returns-else-not-list-clause-charges : goal.returns-else-not-list-clause-charges
returns-else-not-list-clause-charges g c = keeps c.args.state.now.seats c.list.new.self c.args.place c.list.result c.list.ensures
