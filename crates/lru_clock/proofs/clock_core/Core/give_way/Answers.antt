-- The charge of the key's entry is at least the excess.
use Rattle.std.proofs.Common.{ap, arith}
use Rattle.lru_clock.proofs.Seating.Places.{charges}
use Rattle.lru_clock.proofs.Seating.Replaced.{within_taken}
use Rattle.lru_clock.proofs.clock_core.Core.give_way.Goals as goal

pub returns-in-Some-take_idle-clause-within : goal.returns-in-Some-take_idle-clause-within
returns-in-Some-take_idle-clause-within g c =
    within_taken c.args.is_strict c.take_idle.new.state.capacity c.in-Some.place c.find.new.self c.take_idle.new.state.seats c.in-Some-take_idle.ensures.seats
    (omega (arith, c.total.ensures, c.saturating_sub-excess.ensures, c.charge_at.ensures, c.if-charge_at-excess.false, ap charges c.find.ensures.same, c.take_idle.ensures.capacity))
