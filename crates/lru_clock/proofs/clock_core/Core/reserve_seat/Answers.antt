-- The charge counts from now on; room that was made before changed none.
use Rattle.std.proofs.Common.{refl, sym, subst, arith}
use Rattle.lru_clock.specs.SeatChanges.{Charges}
use Rattle.lru_clock.specs.Seats.{seat}
use Rattle.lru_clock.proofs.Seating.Charges.{charged, after_room}
use Rattle.lru_clock.proofs.clock_core.Core.reserve_seat.Goals as goal

pub returns-in-Ok-clause-charged : goal.returns-in-Ok-clause-charged
returns-in-Ok-clause-charged g c =
    let place = c.in-Ok.reservation.place in
    let roomy = c.admit.new.state.seats in
    after_room c.args.state.now.seats roomy c.reserve.new.self c.args.charge place c.admit.ensures.total
    (subst (Charges c.args.charge place roomy) (sym c.in-Ok.ensures.seats.0) (charged roomy place (seat c.args.charge c.args.tag c.args.key_copy) c.in-Ok.ensures.seats.2))

-- The total stays within a `u64`, as was checked before.
pub returns-in-Ok-clause-fits : goal.returns-in-Ok-clause-fits
returns-in-Ok-clause-fits g c =
    let place = c.in-Ok.reservation.place in
    let roomy = c.admit.new.state.seats in
    let charged = subst (Charges c.args.charge place roomy) (sym c.in-Ok.ensures.seats.0) (charged roomy place (seat c.args.charge c.args.tag c.args.key_copy) c.in-Ok.ensures.seats.2) in
    omega (arith, charged.total, c.admit.ensures.total, c.in_default.ensures.fits)

-- The place was vacant, or was added as such.
pub returns-in-Ok-clause-seats : goal.returns-in-Ok-clause-seats
returns-in-Ok-clause-seats g c =
    (c.admit.new.state.seats, c.admit.ensures.seats, c.in-Ok.ensures.seats.2, (seat c.args.charge c.args.tag c.args.key_copy, refl, c.in-Ok.ensures.seats.0))
