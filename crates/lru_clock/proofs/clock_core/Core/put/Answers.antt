-- The entry takes its place in the order, in which there may be more room.
use Rattle.std.proofs.Common.{◌≡◌, None, set, sym, ap, subst, ◌∙◌}
use Rattle.lru_clock.specs.Evictions.{arrived}
use Rattle.lru_clock.specs.SeatChanges.{AddsVacant}
use Rattle.lru_clock.specs.Seats.{seat}
use Rattle.lru_clock.proofs.Seating.Charges.{given_back}
use Rattle.lru_clock.proofs.Seating.Places.{charges}
use Rattle.lru_clock.proofs.Seating.Vacant.{cancelled}
use Rattle.lru_clock.proofs.clock_core.Core.put.Goals as goal

pub returns-in-Ok-fill-clause-order : goal.returns-in-Ok-fill-clause-order
returns-in-Ok-fill-clause-order g c =
    let place = c.in-Ok-fill.found.place in
    let wide = c.reserve_seat.new.state.order in
    let listed = c.list.new.state in
    let capacity : listed.capacity ≡ c.args.state.now.capacity = ap (λ s. s.capacity) c.list.ensures.same ∙ c.reserve_seat.ensures.capacity in
    let order : listed.order ≡ wide = ap (λ s. s.order) c.list.ensures.same in
    let seats : c.come.new.self.seats ≡ listed.seats = ap (λ s. s.seats) c.come.ensures in (
      wide,
      c.reserve_seat.ensures.order,
      ap (λ s. s.order) c.come.ensures
          ∙ ap (λ n. arrived listed.seats place n listed.order) capacity
          ∙ ap (λ o. arrived listed.seats place c.args.state.now.capacity o) order
          ∙ ap (λ l. arrived l place c.args.state.now.capacity wide) (sym seats),
    )

-- The charge of an entry that could not be stored no longer counts.
pub returns-in-Err-fill-clause-charged : goal.returns-in-Err-fill-clause-charged
returns-in-Err-fill-clause-charged g c =
    let counted = c.reserve_seat.new.state.seats in
    let place = c.in-Ok.reservation.place in
    ap charges c.cancel.ensures ∙ ap (λ p. charges (set counted p (seat 0 0 None))) c.in-Err-fill.ensures.place
    ∙ given_back c.args.state.now.seats counted c.args.charge place c.in-Ok.ensures.charged

-- The place of such an entry is vacant again.
pub returns-in-Err-fill-clause-refused : goal.returns-in-Err-fill-clause-refused
returns-in-Err-fill-clause-refused g c =
    let old = c.args.state.now.seats in
    let counted = c.reserve_seat.new.state.seats in
    let place = c.in-Ok.reservation.place in
    subst (AddsVacant old) (sym (c.cancel.ensures ∙ ap (λ p. set counted p (seat 0 0 None)) c.in-Err-fill.ensures.place))
    (cancelled old counted place c.in-Ok.ensures.seats)
