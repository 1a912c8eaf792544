-- A new entry that is stored counts, and what left does not. One that is refused leaves the seats
-- as they were, unless the key's entry has given way.
use Rattle.std.proofs.Common.{◌≡◌, true, None, MatchOption, set, sym, ap, subst, ◌∙◌}
use Rattle.std.specs.Prelude.{IfNone, is_some}
use Rattle.lru_clock.specs.SeatChanges.{AddsVacant, ChargesOver, IsUnlisted, KeepsCharges, LeavesAnyOther}
use Rattle.lru_clock.specs.Seats.{seat}
use Rattle.lru_clock.proofs.Seating.Replaced.{replaced, still_unlisted}
use Rattle.lru_clock.proofs.Seating.Vacant.{cancelled, cancelled_after}
use Rattle.lru_clock.proofs.clock_core.Core.replace.Goals as goal

pub returns-in-Err-give_way-clause-refused : goal.returns-in-Err-give_way-clause-refused
returns-in-Err-give_way-clause-refused g c =
    let old = c.args.state.now.seats in
    let counted = c.reserve_seat.new.state.seats in
    let place = c.in-Ok.reservation.place in
    subst (AddsVacant old) (sym (c.cancel.ensures ∙ ap (λ l. set l place (seat 0 0 None)) c.in-Err-give_way.ensures.seats.1))
    (cancelled old counted place c.in-Ok.ensures.seats)

pub returns-in-Err-fill_vacant-clause-refused : goal.returns-in-Err-fill_vacant-clause-refused
returns-in-Err-fill_vacant-clause-refused g c =
    let old = c.args.state.now.seats in
    let counted = c.reserve_seat.new.state.seats in
    let given = c.give_way.new.state.seats in
    let place = c.in-Ok.reservation.place in
    subst (λ l. IfNone c.in-Ok-give_way.old (AddsVacant old l)) (sym (c.cancel-in-Err-fill_vacant.ensures ∙ ap (λ p. set given p (seat 0 0 None)) c.in-Err-fill_vacant.ensures.place))
    (cancelled_after old counted given place c.in-Ok-give_way.old c.in-Ok.ensures.seats c.in-Ok-give_way.ensures.seats)

pub settle_in-left-requires : goal.settle_in-left-requires
settle_in-left-requires g c =
    let given = c.give_way.new.state.seats in
    let gone = c.in-Ok-give_way.old in record {
      unlisted = subst (λ p. IfNone gone (IsUnlisted given p)) (sym c.in-Ok-fill_vacant.ensures.place)
          (still_unlisted c.args.charge c.in-Ok.reservation.place c.args.state.now.seats c.reserve_seat.new.state.seats c.in-Ok.ensures.charged c.in-Ok.ensures.seats given gone c.in-Ok-give_way.ensures.seats);
    }

pub returns-in-Ok-fill_vacant-clause-charged : goal.returns-in-Ok-fill_vacant-clause-charged
returns-in-Ok-fill_vacant-clause-charged g c =
    let old = c.args.state.now.seats in
    let given = c.give_way.new.state.seats in
    let new = c.settle_in-left.new.state.seats in
    let gone = c.in-Ok-give_way.old in
    let left = c.settle_in-left.result in
    let at = c.in-Ok-fill_vacant.ensures.place in
    let leaves = subst (λ p. MatchOption gone (LeavesAnyOther p given new left) (λ _. KeepsCharges given new × (is_some left ≡ true))) at c.settle_in-left.ensures.charges in
    subst (λ p. ChargesOver c.args.charge p old new left) (sym at)
    (replaced c.args.charge c.in-Ok.reservation.place old c.reserve_seat.new.state.seats c.in-Ok.ensures.charged c.in-Ok.ensures.seats given new gone left c.in-Ok-give_way.ensures.seats leaves)
