-- The key has no entry that the index has, whether or not the old one has left.
use Rattle.std.proofs.Common.{None, set, refl, sym, ap, subst, ◌∙◌}
use Rattle.lru_clock.specs.SeatChanges.{KeepsCharges, VacatesIfListed, VacatesListed}
use Rattle.lru_clock.specs.Seats.{LacksKey, seat}
use Rattle.lru_clock.proofs.Seating.Keys.{lacks_set}
use Rattle.lru_clock.proofs.Seating.Places.{set_after}
use Rattle.lru_clock.proofs.Seating.Replaced.{unlisted_charges}
use Rattle.lru_clock.proofs.clock_core.Core.invalidate_entry.Goals as goal

pub returns-in_err-slot-clause-gone : goal.returns-in_err-slot-clause-gone
returns-in_err-slot-clause-gone g c = c.unlist.ensures.gone c.args.tag c.args.key.now c.in_ok-place.ensures.found

pub returns-in_err-taken-clause-gone : goal.returns-in_err-taken-clause-gone
returns-in_err-taken-clause-gone g c = c.unlist.ensures.gone c.args.tag c.args.key.now c.in_ok-place.ensures.found

pub returns-clause-gone : goal.returns-clause-gone
returns-clause-gone g c =
    subst (λ l. LacksKey g.K.PartialEq.eq l c.args.tag c.args.key.now) (sym c.vacate.ensures.seats)
    (lacks_set g.K.PartialEq.eq c.unlist.new.self c.in_ok-taken.taken.place c.args.tag c.args.key.now (seat 0 0 None) refl (c.unlist.ensures.gone c.args.tag c.args.key.now c.in_ok-place.ensures.found))

-- It is the one that the index had; otherwise no charge changed.
pub returns-in_err-slot-clause-left : goal.returns-in_err-slot-clause-left
returns-in_err-slot-clause-left g c =
    let found = c.in_ok-place.ensures.found.1 in
    subst (λ r. VacatesIfListed c.args.state.now.seats c.unlist.new.self r) (sym c.from_residual-in_err-slot.ensures)
    (subst (λ l. KeepsCharges l c.unlist.new.self) c.find.ensures.same
    (unlisted_charges c.find.new.self c.unlist.new.self c.in_ok-place.place found.seat found.is c.unlist.ensures.seats))

pub returns-in_err-taken-clause-left : goal.returns-in_err-taken-clause-left
returns-in_err-taken-clause-left g c =
    let found = c.in_ok-place.ensures.found.1 in
    subst (λ r. VacatesIfListed c.args.state.now.seats c.unlist.new.self r) (sym c.from_residual-in_err-taken.ensures)
    (subst (λ l. KeepsCharges l c.unlist.new.self) c.find.ensures.same
    (unlisted_charges c.find.new.self c.unlist.new.self c.in_ok-place.place found.seat found.is c.unlist.ensures.seats))

pub returns-clause-left : goal.returns-clause-left
returns-clause-left g c =
    let found = c.in_ok-place.ensures.found.1 in
    let place = c.in_ok-place.place in
    let emptied = c.vacate.ensures.seats
    ∙ ap (λ p. set c.unlist.new.self p (seat 0 0 None)) c.in_ok-taken.ensures.place
    ∙ set_after c.find.new.self c.unlist.new.self place (seat 0 0 None) c.unlist.ensures.seats in
    subst (λ l. VacatesListed l c.vacate.new.self.seats) c.find.ensures.same (place, found.seat, found.is, found.listed, emptied)
