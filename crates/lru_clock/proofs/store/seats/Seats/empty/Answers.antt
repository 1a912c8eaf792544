-- The entry counts no more.
use Rattle.std.proofs.Common.{◌≡◌, ◌<◌, None, length, set, sym, ap, ◌∙◌, subst, arith}
use Rattle.lru_clock.specs.Seats.{seat}
use Rattle.lru_clock.specs.SeatChanges.{UnlistsAt}
use Rattle.lru_clock.proofs.Seating.Places.{seat_read, sum_set, part_of_sum, unlisted, set_after}
use Rattle.lru_clock.proofs.Seating.Changes.{index_kept}
use Rattle.lru_clock.proofs.store.seats.Seats.empty.Goals as goal

pub invariant_of-self : goal.invariant_of-self
invariant_of-self g c =
    let items = c.self.inside.seats.items in
    let s = c.index.result.now in
    let t = c.replace-seat.new.dest in
    let lt : c.args.place < length items = omega (arith, c.if-at-len.false, c.len.ensures, c.self.inside.seats.ok.0) in
    let is = seat_read items c.args.place s lt c.index.ensures in
    let t_is = c.replace-seat.ensures.after ∙ c.vacant.ensures in
    let done : UnlistsAt c.args.self.now c.args.place items = subst (UnlistsAt c.args.self.now c.args.place) (sym c.self.view_is) c.unlist.ensures.seats in
    let blank : t.charge ≡ 0 = ap (λ u. u.charge) t_is in
    let change = sum_set items c.args.place s t is in
    let part = part_of_sum items c.args.place s is in (
      omega (arith, change, part, blank, c.charge.ensures, c.self.invariant.0),
      index_kept g.K.PartialEq.eq items c.self.inside.words c.self.invariant.1 c.args.place s is t (unlisted c.args.self.now items c.args.place s is done) (ap (λ u. u.is_listed) t_is)
          (subst (λ u. u.tag < 4294967296) (sym t_is) (omega arith)),
    )

pub returns : goal.returns
returns g c =
    let items = c.self.inside.seats.items in
    let done : UnlistsAt c.args.self.now c.args.place items = subst (UnlistsAt c.args.self.now c.args.place) (sym c.self.view_is) c.unlist.ensures.seats in
    ap (set items c.args.place) (c.replace-seat.ensures.after ∙ c.vacant.ensures) ∙ set_after c.args.self.now items c.args.place (seat 0 0 None) done
