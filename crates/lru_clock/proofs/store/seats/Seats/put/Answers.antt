use Rattle.std.proofs.Common.{◌≡◌, ◌+◌, ◌-◌, ◌<◌, ◌≤◌, ℕ, List, Some, length, get_or, set, sym, ap, ◌∙◌, subst, arith, sum_by}
use Rattle.std.specs.Prelude.{slice_get}
use Rattle.std.proofs.lemmas.List.Sums.{sum_by-set, get_or-le-sum_by}
use Rattle.std.proofs.lemmas.Option.{slice_get_within, get_or_from_slice_get}
use Rattle.lru_clock.specs.SeatChanges.{IsFree}
use Rattle.lru_clock.specs.Seats.{Seat}
use Rattle.lru_clock.proofs.Seating.Places.{got_one, seat_read}
use Rattle.lru_clock.proofs.Seating.Changes.{index_kept}
use Rattle.lru_clock.proofs.store.seats.Seats.put.Goals as goal

module _ {K : Type 0} (olds items : List (Seat K)) (same : items ≡ olds) (p charge : ℕ) (free : IsFree olds p charge) (read : Seat K) (is : read ≡ get_or items p read) where
  here : slice_get items p ≡ Some free.seat
  here = subst (λ l. slice_get l p ≡ Some free.seat) (sym same) free.is

  lt : p < length items
  lt = slice_get_within items p free.seat here

  read_is : read ≡ free.seat
  read_is = got_one items p read free.seat (seat_read items p read lt is) here

  seat_is : get_or items p free.seat ≡ free.seat
  seat_is = get_or_from_slice_get items p free.seat free.seat here

  less : read.charge ≤ sum_by (λ (s : Seat K). s.charge) items
  less =
      let part = get_or-le-sum_by (λ (s : Seat K). s.charge) items p free.seat lt in
      let a : read.charge ≡ free.seat.charge = ap (λ (s : Seat K). s.charge) read_is in
      let b : (get_or items p free.seat).charge ≡ free.seat.charge = ap (λ (s : Seat K). s.charge) seat_is in
      omega (arith, part, a, b)

  fits : sum_by (λ (s : Seat K). s.charge) items - read.charge + charge < 18446744073709551616
  fits =
      let a : read.charge ≡ free.seat.charge = ap (λ (s : Seat K). s.charge) read_is in
      let b : sum_by (λ (s : Seat K). s.charge) items ≡ sum_by (λ (s : Seat K). s.charge) olds = ap (sum_by (λ (s : Seat K). s.charge)) same in
      omega (arith, a, b, free.fits)

  after : (t : Seat K) → t.charge ≡ charge → sum_by (λ (s : Seat K). s.charge) items - read.charge + charge ≡ sum_by (λ (s : Seat K). s.charge) (set items p t)
  after t charge_is =
      let change = sum_by-set (λ (s : Seat K). s.charge) items p t free.seat lt in
      let a : read.charge ≡ free.seat.charge = ap (λ (s : Seat K). s.charge) read_is in
      let b : (get_or items p free.seat).charge ≡ free.seat.charge = ap (λ (s : Seat K). s.charge) seat_is in
      let part = less in
      omega (arith, change, a, b, charge_is, part)

pub overflow_sub-self : goal.overflow_sub-self
overflow_sub-self g c =
    let l = less c.args.self.now c.self.inside.seats.items c.self.view_is c.args.place c.args.seat.charge c.requires.free c.index.result.now c.index.ensures in
    omega (arith, l, c.self.invariant.0)

pub overflow_add-self : goal.overflow_add-self
overflow_add-self g c =
    let f = fits c.args.self.now c.self.inside.seats.items c.self.view_is c.args.place c.args.seat.charge c.requires.free c.index.result.now c.index.ensures in
    omega (arith, f, c.self.invariant.0)

pub index_mut-requires : goal.index_mut-requires
index_mut-requires g c =
    let l = lt c.args.self.now c.self.inside.seats.items c.self.view_is c.args.place c.args.seat.charge c.requires.free c.index.result.now c.index.ensures in
    omega (arith, l, c.self.inside.seats.ok.0)

pub invariant_of-self : goal.invariant_of-self
invariant_of-self g c =
    let items = c.self.inside.seats.items in
    let E = g.K.PartialEq.eq in
    let sum = after c.args.self.now items c.self.view_is c.args.place c.args.seat.charge c.requires.free c.index.result.now c.index.ensures c.replace.new.dest (ap (λ s. s.charge) c.replace.ensures.after) in
    let kept = index_kept E items c.self.inside.words c.self.invariant.1 c.args.place c.requires.free.seat
    (here c.args.self.now items c.self.view_is c.args.place c.args.seat.charge c.requires.free c.index.result.now c.index.ensures)
    c.replace.new.dest c.requires.free.unlisted (ap (λ s. s.is_listed) c.replace.ensures.after ∙ c.requires.unlisted)
    (subst (λ s. s.tag < 4294967296) (sym c.replace.ensures.after) c.requires.tag) in
    ((λ i. c.self.inside.total - c.charge.ensures i + c.charge-2.ensures i) ∙ ap (λ n. n - c.index.result.now.charge + c.args.seat.charge) c.self.invariant.0 ∙ sum, kept)
