-- The word that leads to the entry is removed.
use Rattle.std.proofs.Common.{◌≡◌, ◌<◌, Some, false, length, set, sym, ap, ◌∙◌, subst, arith, refl, sum_by}
use Rattle.std.specs.Prelude.{slice_get}
use Rattle.lru_clock.specs.Index.{HasWord, TakesOut, word_of}
use Rattle.lru_clock.specs.Seats.{listed_as, IsIndex}
use Rattle.lru_clock.proofs.Words.Cells.{cell_word}
use Rattle.lru_clock.proofs.Seating.Places.{got_one, seat_read, sum_kept, unlists, unlists_nothing, unlists_nowhere}
use Rattle.lru_clock.proofs.Seating.Changes.{index_less}
use Rattle.lru_clock.proofs.Seating.Keys.{gone}
use Rattle.lru_clock.proofs.Seating.Searches.{place_fits, index_empty}
use Rattle.lru_clock.proofs.store.seats.Seats.unlist.Goals as goal
use Rattle.lru_clock.proofs.store.seats.Seats.unlist.Goals.{else-at-len-via-then-at-len+else-is_listed, else-at-len-via-else-at-len}

pub word_of-requires : goal.word_of-requires
word_of-requires g c =
    place_fits g.K.PartialEq.eq c.self.inside.seats.items c.self.inside.words c.self.invariant.1 c.args.place (omega (arith, c.if-at-len.true, c.len.ensures, c.self.inside.seats.ok.0))

pub remove-requires-clause-has : goal.remove-requires-clause-has
remove-requires-clause-has g c =
    let ix = c.self.invariant.1 in
    let items = c.self.inside.seats.items in
    let lt : c.args.place < length items = omega (arith, c.if-at-len.true, c.len.ensures, c.self.inside.seats.ok.0) in
    let first = seat_read items c.args.place c.index.result.now lt c.index.ensures in
    let second = seat_read items c.args.place c.index-then-is_listed.result.now lt c.index-then-is_listed.ensures in
    let listed = ap (λ s. s.is_listed) (got_one items c.args.place c.index-then-is_listed.result.now c.index.result.now second first) ∙ sym c.is_listed.ensures ∙ c.if-is_listed.true in
    subst (HasWord c.self.inside.words) (sym (c.word_of.ensures ∙ ap (λ t. word_of t c.args.place) c.tag.ensures))
    (cell_word c.self.inside.words (word_of c.index-then-is_listed.result.now.tag c.args.place) (ix.leads c.args.place c.index-then-is_listed.result.now second listed))

pub remove-requires-clause-ends : goal.remove-requires-clause-ends
remove-requires-clause-ends g c = index_empty g.K.PartialEq.eq c.self.inside.seats.items c.self.inside.words c.self.invariant.1

pub invariant_of-self : goal.invariant_of-self
invariant_of-self g c =
    let ix = c.self.invariant.1 in
    let items = c.self.inside.seats.items in
    let m = c.index_mut.result.now in
    let lt : c.args.place < length items = omega (arith, c.if-at-len.true, c.len.ensures, c.self.inside.seats.ok.0) in
    let first = seat_read items c.args.place c.index.result.now lt c.index.ensures in
    let second = seat_read items c.args.place c.index-then-is_listed.result.now lt c.index-then-is_listed.ensures in
    let third = seat_read items c.args.place m lt c.index_mut.ensures.value in
    let listed = ap (λ s. s.is_listed) (got_one items c.args.place m c.index.result.now third first) ∙ sym c.is_listed.ensures ∙ c.if-is_listed.true in
    let word = c.word_of.ensures ∙ ap (λ t. word_of t c.args.place) c.tag.ensures ∙ ap (λ s. word_of s.tag c.args.place) (got_one items c.args.place c.index-then-is_listed.result.now m second third) in
    subst (λ s. (c.self.inside.total ≡ sum_by (λ u. u.charge) (set items c.args.place s)) × IsIndex g.K.PartialEq.eq (set items c.args.place s) c.remove.new.self) (sym c.unlist.ensures) (
      c.self.invariant.0 ∙ sym (sum_kept items c.args.place m (listed_as false m) third refl),
      index_less g.K.PartialEq.eq items c.self.inside.words ix c.args.place m third listed c.remove.new.self (subst (TakesOut c.self.inside.words c.remove.new.self) word c.remove.ensures),
    )

pub returns-then-is_listed-clause-seats : goal.returns-then-is_listed-clause-seats
returns-then-is_listed-clause-seats g c =
    let items = c.self.inside.seats.items in
    let m = c.index_mut.result.now in
    let lt : c.args.place < length items = omega (arith, c.if-at-len.true, c.len.ensures, c.self.inside.seats.ok.0) in
    let third = seat_read items c.args.place m lt c.index_mut.ensures.value in
    unlists c.args.self.now _ c.args.place m (subst (λ l. slice_get l c.args.place ≡ Some m) c.self.view_is third) (ap (set items c.args.place) c.unlist.ensures ∙ ap (λ l. set l c.args.place (listed_as false m)) c.self.view_is)

pub returns-else-at-len-clause-seats : goal.returns-else-at-len-clause-seats
returns-else-at-len-clause-seats g c =
    let items = c.self.inside.seats.items in
    let same = c.self.view_is in
    elim c.else-at-len.branch [
      | else-at-len-via-then-at-len+else-is_listed w ↦
          let lt : c.args.place < length items = omega (arith, w.if-at-len.true, c.len.ensures, c.self.inside.seats.ok.0) in
          let first = seat_read items c.args.place w.index.result.now lt w.index.ensures in
          unlists_nothing c.args.self.now c.args.place w.index.result.now (subst (λ l. slice_get l c.args.place ≡ Some w.index.result.now) same first) (sym w.is_listed.ensures ∙ w.if-is_listed.false)
      | else-at-len-via-else-at-len w ↦
          unlists_nowhere c.args.self.now c.args.place (omega (arith, w.if-at-len.false, c.len.ensures, c.self.inside.seats.ok.0, ap length same))
    ]

pub returns-then-is_listed-clause-gone : goal.returns-then-is_listed-clause-gone
returns-then-is_listed-clause-gone g c t k h =
    gone g.K.PartialEq.eq c.args.self.now c.self.inside.words (subst (λ l. IsIndex g.K.PartialEq.eq l c.self.inside.words) c.self.view_is c.self.invariant.1) g.met.K.Eq.laws
    c.args.place t k h _ (returns-then-is_listed-clause-seats g c)

pub returns-else-at-len-clause-gone : goal.returns-else-at-len-clause-gone
returns-else-at-len-clause-gone g c t k h =
    gone g.K.PartialEq.eq c.args.self.now c.self.inside.words (subst (λ l. IsIndex g.K.PartialEq.eq l c.self.inside.words) c.self.view_is c.self.invariant.1) g.met.K.Eq.laws
    c.args.place t k h c.args.self.now (returns-else-at-len-clause-seats g c)
