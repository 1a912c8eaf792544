-- A word that leads to the entry is put in.
use Rattle.std.proofs.Common.{◌≡◌, ◌<◌, Some, true, length, set, sym, ap, ◌∙◌, subst, arith, refl, sum_by}
use Rattle.std.specs.Prelude.{slice_get}
use Rattle.concurrent_lru.specs.Probing.Probes.{Ends}
use Rattle.lru_clock.specs.Index.{LacksWord, AreOnce, PutsIn, word_of}
use Rattle.lru_clock.specs.Seats.{LacksKey, IsIndex, listed_as}
use Rattle.lru_clock.proofs.Seating.Places.{got_one, seat_read, sum_kept}
use Rattle.lru_clock.proofs.Seating.Changes.{index_more, lacks_word}
use Rattle.lru_clock.proofs.Seating.Searches.{place_fits}
use Rattle.lru_clock.proofs.store.seats.Seats.list.Goals as goal

pub word_of-requires : goal.word_of-requires
word_of-requires g c =
    place_fits g.K.PartialEq.eq c.self.inside.seats.items c.self.inside.words c.self.invariant.1 c.args.place (omega (arith, c.if-at-len.false, c.len.ensures, c.self.inside.seats.ok.0))

pub put-requires-clause-ends : goal.put-requires-clause-ends
put-requires-clause-ends g c =
    subst (λ ws. Ends ws c.word_of.result c.in-Empty.to) (sym c.find_key.ensures.same)
    (subst (λ w. Ends c.self.inside.words w c.in-Empty.to) (sym c.word_of.ensures) (c.in-Empty.ensures.found.1 c.args.place))

pub put-requires-clause-apart : goal.put-requires-clause-apart
put-requires-clause-apart g c = subst AreOnce (sym c.find_key.ensures.same) c.self.invariant.1.apart

pub put-requires-clause-absent : goal.put-requires-clause-absent
put-requires-clause-absent g c =
    let items = c.self.inside.seats.items in
    let lt : c.args.place < length items = omega (arith, c.if-at-len.false, c.len.ensures, c.self.inside.seats.ok.0) in
    let first = seat_read items c.args.place c.index.result.now lt c.index.ensures in
    let second = seat_read items c.args.place c.index-2.result.now lt c.index-2.ensures in
    let unlisted = ap (λ s. s.is_listed) (got_one items c.args.place c.index-2.result.now c.index.result.now second first) ∙ sym c.is_listed.ensures ∙ c.if-is_listed.false in
    subst (λ ws. LacksWord ws c.word_of.result) (sym c.find_key.ensures.same)
    (subst (LacksWord c.self.inside.words) (sym (c.word_of.ensures ∙ ap (λ t. word_of t c.args.place) c.tag-tag.ensures))
    (lacks_word g.K.PartialEq.eq items c.self.inside.words c.self.invariant.1 c.args.place c.index-2.result.now second unlisted))

pub invariant_of-self-in-Empty : goal.invariant_of-self-in-Empty
invariant_of-self-in-Empty g c =
    let E = g.K.PartialEq.eq in
    let ix = c.self.invariant.1 in
    let items = c.self.inside.seats.items in
    let m = c.index_mut.result.now in
    let lt : c.args.place < length items = omega (arith, c.if-at-len.false, c.len.ensures, c.self.inside.seats.ok.0) in
    let first = seat_read items c.args.place c.index.result.now lt c.index.ensures in
    let second = seat_read items c.args.place c.index-2.result.now lt c.index-2.ensures in
    let third = seat_read items c.args.place c.index-3.result.now lt c.index-3.ensures in
    let last = seat_read items c.args.place m lt c.index_mut.ensures.value in
    let unlisted = ap (λ s. s.is_listed) (got_one items c.args.place m c.index.result.now last first) ∙ sym c.is_listed.ensures ∙ c.if-is_listed.false in
    let has = ap (λ s. s.key) (got_one items c.args.place m c.index-3.result.now last third) ∙ c.in-Some.ensures in
    let tag : c.tag-tag.result ≡ m.tag = c.tag-tag.ensures ∙ ap (λ s. s.tag) (got_one items c.args.place c.index-2.result.now m second last) in
    let lacks = subst (λ t. LacksKey E items t c.in-Some.key.now) tag (subst (λ l. LacksKey E l c.tag-tag.result c.in-Some.key.now) c.deref.ensures.value c.in-Empty.ensures.found.0) in
    let puts = subst (λ ws. PutsIn ws c.put.new.self (word_of m.tag c.args.place)) c.find_key.ensures.same
    (subst (PutsIn c.find_key.new.words c.put.new.self) (c.word_of.ensures ∙ ap (λ t. word_of t c.args.place) tag) c.put.ensures) in
    subst (λ s. (c.self.inside.total ≡ sum_by (λ u. u.charge) (set items c.args.place s)) × IsIndex E (set items c.args.place s) c.put.new.self) (sym c.list.ensures) (
      c.self.invariant.0 ∙ sym (sum_kept items c.args.place m (listed_as true m) last refl),
      index_more E items c.self.inside.words ix c.args.place m last g.met.K.Eq.laws c.in-Some.key.now unlisted has lacks c.put.new.self puts,
    )

pub returns-in-Empty : goal.returns-in-Empty
returns-in-Empty g c =
    let items = c.self.inside.seats.items in
    let m = c.index_mut.result.now in
    let lt : c.args.place < length items = omega (arith, c.if-at-len.false, c.len.ensures, c.self.inside.seats.ok.0) in
    let first = seat_read items c.args.place c.index.result.now lt c.index.ensures in
    let last = seat_read items c.args.place m lt c.index_mut.ensures.value in
    let unlisted = ap (λ s. s.is_listed) (got_one items c.args.place m c.index.result.now last first) ∙ sym c.is_listed.ensures ∙ c.if-is_listed.false in (
      m,
      subst (λ l. slice_get l c.args.place ≡ Some m) c.self.view_is last,
      unlisted,
      ap (set items c.args.place) c.list.ensures ∙ ap (λ l. set l c.args.place (listed_as true m)) c.self.view_is,
    )
