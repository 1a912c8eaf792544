-- The making that is invalidated is the one of the key.
use Rattle.std.proofs.Common.{◌≡◌, ◌∙◌, Some, sym, ap, subst, set, false}
use Rattle.std.specs.Prelude.{slice_get}
use Rattle.std.specs.List.{list_any}
use Rattle.std.proofs.lemmas.Option.{get_or_from_slice_get}
use Rattle.lru_clock.specs.Makings.{AreApart, invalidated, is_of}
use Rattle.lru_clock.proofs.ApartMakings.{apart_marked, key_gone, marks_at}
use Rattle.lru_clock.proofs.makings.Makings.invalidate.Goals as goal

pub invariant_of-self : goal.invariant_of-self
invariant_of-self g c =
    let E = g.K.PartialEq.eq in
    let n = c.self.inside.next_number in
    let items = c.self.inside.makings.items in
    let at = c.in-Some.at in
    let m = c.in-Some.ensures.0 in
    let is : slice_get items at ≡ Some m = subst (λ ms. slice_get ms at ≡ Some m) (sym c.self.view_is) c.in-Some.ensures.1 in
    let same : m ≡ c.index_mut.result.now = sym (get_or_from_slice_get items at m c.index_mut.result.now is) ∙ sym c.index_mut.ensures.value in
    subst (λ l. AreApart E n (set items at (invalidated l))) same (apart_marked E n at items m is c.self.invariant)

pub returns-in-Some-clause-marks : goal.returns-in-Some-clause-marks
returns-in-Some-clause-marks g c =
    let E = g.K.PartialEq.eq in
    let items = c.self.inside.makings.items in
    let at = c.in-Some.at in
    let m = c.in-Some.ensures.0 in
    let was = c.args.self.now in
    let is : slice_get items at ≡ Some m = subst (λ ms. slice_get ms at ≡ Some m) (sym c.self.view_is) c.in-Some.ensures.1 in
    let same : c.index_mut.result.now ≡ m = c.index_mut.ensures.value ∙ get_or_from_slice_get items at m c.index_mut.result.now is in
    marks_at E c.args.key.now was _ at m c.in-Some.ensures.1 c.in-Some.ensures.2
    (ap (λ l. set items at (invalidated l)) same ∙ ap (λ ms. set ms at (invalidated m)) c.self.view_is)

pub returns-in-Some-clause-gone : goal.returns-in-Some-clause-gone
returns-in-Some-clause-gone g c =
    let E = g.K.PartialEq.eq in
    let items = c.self.inside.makings.items in
    let at = c.in-Some.at in
    let m = c.in-Some.ensures.0 in
    let is : slice_get items at ≡ Some m = subst (λ ms. slice_get ms at ≡ Some m) (sym c.self.view_is) c.in-Some.ensures.1 in
    let same : m ≡ c.index_mut.result.now = sym (get_or_from_slice_get items at m c.index_mut.result.now is) ∙ sym c.index_mut.ensures.value in
    subst (λ l. list_any (is_of E c.args.key.now) (set items at (invalidated l)) ≡ false) same
    (key_gone E g.met.K.Eq.laws c.args.key.now m c.in-Some.ensures.2 c.self.inside.next_number at items is c.self.invariant)
