-- The making that is removed is the one with the number.
use Rattle.std.proofs.Common.{◌≡◌, ◌∙◌, Some, sym, ap, subst}
use Rattle.std.specs.Prelude.{slice_get}
use Rattle.std.specs.List.{remove}
use Rattle.std.proofs.lemmas.Option.{get_or_from_slice_get}
use Rattle.lru_clock.specs.Makings.{AreApart, Ends, IsWithout, making}
use Rattle.lru_clock.proofs.ApartMakings.{apart_without, ends_at}
use Rattle.lru_clock.proofs.makings.Makings.end_number.Goals as goal
use Rattle.lru_clock.proofs.makings.Makings.end_number.Goals.{then-is_invalidated, else-is_invalidated}

pub invariant_of-self : goal.invariant_of-self
invariant_of-self g c =
    let E = g.K.PartialEq.eq in
    let n = c.self.inside.next_number in
    subst (AreApart E n) (sym c.remove-key.ensures.items) (apart_without E n c.in-Some.at c.self.inside.makings.items c.self.invariant)

pub returns : goal.returns
returns g c =
    let E = g.K.PartialEq.eq in
    let was = c.args.self.now in
    let items = c.self.inside.makings.items in
    let at = c.in-Some.at in
    let m = c.in-Some.ensures.0 in
    let n = c.args.number in
    let new = c.remove-key.new.self.items in
    let taken = c.remove-key.result in
    let is : slice_get items at ≡ Some m = subst (λ ms. slice_get ms at ≡ Some m) (sym c.self.view_is) c.in-Some.ensures.1 in
    let same : m ≡ taken = sym (get_or_from_slice_get items at m taken is) ∙ sym c.remove-key.ensures.value in
    let without : IsWithout was (making taken.key n taken.is_invalidated) new =
    subst (λ l. IsWithout was (making l.key n l.is_invalidated) new) same
    (ends_at E n c.self.inside.next_number at was new m c.in-Some.ensures.1 c.in-Some.ensures.2
    (subst (AreApart E c.self.inside.next_number) c.self.view_is c.self.invariant) (c.remove-key.ensures.items ∙ ap (λ ms. remove ms at) c.self.view_is)) in
    elim c.if-is_invalidated.branch [
      | then-is_invalidated w ↦ subst (λ r. Ends n was r new) (sym w.result-is) (subst (λ b. IsWithout was (making taken.key n b) new) w.if-is_invalidated.true without)
      | else-is_invalidated w ↦ subst (λ r. Ends n was r new) (sym w.result-is) (subst (λ b. IsWithout was (making taken.key n b) new) w.if-is_invalidated.false without)
    ]
