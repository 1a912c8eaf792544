-- The new making has a number of its own, and its key had no making.
use Rattle.std.proofs.Common.{◌≡◌, ◌≤◌, ℕ, ◌+◌, ◌++◌, ◌∷◌, [], false, sym, subst, ap, ◌∙◌, arith}
use Rattle.std.specs.List.{list_any}
use Rattle.lru_clock.specs.Makings.{AreApart, has_number, is_of, making}
use Rattle.lru_clock.proofs.ApartMakings.{apart_below, apart_with, fresh}
use Rattle.lru_clock.proofs.makings.Makings.begin.Goals as goal

pub invariant_of-self-2 : goal.invariant_of-self-2
invariant_of-self-2 g c =
    let E = g.K.PartialEq.eq in
    let items = c.self.inside.makings.items in
    let n = c.args.number in
    let above : c.self.inside.next_number ≤ n = omega (arith, c.if-number-self.false) in
    let absent : list_any (is_of E c.args.key) items ≡ false = subst (λ ms. list_any (is_of E c.args.key) ms ≡ false) (sym c.self.view_is) c.requires.absent in
    subst (λ next. AreApart E next c.push-made.new.self.items) (sym {A = ℕ} c.in-Some.ensures.1)
    (subst (AreApart E (n + 1)) (sym c.in_default-made.ensures.items) (apart_with E n items c.args.key absent (apart_below E c.self.inside.next_number n items above c.self.invariant)))

pub returns-clause-made : goal.returns-clause-made
returns-clause-made g c =
    let E = g.K.PartialEq.eq in
    let n = c.args.number in
    let above : c.self.inside.next_number ≤ n = omega (arith, c.if-number-self.false) in (
      c.in_default-made.ensures.items ∙ ap (λ ms. ms ++ making c.args.key n false ∷ []) c.self.view_is,
      subst (λ ms. has_number n ms ≡ false) c.self.view_is (fresh E n c.self.inside.makings.items (apart_below E c.self.inside.next_number n c.self.inside.makings.items above c.self.invariant)),
    )
