-- One seat more, which the index does not have.
use Rattle.std.proofs.Common.{◌≡◌, ◌+◌, ◌<◌, ◌++◌, ◌∷◌, [], None, IfSome, IfNone, length, refl, sym, ap, ◌∙◌, subst, arith, sum_by}
use Rattle.std.proofs.lemmas.List.Sums.{sum_by_push}
use Rattle.lru_clock.specs.Seats.{seat, IsIndex}
use Rattle.lru_clock.proofs.Seating.Copies.{index_longer}
use Rattle.lru_clock.proofs.store.seats.Seats.add.Goals as goal

pub invariant_of-self-in-Some : goal.invariant_of-self-in-Some
invariant_of-self-in-Some g c =
    let E = g.K.PartialEq.eq in
    let items = c.self.inside.seats.items in
    let words = c.in-Some.words in
    let wider = subst (λ w. IfSome w (λ ws. IsIndex E items ws × (length items + 1 < length ws))) c.in-Some.is c.in_ok-wider.ensures.wider in
    subst (λ l. (c.self.inside.total ≡ sum_by (λ s. s.charge) l) × IsIndex E l words) (sym (c.in_ok-push.ensures.items ∙ ap (λ t. items ++ t ∷ []) c.vacant.ensures)) (
      omega (arith, c.self.invariant.0, sum_by_push (λ s. s.charge) items (seat 0 0 None)),
      index_longer E items words (seat 0 0 None) wider.0 refl (omega arith) wider.1,
    )

pub invariant_of-self-in-None : goal.invariant_of-self-in-None
invariant_of-self-in-None g c =
    let E = g.K.PartialEq.eq in
    let items = c.self.inside.seats.items in
    let words = c.self.inside.words in
    let room = subst (λ w. IfNone w (length items + 1 < c.count.result)) c.in-None.is c.in_ok-wider.ensures.room in
    subst (λ l. (c.self.inside.total ≡ sum_by (λ s. s.charge) l) × IsIndex E l words) (sym (c.in_ok-push.ensures.items ∙ ap (λ t. items ++ t ∷ []) c.vacant.ensures)) (
      omega (arith, c.self.invariant.0, sum_by_push (λ s. s.charge) items (seat 0 0 None)),
      index_longer E items words (seat 0 0 None) c.self.invariant.1 refl (omega arith) (omega (arith, room, c.count.ensures.count)),
    )

pub returns-in-Some-clause-seats : goal.returns-in-Some-clause-seats
returns-in-Some-clause-seats g c = (1, c.in_ok-push.ensures.items ∙ ap (λ t. c.self.inside.seats.items ++ t ∷ []) c.vacant.ensures ∙ ap (λ l. l ++ seat 0 0 None ∷ []) c.self.view_is)

pub returns-in-None-clause-seats : goal.returns-in-None-clause-seats
returns-in-None-clause-seats g c = (1, c.in_ok-push.ensures.items ∙ ap (λ t. c.self.inside.seats.items ++ t ∷ []) c.vacant.ensures ∙ ap (λ l. l ++ seat 0 0 None ∷ []) c.self.view_is)
