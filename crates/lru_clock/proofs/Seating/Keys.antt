-- The one entry of a key.
use Rattle.std.proofs.Common.{◌≡◌, ◌≢◌, ℕ, zero, suc, Bool, true, false, List, [], ◌∷◌, Some, MatchOption, set, refl, ap, ◌∙◌, subst, arith, inl, inr}
use Rattle.std.specs.Prelude.{slice_get}
use Rattle.std.specs.Cmp.{IsEquivalence}
use Rattle.std.proofs.lemmas.Bool.{cases_eq}
use Rattle.std.proofs.lemmas.Option.{slice_get_within}
use Rattle.lru_clock.specs.Seats.{Seat, IsListed, HasKeyAt, LacksKey, IsIndex, listed_as}
use Rattle.lru_clock.specs.SeatChanges.{UnlistsAt}
use Rattle.lru_clock.proofs.Seating.Places.{got_same, got_one, listed_other}

not_true : (b : Bool) → (b ≡ true → ⊥) → b ≡ false
not_true true isnt = absurd (isnt refl)
not_true false isnt = refl

not_both : (b : Bool) → b ≡ true → b ≡ false → ⊥
not_both b is isnt = cc (is, isnt)

module _ {K : Type 0} (E : K → K → Bool) where
  -- an entry that the index does not have has no key there
  pub lacks_set : (seats : List (Seat K)) (p t : ℕ) (k : K) (u : Seat K) → u.is_listed ≡ false → LacksKey E seats t k → LacksKey E (set seats p u) t k
  lacks_set seats p t k u blank lacks q l h = elim (cases_eq q p) [
    | inl e ↦
        let at : slice_get (set seats p u) p ≡ Some h.seat = subst (λ j. slice_get (set seats p u) j ≡ Some h.seat) e h.is in
        absurd (not_both h.seat.is_listed h.listed (ap (λ (v : Seat K). v.is_listed) (at_place seats p u h.seat at) ∙ blank))
    | inr ne ↦ lacks q l (listed_other seats p q t u l ne h)
  ]
    where
      at_place : (seats : List (Seat K)) (p : ℕ) (u v : Seat K) → slice_get (set seats p u) p ≡ Some v → v ≡ u
      at_place [] p u v e = absurd (omega (arith, slice_get_within [] p v e))
      at_place (x ∷ seats) zero u v e = cc e
      at_place (x ∷ seats) (suc p) u v e = at_place seats p u v e

  module _ (seats : List (Seat K)) (words : List ℕ) (ix : IsIndex E seats words) (eqv : IsEquivalence E) where
    -- two keys that equal a third are equal
    alike : (l m k : K) → E l k ≡ true → E m k ≡ true → E m l ≡ true
    alike l m k a b = eqv.symm m l ∙ eqv.congr l k m a ∙ eqv.symm k m ∙ b

    pub only_one : (t : ℕ) (k : K) (p q : ℕ) → HasKeyAt E seats t k p → HasKeyAt E seats t k q → p ≡ q
    only_one t k p q a b = ix.one_each p q t a.0 b.0 a.1 b.1 (alike b.0 a.0 k b.2 a.2)

    -- without its one entry a key has none
    pub gone : (p t : ℕ) (k : K) → HasKeyAt E seats t k p → (news : List (Seat K)) → UnlistsAt seats p news → LacksKey E news t k
    gone p t k has news change q m h =
        let is : news ≡ set seats p (listed_as false has.1.seat) = subst (λ o. MatchOption o (news ≡ seats) (λ s. news ≡ set seats p (listed_as false s))) has.1.is change in
        let at : IsListed (set seats p (listed_as false has.1.seat)) q t m = subst (λ l. IsListed l q t m) is h in
        let lt = slice_get_within seats p has.1.seat has.1.is in
        let apart : q ≢ p = λ e. not_both at.seat.is_listed at.listed
        (ap (λ (v : Seat K). v.is_listed) (got_one (set seats p (listed_as false has.1.seat)) p at.seat (listed_as false has.1.seat) (subst (λ j. slice_get (set seats p (listed_as false has.1.seat)) j ≡ Some at.seat) e at.is) (got_same seats p (listed_as false has.1.seat) lt))) in
        not_true (E m k) (λ same. apart (only_one t k q p (m, listed_other seats p q t (listed_as false has.1.seat) m apart at, same) has))
