-- A list has one front.
use Rattle.std.proofs.Common.{◌≡◌, ℕ, ◌<◌, inl, inr, List, [], ◌∷◌, ◌++◌, length, refl, sym, ap, ◌∙◌, arith}
use Rattle.std.proofs.lemmas.Bool.{cases_lt}
use Rattle.concurrent_lru.specs.Cache.{Idle, IsFront}

module _ {A : Type 0} where
  abbrev pub tail_of : List A → List A
  tail_of [] = []
  tail_of (x ∷ xs) = xs

  abbrev pub head_or : A → List A → A
  head_or d [] = d
  head_or d (x ∷ xs) = x

  -- a list comes apart at a length in one way
  pub split_same : (a b c d : List A) → a ++ b ≡ c ++ d → length a ≡ length c → (a ≡ c) × (b ≡ d)
  split_same [] b [] d h n = (refl, h)
  split_same [] b (y ∷ c) d h n = absurd (omega (arith, n))
  split_same (x ∷ a) b [] d h n = absurd (omega (arith, n))
  split_same (x ∷ a) b (y ∷ c) d h n =
      let r = split_same a b c d (ap tail_of h) (omega (arith, n)) in
      (ap (λ z. z ∷ a) (ap (head_or x) h) ∙ ap (λ zs. y ∷ zs) r.0, r.1)

  pub same_length : (a b : List A) → (length a < length b → ⊥) → (length b < length a → ⊥) → length a ≡ length b
  same_length a b h k = elim (cases_lt (length a) (length b)) [
    | inl l ↦ absurd (h l)
    | inr l ↦ elim (cases_lt (length b) (length a)) [
      | inl m ↦ absurd (k m)
      | inr m ↦ omega (arith, l, m)
    ]
  ]

pub one_front : {K V : Type 0} (m capacity : ℕ) (xs f r g s : List (Idle K V)) → IsFront m capacity xs f r → IsFront m capacity xs g s → (f ≡ g) × (r ≡ s)
one_front m capacity xs f r g s a b =
    split_same f r g s (sym a.parts ∙ b.parts) (same_length f g (λ l. b.shortest f r a.parts l a.suffices) (λ l. a.shortest g s b.parts l b.suffices))
