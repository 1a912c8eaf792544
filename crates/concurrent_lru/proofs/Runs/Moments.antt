-- The moments of a run, and what one step more adds to them.
use Rattle.std.proofs.Common.{◌≡◌, ℕ, ◌≤◌, ◌⊎◌, inl, inr, Bool, true, false, List, [], ◌∷◌, ◌++◌, refl, sym, ap, ◌∙◌, subst, ◌||◌}
use Rattle.std.specs.List.{list_any}
use Rattle.std.proofs.lemmas.Bool.{true≢false}
use Rattle.std.proofs.lemmas.List.{append-nil, append_assoc}
use Rattle.std.proofs.lemmas.List.Folds.{list_any-append}
use Rattle.concurrent_lru.specs.Request as ask
use Rattle.concurrent_lru.specs.Request.{Request}
use Rattle.concurrent_lru.specs.Reply as say
use Rattle.concurrent_lru.specs.Runs.{Outcome, accepted}
use Rattle.concurrent_lru.specs.Uses.{uses}
use Rattle.concurrent_lru.specs.Removals.{remaining_uses}
use Rattle.concurrent_lru.specs.Weights.{capacity_after, weight, AlwaysFitted}
use Rattle.concurrent_lru.proofs.Steps.OneFront.{tail_of, head_or}

module _ {X : Type 0} where
  -- a list with one more at its end comes apart before that, or at the very end
  pub split_push : (xs : List X) (x : X) (a b : List X) → xs ++ x ∷ [] ≡ a ++ b → ((a ≡ xs ++ x ∷ []) × (b ≡ [])) ⊎ ((c : List X) × (xs ≡ a ++ c) × (b ≡ c ++ x ∷ []))
  split_push xs x [] b h = inr (xs, refl, sym h)
  split_push [] x (y ∷ a) b h =
      let e = ends a b (ap tail_of h) in
      inl (ap (λ z. z ∷ a) (sym (ap (head_or x) h)) ∙ ap (λ zs. x ∷ zs) e.0, e.1)
    where
      ends : (a b : List X) → [] ≡ a ++ b → (a ≡ []) × (b ≡ [])
      ends [] b h = (refl, sym h)
      ends (z ∷ a) b h = absurd (cc)
  split_push (z ∷ xs) x (y ∷ a) b h =
      let head : z ≡ y = ap (head_or z) h in
      elim (split_push xs x a b (ap tail_of h)) [
        | inl l ↦ inl (ap (λ w. w ∷ a) (sym head) ∙ ap (λ zs. z ∷ zs) l.0, l.1)
        | inr r ↦ inr (r.0, ap (λ w. w ∷ xs) head ∙ ap (λ zs. y ∷ zs) r.1, r.2)
      ]

  pub any_none : (q : X → Bool) (a b : List X) → list_any q a ≡ false → list_any q b ≡ false → list_any q (a ++ b) ≡ false
  any_none q a b h k = list_any-append q a b ∙ ap (λ t. t || list_any q b) h ∙ k

  pub none_parts : (q : X → Bool) (a b : List X) → list_any q (a ++ b) ≡ false → (list_any q a ≡ false) × (list_any q b ≡ false)
  none_parts q a b h = elim (list_any q a) as (λ t. list_any q a ≡ t → (t || list_any q b) ≡ false → (list_any q a ≡ false) × (list_any q b ≡ false)) [
    | true ↦ λ t k. absurd (true≢false k)
    | false ↦ λ t k. (t, k)
  ] refl (sym (list_any-append q a b) ∙ h)

module _ {K V : Type 0} where
  pub uses-append : (a b : List (Request K V × Outcome K V)) → uses (a ++ b) ≡ uses a ++ uses b
  uses-append [] b = refl
  uses-append ((ask.begin k c, o) ∷ a) b = ap (λ ks. k ∷ ks) (uses-append a b)
  uses-append ((ask.get k, accepted (say.hit s v) out) ∷ a) b = ap (λ ks. k ∷ ks) (uses-append a b)
  uses-append ((ask.read k, accepted (say.read s v) out) ∷ a) b = ap (λ ks. k ∷ ks) (uses-append a b)
  uses-append (_ ∷ a) b = uses-append a b

  pub capacity-append : (c : ℕ) (a b : List (Request K V × Outcome K V)) → capacity_after c (a ++ b) ≡ capacity_after (capacity_after c a) b
  capacity-append c [] b = refl
  capacity-append c ((ask.set_capacity d, o) ∷ a) b = capacity-append d a b
  capacity-append c (_ ∷ a) b = capacity-append c a b

module _ {K V : Type 0} (E : K → K → Bool) (price : K → ℕ) (first : ℕ) where
  -- the moment after these steps
  abbrev pub FitsNow : List (Request K V × Outcome K V) → K → Type 0
  FitsNow es q = weight E price (remaining_uses E es) q ≤ capacity_after first es

  pub fitted_now : (es : List (Request K V × Outcome K V)) (q : K) → AlwaysFitted E price first es q → FitsNow es q
  fitted_now es q h = h es [] (sym (append-nil es)) refl

  -- One step more adds one moment. Where the step uses the key, the moments before it count no
  -- more.
  pub fitted_before : (es : List (Request K V × Outcome K V)) (e : Request K V × Outcome K V) (q : K) → AlwaysFitted E price first (es ++ e ∷ []) q → list_any (E q) (uses (e ∷ [])) ≡ false → AlwaysFitted E price first es q
  fitted_before es e q h n a b p m =
      h a (b ++ e ∷ []) (ap (λ zs. zs ++ e ∷ []) p ∙ append_assoc a b (e ∷ [])) (ap (list_any (E q)) (uses-append b (e ∷ [])) ∙ any_none (E q) (uses b) (uses (e ∷ [])) m n)

  pub fitted_push : (es : List (Request K V × Outcome K V)) (e : Request K V × Outcome K V) (q : K) → FitsNow (es ++ e ∷ []) q → (list_any (E q) (uses (e ∷ [])) ≡ false → AlwaysFitted E price first es q) → AlwaysFitted E price first (es ++ e ∷ []) q
  fitted_push es e q now before a b p m = elim (split_push es e a b p) [
    | inl l ↦ subst (λ zs. FitsNow zs q) (sym l.0) now
    | inr r ↦
        let parts = none_parts (E q) (uses r.0) (uses (e ∷ [])) (sym (ap (list_any (E q)) (ap uses r.2 ∙ uses-append r.0 (e ∷ []))) ∙ m) in
        before parts.1 a r.0 r.1 parts.0
  ]
