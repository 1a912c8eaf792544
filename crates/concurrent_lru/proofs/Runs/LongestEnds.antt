-- The longest end that fits, by recursion from the front: ends of idle lists after settling, and of
-- lists of keys.
use Rattle.std.proofs.Common.{◌≡◌, ℕ, ◌+◌, ◌<◌, ◌≤◌, ◌⊎◌, inl, inr, Bool, true, false, cond, not, List, [], ◌∷◌, ◌++◌, length, refl, sym, ap, ◌∙◌, subst, arith, ◌||◌}
use Rattle.std.specs.List.{sum_by, filter, list_any}
use Rattle.std.specs.Cmp.{IsEquivalence}
use Rattle.std.proofs.lemmas.Bool.{cases_lt, true≢false}
use Rattle.std.proofs.lemmas.List.Sums.{sum_by-append, sum_by-cons}
use Rattle.concurrent_lru.specs.Cache.{Idle, IsFront, charges, Suffices}
use Rattle.concurrent_lru.specs.Uses.{IsTail, last_uses}
use Rattle.concurrent_lru.proofs.Steps.OneFront.{tail_of, head_or}

module _ {X : Type 0} (f : X → ℕ) where
  -- the longest end that fits beside h
  abbrev pub Fitting : ℕ → ℕ → List X → List X → Type 0
  Fitting h c [] t = t ≡ []
  Fitting h c (x ∷ xs) t = ((sum_by f (x ∷ xs) + h ≤ c) × (t ≡ x ∷ xs)) ⊎ ((c < sum_by f (x ∷ xs) + h) × Fitting h c xs t)

  pub fitting : (h c : ℕ) (xs : List X) → (t : List X) × Fitting h c xs t
  fitting h c [] = ([], refl)
  fitting h c (x ∷ xs) = elim (cases_lt c (sum_by f (x ∷ xs) + h)) [
    | inl l ↦ let r = fitting h c xs in (r.0, inr (l, r.1))
    | inr l ↦ (x ∷ xs, inl (l, refl))
  ]

  pub one_fitting : (h c : ℕ) (xs s t : List X) → Fitting h c xs s → Fitting h c xs t → s ≡ t
  one_fitting h c [] s t a b = a ∙ sym b
  one_fitting h c (x ∷ xs) s t a b = elim a [
    | inl a ↦ elim b [ inl b ↦ a.1 ∙ sym b.1 | inr b ↦ absurd (omega (arith, a.0, b.0)) ]
    | inr a ↦ elim b [ inl b ↦ absurd (omega (arith, a.0, b.0)) | inr b ↦ one_fitting h c xs s t a.1 b.1 ]
  ]

  -- what settles beside the last one, and then with it, settles at once
  pub fitting_twice : (x : X) (c : ℕ) (xs r t : List X) → Fitting (f x) c xs r → Fitting 0 c (r ++ x ∷ []) t → Fitting 0 c (xs ++ x ∷ []) t
  fitting_twice x c [] r t a b = subst (λ zs. Fitting 0 c (zs ++ x ∷ []) t) a b
  fitting_twice x c (y ∷ xs) r t a b = elim a [
    | inl a ↦ subst (λ zs. Fitting 0 c (zs ++ x ∷ []) t) a.1 b
    | inr a ↦
        let s : sum_by f (y ∷ xs ++ x ∷ []) ≡ sum_by f (y ∷ xs) + sum_by f (x ∷ []) = sum_by-append f (y ∷ xs) (x ∷ []) in
        let o : sum_by f (x ∷ []) ≡ f x = omega arith in
        let more : c < sum_by f (y ∷ xs) + f x = a.0 in
        inr (omega (arith, s, o, more), fitting_twice x c xs r t a.1 b)
  ]

-- the front's rest is the longest end that fits
pub fitting_front : {K V : Type 0} (h c m : ℕ) (xs f r : List (Idle K V)) → m ≡ charges xs + h → IsFront m c xs f r → Fitting (λ x. x.charge) h c xs r
fitting_front {K} {V} h c m xs [] r e i = subst (λ zs. Fitting (λ x. x.charge) h c zs r) (sym i.parts) (whole r (subst (λ zs. m ≡ charges zs + h) i.parts e) i.suffices)
  where
    whole : (r : List (Idle K V)) → m ≡ charges r + h → Suffices m c [] r → Fitting (λ x. x.charge) h c r r
    whole [] e s = refl
    whole (x ∷ r) e s = elim s [
      | inl s ↦ inl (omega (arith, e, s), refl)
      | inr s ↦ absurd (cc)
    ]
fitting_front h c m [] (y ∷ f) r e i = absurd (cc)
fitting_front h c m (x ∷ xs) (y ∷ f) r e i =
    let head : x ≡ y = ap (head_or x) i.parts in
    let more : c < m = elim (cases_lt c m) [ inl l ↦ l | inr l ↦ absurd (i.shortest [] (x ∷ xs) refl (omega arith) (inl (omega (arith, l)))) ] in
    let cut : charges (x ∷ xs) ≡ x.charge + charges xs = sum_by-cons (λ z. z.charge) x xs in
    let front : charges (y ∷ f) ≡ y.charge + charges f = sum_by-cons (λ z. z.charge) y f in
    let same : x.charge ≡ y.charge = ap (λ z. z.charge) head in
    inr (
      omega (arith, more, e),
      fitting_front h c (charges xs + h) xs f r refl (record {
        parts = ap tail_of i.parts;
        suffices = elim i.suffices [ inl s ↦ inl (omega (arith, s, cut, front, same, e)) | inr s ↦ inr s ];
        shortest = λ a b p l s. i.shortest (x ∷ a) b (ap (λ zs. x ∷ zs) p) (omega (arith, l)) (elim s [
          | inl s ↦
              let more : charges (x ∷ a) ≡ x.charge + charges a = sum_by-cons (λ z. z.charge) x a in
              inl (omega (arith, s, cut, more, e))
          | inr s ↦ inr s
        ]);
      }),
    )

-- the longest end by what is told of it is the one by recursion
pub fitting_tail : {K : Type 0} (price : K → ℕ) (c : ℕ) (ks t : List K) → IsTail price c ks t → Fitting price 0 c ks t
fitting_tail {K} price c ks t i = go ks i.front i.parts (λ a b p l. i.longest a b p l)
  where
    whole : (t : List K) → sum_by price t ≤ c → Fitting price 0 c t t
    whole [] h = refl
    whole (k ∷ t) h = inl (omega (arith, h), refl)

    go : (ks f : List K) → ks ≡ f ++ t → ((a b : List K) → ks ≡ a ++ b → length t < length b → ¬ (sum_by price b ≤ c)) → Fitting price 0 c ks t
    go ks [] p none = subst (λ zs. Fitting price 0 c zs t) (sym p) (whole t i.fits)
    go [] (l ∷ f) p none = absurd (cc)
    go (k ∷ ks) (l ∷ f) p none =
        let len : length (k ∷ ks) ≡ length (l ∷ f) + length t = ap length p ∙ Rattle.std.proofs.lemmas.List.length-append (l ∷ f) t in
        let more : c < sum_by price (k ∷ ks) = elim (cases_lt c (sum_by price (k ∷ ks))) [ inl m ↦ m | inr m ↦ absurd (none [] (k ∷ ks) refl (omega (arith, len)) m) ] in
        inr (omega (arith, more), go ks f (ap tail_of p) (λ a b q m. none (k ∷ a) b (ap (λ zs. k ∷ zs) q) m))

module _ {K : Type 0} (E : K → K → Bool) where
  -- equal keys have one price
  abbrev pub AgreesOnEqual : (K → ℕ) → Type 0
  AgreesOnEqual price = (k l : K) → E k l ≡ true → price k ≡ price l

  -- the keys that are not k
  abbrev pub others : K → List K → List K
  others k ks = filter (λ l. not (E l k)) ks

  -- no key stands twice
  abbrev pub AreDistinctKeys : List K → Type 0
  AreDistinctKeys [] = Unit {0}
  AreDistinctKeys (k ∷ ks) = (list_any (E k) ks ≡ false) × AreDistinctKeys ks

  -- the last uses after one use more
  pub last_uses-push : (us : List K) (k : K) → last_uses E (us ++ k ∷ []) ≡ others k (last_uses E us) ++ k ∷ []
  last_uses-push [] k = refl
  last_uses-push (u ∷ us) k =
      let r = last_uses-push us k in
      elim (list_any (E u) us) as (λ b. list_any (E u) us ≡ b → cond (list_any (E u) (us ++ k ∷ [])) (last_uses E (us ++ k ∷ [])) (u ∷ last_uses E (us ++ k ∷ [])) ≡ others k (cond b (last_uses E us) (u ∷ last_uses E us)) ++ k ∷ []) [
        | true ↦ λ b. ap (λ t. cond t (last_uses E (us ++ k ∷ [])) (u ∷ last_uses E (us ++ k ∷ []))) (pushed u us k ∙ ap (λ t. t || E u k) b) ∙ r
        | false ↦ λ b. ap (λ t. cond t (last_uses E (us ++ k ∷ [])) (u ∷ last_uses E (us ++ k ∷ []))) (pushed u us k ∙ ap (λ t. t || E u k) b) ∙ elim (E u k) as (λ t. cond t (last_uses E (us ++ k ∷ [])) (u ∷ last_uses E (us ++ k ∷ [])) ≡ cond (not t) (u ∷ others k (last_uses E us)) (others k (last_uses E us)) ++ k ∷ []) [
          | true ↦ r
          | false ↦ ap (λ zs. u ∷ zs) r
        ]
      ] refl
    where
      pushed : (u : K) (us : List K) (k : K) → list_any (E u) (us ++ k ∷ []) ≡ (list_any (E u) us || E u k)
      pushed u [] k = Rattle.std.proofs.Math.Bool.or-false (E u k) ∙ sym (Rattle.std.proofs.Math.Bool.false-or (E u k))
      pushed u (v ∷ us) k = elim (E u v) as (λ t. (t || list_any (E u) (us ++ k ∷ [])) ≡ ((t || list_any (E u) us) || E u k)) [ true ↦ refl | false ↦ pushed u us k ]

  pub any_last : (q : K) (us : List K) → list_any (E q) us ≡ false → list_any (E q) (last_uses E us) ≡ false
  any_last q [] h = refl
  any_last q (u ∷ us) h =
      elim (E q u) as (λ t. E q u ≡ t → (t || list_any (E q) us) ≡ false → list_any (E q) (cond (list_any (E u) us) (last_uses E us) (u ∷ last_uses E us)) ≡ false) [
        | true ↦ λ t k. absurd (true≢false k)
        | false ↦ λ t k. elim (list_any (E u) us) as (λ b. list_any (E q) (cond b (last_uses E us) (u ∷ last_uses E us)) ≡ false) [
          | true ↦ any_last q us k
          | false ↦ ap (λ s. s || list_any (E q) (last_uses E us)) t ∙ any_last q us k
        ]
      ] refl h

  -- the last uses are apart
  pub last_uses-apart : (us : List K) → AreDistinctKeys (last_uses E us)
  last_uses-apart [] = tt
  last_uses-apart (u ∷ us) = elim (list_any (E u) us) as (λ b. list_any (E u) us ≡ b → AreDistinctKeys (cond b (last_uses E us) (u ∷ last_uses E us))) [
    | true ↦ λ b. last_uses-apart us
    | false ↦ λ b. (any_last u us b, last_uses-apart us)
  ] refl

  module _ (price : K → ℕ) (eq : IsEquivalence E) (p : AgreesOnEqual price) where
    others_none : (k : K) (ks : List K) → list_any (E k) ks ≡ false → others k ks ≡ ks
    others_none k [] h = refl
    others_none k (l ∷ ks) h = elim (E k l) as (λ t. E k l ≡ t → (t || list_any (E k) ks) ≡ false → cond (not (E l k)) (l ∷ others k ks) (others k ks) ≡ l ∷ ks) [
      | true ↦ λ t h. absurd (true≢false h)
      | false ↦ λ t h. ap (λ s. cond (not s) (l ∷ others k ks) (others k ks)) (eq.symm l k ∙ t) ∙ ap (λ zs. l ∷ zs) (others_none k ks h)
    ] refl h

    -- what goes with k weighs no more than k
    pub others_sum : (k : K) (ks : List K) → AreDistinctKeys ks → sum_by price ks ≤ sum_by price (others k ks) + price k
    others_sum k [] d = omega arith
    others_sum k (l ∷ ks) d =
        let a : sum_by price (l ∷ ks) ≡ price l + sum_by price ks = sum_by-cons price l ks in
        elim (E l k) as (λ t. E l k ≡ t → sum_by price (l ∷ ks) ≤ sum_by price (cond (not t) (l ∷ others k ks) (others k ks)) + price k) [
          | true ↦ λ t.
              let same : price l ≡ price k = p l k t in
              let rest : sum_by price (others k ks) ≡ sum_by price ks = ap (sum_by price) (others_none k ks (any_same l k ks t d.0)) in
              omega (arith, a, same, rest)
          | false ↦ λ t.
              let i : sum_by price ks ≤ sum_by price (others k ks) + price k = others_sum k ks d.1 in
              let b : sum_by price (l ∷ others k ks) ≡ price l + sum_by price (others k ks) = sum_by-cons price l (others k ks) in
              omega (arith, a, b, i)
        ] refl
      where
        any_same : (l k : K) (ks : List K) → E l k ≡ true → list_any (E l) ks ≡ false → list_any (E k) ks ≡ false
        any_same l k [] t h = h
        any_same l k (m ∷ ks) t h = ap (λ s. s || list_any (E k) ks) (sym (eq.congr l k m t)) ∙ elim (E l m) as (λ s. (s || list_any (E l) ks) ≡ false → (s || list_any (E k) ks) ≡ false) [ true ↦ λ h. h | false ↦ λ h. any_same l k ks t h ] h
