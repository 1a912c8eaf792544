-- What fits is a tail, a list has one tail, and a larger capacity has a longer one.
use Rattle.std.proofs.Common.{◌≡◌, ℕ, ◌+◌, ◌<◌, ◌≤◌, inl, inr, Bool, true, List, [], ◌∷◌, ◌++◌, length, map, refl, sym, ap, ◌∙◌, arith, ◌||◌}
use Rattle.std.specs.List.{sum_by, list_any}
use Rattle.std.specs.Cmp.{IsEquivalence}
use Rattle.std.proofs.lemmas.List.{length-append}
use Rattle.concurrent_lru.specs.Cache.{Idle}
use Rattle.concurrent_lru.specs.Uses.{IsTail, AreSame, AreAmong}
use Rattle.concurrent_lru.specs.WholeRuns.{OneTail}
use Rattle.concurrent_lru.proofs.Steps.OneFront.{split_same, same_length, tail_of}
use Rattle.concurrent_lru.proofs.Runs.LongestEnds.{Fitting}
use Rattle.concurrent_lru.proofs.Runs.GroupsOfPlainRun.{Paired}

pub one_tail : (K : Type 0) → OneTail K
one_tail K price capacity ks s t a b =
    let n : length s ≡ length t = same_length s t (λ l. a.longest b.front t b.parts l b.fits) (λ l. b.longest a.front s a.parts l a.fits) in
    let p : length ks ≡ length a.front + length s = ap length a.parts ∙ length-append a.front s in
    let q : length ks ≡ length b.front + length t = ap length b.parts ∙ length-append b.front t in
    (split_same a.front s b.front t (sym a.parts ∙ b.parts) (omega (arith, n, p, q))).1

module _ {K : Type 0} (price : K → ℕ) (c : ℕ) where
  too_long : (ks t a b : List K) → t ≡ ks → ks ≡ a ++ b → length t < length b → ⊥
  too_long ks t a b e p l =
      let m : length t ≡ length ks = ap length e in
      let n : length ks ≡ length a + length b = ap length p ∙ length-append a b in
      absurd (omega (arith, m, n, l))

  pub tail_fitting : (ks t : List K) → Fitting price 0 c ks t → IsTail price c ks t
  tail_fitting [] t h = record {
    front = [];
    parts = sym h;
    fits = let z : sum_by price t ≡ 0 = ap (sum_by price) h in omega (arith, z);
    longest = λ a b p l f. too_long [] t a b h p l;
  }
  tail_fitting (k ∷ ks) t h = elim h [
    | inl h ↦ record {
      front = [];
      parts = sym h.1;
      fits = let z : sum_by price t ≡ sum_by price (k ∷ ks) = ap (sum_by price) h.1 in omega (arith, z, h.0);
      longest = λ a b p l f. too_long (k ∷ ks) t a b h.1 p l;
    }
    | inr h ↦
        let i = tail_fitting ks t h.1 in
        record {
          front = k ∷ i.front;
          parts = ap (λ zs. k ∷ zs) i.parts;
          fits = i.fits;
          longest = longer k ks t h.0 i;
        }
  ]
    where
      longer : (k : K) (ks t : List K) → c < sum_by price (k ∷ ks) + 0 → IsTail price c ks t → (a b : List K) → k ∷ ks ≡ a ++ b → length t < length b → ¬ (sum_by price b ≤ c)
      longer k ks t more i [] b p l f = let s : sum_by price (k ∷ ks) ≡ sum_by price b = ap (sum_by price) p in absurd (omega (arith, s, more, f))
      longer k ks t more i (y ∷ a) b p l f = i.longest a b (ap tail_of p) l f

  pub fitting_any : (q : K → Bool) (ks t : List K) → Fitting price 0 c ks t → list_any q t ≡ true → list_any q ks ≡ true
  fitting_any q [] t h a = ap (list_any q) (sym h) ∙ a
  fitting_any q (k ∷ ks) t h a = elim h [
    | inl h ↦ ap (list_any q) (sym h.1) ∙ a
    | inr h ↦ ap (λ b. q k || b) (fitting_any q ks t h.1 a) ∙ Rattle.std.proofs.Math.Bool.or-true (q k)
  ]

pub fitting_smaller : {K : Type 0} (price : K → ℕ) (small c : ℕ) (q : K → Bool) (ks s t : List K) → small ≤ c → Fitting price 0 small ks s → Fitting price 0 c ks t → list_any q s ≡ true → list_any q t ≡ true
fitting_smaller price small c q [] s t le a b h = ap (list_any q) (b ∙ sym a) ∙ h
fitting_smaller price small c q (k ∷ ks) s t le a b h = elim b [
  | inl b ↦ ap (list_any q) b.1 ∙ fitting_any price small q (k ∷ ks) s a h
  | inr b ↦ elim a [
    | inl a ↦ absurd (omega (arith, le, a.0, b.0))
    | inr a ↦ fitting_smaller price small c q ks s t le a.1 b.1 h
  ]
]

-- the keys of entries are those that they pair with
pub paired_any : {K V : Type 0} (E : K → K → Bool) (price : K → ℕ) → IsEquivalence E → (k : K) (xs : List (Idle K V)) (ks : List K) → Paired E price xs ks → list_any (E k) (map (λ x. x.key) xs) ≡ list_any (E k) ks
paired_any E price eq k [] [] p = refl
paired_any E price eq k (x ∷ xs) (l ∷ ks) p =
    let same : E k x.key ≡ E k l = eq.symm k x.key ∙ eq.congr x.key l k p.0 ∙ eq.symm l k in
    ap (λ b. b || list_any (E k) (map (λ x. x.key) xs)) same ∙ ap (λ b. E k l || b) (paired_any E price eq k xs ks p.2)
paired_any E price eq k [] (l ∷ ks) p = absurd p
paired_any E price eq k (x ∷ xs) [] p = absurd p

module _ {K : Type 0} (E : K → K → Bool) (eq : IsEquivalence E) where
  any_same : (k l : K) → E k l ≡ true → (ks : List K) → list_any (E k) ks ≡ list_any (E l) ks
  any_same k l h [] = refl
  any_same k l h (m ∷ ks) = ap (λ t. t || list_any (E k) ks) (eq.congr k l m h) ∙ ap (λ t. E l m || t) (any_same k l h ks)

  -- each key is among the keys
  pub among_self : (ks : List K) → AreAmong E ks ks
  among_self [] = tt
  among_self (k ∷ ks) = (ap (λ t. t || list_any (E k) ks) (eq.refl k), behind k ks ks (among_self ks))
    where
      behind : (k : K) (ks ls : List K) → AreAmong E ls ks → AreAmong E ls (k ∷ ks)
      behind k ks [] h = tt
      behind k ks (l ∷ ls) h = (ap (λ t. E l k || t) h.0 ∙ Rattle.std.proofs.Math.Bool.or-true (E l k), behind k ks ls h.1)

  -- what is the same as keys among others is among them
  pub same_among : (ks ls ms : List K) → AreSame E ks ls → AreAmong E ls ms → AreAmong E ks ms
  same_among [] [] ms s h = tt
  same_among (k ∷ ks) (l ∷ ls) ms s h = (any_same k l s.0 ms ∙ h.0, same_among ks ls ms s.1 h.1)
  same_among [] (l ∷ ls) ms s h = absurd s
  same_among (k ∷ ks) [] ms s h = absurd s

module _ {K : Type 0} (E : K → K → Bool) where
  -- from among some keys to among others
  pub among_through : (ks ls ms : List K) → AreAmong E ks ls → ((k : K) → list_any (E k) ls ≡ true → list_any (E k) ms ≡ true) → AreAmong E ks ms
  among_through [] ls ms h t = tt
  among_through (k ∷ ks) ls ms h t = (t k h.0, among_through ks ls ms h.1 t)
