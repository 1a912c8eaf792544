-- What every cache keeps is kept by the changes that steps make.
use Rattle.std.proofs.Common.{◌≡◌, ℕ, ◌+◌, ◌<◌, ◌≤◌, ◌^◌, ◌⊎◌, inl, inr, Bool, true, false, cond, List, [], ◌∷◌, ◌++◌, map, Some, None, refl, sym, ap, ◌∙◌, subst, arith, eqb, ◌==◌}
use Rattle.std.specs.List.{find, IsDistinct, AllByRecursion}
use Rattle.std.specs.Cmp.{nat_eq_equiv}
use Rattle.std.specs.FinMap as finmap
use Rattle.std.proofs.lemmas.Bool.{eqb-true}
use Rattle.std.proofs.lemmas.Option.{none-some}
use Rattle.std.proofs.lemmas.List.{map-append}
use Rattle.std.proofs.lemmas.List.Sums.{sum_by-append}
use Rattle.concurrent_lru.specs.Cache.{Cache, Idle, Held, IsEntry, IsLawful, Settles, IsFound, idle_at, held_at, sum_of, charges}
use Rattle.concurrent_lru.specs.Steps.{with_capacity, with_held}
use Rattle.concurrent_lru.specs.Representation.{held_charges}
use Rattle.concurrent_lru.proofs.Entries.NodesOfSetAndAdd.{inserted_cases, inserted_other}
use Rattle.concurrent_lru.proofs.Entries.SumsOfHeld.{sum-change}

distinct_rest : (a b : List ℕ) → IsDistinct eqb (a ++ b) → IsDistinct eqb b
unfolding IsDistinct
distinct_rest [] b d = d
distinct_rest (x ∷ a) b d = distinct_rest a b d.1

module _ {K V : Type 0} where
  -- a lawful cache, but for its sum
  pub record IsOrderly (E : K → K → Bool) (c : Cache K V) : Type 0 where
    pub one_entry : (s t : ℕ) (k l : K) (m n : ℕ) → IsFound c s k m → IsFound c t l n → E k l ≡ true → s ≡ t
    pub idle_apart : IsDistinct eqb (map (λ x. x.stamp) c.idle)
    pub held_apart : (s : ℕ) (x : Idle K V) → idle_at c s ≡ Some x → held_at c s ≡ None
    pub below_next : (s : ℕ) (k : K) (m : ℕ) → IsEntry c s k m → s < c.next
    pub charged : (s : ℕ) (k : K) (m : ℕ) → IsEntry c s k m → 0 < m
    pub pinned : (s : ℕ) (e : Held K V) → held_at c s ≡ Some e → (0 < e.pins) × (e.pins ≤ c.most_pins)

  pub orderly : {E : K → K → Bool} {c : Cache K V} → IsLawful E c → IsOrderly E c
  orderly l = record { one_entry = l.one_entry; idle_apart = l.idle_apart; held_apart = l.held_apart; below_next = l.below_next; charged = l.charged; pinned = l.pinned }

  pub lawful_from : {E : K → K → Bool} {c : Cache K V} → IsOrderly E c → sum_of c < 2 ^ 64 → (c.capacity < sum_of c → c.idle ≡ []) → IsLawful E c
  lawful_from o fits stops = record { one_entry = o.one_entry; idle_apart = o.idle_apart; held_apart = o.held_apart; below_next = o.below_next; charged = o.charged; pinned = o.pinned; sum_fits = fits; settled = stops }

  -- no entry is new
  pub orderly_fewer : (E : K → K → Bool) (old new : Cache K V) → IsOrderly E old → ((s : ℕ) (k : K) (m : ℕ) → IsEntry new s k m → IsEntry old s k m) → ((s : ℕ) (k : K) (m : ℕ) → IsFound new s k m → IsFound old s k m) → new.next ≡ old.next
      → IsDistinct eqb (map (λ x. x.stamp) new.idle) → ((s : ℕ) (x : Idle K V) → idle_at new s ≡ Some x → held_at new s ≡ None)
      → ((s : ℕ) (e : Held K V) → held_at new s ≡ Some e → (0 < e.pins) × (e.pins ≤ new.most_pins)) → IsOrderly E new
  orderly_fewer E old new o was found next apart beside pins = record {
    one_entry = λ s t k l m n a b e. o.one_entry s t k l m n (found s k m a) (found t l n b) e;
    idle_apart = apart;
    held_apart = beside;
    below_next = λ s k m a. subst (λ n. s < n) (sym next) (o.below_next s k m (was s k m a));
    charged = λ s k m a. o.charged s k m (was s k m a);
    pinned = pins;
  }

  -- a held entry is written, and keeps its key: what is there then was there, with some charge
  entry_before : (c : Cache K V) (s : ℕ) (e f : Held K V) → held_at c s ≡ Some e → f.key ≡ e.key → (t : ℕ) (k : K) (m : ℕ) → IsEntry (with_held c s f) t k m → (n : ℕ) × IsEntry c t k n × ((n ≡ m) ⊎ (f.charge ≡ m))
  entry_before c s e f at key t k m (inl i) = (m, inl i, inl refl)
  entry_before c s e f at key t k m (inr h) = elim (inserted_cases c.held s t f h.0 h.1) [
    | inl w ↦ (e.charge, inr (e, ap (finmap.get c.held) w.0 ∙ at, sym (ap (λ x. x.key) w.1 ∙ key) ∙ h.2, refl), inr (sym (ap (λ x. x.charge) w.1) ∙ h.3))
    | inr was ↦ (m, inr (h.0, was, h.2, h.3), inl refl)
  ]

  found_before : (c : Cache K V) (s : ℕ) (e f : Held K V) → held_at c s ≡ Some e → f.key ≡ e.key → (f.detached ≡ false → e.detached ≡ false) → (t : ℕ) (k : K) (m : ℕ) → IsFound (with_held c s f) t k m → (n : ℕ) × IsFound c t k n
  found_before c s e f at key found t k m (inl i) = (m, inl i)
  found_before c s e f at key found t k m (inr h) = elim (inserted_cases c.held s t f h.0 h.1) [
    | inl w ↦ (e.charge, inr (e, ap (finmap.get c.held) w.0 ∙ at, sym (ap (λ x. x.key) w.1 ∙ key) ∙ h.2, refl, found (sym (ap (λ x. x.detached) w.1) ∙ h.4)))
    | inr was ↦ (m, inr (h.0, was, h.2, h.3, h.4))
  ]

  -- it has a charge, and is not found where it was not
  pub orderly-with_held : (E : K → K → Bool) (c : Cache K V) (s : ℕ) (e f : Held K V) → IsOrderly E c → held_at c s ≡ Some e → f.key ≡ e.key → 0 < f.charge → (f.detached ≡ false → e.detached ≡ false) → 0 < f.pins → f.pins ≤ c.most_pins → IsOrderly E (with_held c s f)
  orderly-with_held E c s e f o at key some found low high = record {
    one_entry = λ t u k l m n a b q.
        let x = found_before c s e f at key found t k m a in
        let y = found_before c s e f at key found u l n b in
        o.one_entry t u k l x.0 y.0 x.1 y.1 q;
    idle_apart = o.idle_apart;
    held_apart = λ t x i. elim (eqb t s) as (λ b. eqb t s ≡ b → held_at (with_held c s f) t ≡ None) [
      | true ↦ λ b. absurd (none-some e (sym (o.held_apart t x i) ∙ ap (finmap.get c.held) (eqb-true t s b) ∙ at))
      | false ↦ λ b. inserted_other c.held s t f b ∙ o.held_apart t x i
    ] refl;
    below_next = λ t k m a. let x = entry_before c s e f at key t k m a in o.below_next t k x.0 x.1;
    charged = λ t k m a.
        let x = entry_before c s e f at key t k m a in
        elim x.2 [
          | inl same ↦ subst (λ n. 0 < n) same (o.charged t k x.0 x.1)
          | inr new ↦ subst (λ n. 0 < n) new some
        ];
    pinned = λ t x h. elim (inserted_cases c.held s t f x h) [
      | inl w ↦ subst (λ y. (0 < y.pins) × (y.pins ≤ c.most_pins)) (sym w.1) (low, high)
      | inr was ↦ o.pinned t x was
    ];
  }

  -- where it keeps its charge, the sum is the same
  pub sum-with_held : (c : Cache K V) (s : ℕ) (e f : Held K V) → held_at c s ≡ Some e → f.charge ≡ e.charge → sum_of (with_held c s f) ≡ sum_of c
  sum-with_held c s e f at charge =
      let a : held_charges (finmap.insert c.held s f) + e.charge ≡ held_charges c.held + f.charge = sum-change (λ x. x.charge) c.held s e f at in
      omega (arith, a, charge)

  pub lawful-with_held : (E : K → K → Bool) (c : Cache K V) (s : ℕ) (e f : Held K V) → IsLawful E c → held_at c s ≡ Some e → f.key ≡ e.key → f.charge ≡ e.charge → (f.detached ≡ false → e.detached ≡ false) → 0 < f.pins → f.pins ≤ c.most_pins → IsLawful E (with_held c s f)
  lawful-with_held E c s e f l at key charge found low high =
      let sum : sum_of (with_held c s f) ≡ sum_of c = sum-with_held c s e f at charge in
      let some = subst (λ n. 0 < n) (sym charge) (l.charged s e.key e.charge (inr (e, at, refl, refl))) in
      lawful_from (orderly-with_held E c s e f (orderly l) at key some found low high) (subst (λ n. n < 2 ^ 64) (sym sum) l.sum_fits) (λ more. l.settled (subst (λ n. c.capacity < n) sum more))

  -- where something is found in the rest of a list of distinct stamps, it is found in the whole
  pub find_rest : (s : ℕ) (x : Idle K V) (a b : List (Idle K V)) → IsDistinct eqb (map (λ y. y.stamp) (a ++ b)) → find (λ y. y.stamp == s) b ≡ Some x → find (λ y. y.stamp == s) (a ++ b) ≡ Some x
  unfolding IsDistinct
  find_rest s x [] b d h = h
  find_rest s x (y ∷ a) b d h =
      let rest = find_rest s x a b d.1 h in
      elim (y.stamp == s) as (λ t. (y.stamp == s) ≡ t → cond t (Some y) (find (λ z. z.stamp == s) (a ++ b)) ≡ Some x) [
        | true ↦ λ t. absurd (lost (a ++ b) (subst (λ n. AllByRecursion (λ z. eqb n z ≡ false) (map (λ z. z.stamp) (a ++ b))) (eqb-true y.stamp s t) d.0) rest)
        | false ↦ λ t. rest
      ] refl
    where
      lost : (zs : List (Idle K V)) → AllByRecursion (λ z. eqb s z ≡ false) (map (λ z. z.stamp) zs) → find (λ z. z.stamp == s) zs ≡ Some x → ⊥
      lost [] h k = none-some x k
      lost (z ∷ zs) h k = lost zs h.1 (sym (ap (λ t. cond t (Some z) (find (λ y. y.stamp == s) zs)) (nat_eq_equiv.symm z.stamp s ∙ h.0)) ∙ k)

  -- an orderly cache is lawful once it has settled
  pub settles_lawful : (E : K → K → Bool) (old new : Cache K V) (out : List (Idle K V)) → IsOrderly E old → sum_of old < 2 ^ 64 → Settles old out new → IsLawful E new
  settles_lawful E old new out o fits s =
      subst (IsLawful E) (sym s.others) (lawful_from
      (orderly_fewer E old (record old { idle = new.idle }) o
      (λ t k m a. elim a [ inl i ↦ inl (i.0, whole t i.0 i.1, i.2, i.3) | inr h ↦ inr h ])
      (λ t k m a. elim a [ inl i ↦ inl (i.0, whole t i.0 i.1, i.2, i.3) | inr h ↦ inr h ])
      refl (distinct_rest (map (λ x. x.stamp) out) (map (λ x. x.stamp) new.idle) (subst (IsDistinct eqb) (map-append (λ x. x.stamp) out new.idle) apart))
      (λ t x i. o.held_apart t x (whole t x i)) o.pinned)
      (omega (arith, sums))
      (λ more. elim s.front.suffices [
        | inl h ↦ absurd (omega (arith, sums, more, h))
        | inr h ↦ h
      ]))
    where
      apart : IsDistinct eqb (map (λ x. x.stamp) (out ++ new.idle))
      apart = subst (λ xs. IsDistinct eqb (map (λ x. x.stamp) xs)) s.front.parts o.idle_apart

      whole : (t : ℕ) (x : Idle K V) → find (λ y. y.stamp == t) new.idle ≡ Some x → find (λ y. y.stamp == t) old.idle ≡ Some x
      whole t x i = ap (find (λ y. y.stamp == t)) s.front.parts ∙ find_rest t x out new.idle apart i

      sums : charges out + sum_of (record old { idle = new.idle }) ≡ sum_of old
      sums =
          let a : charges old.idle ≡ charges out + charges new.idle = ap charges s.front.parts ∙ sum_by-append (λ x. x.charge) out new.idle in
          omega (arith, a)

  -- so a cache whose capacity is set is lawful once it has settled
  pub sets_lawful : (E : K → K → Bool) (old new : Cache K V) (n : ℕ) (out : List (Idle K V)) → IsLawful E old → Settles (with_capacity old n) out new → IsLawful E new
  sets_lawful E old new n out l s =
      let o = orderly l in
      settles_lawful E (with_capacity old n) new out
      (record { one_entry = o.one_entry; idle_apart = o.idle_apart; held_apart = o.held_apart; below_next = o.below_next; charged = o.charged; pinned = o.pinned }) l.sum_fits s
