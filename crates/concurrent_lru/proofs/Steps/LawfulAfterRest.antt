-- A held entry that comes to rest: what every cache keeps is kept.
use Rattle.std.proofs.Common.{◌≡◌, ℕ, ◌+◌, ◌⊎◌, inl, inr, Bool, true, false, cond, List, [], ◌∷◌, ◌++◌, map, Some, None, refl, sym, ap, ◌∙◌, subst, arith, eqb, ◌||◌, ◌==◌}
use Rattle.std.specs.List.{find, IsDistinct, list_any}
use Rattle.std.specs.Cmp.{nat_cmp_total, nat_eq_equiv, unsigned_tied}
use Rattle.std.specs.FinMap as finmap
use Rattle.std.proofs.lemmas.Bool.{eqb-true, eq-eqb, true≢false}
use Rattle.std.proofs.lemmas.Option.{none-some, same_Some}
use Rattle.std.proofs.lemmas.List.{map-append}
use Rattle.std.proofs.lemmas.List.Sums.{sum_by-append}
use Rattle.std.proofs.lemmas.Map.Keys.{IsDistinct-push}
use Rattle.concurrent_lru.specs.Cache.{Cache, Idle, Held, idle_at, held_at, sum_of, charges}
use Rattle.concurrent_lru.specs.Steps.{without_held, idle_again}
use Rattle.concurrent_lru.specs.Representation.{held_charges}
use Rattle.concurrent_lru.proofs.Lists.DistinctEntries.{same, same-refl}
use Rattle.concurrent_lru.proofs.Lists.Removals.{removed_some, removed_other}
use Rattle.concurrent_lru.proofs.Steps.LawfulAfterChange.{IsOrderly, orderly_fewer}
use Rattle.concurrent_lru.proofs.Entries.SumsOfHeld.{sum-remove}

module _ {K V : Type 0} where
  find_push : (t : ℕ) (x y : Idle K V) (xs : List (Idle K V)) → find (λ z. z.stamp == t) (xs ++ x ∷ []) ≡ Some y → (find (λ z. z.stamp == t) xs ≡ Some y) ⊎ (((x.stamp == t) ≡ true) × (x ≡ y))
  find_push t x y [] h =
      elim (x.stamp == t) as (λ b. cond b (Some x) None ≡ Some y → (None ≡ Some y) ⊎ ((b ≡ true) × (x ≡ y))) [
        | true ↦ λ h. inr (refl, same_Some _ _ h)
        | false ↦ λ h. absurd (none-some y h)
      ] h
  find_push t x y (z ∷ xs) h =
      elim (z.stamp == t) as (λ b. cond b (Some z) (find (λ w. w.stamp == t) (xs ++ x ∷ [])) ≡ Some y → (cond b (Some z) (find (λ w. w.stamp == t) xs) ≡ Some y) ⊎ (((x.stamp == t) ≡ true) × (x ≡ y))) [
        | true ↦ λ h. inl h
        | false ↦ λ h. find_push t x y xs h
      ] h

  not_a_stamp : (s : ℕ) (xs : List (Idle K V)) → find (λ z. z.stamp == s) xs ≡ None → list_any (eqb s) (map (λ x. x.stamp) xs) ≡ false
  not_a_stamp s [] h = refl
  not_a_stamp s (x ∷ xs) h =
      let p = Rattle.concurrent_lru.proofs.Lists.DistinctEntries.head_none (x.stamp == s) x (find (λ z. z.stamp == s) xs) h in
      ap (λ t. t || list_any (eqb s) (map (λ x. x.stamp) xs)) (nat_eq_equiv.symm s x.stamp ∙ p.0) ∙ not_a_stamp s xs p.1

  -- the cache where the held entry with stamp s is the newest idle one
  abbrev pub rested : Cache K V → ℕ → Held K V → V → Cache K V
  rested c s e v = record (without_held c s) { idle = c.idle ++ idle_again s e v ∷ [] }

  pub orderly-rested : (E : K → K → Bool) (c : Cache K V) (s : ℕ) (e : Held K V) (v : V) → IsOrderly E c → held_at c s ≡ Some e → e.detached ≡ false → IsOrderly E (rested c s e v)
  orderly-rested E c s e v o at found = orderly_fewer E c (rested c s e v) o
      (λ t k m a. elim a [
        | inl i ↦ elim (find_push t (idle_again s e v) i.0 c.idle i.1) [
          | inl b ↦ inl (i.0, b, i.2, i.3)
          | inr b ↦ inr (e, ap (finmap.get c.held) (sym (eqb-true s t b.0)) ∙ at, ap (λ x. x.key) b.1 ∙ i.2, ap (λ x. x.charge) b.1 ∙ i.3)
        ]
        | inr h ↦ inr (h.0, (removed_some c.held s t h.0 h.1).1, h.2, h.3)
      ])
      (λ t k m a. elim a [
        | inl i ↦ elim (find_push t (idle_again s e v) i.0 c.idle i.1) [
          | inl b ↦ inl (i.0, b, i.2, i.3)
          | inr b ↦ inr (e, ap (finmap.get c.held) (sym (eqb-true s t b.0)) ∙ at, ap (λ x. x.key) b.1 ∙ i.2, ap (λ x. x.charge) b.1 ∙ i.3, found)
        ]
        | inr h ↦ inr (h.0, (removed_some c.held s t h.0 h.1).1, h.2, h.3, h.4)
      ])
      refl
      (subst (IsDistinct eqb) (sym (map-append (λ x. x.stamp) c.idle (idle_again s e v ∷ []))) (IsDistinct-push nat_eq_equiv (map (λ x. x.stamp) c.idle) s o.idle_apart (not_a_stamp s c.idle not_idle)))
      (λ t x i. elim (eqb t s) as (λ b. eqb t s ≡ b → finmap.get (finmap.remove c.held s) t ≡ None) [
        | true ↦ λ b. finmap.get-remove nat_cmp_total c.held s t ∙ ap (λ u. cond u None (finmap.get c.held t)) (unsigned_tied t s ∙ b)
        | false ↦ λ b. removed_other c.held s t b ∙ elim (find_push t (idle_again s e v) x c.idle i) [
          | inl k ↦ o.held_apart t x k
          | inr k ↦ absurd (true≢false (sym (eq-eqb t s (sym (eqb-true s t k.0))) ∙ b))
        ]
      ] refl)
      (λ t x h. o.pinned t x (removed_some c.held s t x h).1)
    where
      not_idle : idle_at c s ≡ None
      not_idle = elim (idle_at c s) as (λ q. idle_at c s ≡ q → q ≡ None) [
        | None ↦ λ _. refl
        | Some x ↦ λ h. absurd (none-some e (sym (o.held_apart s x h) ∙ at))
      ] refl

  pub sum-rested : (c : Cache K V) (s : ℕ) (e : Held K V) (v : V) → held_at c s ≡ Some e → sum_of (rested c s e v) ≡ sum_of c
  sum-rested c s e v at =
      let a : held_charges (finmap.remove c.held s) + e.charge ≡ held_charges c.held = sum-remove (λ x. x.charge) c.held s e at in
      let b : charges (c.idle ++ idle_again s e v ∷ []) ≡ charges c.idle + charges (idle_again s e v ∷ []) = sum_by-append (λ x. x.charge) c.idle (idle_again s e v ∷ []) in
      omega (arith, a, b)
