-- An entry that leaves the cache, and all idle entries at once: what every cache keeps is kept.
use Rattle.std.proofs.Common.{◌≡◌, ℕ, ◌+◌, ◌<◌, ◌^◌, inl, inr, Bool, true, false, cond, List, [], map, Option, None, refl, sym, ap, ◌∙◌, subst, arith, eqb}
use Rattle.std.specs.List.{IsDistinct}
use Rattle.std.specs.Ordering.{nat_cmp}
use Rattle.std.specs.Cmp.{nat_cmp_total}
use Rattle.std.specs.FinMap.{FinMap, get, remove, get-remove}
use Rattle.std.proofs.lemmas.Option.{none-some}
use Rattle.concurrent_lru.specs.Cache.{Cache, Idle, IsLawful, sum_of, charges}
use Rattle.concurrent_lru.specs.Steps.{without_held, without, Removes, Drops, Ends, Departs}
use Rattle.concurrent_lru.specs.Representation.{held_charges}
use Rattle.concurrent_lru.proofs.Lists.DistinctEntries.{same}
use Rattle.concurrent_lru.proofs.Lists.Removals.{removed_some}
use Rattle.concurrent_lru.proofs.Lists.DistinctNumbers.{IsDistinct-filter}
use Rattle.concurrent_lru.proofs.Steps.LawfulAfterChange.{IsOrderly, orderly, orderly_fewer, lawful_from}
use Rattle.concurrent_lru.proofs.Steps.LawfulAfterRevival.{find_without, map_without, charges_without}
use Rattle.concurrent_lru.proofs.Entries.SumsOfHeld.{sum-remove}

-- what a map lacks it lacks after a removal
none_either : {X : Type 0} (t : Bool) (o : Option X) → o ≡ None → cond t None o ≡ None
none_either true o h = refl
none_either false o h = h

still_none : {X : Type 0} (m : FinMap nat_cmp X) (s t : ℕ) → get m t ≡ None → get (remove m s) t ≡ None
still_none m s t h = get-remove nat_cmp_total m s t ∙ none_either (same t s) (get m t) h

module _ {K V : Type 0} where
  orderly-removed : (E : K → K → Bool) (c : Cache K V) (s : ℕ) → IsOrderly E c → IsOrderly E (without_held c s)
  orderly-removed E c s o = orderly_fewer E c (without_held c s) o
      (λ t k m a. elim a [
        | inl i ↦ inl i
        | inr h ↦ inr (h.0, (removed_some c.held s t h.0 h.1).1, h.2, h.3)
      ])
      (λ t k m a. elim a [
        | inl i ↦ inl i
        | inr h ↦ inr (h.0, (removed_some c.held s t h.0 h.1).1, h.2, h.3, h.4)
      ])
      refl o.idle_apart (λ t x i. still_none c.held s t (o.held_apart t x i)) (λ t x h. o.pinned t x (removed_some c.held s t x h).1)

  pub removes_lawful : (E : K → K → Bool) (old new : Cache K V) (s : ℕ) (k : K) (out : List (Idle K V)) → IsLawful E old → Removes E old s k out new → IsLawful E new
  removes_lawful E old new s k out l r =
      let a : held_charges (remove old.held s) + r.entry.charge ≡ held_charges old.held = sum-remove (λ x. x.charge) old.held s r.entry r.holds.at in
      let fits : sum_of old < 2 ^ 64 = l.sum_fits in
      subst (IsLawful E) (sym r.changed) (lawful_from (orderly-removed E old s (orderly l)) (omega (arith, a, fits)) (λ more. l.settled (omega (arith, a, more))))

  -- the end of a detached entry is one of a held entry
  pub ends_departs : {E : K → K → Bool} {old new : Cache K V} {s : ℕ} {out : List (Idle K V)} → Ends E old s out new → Departs E old s out new
  ends_departs r = record { entry = r.entry; value = r.value; holds = r.holds; last = r.last; changed = r.changed; one = r.one }

  pub departs_lawful : (E : K → K → Bool) (old new : Cache K V) (s : ℕ) (out : List (Idle K V)) → IsLawful E old → Departs E old s out new → IsLawful E new
  departs_lawful E old new s out l r =
      let a : held_charges (remove old.held s) + r.entry.charge ≡ held_charges old.held = sum-remove (λ x. x.charge) old.held s r.entry r.holds.at in
      let fits : sum_of old < 2 ^ 64 = l.sum_fits in
      subst (IsLawful E) (sym r.changed) (lawful_from (orderly-removed E old s (orderly l)) (omega (arith, a, fits)) (λ more. l.settled (omega (arith, a, more))))

  pub ends_lawful : (E : K → K → Bool) (old new : Cache K V) (s : ℕ) (out : List (Idle K V)) → IsLawful E old → Ends E old s out new → IsLawful E new
  ends_lawful E old new s out l r = departs_lawful E old new s out l (ends_departs r)

  -- an idle entry is dropped
  abbrev pub dropped : Cache K V → ℕ → Cache K V
  dropped c s = record c { idle = without s c.idle }

  orderly-dropped : (E : K → K → Bool) (c : Cache K V) (s : ℕ) → IsOrderly E c → IsOrderly E (dropped c s)
  orderly-dropped E c s o = orderly_fewer E c (dropped c s) o
      (λ t k m a. elim a [
        | inl i ↦ inl (i.0, (find_without s t i.0 c.idle i.1).0, i.2, i.3)
        | inr h ↦ inr h
      ])
      (λ t k m a. elim a [
        | inl i ↦ inl (i.0, (find_without s t i.0 c.idle i.1).0, i.2, i.3)
        | inr h ↦ inr h
      ])
      refl (subst (IsDistinct eqb) (sym (map_without s c.idle)) (IsDistinct-filter s (map (λ x. x.stamp) c.idle) o.idle_apart))
      (λ t x i. o.held_apart t x (find_without s t x c.idle i).0) o.pinned

  pub drops_lawful : (E : K → K → Bool) (old new : Cache K V) (k : K) (out : List (Idle K V)) → IsLawful E old → Drops E old k out new → IsLawful E new
  drops_lawful E old new k out l d =
      let a : charges (without d.stamp old.idle) + d.entry.charge ≡ charges old.idle = charges_without d.stamp d.entry old.idle l.idle_apart d.at in
      let fits : sum_of old < 2 ^ 64 = l.sum_fits in
      subst (IsLawful E) (sym d.changed)
      (lawful_from (orderly-dropped E old d.stamp (orderly l)) (omega (arith, a, fits)) (λ more. ap (without d.stamp) (l.settled (omega (arith, a, more)))))

  -- all idle entries are dropped
  orderly-pruned : (E : K → K → Bool) (c : Cache K V) → IsOrderly E c → IsOrderly E (record c { idle = [] })
  unfolding IsDistinct
  orderly-pruned E c o = orderly_fewer E c (record c { idle = [] }) o
      (λ t k m a. elim a [
        | inl i ↦ absurd (none-some i.0 i.1)
        | inr h ↦ inr h
      ])
      (λ t k m a. elim a [
        | inl i ↦ absurd (none-some i.0 i.1)
        | inr h ↦ inr h
      ])
      refl tt (λ t x i. absurd (none-some x i)) o.pinned

  pub prunes_lawful : (E : K → K → Bool) (old new : Cache K V) → IsLawful E old → new ≡ record old { idle = [] } → IsLawful E new
  prunes_lawful E old new l h =
      let fits : sum_of old < 2 ^ 64 = l.sum_fits in
      subst (IsLawful E) (sym h) (lawful_from (orderly-pruned E old (orderly l)) (omega (arith, fits)) (λ more. refl))
