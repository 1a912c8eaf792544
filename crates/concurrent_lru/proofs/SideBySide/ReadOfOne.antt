-- Where the cache at a place reads a key, all of them read it there.
use Rattle.std.proofs.Common.{◌≡◌, ℕ, ◌<◌, Bool, List, length, slice_index_or, slice_set, sym, ap, ◌∙◌, subst}
use Rattle.std.specs.Prelude.{Option, Result}
use Rattle.std.proofs.lemmas.List.{map-set, get_or-map, get_or-set_same, get_or-set_other, length-map, length-set}
use Rattle.concurrent_lru.specs.Cache.{Cache}
use Rattle.concurrent_lru.specs.Counted.{Counted, caches_in}
use Rattle.concurrent_lru.specs.Reads.{Finds, FindsAt, Reads, ReadsAt}
use Rattle.concurrent_lru.specs.Sharded.{Sharded}
use Rattle.concurrent_lru.specs.declared.refusal.Refusal.{Refusal}

module _ {K V S : Type 0} (E : K → K → Bool) (old : Sharded K V S) (hasher : S) (cs : List (Counted K V)) (i j : ℕ) (was : Counted K V) (is : record { hasher = hasher; caches = caches_in cs } ≡ old) (same : i ≡ j) (within : i < length old.caches) (at : was ≡ slice_index_or cs i was) where
  inside : i < length cs
  inside = subst (λ n. i < n) (sym (sym (length-map cs (λ c. c.cache)) ∙ ap (λ s. length s.caches) is)) within

  cache_at : (d : Cache K V) → slice_index_or old.caches j d ≡ was.cache
  cache_at d = sym (ap (λ s. slice_index_or s.caches j d) is) ∙ ap (λ k. slice_index_or (caches_in cs) k d) (sym same) ∙ get_or-map (λ c. c.cache) cs i was d inside ∙ ap (λ c. c.cache) (sym at)

  pub finds_at : (k : K) (v : V) → Finds E was.cache k v → FindsAt E old j k v
  finds_at k v found d = subst (λ c. Finds E c k v) (sym (cache_at d)) found

  pub reads_at : {T : Type 0} (new : Counted K V) (k : K) (answers : V → T → Type 0) (r : Result (Option (ℕ × T)) Refusal) → Reads E was.cache k answers r new.cache → ReadsAt E old j k answers r (record { hasher = hasher; caches = caches_in (slice_set cs i new) })
  reads_at new k answers r step =
      let here : i < length (caches_in cs) = subst (λ n. i < n) (sym (length-map cs (λ c. c.cache))) inside in
      let changed : caches_in (slice_set cs i new) ≡ slice_set old.caches j new.cache = map-set (λ c. c.cache) cs i new ∙ (λ m. slice_set (is m).caches (same m) new.cache) in
      let there : j < length old.caches = subst (λ k. k < length old.caches) same within in
      record {
        hasher = ap (λ s. s.hasher) is;
        count = ap length changed ∙ length-set old.caches j new.cache;
        own = λ d lt. subst (λ c. Reads E (slice_index_or old.caches j d) k answers r c) (sym (ap (λ l. slice_index_or l j d) changed ∙ get_or-set_same old.caches j new.cache d there)) (subst (λ c. Reads E c k answers r new.cache) (sym (cache_at d)) step);
        others = λ n d other. ap (λ l. slice_index_or l n d) changed ∙ get_or-set_other old.caches j n new.cache d other;
      }
