-- A removed key: what it leaves of the last uses, and of a cache with nothing held.
use Rattle.std.proofs.Common.{◌≡◌, ℕ, ◌⊎◌, inl, inr, Bool, true, false, cond, not, List, [], ◌∷◌, refl, sym, ap, ◌∙◌, subst, ◌||◌}
use Rattle.std.specs.Ordering.{nat_cmp}
use Rattle.std.specs.FinMap as finmap
use Rattle.std.specs.Cmp.{IsEquivalence}
use Rattle.std.specs.List.{AllByRecursion, list_any}
use Rattle.std.proofs.lemmas.Bool.{true≢false}
use Rattle.std.proofs.lemmas.Option.{none-some}
use Rattle.concurrent_lru.specs.Cache.{Cache, Idle, IsLawful}
use Rattle.concurrent_lru.specs.Steps.{IsNotIdle, Drops, Stays, Invalidates}
use Rattle.concurrent_lru.specs.Uses.{last_uses}
use Rattle.concurrent_lru.proofs.Steps.AdviceOfAbsent.{absent_not_idle}
use Rattle.concurrent_lru.proofs.Steps.LawfulAfterLeaving.{drops_lawful}
use Rattle.concurrent_lru.proofs.Runs.LongestEnds.{others, AgreesOnEqual}
use Rattle.concurrent_lru.proofs.Runs.GroupsOfPlainRun.{Paired, AreFound, each_is_found, stamp_of_key, others_absent, paired_without}
use Rattle.concurrent_lru.proofs.Runs.PlainRuns.{IsAlone}
use Rattle.concurrent_lru.proofs.Runs.WeightOfKey.{any_others}

module _ {K : Type 0} (E : K → K → Bool) (eq : IsEquivalence E) where
  -- the last uses of the other keys are the others of the last uses
  pub last_uses-others : (k : K) (us : List K) → last_uses E (others E k us) ≡ others E k (last_uses E us)
  last_uses-others k [] = refl
  last_uses-others k (u ∷ us) =
      let r = last_uses-others k us in
      let rest = others E k (last_uses E us) in
      elim (E u k) as (λ t. E u k ≡ t → last_uses E (cond (not t) (u ∷ others E k us) (others E k us)) ≡ others E k (cond (list_any (E u) us) (last_uses E us) (u ∷ last_uses E us))) [
        | true ↦ λ t. r ∙ elim (list_any (E u) us) as (λ b. rest ≡ others E k (cond b (last_uses E us) (u ∷ last_uses E us))) [
          | true ↦ refl
          | false ↦ ap (λ s. cond (not s) (u ∷ rest) rest) (sym t)
        ]
        | false ↦ λ t.
            ap (λ s. cond s (last_uses E (others E k us)) (u ∷ last_uses E (others E k us))) (any_others E eq u k us t)
            ∙ elim (list_any (E u) us) as (λ b. cond b (last_uses E (others E k us)) (u ∷ last_uses E (others E k us)) ≡ others E k (cond b (last_uses E us) (u ∷ last_uses E us))) [
              | true ↦ r
              | false ↦ ap (λ zs. u ∷ zs) r ∙ ap (λ s. cond (not s) (u ∷ rest) rest) (sym t)
            ]
      ] refl

  lacks_equal : (q k : K) → E q k ≡ true → (ks : List K) → list_any (E q) (others E k ks) ≡ false
  lacks_equal q k h [] = refl
  lacks_equal q k h (l ∷ ks) =
      let r = lacks_equal q k h ks in
      elim (E l k) as (λ t. E l k ≡ t → list_any (E q) (cond (not t) (l ∷ others E k ks) (others E k ks)) ≡ false) [
        | true ↦ λ t. r
        | false ↦ λ t. ap (λ s. s || list_any (E q) (others E k ks)) (eq.congr q k l h ∙ eq.symm k l ∙ t) ∙ r
      ] refl

  -- what is among the keys that are not k is not k
  pub among_others : (q k : K) (ks : List K) → list_any (E q) (others E k ks) ≡ true → E q k ≡ false
  among_others q k ks h = elim (E q k) as (λ t. E q k ≡ t → t ≡ false) [
    | true ↦ λ t. absurd (true≢false (sym h ∙ lacks_equal q k t ks))
    | false ↦ λ t. refl
  ] refl

module _ {K V : Type 0} (E : K → K → Bool) (price : K → ℕ) (eq : IsEquivalence E) (p : AgreesOnEqual E price) where
  -- a cache with nothing held, in which these keys are idle and from which k was removed
  pub record IsWithoutKey (old new : Cache K V) (k : K) (ks : List K) : Type 0 where
    pub held : new.held ≡ finmap.empty
    pub capacity : new.capacity ≡ old.capacity
    pub most_pins : new.most_pins ≡ old.most_pins
    pub lawful : IsLawful E new
    pub paired : Paired E price new.idle (others E k ks)

  dropped : (old new : Cache K V) (k : K) (out : List (Idle K V)) (ks : List K) → IsAlone E price eq p old ks → Drops E old k out new → IsWithoutKey old new k ks
  dropped old new k out ks i d = record {
    held = ap (λ c. c.held) d.changed ∙ i.held;
    capacity = ap (λ c. c.capacity) d.changed;
    most_pins = ap (λ c. c.most_pins) d.changed;
    lawful = drops_lawful E old new k out i.lawful d;
    paired = subst (λ xs. Paired E price xs (others E k ks)) (sym (ap (λ c. c.idle) d.changed))
        (paired_without E price eq p d.stamp k old.idle ks (stamp_of_key E eq old d.stamp d.entry k i.lawful d.at d.same_key) i.paired);
  }

  unchanged : (old new : Cache K V) (k : K) (out : List (Idle K V)) (ks : List K) → IsAlone E price eq p old ks → IsNotIdle E old k → Stays E old out new → IsWithoutKey old new k ks
  unchanged old new k out ks i absent s = record {
    held = ap (λ c. c.held) s.same ∙ i.held;
    capacity = ap (λ c. c.capacity) s.same;
    most_pins = ap (λ c. c.most_pins) s.same;
    lawful = subst (IsLawful E) (sym s.same) i.lawful;
    paired = subst (λ xs. Paired E price xs (others E k ks)) (sym (ap (λ c. c.idle) s.same))
        (subst (Paired E price old.idle) (sym (others_absent E price eq p k old.idle ks (lacks old.idle (each_is_found old.idle i.lawful.idle_apart)) i.paired)) i.paired);
  }
    where
      lacks : (ys : List (Idle K V)) → AreFound old.idle ys → AllByRecursion (λ y. E y.key k ≡ false) ys
      lacks [] h = tt
      lacks (y ∷ ys) h = (absent y.stamp y h.0, lacks ys h.1)

  -- an advice_evict
  pub advised : (old new : Cache K V) (k : K) (out : List (Idle K V)) (ks : List K) → IsAlone E price eq p old ks → Drops E old k out new ⊎ (IsNotIdle E old k × Stays E old out new) → IsWithoutKey old new k ks
  advised old new k out ks i (inl d) = dropped old new k out ks i d
  advised old new k out ks i (inr s) = unchanged old new k out ks i s.0 s.1

  -- an invalidate: nothing is held, so nothing is detached
  pub invalidated : (old new : Cache K V) (k : K) (out : List (Idle K V)) (ks : List K) → IsAlone E price eq p old ks → Invalidates E old k out new → IsWithoutKey old new k ks
  invalidated old new k out ks i (inl d) = dropped old new k out ks i d
  invalidated old new k out ks i (inr (inl d)) = absurd (none-some d.entry (sym (ap (λ m. finmap.get m d.stamp) i.held ∙ finmap.get-empty nat_cmp d.stamp) ∙ d.at))
  invalidated old new k out ks i (inr (inr s)) = unchanged old new k out ks i (absent_not_idle E old k s.0) s.1
