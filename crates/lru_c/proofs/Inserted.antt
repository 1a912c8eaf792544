-- What an insert of the core did, told as C is told; an insert by the bytes of a key is the insert
-- of the key that was made of them.
use Rattle.std.proofs.Common.{◌≡◌, ℕ, Bool, List, inl, inr, refl, sym, ◌∙◌, ap, subst}
use Rattle.std.specs.Prelude.{Result, Ok, Err}
use Rattle.concurrent_lru.specs.Cache.{Cache, Idle, IsLawful}
use Rattle.concurrent_lru.specs.Inserts.{Replaces, Inserts, InsertsStrictly}
use Rattle.concurrent_lru.specs.Results.{inserted_without_hint}
use Rattle.concurrent_lru.specs.declared.refusal.Refusal.{Refusal}
use Rattle.concurrent_lru.specs.declared.step.Inserted.{Inserted}
use Rattle.concurrent_lru.specs.declared.table.spot.Hint.{Hint}
use Rattle.lru_c.specs.Codes as code
use Rattle.lru_c.specs.Inserts.{TellsInsert, TellsInserted, TellsInsertOf, TellsStrictInsert}
use Rattle.lru_c.specs.Told.{bare, pin_of, refusal_code, told}
use Rattle.lru_c.specs.declared.told.LruPin.{LruPin}
use Rattle.lru_c.specs.declared.told.LruTold.{LruTold}
use Rattle.lru_c.proofs.Cases.{where_is_not}

module _ {K : Type 0} where
  module _ (E : K → K → Bool) (old new : Cache K ℕ) (key : K) (charge v : ℕ) where
    module _ (t : LruTold) (replaced evicted : List (Idle K ℕ)) where
      tells_stamp : (p : LruPin) → t ≡ told code.done p 0 → Replaces E old key charge v p.stamp replaced evicted new → IsLawful E new → TellsInsert E old key charge v t replaced evicted new
      tells_stamp p e h l = subst (λ (u : LruTold). TellsInsert E old key charge v u replaced evicted new) (sym e) (inl (refl, h, l))

    -- an insert, told as its result is
    pub tells_insert : {M : Type 0} (r : Result (Inserted K ℕ M ℕ × Hint) (Refusal × ℕ)) (t : LruTold) (replaced evicted : List (Idle K ℕ)) → TellsInserted r t replaced evicted → Inserts E old key charge v (inserted_without_hint r) new → IsLawful E new → TellsInsert E old key charge v t replaced evicted new
    tells_insert (Ok i) t replaced evicted is h l =
        subst (λ (out : List (Idle K ℕ)). TellsInsert E old key charge v t out evicted new) (sym is.1)
        (subst (λ (out : List (Idle K ℕ)). TellsInsert E old key charge v t i.0.replaced out new) (sym is.2)
        (tells_stamp t i.0.replaced i.0.evicted (pin_of i.0.stamp i.1) is.0 h l))
    tells_insert (Err e) t replaced evicted is h l = inr (e.0, is.0, h, (h.same, is.1, is.2))

    -- the same for a strict insert
    pub tells_strict_insert : {M : Type 0} (r : Result (Inserted K ℕ M ℕ × Hint) (Refusal × ℕ)) (t : LruTold) (replaced evicted : List (Idle K ℕ)) → TellsInserted r t replaced evicted → InsertsStrictly E old key charge v (inserted_without_hint r) new → IsLawful E new → TellsStrictInsert E old key charge v t replaced evicted new
    tells_strict_insert r t replaced evicted is (inl h) l = inl (h.0, tells_insert r t replaced evicted is h.1 l)
    tells_strict_insert (Ok i) t replaced evicted is (inr h) l = absurd h.1
    tells_strict_insert (Err e) t replaced evicted is (inr h) l = inr (h.0, is.0 ∙ ap (λ x. bare (refusal_code x)) h.1, (h.2, is.1, is.2))

  module _ (Tells : Cache K ℕ → K → ℕ → ℕ → LruTold → List (Idle K ℕ) → List (Idle K ℕ) → Cache K ℕ → Type 0) (IsKey : K → Type 0) (old new : Cache K ℕ) (charge v : ℕ) (t : LruTold) (replaced evicted : List (Idle K ℕ)) where
    pub insert_of : (mid : Cache K ℕ) (key : K) → (charge ≡ 0 → ⊥) → mid ≡ old → IsKey key → Tells mid key charge v t replaced evicted new → TellsInsertOf Tells IsKey old charge v t replaced evicted new
    insert_of mid key charged same is h = where_is_not charge 0 _ _ charged (inr (key, is, subst (λ (c : Cache K ℕ). Tells c key charge v t replaced evicted new) same h))
