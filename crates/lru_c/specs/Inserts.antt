-- What an insert returns to C: the stamp of the new entry, or why there is none. E is the equality
-- of keys.
use Rattle.std.specs.Prelude.{◌≡◌, ◌++◌, ◌⊎◌, ◌==◌, ℕ, Bool, List, [], Result, Ok, Err, MatchBool}
use Rattle.concurrent_lru.specs.Cache.{Cache, Idle, IsLawful, HasCapacityFor, LacksCapacityFor}
use Rattle.concurrent_lru.specs.Inserts.{Replaces, RefusesToReplace}
use Rattle.concurrent_lru.specs.declared.refusal.Refusal.{Refusal}
use Rattle.concurrent_lru.specs.declared.step.Inserted.{Inserted}
use Rattle.concurrent_lru.specs.declared.table.spot.Hint.{Hint}
use Rattle.lru_c.specs.Codes as code
use Rattle.lru_c.specs.Counted.{inserted}
use Rattle.lru_c.specs.Told.{bare, pin_of, refusal_code, told}
use Rattle.lru_c.specs.declared.cache.Cache.{Cache as Inner}
use Rattle.lru_c.specs.declared.told.LruTold.{LruTold}

module _ {K : Type 0} where
  -- nothing changed, and nothing was replaced or evicted
  abbrev pub IsUntouched : Cache K ℕ → List (Idle K ℕ) → List (Idle K ℕ) → Cache K ℕ → Type 0
  IsUntouched old replaced evicted new = (new ≡ old) × (replaced ≡ []) × (evicted ≡ [])

  -- What an insert with this result of the core returns, with what it replaced and what it evicted.
  abbrev pub TellsInserted : {M : Type 0} → Result (Inserted K ℕ M ℕ × Hint) (Refusal × ℕ) → LruTold → List (Idle K ℕ) → List (Idle K ℕ) → Type 0
  TellsInserted (Ok i) t replaced evicted = (t ≡ told code.done (pin_of i.0.stamp i.1) 0) × (replaced ≡ i.0.replaced) × (evicted ≡ i.0.evicted)
  TellsInserted (Err e) t replaced evicted = (t ≡ bare (refusal_code e.0)) × (replaced ≡ []) × (evicted ≡ [])

  module _ (E : K → K → Bool) where
    -- The value was inserted under a new stamp, with which the call returned a pin.
    abbrev pub TellsNewStamp : Cache K ℕ → K → ℕ → ℕ → LruTold → List (Idle K ℕ) → List (Idle K ℕ) → Cache K ℕ → Type 0
    TellsNewStamp old k charge v t replaced evicted new = (t ≡ told code.done t.pin 0) × Replaces E old k charge v t.pin.stamp replaced evicted new × IsLawful E new

    -- The core refused, and the call returned the code of its refusal.
    abbrev pub TellsRefusal : Cache K ℕ → K → ℕ → LruTold → List (Idle K ℕ) → List (Idle K ℕ) → Cache K ℕ → Type 0
    TellsRefusal old k charge t replaced evicted new = (e : Refusal) × (t ≡ bare (refusal_code e)) × RefusesToReplace E old k charge e new × IsUntouched old replaced evicted new

    -- One of these.
    abbrev pub TellsInsert : Cache K ℕ → K → ℕ → ℕ → LruTold → List (Idle K ℕ) → List (Idle K ℕ) → Cache K ℕ → Type 0
    TellsInsert old k charge v t replaced evicted new =
        TellsNewStamp old k charge v t replaced evicted new ⊎ TellsRefusal old k charge t replaced evicted new

    -- A strict insert: an insert, if the capacity has room for the charge beside the held entries;
    -- otherwise the call returned `full`, and nothing changed.
    abbrev pub TellsStrictInsert : Cache K ℕ → K → ℕ → ℕ → LruTold → List (Idle K ℕ) → List (Idle K ℕ) → Cache K ℕ → Type 0
    TellsStrictInsert old k charge v t replaced evicted new =
        (HasCapacityFor old charge × TellsInsert old k charge v t replaced evicted new) ⊎ (LacksCapacityFor old charge × (t ≡ bare code.full) × IsUntouched old replaced evicted new)

    -- The one or the other.
    abbrev pub TellsInsertBy : Bool → Cache K ℕ → K → ℕ → ℕ → LruTold → List (Idle K ℕ) → List (Idle K ℕ) → Cache K ℕ → Type 0
    TellsInsertBy strict old k charge v t replaced evicted new =
        MatchBool strict (TellsStrictInsert old k charge v t replaced evicted new) (TellsInsert old k charge v t replaced evicted new)

  -- An insert that Tells describes, by a call that refuses a charge of 0 and first makes a key of
  -- which IsKey holds, from bytes for example. If memory for the key is refused, nothing changes.
  abbrev pub TellsInsertOf : (Cache K ℕ → K → ℕ → ℕ → LruTold → List (Idle K ℕ) → List (Idle K ℕ) → Cache K ℕ → Type 0) → (K → Type 0) → Cache K ℕ → ℕ → ℕ → LruTold → List (Idle K ℕ) → List (Idle K ℕ) → Cache K ℕ → Type 0
  TellsInsertOf Tells IsKey old charge v t replaced evicted new =
      MatchBool (charge == 0) ((t ≡ bare code.no_charge) × IsUntouched old replaced evicted new)
      (((t ≡ bare code.memory) × IsUntouched old replaced evicted new) ⊎ ((key : K) × IsKey key × Tells old key charge v t replaced evicted new))

  -- The same for a cache with its counts, where both lists are one after the other, those that were
  -- replaced first.
  abbrev pub InsertsOne : {R : Type 0} → (Cache K ℕ → K → ℕ → ℕ → LruTold → List (Idle K ℕ) → List (Idle K ℕ) → Cache K ℕ → Type 0) → (K → Type 0) → Inner K R → ℕ → ℕ → LruTold → List (Idle K ℕ) → Inner K R → Type 0
  InsertsOne Tells IsKey o charge v t out n =
      (replaced : List (Idle K ℕ)) × (evicted : List (Idle K ℕ)) × (out ≡ replaced ++ evicted) × TellsInsertOf Tells IsKey o.state.cache charge v t replaced evicted n.state.cache × (n.counts ≡ inserted t o.counts)
