-- An insert is an invalidate, a begin and a ready in one step, or a refusal that changes nothing.
use Rattle.std.specs.Prelude.{◌≡◌, ℕ, ◌⊎◌, Bool, List, [], ◌∷◌, Result, Ok, Err}
use Rattle.concurrent_lru.specs.Cache.{Cache, Idle, HasCapacityFor, LacksCapacityFor}
use Rattle.std.specs.Result.{IsErrAnd}
use Rattle.concurrent_lru.specs.Request as ask
use Rattle.concurrent_lru.specs.Reply as say
use Rattle.concurrent_lru.specs.Runs.{accepted, refused, Stands, Run}
use Rattle.concurrent_lru.specs.declared.refusal.Refusal.{Refusal}
use Rattle.concurrent_lru.specs.declared.refusal.Refusal.TheVariants.{Full}
use Rattle.concurrent_lru.specs.declared.step.Inserted.{Inserted}
use Rattle.concurrent_lru.specs.declared.table.spot.Spot.{Spot}

module _ {K V : Type 0} (E : K → K → Bool) where
  -- From old, the key is invalidated, begun with this charge under the stamp s, and given v.
  abbrev pub Replaces : Cache K V → K → ℕ → V → ℕ → List (Idle K V) → List (Idle K V) → Cache K V → Type 0
  Replaces old k charge v s replaced evicted new =
      Run E old (ask.invalidate k ∷ ask.begin k charge ∷ ask.ready s v ∷ [])
      (accepted say.done replaced ∷ accepted (say.make s) evicted ∷ accepted say.done [] ∷ []) new

  -- After an invalidate, the begin would be refused with e. Nothing changes.
  pub record RefusesToReplace (old : Cache K V) (k : K) (charge : ℕ) (e : Refusal) (new : Cache K V) : Type 0 where
    pub mid : Cache K V
    pub replaced : List (Idle K V)
    pub invalidated : Stands E old (ask.invalidate k) (accepted say.done replaced) mid
    pub refuses : Stands E mid (ask.begin k charge) (refused e) mid
    pub same : new ≡ old

  -- what an insert with this result does
  abbrev pub Inserts : {M S : Type 0} → Cache K V → K → ℕ → V → Result (Inserted K V M S) (Refusal × S) → Cache K V → Type 0
  Inserts old k charge v (Ok i) new = Replaces old k charge v i.stamp i.replaced i.evicted new
  Inserts old k charge v (Err e) new = RefusesToReplace old k charge e.0 new

  -- A strict insert is an insert that the capacity has room for beside the held entries. Otherwise
  -- it is refused as full, and nothing changes.
  abbrev pub InsertsStrictly : {M S : Type 0} → Cache K V → K → ℕ → V → Result (Inserted K V M S) (Refusal × S) → Cache K V → Type 0
  InsertsStrictly old k charge v r new = (HasCapacityFor old charge × Inserts old k charge v r new) ⊎ (LacksCapacityFor old charge × IsErrAnd r (λ e. e.0 ≡ Full) × (new ≡ old))

  -- a strict insert is refused: the capacity has no room, or it has, and an insert would be refused
  abbrev pub RefusesToReplaceStrictly : Cache K V → K → ℕ → Refusal → Cache K V → Type 0
  RefusesToReplaceStrictly old k charge e new = (LacksCapacityFor old charge × (e ≡ Full) × (new ≡ old)) ⊎ (HasCapacityFor old charge × RefusesToReplace old k charge e new)

  -- an insert before its ready: the spot of the new entry, what was replaced and what was evicted
  abbrev pub Remakes : Cache K V → K → ℕ → Result (Spot × List (Idle K V) × List (Idle K V)) Refusal → Cache K V → Type 0
  Remakes old k charge (Ok r) new =
      (mid : Cache K V) × Stands E old (ask.invalidate k) (accepted say.done r.1) mid × Stands E mid (ask.begin k charge) (accepted (say.make r.0.stamp) r.2) new
  Remakes old k charge (Err e) new = RefusesToReplace old k charge e new
