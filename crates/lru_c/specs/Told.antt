-- What a call returns to C, as an outcome of the abstract cache. E is the equality of keys.
use Rattle.std.specs.Prelude.{◌≡◌, ℕ, Bool, cond, ◌==◌, List, [], Option, Some, None, Result, Ok, Err, MatchBool, ⊤}
use Rattle.concurrent_lru.specs.Cache.{Cache, Idle, IsLawful}
use Rattle.concurrent_lru.specs.Request.{Request}
use Rattle.concurrent_lru.specs.Request as ask
use Rattle.concurrent_lru.specs.Reply as say
use Rattle.concurrent_lru.specs.Runs.{Outcome, accepted, refused, Stands}
use Rattle.concurrent_lru.specs.declared.refusal.Refusal.{Refusal}
use Rattle.concurrent_lru.specs.declared.refusal.Refusal.TheVariants.{Memory, Overflow, Stale, Full}
use Rattle.concurrent_lru.specs.declared.step.Begun.{Begun}
use Rattle.concurrent_lru.specs.declared.step.Begun.TheVariants as begun
use Rattle.concurrent_lru.specs.declared.step.Failed.{Failed}
use Rattle.concurrent_lru.specs.declared.step.Failed.TheVariants as failed
use Rattle.concurrent_lru.specs.declared.table.spot.Hint.{Hint}
use Rattle.lru_c.specs.Codes as code
use Rattle.lru_c.specs.declared.steps.Step.{Step}
use Rattle.lru_c.specs.declared.steps.Step.TheVariants as step
use Rattle.lru_c.specs.declared.told.LruPin.{LruPin}
use Rattle.lru_c.specs.declared.told.LruTold.{LruTold}

-- how an answer names the entry that the caller has pinned
abbrev pub pin_of : ℕ → Hint → LruPin
pin_of stamp h = record { stamp = stamp; hash = h.hash; place = h.place }

-- where a lookup of a pin's entry begins
abbrev pub hint_of : LruPin → Hint
hint_of p = record { hash = p.hash; place = p.place }

-- an answer of a code, a pin and a number; one that names no entry; one that is a code alone
abbrev pub told : ℕ → LruPin → ℕ → LruTold
told c p value = record { pin = p; value = value; code = c }

abbrev pub numbered : ℕ → ℕ → LruTold
numbered c value = told c (record { stamp = 0; hash = 0; place = 0 }) value

abbrev pub bare : ℕ → LruTold
bare c = numbered c 0

-- the code of a refusal of the core
abbrev pub refusal_code : Refusal → ℕ
refusal_code Overflow = code.overflow
refusal_code Stale = code.stale
refusal_code Memory = code.memory
refusal_code Full = code.full

-- What a begin or a poll returns, with a hint of the entry; what a get returns. Nothing is said of
-- the hint, as any will do.
abbrev pub begun_told : Hint → Begun ℕ → LruTold
begun_told hint (begun.Make s) = told code.make (pin_of s hint) 0
begun_told hint (begun.Wait s) = told code.wait (pin_of s hint) 0
begun_told hint (begun.Hit s value) = told code.hit (pin_of s hint) value

abbrev pub found_told : Option (ℕ × ℕ × Hint) → LruTold
found_told None = bare code.missed
found_told (Some r) = told code.hit (pin_of r.0 r.2) r.1

module _ {K : Type 0} where
  -- a begin, or a strict one
  abbrev pub begin_by : Bool → K → ℕ → Request K ℕ
  begin_by strict k charge = cond strict (ask.begin_strictly k charge) (ask.begin k charge)

  -- a ready with a charge, or a strict one
  abbrev pub ready_by : Bool → ℕ → ℕ → ℕ → Request K ℕ
  ready_by strict stamp v charge = cond strict (ask.ready_with_strictly stamp v charge) (ask.ready_with stamp v charge)

  -- an invalidation, which detaches an entry even if it is held, or an advice to evict
  abbrev pub evict_by : Bool → K → Request K ℕ
  evict_by even_held k = cond even_held (ask.invalidate k) (ask.advice_evict k)

  -- the request of a step that takes no key and may evict
  abbrev pub request_of : Step → Request K ℕ
  request_of (step.Release p) = ask.release p.stamp
  request_of (step.ReleaseAndEvict p) = ask.release_and_evict p.stamp
  request_of step.Prune = ask.prune
  request_of (step.SetCapacity capacity) = ask.set_capacity capacity

  -- the code of a making that failed
  abbrev pub failed_code : Failed K → ℕ
  failed_code failed.Left = code.left
  failed_code (failed.Removed k) = code.removed

  -- what a begin with this result of the core returns, and what it puts into a chain
  abbrev pub TellsBegun : Result (Begun ℕ × List (Idle K ℕ) × Hint) Refusal → LruTold → List (Idle K ℕ) → Type 0
  TellsBegun (Ok b) t gone = (t ≡ begun_told b.2 b.0) × (gone ≡ b.1)
  TellsBegun (Err e) t gone = (t ≡ bare (refusal_code e)) × (gone ≡ [])

  -- what a release with this result of the core returns, and what it puts into a chain
  abbrev pub TellsReleased : Result (List (Idle K ℕ)) Refusal → ℕ → List (Idle K ℕ) → Type 0
  TellsReleased (Ok out) c gone = (c ≡ code.done) × (gone ≡ out)
  TellsReleased (Err e) c gone = (c ≡ refusal_code e) × (gone ≡ [])

  -- the same for a ready with a charge, which returns a value that it refuses
  abbrev pub TellsCharged : Result (List (Idle K ℕ)) (Refusal × ℕ) → ℕ → List (Idle K ℕ) → Type 0
  TellsCharged (Ok out) c gone = (c ≡ code.done) × (gone ≡ out)
  TellsCharged (Err e) c gone = (c ≡ refusal_code e.0) × (gone ≡ [])

  -- The outcome that an answer stands for, unless a key was removed; what was put into a chain
  -- belongs to it. Any other code reads as a sum, and no step with such an answer has that outcome.
  abbrev pub outcome_told : LruTold → List (Idle K ℕ) → Outcome K ℕ
  outcome_told t gone =
      cond (t.code == code.make) (accepted (say.make t.pin.stamp) gone) (cond (t.code == code.wait) (accepted (say.wait t.pin.stamp) gone) (
      cond (t.code == code.hit) (accepted (say.hit t.pin.stamp t.value) gone) (cond (t.code == code.done) (accepted say.done gone) (
      cond (t.code == code.left) (accepted say.left gone) (cond (t.code == code.missed) (accepted say.missed gone) (
      cond (t.code == code.overflow) (refused Overflow) (cond (t.code == code.stale) (refused Stale) (
      cond (t.code == code.memory) (refused Memory) (cond (t.code == code.pinned) (accepted (say.pinned t.value) gone) (
      cond (t.code == code.full) (refused Full) (accepted (say.sum t.value) gone)))))))))))

  -- a refusal puts nothing into a chain
  abbrev pub IsQuiet : Outcome K ℕ → List (Idle K ℕ) → Type 0
  IsQuiet (accepted reply out) gone = ⊤
  IsQuiet (refused e) gone = gone ≡ []

  -- nothing changed, and nothing was put into a chain
  abbrev pub IsSame : Cache K ℕ → List (Idle K ℕ) → Cache K ℕ → Type 0
  IsSame old gone new = (new ≡ old) × (gone ≡ [])

  module _ (E : K → K → Bool) where
    -- The call took one step of the cache and returned its outcome. A key that was removed is not
    -- returned.
    abbrev pub Tells : Cache K ℕ → Request K ℕ → LruTold → List (Idle K ℕ) → Cache K ℕ → Type 0
    Tells old r t gone new =
        MatchBool (t.code == code.removed) ((k : K) × Stands E old r (accepted (say.removed k) gone) new) (Stands E old r (outcome_told t gone) new)

    -- The same; a refusal put nothing into a chain, and the cache is lawful afterwards.
    abbrev pub Asks : Cache K ℕ → Request K ℕ → LruTold → List (Idle K ℕ) → Cache K ℕ → Type 0
    Asks old r t gone new = Tells old r t gone new × IsQuiet (outcome_told t gone) gone × IsLawful E new

    -- The same for a ready with a charge, strict or not, which refuses a charge of 0.
    abbrev pub ReadiesWith : Bool → Cache K ℕ → ℕ → ℕ → ℕ → LruTold → List (Idle K ℕ) → Cache K ℕ → Type 0
    ReadiesWith strict old stamp v charge t gone new =
        MatchBool (charge == 0) ((t ≡ bare code.no_charge) × IsSame old gone new) (Asks old (ready_by strict stamp v charge) t gone new)

    -- The same for a call that first makes a key, from bytes for example, of which IsKey holds; if
    -- memory for it is refused, nothing changed.
    abbrev pub AsksOf : (K → Type 0) → Cache K ℕ → (K → Request K ℕ) → LruTold → List (Idle K ℕ) → Cache K ℕ → Type 0
    AsksOf IsKey old r t gone new = MatchBool (t.code == code.memory) (IsSame old gone new) ((key : K) × IsKey key × Asks old (r key) t gone new)
