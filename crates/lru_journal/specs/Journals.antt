-- A journal: a cache with the records of its accepted steps, and what each of its calls does.
use Rattle.std.specs.Prelude.{◌≡◌, ℕ, ◌⊎◌, Bool, true, List, [], ◌∷◌, ◌++◌, Option, Result, Ok, Err, IfOk, OnErr}
use Rattle.std.specs.declared.sync.Arc.{Arc}
use Rattle.std.specs.declared.alloc.Global.{Global}
use Rattle.concurrent_lru.specs.Cache.{Cache, empty_cache, most_pins_by_default, IsLawful, CopiesAreEqual}
use Rattle.concurrent_lru.specs.Request as ask
use Rattle.concurrent_lru.specs.Request.{Request}
use Rattle.concurrent_lru.specs.Reads.{Reads}
use Rattle.concurrent_lru.specs.Reply as say
use Rattle.concurrent_lru.specs.Runs.{Outcome, accepted, refused, Refuses}
use Rattle.concurrent_lru.specs.Steps.{Step}
use Rattle.concurrent_lru.specs.declared.refusal.Refusal.{Refusal}
use Rattle.concurrent_lru.specs.declared.refusal.Refusal.TheVariants.{Memory}
use Rattle.lru_journal.specs.Records.{Answered, record_of}
use Rattle.lru_journal.specs.Replay.{no_value, without_values, told_of, told_of_found, start, Replays}
use Rattle.lru_journal.specs.Values.{request_by}

-- a cache, the records of its accepted steps, and the capacity that it began with
pub record Journaled (K V : Type 0) : Type 0 where
  pub cache : Cache K V
  pub records : List (Answered K)
  pub began : ℕ

module _ {K V : Type 0} where
  -- an empty journal of this capacity
  abbrev pub empty_journal : ℕ → Journaled K V
  empty_journal capacity = record { cache = empty_cache capacity most_pins_by_default 0; records = []; began = capacity }

  -- the results of `ready` and `total`, as outcomes
  abbrev pub outcome_of_journal_ready : Result (Unit {0}) (Refusal × Arc V Global) → Outcome K V
  outcome_of_journal_ready (Ok _) = accepted say.done []
  outcome_of_journal_ready (Err e) = refused e.0

  abbrev pub outcome_of_journal_total : Result ℕ Refusal → Outcome K V
  outcome_of_journal_total (Ok n) = accepted (say.sum n) []
  outcome_of_journal_total (Err e) = refused e

  -- the cache is lawful, and the records replay from the empty cache to this one
  pub record IsHistory (E : K → K → Bool) (j : Journaled K V) : Type 0 where
    pub lawful : IsLawful E j.cache
    pub legal : Replays E (start j.began) j.records (without_values j.cache)

  -- From old, a journal may give the request this outcome: an accepted request is a step of the
  -- cache and adds its record; one refused by the cache or for lack of memory changes nothing.
  abbrev pub Journals : (K → K → Bool) → Journaled K V → Request K V → Outcome K V → Journaled K V → Type 0
  Journals E old r (accepted reply evicted) new =
      Step E old.cache r reply evicted new.cache
      × (new ≡ record { cache = new.cache; records = old.records ++ record_of (request_by no_value r) (told_of r reply) ∷ []; began = old.began })
  Journals E old r (refused e) new = ((e ≡ Memory) ⊎ Refuses E old.cache r e) × (new ≡ old)

  -- the same of a request with a key, which is made with a copy of it
  abbrev pub JournalsOfCopy : (K → K → Bool) → K → Journaled K V → (K → Request K V) → Outcome K V → Journaled K V → Type 0
  JournalsOfCopy E key old request_of (accepted reply evicted) new = (copy : K) × (E copy key ≡ true) × Journals E old (request_of copy) (accepted reply evicted) new
  JournalsOfCopy E key old request_of (refused e) new = ((e ≡ Memory) ⊎ ((copy : K) × (E copy key ≡ true) × Refuses E old.cache (request_of copy) e)) × (new ≡ old)

  -- From old, a journal may read the key: an accepted read is one of the cache and adds its record;
  -- one refused by the cache or for lack of memory changes nothing.
  abbrev pub JournalsRead : {T : Type 0} → (K → K → Bool) → Journaled K V → K → (V → T → Type 0) → Result (Option (ℕ × T)) Refusal → Journaled K V → Type 0
  JournalsRead E old k answers (Ok found) new =
      Reads E old.cache k answers (Ok found) new.cache
      × (new ≡ record { cache = new.cache; records = old.records ++ record_of (ask.read k) (told_of_found found) ∷ []; began = old.began })
  JournalsRead E old k answers (Err e) new = ((e ≡ Memory) ⊎ Reads E old.cache k answers (Err e) new.cache) × (new ≡ old)

-- a call and its record: an accepted call adds one record that is_record allows for its result; a
-- refused one changes nothing
pub record IsRecorded {K V T E : Type 0} (old : Journaled K V) (is_record : T → Answered K → Type 0) (result : Result T E) (new : Journaled K V) : Type 0 where
  pub began : new.began ≡ old.began
  pub accepted : IfOk result (λ x. (r : Answered K) × is_record x r × (new.records ≡ old.records ++ r ∷ []))
  pub refused : OnErr result (new ≡ old)

module _ {K V : Type 0} where
  -- what holds of every journal: its records are its history, and a copy of a key equals the key
  pub record IsSoundJournal (is_clone : K → K → Type 0) (E : K → K → Bool) (cache : Cache K V) (records : List (Answered K)) (began : ℕ) : Type 0 where
    pub copies : CopiesAreEqual is_clone E
    pub history : IsHistory E (record { cache = cache; records = records; began = began })
