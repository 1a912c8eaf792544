-- What a journal is after a step that it records.
use Rattle.std.proofs.Common.{◌≡◌, ℕ, Bool, List, [], ◌∷◌, ◌++◌, Option, Some, None, Ok, refl, sym, ap, ◌∙◌, subst}
use Rattle.std.specs.declared.sync.Arc.{Arc}
use Rattle.std.specs.declared.alloc.Global.{Global}
use Rattle.std.specs.FinMap.{FinMap}
use Rattle.std.specs.Ordering.{nat_cmp}
use Rattle.concurrent_lru.proofs.Steps.EmptyCache.{empty_lawful}
use Rattle.concurrent_lru.specs.Cache.{Cache, Held, Idle, IsLawful, empty_cache, most_pins_by_default, CopiesAreEqual}
use Rattle.concurrent_lru.specs.Request as ask
use Rattle.concurrent_lru.specs.Request.{Request}
use Rattle.concurrent_lru.specs.Reply.{Reply}
use Rattle.concurrent_lru.specs.Results.{reply_of_begun, reply_of_failed, reply_of_found}
use Rattle.concurrent_lru.specs.Runs.{accepted}
use Rattle.concurrent_lru.specs.Steps.{Step}
use Rattle.concurrent_lru.specs.declared.step.Begun.{Begun}
use Rattle.concurrent_lru.specs.declared.step.Begun.TheVariants as begun
use Rattle.concurrent_lru.specs.declared.step.Failed.{Failed}
use Rattle.concurrent_lru.specs.declared.step.Failed.TheVariants as fails
use Rattle.lru_journal.specs.Records.{Answered, record_of}
use Rattle.lru_journal.specs.Values.{request_by}
use Rattle.lru_journal.specs.Replay.{no_value, without_values, told_of, told_of_begun, told_of_failed, told_of_found, start}
use Rattle.lru_journal.specs.Journals.{Journaled, IsRecorded, IsSoundJournal, Journals}
use Rattle.lru_journal.proofs.Replays.OneRecordMore.{goes_on}
use Rattle.lru_journal.proofs.Replays.WithOtherValues.{empty_by}

-- what a call is told, as a record tells it
module _ {V : Type 0} (K : Type 0) where
  pub begun_told : (k : K) (c : ℕ) (b : Begun (Arc V Global)) → told_of_begun b ≡ told_of (ask.begin k c) (reply_of_begun {K = K} b)
  begun_told k c (begun.Make s) = refl
  begun_told k c (begun.Wait s) = refl
  begun_told k c (begun.Hit s a) = refl

  pub begun_strictly_told : (k : K) (c : ℕ) (b : Begun (Arc V Global)) → told_of_begun b ≡ told_of (ask.begin_strictly k c) (reply_of_begun {K = K} b)
  begun_strictly_told k c (begun.Make s) = refl
  begun_strictly_told k c (begun.Wait s) = refl
  begun_strictly_told k c (begun.Hit s a) = refl

  pub polled_told : (s : ℕ) (b : Begun (Arc V Global)) → told_of_begun b ≡ told_of (ask.poll s) (reply_of_begun {K = K} b)
  polled_told s (begun.Make t) = refl
  polled_told s (begun.Wait t) = refl
  polled_told s (begun.Hit t a) = refl

  pub found_told : (k : K) (f : Option (ℕ × Arc V Global)) → told_of_found f ≡ told_of (ask.get k) (reply_of_found {K = K} f)
  found_told k None = refl
  found_told k (Some r) = refl

module _ {K : Type 0} (V : Type 0) where
  pub failed_told : (s : ℕ) (f : Failed K) → told_of_failed f ≡ told_of (ask.fail s) (reply_of_failed {V = V} f)
  failed_told s fails.Left = refl
  failed_told s (fails.Removed k) = refl

module _ (K V : Type 0) where
  empty_forgotten : (capacity most next : ℕ) → without_values (empty_cache {K = K} {V = V} capacity most next) ≡ empty_cache capacity most next
  empty_forgotten capacity most next = ap (λ (m : FinMap nat_cmp (Held K (Unit {0}))). record { capacity = capacity; most_pins = most; next = next; idle = []; held = m }) (empty_by {K = K} (no_value {V = V}))

module _ {K V : Type 0} where
  -- an empty journal keeps it
  pub opens : {is_clone : K → K → Type 0} {E : K → K → Bool} {cache : Cache K V} {records : List (Answered K)} (capacity : ℕ) → CopiesAreEqual is_clone E → cache ≡ empty_cache capacity most_pins_by_default 0 → records ≡ [] → IsSoundJournal is_clone E cache records capacity
  opens {is_clone} {E} {cache} {records} capacity copies is none =
      subst (λ (y : Cache K V × List (Answered K)). IsSoundJournal is_clone E y.0 y.1 capacity) (λ i. (sym is i, sym none i))
      (record { copies = copies; history = record { lawful = empty_lawful E capacity most_pins_by_default 0; legal = empty_forgotten K V capacity most_pins_by_default 0 } })

  -- what the journal keeps is kept over a recorded step
  pub keeps_on : {is_clone : K → K → Type 0} {E : K → K → Bool} {old new : Cache K V} {rs mid all : List (Answered K)} {began : ℕ} {rec : Answered K} (r : Request K V) (p : Reply K V) (out : List (Idle K V))
      → IsSoundJournal is_clone E old rs began → IsLawful E new → Step E old r p out new → mid ≡ rs → all ≡ mid ++ rec ∷ [] → rec ≡ record_of (request_by no_value r) (told_of r p) → IsSoundJournal is_clone E new all began
  keeps_on {is_clone} {E} {old} {new} {rs} {mid} {all} {began} {rec} r p out k lawful s same is told = record {
    copies = k.copies;
    history = record {
      lawful = lawful;
      legal = goes_on E (start began) old new rs mid all r p out k.history.legal s same (is ∙ ap (λ (x : Answered K). mid ++ x ∷ []) told);
    };
  }

  -- an accepted step that adds the record rec: the journal stays sound, and the call is such a step
  pub record Adds (is_clone : K → K → Type 0) (E : K → K → Bool) (j : Journaled K V) (r : Request K V) (p : Reply K V) (out : List (Idle K V)) (rec : Answered K) (new : Journaled K V) : Type 0 where
    pub sound : IsSoundJournal is_clone E new.cache new.records new.began
    pub step : Journals E j r (accepted p out) new
    pub began : new.began ≡ j.began
    pub records : new.records ≡ j.records ++ rec ∷ []

  pub adds : {is_clone : K → K → Type 0} {E : K → K → Bool} {j : Journaled K V} {old new : Cache K V} {rs mid all : List (Answered K)} {began : ℕ} {rec : Answered K} (r : Request K V) (p : Reply K V) (out : List (Idle K V))
      → IsSoundJournal is_clone E old rs began → record { cache = old; records = rs; began = began } ≡ j → IsLawful E new → Step E old r p out new → mid ≡ rs → all ≡ mid ++ rec ∷ [] → rec ≡ record_of (request_by no_value r) (told_of r p)
      → Adds is_clone E j r p out rec (record { cache = new; records = all; began = began })
  adds {is_clone} {E} {j} {old} {new} {rs} {mid} {all} {began} {rec} r p out sound is_j lawful s same is told =
      let added : all ≡ rs ++ rec ∷ [] = is ∙ ap (λ (l : List (Answered K)). l ++ rec ∷ []) same in
      record {
        sound = keeps_on r p out sound lawful s same is told;
        step = subst (λ (x : Journaled K V). Journals E x r (accepted p out) (record { cache = new; records = all; began = began })) is_j
            (s, ap (λ (l : List (Answered K)). record { cache = new; records = l; began = began }) (added ∙ ap (λ (x : Answered K). rs ++ x ∷ []) told));
        began = ap (λ (x : Journaled K V). x.began) is_j;
        records = added ∙ ap (λ (x : Journaled K V). x.records ++ rec ∷ []) is_j;
      }

  -- such a call is recorded, if rec may be the record of its answer
  pub is_recorded : {T R : Type 0} {is_clone : K → K → Type 0} {E : K → K → Bool} {j new : Journaled K V} {r : Request K V} {p : Reply K V} {out : List (Idle K V)} {rec : Answered K} {is_record : T → Answered K → Type 0} {answer : T}
      → Adds is_clone E j r p out rec new → is_record answer rec → IsRecorded {E = R} j is_record (Ok answer) new
  is_recorded {rec = rec} a of_answer = record { began = a.began; accepted = (rec, of_answer, a.records); refused = tt }
