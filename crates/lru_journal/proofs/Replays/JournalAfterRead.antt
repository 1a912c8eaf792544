-- What a journal is after a read that it records.
use Rattle.std.proofs.Common.{◌≡◌, ℕ, Bool, List, [], ◌∷◌, ◌++◌, Option, Some, None, Result, Ok, Err, inl, inr, refl, sym, ap, ◌∙◌, subst}
use Rattle.std.specs.Prelude.{IfSome}
use Rattle.std.specs.Result.{IsErrAnd}
use Rattle.concurrent_lru.specs.Cache.{Cache, IsLawful}
use Rattle.concurrent_lru.specs.Reads.{Reads}
use Rattle.concurrent_lru.specs.Request as ask
use Rattle.concurrent_lru.specs.Reply as say
use Rattle.concurrent_lru.specs.Reply.{Reply}
use Rattle.concurrent_lru.specs.Steps.{Releases, Step}
use Rattle.concurrent_lru.specs.declared.refusal.Refusal.{Refusal}
use Rattle.concurrent_lru.specs.declared.refusal.Refusal.TheVariants.{Memory}
use Rattle.lru_journal.specs.Journals.{Journaled, IsSoundJournal, JournalsRead}
use Rattle.lru_journal.specs.Records.{Answered, record_of}
use Rattle.lru_journal.specs.Replay.{told_of, told_of_found}
use Rattle.lru_journal.proofs.Replays.JournalAfterStep.{keeps_on}

module _ {K V : Type 0} where
  -- a read is a step, whose reply is told as what was found
  read_step : {T : Type 0} (E : K → K → Bool) (old new : Cache K V) (k : K) (answers : V → T → Type 0) (found : Option (ℕ × T)) → Reads E old k answers (Ok found) new
      → (p : Reply K V) × Step E old (ask.read k) p [] new × (told_of_found found ≡ told_of {K = K} {V = V} (ask.read k) p)
  read_step E old new k answers None s = (say.missed, s, refl)
  read_step E old new k answers (Some r) s =
      let run = s.1 in
      (say.read r.0 s.0, record { mid = run.0; found = run.1; released = subst (λ c. Releases E run.0 r.0 [] c) (sym run.2.2) run.2.1; none = refl }, refl)

  -- what the journal keeps is kept over a recorded read
  pub keeps_read : {T : Type 0} {is_clone : K → K → Type 0} {E : K → K → Bool} {old new : Cache K V} {rs mid all : List (Answered K)} {began : ℕ} {rec : Answered K} (k : K) (answers : V → T → Type 0) (found : Option (ℕ × T))
      → IsSoundJournal is_clone E old rs began → IsLawful E new → Reads E old k answers (Ok found) new → mid ≡ rs → all ≡ mid ++ rec ∷ [] → rec ≡ record_of (ask.read k) (told_of_found found) → IsSoundJournal is_clone E new all began
  keeps_read {T} {is_clone} {E} {old} {new} k answers found j lawful s same is told =
      let x = read_step E old new k answers found s in
      keeps_on (ask.read k) x.0 [] j lawful x.1 same is (told ∙ ap (record_of (ask.read k)) x.2)

  -- the recorded read, as the journal is seen
  pub accepts_read : {T : Type 0} (E : K → K → Bool) {j : Journaled K V} {old new : Cache K V} {rs mid all : List (Answered K)} {began : ℕ} {rec : Answered K} (k : K) (answers : V → T → Type 0) (found : Option (ℕ × T))
      → record { cache = old; records = rs; began = began } ≡ j → Reads E old k answers (Ok found) new → mid ≡ rs → all ≡ mid ++ rec ∷ [] → rec ≡ record_of (ask.read k) (told_of_found found)
      → JournalsRead E j k answers (Ok found) (record { cache = new; records = all; began = began })
  accepts_read E {j} {old} {new} {rs} {mid} {all} {began} {rec} k answers found is_j s same is told =
      subst (λ (x : Journaled K V). JournalsRead E x k answers (Ok found) (record { cache = new; records = all; began = began })) is_j
      (s, ap (λ (l : List (Answered K)). record { cache = new; records = l; began = began }) (is ∙ ap (λ (l : List (Answered K)). l ++ rec ∷ []) same ∙ ap (λ (x : Answered K). rs ++ x ∷ []) told))

  -- what is answered is of some value
  pub answers_some : {T : Type 0} (E : K → K → Bool) (old new : Cache K V) (k : K) (answers : V → T → Type 0) (found : Option (ℕ × T)) → Reads E old k answers (Ok found) new → IfSome found (λ r. (v : V) × answers v r.1)
  answers_some E old new k answers None s = tt
  answers_some E old new k answers (Some r) s = (s.0, s.2)

  -- a read that found no room
  pub no_room_read : {T : Type 0} (E : K → K → Bool) {j now : Journaled K V} (k : K) (answers : V → T → Type 0) (result : Result (Option (ℕ × T)) Refusal) (e : Refusal)
      → IsErrAnd result (λ x. x ≡ e) → e ≡ Memory → now ≡ j → JournalsRead E j k answers result now
  no_room_read E k answers (Ok found) e h is same = absurd h
  no_room_read E k answers (Err x) e h is same = (inl (h ∙ is), same)

  -- a read that the cache refused
  pub refuses_read : {T : Type 0} (E : K → K → Bool) {j : Journaled K V} {old new : Cache K V} {rs mid : List (Answered K)} {began : ℕ} (k : K) (answers : V → T → Type 0) (result : Result (Option (ℕ × T)) Refusal) (e : Refusal)
      → IsErrAnd result (λ x. x ≡ e) → record { cache = old; records = rs; began = began } ≡ j → Reads E old k answers (Err e) new → mid ≡ rs
      → JournalsRead E j k answers result (record { cache = new; records = mid; began = began })
  refuses_read E k answers (Ok found) e h is_j s same = absurd h
  refuses_read E {j} {old} {new} {rs} {mid} {began} k answers (Err x) e h is_j s same = (
    inr (subst (λ (y : Journaled K V × Refusal). Reads E y.0.cache k answers (Err y.1) new) (λ i. (is_j i, sym h i)) s),
    (λ i. record { cache = s.1.1 i; records = same i; began = began }) ∙ is_j,
  )
