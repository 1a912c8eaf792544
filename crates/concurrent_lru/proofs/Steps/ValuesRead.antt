-- A read answers of a value that fits the key, and all values go on to fit their keys.
use Rattle.std.proofs.Common.{◌≡◌, ℕ, Bool, [], Option, Some, None, Result, Ok, Err, sym, subst}
use Rattle.std.specs.Prelude.{IfOk, IfErr, IfSome}
use Rattle.concurrent_lru.specs.Cache.{Cache}
use Rattle.concurrent_lru.specs.Ready.{EqualKeysFit, ValuesFit}
use Rattle.concurrent_lru.specs.Reads.{Finds, Reads}
use Rattle.concurrent_lru.specs.Reply as say
use Rattle.concurrent_lru.specs.Runs.{accepted, refused}
use Rattle.concurrent_lru.specs.declared.refusal.Refusal.{Refusal}
use Rattle.concurrent_lru.specs.declared.refusal.Refusal.TheVariants.{Overflow}
use Rattle.concurrent_lru.proofs.Steps.ReadyValues.{hits_ready, kept_for, get_kept, release_kept}

module _ {K V : Type 0} (E : K → K → Bool) (fits : K → V → Type 0) (old : Cache K V) (k : K) (kept : ValuesFit fits old) where
  pub found_fits : (v : V) → EqualKeysFit E fits → Finds E old k v → fits k v
  found_fits v law h = kept_for E fits old k v law kept (hits_ready E old h.1 k h.0 v [] h.2)

module _ {K V T : Type 0} (E : K → K → Bool) (fits : K → V → Type 0) (old new : Cache K V) (k : K) (kept : ValuesFit fits old) where
  pub read_kept : (answers : V → T → Type 0) (r : Result (Option (ℕ × T)) Refusal) → Reads E old k answers r new → ValuesFit fits new
  read_kept answers (Ok (Some r)) h =
      let run = h.1 in
      subst (ValuesFit fits) (sym run.2.2) (release_kept E fits run.0 run.2.0 r.0 (accepted say.done []) run.2.1 (get_kept E fits old run.0 k (accepted (say.hit r.0 h.0) []) run.1 kept))
  read_kept answers (Ok None) h = get_kept E fits old new k (accepted say.missed []) h kept
  read_kept answers (Err e) h = get_kept E fits old new k (refused e) h.1 kept

  pub read_fits : (answers : V → T → Type 0) (r : Result (Option (ℕ × T)) Refusal) → EqualKeysFit E fits → Reads E old k answers r new → IfOk r (λ found. IfSome found (λ x. (v : V) × fits k v × answers v x.1))
  read_fits answers (Ok (Some r)) law h = (h.0, kept_for E fits old k h.0 law kept (hits_ready E old h.1.0 k r.0 h.0 [] h.1.1), h.2)
  read_fits answers (Ok None) law h = tt
  read_fits answers (Err e) law h = tt

module _ {K V T : Type 0} (E : K → K → Bool) (old new : Cache K V) (k : K) where
  pub read_overflows : (answers : V → T → Type 0) (r : Result (Option (ℕ × T)) Refusal) → Reads E old k answers r new → IfErr r (λ e. e ≡ Overflow)
  read_overflows answers (Ok x) h = tt
  read_overflows answers (Err e) h = h.0
