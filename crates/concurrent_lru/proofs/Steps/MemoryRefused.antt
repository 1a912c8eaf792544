-- A refusal for lack of memory, as an outcome.
use Rattle.std.proofs.Common.{◌≡◌, Bool, List, Option, Result, Ok, Err, refl, sym, ◌∙◌, subst, ℕ}
use Rattle.std.specs.Result.{IsErrAnd}
use Rattle.concurrent_lru.specs.declared.refusal.Refusal.{Refusal}
use Rattle.concurrent_lru.specs.declared.refusal.Refusal.TheVariants.{Memory}
use Rattle.concurrent_lru.specs.declared.step.Begun.{Begun}
use Rattle.concurrent_lru.specs.declared.table.spot.Hint.{Hint}
use Rattle.concurrent_lru.specs.Cache.{Cache, Idle}
use Rattle.concurrent_lru.specs.Request.{Request}
use Rattle.concurrent_lru.specs.Runs.{Stands, TakesMemory, Refuses}
use Rattle.concurrent_lru.specs.Results.{outcome_of_begin_by, outcome_of_poll_by, outcome_of_get_by, outcome_of_repin_by, begun_without_hint, found_without_hint}

module _ {K V S : Type 0} (seen : S → V) where
  pub begun_memory : (E : K → K → Bool) (old : Cache K V) (req : Request K V) (r : Result (Begun S × List (Idle K V) × Hint) Refusal) (x : Refusal) → IsErrAnd r (λ e. e ≡ x) → x ≡ Memory → TakesMemory E old req → Stands E old req (outcome_of_begin_by seen (begun_without_hint r)) old
  begun_memory E old req (Ok v) x h m t = absurd h
  begun_memory E old req (Err e) x h m t = subst (λ y. Refuses E old req y × (old ≡ old)) (sym (h ∙ m)) (t, refl)

  pub polled_memory : (E : K → K → Bool) (old : Cache K V) (req : Request K V) (r : Result (Begun S) Refusal) (x : Refusal) → IsErrAnd r (λ e. e ≡ x) → x ≡ Memory → TakesMemory E old req → Stands E old req (outcome_of_poll_by seen r) old
  polled_memory E old req (Ok v) x h m t = absurd h
  polled_memory E old req (Err e) x h m t = subst (λ y. Refuses E old req y × (old ≡ old)) (sym (h ∙ m)) (t, refl)

  pub got_memory : (E : K → K → Bool) (old : Cache K V) (req : Request K V) (r : Result (Option (ℕ × S × Hint)) Refusal) (x : Refusal) → IsErrAnd r (λ e. e ≡ x) → x ≡ Memory → TakesMemory E old req → Stands E old req (outcome_of_get_by seen (found_without_hint r)) old
  got_memory E old req (Ok v) x h m t = absurd h
  got_memory E old req (Err e) x h m t = subst (λ y. Refuses E old req y × (old ≡ old)) (sym (h ∙ m)) (t, refl)

  pub repinned_memory : (E : K → K → Bool) (old : Cache K V) (req : Request K V) (r : Result S Refusal) (x : Refusal) → IsErrAnd r (λ e. e ≡ x) → x ≡ Memory → TakesMemory E old req → Stands E old req (outcome_of_repin_by seen r) old
  repinned_memory E old req (Ok v) x h m t = absurd h
  repinned_memory E old req (Err e) x h m t = subst (λ y. Refuses E old req y × (old ≡ old)) (sym (h ∙ m)) (t, refl)
