-- Runs go on by one step, and may be cut and put together.
use Rattle.std.proofs.Common.{◌≡◌, ℕ, ◌+◌, ◌<◌, ◌≤◌, Bool, List, [], ◌∷◌, ◌++◌, length, sum_by, Some, None, refl, sym, ap, ◌∙◌, subst, arith}
use Rattle.std.proofs.lemmas.List.{length-append}
use Rattle.std.proofs.lemmas.List.Sums.{sum_by_push}
use Rattle.concurrent_lru.specs.Cache.{Cache}
use Rattle.concurrent_lru.specs.Counted.{Counted, StepWritesBy, StepsWriteAtMost, WritesAtMostOneMore, most_writes}
use Rattle.concurrent_lru.specs.Request.{Request}
use Rattle.concurrent_lru.specs.Reply as say
use Rattle.concurrent_lru.specs.Results.{outcome_of_by, IsAnswerToBy, AreAnswersToBy}
use Rattle.concurrent_lru.specs.Runs.{Outcome, accepted, refused, Stands, Run}
use Rattle.concurrent_lru.specs.declared.step.Answer.{Answer}
use Rattle.concurrent_lru.specs.declared.step.Answer.TheVariants as answer
use Rattle.concurrent_lru.specs.declared.step.Step.{Step as RustStep}

module _ {K V : Type 0} where
  pub Run-push : (E : K → K → Bool) (old mid new : Cache K V) (rs : List (Request K V)) (os : List (Outcome K V)) (r : Request K V) (o : Outcome K V) → Run E old rs os mid → Stands E mid r o new → Run E old (rs ++ r ∷ []) (os ++ o ∷ []) new
  Run-push E old mid new [] [] r o h s = (new, subst (λ c. Stands E c r o new) h s, refl)
  Run-push E old mid new (q ∷ rs) (p ∷ os) r o h s = (h.0, h.1, Run-push E h.0 mid new rs os r o h.2 s)
  Run-push E old mid new [] (p ∷ os) r o h s = absurd h
  Run-push E old mid new (q ∷ rs) [] r o h s = absurd h

  pub Run-join : (E : K → K → Bool) (old mid new : Cache K V) (rs qs : List (Request K V)) (os ps : List (Outcome K V)) → Run E old rs os mid → Run E mid qs ps new → Run E old (rs ++ qs) (os ++ ps) new
  Run-join E old mid new [] qs [] ps h k = subst (λ c. Run E c qs ps new) h k
  Run-join E old mid new (r ∷ rs) qs (o ∷ os) ps h k = (h.0, h.1, Run-join E h.0 mid new rs qs os ps h.2 k)
  Run-join E old mid new [] qs (o ∷ os) ps h k = absurd h
  Run-join E old mid new (r ∷ rs) qs [] ps h k = absurd h

  pub Run-cut : (E : K → K → Bool) (old new : Cache K V) (rs qs : List (Request K V)) (os ps : List (Outcome K V)) → length rs ≡ length os → Run E old (rs ++ qs) (os ++ ps) new → (mid : Cache K V) × Run E old rs os mid × Run E mid qs ps new
  Run-cut E old new [] qs [] ps n h = (old, refl, h)
  Run-cut E old new (r ∷ rs) qs (o ∷ os) ps n h =
      let m = Run-cut E h.0 new rs qs os ps (omega (arith, n)) h.2 in
      (m.0, (h.0, h.1, m.1), m.2)
  Run-cut E old new [] qs (o ∷ os) ps n h = absurd (omega (arith, n))
  Run-cut E old new (r ∷ rs) qs [] ps n h = absurd (omega (arith, n))

  -- what a step writes is at most what its outcome says
  outcome_writes : (old new : Counted K V) (o : Outcome K V) → WritesAtMostOneMore old o new → new.work ≤ old.work + most_writes o
  outcome_writes old new (accepted (say.read s v) evicted) h = let step : new.work ≤ old.work + 1 + length evicted = h in omega (arith, step)
  outcome_writes old new (accepted (say.make s) evicted) h = let step : new.work ≤ old.work + 1 + length evicted = h in omega (arith, step)
  outcome_writes old new (accepted (say.wait s) evicted) h = let step : new.work ≤ old.work + 1 + length evicted = h in omega (arith, step)
  outcome_writes old new (accepted (say.hit s v) evicted) h = let step : new.work ≤ old.work + 1 + length evicted = h in omega (arith, step)
  outcome_writes old new (accepted say.done evicted) h = let step : new.work ≤ old.work + 1 + length evicted = h in omega (arith, step)
  outcome_writes old new (accepted say.left evicted) h = let step : new.work ≤ old.work + 1 + length evicted = h in omega (arith, step)
  outcome_writes old new (accepted (say.removed k) evicted) h = let step : new.work ≤ old.work + 1 + length evicted = h in omega (arith, step)
  outcome_writes old new (accepted say.missed evicted) h = let step : new.work ≤ old.work + 1 + length evicted = h in omega (arith, step)
  outcome_writes old new (accepted (say.sum n) evicted) h = let step : new.work ≤ old.work + 1 + length evicted = h in omega (arith, step)
  outcome_writes old new (accepted (say.inserted s) evicted) h = let step : new.work ≤ old.work + 1 + length evicted = h in omega (arith, step)
  outcome_writes old new (accepted (say.pinned v) evicted) h = let step : new.work ≤ old.work + 1 + length evicted = h in omega (arith, step)
  outcome_writes old new (refused e) h = let step : new.work ≡ old.work = h in omega (arith, step)

module _ {K V M S : Type 0} (seen : S → V) where
  step_writes : (old new : Counted K V) (a : Answer K V M S) → StepWritesBy seen old a new → new.work ≤ old.work + most_writes (outcome_of_by seen a)
  step_writes old new (answer.Read None) h = let step : new.work ≤ old.work + 1 = h in omega (arith, step)
  step_writes old new (answer.Read (Some r)) h = let step : new.work ≤ old.work + 2 = h in omega (arith, step)
  step_writes old new (answer.Begun b out) h = outcome_writes old new (outcome_of_by seen {M = M} (answer.Begun b out)) h
  step_writes old new (answer.Polled b) h = outcome_writes old new (outcome_of_by seen {M = M} (answer.Polled b)) h
  step_writes old new answer.Done h = outcome_writes old new (outcome_of_by seen {M = M} answer.Done) h
  step_writes old new (answer.Back a) h = outcome_writes old new (outcome_of_by seen {M = M} (answer.Back a)) h
  step_writes old new (answer.NotReady e a) h = outcome_writes old new (outcome_of_by seen {M = M} (answer.NotReady e a)) h
  step_writes old new (answer.Failed f) h = outcome_writes old new (outcome_of_by seen {M = M} (answer.Failed f)) h
  step_writes old new (answer.Got found) h = outcome_writes old new (outcome_of_by seen {M = M} (answer.Got found)) h
  step_writes old new (answer.Released out) h = outcome_writes old new (outcome_of_by seen {M = M} (answer.Released out)) h
  step_writes old new (answer.Repinned a) h = outcome_writes old new (outcome_of_by seen {M = M} (answer.Repinned a)) h
  step_writes old new (answer.Gone out) h = outcome_writes old new (outcome_of_by seen {M = M} (answer.Gone out)) h
  step_writes old new (answer.Inserted i) h = outcome_writes old new (outcome_of_by seen {M = M} (answer.Inserted i)) h
  step_writes old new (answer.NotInserted e a) h = outcome_writes old new (outcome_of_by seen {M = M} (answer.NotInserted e a)) h
  step_writes old new (answer.Total n) h = outcome_writes old new (outcome_of_by seen {M = M} (answer.Total n)) h
  step_writes old new (answer.Refused e) h = outcome_writes old new (outcome_of_by seen {M = M} (answer.Refused e)) h

  -- what a run writes at most goes on by what its next step does
  pub StepsWriteAtMost-push : (old mid new : Counted K V) (os : List (Outcome K V)) (a : Answer K V M S) → StepsWriteAtMost old os mid → StepWritesBy seen mid a new → StepsWriteAtMost old (os ++ outcome_of_by seen a ∷ []) new
  StepsWriteAtMost-push old mid new os a so_far more =
      let before : mid.work ≤ old.work + sum_by most_writes os = so_far in
      let step : new.work ≤ mid.work + most_writes (outcome_of_by seen a) = step_writes mid new a more in
      let sum : sum_by most_writes (os ++ outcome_of_by seen a ∷ []) ≡ sum_by most_writes os + most_writes (outcome_of_by seen a) = sum_by_push most_writes os (outcome_of_by seen a) in
      omega (arith, before, step, sum)

  pub AreAnswersTo-push : (ss : List (RustStep K S)) (others : List (Answer K V M S)) (s : RustStep K S) (a : Answer K V M S) → AreAnswersToBy seen ss others → IsAnswerToBy seen s a → AreAnswersToBy seen (ss ++ s ∷ []) (others ++ a ∷ [])
  AreAnswersTo-push [] [] s a h k = (k, tt)
  AreAnswersTo-push (t ∷ ss) (b ∷ others) s a h k = (h.0, AreAnswersTo-push ss others s a h.1 k)
  AreAnswersTo-push [] (b ∷ others) s a h k = absurd h
  AreAnswersTo-push (t ∷ ss) [] s a h k = absurd h

-- one more answer fits in the room that was made
pub room_for : {X : Type 0} (told capacity : ℕ) (xs ys all : List X) (x : X) → xs ++ x ∷ ys ≡ all → told ≡ length xs → length all ≤ capacity → told < capacity
room_for told capacity xs ys all x parts t room =
    let n : length xs + length (x ∷ ys) ≡ length all = sym (length-append xs (x ∷ ys)) ∙ ap length parts in
    omega (arith, n, t, room)
