-- A strict begin, insert or ready_with is granted only within the capacity. No other request raises
-- the sum.
use Rattle.std.proofs.Common.{◌≡◌, ℕ, ◌+◌, ◌≤◌, ◌⊎◌, inl, inr, Bool, false, List, [], length, ap, subst, arith}
use Rattle.concurrent_lru.specs.Cache.{Cache, Idle, Held, IsLawful, Settles, HasCapacityFor, HasCapacityToCharge, IsWithinCapacity, charges, making, ready, untaken, pinned_of, sum_of}
use Rattle.concurrent_lru.specs.Representation.{held_charges}
use Rattle.concurrent_lru.specs.Request as ask
use Rattle.concurrent_lru.specs.Request.{Request}
use Rattle.concurrent_lru.specs.Reply as say
use Rattle.concurrent_lru.specs.Reply.{Reply}
use Rattle.concurrent_lru.specs.Runs.{Outcome, accepted, refused, Stands}
use Rattle.concurrent_lru.specs.Steps.{with_held, held_detached, Holds, Makes, Invalidates, Stores, Step, IsAbsent}
use Rattle.concurrent_lru.specs.StepLaws.{IsStrict, StrictRequestsKeepLimit, capacity_by}
use Rattle.concurrent_lru.specs.declared.refusal.Refusal.TheVariants.{Memory, Overflow, Stale, Full}
use Rattle.concurrent_lru.proofs.AddedUp.SizesOfSteps.{Resizes, same_size, settled_size, joined_size, left_size, phase_size, hit_size, removed_size, released_and_evicted_size, repinned_size, pruned_size}
use Rattle.concurrent_lru.proofs.AddedUp.CountsOfSteps.{release_evicts, advice_evicts, invalidate_evicts, capacity_evicts, renewed_size}
use Rattle.concurrent_lru.proofs.Entries.SumsOfHeld.{sum-insert, sum-change}
use Rattle.concurrent_lru.proofs.Steps.BeginOfAbsent.{with_new_entry, next_free}
use Rattle.concurrent_lru.proofs.Steps.ChargeOfMaking.{charged_within}
use Rattle.concurrent_lru.proofs.Steps.LawfulAfterChange.{orderly}
use Rattle.concurrent_lru.proofs.Steps.StaysLawful.{keeps_limits, invalidates_lawful}

module _ {K V : Type 0} where
  -- where no entry comes, the sum does not rise
  no_more : (old new : Cache K V) (left left_charge : ℕ) → Resizes old new 0 0 left left_charge → sum_of new ≤ sum_of old
  no_more old new left left_charge r = let s : sum_of new + left_charge ≡ sum_of old + 0 = r.charge in omega (arith, s)

module _ {K V : Type 0} (E : K → K → Bool) where
  -- a new entry that the capacity has room for beside the held ones
  pub made_within : (old new : Cache K V) (k : K) (charge s : ℕ) (out : List (Idle K V)) → IsLawful E old → HasCapacityFor old charge → Makes E old k charge s out new → IsWithinCapacity new
  made_within old new k charge s out l has m =
      let mid = with_new_entry old m.copy charge in
      let held : Held K V = record { key = m.copy; charge = charge; pins = 1; detached = false; phase = making } in
      let settles : Settles mid out new = subst (λ t. Settles (record (with_held old t held) { next = old.next + 1 }) out new) m.stamp m.settles in
      let cap : new.capacity ≡ old.capacity = ap (λ c. c.capacity) settles.others in
      let sizes = settled_size mid new out settles in
      let sum : sum_of new + charges out ≡ sum_of mid + 0 = sizes.charge in
      elim settles.front.suffices [
        | inl low ↦ let fits : sum_of mid ≤ old.capacity + charges out = low in omega (arith, cap, sum, fits)
        | inr none ↦
            let a : sum_of new ≡ charges new.idle + held_charges mid.held = ap (λ c. sum_of c) settles.others in
            let b : charges new.idle ≡ 0 = ap charges none in
            let c : held_charges mid.held ≡ held_charges old.held + charge = sum-insert (λ x. x.charge) old.held old.next held (next_free E old (orderly l)) in
            let d : held_charges old.held + charge ≤ old.capacity = has in
            omega (arith, cap, a, b, c, d)
      ]

  -- an invalidate keeps the charges of the held entries
  invalidated_pinned : (old mid : Cache K V) (k : K) (out : List (Idle K V)) → Invalidates E old k out mid → pinned_of mid ≡ pinned_of old
  invalidated_pinned old mid k out (inl d) = ap pinned_of d.changed
  invalidated_pinned old mid k out (inr (inl d)) =
      let a : pinned_of mid ≡ pinned_of (with_held old d.stamp (held_detached d.entry)) = ap pinned_of d.changed in
      let b : pinned_of (with_held old d.stamp (held_detached d.entry)) + d.entry.charge ≡ pinned_of old + d.entry.charge = sum-change (λ x. x.charge) old.held d.stamp d.entry (held_detached d.entry) d.at in
      omega (arith, a, b)
  invalidated_pinned old mid k out (inr (inr s)) = ap pinned_of s.1.same

  pub stored_within : (old new : Cache K V) (k : K) (charge : ℕ) (v : V) (s : ℕ) (out : List (Idle K V)) → IsLawful E old → HasCapacityFor old charge → Stores E old k charge v s out new → IsWithinCapacity new
  stored_within old new k charge v s out l has h =
      let lawful = invalidates_lawful E old k h.replaced h.mid l h.invalidated in
      let pinned : pinned_of h.mid ≡ pinned_of old = invalidated_pinned old h.mid k h.replaced h.invalidated in
      let a : h.mid.capacity ≡ old.capacity = (keeps_limits K V E old h.mid (ask.invalidate k) (accepted say.done h.replaced) h.invalidated).0 in
      let room : pinned_of old + charge ≤ old.capacity = has in
      let made : sum_of h.made ≤ h.made.capacity = made_within h.mid h.made k charge s h.evicted lawful (omega (arith, pinned, a, room)) h.begun in
      let given = phase_size {E = E} h.made new s making (ready v) [] h.given in
      let b : sum_of new + 0 ≡ sum_of h.made + 0 = given.charge in
      let c : new.capacity ≡ h.made.capacity = ap (λ c. c.capacity) h.given.changed in
      omega (arith, made, b, c)

  step_within : (old new : Cache K V) (r : Request K V) (p : Reply K V) (out : List (Idle K V)) → IsLawful E old → IsStrict r → Step E old r p out new → (sum_of new ≤ sum_of old) ⊎ IsWithinCapacity new
  step_within old new (ask.begin k c) p out l strict h = absurd strict
  step_within old new (ask.begin_strictly k c) (say.make s) out l strict (inl h) = inr (made_within old new k c s out l h.0 h.1)
  step_within old new (ask.begin_strictly k c) (say.make s) out l strict (inr j) = inl (no_more old new 0 0 (joined_size {E = E} old new k s untaken making out j))
  step_within old new (ask.begin_strictly k c) (say.wait s) out l strict j = inl (no_more old new 0 0 (joined_size {E = E} old new k s making making out j))
  step_within old new (ask.begin_strictly k c) (say.hit s v) out l strict h = inl (no_more old new 0 0 (hit_size {E = E} old new k s v out l h))
  step_within old new (ask.poll s) (say.wait t) out l strict h = inl (no_more old new 0 0 (phase_size {E = E} old new s making making out h.1))
  step_within old new (ask.poll s) (say.make t) out l strict h = inl (no_more old new 0 0 (phase_size {E = E} old new s untaken making out h.1))
  step_within old new (ask.poll s) (say.hit t v) out l strict h = inl (no_more old new 0 0 (phase_size {E = E} old new s (ready v) (ready v) out h.1))
  step_within old new (ask.ready s v) say.done out l strict h = inl (no_more old new 0 0 (phase_size {E = E} old new s making (ready v) out h))
  step_within old new (ask.ready_with s v c) p out l strict h = absurd strict
  step_within old new (ask.ready_with_strictly s v c) say.done out l strict h = inr (charged_within E old new s v c out h.0 h.1)
  step_within old new (ask.fail s) say.left out l strict h = inl (no_more old new 0 0 (left_size {E = E} old new s making untaken out h))
  step_within old new (ask.fail s) (say.removed k) out l strict h = inl (no_more old new 1 h.entry.charge (removed_size {E = E} old new s k out h))
  step_within old new (ask.get k) (say.hit s v) out l strict h = inl (no_more old new 0 0 (hit_size {E = E} old new k s v out l h))
  step_within old new (ask.get k) say.missed out l strict h = inl (no_more old new 0 0 (same_size old new h.1.same))
  step_within old new (ask.release s) say.done out l strict h = inl (no_more old new (length out) (charges out) (release_evicts {E = E} old new s out h))
  step_within old new (ask.release_and_evict s) say.done out l strict h = inl (no_more old new (length out) (charges out) (released_and_evicted_size {E = E} old new s out h))
  step_within old new (ask.repin s) (say.pinned v) out l strict h = inl (no_more old new 0 0 (repinned_size {E = E} old new s v out l h))
  step_within old new (ask.advice_evict k) say.done out l strict h = inl (no_more old new (length out) (charges out) (advice_evicts {E = E} old new k out l h))
  step_within old new (ask.invalidate k) say.done out l strict h = inl (no_more old new (length out) (charges out) (invalidate_evicts {E = E} old new k out l h))
  step_within old new (ask.insert k c v) p out l strict h = absurd strict
  step_within old new (ask.insert_strictly k c v) (say.inserted s) out l strict h = inr (stored_within old new k c v s out l h.0 h.1)
  step_within old new (ask.read k) (say.read s v) out l strict h = inl (no_more old new 0 0 (renewed_size {E = E} old new k s v out l h))
  step_within old new (ask.read k) say.missed out l strict h = inl (no_more old new 0 0 (same_size old new h.1.same))
  step_within old new ask.prune say.done out l strict h = inl (no_more old new (length out) (charges out) (pruned_size old new out h.0 h.1))
  step_within old new (ask.set_capacity m) say.done out l strict h = inl (no_more old new (length out) (charges out) (capacity_evicts old new m out h))
  step_within old new ask.total (say.sum m) out l strict h = inl (no_more old new 0 0 (same_size old new h.1.same))
  step_within old new _ _ out l strict h = absurd h

  outcome_within : (old new : Cache K V) (r : Request K V) (o : Outcome K V) → IsLawful E old → IsStrict r → Stands E old r o new → (sum_of new ≤ sum_of old) ⊎ IsWithinCapacity new
  outcome_within old new r (accepted p out) l strict h = step_within old new r p out l strict h
  outcome_within old new r (refused e) l strict h = let same : sum_of new ≡ sum_of old = ap sum_of h.1 in inl (omega (arith, same))

  -- where the capacity is not lowered, a sum within it stays within it
  pub outcome_stays_within : (old new : Cache K V) (r : Request K V) (o : Outcome K V) → IsLawful E old → IsStrict r → old.capacity ≤ capacity_by old.capacity r o → Stands E old r o new → IsWithinCapacity old → IsWithinCapacity new
  outcome_stays_within old new r o l strict up h was =
      let cap : new.capacity ≡ capacity_by old.capacity r o = (keeps_limits K V E old new r o h).0 in
      elim (outcome_within old new r o l strict h) [
        | inl less ↦ omega (arith, cap, up, less, was)
        | inr is ↦ is
      ]

  -- what refuses a begin refuses a strict one
  still_refused : {A B : Type 0} (old : Cache K V) (k : K) (charge : ℕ) → HasCapacityFor old charge ⊎ (IsAbsent E old k → ⊥) → (IsAbsent E old k × A) ⊎ B → (HasCapacityFor old charge × IsAbsent E old k × A) ⊎ B
  still_refused old k charge (inl has) (inl h) = inl (has, h.0, h.1)
  still_refused old k charge (inr found) (inl h) = absurd (found h.0)
  still_refused old k charge may (inr b) = inr b

  -- a begin that finds an entry, or that the capacity has room for, may be strict
  pub strictly_begun : (old new : Cache K V) (k : K) (charge : ℕ) (o : Outcome K V) → HasCapacityFor old charge ⊎ (IsAbsent E old k → ⊥) → Stands E old (ask.begin k charge) o new → Stands E old (ask.begin_strictly k charge) o new
  strictly_begun old new k charge (accepted (say.make s) out) (inl has) (inl m) = inl (has, m)
  strictly_begun old new k charge (accepted (say.make s) out) (inr found) (inl m) = absurd (found m.absent)
  strictly_begun old new k charge (accepted (say.make s) out) may (inr j) = inr j
  strictly_begun old new k charge (accepted (say.wait s) out) may h = h
  strictly_begun old new k charge (accepted (say.hit s v) out) may h = h
  strictly_begun old new k charge (accepted reply out) may h = absurd h
  strictly_begun old new k charge (refused Stale) may h = absurd h.0
  strictly_begun old new k charge (refused Full) may h = absurd h.0
  strictly_begun old new k charge (refused Overflow) may h = (still_refused old k charge may h.0, h.1)
  strictly_begun old new k charge (refused Memory) may h = (still_refused old k charge may h.0, h.1)

  pub strictly_charged : (old new : Cache K V) (s : ℕ) (v : V) (charge : ℕ) (o : Outcome K V) → ((e : Held K V) → Holds old s e making → HasCapacityToCharge old e.charge charge) → Stands E old (ask.ready_with s v charge) o new → Stands E old (ask.ready_with_strictly s v charge) o new
  strictly_charged old new s v charge (accepted say.done out) has h = (h, has h.entry h.holds)
  strictly_charged old new s v charge (accepted reply out) has h = absurd h
  strictly_charged old new s v charge (refused Overflow) has h = ((h.0.0, h.0.1, (has h.0.0 h.0.1, h.0.2)), h.1)
  strictly_charged old new s v charge (refused Stale) has h = h
  strictly_charged old new s v charge (refused Memory) has h = absurd h.0
  strictly_charged old new s v charge (refused Full) has h = absurd h.0

  pub strictly_inserted : (old new : Cache K V) (k : K) (charge : ℕ) (v : V) (o : Outcome K V) → HasCapacityFor old charge → Stands E old (ask.insert k charge v) o new → Stands E old (ask.insert_strictly k charge v) o new
  strictly_inserted old new k charge v (accepted (say.inserted s) out) has h = (has, h)
  strictly_inserted old new k charge v (accepted reply out) has h = absurd h
  strictly_inserted old new k charge v (refused Overflow) has h = ((has, h.0), h.1)
  strictly_inserted old new k charge v (refused Memory) has h = ((has, h.0), h.1)
  strictly_inserted old new k charge v (refused Stale) has h = absurd h.0
  strictly_inserted old new k charge v (refused Full) has h = absurd h.0

pub strict_requests_keep_limit : (K V : Type 0) (E : K → K → Bool) → StrictRequestsKeepLimit K V E
strict_requests_keep_limit K V E old new r o l strict h = outcome_within E old new r o l strict h
