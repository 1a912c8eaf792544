-- A lawful cache stays lawful, step by step and in runs.
use Rattle.std.proofs.Common.{◌≡◌, ℕ, ◌<◌, inl, inr, Bool, List, [], ◌∷◌, refl, sym, ap, ◌∙◌, subst}
use Rattle.std.specs.Cmp.{IsEquivalence}
use Rattle.concurrent_lru.specs.Cache.{Cache, Idle, making, untaken, ready, IsLawful}
use Rattle.concurrent_lru.specs.Request as ask
use Rattle.concurrent_lru.specs.Request.{Request}
use Rattle.concurrent_lru.specs.Reply.{Reply}
use Rattle.concurrent_lru.specs.Results.{IsCharged}
use Rattle.concurrent_lru.specs.Runs.{Outcome, accepted, refused, Stands}
use Rattle.concurrent_lru.specs.Steps.{Makes, Hits, Releases, ReleasesAndEvicts, Repins, Invalidates, Stores, Step}
use Rattle.concurrent_lru.specs.declared.refusal.Refusal.{Refusal}
use Rattle.concurrent_lru.specs.StepLaws.{capacity_by, KeepsLimits, KeepsLawful, RunsKeepLawful}
use Rattle.concurrent_lru.proofs.Steps.BeginOfAbsent.{makes_lawful}
use Rattle.concurrent_lru.proofs.Steps.LawfulAfterLeaving.{removes_lawful, ends_lawful, departs_lawful, drops_lawful, prunes_lawful}
use Rattle.concurrent_lru.proofs.Steps.BeginOfHeld.{joins_lawful, pins_again_lawful}
use Rattle.concurrent_lru.proofs.Steps.LawfulAfterChange.{sets_lawful}
use Rattle.concurrent_lru.proofs.Steps.ReadyAndPoll.{changes_phase_lawful}
use Rattle.concurrent_lru.proofs.Steps.ChargeOfMaking.{charges_lawful}
use Rattle.concurrent_lru.proofs.Steps.Release.{rests_lawful, leaves_lawful, detaches_lawful}
use Rattle.concurrent_lru.proofs.Steps.LawfulAfterRevival.{revives_lawful}
use Rattle.concurrent_lru.proofs.Steps.CasesOfSteps.{phase_after_asking, loose_begin, loose_insert, loose_ready, begin_cases, poll_cases, ready_cases, ready_with_cases, fail_cases, get_cases, release_cases, release_and_evict_cases, repin_cases, advice_evict_cases, invalidate_cases, insert_cases, read_cases, prune_cases, set_capacity_cases, total_cases}

module _ {K V : Type 0} where
  -- the capacity is c, and the greatest number of pins is as it was
  abbrev HasLimits : Cache K V → ℕ → Cache K V → Type 0
  HasLimits old c new = (new.capacity ≡ c) × (new.most_pins ≡ old.most_pins)

  same_limits : (old mid new : Cache K V) (c : ℕ) → HasLimits old c mid → new ≡ mid → HasLimits old c new
  same_limits old mid new c h e = (ap (λ c. c.capacity) e ∙ h.0, ap (λ c. c.most_pins) e ∙ h.1)

  refused_limits : (c : ℕ) (r : Request K V) (e : Refusal) → capacity_by c r (refused e) ≡ c
  refused_limits c (ask.set_capacity n) e = refl
  refused_limits c _ e = refl

  two_limits : (old mid new : Cache K V) → HasLimits old old.capacity mid → HasLimits mid mid.capacity new → HasLimits old old.capacity new
  two_limits old mid new a b = (b.0 ∙ a.0, b.1 ∙ a.1)

module _ {K V : Type 0} (E : K → K → Bool) where
  hits_limits : (old : Cache K V) (k : K) (s : ℕ) (v : V) (out : List (Idle K V)) (new : Cache K V) → Hits E old k s v out new → HasLimits old old.capacity new
  hits_limits old k s v out new (inl h) = same_limits old _ new old.capacity (refl, refl) h.changed
  hits_limits old k s v out new (inr h) = same_limits old _ new old.capacity (refl, refl) h.changed

  releases_limits : (old : Cache K V) (s : ℕ) (out : List (Idle K V)) (new : Cache K V) → Releases E old s out new → HasLimits old old.capacity new
  releases_limits old s out new (inl a) = same_limits old _ new old.capacity (refl, refl) a.1.changed
  releases_limits old s out new (inr (inl a)) = same_limits old _ new old.capacity (refl, refl) a.settles.others
  releases_limits old s out new (inr (inr a)) = same_limits old _ new old.capacity (refl, refl) a.changed

  releases_and_evicts_limits : (old : Cache K V) (s : ℕ) (out : List (Idle K V)) (new : Cache K V) → ReleasesAndEvicts E old s out new → HasLimits old old.capacity new
  releases_and_evicts_limits old s out new (inl a) = same_limits old _ new old.capacity (refl, refl) a.1.changed
  releases_and_evicts_limits old s out new (inr a) = same_limits old _ new old.capacity (refl, refl) a.changed

  repins_limits : (old : Cache K V) (s : ℕ) (v : V) (out : List (Idle K V)) (new : Cache K V) → Repins E old s v out new → HasLimits old old.capacity new
  repins_limits old s v out new (inl a) = same_limits old _ new old.capacity (refl, refl) a.changed
  repins_limits old s v out new (inr a) = same_limits old _ new old.capacity (refl, refl) a.1.changed

  invalidates_limits : (old : Cache K V) (k : K) (out : List (Idle K V)) (new : Cache K V) → Invalidates E old k out new → HasLimits old old.capacity new
  invalidates_limits old k out new (inl a) = same_limits old _ new old.capacity (refl, refl) a.changed
  invalidates_limits old k out new (inr (inl a)) = same_limits old _ new old.capacity (refl, refl) a.changed
  invalidates_limits old k out new (inr (inr a)) = same_limits old _ new old.capacity (refl, refl) a.1.same

  makes_limits : (old : Cache K V) (k : K) (charge s : ℕ) (out : List (Idle K V)) (new : Cache K V) → Makes E old k charge s out new → HasLimits old old.capacity new
  makes_limits old k charge s out new a = same_limits old _ new old.capacity (refl, refl) a.settles.others

module _ {K V : Type 0} (E : K → K → Bool) (old : Cache K V) where
  begin_limits : (new : Cache K V) (k : K) (charge : ℕ) (p : Reply K V) (out : List (Idle K V)) → Step E old (ask.begin k charge) p out new → HasLimits old old.capacity new
  begin_limits new k charge p out h = elim (begin_cases E old k charge p out new h) [
    | inl a ↦ makes_limits E old k charge a.0 out new a.2
    | inr b ↦ elim b [
      | inl a ↦ same_limits old _ new old.capacity (refl, refl) a.3.changed
      | inr a ↦ same_limits old _ new old.capacity (refl, refl) a.3.changed
    ]
  ]

  insert_limits : (new : Cache K V) (k : K) (charge : ℕ) (v : V) (p : Reply K V) (out : List (Idle K V)) → Step E old (ask.insert k charge v) p out new → HasLimits old old.capacity new
  insert_limits new k charge v p out h =
      let a = (insert_cases E old k charge v p out new h).2 in
      two_limits old a.mid new (invalidates_limits E old k a.replaced a.mid a.invalidated)
      (two_limits a.mid a.made new (makes_limits E a.mid k charge _ a.evicted a.made a.begun) (same_limits a.made _ new a.made.capacity (refl, refl) a.given.changed))

  step_limits : (new : Cache K V) (r : Request K V) (p : Reply K V) (out : List (Idle K V)) → Step E old r p out new → HasLimits old (capacity_by old.capacity r (accepted p out)) new
  step_limits new (ask.begin k charge) p out h = begin_limits new k charge p out h
  step_limits new (ask.begin_strictly k charge) p out h = begin_limits new k charge p out (loose_begin E old k charge p out new h)
  step_limits new (ask.poll s) p out h = same_limits old _ new old.capacity (refl, refl) (poll_cases E old s p out new h).2.changed
  step_limits new (ask.ready s v) p out h = same_limits old _ new old.capacity (refl, refl) (ready_cases E old s v p out new h).1.changed
  step_limits new (ask.ready_with s v c) p out h = same_limits old _ new old.capacity (refl, refl) (ready_with_cases E old s v c p out new h).1.settles.others
  step_limits new (ask.ready_with_strictly s v c) p out h = same_limits old _ new old.capacity (refl, refl) (ready_with_cases E old s v c p out new (loose_ready E old s v c p out new h)).1.settles.others
  step_limits new (ask.fail s) p out h = elim (fail_cases E old s p out new h) [
    | inl a ↦ same_limits old _ new old.capacity (refl, refl) a.1.changed
    | inr a ↦ same_limits old _ new old.capacity (refl, refl) a.2.changed
  ]
  step_limits new (ask.get k) p out h = elim (get_cases E old k p out new h) [
    | inl a ↦ hits_limits E old k a.0 a.1 out new a.3
    | inr a ↦ same_limits old _ new old.capacity (refl, refl) a.2.same
  ]
  step_limits new (ask.release s) p out h = releases_limits E old s out new (release_cases E old s p out new h).1
  step_limits new (ask.release_and_evict s) p out h = releases_and_evicts_limits E old s out new (release_and_evict_cases E old s p out new h).1
  step_limits new (ask.repin s) p out h = let a = repin_cases E old s p out new h in repins_limits E old s a.0 out new a.2
  step_limits new (ask.advice_evict k) p out h = elim (advice_evict_cases E old k p out new h).1 [
    | inl a ↦ same_limits old _ new old.capacity (refl, refl) a.changed
    | inr a ↦ same_limits old _ new old.capacity (refl, refl) a.1.same
  ]
  step_limits new (ask.invalidate k) p out h = invalidates_limits E old k out new (invalidate_cases E old k p out new h).1
  step_limits new (ask.insert k charge v) p out h = insert_limits new k charge v p out h
  step_limits new (ask.insert_strictly k charge v) p out h = insert_limits new k charge v p out (loose_insert E old k charge v p out new h).1
  step_limits new (ask.read k) p out h = elim (read_cases E old k p out new h) [
    | inl a ↦ two_limits old a.3.mid new (hits_limits E old k a.0 a.1 [] a.3.mid a.3.found) (releases_limits E a.3.mid a.0 [] new a.3.released)
    | inr a ↦ same_limits old _ new old.capacity (refl, refl) a.2.same
  ]
  step_limits new ask.prune p out h = same_limits old _ new old.capacity (refl, refl) (prune_cases E old p out new h).2
  step_limits new (ask.set_capacity c) p out h = same_limits old _ new c (refl, refl) (set_capacity_cases E old c p out new h).1.others
  step_limits new ask.total p out h = same_limits old _ new old.capacity (refl, refl) (total_cases E old p out new h).1.same

  outcome_limits : (new : Cache K V) (r : Request K V) (o : Outcome K V) → Stands E old r o new → HasLimits old (capacity_by old.capacity r o) new
  outcome_limits new r (accepted p out) h = step_limits new r p out h
  outcome_limits new r (refused e) h = same_limits old old new _ (sym (refused_limits old.capacity r e), refl) h.1

pub keeps_limits : (K V : Type 0) (E : K → K → Bool) → KeepsLimits K V E
keeps_limits K V E old new r o h = outcome_limits E old new r o h

module _ {K V : Type 0} (E : K → K → Bool) where
  pub releases_lawful : (old : Cache K V) (s : ℕ) (out : List (Idle K V)) (new : Cache K V) → IsLawful E old → Releases E old s out new → IsLawful E new
  releases_lawful old s out new l (inl a) = leaves_lawful E old new s (ready a.0) (ready a.0) out l a.1
  releases_lawful old s out new l (inr (inl a)) = rests_lawful E old new s out l a
  releases_lawful old s out new l (inr (inr a)) = ends_lawful E old new s out l a

  pub releases_and_evicts_lawful : (old : Cache K V) (s : ℕ) (out : List (Idle K V)) (new : Cache K V) → IsLawful E old → ReleasesAndEvicts E old s out new → IsLawful E new
  releases_and_evicts_lawful old s out new l (inl a) = leaves_lawful E old new s (ready a.0) (ready a.0) out l a.1
  releases_and_evicts_lawful old s out new l (inr a) = departs_lawful E old new s out l a

  pub invalidates_lawful : (old : Cache K V) (k : K) (out : List (Idle K V)) (new : Cache K V) → IsLawful E old → Invalidates E old k out new → IsLawful E new
  invalidates_lawful old k out new l (inl a) = drops_lawful E old new k out l a
  invalidates_lawful old k out new l (inr (inl a)) = detaches_lawful E old new k out l a
  invalidates_lawful old k out new l (inr (inr a)) = subst (IsLawful E) (sym a.1.same) l

  -- an insert, as the three steps that it is made of
  stores_lawful : (old new : Cache K V) (k : K) (charge : ℕ) (v : V) (s : ℕ) (out : List (Idle K V)) → IsEquivalence E → IsLawful E old → 0 < old.most_pins → 0 < charge → Stores E old k charge v s out new → IsLawful E new
  stores_lawful old new k charge v s out laws l pins above a =
      let mid = invalidates_lawful old k a.replaced a.mid l a.invalidated in
      let some = subst (λ n. 0 < n) (sym (invalidates_limits E old k a.replaced a.mid a.invalidated).1) pins in
      let made = makes_lawful E a.mid a.made k charge s a.evicted laws mid above some a.begun in
      changes_phase_lawful E a.made new s making (ready v) [] made a.given

module _ {K V : Type 0} (E : K → K → Bool) (laws : IsEquivalence E) (old : Cache K V) (l : IsLawful E old) (pins : 0 < old.most_pins) where
  pub hits_lawful : (k : K) (s : ℕ) (v : V) (out : List (Idle K V)) (new : Cache K V) → Hits E old k s v out new → IsLawful E new
  hits_lawful k s v out new (inl h) = joins_lawful E old new k s (ready v) (ready v) out l h
  hits_lawful k s v out new (inr h) = revives_lawful E old new k s v out l pins h

  pub repins_lawful : (s : ℕ) (v : V) (out : List (Idle K V)) (new : Cache K V) → Repins E old s v out new → IsLawful E new
  repins_lawful s v out new (inl h) = pins_again_lawful E old new s v out l h
  repins_lawful s v out new (inr h) = revives_lawful E old new h.0 s v out l pins h.1

  begin_lawful : (new : Cache K V) (k : K) (charge : ℕ) (p : Reply K V) (out : List (Idle K V)) → 0 < charge → Step E old (ask.begin k charge) p out new → IsLawful E new
  begin_lawful new k charge p out above h = elim (begin_cases E old k charge p out new h) [
    | inl a ↦ makes_lawful E old new k charge a.0 out laws l above pins a.2
    | inr b ↦ elim b [
      | inl a ↦ joins_lawful E old new k a.0 a.1 (phase_after_asking a.1) out l a.3
      | inr a ↦ revives_lawful E old new k a.0 a.1 out l pins a.3
    ]
  ]

  insert_lawful : (new : Cache K V) (k : K) (charge : ℕ) (v : V) (p : Reply K V) (out : List (Idle K V)) → 0 < charge → Step E old (ask.insert k charge v) p out new → IsLawful E new
  insert_lawful new k charge v p out above h = stores_lawful E old new k charge v _ out laws l pins above (insert_cases E old k charge v p out new h).2

  step_lawful : (new : Cache K V) (r : Request K V) (p : Reply K V) (out : List (Idle K V)) → IsCharged r → Step E old r p out new → IsLawful E new
  step_lawful new (ask.begin k charge) p out above h = begin_lawful new k charge p out above h
  step_lawful new (ask.begin_strictly k charge) p out above h = begin_lawful new k charge p out above (loose_begin E old k charge p out new h)
  step_lawful new (ask.poll s) p out above h = let a = poll_cases E old s p out new h in changes_phase_lawful E old new s a.0 (phase_after_asking a.0) out l a.2
  step_lawful new (ask.ready s v) p out above h = changes_phase_lawful E old new s making (ready v) out l (ready_cases E old s v p out new h).1
  step_lawful new (ask.ready_with s v c) p out above h = charges_lawful E old new s v c out l above (ready_with_cases E old s v c p out new h).1
  step_lawful new (ask.ready_with_strictly s v c) p out above h = charges_lawful E old new s v c out l above (ready_with_cases E old s v c p out new (loose_ready E old s v c p out new h)).1
  step_lawful new (ask.fail s) p out above h = elim (fail_cases E old s p out new h) [
    | inl a ↦ leaves_lawful E old new s making untaken out l a.1
    | inr a ↦ removes_lawful E old new s a.0 out l a.2
  ]
  step_lawful new (ask.get k) p out above h = elim (get_cases E old k p out new h) [
    | inl a ↦ hits_lawful k a.0 a.1 out new a.3
    | inr a ↦ subst (IsLawful E) (sym a.2.same) l
  ]
  step_lawful new (ask.release s) p out above h = releases_lawful E old s out new l (release_cases E old s p out new h).1
  step_lawful new (ask.release_and_evict s) p out above h = releases_and_evicts_lawful E old s out new l (release_and_evict_cases E old s p out new h).1
  step_lawful new (ask.repin s) p out above h = let a = repin_cases E old s p out new h in repins_lawful s a.0 out new a.2
  step_lawful new (ask.advice_evict k) p out above h = elim (advice_evict_cases E old k p out new h).1 [
    | inl a ↦ drops_lawful E old new k out l a
    | inr a ↦ subst (IsLawful E) (sym a.1.same) l
  ]
  step_lawful new (ask.invalidate k) p out above h = invalidates_lawful E old k out new l (invalidate_cases E old k p out new h).1
  step_lawful new (ask.insert k charge v) p out above h = insert_lawful new k charge v p out above h
  step_lawful new (ask.insert_strictly k charge v) p out above h = insert_lawful new k charge v p out above (loose_insert E old k charge v p out new h).1
  step_lawful new (ask.read k) p out above h = elim (read_cases E old k p out new h) [
    | inl a ↦ releases_lawful E a.3.mid a.0 [] new (hits_lawful k a.0 a.1 [] a.3.mid a.3.found) a.3.released
    | inr a ↦ subst (IsLawful E) (sym a.2.same) l
  ]
  step_lawful new ask.prune p out above h = prunes_lawful E old new l (prune_cases E old p out new h).2
  step_lawful new (ask.set_capacity c) p out above h = sets_lawful E old new c out l (set_capacity_cases E old c p out new h).1
  step_lawful new ask.total p out above h = subst (IsLawful E) (sym (total_cases E old p out new h).1.same) l

  pub outcome_lawful : (new : Cache K V) (r : Request K V) (o : Outcome K V) → IsCharged r → Stands E old r o new → IsLawful E new
  outcome_lawful new r (accepted p out) above h = step_lawful new r p out above h
  outcome_lawful new r (refused e) above h = subst (IsLawful E) (sym h.1) l

pub keeps_lawful : (K V : Type 0) (E : K → K → Bool) → IsEquivalence E → KeepsLawful K V E
keeps_lawful K V E laws old new r o l pins above h = outcome_lawful E laws old l pins new r o above h

pub runs_keep_lawful : (K V : Type 0) (E : K → K → Bool) → IsEquivalence E → RunsKeepLawful K V E
runs_keep_lawful K V E laws old new [] [] l pins above h = subst (IsLawful E) (sym h) l
runs_keep_lawful K V E laws old new (r ∷ rs) (o ∷ os) l pins above h =
    runs_keep_lawful K V E laws h.0 new rs os (outcome_lawful E laws old l pins h.0 r o above.0 h.1) (subst (λ n. 0 < n) (sym (outcome_limits E old h.0 r o h.1).1) pins) above.1 h.2
runs_keep_lawful K V E laws old new [] (o ∷ os) l pins above h = absurd h
runs_keep_lawful K V E laws old new (r ∷ rs) [] l pins above h = absurd h
