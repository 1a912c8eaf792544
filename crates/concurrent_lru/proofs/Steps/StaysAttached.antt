-- Where no key is invalidated, no entry is detached, step by step and in runs.
use Rattle.std.proofs.Common.{◌≡◌, ℕ, inl, inr, Bool, true, false, cond, List, [], ◌∷◌, Option, Some, refl, sym, ap, ◌∙◌, subst}
use Rattle.std.specs.Cmp.{nat_cmp_total}
use Rattle.std.specs.FinMap.{get, insert, remove, get-insert}
use Rattle.std.proofs.lemmas.Option.{same_Some}
use Rattle.concurrent_lru.specs.Cache.{Cache, Idle, Held, untaken, ready, IsEntry, IsFound}
use Rattle.concurrent_lru.specs.Request as ask
use Rattle.concurrent_lru.specs.Request.{Request}
use Rattle.concurrent_lru.specs.Reply.{Reply}
use Rattle.concurrent_lru.specs.Runs.{Outcome, accepted, refused, Stands}
use Rattle.concurrent_lru.specs.Steps.{held_in_phase, held_by_one, one_more_pin, one_pin_less, Hits, Releases, ReleasesAndEvicts, Repins, Step}
use Rattle.concurrent_lru.specs.StepLaws.{IsAttached, InvalidatesNothing, StaysAttached, OneEntryOfKey}
use Rattle.concurrent_lru.proofs.Lists.DistinctEntries.{same}
use Rattle.concurrent_lru.proofs.Lists.Removals.{removed_some}
use Rattle.concurrent_lru.proofs.Steps.ChargeOfMaking.{given}
use Rattle.concurrent_lru.proofs.Steps.CasesOfSteps.{phase_after_asking, loose_begin, loose_ready, begin_cases, poll_cases, ready_cases, ready_with_cases, fail_cases, get_cases, release_cases, release_and_evict_cases, repin_cases, advice_evict_cases, read_cases, prune_cases, set_capacity_cases, total_cases}

module _ {K V : Type 0} where
  one_of : (b : Bool) (e f : Held K V) (was : Option (Held K V)) → e.detached ≡ false → ((x : Held K V) → was ≡ Some x → x.detached ≡ false) → cond b (Some e) was ≡ Some f → f.detached ≡ false
  one_of true e f was free others is = subst (λ x. x.detached ≡ false) (same_Some e f is) free
  one_of false e f was free others is = others f is

module _ {K V : Type 0} (E : K → K → Bool) (old new : Cache K V) (a : IsAttached old) where
  -- the held entries are the same, or one more or another under a stamp, or one less
  with_same : new.held ≡ old.held → IsAttached new
  with_same held s e at = a s e (sym (ap (λ m. get m s) held) ∙ at)

  with_one : (s : ℕ) (e : Held K V) → e.detached ≡ false → new.held ≡ insert old.held s e → IsAttached new
  with_one s e free held t f at = one_of (same t s) e f (get old.held t) free (a t) (sym (get-insert nat_cmp_total old.held s e t) ∙ sym (ap (λ m. get m t) held) ∙ at)

  without_one : (s : ℕ) → new.held ≡ remove old.held s → IsAttached new
  without_one s held t f at = a t f (removed_some old.held s t f (sym (ap (λ m. get m t) held) ∙ at)).1

  hits_attached : (k : K) (s : ℕ) (v : V) (out : List (Idle K V)) → Hits E old k s v out new → IsAttached new
  hits_attached k s v out (inl h) = with_one s (held_in_phase (ready v) (one_more_pin h.entry)) h.found (ap (λ c. c.held) h.changed)
  hits_attached k s v out (inr h) = with_one s (held_by_one h.entry) refl (ap (λ c. c.held) h.changed)

  releases_attached : (s : ℕ) (out : List (Idle K V)) → Releases E old s out new → IsAttached new
  releases_attached s out (inl b) = with_one s (held_in_phase (ready b.0) (one_pin_less b.1.entry)) (a s b.1.entry b.1.holds.at) (ap (λ c. c.held) b.1.changed)
  releases_attached s out (inr (inl c)) = without_one s (ap (λ c. c.held) c.settles.others)
  releases_attached s out (inr (inr c)) = without_one s (ap (λ c. c.held) c.changed)

  releases_and_evicts_attached : (s : ℕ) (out : List (Idle K V)) → ReleasesAndEvicts E old s out new → IsAttached new
  releases_and_evicts_attached s out (inl b) = releases_attached s out (inl b)
  releases_and_evicts_attached s out (inr c) = without_one s (ap (λ c. c.held) c.changed)

  repins_attached : (s : ℕ) (v : V) (out : List (Idle K V)) → Repins E old s v out new → IsAttached new
  repins_attached s v out (inl b) = with_one s (one_more_pin b.entry) (a s b.entry b.holds.at) (ap (λ c. c.held) b.changed)
  repins_attached s v out (inr b) = hits_attached b.0 s v out (inr b.1)

module _ {K V : Type 0} (E : K → K → Bool) (old new : Cache K V) (a : IsAttached old) where
  begin_attached : (k : K) (charge : ℕ) (p : Reply K V) (out : List (Idle K V)) → Step E old (ask.begin k charge) p out new → IsAttached new
  begin_attached k charge p out h = elim (begin_cases E old k charge p out new h) [
    | inl b ↦ with_one E old new a b.0 _ refl (ap (λ c. c.held) b.2.settles.others)
    | inr b ↦ elim b [
      | inl c ↦ with_one E old new a c.0 (held_in_phase (phase_after_asking c.1) (one_more_pin c.3.entry)) c.3.found (ap (λ c. c.held) c.3.changed)
      | inr c ↦ hits_attached E old new a k c.0 c.1 out (inr c.3)
    ]
  ]

  charges_attached : (s : ℕ) (v : V) (charge : ℕ) (p : Reply K V) (out : List (Idle K V)) → Step E old (ask.ready_with s v charge) p out new → IsAttached new
  charges_attached s v charge p out h =
      let b = (ready_with_cases E old s v charge p out new h).1 in
      with_one E old new a s (given v charge b.entry) (a s b.entry b.holds.at) (ap (λ c. c.held) b.settles.others)

  step_attached : (r : Request K V) (p : Reply K V) (out : List (Idle K V)) → InvalidatesNothing r → Step E old r p out new → IsAttached new
  step_attached (ask.begin k charge) p out none h = begin_attached k charge p out h
  step_attached (ask.begin_strictly k charge) p out none h = begin_attached k charge p out (loose_begin E old k charge p out new h)
  step_attached (ask.poll s) p out none h =
      let b = poll_cases E old s p out new h in
      with_one E old new a s (held_in_phase (phase_after_asking b.0) b.2.entry) (a s b.2.entry b.2.holds.at) (ap (λ c. c.held) b.2.changed)
  step_attached (ask.ready s v) p out none h =
      let b = (ready_cases E old s v p out new h).1 in
      with_one E old new a s (held_in_phase (ready v) b.entry) (a s b.entry b.holds.at) (ap (λ c. c.held) b.changed)
  step_attached (ask.ready_with s v c) p out none h = charges_attached s v c p out h
  step_attached (ask.ready_with_strictly s v c) p out none h = charges_attached s v c p out (loose_ready E old s v c p out new h)
  step_attached (ask.fail s) p out none h = elim (fail_cases E old s p out new h) [
    | inl b ↦ with_one E old new a s (held_in_phase untaken (one_pin_less b.1.entry)) (a s b.1.entry b.1.holds.at) (ap (λ c. c.held) b.1.changed)
    | inr b ↦ without_one E old new a s (ap (λ c. c.held) b.2.changed)
  ]
  step_attached (ask.get k) p out none h = elim (get_cases E old k p out new h) [
    | inl b ↦ hits_attached E old new a k b.0 b.1 out b.3
    | inr b ↦ with_same E old new a (ap (λ c. c.held) b.2.same)
  ]
  step_attached (ask.release s) p out none h = releases_attached E old new a s out (release_cases E old s p out new h).1
  step_attached (ask.release_and_evict s) p out none h = releases_and_evicts_attached E old new a s out (release_and_evict_cases E old s p out new h).1
  step_attached (ask.repin s) p out none h = let b = repin_cases E old s p out new h in repins_attached E old new a s b.0 out b.2
  step_attached (ask.advice_evict k) p out none h = elim (advice_evict_cases E old k p out new h).1 [
    | inl b ↦ with_same E old new a (ap (λ c. c.held) b.changed)
    | inr b ↦ with_same E old new a (ap (λ c. c.held) b.1.same)
  ]
  step_attached (ask.invalidate k) p out none h = absurd none
  step_attached (ask.insert k charge v) p out none h = absurd none
  step_attached (ask.insert_strictly k charge v) p out none h = absurd none
  step_attached (ask.read k) p out none h = elim (read_cases E old k p out new h) [
    | inl b ↦ releases_attached E b.3.mid new (hits_attached E old b.3.mid a k b.0 b.1 [] b.3.found) b.0 [] b.3.released
    | inr b ↦ with_same E old new a (ap (λ c. c.held) b.2.same)
  ]
  step_attached ask.prune p out none h = with_same E old new a (ap (λ c. c.held) (prune_cases E old p out new h).2)
  step_attached (ask.set_capacity n) p out none h = with_same E old new a (ap (λ c. c.held) (set_capacity_cases E old n p out new h).1.others)
  step_attached ask.total p out none h = with_same E old new a (ap (λ c. c.held) (total_cases E old p out new h).1.same)

  outcome_attached : (r : Request K V) (o : Outcome K V) → InvalidatesNothing r → Stands E old r o new → IsAttached new
  outcome_attached r (accepted p out) none h = step_attached r p out none h
  outcome_attached r (refused e) none h = with_same E old new a (ap (λ c. c.held) h.1)

pub stays_attached : (K V : Type 0) (E : K → K → Bool) → StaysAttached K V E
stays_attached K V E old new [] [] a none h = subst IsAttached (sym h) a
stays_attached K V E old new (r ∷ rs) (o ∷ os) a none h = stays_attached K V E h.0 new rs os (outcome_attached E old h.0 a r o none.0 h.1) none.1 h.2
stays_attached K V E old new [] (o ∷ os) a none h = absurd h
stays_attached K V E old new (r ∷ rs) [] a none h = absurd h

-- an entry that is not detached is found by its key
found : {K V : Type 0} (c : Cache K V) (s : ℕ) (k : K) (m : ℕ) → IsAttached c → IsEntry c s k m → IsFound c s k m
found c s k m a (inl x) = inl x
found c s k m a (inr e) = inr (e.0, e.1, e.2, e.3, a s e.0 e.1)

pub one_entry_of_key : (K V : Type 0) (E : K → K → Bool) → OneEntryOfKey K V E
one_entry_of_key K V E c s t k l m n lawful a x y equal = lawful.one_entry s t k l m n (found c s k m a x) (found c t l n a y) equal
