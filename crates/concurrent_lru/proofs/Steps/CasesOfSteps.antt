-- The cases of a step, request by request, with the reply of each.
use Rattle.std.proofs.Common.{◌≡◌, ℕ, ◌⊎◌, inl, inr, Bool, List, [], refl}
use Rattle.concurrent_lru.specs.Cache.{Cache, Idle, Phase, making, untaken, ready, sum_of, Settles, HasCapacityFor}
use Rattle.concurrent_lru.specs.Request as ask
use Rattle.concurrent_lru.specs.Reply as say
use Rattle.concurrent_lru.specs.Reply.{Reply}
use Rattle.concurrent_lru.specs.Steps.{with_capacity, Makes, Joins, Revives, Hits, ChangesPhase, Charges, Leaves, Removes, Stays, Drops, IsUnready, IsNotIdle, Releases, ReleasesAndEvicts, Repins, Invalidates, Stores, Renews, Step}

module _ {K V : Type 0} where
  -- what begin and poll reply at a held entry in a phase
  abbrev pub reply_in_phase : Phase V → ℕ → Reply K V
  reply_in_phase making s = say.wait s
  reply_in_phase untaken s = say.make s
  reply_in_phase (ready v) s = say.hit s v

-- and the phase that they leave
abbrev pub phase_after_asking : {V : Type 0} → Phase V → Phase V
phase_after_asking making = making
phase_after_asking untaken = making
phase_after_asking (ready v) = ready v

module _ {K V : Type 0} (E : K → K → Bool) (old : Cache K V) where
  pub begin_cases : (k : K) (charge : ℕ) (p : Reply K V) (out : List (Idle K V)) (new : Cache K V) → Step E old (ask.begin k charge) p out new
      → ((s : ℕ) × (p ≡ say.make s) × Makes E old k charge s out new)
      ⊎ (((s : ℕ) × (q : Phase V) × (p ≡ reply_in_phase q s) × Joins E old k s q (phase_after_asking q) out new)
      ⊎ ((s : ℕ) × (v : V) × (p ≡ say.hit s v) × Revives E old k s v out new))
  begin_cases k charge (say.make s) out new (inl h) = inl (s, refl, h)
  begin_cases k charge (say.make s) out new (inr h) = inr (inl (s, untaken, refl, h))
  begin_cases k charge (say.wait s) out new h = inr (inl (s, making, refl, h))
  begin_cases k charge (say.hit s v) out new (inl h) = inr (inl (s, ready v, refl, h))
  begin_cases k charge (say.hit s v) out new (inr h) = inr (inr (s, v, refl, h))
  begin_cases k charge p out new h = absurd h

  -- a strict begin, insert or ready_with does what one that is not strict does
  pub loose_begin : (k : K) (charge : ℕ) (p : Reply K V) (out : List (Idle K V)) (new : Cache K V) → Step E old (ask.begin_strictly k charge) p out new → Step E old (ask.begin k charge) p out new
  loose_begin k charge (say.make s) out new (inl h) = inl h.1
  loose_begin k charge (say.make s) out new (inr h) = inr h
  loose_begin k charge (say.wait s) out new h = h
  loose_begin k charge (say.hit s v) out new h = h
  loose_begin k charge p out new h = absurd h

  pub loose_insert : (k : K) (charge : ℕ) (v : V) (p : Reply K V) (out : List (Idle K V)) (new : Cache K V) → Step E old (ask.insert_strictly k charge v) p out new → HasCapacityFor old charge × Step E old (ask.insert k charge v) p out new
  loose_insert k charge v (say.inserted s) out new h = h
  loose_insert k charge v p out new h = absurd h

  pub loose_ready : (s : ℕ) (v : V) (charge : ℕ) (p : Reply K V) (out : List (Idle K V)) (new : Cache K V) → Step E old (ask.ready_with_strictly s v charge) p out new → Step E old (ask.ready_with s v charge) p out new
  loose_ready s v charge say.done out new h = h.0
  loose_ready s v charge p out new h = absurd h

  pub poll_cases : (s : ℕ) (p : Reply K V) (out : List (Idle K V)) (new : Cache K V) → Step E old (ask.poll s) p out new → (q : Phase V) × (p ≡ reply_in_phase q s) × ChangesPhase E old s q (phase_after_asking q) out new
  poll_cases s (say.make t) out new h = (untaken, λ i. say.make (h.0 i), h.1)
  poll_cases s (say.wait t) out new h = (making, λ i. say.wait (h.0 i), h.1)
  poll_cases s (say.hit t v) out new h = (ready v, λ i. say.hit (h.0 i) v, h.1)
  poll_cases s p out new h = absurd h

  pub ready_cases : (s : ℕ) (v : V) (p : Reply K V) (out : List (Idle K V)) (new : Cache K V) → Step E old (ask.ready s v) p out new → (p ≡ say.done) × ChangesPhase E old s making (ready v) out new
  ready_cases s v say.done out new h = (refl, h)
  ready_cases s v p out new h = absurd h

  pub ready_with_cases : (s : ℕ) (v : V) (charge : ℕ) (p : Reply K V) (out : List (Idle K V)) (new : Cache K V) → Step E old (ask.ready_with s v charge) p out new → (p ≡ say.done) × Charges E old s v charge out new
  ready_with_cases s v charge say.done out new h = (refl, h)
  ready_with_cases s v charge p out new h = absurd h

  pub fail_cases : (s : ℕ) (p : Reply K V) (out : List (Idle K V)) (new : Cache K V) → Step E old (ask.fail s) p out new
      → ((p ≡ say.left) × Leaves E old s making untaken out new) ⊎ ((k : K) × (p ≡ say.removed k) × Removes E old s k out new)
  fail_cases s say.left out new h = inl (refl, h)
  fail_cases s (say.removed k) out new h = inr (k, refl, h)
  fail_cases s p out new h = absurd h

  pub get_cases : (k : K) (p : Reply K V) (out : List (Idle K V)) (new : Cache K V) → Step E old (ask.get k) p out new
      → ((s : ℕ) × (v : V) × (p ≡ say.hit s v) × Hits E old k s v out new) ⊎ ((p ≡ say.missed) × IsUnready E old k × Stays E old out new)
  get_cases k (say.hit s v) out new h = inl (s, v, refl, h)
  get_cases k say.missed out new h = inr (refl, h.0, h.1)
  get_cases k p out new h = absurd h

  pub release_cases : (s : ℕ) (p : Reply K V) (out : List (Idle K V)) (new : Cache K V) → Step E old (ask.release s) p out new
      → (p ≡ say.done) × Releases E old s out new
  release_cases s say.done out new h = (refl, h)
  release_cases s p out new h = absurd h

  pub release_and_evict_cases : (s : ℕ) (p : Reply K V) (out : List (Idle K V)) (new : Cache K V) → Step E old (ask.release_and_evict s) p out new
      → (p ≡ say.done) × ReleasesAndEvicts E old s out new
  release_and_evict_cases s say.done out new h = (refl, h)
  release_and_evict_cases s p out new h = absurd h

  pub repin_cases : (s : ℕ) (p : Reply K V) (out : List (Idle K V)) (new : Cache K V) → Step E old (ask.repin s) p out new
      → (v : V) × (p ≡ say.pinned v) × Repins E old s v out new
  repin_cases s (say.pinned v) out new h = (v, refl, h)
  repin_cases s p out new h = absurd h

  pub advice_evict_cases : (k : K) (p : Reply K V) (out : List (Idle K V)) (new : Cache K V) → Step E old (ask.advice_evict k) p out new
      → (p ≡ say.done) × (Drops E old k out new ⊎ (IsNotIdle E old k × Stays E old out new))
  advice_evict_cases k say.done out new h = (refl, h)
  advice_evict_cases k p out new h = absurd h

  pub invalidate_cases : (k : K) (p : Reply K V) (out : List (Idle K V)) (new : Cache K V) → Step E old (ask.invalidate k) p out new
      → (p ≡ say.done) × Invalidates E old k out new
  invalidate_cases k say.done out new h = (refl, h)
  invalidate_cases k p out new h = absurd h

  pub insert_cases : (k : K) (charge : ℕ) (v : V) (p : Reply K V) (out : List (Idle K V)) (new : Cache K V) → Step E old (ask.insert k charge v) p out new
      → (s : ℕ) × (p ≡ say.inserted s) × Stores E old k charge v s out new
  insert_cases k charge v (say.inserted s) out new h = (s, refl, h)
  insert_cases k charge v p out new h = absurd h

  pub read_cases : (k : K) (p : Reply K V) (out : List (Idle K V)) (new : Cache K V) → Step E old (ask.read k) p out new
      → ((s : ℕ) × (v : V) × (p ≡ say.read s v) × Renews E old k s v out new) ⊎ ((p ≡ say.missed) × IsUnready E old k × Stays E old out new)
  read_cases k (say.read s v) out new h = inl (s, v, refl, h)
  read_cases k say.missed out new h = inr (refl, h.0, h.1)
  read_cases k p out new h = absurd h

  pub prune_cases : (p : Reply K V) (out : List (Idle K V)) (new : Cache K V) → Step E old ask.prune p out new → (p ≡ say.done) × (out ≡ old.idle) × (new ≡ record old { idle = [] })
  prune_cases say.done out new h = (refl, h.0, h.1)
  prune_cases p out new h = absurd h

  pub total_cases : (p : Reply K V) (out : List (Idle K V)) (new : Cache K V) → Step E old ask.total p out new → (p ≡ say.sum (sum_of old)) × Stays E old out new
  total_cases (say.sum n) out new h = (λ i. say.sum (h.0 i), h.1)
  total_cases p out new h = absurd h

  pub set_capacity_cases : (c : ℕ) (p : Reply K V) (out : List (Idle K V)) (new : Cache K V) → Step E old (ask.set_capacity c) p out new → (p ≡ say.done) × Settles (with_capacity old c) out new
  set_capacity_cases c say.done out new h = (refl, h)
  set_capacity_cases c p out new h = absurd h
