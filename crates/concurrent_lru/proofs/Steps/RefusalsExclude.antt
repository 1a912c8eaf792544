-- A request that is refused has no step, and is refused in one way.
use Rattle.std.proofs.Common.{◌≡◌, ℕ, ◌+◌, ◌<◌, ◌≤◌, ◌^◌, ◌⊎◌, inl, inr, Bool, true, false, List, [], Some, refl, sym, ap, ◌∙◌, subst, arith}
use Rattle.std.specs.Cmp.{IsEquivalence}
use Rattle.std.proofs.lemmas.Option.{none-some}
use Rattle.concurrent_lru.specs.Cache.{Cache, Idle, Held, IsLawful, making, ready, held_at, sum_of, HasCapacityFor, LacksCapacityFor, HasCapacityToCharge, LacksCapacityToCharge}
use Rattle.concurrent_lru.specs.Request as ask
use Rattle.concurrent_lru.specs.Request.{Request}
use Rattle.concurrent_lru.specs.Reply as say
use Rattle.concurrent_lru.specs.Reply.{Reply}
use Rattle.concurrent_lru.specs.Runs.{HasRoomAt, IsFull, WouldHit, Overflows, PassesEndWith, IsStale, TakesMemory, ExceedsCapacity, Refuses}
use Rattle.concurrent_lru.specs.Steps.{Charges, HasNumbers, Hits, Holds, IsUnready, Step}
use Rattle.concurrent_lru.specs.StepLaws.{LeavesNoStep, OneRefusal}
use Rattle.concurrent_lru.specs.declared.refusal.Refusal.{Refusal}
use Rattle.concurrent_lru.specs.declared.refusal.Refusal.TheVariants.{Memory, Overflow, Stale, Full}
use Rattle.concurrent_lru.proofs.Steps.OneAnswer.{not_ready_too, same_entry, held_once, invalidates_once, not_both, not_held, not_idle}
use Rattle.concurrent_lru.proofs.Steps.CasesOfSteps.{loose_begin, loose_insert, loose_ready, begin_cases, poll_cases, ready_cases, ready_with_cases, fail_cases, get_cases, release_cases, release_and_evict_cases, repin_cases, insert_cases, read_cases}

module _ {K V : Type 0} (E : K → K → Bool) where
  no_numbers : (c : Cache K V) (charge : ℕ) → HasNumbers E c charge → (2 ^ 64 ≤ sum_of c + charge) ⊎ (2 ^ 64 ≤ c.next + 1) → ⊥
  no_numbers c charge h (inl k) = let a = h.0 in absurd (omega (arith, a, k))
  no_numbers c charge h (inr k) = let a = h.1 in absurd (omega (arith, a, k))

  -- the capacity has room for a charge, or it does not
  no_capacity : (c : Cache K V) (charge : ℕ) → HasCapacityFor c charge → LacksCapacityFor c charge → ⊥
  no_capacity c charge has lacks = absurd (omega (arith, has, lacks))

  no_capacity_to_charge : (c : Cache K V) (charge : ℕ) (e f : Held K V) → e ≡ f → HasCapacityToCharge c e.charge charge → LacksCapacityToCharge c f.charge charge → ⊥
  no_capacity_to_charge c charge e f is has lacks = let was : e.charge ≡ f.charge = ap (λ x. x.charge) is in absurd (omega (arith, was, has, lacks))

  -- a making whose charge overflows the sum does not become ready
  past_end : (c new : Cache K V) (s : ℕ) (v : V) (charge : ℕ) (out : List (Idle K V)) (e : Held K V) → Holds c s e making → PassesEndWith E c charge e.charge → Charges E c s v charge out new → ⊥
  past_end c new s v charge out e holds past h =
      let was : e.charge ≡ h.entry.charge = ap (λ x. x.charge) (same_entry E c s e h.entry holds.at h.holds.at) in
      let fits : sum_of c + charge < 2 ^ 64 + h.entry.charge = h.fits in
      absurd (omega (arith, was, past, fits))

  -- a strict begin or insert overflows, or takes memory, as one that is not strict does
  loose_overflow : (c : Cache K V) (k : K) (charge : ℕ) → Overflows E c (ask.begin_strictly k charge) → Overflows E c (ask.begin k charge)
  loose_overflow c k charge (inl h) = inl (h.1, h.2)
  loose_overflow c k charge (inr h) = inr h

  loose_memory : (c : Cache K V) (k : K) (charge : ℕ) → TakesMemory E c (ask.begin_strictly k charge) → TakesMemory E c (ask.begin k charge)
  loose_memory c k charge (inl h) = inl (h.1, h.2)
  loose_memory c k charge (inr h) = inr h

  -- a stale request is not one that overflows, or takes memory
  stale_fits : (c : Cache K V) (r : Request K V) → IsStale E c r → Overflows E c r → ⊥
  stale_fits c (ask.begin k charge) h o = h
  stale_fits c (ask.begin_strictly k charge) h o = h
  stale_fits c (ask.get k) h o = h
  stale_fits c (ask.insert k charge v) h o = h
  stale_fits c (ask.insert_strictly k charge v) h o = h
  stale_fits c (ask.read k) h o = h
  stale_fits c (ask.ready_with s v charge) h o = h o.0 o.1
  stale_fits c (ask.ready_with_strictly s v charge) h o = h o.0 o.1
  stale_fits c (ask.repin s) h o = h.0 o.0 o.1 o.2
  stale_fits c r h o = o

  stale_takes_none : (c : Cache K V) (r : Request K V) → IsStale E c r → TakesMemory E c r → ⊥
  stale_takes_none c (ask.begin k charge) h m = h
  stale_takes_none c (ask.begin_strictly k charge) h m = h
  stale_takes_none c (ask.get k) h m = h
  stale_takes_none c (ask.insert k charge v) h m = h
  stale_takes_none c (ask.insert_strictly k charge v) h m = h
  stale_takes_none c (ask.read k) h m = h
  stale_takes_none c (ask.poll s) h m = none-some m.0 (sym h ∙ m.2.at)
  stale_takes_none c (ask.repin s) h (inl m) = h.0 m.0 m.1 m.2
  stale_takes_none c (ask.repin s) h (inr m) = none-some m.0 (sym h.1 ∙ m.1)
  stale_takes_none c r h m = m

  stale_stops : (c new : Cache K V) (r : Request K V) (p : Reply K V) (out : List (Idle K V)) → IsStale E c r → Step E c r p out new → ⊥
  stale_stops c new (ask.poll s) p out h g = let a = poll_cases E c s p out new g in none-some a.2.entry (sym h ∙ a.2.holds.at)
  stale_stops c new (ask.ready s v) p out h g = let a = ready_cases E c s v p out new g in h a.1.entry a.1.holds
  stale_stops c new (ask.ready_with s v charge) p out h g = let a = (ready_with_cases E c s v charge p out new g).1 in h a.entry a.holds
  stale_stops c new (ask.ready_with_strictly s v charge) p out h g = let a = (ready_with_cases E c s v charge p out new (loose_ready E c s v charge p out new g)).1 in h a.entry a.holds
  stale_stops c new (ask.fail s) p out h g = elim (fail_cases E c s p out new g) [
    | inl a ↦ h a.1.entry a.1.holds
    | inr a ↦ h a.2.entry a.2.holds
  ]
  stale_stops c new (ask.release s) p out h g = elim (release_cases E c s p out new g).1 [
    | inl a ↦ h a.1.entry a.0 a.1.holds
    | inr b ↦ elim b [
      | inl a ↦ h a.entry a.value a.holds
      | inr a ↦ h a.entry a.value a.holds
    ]
  ]
  stale_stops c new (ask.release_and_evict s) p out h g = elim (release_and_evict_cases E c s p out new g).1 [
    | inl a ↦ h a.1.entry a.0 a.1.holds
    | inr a ↦ h a.entry a.value a.holds
  ]
  stale_stops c new (ask.repin s) p out h g =
      let a = repin_cases E c s p out new g in
      elim a.2 [
        | inl b ↦ h.0 b.entry a.0 b.holds
        | inr b ↦ none-some b.1.entry (sym h.1 ∙ b.1.at)
      ]
  stale_stops c new r p out h g = absurd h

  module _ (laws : IsEquivalence E) (c : Cache K V) (l : IsLawful E c) where
    -- an entry of the key with room for a pin is not a full one
    has_room : (k : K) (s : ℕ) (e : Held K V) → held_at c s ≡ Some e → e.detached ≡ false → E e.key k ≡ true → e.pins < c.most_pins → IsFull E c k → ⊥
    has_room k s e at found key room full =
        let n : e.pins ≡ full.entry.pins = ap (λ x. x.pins) (held_once E laws c l k s full.stamp e full.entry at full.at found full.found key full.same_key).1 in
        let most : full.entry.pins ≡ c.most_pins = full.full in
        absurd (omega (arith, n, most, room))

    hit_not_full : (k : K) (s : ℕ) (v : V) (out : List (Idle K V)) (new : Cache K V) → Hits E c k s v out new → IsFull E c k → ⊥
    hit_not_full k s v out new (inl a) full = has_room k s a.entry a.holds.at a.found a.same_key a.room full
    hit_not_full k s v out new (inr a) full = not_both E laws c l k full.stamp s full.entry a.entry full.at a.at full.found full.same_key a.same_key

    would_hit_not_full : (k : K) → WouldHit E c k → IsFull E c k → ⊥
    would_hit_not_full k (inl h) full = has_room k h.0 h.1 h.3.at h.6 h.4 h.5 full
    would_hit_not_full k (inr h) full = not_both E laws c l k full.stamp h.0 full.entry h.1 full.at h.2 full.found full.same_key h.3

    -- one that is full and ready is not unready
    full_is_ready : (k : K) → (full : IsFull E c k) × (v : V) × (full.entry.phase ≡ ready v) → IsUnready E c k → ⊥
    full_is_ready k h unready =
        let u = unready h.0.stamp h.0.entry.key h.0.entry.charge (inr (h.0.entry, h.0.at, refl, refl, h.0.found)) h.0.same_key in
        not_ready_too u.0.phase h.1 (ap (λ x. x.phase) (same_entry E c h.0.stamp u.0 h.0.entry u.1 h.0.at) ∙ h.2) u.2

    -- an entry that has the greatest number of pins takes no more
    full_at : (s : ℕ) (e : Held K V) → held_at c s ≡ Some e → e.pins ≡ c.most_pins → HasRoomAt E c s → ⊥
    full_at s e at full (inl m) =
        let n : e.pins ≡ m.0.pins = ap (λ x. x.pins) (same_entry E c s e m.0 at m.2.at) in
        let room : m.0.pins < c.most_pins = m.3 in
        absurd (omega (arith, n, full, room))
    full_at s e at full (inr m) = none-some e (sym (l.held_apart s m.0 m.1) ∙ at)

    begin_overflow_stops : (new : Cache K V) (k : K) (charge : ℕ) (p : Reply K V) (out : List (Idle K V)) → Overflows E c (ask.begin k charge) → Step E c (ask.begin k charge) p out new → ⊥
    begin_overflow_stops new k charge p out (inl h) g = elim (begin_cases E c k charge p out new g) [
      | inl a ↦ no_numbers c charge a.2.fits h.1
      | inr b ↦ elim b [
        | inl a ↦ not_held E laws c l k a.0 a.3.entry h.0 a.3.holds.at a.3.found a.3.same_key
        | inr a ↦ not_idle E laws c l k a.0 a.3.entry h.0 a.3.at a.3.same_key
      ]
    ]
    begin_overflow_stops new k charge p out (inr h) g = elim (begin_cases E c k charge p out new g) [
      | inl a ↦ not_held E laws c l k h.stamp h.entry a.2.absent h.at h.found h.same_key
      | inr b ↦ elim b [
        | inl a ↦ has_room k a.0 a.3.entry a.3.holds.at a.3.found a.3.same_key a.3.room h
        | inr a ↦ not_both E laws c l k h.stamp a.0 h.entry a.3.entry h.at a.3.at h.found h.same_key a.3.same_key
      ]
    ]

    insert_overflow_stops : (new : Cache K V) (k : K) (charge : ℕ) (v : V) (p : Reply K V) (out : List (Idle K V)) → Overflows E c (ask.insert k charge v) → Step E c (ask.insert k charge v) p out new → ⊥
    insert_overflow_stops new k charge v p out h g =
        let x = (insert_cases E c k charge v p out new g).2 in
        no_numbers h.0 charge (subst (λ d. HasNumbers E d charge) (invalidates_once E laws c l k x.replaced h.1 x.mid h.0 x.invalidated h.2).1 x.begun.fits) h.3

    overflow_stops : (new : Cache K V) (r : Request K V) (p : Reply K V) (out : List (Idle K V)) → Overflows E c r → Step E c r p out new → ⊥
    overflow_stops new (ask.begin k charge) p out h g = begin_overflow_stops new k charge p out h g
    overflow_stops new (ask.begin_strictly k charge) p out h g = begin_overflow_stops new k charge p out (loose_overflow c k charge h) (loose_begin E c k charge p out new g)
    overflow_stops new (ask.get k) p out h g = elim (get_cases E c k p out new g) [
      | inl a ↦ hit_not_full k a.0 a.1 out new a.3 h.0
      | inr a ↦ full_is_ready k h a.1
    ]
    overflow_stops new (ask.insert k charge v) p out h g = insert_overflow_stops new k charge v p out h g
    overflow_stops new (ask.insert_strictly k charge v) p out h g = insert_overflow_stops new k charge v p out h.1 (loose_insert E c k charge v p out new g).1
    overflow_stops new (ask.read k) p out h g = elim (read_cases E c k p out new g) [
      | inl a ↦ hit_not_full k a.0 a.1 [] a.3.mid a.3.found h.0
      | inr a ↦ full_is_ready k h a.1
    ]
    overflow_stops new (ask.ready_with s v charge) p out h g = past_end c new s v charge out h.0 h.1 h.2 (ready_with_cases E c s v charge p out new g).1
    overflow_stops new (ask.ready_with_strictly s v charge) p out h g = past_end c new s v charge out h.0 h.1 h.2.1 (ready_with_cases E c s v charge p out new (loose_ready E c s v charge p out new g)).1
    overflow_stops new (ask.repin s) p out h g =
        let a = repin_cases E c s p out new g in
        elim a.2 [
          | inl b ↦ full_at s h.0 h.2.at h.3 (inl (b.entry, a.0, b.holds, b.room))
          | inr b ↦ full_at s h.0 h.2.at h.3 (inr (b.1.entry, b.1.at))
        ]
    overflow_stops new r p out h g = absurd h

    begin_overflow_takes_none : (k : K) (charge : ℕ) → Overflows E c (ask.begin k charge) → TakesMemory E c (ask.begin k charge) → ⊥
    begin_overflow_takes_none k charge (inl h) (inl m) = no_numbers c charge m.1 h.1
    begin_overflow_takes_none k charge (inl h) (inr (inl m)) = not_held E laws c l k m.0 m.1 h.0 m.3.at m.6 m.4
    begin_overflow_takes_none k charge (inl h) (inr (inr m)) = not_idle E laws c l k m.0 m.1 h.0 m.2 m.3
    begin_overflow_takes_none k charge (inr h) (inl m) = not_held E laws c l k h.stamp h.entry m.0 h.at h.found h.same_key
    begin_overflow_takes_none k charge (inr h) (inr m) = would_hit_not_full k m h

    insert_overflow_takes_none : (k : K) (charge : ℕ) (v : V) → Overflows E c (ask.insert k charge v) → TakesMemory E c (ask.insert k charge v) → ⊥
    insert_overflow_takes_none k charge v h m = no_numbers h.0 charge (subst (λ d. HasNumbers E d charge) (invalidates_once E laws c l k m.1 h.1 m.0 h.0 m.2 h.2).1 m.3) h.3

    overflow_takes_none : (r : Request K V) → Overflows E c r → TakesMemory E c r → ⊥
    overflow_takes_none (ask.begin k charge) h m = begin_overflow_takes_none k charge h m
    overflow_takes_none (ask.begin_strictly k charge) h m = begin_overflow_takes_none k charge (loose_overflow c k charge h) (loose_memory c k charge m)
    overflow_takes_none (ask.get k) h m = would_hit_not_full k m h.0
    overflow_takes_none (ask.insert k charge v) h m = insert_overflow_takes_none k charge v h m
    overflow_takes_none (ask.insert_strictly k charge v) h m = insert_overflow_takes_none k charge v h.1 m.1
    overflow_takes_none (ask.read k) h m = would_hit_not_full k m h.0
    overflow_takes_none (ask.ready_with s v charge) h m = m
    overflow_takes_none (ask.ready_with_strictly s v charge) h m = m
    overflow_takes_none (ask.repin s) h m = full_at s h.0 h.2.at h.3 m
    overflow_takes_none r h m = absurd h

    -- a request that exceeds the capacity has no step, and is refused in no other way
    exceeding_stops : (new : Cache K V) (r : Request K V) (p : Reply K V) (out : List (Idle K V)) → ExceedsCapacity E c r → Step E c r p out new → ⊥
    exceeding_stops new (ask.begin_strictly k charge) (say.make s) out h (inl g) = no_capacity c charge g.0 h.0
    exceeding_stops new (ask.begin_strictly k charge) (say.make s) out h (inr j) = not_held E laws c l k s j.entry h.1 j.holds.at j.found j.same_key
    exceeding_stops new (ask.begin_strictly k charge) (say.wait s) out h j = not_held E laws c l k s j.entry h.1 j.holds.at j.found j.same_key
    exceeding_stops new (ask.begin_strictly k charge) (say.hit s v) out h (inl j) = not_held E laws c l k s j.entry h.1 j.holds.at j.found j.same_key
    exceeding_stops new (ask.begin_strictly k charge) (say.hit s v) out h (inr r) = not_idle E laws c l k s r.entry h.1 r.at r.same_key
    exceeding_stops new (ask.begin_strictly k charge) p out h g = absurd g
    exceeding_stops new (ask.insert_strictly k charge v) p out h g = no_capacity c charge (loose_insert E c k charge v p out new g).0 h
    exceeding_stops new (ask.ready_with_strictly s v charge) say.done out h g = no_capacity_to_charge c charge g.0.entry h.0 (same_entry E c s g.0.entry h.0 g.0.holds.at h.1.at) g.1 h.2
    exceeding_stops new (ask.ready_with_strictly s v charge) p out h g = absurd g
    exceeding_stops new r p out h g = absurd h

    exceeding_fits : (r : Request K V) → ExceedsCapacity E c r → Overflows E c r → ⊥
    exceeding_fits (ask.begin_strictly k charge) h (inl o) = no_capacity c charge o.0 h.0
    exceeding_fits (ask.begin_strictly k charge) h (inr o) = not_held E laws c l k o.stamp o.entry h.1 o.at o.found o.same_key
    exceeding_fits (ask.insert_strictly k charge v) h o = no_capacity c charge o.0 h
    exceeding_fits (ask.ready_with_strictly s v charge) h o = no_capacity_to_charge c charge o.0 h.0 (same_entry E c s o.0 h.0 o.1.at h.1.at) o.2.0 h.2
    exceeding_fits r h o = absurd h

    exceeding_takes_none : (r : Request K V) → ExceedsCapacity E c r → TakesMemory E c r → ⊥
    exceeding_takes_none (ask.begin_strictly k charge) h (inl m) = no_capacity c charge m.0 h.0
    exceeding_takes_none (ask.begin_strictly k charge) h (inr (inl m)) = not_held E laws c l k m.0 m.1 h.1 m.3.at m.6 m.4
    exceeding_takes_none (ask.begin_strictly k charge) h (inr (inr m)) = not_idle E laws c l k m.0 m.1 h.1 m.2 m.3
    exceeding_takes_none (ask.insert_strictly k charge v) h m = no_capacity c charge m.0 h
    exceeding_takes_none (ask.ready_with_strictly s v charge) h m = m
    exceeding_takes_none r h m = absurd h

    exceeding_not_stale : (r : Request K V) → ExceedsCapacity E c r → IsStale E c r → ⊥
    exceeding_not_stale (ask.begin_strictly k charge) h s = s
    exceeding_not_stale (ask.insert_strictly k charge v) h s = s
    exceeding_not_stale (ask.ready_with_strictly s v charge) h stale = stale h.0 h.1
    exceeding_not_stale r h s = absurd h

    one_of : (r : Request K V) (e f : Refusal) → Refuses E c r e → Refuses E c r f → e ≡ f
    one_of r Memory Memory a b = refl
    one_of r Memory Overflow a b = absurd (overflow_takes_none r b a)
    one_of r Memory Stale a b = absurd (stale_takes_none c r b a)
    one_of r Overflow Memory a b = absurd (overflow_takes_none r a b)
    one_of r Overflow Overflow a b = refl
    one_of r Overflow Stale a b = absurd (stale_fits c r b a)
    one_of r Stale Memory a b = absurd (stale_takes_none c r a b)
    one_of r Stale Overflow a b = absurd (stale_fits c r a b)
    one_of r Stale Stale a b = refl
    one_of r Full Memory a b = absurd (exceeding_takes_none r a b)
    one_of r Full Overflow a b = absurd (exceeding_fits r a b)
    one_of r Full Stale a b = absurd (exceeding_not_stale r a b)
    one_of r Full Full a b = refl
    one_of r Memory Full a b = absurd (exceeding_takes_none r b a)
    one_of r Overflow Full a b = absurd (exceeding_fits r b a)
    one_of r Stale Full a b = absurd (exceeding_not_stale r b a)

pub leaves_no_step : (K V : Type 0) (E : K → K → Bool) → IsEquivalence E → LeavesNoStep K V E
leaves_no_step K V E laws old new r p out l (inl h) g = overflow_stops E laws old l new r p out h g
leaves_no_step K V E laws old new r p out l (inr (inl h)) g = stale_stops E old new r p out h g
leaves_no_step K V E laws old new r p out l (inr (inr h)) g = exceeding_stops E laws old l new r p out h g

pub one_refusal : (K V : Type 0) (E : K → K → Bool) → IsEquivalence E → OneRefusal K V E
one_refusal K V E laws old r e f l a b = one_of E laws old l r e f a b
