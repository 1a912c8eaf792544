-- A lawful cache has one step for a request.
use Rattle.std.proofs.Common.{◌≡◌, ℕ, ◌+◌, ◌≤◌, ◌⊎◌, inl, inr, Bool, true, false, cond, List, [], ◌∷◌, ◌++◌, Option, Some, None, refl, sym, ap, ◌∙◌, subst, arith}
use Rattle.std.specs.Cmp.{IsEquivalence, nat_cmp_total}
use Rattle.std.specs.Ordering.{nat_cmp}
use Rattle.std.specs.FinMap as finmap
use Rattle.std.proofs.lemmas.Bool.{true≢false}
use Rattle.std.proofs.lemmas.Option.{none-some, same_Some}
use Rattle.concurrent_lru.specs.Cache.{Cache, Idle, Held, Phase, making, untaken, ready, IsLawful, IsFront, Settles, held_at, idle_at, sum_of}
use Rattle.concurrent_lru.specs.Request as ask
use Rattle.concurrent_lru.specs.Request.{Request}
use Rattle.concurrent_lru.specs.Reply as say
use Rattle.concurrent_lru.specs.Reply.{Reply}
use Rattle.concurrent_lru.specs.Steps.{with_held, with_capacity, without_held, without, held_in_phase, held_detached, one_more_pin, one_pin_less, held_by_one, idle_again, Makes, Joins, Revives, Hits, ChangesPhase, Charges, Leaves, Removes, Rests, Stays, Drops, Ends, Departs, PinsAgain, Detaches, IsAbsent, IsUnready, IsNotIdle, Releases, ReleasesAndEvicts, Repins, Invalidates, Step}
use Rattle.concurrent_lru.specs.StepLaws.{AreAlike, IsAlike, LeadsToOne, OneAnswer}
use Rattle.concurrent_lru.proofs.Steps.BeginOfAbsent.{with_new_entry, sum-made}
use Rattle.concurrent_lru.proofs.Steps.ChargeOfMaking.{given}
use Rattle.concurrent_lru.proofs.Lists.DistinctEntries.{same}
use Rattle.concurrent_lru.proofs.Steps.OneFront.{one_front}
use Rattle.concurrent_lru.proofs.Steps.LawfulAfterChange.{orderly}
use Rattle.concurrent_lru.proofs.Steps.CasesOfSteps.{reply_in_phase, phase_after_asking, loose_begin, loose_insert, loose_ready, begin_cases, poll_cases, ready_cases, ready_with_cases, fail_cases, get_cases, release_cases, release_and_evict_cases, repin_cases, advice_evict_cases, invalidate_cases, insert_cases, read_cases, prune_cases, set_capacity_cases, total_cases}
use Rattle.concurrent_lru.proofs.Steps.StaysLawful.{invalidates_lawful}

pub same_value : {V : Type 0} (v w : V) → ready v ≡ ready w → v ≡ w
same_value v w h = cc

-- an entry that is made or untaken is not ready
pub not_ready_too : {V : Type 0} (p : Phase V) (v : V) → p ≡ ready v → (p ≡ making) ⊎ (p ≡ untaken) → ⊥
not_ready_too p v h (inl k) = absurd (cc)
not_ready_too p v h (inr k) = absurd (cc)

module _ {K V : Type 0} (E : K → K → Bool) where
  -- a cache that has settled did it in one way
  settles_once : (mid : Cache K V) (out away : List (Idle K V)) (new other : Cache K V) → Settles mid out new → Settles mid away other → (out ≡ away) × (new ≡ other)
  settles_once mid out away new other a b =
      let f = one_front (sum_of mid) mid.capacity mid.idle out new.idle away other.idle a.front b.front in
      (f.0, a.others ∙ ap (λ xs. record mid { idle = xs }) f.1 ∙ sym b.others)

  stays_once : (old : Cache K V) (out away : List (Idle K V)) (new other : Cache K V) → Stays E old out new → Stays E old away other → (out ≡ away) × (new ≡ other)
  stays_once old out away new other a b = (a.none ∙ sym b.none, a.same ∙ sym b.same)

  pub same_entry : (old : Cache K V) (s : ℕ) (e f : Held K V) → held_at old s ≡ Some e → held_at old s ≡ Some f → e ≡ f
  same_entry old s e f a b = same_Some _ _ (sym a ∙ b)

  changes_phase_once : (old : Cache K V) (s : ℕ) (p q : Phase V) (out away : List (Idle K V)) (new other : Cache K V) → ChangesPhase E old s p (phase_after_asking p) out new → ChangesPhase E old s q (phase_after_asking q) away other → (p ≡ q) × (out ≡ away) × (new ≡ other)
  changes_phase_once old s p q out away new other a b =
      let e = same_entry old s a.entry b.entry a.holds.at b.holds.at in
      let ph : p ≡ q = sym a.holds.phase ∙ ap (λ x. x.phase) e ∙ b.holds.phase in
      (ph, a.none ∙ sym b.none, a.changed ∙ (λ i. with_held old s (held_in_phase (phase_after_asking (ph i)) (e i))) ∙ sym b.changed)

  readies_once : (old : Cache K V) (s : ℕ) (v : V) (out away : List (Idle K V)) (new other : Cache K V) → ChangesPhase E old s making (ready v) out new → ChangesPhase E old s making (ready v) away other → (out ≡ away) × (new ≡ other)
  readies_once old s v out away new other a b =
      let e = same_entry old s a.entry b.entry a.holds.at b.holds.at in
      (a.none ∙ sym b.none, a.changed ∙ ap (λ x. with_held old s (held_in_phase (ready v) x)) e ∙ sym b.changed)

  charges_once : (old : Cache K V) (s : ℕ) (v : V) (charge : ℕ) (out away : List (Idle K V)) (new other : Cache K V) → Charges E old s v charge out new → Charges E old s v charge away other → (out ≡ away) × (new ≡ other)
  charges_once old s v charge out away new other a b =
      let e = same_entry old s a.entry b.entry a.holds.at b.holds.at in
      settles_once (with_held old s (given v charge b.entry)) out away new other (subst (λ x. Settles (with_held old s (given v charge x)) out new) e a.settles) b.settles

  leaves_once : (old : Cache K V) (s : ℕ) (p q : Phase V) (out away : List (Idle K V)) (new other : Cache K V) → Leaves E old s p q out new → Leaves E old s p q away other → (out ≡ away) × (new ≡ other)
  leaves_once old s p q out away new other a b =
      let e = same_entry old s a.entry b.entry a.holds.at b.holds.at in
      (a.none ∙ sym b.none, a.changed ∙ ap (λ x. with_held old s (held_in_phase q (one_pin_less x))) e ∙ sym b.changed)

  removes_once : (old : Cache K V) (s : ℕ) (k l : K) (out away : List (Idle K V)) (new other : Cache K V) → Removes E old s k out new → Removes E old s l away other → (k ≡ l) × (out ≡ away) × (new ≡ other)
  removes_once old s k l out away new other a b =
      let e = same_entry old s a.entry b.entry a.holds.at b.holds.at in
      (sym a.key ∙ ap (λ x. x.key) e ∙ b.key, a.none ∙ sym b.none, a.changed ∙ sym b.changed)

  rests_once : (old : Cache K V) (s : ℕ) (out away : List (Idle K V)) (new other : Cache K V) → Rests E old s out new → Rests E old s away other → (out ≡ away) × (new ≡ other)
  rests_once old s out away new other a b =
      let e = same_entry old s a.entry b.entry a.holds.at b.holds.at in
      let v : a.value ≡ b.value = same_value a.value b.value (sym a.holds.phase ∙ ap (λ x. x.phase) e ∙ b.holds.phase) in
      settles_once (record (without_held old s) { idle = old.idle ++ idle_again s b.entry b.value ∷ [] }) out away new other
      (subst (λ c. Settles c out new) (λ i. record (without_held old s) { idle = old.idle ++ idle_again s (e i) (v i) ∷ [] }) a.settles) b.settles

  ends_once : (old : Cache K V) (s : ℕ) (out away : List (Idle K V)) (new other : Cache K V) → Ends E old s out new → Ends E old s away other → (out ≡ away) × (new ≡ other)
  ends_once old s out away new other a b =
      let e = same_entry old s a.entry b.entry a.holds.at b.holds.at in
      let v : a.value ≡ b.value = same_value a.value b.value (sym a.holds.phase ∙ ap (λ x. x.phase) e ∙ b.holds.phase) in
      (a.one ∙ (λ i. idle_again s (e i) (v i) ∷ []) ∙ sym b.one, a.changed ∙ sym b.changed)

  departs_once : (old : Cache K V) (s : ℕ) (out away : List (Idle K V)) (new other : Cache K V) → Departs E old s out new → Departs E old s away other → (out ≡ away) × (new ≡ other)
  departs_once old s out away new other a b =
      let e = same_entry old s a.entry b.entry a.holds.at b.holds.at in
      let v : a.value ≡ b.value = same_value a.value b.value (sym a.holds.phase ∙ ap (λ x. x.phase) e ∙ b.holds.phase) in
      (a.one ∙ (λ i. idle_again s (e i) (v i) ∷ []) ∙ sym b.one, a.changed ∙ sym b.changed)

  pins_again_once : (old : Cache K V) (s : ℕ) (v w : V) (out away : List (Idle K V)) (new other : Cache K V) → PinsAgain E old s v out new → PinsAgain E old s w away other → (v ≡ w) × (out ≡ away) × (new ≡ other)
  pins_again_once old s v w out away new other a b =
      let e = same_entry old s a.entry b.entry a.holds.at b.holds.at in
      (same_value v w (sym a.holds.phase ∙ ap (λ x. x.phase) e ∙ b.holds.phase), a.none ∙ sym b.none, a.changed ∙ ap (λ x. with_held old s (one_more_pin x)) e ∙ sym b.changed)

  -- a held entry is detached, or it is not
  pub not_found_and_lost : (old : Cache K V) (s : ℕ) (e f : Held K V) → held_at old s ≡ Some e → held_at old s ≡ Some f → e.detached ≡ false → f.detached ≡ true → ⊥
  not_found_and_lost old s e f a b found lost = true≢false (sym lost ∙ sym (ap (λ x. x.detached) (same_entry old s e f a b)) ∙ found)

  -- fail and release leave other pins, or it was the last one
  not_last : (old : Cache K V) (s : ℕ) (e f : Held K V) → held_at old s ≡ Some e → held_at old s ≡ Some f → 2 ≤ e.pins → f.pins ≡ 1 → ⊥
  not_last old s e f a b others last =
      let n : e.pins ≡ f.pins = ap (λ x. x.pins) (same_entry old s e f a b) in
      absurd (omega (arith, n, others, last))

  releases_once : (old : Cache K V) (s : ℕ) (out away : List (Idle K V)) (new other : Cache K V) → Releases E old s out new → Releases E old s away other → (out ≡ away) × (new ≡ other)
  releases_once old s out away new other (inl a) (inl b) =
      let v : a.0 ≡ b.0 = same_value a.0 b.0 (sym a.1.holds.phase ∙ ap (λ x. x.phase) (same_entry old s a.1.entry b.1.entry a.1.holds.at b.1.holds.at) ∙ b.1.holds.phase) in
      leaves_once old s (ready b.0) (ready b.0) out away new other (subst (λ w. Leaves E old s (ready w) (ready w) out new) v a.1) b.1
  releases_once old s out away new other (inl a) (inr (inl b)) = absurd (not_last old s a.1.entry b.entry a.1.holds.at b.holds.at a.1.others b.last)
  releases_once old s out away new other (inl a) (inr (inr b)) = absurd (not_last old s a.1.entry b.entry a.1.holds.at b.holds.at a.1.others b.last)
  releases_once old s out away new other (inr (inl a)) (inl b) = absurd (not_last old s b.1.entry a.entry b.1.holds.at a.holds.at b.1.others a.last)
  releases_once old s out away new other (inr (inr a)) (inl b) = absurd (not_last old s b.1.entry a.entry b.1.holds.at a.holds.at b.1.others a.last)
  releases_once old s out away new other (inr (inl a)) (inr (inl b)) = rests_once old s out away new other a b
  releases_once old s out away new other (inr (inl a)) (inr (inr b)) = absurd (not_found_and_lost old s a.entry b.entry a.holds.at b.holds.at a.found b.lost)
  releases_once old s out away new other (inr (inr a)) (inr (inl b)) = absurd (not_found_and_lost old s b.entry a.entry b.holds.at a.holds.at b.found a.lost)
  releases_once old s out away new other (inr (inr a)) (inr (inr b)) = ends_once old s out away new other a b

  releases_and_evicts_once : (old : Cache K V) (s : ℕ) (out away : List (Idle K V)) (new other : Cache K V) → ReleasesAndEvicts E old s out new → ReleasesAndEvicts E old s away other → (out ≡ away) × (new ≡ other)
  releases_and_evicts_once old s out away new other (inl a) (inl b) = releases_once old s out away new other (inl a) (inl b)
  releases_and_evicts_once old s out away new other (inl a) (inr b) = absurd (not_last old s a.1.entry b.entry a.1.holds.at b.holds.at a.1.others b.last)
  releases_and_evicts_once old s out away new other (inr a) (inl b) = absurd (not_last old s b.1.entry a.entry b.1.holds.at a.holds.at b.1.others a.last)
  releases_and_evicts_once old s out away new other (inr a) (inr b) = departs_once old s out away new other a b

  alike_option : IsEquivalence E → (o : Option (Held K V)) → AreAlike E o o
  alike_option laws None = tt
  alike_option laws (Some e) = (laws.refl e.key, refl)

  alike_same : IsEquivalence E → (c d : Cache K V) → c ≡ d → IsAlike E c d
  alike_same laws c d h = subst (IsAlike E c) h (record { capacity = refl; most_pins = refl; next = refl; idle = refl; held = λ s. alike_option laws (held_at c s) })

  alike_chosen : IsEquivalence E → (t : Bool) (e f : Held K V) (o : Option (Held K V)) → E e.key f.key ≡ true → record e { key = f.key } ≡ f → AreAlike E (cond t (Some e) o) (cond t (Some f) o)
  alike_chosen laws true e f o h k = (h, k)
  alike_chosen laws false e f o h k = alike_option laws o

  alike_inserted : IsEquivalence E → (m : finmap.FinMap nat_cmp (Held K V)) (s t : ℕ) (e f : Held K V) → E e.key f.key ≡ true → record e { key = f.key } ≡ f → AreAlike E (finmap.get (finmap.insert m s e) t) (finmap.get (finmap.insert m s f) t)
  alike_inserted laws m s t e f h k =
      subst (λ o. AreAlike E o (finmap.get (finmap.insert m s f) t)) (sym (finmap.get-insert nat_cmp_total m s e t))
      (subst (AreAlike E (cond (same t s) (Some e) (finmap.get m t))) (sym (finmap.get-insert nat_cmp_total m s f t)) (alike_chosen laws (same t s) e f (finmap.get m t) h k))

  -- a held entry is written in caches that are alike
  alike_written : (b : Bool) (e f : Held K V) (o p : Option (Held K V)) → E e.key f.key ≡ true → record e { key = f.key } ≡ f → AreAlike E o p → AreAlike E (cond b (Some e) o) (cond b (Some f) p)
  alike_written true e f o p h k a = (h, k)
  alike_written false e f o p h k a = a

  -- so is one that gets its value
  gives_alike : (c d new other : Cache K V) (s : ℕ) (v : V) → IsAlike E c d → ChangesPhase E c s making (ready v) [] new → ChangesPhase E d s making (ready v) [] other → IsAlike E new other
  gives_alike c d new other s v is a b =
      let both : AreAlike E (Some a.entry) (Some b.entry) = subst (λ o. AreAlike E o (Some b.entry)) a.holds.at (subst (AreAlike E (held_at c s)) b.holds.at (is.held s)) in
      record {
        capacity = ap (λ x. x.capacity) a.changed ∙ is.capacity ∙ sym (ap (λ x. x.capacity) b.changed);
        most_pins = ap (λ x. x.most_pins) a.changed ∙ is.most_pins ∙ sym (ap (λ x. x.most_pins) b.changed);
        next = ap (λ x. x.next) a.changed ∙ is.next ∙ sym (ap (λ x. x.next) b.changed);
        idle = ap (λ x. x.idle) a.changed ∙ is.idle ∙ sym (ap (λ x. x.idle) b.changed);
        held = λ t.
            let here = sym (ap (λ x. held_at x t) a.changed ∙ finmap.get-insert nat_cmp_total c.held s (held_in_phase (ready v) a.entry) t) in
            let there = sym (ap (λ x. held_at x t) b.changed ∙ finmap.get-insert nat_cmp_total d.held s (held_in_phase (ready v) b.entry) t) in
            subst (λ o. AreAlike E o (held_at other t)) here
            (subst (AreAlike E (cond (same t s) (Some (held_in_phase (ready v) a.entry)) (held_at c t))) there
            (alike_written (same t s) (held_in_phase (ready v) a.entry) (held_in_phase (ready v) b.entry) (held_at c t) (held_at d t) both.0 (ap (held_in_phase (ready v)) both.1) (is.held t)));
      }

  module _ (laws : IsEquivalence E) (old : Cache K V) (l : IsLawful E old) where
    -- keys that equal one key are equal
    both_equal : (a b k : K) → E a k ≡ true → E b k ≡ true → E a b ≡ true
    both_equal a b k p q = laws.symm a b ∙ laws.congr b k a q ∙ laws.symm k a ∙ p

    -- a key has one entry
    pub held_once : (k : K) (s t : ℕ) (e f : Held K V) → held_at old s ≡ Some e → held_at old t ≡ Some f → e.detached ≡ false → f.detached ≡ false → E e.key k ≡ true → E f.key k ≡ true → (s ≡ t) × (e ≡ f)
    held_once k s t e f a b g h p q =
        let st : s ≡ t = l.one_entry s t e.key f.key e.charge f.charge (inr (e, a, refl, refl, g)) (inr (f, b, refl, refl, h)) (both_equal e.key f.key k p q) in
        (st, same_Some _ _ (sym a ∙ ap (held_at old) st ∙ b))

    pub idle_once : (k : K) (s t : ℕ) (x y : Idle K V) → idle_at old s ≡ Some x → idle_at old t ≡ Some y → E x.key k ≡ true → E y.key k ≡ true → (s ≡ t) × (x ≡ y)
    idle_once k s t x y a b p q =
        let st : s ≡ t = l.one_entry s t x.key y.key x.charge y.charge (inl (x, a, refl, refl)) (inl (y, b, refl, refl)) (both_equal x.key y.key k p q) in
        (st, same_Some _ _ (sym a ∙ ap (idle_at old) st ∙ b))

    pub not_both : (k : K) (s t : ℕ) (e : Held K V) (x : Idle K V) → held_at old s ≡ Some e → idle_at old t ≡ Some x → e.detached ≡ false → E e.key k ≡ true → E x.key k ≡ true → ⊥
    not_both k s t e x a b g p q =
        let st : s ≡ t = l.one_entry s t e.key x.key e.charge x.charge (inr (e, a, refl, refl, g)) (inl (x, b, refl, refl)) (both_equal e.key x.key k p q) in
        none-some e (sym (l.held_apart t x b) ∙ ap (held_at old) (sym st) ∙ a)

    pub not_held : (k : K) (s : ℕ) (e : Held K V) → IsAbsent E old k → held_at old s ≡ Some e → e.detached ≡ false → E e.key k ≡ true → ⊥
    not_held k s e absent a g p = true≢false (sym p ∙ absent s e.key e.charge (inr (e, a, refl, refl, g)))

    pub not_idle : (k : K) (s : ℕ) (x : Idle K V) → IsAbsent E old k → idle_at old s ≡ Some x → E x.key k ≡ true → ⊥
    not_idle k s x absent a p = true≢false (sym p ∙ absent s x.key x.charge (inl (x, a, refl, refl)))

    makes_once : (k : K) (charge s t : ℕ) (out away : List (Idle K V)) (new other : Cache K V) → Makes E old k charge s out new → Makes E old k charge t away other → (s ≡ t) × (out ≡ away) × IsAlike E new other
    makes_once k charge s t out away new other a b =
        let p : Settles (with_new_entry old a.copy charge) out new = subst (λ u. Settles (record (with_held old u (record { key = a.copy; charge = charge; pins = 1; detached = false; phase = making })) { next = old.next + 1 }) out new) a.stamp a.settles in
        let q : Settles (with_new_entry old b.copy charge) away other = subst (λ u. Settles (record (with_held old u (record { key = b.copy; charge = charge; pins = 1; detached = false; phase = making })) { next = old.next + 1 }) away other) b.stamp b.settles in
        let sums : sum_of (with_new_entry old a.copy charge) ≡ sum_of (with_new_entry old b.copy charge) = sum-made E old a.copy charge (orderly l) ∙ sym (sum-made E old b.copy charge (orderly l)) in
        let f = one_front (sum_of (with_new_entry old b.copy charge)) old.capacity old.idle out new.idle away other.idle (subst (λ n. IsFront n old.capacity old.idle out new.idle) sums p.front) q.front in (
          a.stamp ∙ sym b.stamp,
          f.0,
          record {
            capacity = ap (λ c. c.capacity) p.others ∙ sym (ap (λ c. c.capacity) q.others);
            most_pins = ap (λ c. c.most_pins) p.others ∙ sym (ap (λ c. c.most_pins) q.others);
            next = ap (λ c. c.next) p.others ∙ sym (ap (λ c. c.next) q.others);
            idle = f.1;
            held = λ u.
                subst (λ o. AreAlike E o (held_at other u)) (sym (ap (λ c. held_at c u) p.others))
                (subst (AreAlike E (held_at (with_new_entry old a.copy charge) u)) (sym (ap (λ c. held_at c u) q.others))
                (alike_inserted laws old.held old.next u _ _ (both_equal a.copy b.copy k a.same_key b.same_key) refl));
          },
        )

    joins_once : (k : K) (s t : ℕ) (p q : Phase V) (out away : List (Idle K V)) (new other : Cache K V) → Joins E old k s p (phase_after_asking p) out new → Joins E old k t q (phase_after_asking q) away other → (s ≡ t) × (p ≡ q) × (out ≡ away) × (new ≡ other)
    joins_once k s t p q out away new other a b =
        let e = held_once k s t a.entry b.entry a.holds.at b.holds.at a.found b.found a.same_key b.same_key in
        let ph : p ≡ q = sym a.holds.phase ∙ ap (λ x. x.phase) e.1 ∙ b.holds.phase in
        (e.0, ph, a.none ∙ sym b.none, a.changed ∙ (λ i. with_held old (e.0 i) (held_in_phase (phase_after_asking (ph i)) (one_more_pin (e.1 i)))) ∙ sym b.changed)

    revives_once : (k : K) (s t : ℕ) (v w : V) (out away : List (Idle K V)) (new other : Cache K V) → Revives E old k s v out new → Revives E old k t w away other → (s ≡ t) × (v ≡ w) × (out ≡ away) × (new ≡ other)
    revives_once k s t v w out away new other a b =
        let x = idle_once k s t a.entry b.entry a.at b.at a.same_key b.same_key in
        (x.0, sym a.value ∙ ap (λ y. y.value) x.1 ∙ b.value, a.none ∙ sym b.none, a.changed ∙ (λ i. record (with_held old (x.0 i) (held_by_one (x.1 i))) { idle = without (x.0 i) old.idle }) ∙ sym b.changed)

    -- an entry that is revived under its stamp, whatever key finds it
    revived_once : (k m : K) (s : ℕ) (v w : V) (out away : List (Idle K V)) (new other : Cache K V) → Revives E old k s v out new → Revives E old m s w away other → (v ≡ w) × (out ≡ away) × (new ≡ other)
    revived_once k m s v w out away new other a b =
        let x : a.entry ≡ b.entry = same_Some _ _ (sym a.at ∙ b.at) in
        (sym a.value ∙ ap (λ y. y.value) x ∙ b.value, a.none ∙ sym b.none, a.changed ∙ ap (λ y. record (with_held old s (held_by_one y)) { idle = without s old.idle }) x ∙ sym b.changed)

    repins_once : (s : ℕ) (v w : V) (out away : List (Idle K V)) (new other : Cache K V) → Repins E old s v out new → Repins E old s w away other → (v ≡ w) × (out ≡ away) × (new ≡ other)
    repins_once s v w out away new other (inl a) (inl b) = pins_again_once old s v w out away new other a b
    repins_once s v w out away new other (inl a) (inr b) = absurd (none-some a.entry (sym (l.held_apart s b.1.entry b.1.at) ∙ a.holds.at))
    repins_once s v w out away new other (inr a) (inl b) = absurd (none-some b.entry (sym (l.held_apart s a.1.entry a.1.at) ∙ b.holds.at))
    repins_once s v w out away new other (inr a) (inr b) = revived_once a.0 b.0 s v w out away new other a.1 b.1

    hits_once : (k : K) (s t : ℕ) (v w : V) (out away : List (Idle K V)) (new other : Cache K V) → Hits E old k s v out new → Hits E old k t w away other → (s ≡ t) × (v ≡ w) × (out ≡ away) × (new ≡ other)
    hits_once k s t v w out away new other (inl a) (inl b) = let j = joins_once k s t (ready v) (ready w) out away new other a b in (j.0, same_value v w j.1, j.2, j.3)
    hits_once k s t v w out away new other (inl a) (inr b) = absurd (not_both k s t a.entry b.entry a.holds.at b.at a.found a.same_key b.same_key)
    hits_once k s t v w out away new other (inr a) (inl b) = absurd (not_both k t s b.entry a.entry b.holds.at a.at b.found b.same_key a.same_key)
    hits_once k s t v w out away new other (inr a) (inr b) = revives_once k s t v w out away new other a b

    -- a key that hits is not one that is absent or not ready
    pub hit_is_ready : (k : K) (s : ℕ) (v : V) (out : List (Idle K V)) (new : Cache K V) → Hits E old k s v out new → IsUnready E old k → ⊥
    hit_is_ready k s v out new (inl a) u =
        let e = u s a.entry.key a.entry.charge (inr (a.entry, a.holds.at, refl, refl, a.found)) a.same_key in
        not_ready_too e.0.phase v (ap (λ x. x.phase) (same_entry old s e.0 a.entry e.1 a.holds.at) ∙ a.holds.phase) e.2
    hit_is_ready k s v out new (inr a) u =
        let e = u s a.entry.key a.entry.charge (inl (a.entry, a.at, refl, refl)) a.same_key in
        none-some e.0 (sym (l.held_apart s a.entry a.at) ∙ e.1)

    drops_once : (k : K) (out away : List (Idle K V)) (new other : Cache K V) → Drops E old k out new → Drops E old k away other → (out ≡ away) × (new ≡ other)
    drops_once k out away new other a b =
        let x = idle_once k a.stamp b.stamp a.entry b.entry a.at b.at a.same_key b.same_key in
        (a.one ∙ ap (λ y. y ∷ []) x.1 ∙ sym b.one, a.changed ∙ ap (λ s. record old { idle = without s old.idle }) x.0 ∙ sym b.changed)

    one_begin : (k : K) (charge : ℕ) (p q : Reply K V) (out away : List (Idle K V)) (new other : Cache K V) → Step E old (ask.begin k charge) p out new → Step E old (ask.begin k charge) q away other → (p ≡ q) × (out ≡ away) × IsAlike E new other
    one_begin k charge p q out away new other g h = elim (begin_cases E old k charge p out new g) [
      | inl a ↦ elim (begin_cases E old k charge q away other h) [
        | inl b ↦ let m = makes_once k charge a.0 b.0 out away new other a.2 b.2 in (a.1 ∙ ap say.make m.0 ∙ sym b.1, m.1, m.2)
        | inr c ↦ elim c [
          | inl b ↦ absurd (not_held k b.0 b.3.entry a.2.absent b.3.holds.at b.3.found b.3.same_key)
          | inr b ↦ absurd (not_idle k b.0 b.3.entry a.2.absent b.3.at b.3.same_key)
        ]
      ]
      | inr c ↦ elim c [
        | inl a ↦ elim (begin_cases E old k charge q away other h) [
          | inl b ↦ absurd (not_held k a.0 a.3.entry b.2.absent a.3.holds.at a.3.found a.3.same_key)
          | inr d ↦ elim d [
            | inl b ↦ let j = joins_once k a.0 b.0 a.1 b.1 out away new other a.3 b.3 in (a.2 ∙ (λ i. reply_in_phase (j.1 i) (j.0 i)) ∙ sym b.2, j.2, alike_same laws new other j.3)
            | inr b ↦ absurd (not_both k a.0 b.0 a.3.entry b.3.entry a.3.holds.at b.3.at a.3.found a.3.same_key b.3.same_key)
          ]
        ]
        | inr a ↦ elim (begin_cases E old k charge q away other h) [
          | inl b ↦ absurd (not_idle k a.0 a.3.entry b.2.absent a.3.at a.3.same_key)
          | inr d ↦ elim d [
            | inl b ↦ absurd (not_both k b.0 a.0 b.3.entry a.3.entry b.3.holds.at a.3.at b.3.found b.3.same_key a.3.same_key)
            | inr b ↦ let j = revives_once k a.0 b.0 a.1 b.1 out away new other a.3 b.3 in (a.2 ∙ (λ i. say.hit (j.0 i) (j.1 i)) ∙ sym b.2, j.2, alike_same laws new other j.3)
          ]
        ]
      ]
    ]

    one_fail : (s : ℕ) (p q : Reply K V) (out away : List (Idle K V)) (new other : Cache K V) → Step E old (ask.fail s) p out new → Step E old (ask.fail s) q away other → (p ≡ q) × (out ≡ away) × (new ≡ other)
    one_fail s p q out away new other g h = elim (fail_cases E old s p out new g) [
      | inl a ↦ elim (fail_cases E old s q away other h) [
        | inl b ↦ let j = leaves_once old s making untaken out away new other a.1 b.1 in (a.0 ∙ sym b.0, j.0, j.1)
        | inr b ↦ absurd (not_last old s a.1.entry b.2.entry a.1.holds.at b.2.holds.at a.1.others b.2.last)
      ]
      | inr a ↦ elim (fail_cases E old s q away other h) [
        | inl b ↦ absurd (not_last old s b.1.entry a.2.entry b.1.holds.at a.2.holds.at b.1.others a.2.last)
        | inr b ↦ let j = removes_once old s a.0 b.0 out away new other a.2 b.2 in (a.1 ∙ ap say.removed j.0 ∙ sym b.1, j.1, j.2)
      ]
    ]

    one_get : (k : K) (p q : Reply K V) (out away : List (Idle K V)) (new other : Cache K V) → Step E old (ask.get k) p out new → Step E old (ask.get k) q away other → (p ≡ q) × (out ≡ away) × (new ≡ other)
    one_get k p q out away new other g h = elim (get_cases E old k p out new g) [
      | inl a ↦ elim (get_cases E old k q away other h) [
        | inl b ↦ let j = hits_once k a.0 b.0 a.1 b.1 out away new other a.3 b.3 in (a.2 ∙ (λ i. say.hit (j.0 i) (j.1 i)) ∙ sym b.2, j.2, j.3)
        | inr b ↦ absurd (hit_is_ready k a.0 a.1 out new a.3 b.1)
      ]
      | inr a ↦ elim (get_cases E old k q away other h) [
        | inl b ↦ absurd (hit_is_ready k b.0 b.1 away other b.3 a.1)
        | inr b ↦ let j = stays_once old out away new other a.2 b.2 in (a.0 ∙ sym b.0, j.0, j.1)
      ]
    ]

    advises_once : (k : K) (out away : List (Idle K V)) (new other : Cache K V) → Drops E old k out new ⊎ (IsNotIdle E old k × Stays E old out new) → Drops E old k away other ⊎ (IsNotIdle E old k × Stays E old away other) → (out ≡ away) × (new ≡ other)
    advises_once k out away new other (inl a) (inl b) = drops_once k out away new other a b
    advises_once k out away new other (inl a) (inr b) = absurd (true≢false (sym a.same_key ∙ b.0 a.stamp a.entry a.at))
    advises_once k out away new other (inr a) (inl b) = absurd (true≢false (sym b.same_key ∙ a.0 b.stamp b.entry b.at))
    advises_once k out away new other (inr a) (inr b) = stays_once old out away new other a.1 b.1

    detaches_once : (k : K) (out away : List (Idle K V)) (new other : Cache K V) → Detaches E old k out new → Detaches E old k away other → (out ≡ away) × (new ≡ other)
    detaches_once k out away new other a b =
        let e = held_once k a.stamp b.stamp a.entry b.entry a.at b.at a.found b.found a.same_key b.same_key in
        (a.none ∙ sym b.none, a.changed ∙ (λ i. with_held old (e.0 i) (held_detached (e.1 i))) ∙ sym b.changed)

    pub invalidates_once : (k : K) (out away : List (Idle K V)) (new other : Cache K V) → Invalidates E old k out new → Invalidates E old k away other → (out ≡ away) × (new ≡ other)
    invalidates_once k out away new other (inl a) (inl b) = drops_once k out away new other a b
    invalidates_once k out away new other (inl a) (inr (inl b)) = absurd (not_both k b.stamp a.stamp b.entry a.entry b.at a.at b.found b.same_key a.same_key)
    invalidates_once k out away new other (inl a) (inr (inr b)) = absurd (not_idle k a.stamp a.entry b.0 a.at a.same_key)
    invalidates_once k out away new other (inr (inl a)) (inl b) = absurd (not_both k a.stamp b.stamp a.entry b.entry a.at b.at a.found a.same_key b.same_key)
    invalidates_once k out away new other (inr (inl a)) (inr (inl b)) = detaches_once k out away new other a b
    invalidates_once k out away new other (inr (inl a)) (inr (inr b)) = absurd (not_held k a.stamp a.entry b.0 a.at a.found a.same_key)
    invalidates_once k out away new other (inr (inr a)) (inl b) = absurd (not_idle k b.stamp b.entry a.0 b.at b.same_key)
    invalidates_once k out away new other (inr (inr a)) (inr (inl b)) = absurd (not_held k b.stamp b.entry a.0 b.at b.found b.same_key)
    invalidates_once k out away new other (inr (inr a)) (inr (inr b)) = stays_once old out away new other a.1 b.1

  module _ (laws : IsEquivalence E) (old : Cache K V) (l : IsLawful E old) where
    one_insert : (k : K) (charge : ℕ) (v : V) (p q : Reply K V) (out away : List (Idle K V)) (new other : Cache K V) → Step E old (ask.insert k charge v) p out new → Step E old (ask.insert k charge v) q away other → (p ≡ q) × (out ≡ away) × IsAlike E new other
    one_insert k charge v p q out away new other g h =
        let a = insert_cases E old k charge v p out new g in
        let b = insert_cases E old k charge v q away other h in
        let x = a.2 in
        let y = b.2 in
        let i = invalidates_once laws old l k x.replaced y.replaced x.mid y.mid x.invalidated y.invalidated in
        let m = makes_once laws x.mid (invalidates_lawful E old k x.replaced x.mid l x.invalidated) k charge a.0 b.0 x.evicted y.evicted x.made y.made x.begun (subst (λ c. Makes E c k charge b.0 y.evicted y.made) (sym i.1) y.begun) in (
          a.1 ∙ ap say.inserted m.0 ∙ sym b.1,
          x.both ∙ (λ j. i.0 j ++ m.1 j) ∙ sym y.both,
          gives_alike x.made y.made new other a.0 v m.2 x.given (subst (λ u. ChangesPhase E y.made u making (ready v) [] other) (sym m.0) y.given),
        )

    one_read : (k : K) (p q : Reply K V) (out away : List (Idle K V)) (new other : Cache K V) → Step E old (ask.read k) p out new → Step E old (ask.read k) q away other → (p ≡ q) × (out ≡ away) × (new ≡ other)
    one_read k p q out away new other g h = elim (read_cases E old k p out new g) [
      | inl a ↦ elim (read_cases E old k q away other h) [
        | inl b ↦
            let x = a.3 in
            let y = b.3 in
            let j = hits_once laws old l k a.0 b.0 a.1 b.1 [] [] x.mid y.mid x.found y.found in
            let r = releases_once x.mid a.0 [] [] new other x.released (subst (λ c. Releases E c a.0 [] other) (sym j.3) (subst (λ s. Releases E y.mid s [] other) (sym j.0) y.released)) in
            (a.2 ∙ (λ i. say.read (j.0 i) (j.1 i)) ∙ sym b.2, x.none ∙ sym y.none, r.1)
        | inr b ↦ absurd (hit_is_ready laws old l k a.0 a.1 [] a.3.mid a.3.found b.1)
      ]
      | inr a ↦ elim (read_cases E old k q away other h) [
        | inl b ↦ absurd (hit_is_ready laws old l k b.0 b.1 [] b.3.mid b.3.found a.1)
        | inr b ↦ let j = stays_once old out away new other a.2 b.2 in (a.0 ∙ sym b.0, j.0, j.1)
      ]
    ]

    one_step : (new other : Cache K V) (r : Request K V) (p q : Reply K V) (out away : List (Idle K V)) → Step E old r p out new → Step E old r q away other → (p ≡ q) × (out ≡ away) × LeadsToOne E r new other
    one_step new other (ask.begin k charge) p q out away g h = one_begin laws old l k charge p q out away new other g h
    one_step new other (ask.begin_strictly k charge) p q out away g h = one_begin laws old l k charge p q out away new other (loose_begin E old k charge p out new g) (loose_begin E old k charge q away other h)
    one_step new other (ask.poll s) p q out away g h =
        let a = poll_cases E old s p out new g in
        let b = poll_cases E old s q away other h in
        let j = changes_phase_once old s a.0 b.0 out away new other a.2 b.2 in
        (a.1 ∙ ap (λ x. reply_in_phase x s) j.0 ∙ sym b.1, j.1, j.2)
    one_step new other (ask.ready s v) p q out away g h =
        let a = ready_cases E old s v p out new g in
        let b = ready_cases E old s v q away other h in
        let j = readies_once old s v out away new other a.1 b.1 in
        (a.0 ∙ sym b.0, j.0, j.1)
    one_step new other (ask.ready_with s v c) p q out away g h =
        let a = ready_with_cases E old s v c p out new g in
        let b = ready_with_cases E old s v c q away other h in
        let j = charges_once old s v c out away new other a.1 b.1 in
        (a.0 ∙ sym b.0, j.0, j.1)
    one_step new other (ask.ready_with_strictly s v c) p q out away g h =
        let a = ready_with_cases E old s v c p out new (loose_ready E old s v c p out new g) in
        let b = ready_with_cases E old s v c q away other (loose_ready E old s v c q away other h) in
        let j = charges_once old s v c out away new other a.1 b.1 in
        (a.0 ∙ sym b.0, j.0, j.1)
    one_step new other (ask.fail s) p q out away g h = one_fail laws old l s p q out away new other g h
    one_step new other (ask.get k) p q out away g h = one_get laws old l k p q out away new other g h
    one_step new other (ask.release s) p q out away g h =
        let a = release_cases E old s p out new g in
        let b = release_cases E old s q away other h in
        let j = releases_once old s out away new other a.1 b.1 in
        (a.0 ∙ sym b.0, j.0, j.1)
    one_step new other (ask.release_and_evict s) p q out away g h =
        let a = release_and_evict_cases E old s p out new g in
        let b = release_and_evict_cases E old s q away other h in
        let j = releases_and_evicts_once old s out away new other a.1 b.1 in
        (a.0 ∙ sym b.0, j.0, j.1)
    one_step new other (ask.repin s) p q out away g h =
        let a = repin_cases E old s p out new g in
        let b = repin_cases E old s q away other h in
        let j = repins_once laws old l s a.0 b.0 out away new other a.2 b.2 in
        (a.1 ∙ ap say.pinned j.0 ∙ sym b.1, j.1, j.2)
    one_step new other (ask.advice_evict k) p q out away g h =
        let a = advice_evict_cases E old k p out new g in
        let b = advice_evict_cases E old k q away other h in
        let j = advises_once laws old l k out away new other a.1 b.1 in
        (a.0 ∙ sym b.0, j.0, j.1)
    one_step new other (ask.invalidate k) p q out away g h =
        let a = invalidate_cases E old k p out new g in
        let b = invalidate_cases E old k q away other h in
        let j = invalidates_once laws old l k out away new other a.1 b.1 in
        (a.0 ∙ sym b.0, j.0, j.1)
    one_step new other (ask.insert k charge v) p q out away g h = one_insert k charge v p q out away new other g h
    one_step new other (ask.insert_strictly k charge v) p q out away g h = one_insert k charge v p q out away new other (loose_insert E old k charge v p out new g).1 (loose_insert E old k charge v q away other h).1
    one_step new other (ask.read k) p q out away g h = one_read k p q out away new other g h
    one_step new other ask.prune p q out away g h =
        let a = prune_cases E old p out new g in
        let b = prune_cases E old q away other h in
        (a.0 ∙ sym b.0, a.1 ∙ sym b.1, a.2 ∙ sym b.2)
    one_step new other (ask.set_capacity c) p q out away g h =
        let a = set_capacity_cases E old c p out new g in
        let b = set_capacity_cases E old c q away other h in
        let j = settles_once (with_capacity old c) out away new other a.1 b.1 in
        (a.0 ∙ sym b.0, j.0, j.1)
    one_step new other ask.total p q out away g h =
        let a = total_cases E old p out new g in
        let b = total_cases E old q away other h in
        let j = stays_once old out away new other a.1 b.1 in
        (a.0 ∙ sym b.0, j.0, j.1)

pub one_answer : (K V : Type 0) (E : K → K → Bool) → IsEquivalence E → OneAnswer K V E
one_answer K V E laws old new other r p q out away l g h = one_step E laws old l new other r p q out away g h
