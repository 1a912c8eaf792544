-- How many entries a cache has after a step, and of how much charge: what came and what left.
use Rattle.std.proofs.Common.{◌≡◌, ℕ, ◌+◌, inl, inr, Bool, true, false, cond, not, List, [], ◌∷◌, ◌++◌, length, map, Some, None, refl, ap, ◌∙◌, subst, arith, eqb, ◌==◌, length-append}
use Rattle.std.specs.List.{find, IsDistinct, AllByRecursion, sum_by}
use Rattle.std.specs.Ordering.{nat_cmp}
use Rattle.std.specs.FinMap.{FinMap, get, insert, remove, values}
use Rattle.std.proofs.lemmas.Bool.{eqb-true}
use Rattle.std.proofs.lemmas.Option.{none-some}
use Rattle.std.proofs.lemmas.List.Sums.{sum_by-append}
use Rattle.concurrent_lru.specs.Cache.{Cache, Idle, Held, Phase, making, IsLawful, Settles, held_at, sum_of, count_of, charges}
use Rattle.concurrent_lru.specs.Steps.{with_held, without, held_by_one, Makes, Joins, Revives, Hits, ChangesPhase, Leaves, Removes, Rests, Ends, Departs, ReleasesAndEvicts, Repins, Stays, Drops, Detaches, held_in_phase, held_detached, one_more_pin, one_pin_less, idle_again, without_held}
use Rattle.concurrent_lru.specs.Representation.{held_charges}
use Rattle.concurrent_lru.proofs.Entries.SumsOfHeld.{sum_by-cons, sum-insert, sum-remove, sum-change}
use Rattle.concurrent_lru.proofs.Steps.BeginOfAbsent.{with_new_entry, next_free, sum-made}
use Rattle.concurrent_lru.proofs.Steps.LawfulAfterChange.{orderly, sum-with_held}
use Rattle.concurrent_lru.proofs.Steps.LawfulAfterLeaving.{dropped, ends_departs}
use Rattle.concurrent_lru.proofs.Steps.LawfulAfterRest.{rested, sum-rested}
use Rattle.concurrent_lru.proofs.Steps.LawfulAfterRevival.{revived, without_none, charges_without}

module _ {X : Type 0} where
  by_ones : (xs : List X) → sum_by (λ x. 1) xs ≡ length xs
  by_ones [] = refl
  by_ones (x ∷ xs) =
      let a : sum_by (λ y. 1) (x ∷ xs) ≡ 1 + sum_by (λ y. 1) xs = sum_by-cons (λ y. 1) x xs in
      let b : sum_by (λ y. 1) xs ≡ length xs = by_ones xs in
      omega (arith, a, b)

  -- how many values a map has with one more, one less, and one changed
  pub length-insert : (m : FinMap nat_cmp X) (k : ℕ) (v : X) → get m k ≡ None → length (values (insert m k v)) ≡ length (values m) + 1
  length-insert m k v h =
      let a : sum_by (λ x. 1) (values (insert m k v)) ≡ length (values (insert m k v)) = by_ones (values (insert m k v)) in
      let b : sum_by (λ x. 1) (values m) ≡ length (values m) = by_ones (values m) in
      let c : sum_by (λ x. 1) (values (insert m k v)) ≡ sum_by (λ x. 1) (values m) + 1 = sum-insert (λ x. 1) m k v h in
      omega (arith, a, b, c)

  pub length-remove : (m : FinMap nat_cmp X) (k : ℕ) (v : X) → get m k ≡ Some v → length (values (remove m k)) + 1 ≡ length (values m)
  length-remove m k v h =
      let a : sum_by (λ x. 1) (values (remove m k)) ≡ length (values (remove m k)) = by_ones (values (remove m k)) in
      let b : sum_by (λ x. 1) (values m) ≡ length (values m) = by_ones (values m) in
      let c : sum_by (λ x. 1) (values (remove m k)) + 1 ≡ sum_by (λ x. 1) (values m) = sum-remove (λ x. 1) m k v h in
      omega (arith, a, b, c)

  pub length-change : (m : FinMap nat_cmp X) (k : ℕ) (v w : X) → get m k ≡ Some v → length (values (insert m k w)) ≡ length (values m)
  length-change m k v w h =
      let a : sum_by (λ x. 1) (values (insert m k w)) ≡ length (values (insert m k w)) = by_ones (values (insert m k w)) in
      let b : sum_by (λ x. 1) (values m) ≡ length (values m) = by_ones (values m) in
      let c : sum_by (λ x. 1) (values (insert m k w)) + 1 ≡ sum_by (λ x. 1) (values m) + 1 = sum-change (λ x. 1) m k v w h in
      omega (arith, a, b, c)

module _ {K V : Type 0} where
  length_without : (s : ℕ) (y : Idle K V) (xs : List (Idle K V)) → IsDistinct eqb (map (λ x. x.stamp) xs) → find (λ x. x.stamp == s) xs ≡ Some y → length (without s xs) + 1 ≡ length xs
  unfolding IsDistinct
  length_without s y [] d h = absurd (none-some y h)
  length_without s y (x ∷ xs) d h =
      elim (x.stamp == s) as (λ b. (x.stamp == s) ≡ b → cond b (Some x) (find (λ z. z.stamp == s) xs) ≡ Some y → length (cond (not b) (x ∷ without s xs) (without s xs)) + 1 ≡ length (x ∷ xs)) [
        | true ↦ λ b k.
            let rest : length (without s xs) ≡ length xs = ap length (without_none s xs (subst (λ n. AllByRecursion (λ z. eqb n z ≡ false) (map (λ z. z.stamp) xs)) (eqb-true x.stamp s b) d.0)) in
            omega (arith, rest)
        | false ↦ λ b k. let i : length (without s xs) + 1 ≡ length xs = length_without s y xs d.1 k in omega (arith, i)
      ] refl h

  -- from old to new, so many entries of so much charge came, each with a stamp, and so many of so
  -- much left
  pub record Resizes (old new : Cache K V) (came came_charge left left_charge : ℕ) : Type 0 where
    pub entries : count_of new + left ≡ count_of old + came
    pub charge : sum_of new + left_charge ≡ sum_of old + came_charge
    pub next : new.next ≡ old.next + came

  -- nothing came, and nothing left
  abbrev pub KeepsSize : Cache K V → Cache K V → Type 0
  KeepsSize old new = Resizes old new 0 0 0 0

  -- no other entries are told as evicted
  abbrev pub Evicts : Cache K V → List (Idle K V) → Cache K V → Type 0
  Evicts old out new = Resizes old new 0 0 (length out) (charges out)

  pub same_size : (old new : Cache K V) → new ≡ old → KeepsSize old new
  same_size old new is =
      let a : count_of new ≡ count_of old = ap count_of is in
      let b : sum_of new ≡ sum_of old = ap sum_of is in
      let c : new.next ≡ old.next = ap (λ c. c.next) is in
      record { entries = omega (arith, a); charge = omega (arith, b); next = omega (arith, c) }

  -- what keeps its size evicts nothing
  pub evicts_none : (old new : Cache K V) (out : List (Idle K V)) → KeepsSize old new → out ≡ [] → Evicts old out new
  evicts_none old new out k none =
      let a : count_of new + 0 ≡ count_of old + 0 = k.entries in
      let b : sum_of new + 0 ≡ sum_of old + 0 = k.charge in
      let n : length out ≡ 0 = ap length none in
      let m : charges out ≡ 0 = ap charges none in
      record { entries = omega (arith, a, n); charge = omega (arith, b, m); next = k.next }

  -- a held entry is written, and keeps its charge
  pub written_size : (old new : Cache K V) (s : ℕ) (e f : Held K V) → held_at old s ≡ Some e → f.charge ≡ e.charge → new ≡ with_held old s f → KeepsSize old new
  written_size old new s e f at charge changed =
      let a : count_of new ≡ count_of (with_held old s f) = ap count_of changed in
      let b : sum_of new ≡ sum_of (with_held old s f) = ap sum_of changed in
      let c : new.next ≡ old.next = ap (λ c. c.next) changed in
      let d : length (values (insert old.held s f)) ≡ length (values old.held) = length-change old.held s e f at in
      let g : sum_of (with_held old s f) ≡ sum_of old = sum-with_held old s e f at charge in
      record { entries = omega (arith, a, d); charge = omega (arith, b, g); next = omega (arith, c) }

  -- a cache that settles
  pub settled_size : (old new : Cache K V) (out : List (Idle K V)) → Settles old out new → Evicts old out new
  settled_size old new out s =
      let a : count_of new ≡ count_of (record old { idle = new.idle }) = ap count_of s.others in
      let b : sum_of new ≡ sum_of (record old { idle = new.idle }) = ap sum_of s.others in
      let c : new.next ≡ old.next = ap (λ c. c.next) s.others in
      let d : length old.idle ≡ length out + length new.idle = ap length s.front.parts ∙ length-append out new.idle in
      let e : charges old.idle ≡ charges out + charges new.idle = ap charges s.front.parts ∙ sum_by-append (λ x. x.charge) out new.idle in
      record { entries = omega (arith, a, d); charge = omega (arith, b, e); next = omega (arith, c) }

  module _ {E : K → K → Bool} where
    pub joined_size : (old new : Cache K V) (k : K) (s : ℕ) (p q : Phase V) (out : List (Idle K V)) → Joins E old k s p q out new → KeepsSize old new
    joined_size old new k s p q out j = written_size old new s j.entry (held_in_phase q (one_more_pin j.entry)) j.holds.at refl j.changed

    pub left_size : (old new : Cache K V) (s : ℕ) (p q : Phase V) (out : List (Idle K V)) → Leaves E old s p q out new → KeepsSize old new
    left_size old new s p q out l = written_size old new s l.entry (held_in_phase q (one_pin_less l.entry)) l.holds.at refl l.changed

    pub phase_size : (old new : Cache K V) (s : ℕ) (p q : Phase V) (out : List (Idle K V)) → ChangesPhase E old s p q out new → KeepsSize old new
    phase_size old new s p q out c = written_size old new s c.entry (held_in_phase q c.entry) c.holds.at refl c.changed

    pub revived_size : (old new : Cache K V) (k : K) (s : ℕ) (v : V) (out : List (Idle K V)) → IsLawful E old → Revives E old k s v out new → KeepsSize old new
    revived_size old new k s v out l r =
        let a : count_of new ≡ count_of (revived old s r.entry) = ap count_of r.changed in
        let b : sum_of new ≡ sum_of (revived old s r.entry) = ap sum_of r.changed in
        let c : new.next ≡ old.next = ap (λ c. c.next) r.changed in
        let free : held_at old s ≡ None = l.held_apart s r.entry r.at in
        let d : length (values (insert old.held s (held_by_one r.entry))) ≡ length (values old.held) + 1 = length-insert old.held s (held_by_one r.entry) free in
        let e : length (without s old.idle) + 1 ≡ length old.idle = length_without s r.entry old.idle l.idle_apart r.at in
        let f : held_charges (insert old.held s (held_by_one r.entry)) ≡ held_charges old.held + r.entry.charge = sum-insert (λ x. x.charge) old.held s (held_by_one r.entry) free in
        let g : charges (without s old.idle) + r.entry.charge ≡ charges old.idle = charges_without s r.entry old.idle l.idle_apart r.at in
        record { entries = omega (arith, a, d, e); charge = omega (arith, b, f, g); next = omega (arith, c) }

    pub hit_size : (old new : Cache K V) (k : K) (s : ℕ) (v : V) (out : List (Idle K V)) → IsLawful E old → Hits E old k s v out new → KeepsSize old new
    hit_size old new k s v out l (inl j) = joined_size old new k s _ _ out j
    hit_size old new k s v out l (inr r) = revived_size old new k s v out l r

    pub repinned_size : (old new : Cache K V) (s : ℕ) (v : V) (out : List (Idle K V)) → IsLawful E old → Repins E old s v out new → KeepsSize old new
    repinned_size old new s v out l (inl j) = written_size old new s j.entry (one_more_pin j.entry) j.holds.at refl j.changed
    repinned_size old new s v out l (inr r) = revived_size old new r.0 s v out l r.1

    -- a begin on an absent key: one entry comes, of the charge that was asked
    pub made_size : (old new : Cache K V) (k : K) (charge s : ℕ) (out : List (Idle K V)) → IsLawful E old → Makes E old k charge s out new → Resizes old new 1 charge (length out) (charges out)
    made_size old new k charge s out l m =
        let mid = with_new_entry old m.copy charge in
        let held : Held K V = record { key = m.copy; charge = charge; pins = 1; detached = false; phase = making } in
        let o = orderly l in
        let e : Evicts mid out new = settled_size mid new out (subst (λ t. Settles (record (with_held old t held) { next = old.next + 1 }) out new) m.stamp m.settles) in
        let a : length (values (insert old.held old.next held)) ≡ length (values old.held) + 1 = length-insert old.held old.next held (next_free E old o) in
        let b : sum_of mid ≡ sum_of old + charge = sum-made E old m.copy charge o in
        let c : count_of new + length out ≡ count_of mid + 0 = e.entries in
        let d : sum_of new + charges out ≡ sum_of mid + 0 = e.charge in
        let n : new.next ≡ mid.next + 0 = e.next in
        record { entries = omega (arith, a, c); charge = omega (arith, b, d); next = omega (arith, n) }

    -- a making that failed for good: the entry leaves
    pub removed_size : (old new : Cache K V) (s : ℕ) (k : K) (out : List (Idle K V)) (r : Removes E old s k out new) → Resizes old new 0 0 1 r.entry.charge
    removed_size old new s k out r =
        let a : count_of new ≡ count_of (without_held old s) = ap count_of r.changed in
        let b : sum_of new ≡ sum_of (without_held old s) = ap sum_of r.changed in
        let c : new.next ≡ old.next = ap (λ c. c.next) r.changed in
        let d : length (values (remove old.held s)) + 1 ≡ length (values old.held) = length-remove old.held s r.entry r.holds.at in
        let e : held_charges (remove old.held s) + r.entry.charge ≡ held_charges old.held = sum-remove (λ x. x.charge) old.held s r.entry r.holds.at in
        record { entries = omega (arith, a, d); charge = omega (arith, b, e); next = omega (arith, c) }

    pub rested_size : (old new : Cache K V) (s : ℕ) (out : List (Idle K V)) → Rests E old s out new → Evicts old out new
    rested_size old new s out r =
        let mid = rested old s r.entry r.value in
        let x = idle_again s r.entry r.value in
        let e : Evicts mid out new = settled_size mid new out r.settles in
        let a : length (values (remove old.held s)) + 1 ≡ length (values old.held) = length-remove old.held s r.entry r.holds.at in
        let i : length (old.idle ++ x ∷ []) ≡ length old.idle + 1 = length-append old.idle (x ∷ []) in
        let b : sum_of mid ≡ sum_of old = sum-rested old s r.entry r.value r.holds.at in
        let c : count_of new + length out ≡ count_of mid + 0 = e.entries in
        let d : sum_of new + charges out ≡ sum_of mid + 0 = e.charge in
        let n : new.next ≡ mid.next + 0 = e.next in
        record { entries = omega (arith, a, i, c); charge = omega (arith, b, d); next = omega (arith, n) }

    pub dropped_size : (old new : Cache K V) (k : K) (out : List (Idle K V)) → IsLawful E old → Drops E old k out new → Evicts old out new
    dropped_size old new k out l d =
        let a : count_of new ≡ count_of (dropped old d.stamp) = ap count_of d.changed in
        let b : sum_of new ≡ sum_of (dropped old d.stamp) = ap sum_of d.changed in
        let c : new.next ≡ old.next = ap (λ c. c.next) d.changed in
        let e : length (without d.stamp old.idle) + 1 ≡ length old.idle = length_without d.stamp d.entry old.idle l.idle_apart d.at in
        let f : charges (without d.stamp old.idle) + d.entry.charge ≡ charges old.idle = charges_without d.stamp d.entry old.idle l.idle_apart d.at in
        let n : length out ≡ 1 = ap length d.one in
        let m : charges out ≡ d.entry.charge + charges {K = K} {V = V} [] = ap charges d.one ∙ sum_by-cons (λ (x : Idle K V). x.charge) d.entry [] in
        record { entries = omega (arith, a, e, n); charge = omega (arith, b, f, m); next = omega (arith, c) }

    -- the last pin of an entry is given back, and the entry leaves
    departed_size : (old new : Cache K V) (s : ℕ) (out : List (Idle K V)) → Departs E old s out new → Evicts old out new
    departed_size old new s out r =
        let x = idle_again s r.entry r.value in
        let a : count_of new ≡ count_of (without_held old s) = ap count_of r.changed in
        let b : sum_of new ≡ sum_of (without_held old s) = ap sum_of r.changed in
        let c : new.next ≡ old.next = ap (λ c. c.next) r.changed in
        let d : length (values (remove old.held s)) + 1 ≡ length (values old.held) = length-remove old.held s r.entry r.holds.at in
        let e : held_charges (remove old.held s) + r.entry.charge ≡ held_charges old.held = sum-remove (λ x. x.charge) old.held s r.entry r.holds.at in
        let n : length out ≡ 1 = ap length r.one in
        let m : charges out ≡ r.entry.charge + charges {K = K} {V = V} [] = ap charges r.one ∙ sum_by-cons (λ (y : Idle K V). y.charge) x [] in
        record { entries = omega (arith, a, d, n); charge = omega (arith, b, e, m); next = omega (arith, c) }

    pub ended_size : (old new : Cache K V) (s : ℕ) (out : List (Idle K V)) → Ends E old s out new → Evicts old out new
    ended_size old new s out r = departed_size old new s out (ends_departs r)

    pub released_and_evicted_size : (old new : Cache K V) (s : ℕ) (out : List (Idle K V)) → ReleasesAndEvicts E old s out new → Evicts old out new
    released_and_evicted_size old new s out (inl h) = evicts_none old new out (left_size old new s _ _ out h.1) h.1.none
    released_and_evicted_size old new s out (inr h) = departed_size old new s out h

    pub detached_size : (old new : Cache K V) (k : K) (out : List (Idle K V)) → Detaches E old k out new → KeepsSize old new
    detached_size old new k out d = written_size old new d.stamp d.entry (held_detached d.entry) d.at refl d.changed

    pub stayed_size : (old new : Cache K V) (out : List (Idle K V)) → Stays E old out new → Evicts old out new
    stayed_size old new out s = evicts_none old new out (same_size old new s.same) s.none

  pub pruned_size : (old new : Cache K V) (out : List (Idle K V)) → out ≡ old.idle → new ≡ record old { idle = [] } → Evicts old out new
  pruned_size old new out o is =
      let a : count_of new ≡ count_of (record old { idle = [] }) = ap count_of is in
      let b : sum_of new ≡ sum_of (record old { idle = [] }) = ap sum_of is in
      let c : new.next ≡ old.next = ap (λ c. c.next) is in
      let d : length out ≡ length old.idle = ap length o in
      let e : charges out ≡ charges old.idle = ap charges o in
      record { entries = omega (arith, a, d); charge = omega (arith, b, e); next = omega (arith, c) }
