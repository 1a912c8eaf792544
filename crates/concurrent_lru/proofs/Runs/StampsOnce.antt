-- Lawful caches have each stamp once; stamps are given out in order.
use Rattle.std.proofs.Common.{◌≡◌, ℕ, ◌+◌, ◌<◌, ◌≤◌, inl, inr, Bool, true, false, cond, List, [], ◌∷◌, map, Option, Some, None, refl, sym, ap, ◌∙◌, subst, arith, eqb, ◌==◌}
use Rattle.std.specs.List.{find, IsDistinct, AllByRecursion}
use Rattle.std.specs.Prelude.{nat_lt}
use Rattle.std.proofs.lemmas.Bool.{eqb-true, cases_lt, lt-ltb, le-ltb}
use Rattle.std.proofs.lemmas.List.Sums.{sum_by-cons}
use Rattle.concurrent_lru.specs.Cache.{Cache, Idle, Held, IsLawful, held_at, idle_at}
use Rattle.concurrent_lru.specs.Steps.{Hits, Releases, ReleasesAndEvicts, Repins, Renews, Stores, Step}
use Rattle.concurrent_lru.specs.Request as ask
use Rattle.concurrent_lru.specs.Request.{Request}
use Rattle.concurrent_lru.specs.Reply as say
use Rattle.concurrent_lru.specs.Reply.{Reply}
use Rattle.concurrent_lru.specs.Runs.{Outcome, accepted, refused, Run}
use Rattle.concurrent_lru.specs.StampCounts.{one_if, one_if_some, stamp_count_in_list, stamp_count_in_cache, stamps_given, AreNumbersUpTo}
use Rattle.concurrent_lru.proofs.Steps.CasesOfSteps.{loose_begin}
use Rattle.concurrent_lru.proofs.Runs.StampCounts.{IsStamped, invalidates_moves, run_stamp_count}

module _ {K V : Type 0} where
  times_none : (s : ℕ) (xs : List (Idle K V)) → find (λ x. x.stamp == s) xs ≡ None → stamp_count_in_list s xs ≡ 0
  times_none s [] h = refl
  times_none s (x ∷ xs) h =
      let p = Rattle.concurrent_lru.proofs.Lists.DistinctEntries.head_none (x.stamp == s) x (find (λ z. z.stamp == s) xs) h in
      let a : stamp_count_in_list s (x ∷ xs) ≡ one_if (x.stamp == s) + stamp_count_in_list s xs = sum_by-cons (λ x. one_if (x.stamp == s)) x xs in
      let o : one_if (x.stamp == s) ≡ 0 = ap one_if p.0 in
      let i : stamp_count_in_list s xs ≡ 0 = times_none s xs p.1 in
      omega (arith, a, o, i)

  times_apart : (s : ℕ) (xs : List (Idle K V)) → AllByRecursion (λ z. eqb s z ≡ false) (map (λ x. x.stamp) xs) → stamp_count_in_list s xs ≡ 0
  times_apart s [] h = refl
  times_apart s (x ∷ xs) h =
      let a : stamp_count_in_list s (x ∷ xs) ≡ one_if (x.stamp == s) + stamp_count_in_list s xs = sum_by-cons (λ x. one_if (x.stamp == s)) x xs in
      let o : one_if (x.stamp == s) ≡ 0 = ap one_if (Rattle.std.specs.Cmp.nat_eq_equiv.symm x.stamp s ∙ h.0) in
      let i : stamp_count_in_list s xs ≡ 0 = times_apart s xs h.1 in
      omega (arith, a, o, i)

  times_most : (s : ℕ) (xs : List (Idle K V)) → IsDistinct eqb (map (λ x. x.stamp) xs) → stamp_count_in_list s xs ≤ 1
  unfolding IsDistinct
  times_most s [] d = omega arith
  times_most s (x ∷ xs) d =
      let a : stamp_count_in_list s (x ∷ xs) ≡ one_if (x.stamp == s) + stamp_count_in_list s xs = sum_by-cons (λ x. one_if (x.stamp == s)) x xs in
      elim (x.stamp == s) as (λ b. (x.stamp == s) ≡ b → stamp_count_in_list s (x ∷ xs) ≤ 1) [
        | true ↦ λ b.
            let o : one_if (x.stamp == s) ≡ 1 = ap one_if b in
            let z : stamp_count_in_list s xs ≡ 0 = subst (λ n. stamp_count_in_list n xs ≡ 0) (eqb-true x.stamp s b) (times_apart x.stamp xs d.0) in
            omega (arith, a, o, z)
        | false ↦ λ b.
            let o : one_if (x.stamp == s) ≡ 0 = ap one_if b in
            let i : stamp_count_in_list s xs ≤ 1 = times_most s xs d.1 in
            omega (arith, a, o, i)
      ] refl

  held_most : (o : Option (Held K V)) → one_if_some o ≤ 1
  held_most None = omega arith
  held_most (Some e) = omega arith

pub lawful_stamps : {K V : Type 0} (E : K → K → Bool) (c : Cache K V) → IsLawful E c → IsStamped c
lawful_stamps E c l = record {
  once = λ s. elim (idle_at c s) as (λ o. idle_at c s ≡ o → stamp_count_in_cache c s ≤ 1) [
    | None ↦ λ o.
        let z : stamp_count_in_list s c.idle ≡ 0 = times_none s c.idle o in
        let h : one_if_some (held_at c s) ≤ 1 = held_most (held_at c s) in
        omega (arith, z, h)
    | Some x ↦ λ o.
        let z : stamp_count_in_list s c.idle ≤ 1 = times_most s c.idle l.idle_apart in
        let h : one_if_some (held_at c s) ≡ 0 = ap one_if_some (l.held_apart s x o) in
        omega (arith, z, h)
  ] refl;
  fresh = λ s n.
      let z : stamp_count_in_list s c.idle ≡ 0 = elim (idle_at c s) as (λ o. idle_at c s ≡ o → stamp_count_in_list s c.idle ≡ 0) [
        | None ↦ λ o. times_none s c.idle o
        | Some x ↦ λ o. let b : s < c.next = l.below_next s x.key x.charge (inl (x, o, refl, refl)) in absurd (omega (arith, n, b))
      ] refl in
      let h : one_if_some (held_at c s) ≡ 0 = elim (held_at c s) as (λ o. held_at c s ≡ o → one_if_some o ≡ 0) [
        | None ↦ λ o. refl
        | Some e ↦ λ o. let b : s < c.next = l.below_next s e.key e.charge (inr (e, o, refl, refl)) in absurd (omega (arith, n, b))
      ] refl in
      omega (arith, z, h);
}

module _ {K V : Type 0} (E : K → K → Bool) where
  -- a step that is no making leaves the next stamp
  abbrev Told : List (Request K V × Outcome K V) → ℕ → ℕ → Type 0
  Told es n m = AreNumbersUpTo m (stamps_given m es) n

  releases_next : (old new : Cache K V) (s : ℕ) (out : List (Idle K V)) → Releases E old s out new → new.next ≡ old.next
  releases_next old new s out (inl l) = ap (λ z. z.next) l.1.changed
  releases_next old new s out (inr (inl r)) = ap (λ z. z.next) r.settles.others
  releases_next old new s out (inr (inr r)) = ap (λ z. z.next) r.changed

  releases_and_evicts_next : (old new : Cache K V) (s : ℕ) (out : List (Idle K V)) → ReleasesAndEvicts E old s out new → new.next ≡ old.next
  releases_and_evicts_next old new s out (inl l) = ap (λ z. z.next) l.1.changed
  releases_and_evicts_next old new s out (inr r) = ap (λ z. z.next) r.changed

  repins_next : (old new : Cache K V) (s : ℕ) (v : V) (out : List (Idle K V)) → Repins E old s v out new → new.next ≡ old.next
  repins_next old new s v out (inl j) = ap (λ z. z.next) j.changed
  repins_next old new s v out (inr r) = ap (λ z. z.next) r.1.changed

  hits_next : (old new : Cache K V) (k : K) (s : ℕ) (v : V) (out : List (Idle K V)) → Hits E old k s v out new → new.next ≡ old.next
  hits_next old new k s v out (inl j) = ap (λ z. z.next) j.changed
  hits_next old new k s v out (inr r) = ap (λ z. z.next) r.changed

  renews_next : (old new : Cache K V) (k : K) (s : ℕ) (v : V) (out : List (Idle K V)) → Renews E old k s v out new → new.next ≡ old.next
  renews_next old new k s v out h = releases_next h.mid new s [] h.released ∙ hits_next old h.mid k s v [] h.found

  -- a begin that makes a new entry, or takes over a making that failed; an insert
  make_given : (old mid : Cache K V) (k : K) (c s : ℕ) (out : List (Idle K V)) (es : List (Request K V × Outcome K V)) (n : ℕ) → IsStamped old → Step E old (ask.begin k c) (say.make s) out mid → Told es n mid.next → Told ((ask.begin k c, accepted (say.make s) out) ∷ es) n old.next
  make_given old mid k c s out es n i (inl m) t =
      let low : nat_lt s old.next ≡ false = le-ltb s old.next (omega (arith, m.stamp)) in
      let up : mid.next ≡ s + 1 = ap (λ z. z.next) m.settles.others ∙ ap (λ z. z + 1) (sym m.stamp) in
      subst (λ b. AreNumbersUpTo old.next (cond b (stamps_given old.next es) (s ∷ stamps_given (s + 1) es)) n) (sym low) (m.stamp, subst (λ z. AreNumbersUpTo (z + 1) (stamps_given (s + 1) es) n) m.stamp (subst (Told es n) up t))
  make_given old mid k c s out es n i (inr j) t =
      let one : one_if_some (held_at old s) ≡ 1 = ap one_if_some j.holds.at in
      let low : s < old.next = elim (cases_lt s old.next) [ inl l ↦ l | inr l ↦ let z : stamp_count_in_cache old s ≡ 0 = i.fresh s l in absurd (omega (arith, z, one)) ] in
      subst (λ b. AreNumbersUpTo old.next (cond b (stamps_given old.next es) (s ∷ stamps_given (s + 1) es)) n) (sym (lt-ltb s old.next low)) (subst (Told es n) (ap (λ z. z.next) j.changed) t)

  stores_given : (old mid : Cache K V) (k : K) (c : ℕ) (v : V) (s : ℕ) (out : List (Idle K V)) (es : List (Request K V × Outcome K V)) (n : ℕ) → IsStamped old → Stores E old k c v s out mid → Told es n mid.next → Told ((ask.insert k c v, accepted (say.inserted s) out) ∷ es) n old.next
  stores_given old mid k c v s out es n i h t =
      let is : s ≡ old.next = h.begun.stamp ∙ (invalidates_moves E old h.mid k h.replaced i h.invalidated).0 in
      let up : mid.next ≡ s + 1 = ap (λ z. z.next) h.given.changed ∙ ap (λ z. z.next) h.begun.settles.others ∙ ap (λ z. z + 1) (sym h.begun.stamp) in
      (is, subst (λ z. AreNumbersUpTo (z + 1) (stamps_given (s + 1) es) n) is (subst (Told es n) up t))

  step_given : (old mid : Cache K V) (r : Request K V) (y : Reply K V) (out : List (Idle K V)) (es : List (Request K V × Outcome K V)) (n : ℕ) → IsStamped old → Step E old r y out mid → Told es n mid.next → Told ((r, accepted y out) ∷ es) n old.next
  step_given old mid (ask.begin k c) (say.make s) out es n i h t = make_given old mid k c s out es n i h t
  step_given old mid (ask.begin k c) (say.wait s) out es n i j t = subst (Told es n) (ap (λ z. z.next) j.changed) t
  step_given old mid (ask.begin k c) (say.hit s v) out es n i h t = subst (Told es n) (hits_next old mid k s v out h) t
  step_given old mid (ask.begin_strictly k c) (say.make s) out es n i h t = make_given old mid k c s out es n i (loose_begin E old k c (say.make s) out mid h) t
  step_given old mid (ask.begin_strictly k c) (say.wait s) out es n i j t = subst (Told es n) (ap (λ z. z.next) j.changed) t
  step_given old mid (ask.begin_strictly k c) (say.hit s v) out es n i h t = subst (Told es n) (hits_next old mid k s v out h) t
  step_given old mid (ask.poll s) (say.wait u) out es n i h t = subst (Told es n) (ap (λ z. z.next) h.1.changed) t
  step_given old mid (ask.poll s) (say.make u) out es n i h t = subst (Told es n) (ap (λ z. z.next) h.1.changed) t
  step_given old mid (ask.poll s) (say.hit u v) out es n i h t = subst (Told es n) (ap (λ z. z.next) h.1.changed) t
  step_given old mid (ask.ready s v) say.done out es n i h t = subst (Told es n) (ap (λ z. z.next) h.changed) t
  step_given old mid (ask.ready_with s v c) say.done out es n i h t = subst (Told es n) (ap (λ z. z.next) h.settles.others) t
  step_given old mid (ask.ready_with_strictly s v c) say.done out es n i h t = subst (Told es n) (ap (λ z. z.next) h.0.settles.others) t
  step_given old mid (ask.fail s) say.left out es n i h t = subst (Told es n) (ap (λ z. z.next) h.changed) t
  step_given old mid (ask.fail s) (say.removed k) out es n i h t = subst (Told es n) (ap (λ z. z.next) h.changed) t
  step_given old mid (ask.get k) (say.hit s v) out es n i h t = subst (Told es n) (hits_next old mid k s v out h) t
  step_given old mid (ask.get k) say.missed out es n i h t = subst (Told es n) (ap (λ z. z.next) h.1.same) t
  step_given old mid (ask.release s) say.done out es n i h t = subst (Told es n) (releases_next old mid s out h) t
  step_given old mid (ask.release_and_evict s) say.done out es n i h t = subst (Told es n) (releases_and_evicts_next old mid s out h) t
  step_given old mid (ask.repin s) (say.pinned v) out es n i h t = subst (Told es n) (repins_next old mid s v out h) t
  step_given old mid (ask.advice_evict k) say.done out es n i h t = elim h [
    | inl d ↦ subst (Told es n) (ap (λ z. z.next) d.changed) t
    | inr s ↦ subst (Told es n) (ap (λ z. z.next) s.1.same) t
  ]
  step_given old mid (ask.invalidate k) say.done out es n i h t = elim h [
    | inl d ↦ subst (Told es n) (ap (λ z. z.next) d.changed) t
    | inr b ↦ elim b [
      | inl d ↦ subst (Told es n) (ap (λ z. z.next) d.changed) t
      | inr s ↦ subst (Told es n) (ap (λ z. z.next) s.1.same) t
    ]
  ]
  step_given old mid (ask.insert k c v) (say.inserted s) out es n i h t = stores_given old mid k c v s out es n i h t
  step_given old mid (ask.insert_strictly k c v) (say.inserted s) out es n i h t = stores_given old mid k c v s out es n i h.1 t
  step_given old mid (ask.read k) (say.read s v) out es n i h t = subst (Told es n) (renews_next old mid k s v out h) t
  step_given old mid (ask.read k) say.missed out es n i h t = subst (Told es n) (ap (λ z. z.next) h.1.same) t
  step_given old mid ask.prune say.done out es n i h t = subst (Told es n) (ap (λ z. z.next) h.1) t
  step_given old mid (ask.set_capacity c) say.done out es n i h t = subst (Told es n) (ap (λ z. z.next) h.others) t
  step_given old mid ask.total (say.sum m) out es n i h t = subst (Told es n) (ap (λ z. z.next) h.1.same) t
  step_given old mid _ _ out es n i h t = absurd h

  pub run_given : (old new : Cache K V) (es : List (Request K V × Outcome K V)) → IsStamped old → Run E old (map (λ e. e.0) es) (map (λ e. e.1) es) new → AreNumbersUpTo old.next (stamps_given old.next es) new.next
  run_given old new [] i r = ap (λ c. c.next) r
  run_given old new ((r, accepted y out) ∷ es) i h =
      step_given old h.0 r y out es new.next i h.1 (run_given h.0 new es (run_stamp_count E old h.0 ((r, accepted y out) ∷ []) i (h.0, h.1, refl)).0 h.2)
  run_given old new ((ask.begin k c, refused f) ∷ es) i h = run_given old new es i (subst (λ c. Run E c (map (λ e. e.0) es) (map (λ e. e.1) es) new) h.1.1 h.2)
  run_given old new ((ask.begin_strictly k c, refused f) ∷ es) i h = run_given old new es i (subst (λ c. Run E c (map (λ e. e.0) es) (map (λ e. e.1) es) new) h.1.1 h.2)
  run_given old new ((_, refused f) ∷ es) i h = run_given old new es i (subst (λ c. Run E c (map (λ e. e.0) es) (map (λ e. e.1) es) new) h.1.1 h.2)
