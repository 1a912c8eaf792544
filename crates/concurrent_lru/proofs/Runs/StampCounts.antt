-- How often a stamp stands, step by step.
use Rattle.std.proofs.Common.{◌≡◌, ℕ, ◌+◌, ◌<◌, ◌≤◌, ◌⊎◌, inl, inr, Bool, true, false, cond, not, List, [], ◌∷◌, ◌++◌, map, Option, Some, None, refl, sym, ap, ◌∙◌, subst, arith, eqb, ◌==◌}
use Rattle.std.specs.List.{sum_by, find}
use Rattle.std.specs.Ordering.{nat_cmp}
use Rattle.std.specs.Cmp.{nat_eq_equiv}
use Rattle.std.specs.FinMap as finmap
use Rattle.std.proofs.lemmas.Bool.{eqb-true, eq-eqb, ne_eqb, cases_lt}
use Rattle.std.proofs.lemmas.Option.{none-some, same_Some}
use Rattle.std.proofs.lemmas.List.Sums.{sum_by-append, sum_by-cons}
use Rattle.concurrent_lru.specs.Cache.{Cache, Idle, Held, making, untaken, ready, Settles, held_at}
use Rattle.concurrent_lru.specs.Steps.{Step, Charges, Makes, Removes, Rests, Stays, Drops, Hits, Releases, ReleasesAndEvicts, Repins, Invalidates, Stores, Renews, with_held, without, held_in_phase, one_more_pin, one_pin_less, held_by_one, idle_again, Departs, held_detached}
use Rattle.concurrent_lru.specs.Request as ask
use Rattle.concurrent_lru.specs.Request.{Request}
use Rattle.concurrent_lru.specs.Reply as say
use Rattle.concurrent_lru.specs.Reply.{Reply}
use Rattle.concurrent_lru.specs.Runs.{Outcome, accepted, refused, Run}
use Rattle.concurrent_lru.specs.StampCounts.{one_if, one_if_some, stamp_count_in_list, stamp_count_in_cache, stamp_count_in_outcome, stamp_count}
use Rattle.concurrent_lru.proofs.Entries.NodesOfSetAndAdd.{inserted_at, inserted_other}
use Rattle.concurrent_lru.proofs.Lists.Removals.{removed_other}
use Rattle.concurrent_lru.proofs.Steps.ChargeOfMaking.{given}
use Rattle.concurrent_lru.proofs.Steps.LawfulAfterLeaving.{ends_departs}

module _ {K V : Type 0} where
  -- each stamp stands once at most, and those from the next on nowhere
  pub record IsStamped (c : Cache K V) : Type 0 where
    pub once : (s : ℕ) → stamp_count_in_cache c s ≤ 1
    pub fresh : (s : ℕ) → c.next ≤ s → stamp_count_in_cache c s ≡ 0

module _ {X : Type 0} where
  abbrev pub there : finmap.FinMap nat_cmp X → ℕ → ℕ
  there m q = one_if_some (finmap.get m q)

  pub there_same : (m : finmap.FinMap nat_cmp X) (s : ℕ) (d e : X) (q : ℕ) → finmap.get m s ≡ Some d → there (finmap.insert m s e) q ≡ there m q
  there_same m s d e q h = elim (eqb q s) as (λ b. eqb q s ≡ b → there (finmap.insert m s e) q ≡ there m q) [
    | true ↦ λ b. ap (there (finmap.insert m s e)) (eqb-true q s b) ∙ ap one_if_some (inserted_at m s e) ∙ sym (ap (there m) (eqb-true q s b) ∙ ap one_if_some h)
    | false ↦ λ b. ap one_if_some (inserted_other m s q e b)
  ] refl

  pub there_new : (m : finmap.FinMap nat_cmp X) (s : ℕ) (e : X) (q : ℕ) → finmap.get m s ≡ None → there (finmap.insert m s e) q ≡ there m q + one_if (s == q)
  there_new m s e q h = elim (eqb q s) as (λ b. eqb q s ≡ b → there (finmap.insert m s e) q ≡ there m q + one_if (s == q)) [
    | true ↦ λ b.
        let a : there (finmap.insert m s e) q ≡ 1 = ap (there (finmap.insert m s e)) (eqb-true q s b) ∙ ap one_if_some (inserted_at m s e) in
        let z : there m q ≡ 0 = ap (there m) (eqb-true q s b) ∙ ap one_if_some h in
        let o : one_if (s == q) ≡ 1 = ap one_if (nat_eq_equiv.symm s q ∙ b) in
        omega (arith, a, z, o)
    | false ↦ λ b.
        let a : there (finmap.insert m s e) q ≡ there m q = ap one_if_some (inserted_other m s q e b) in
        let o : one_if (s == q) ≡ 0 = ap one_if (nat_eq_equiv.symm s q ∙ b) in
        omega (arith, a, o)
  ] refl

  pub there_gone : (m : finmap.FinMap nat_cmp X) (s : ℕ) (e : X) (q : ℕ) → finmap.get m s ≡ Some e → there (finmap.remove m s) q + one_if (s == q) ≡ there m q
  there_gone m s e q h = elim (eqb q s) as (λ b. eqb q s ≡ b → there (finmap.remove m s) q + one_if (s == q) ≡ there m q) [
    | true ↦ λ b.
        let a : there (finmap.remove m s) q ≡ 0 = ap (there (finmap.remove m s)) (eqb-true q s b) ∙ ap one_if_some (Rattle.concurrent_lru.proofs.Entries.SumsOfHeld.removed_at m s) in
        let z : there m q ≡ 1 = ap (there m) (eqb-true q s b) ∙ ap one_if_some h in
        let o : one_if (s == q) ≡ 1 = ap one_if (nat_eq_equiv.symm s q ∙ b) in
        omega (arith, a, z, o)
    | false ↦ λ b.
        let a : there (finmap.remove m s) q ≡ there m q = ap one_if_some (removed_other m s q b) in
        let o : one_if (s == q) ≡ 0 = ap one_if (nat_eq_equiv.symm s q ∙ b) in
        omega (arith, a, o)
  ] refl

module _ {K V : Type 0} where
  times-cons : (q : ℕ) (x : Idle K V) (xs : List (Idle K V)) → stamp_count_in_list q (x ∷ xs) ≡ one_if (x.stamp == q) + stamp_count_in_list q xs
  times-cons q x xs = sum_by-cons (λ x. one_if (x.stamp == q)) x xs

  times_found : (s : ℕ) (e : Idle K V) (xs : List (Idle K V)) → find (λ x. x.stamp == s) xs ≡ Some e → 1 ≤ stamp_count_in_list s xs
  times_found s e [] h = absurd (none-some e h)
  times_found s e (x ∷ xs) h =
      let a : stamp_count_in_list s (x ∷ xs) ≡ one_if (x.stamp == s) + stamp_count_in_list s xs = times-cons s x xs in
      elim (x.stamp == s) as (λ b. (x.stamp == s) ≡ b → cond b (Some x) (find (λ x. x.stamp == s) xs) ≡ Some e → 1 ≤ stamp_count_in_list s (x ∷ xs)) [
        | true ↦ λ b k. let o : one_if (x.stamp == s) ≡ 1 = ap one_if b in omega (arith, a, o)
        | false ↦ λ b k. let i : 1 ≤ stamp_count_in_list s xs = times_found s e xs k in omega (arith, a, i)
      ] refl h

  times_self : (s : ℕ) (xs : List (Idle K V)) → stamp_count_in_list s (without s xs) ≡ 0
  times_self s [] = refl
  times_self s (x ∷ xs) =
      let i : stamp_count_in_list s (without s xs) ≡ 0 = times_self s xs in
      elim (x.stamp == s) as (λ b. (x.stamp == s) ≡ b → stamp_count_in_list s (cond (not b) (x ∷ without s xs) (without s xs)) ≡ 0) [
        | true ↦ λ b. i
        | false ↦ λ b.
            let a : stamp_count_in_list s (x ∷ without s xs) ≡ one_if (x.stamp == s) + stamp_count_in_list s (without s xs) = times-cons s x (without s xs) in
            let o : one_if (x.stamp == s) ≡ 0 = ap one_if b in
            omega (arith, a, i, o)
      ] refl

  times_other : (s q : ℕ) (xs : List (Idle K V)) → (s == q) ≡ false → stamp_count_in_list q (without s xs) ≡ stamp_count_in_list q xs
  times_other s q [] n = refl
  times_other s q (x ∷ xs) n =
      let i : stamp_count_in_list q (without s xs) ≡ stamp_count_in_list q xs = times_other s q xs n in
      let c : stamp_count_in_list q (x ∷ xs) ≡ one_if (x.stamp == q) + stamp_count_in_list q xs = times-cons q x xs in
      elim (x.stamp == s) as (λ b. (x.stamp == s) ≡ b → stamp_count_in_list q (cond (not b) (x ∷ without s xs) (without s xs)) ≡ stamp_count_in_list q (x ∷ xs)) [
        | true ↦ λ b.
            let o : one_if (x.stamp == q) ≡ 0 = ap one_if (ap (λ t. t == q) (eqb-true x.stamp s b) ∙ n) in
            omega (arith, i, c, o)
        | false ↦ λ b.
            let a : stamp_count_in_list q (x ∷ without s xs) ≡ one_if (x.stamp == q) + stamp_count_in_list q (without s xs) = times-cons q x (without s xs) in
            omega (arith, a, i, c)
      ] refl

  pub times_without : (s q : ℕ) (e : Idle K V) (xs : List (Idle K V)) → find (λ x. x.stamp == s) xs ≡ Some e → stamp_count_in_list s xs ≤ 1 → stamp_count_in_list q (without s xs) + one_if (s == q) ≡ stamp_count_in_list q xs
  times_without s q e xs h once = elim (s == q) as (λ b. (s == q) ≡ b → stamp_count_in_list q (without s xs) + one_if b ≡ stamp_count_in_list q xs) [
    | true ↦ λ b.
        let here : s ≡ q = eqb-true s q b in
        let z : stamp_count_in_list q (without s xs) ≡ 0 = subst (λ t. stamp_count_in_list t (without s xs) ≡ 0) here (times_self s xs) in
        let low : 1 ≤ stamp_count_in_list q xs = subst (λ t. 1 ≤ stamp_count_in_list t xs) here (times_found s e xs h) in
        let high : stamp_count_in_list q xs ≤ 1 = subst (λ t. stamp_count_in_list t xs ≤ 1) here once in
        omega (arith, z, low, high)
    | false ↦ λ b. let o : stamp_count_in_list q (without s xs) ≡ stamp_count_in_list q xs = times_other s q xs b in omega (arith, o)
  ] refl

  pub found_has_stamp : (s : ℕ) (e : Idle K V) (xs : List (Idle K V)) → find (λ x. x.stamp == s) xs ≡ Some e → (e.stamp == s) ≡ true
  found_has_stamp s e [] h = absurd (none-some e h)
  found_has_stamp s e (x ∷ xs) h = elim (x.stamp == s) as (λ b. (x.stamp == s) ≡ b → cond b (Some x) (find (λ x. x.stamp == s) xs) ≡ Some e → (e.stamp == s) ≡ true) [
    | true ↦ λ b k. subst (λ y. (y.stamp == s) ≡ true) (same_Some _ _ k) b
    | false ↦ λ b k. found_has_stamp s e xs k
  ] refl h

  -- a step keeps all counts, or gives out the next stamp
  abbrev pub Moves : Cache K V → Request K V × Outcome K V → Cache K V → Type 0
  Moves old e new =
      ((new.next ≡ old.next) × ((q : ℕ) → stamp_count_in_outcome q e + stamp_count_in_cache new q ≡ stamp_count_in_cache old q))
      ⊎ ((new.next ≡ old.next + 1) × ((q : ℕ) → stamp_count_in_outcome q e + stamp_count_in_cache new q ≡ stamp_count_in_cache old q + one_if (old.next == q)))

  -- settling moves stamps from the cache to what is evicted
  pub settled_stamp_count : (old new : Cache K V) (out : List (Idle K V)) (q : ℕ) → Settles old out new → stamp_count_in_list q out + stamp_count_in_cache new q ≡ stamp_count_in_cache old q
  settled_stamp_count old new out q s =
      let a : stamp_count_in_list q old.idle ≡ stamp_count_in_list q out + stamp_count_in_list q new.idle = ap (stamp_count_in_list q) s.front.parts ∙ sum_by-append (λ x. one_if (x.stamp == q)) out new.idle in
      let b : one_if_some (held_at new q) ≡ one_if_some (held_at old q) = ap (λ c. one_if_some (held_at c q)) s.others in
      omega (arith, a, b)

  none_told : (q : ℕ) (out : List (Idle K V)) → out ≡ [] → stamp_count_in_list q out ≡ 0
  none_told q out h = ap (stamp_count_in_list q) h

  same_stamp_count : (old new : Cache K V) (s : ℕ) (d f : Held K V) (out : List (Idle K V)) → held_at old s ≡ Some d → new ≡ record old { held = finmap.insert old.held s f } → out ≡ [] → (new.next ≡ old.next) × ((q : ℕ) → stamp_count_in_list q out + stamp_count_in_cache new q ≡ stamp_count_in_cache old q)
  same_stamp_count old new s d f out at changed none = (
    ap (λ c. c.next) changed,
    λ q.
        let z : stamp_count_in_list q out ≡ 0 = none_told q out none in
        let i : stamp_count_in_list q new.idle ≡ stamp_count_in_list q old.idle = ap (λ c. stamp_count_in_list q c.idle) changed in
        let h : one_if_some (held_at new q) ≡ one_if_some (held_at old q) = ap (λ c. one_if_some (held_at c q)) changed ∙ there_same old.held s d f q at in
        omega (arith, z, i, h),
  )

  free_next : (c : Cache K V) → IsStamped c → held_at c c.next ≡ None
  free_next c i =
      let z : stamp_count_in_cache c c.next ≡ 0 = i.fresh c.next (omega arith) in
      empty_at (held_at c c.next) (omega (arith, z))
    where
      empty_at : (o : Option (Held K V)) → one_if_some o ≡ 0 → o ≡ None
      empty_at None h = refl
      empty_at (Some x) h = absurd (omega (arith, h))

module _ {K V : Type 0} (E : K → K → Bool) where
  makes_moves : (old new : Cache K V) (k : K) (c s : ℕ) (out : List (Idle K V)) → IsStamped old → Makes E old k c s out new → (new.next ≡ old.next + 1) × ((q : ℕ) → stamp_count_in_list q out + stamp_count_in_cache new q ≡ stamp_count_in_cache old q + one_if (old.next == q))
  makes_moves old new k c s out i m =
      let e : Held K V = record { key = m.copy; charge = c; pins = 1; detached = false; phase = making } in
      let mid : Cache K V = record old { held = finmap.insert old.held s e; next = old.next + 1 } in (
        ap (λ z. z.next) m.settles.others,
        λ q.
            let a : stamp_count_in_list q out + stamp_count_in_cache new q ≡ stamp_count_in_list q old.idle + there (finmap.insert old.held s e) q = settled_stamp_count mid new out q m.settles in
            let b : there (finmap.insert old.held s e) q ≡ there old.held q + one_if (s == q) = there_new old.held s e q (ap (held_at old) m.stamp ∙ free_next old i) in
            let o : one_if (s == q) ≡ one_if (old.next == q) = ap (λ t. one_if (t == q)) m.stamp in
            omega (arith, a, b, o),
      )

  hits_moves : (old new : Cache K V) (k : K) (s : ℕ) (v : V) (out : List (Idle K V)) → IsStamped old → Hits E old k s v out new → (new.next ≡ old.next) × ((q : ℕ) → stamp_count_in_list q out + stamp_count_in_cache new q ≡ stamp_count_in_cache old q)
  hits_moves old new k s v out i h = elim h [
    | inl j ↦ same_stamp_count old new s j.entry (held_in_phase (ready v) (one_more_pin j.entry)) out j.holds.at j.changed j.none
    | inr r ↦ (
      ap (λ c. c.next) r.changed,
      λ q.
          let most : stamp_count_in_list s old.idle + there old.held s ≤ 1 = i.once s in
          let found : 1 ≤ stamp_count_in_list s old.idle = times_found s r.entry old.idle r.at in
          let z : stamp_count_in_list q out ≡ 0 = none_told q out r.none in
          let a : stamp_count_in_list q new.idle ≡ stamp_count_in_list q (without s old.idle) = ap (λ c. stamp_count_in_list q c.idle) r.changed in
          let b : stamp_count_in_list q (without s old.idle) + one_if (s == q) ≡ stamp_count_in_list q old.idle = times_without s q r.entry old.idle r.at (omega (arith, most)) in
          let c : there new.held q ≡ there old.held q + one_if (s == q) = ap (λ c. there c.held q) r.changed ∙ there_new old.held s (held_by_one r.entry) q (empty_at (held_at old s) (omega (arith, most, found))) in
          omega (arith, z, a, b, c),
    )
  ]
    where
      empty_at : (o : Option (Held K V)) → one_if_some o ≡ 0 → o ≡ None
      empty_at None h = refl
      empty_at (Some x) h = absurd (omega (arith, h))

  rests_moves : (old new : Cache K V) (s : ℕ) (out : List (Idle K V)) → Rests E old s out new → (new.next ≡ old.next) × ((q : ℕ) → stamp_count_in_list q out + stamp_count_in_cache new q ≡ stamp_count_in_cache old q)
  rests_moves old new s out r =
      let x : Idle K V = idle_again s r.entry r.value in
      let mid : Cache K V = record old { held = finmap.remove old.held s; idle = old.idle ++ x ∷ [] } in (
        ap (λ z. z.next) r.settles.others,
        λ q.
            let a : stamp_count_in_list q out + stamp_count_in_cache new q ≡ stamp_count_in_list q (old.idle ++ x ∷ []) + there (finmap.remove old.held s) q = settled_stamp_count mid new out q r.settles in
            let b : stamp_count_in_list q (old.idle ++ x ∷ []) ≡ stamp_count_in_list q old.idle + stamp_count_in_list q (x ∷ []) = sum_by-append (λ x. one_if (x.stamp == q)) old.idle (x ∷ []) in
            let o : stamp_count_in_list q (x ∷ []) ≡ one_if (s == q) = omega arith in
            let c : there (finmap.remove old.held s) q + one_if (s == q) ≡ there old.held q = there_gone old.held s r.entry q r.holds.at in
            omega (arith, a, b, c, o),
      )

  removes_moves : (old new : Cache K V) (s : ℕ) (k : K) (out : List (Idle K V)) → Removes E old s k out new → (new.next ≡ old.next) × ((q : ℕ) → (one_if (s == q) + stamp_count_in_list q out) + stamp_count_in_cache new q ≡ stamp_count_in_cache old q)
  removes_moves old new s k out r = (
    ap (λ c. c.next) r.changed,
    λ q.
        let z : stamp_count_in_list q out ≡ 0 = none_told q out r.none in
        let i : stamp_count_in_list q new.idle ≡ stamp_count_in_list q old.idle = ap (λ c. stamp_count_in_list q c.idle) r.changed in
        let h : there new.held q ≡ there (finmap.remove old.held s) q = ap (λ c. there c.held q) r.changed in
        let c : there (finmap.remove old.held s) q + one_if (s == q) ≡ there old.held q = there_gone old.held s r.entry q r.holds.at in
        omega (arith, z, i, h, c),
  )

  departs_moves : (old new : Cache K V) (s : ℕ) (out : List (Idle K V)) → Departs E old s out new → (new.next ≡ old.next) × ((q : ℕ) → stamp_count_in_list q out + stamp_count_in_cache new q ≡ stamp_count_in_cache old q)
  departs_moves old new s out r =
      let x : Idle K V = idle_again s r.entry r.value in (
        ap (λ c. c.next) r.changed,
        λ q.
            let z : stamp_count_in_list q out ≡ stamp_count_in_list q (x ∷ []) = ap (stamp_count_in_list q) r.one in
            let o : stamp_count_in_list q (x ∷ []) ≡ one_if (s == q) = omega arith in
            let i : stamp_count_in_list q new.idle ≡ stamp_count_in_list q old.idle = ap (λ c. stamp_count_in_list q c.idle) r.changed in
            let h : there new.held q ≡ there (finmap.remove old.held s) q = ap (λ c. there c.held q) r.changed in
            let c : there (finmap.remove old.held s) q + one_if (s == q) ≡ there old.held q = there_gone old.held s r.entry q r.holds.at in
            omega (arith, z, o, i, h, c),
      )

  stays_moves : (old new : Cache K V) (out : List (Idle K V)) → Stays E old out new → (new.next ≡ old.next) × ((q : ℕ) → stamp_count_in_list q out + stamp_count_in_cache new q ≡ stamp_count_in_cache old q)
  stays_moves old new out s = (
    ap (λ c. c.next) s.same,
    λ q.
        let z : stamp_count_in_list q out ≡ 0 = none_told q out s.none in
        let a : stamp_count_in_cache new q ≡ stamp_count_in_cache old q = ap (λ c. stamp_count_in_cache c q) s.same in
        omega (arith, z, a),
  )

  drops_moves : (old new : Cache K V) (k : K) (out : List (Idle K V)) → IsStamped old → Drops E old k out new → (new.next ≡ old.next) × ((q : ℕ) → stamp_count_in_list q out + stamp_count_in_cache new q ≡ stamp_count_in_cache old q)
  drops_moves old new k out i d = (
    ap (λ c. c.next) d.changed,
    λ q.
        let most : stamp_count_in_list d.stamp old.idle + there old.held d.stamp ≤ 1 = i.once d.stamp in
        let a : stamp_count_in_list q new.idle ≡ stamp_count_in_list q (without d.stamp old.idle) = ap (λ c. stamp_count_in_list q c.idle) d.changed in
        let b : stamp_count_in_list q (without d.stamp old.idle) + one_if (d.stamp == q) ≡ stamp_count_in_list q old.idle = times_without d.stamp q d.entry old.idle d.at (omega (arith, most)) in
        let h : there new.held q ≡ there old.held q = ap (λ c. there c.held q) d.changed in
        let t : stamp_count_in_list q out ≡ stamp_count_in_list q (d.entry ∷ []) = ap (stamp_count_in_list q) d.one in
        let u : stamp_count_in_list q (d.entry ∷ []) ≡ one_if (d.entry.stamp == q) = omega arith in
        let w : one_if (d.entry.stamp == q) ≡ one_if (d.stamp == q) = ap (λ n. one_if (n == q)) (eqb-true d.entry.stamp d.stamp (found_has_stamp d.stamp d.entry old.idle d.at)) in
        omega (arith, a, b, h, t, u, w),
  )

  prunes_moves : (old new : Cache K V) (out : List (Idle K V)) → out ≡ old.idle → new ≡ record old { idle = [] } → (new.next ≡ old.next) × ((q : ℕ) → stamp_count_in_list q out + stamp_count_in_cache new q ≡ stamp_count_in_cache old q)
  prunes_moves old new out o n = (
    ap (λ c. c.next) n,
    λ q.
        let a : stamp_count_in_list q out ≡ stamp_count_in_list q old.idle = ap (stamp_count_in_list q) o in
        let b : stamp_count_in_cache new q ≡ stamp_count_in_cache (record old { idle = [] }) q = ap (λ c. stamp_count_in_cache c q) n in
        omega (arith, a, b),
  )

  releases_moves : (old new : Cache K V) (s : ℕ) (out : List (Idle K V)) → Releases E old s out new → (new.next ≡ old.next) × ((q : ℕ) → stamp_count_in_list q out + stamp_count_in_cache new q ≡ stamp_count_in_cache old q)
  releases_moves old new s out (inl l) = same_stamp_count old new s l.1.entry (held_in_phase (ready l.0) (one_pin_less l.1.entry)) out l.1.holds.at l.1.changed l.1.none
  releases_moves old new s out (inr (inl r)) = rests_moves old new s out r
  releases_moves old new s out (inr (inr r)) = departs_moves old new s out (ends_departs r)

  releases_and_evicts_moves : (old new : Cache K V) (s : ℕ) (out : List (Idle K V)) → ReleasesAndEvicts E old s out new → (new.next ≡ old.next) × ((q : ℕ) → stamp_count_in_list q out + stamp_count_in_cache new q ≡ stamp_count_in_cache old q)
  releases_and_evicts_moves old new s out (inl l) = releases_moves old new s out (inl l)
  releases_and_evicts_moves old new s out (inr r) = departs_moves old new s out r

  repins_moves : (old new : Cache K V) (s : ℕ) (v : V) (out : List (Idle K V)) → IsStamped old → Repins E old s v out new → (new.next ≡ old.next) × ((q : ℕ) → stamp_count_in_list q out + stamp_count_in_cache new q ≡ stamp_count_in_cache old q)
  repins_moves old new s v out i (inl j) = same_stamp_count old new s j.entry (one_more_pin j.entry) out j.holds.at j.changed j.none
  repins_moves old new s v out i (inr r) = hits_moves old new r.0 s v out i (inr r.1)

  pub invalidates_moves : (old new : Cache K V) (k : K) (out : List (Idle K V)) → IsStamped old → Invalidates E old k out new → (new.next ≡ old.next) × ((q : ℕ) → stamp_count_in_list q out + stamp_count_in_cache new q ≡ stamp_count_in_cache old q)
  invalidates_moves old new k out i (inl d) = drops_moves old new k out i d
  invalidates_moves old new k out i (inr (inl d)) = same_stamp_count old new d.stamp d.entry (held_detached d.entry) out d.at d.changed d.none
  invalidates_moves old new k out i (inr (inr s)) = stays_moves old new out s.1

  -- where a stamp is after one step
  pub record Grows (old : Cache K V) (e : Request K V × Outcome K V) (new : Cache K V) : Type 0 where
    pub up : old.next ≤ new.next
    pub past : (q : ℕ) → q < old.next → stamp_count_in_outcome q e + stamp_count_in_cache new q ≡ stamp_count_in_cache old q
    pub given : (q : ℕ) → old.next ≤ q → q < new.next → stamp_count_in_outcome q e + stamp_count_in_cache new q ≡ 1
    pub later : (q : ℕ) → old.next ≤ q → new.next ≤ q → stamp_count_in_outcome q e + stamp_count_in_cache new q ≡ 0

  grows : (old : Cache K V) (e : Request K V × Outcome K V) (new : Cache K V) → IsStamped old → Moves old e new → Grows old e new
  grows old e new i m = elim m [
    | inl m ↦ record {
      up = omega (arith, m.0);
      past = λ q h. m.1 q;
      given = λ q h k. absurd (omega (arith, h, k, m.0));
      later = λ q h k. m.1 q ∙ i.fresh q h;
    }
    | inr m ↦ record {
      up = omega (arith, m.0);
      past = λ q h.
          let o : one_if (old.next == q) ≡ 0 = ap one_if (ne_eqb old.next q (λ is. absurd (omega (arith, h, is)))) in
          let a : stamp_count_in_outcome q e + stamp_count_in_cache new q ≡ stamp_count_in_cache old q + one_if (old.next == q) = m.1 q in
          omega (arith, o, a);
      given = λ q h k.
          let is : old.next ≡ q = omega (arith, h, k, m.0) in
          let o : one_if (old.next == q) ≡ 1 = ap one_if (eq-eqb old.next q is) in
          let z : stamp_count_in_cache old q ≡ 0 = i.fresh q h in
          let a : stamp_count_in_outcome q e + stamp_count_in_cache new q ≡ stamp_count_in_cache old q + one_if (old.next == q) = m.1 q in
          omega (arith, o, a, z);
      later = λ q h k.
          let o : one_if (old.next == q) ≡ 0 = ap one_if (ne_eqb old.next q (λ is. absurd (omega (arith, k, m.0, is)))) in
          let z : stamp_count_in_cache old q ≡ 0 = i.fresh q h in
          let a : stamp_count_in_outcome q e + stamp_count_in_cache new q ≡ stamp_count_in_cache old q + one_if (old.next == q) = m.1 q in
          omega (arith, o, a, z);
    }
  ]

  stamped : (old : Cache K V) (e : Request K V × Outcome K V) (new : Cache K V) → IsStamped old → Grows old e new → IsStamped new
  stamped old e new i g = record {
    once = λ q. elim (cases_lt q old.next) [
      | inl l ↦ let a : stamp_count_in_outcome q e + stamp_count_in_cache new q ≡ stamp_count_in_cache old q = g.past q l in let b : stamp_count_in_cache old q ≤ 1 = i.once q in omega (arith, a, b)
      | inr l ↦ elim (cases_lt q new.next) [
        | inl m ↦ let a : stamp_count_in_outcome q e + stamp_count_in_cache new q ≡ 1 = g.given q l m in omega (arith, a)
        | inr m ↦ let a : stamp_count_in_outcome q e + stamp_count_in_cache new q ≡ 0 = g.later q l m in omega (arith, a)
      ]
    ];
    fresh = λ q h. let u = g.up in let a : stamp_count_in_outcome q e + stamp_count_in_cache new q ≡ 0 = g.later q (omega (arith, u, h)) h in omega (arith, a);
  }

  -- an insert gives out the next stamp; a read keeps all counts
  stores_moves : (old new : Cache K V) (k : K) (c s : ℕ) (v : V) (out : List (Idle K V)) → IsStamped old → Stores E old k c v s out new → (new.next ≡ old.next + 1) × ((q : ℕ) → stamp_count_in_list q out + stamp_count_in_cache new q ≡ stamp_count_in_cache old q + one_if (old.next == q))
  stores_moves old new k c s v out i h =
      let a = invalidates_moves old h.mid k h.replaced i h.invalidated in
      let e : Request K V × Outcome K V = (ask.invalidate k, accepted say.done h.replaced) in
      let b = makes_moves h.mid h.made k c s h.evicted (stamped old e h.mid i (grows old e h.mid i (inl a))) h.begun in
      let d = same_stamp_count h.made new s h.given.entry (held_in_phase (ready v) h.given.entry) [] h.given.holds.at h.given.changed h.given.none in
      let n : h.mid.next ≡ old.next = a.0 in
      let m : h.made.next ≡ h.mid.next + 1 = b.0 in
      let o : new.next ≡ h.made.next = d.0 in (
        omega (arith, n, m, o),
        λ q.
            let x : stamp_count_in_list q h.replaced + stamp_count_in_cache h.mid q ≡ stamp_count_in_cache old q = a.1 q in
            let y : stamp_count_in_list q h.evicted + stamp_count_in_cache h.made q ≡ stamp_count_in_cache h.mid q + one_if (h.mid.next == q) = b.1 q in
            let z : stamp_count_in_list {K = K} {V = V} q [] + stamp_count_in_cache new q ≡ stamp_count_in_cache h.made q = d.1 q in
            let w : stamp_count_in_list q out ≡ stamp_count_in_list q h.replaced + stamp_count_in_list q h.evicted = ap (stamp_count_in_list q) h.both ∙ sum_by-append (λ x. one_if (x.stamp == q)) h.replaced h.evicted in
            let u : one_if (h.mid.next == q) ≡ one_if (old.next == q) = ap (λ t. one_if (t == q)) a.0 in
            let r : stamp_count_in_list {K = K} {V = V} q [] ≡ 0 = refl in
            omega (arith, x, y, z, w, u, r),
      )

  renews_moves : (old new : Cache K V) (k : K) (s : ℕ) (v : V) (out : List (Idle K V)) → IsStamped old → Renews E old k s v out new → (new.next ≡ old.next) × ((q : ℕ) → stamp_count_in_list q out + stamp_count_in_cache new q ≡ stamp_count_in_cache old q)
  renews_moves old new k s v out i h =
      let a = hits_moves old h.mid k s v [] i h.found in
      let b = releases_moves h.mid new s [] h.released in (
        b.0 ∙ a.0,
        λ q.
            let x : stamp_count_in_list {K = K} {V = V} q [] + stamp_count_in_cache h.mid q ≡ stamp_count_in_cache old q = a.1 q in
            let y : stamp_count_in_list {K = K} {V = V} q [] + stamp_count_in_cache new q ≡ stamp_count_in_cache h.mid q = b.1 q in
            let z : stamp_count_in_list q out ≡ 0 = none_told q out h.none in
            let r : stamp_count_in_list {K = K} {V = V} q [] ≡ 0 = refl in
            omega (arith, x, y, z, r),
      )

  charges_moves : (old new : Cache K V) (s : ℕ) (v : V) (c : ℕ) (out : List (Idle K V)) → Charges E old s v c out new → (new.next ≡ old.next) × ((q : ℕ) → stamp_count_in_list q out + stamp_count_in_cache new q ≡ stamp_count_in_cache old q)
  charges_moves old new s v c out h =
      let mid = with_held old s (given v c h.entry) in
      let a = same_stamp_count old mid s h.entry (given v c h.entry) [] h.holds.at refl refl in (
        ap (λ z. z.next) h.settles.others,
        λ q.
            let x : stamp_count_in_list {K = K} {V = V} q [] + stamp_count_in_cache mid q ≡ stamp_count_in_cache old q = a.1 q in
            let y : stamp_count_in_list q out + stamp_count_in_cache new q ≡ stamp_count_in_cache mid q = settled_stamp_count mid new out q h.settles in
            let r : stamp_count_in_list {K = K} {V = V} q [] ≡ 0 = refl in
            omega (arith, x, y, r),
      )

  pub step_moves : (old new : Cache K V) (r : Request K V) (y : Reply K V) (out : List (Idle K V)) → IsStamped old → Step E old r y out new → Moves old (r, accepted y out) new
  step_moves old new (ask.begin k c) (say.make s) out i h = elim h [
    | inl m ↦ inr (makes_moves old new k c s out i m)
    | inr j ↦ inl (same_stamp_count old new s j.entry (held_in_phase making (one_more_pin j.entry)) out j.holds.at j.changed j.none)
  ]
  step_moves old new (ask.begin k c) (say.wait s) out i j = inl (same_stamp_count old new s j.entry (held_in_phase making (one_more_pin j.entry)) out j.holds.at j.changed j.none)
  step_moves old new (ask.begin k c) (say.hit s v) out i h = inl (hits_moves old new k s v out i h)
  step_moves old new (ask.begin_strictly k c) (say.make s) out i h = elim h [
    | inl m ↦ inr (makes_moves old new k c s out i m.1)
    | inr j ↦ inl (same_stamp_count old new s j.entry (held_in_phase making (one_more_pin j.entry)) out j.holds.at j.changed j.none)
  ]
  step_moves old new (ask.begin_strictly k c) (say.wait s) out i j = inl (same_stamp_count old new s j.entry (held_in_phase making (one_more_pin j.entry)) out j.holds.at j.changed j.none)
  step_moves old new (ask.begin_strictly k c) (say.hit s v) out i h = inl (hits_moves old new k s v out i h)
  step_moves old new (ask.poll s) (say.wait t) out i h = inl (same_stamp_count old new s h.1.entry (held_in_phase making h.1.entry) out h.1.holds.at h.1.changed h.1.none)
  step_moves old new (ask.poll s) (say.make t) out i h = inl (same_stamp_count old new s h.1.entry (held_in_phase making h.1.entry) out h.1.holds.at h.1.changed h.1.none)
  step_moves old new (ask.poll s) (say.hit t v) out i h = inl (same_stamp_count old new s h.1.entry (held_in_phase (ready v) h.1.entry) out h.1.holds.at h.1.changed h.1.none)
  step_moves old new (ask.ready s v) say.done out i h = inl (same_stamp_count old new s h.entry (held_in_phase (ready v) h.entry) out h.holds.at h.changed h.none)
  step_moves old new (ask.ready_with s v c) say.done out i h = inl (charges_moves old new s v c out h)
  step_moves old new (ask.ready_with_strictly s v c) say.done out i h = inl (charges_moves old new s v c out h.0)
  step_moves old new (ask.fail s) say.left out i h = inl (same_stamp_count old new s h.entry (held_in_phase untaken (one_pin_less h.entry)) out h.holds.at h.changed h.none)
  step_moves old new (ask.fail s) (say.removed k) out i h = inl (removes_moves old new s k out h)
  step_moves old new (ask.get k) (say.hit s v) out i h = inl (hits_moves old new k s v out i h)
  step_moves old new (ask.get k) say.missed out i h = inl (stays_moves old new out h.1)
  step_moves old new (ask.release s) say.done out i h = inl (releases_moves old new s out h)
  step_moves old new (ask.release_and_evict s) say.done out i h = inl (releases_and_evicts_moves old new s out h)
  step_moves old new (ask.repin s) (say.pinned v) out i h = inl (repins_moves old new s v out i h)
  step_moves old new (ask.advice_evict k) say.done out i h = elim h [
    | inl d ↦ inl (drops_moves old new k out i d)
    | inr s ↦ inl (stays_moves old new out s.1)
  ]
  step_moves old new (ask.invalidate k) say.done out i h = inl (invalidates_moves old new k out i h)
  step_moves old new (ask.insert k c v) (say.inserted s) out i h = inr (stores_moves old new k c s v out i h)
  step_moves old new (ask.insert_strictly k c v) (say.inserted s) out i h = inr (stores_moves old new k c s v out i h.1)
  step_moves old new (ask.read k) (say.read s v) out i h = inl (renews_moves old new k s v out i h)
  step_moves old new (ask.read k) say.missed out i h = inl (stays_moves old new out h.1)
  step_moves old new ask.prune say.done out i h = inl (prunes_moves old new out h.0 h.1)
  step_moves old new (ask.set_capacity c) say.done out i h = inl (ap (λ z. z.next) h.others, λ q. settled_stamp_count (record old { capacity = c }) new out q h)
  step_moves old new ask.total (say.sum n) out i h = inl (stays_moves old new out h.1)
  step_moves old new _ _ out i h = absurd h

  pub run_stamp_count : (old new : Cache K V) (es : List (Request K V × Outcome K V)) → IsStamped old → Run E old (map (λ e. e.0) es) (map (λ e. e.1) es) new
      → IsStamped new × (old.next ≤ new.next) × ((s : ℕ) → s < old.next → stamp_count s es new ≡ stamp_count_in_cache old s) × ((s : ℕ) → old.next ≤ s → s < new.next → stamp_count s es new ≡ 1)
  run_stamp_count old new [] i r = (
    subst IsStamped (sym r) i,
    (let n : new.next ≡ old.next = ap (λ c. c.next) r in omega (arith, n)),
    (λ s h. let a : stamp_count_in_cache new s ≡ stamp_count_in_cache old s = ap (λ c. stamp_count_in_cache c s) r in omega (arith, a)),
    (λ s h k. let n : new.next ≡ old.next = ap (λ c. c.next) r in absurd (omega (arith, h, k, n))),
  )
  run_stamp_count old new ((r, accepted y out) ∷ es) i h = go es old (r, accepted y out) h.0 new i (grows old (r, accepted y out) h.0 i (step_moves old h.0 r y out i h.1)) (run_stamp_count h.0 new es (stamped old (r, accepted y out) h.0 i (grows old (r, accepted y out) h.0 i (step_moves old h.0 r y out i h.1))) h.2)
    where
      go : (es : List (Request K V × Outcome K V)) (old : Cache K V) (e : Request K V × Outcome K V) (mid new : Cache K V) → IsStamped old → Grows old e mid
          → IsStamped new × (mid.next ≤ new.next) × ((s : ℕ) → s < mid.next → stamp_count s es new ≡ stamp_count_in_cache mid s) × ((s : ℕ) → mid.next ≤ s → s < new.next → stamp_count s es new ≡ 1)
          → IsStamped new × (old.next ≤ new.next) × ((s : ℕ) → s < old.next → stamp_count s (e ∷ es) new ≡ stamp_count_in_cache old s) × ((s : ℕ) → old.next ≤ s → s < new.next → stamp_count s (e ∷ es) new ≡ 1)
      go es old e mid new i g r = (
        r.0,
        (let u = g.up in let v = r.1 in omega (arith, u, v)),
        (λ s h.
            let u = g.up in
            let c : sum_by (stamp_count_in_outcome s) (e ∷ es) ≡ stamp_count_in_outcome s e + sum_by (stamp_count_in_outcome s) es = sum_by-cons (stamp_count_in_outcome s) e es in
            let a : stamp_count_in_outcome s e + stamp_count_in_cache mid s ≡ stamp_count_in_cache old s = g.past s h in
            let b : sum_by (stamp_count_in_outcome s) es + stamp_count_in_cache new s ≡ stamp_count_in_cache mid s = r.2 s (omega (arith, u, h)) in
            omega (arith, a, b, c)),
        (λ s h k.
            let c : sum_by (stamp_count_in_outcome s) (e ∷ es) ≡ stamp_count_in_outcome s e + sum_by (stamp_count_in_outcome s) es = sum_by-cons (stamp_count_in_outcome s) e es in
            elim (cases_lt s mid.next) [
              | inl l ↦
                  let a : stamp_count_in_outcome s e + stamp_count_in_cache mid s ≡ 1 = g.given s h l in
                  let b : sum_by (stamp_count_in_outcome s) es + stamp_count_in_cache new s ≡ stamp_count_in_cache mid s = r.2 s l in
                  omega (arith, a, b, c)
              | inr l ↦
                  let a : stamp_count_in_outcome s e + stamp_count_in_cache mid s ≡ 0 = g.later s h l in
                  let b : sum_by (stamp_count_in_outcome s) es + stamp_count_in_cache new s ≡ 1 = r.3 s l k in
                  omega (arith, a, b, c)
            ]),
      )
  run_stamp_count old new ((r, refused f) ∷ es) i h =
      let is : h.0 ≡ old = h.1.1 in
      let rest = run_stamp_count old new es i (subst (λ c. Run E c (map (λ e. e.0) es) (map (λ e. e.1) es) new) is h.2) in (
        rest.0,
        rest.1,
        (λ s k. let c : sum_by (stamp_count_in_outcome s) ((r, refused f) ∷ es) ≡ stamp_count_in_outcome s (r, refused f) + sum_by (stamp_count_in_outcome s) es = sum_by-cons (stamp_count_in_outcome s) (r, refused f) es in
            let z : stamp_count_in_outcome s (r, refused f) ≡ 0 = untold s r f in
            let b : sum_by (stamp_count_in_outcome s) es + stamp_count_in_cache new s ≡ stamp_count_in_cache old s = rest.2 s k in omega (arith, c, b, z)),
        (λ s k l. let c : sum_by (stamp_count_in_outcome s) ((r, refused f) ∷ es) ≡ stamp_count_in_outcome s (r, refused f) + sum_by (stamp_count_in_outcome s) es = sum_by-cons (stamp_count_in_outcome s) (r, refused f) es in
            let z : stamp_count_in_outcome s (r, refused f) ≡ 0 = untold s r f in
            let b : sum_by (stamp_count_in_outcome s) es + stamp_count_in_cache new s ≡ 1 = rest.3 s k l in omega (arith, c, b, z)),
      )
    where
      untold : (s : ℕ) (r : Request K V) (f : Rattle.concurrent_lru.specs.declared.refusal.Refusal.Refusal) → stamp_count_in_outcome s (r, refused f) ≡ 0
      untold s (ask.fail t) f = refl
      untold s _ f = refl
