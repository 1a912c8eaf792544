-- An insert is an invalidate, a begin and its ready, and a read is a get and a release, each as one
-- request.
use Rattle.std.proofs.Common.{◌≡◌, ℕ, ◌+◌, ◌<◌, ◌≤◌, inl, inr, Bool, List, [], ◌∷◌, ◌++◌, length, Some, Result, Ok, Err, refl, sym, ap, ◌∙◌, subst, arith}
use Rattle.std.specs.Cmp.{IsEquivalence}
use Rattle.std.proofs.lemmas.Bool.{cases_lt, true≢false}
use Rattle.std.proofs.lemmas.Option.{none-some}
use Rattle.concurrent_lru.specs.Cache.{Cache, Idle, Held, ready, sum_of, held_at, idle_at, IsLawful, Settles, HasCapacityFor}
use Rattle.concurrent_lru.specs.Counted.{Counted, WritesAtMostOneMore}
use Rattle.concurrent_lru.specs.Inserts.{Inserts, InsertsStrictly, Replaces, RefusesToReplace}
use Rattle.concurrent_lru.specs.Request as ask
use Rattle.concurrent_lru.specs.Reply as say
use Rattle.concurrent_lru.specs.Results.{outcome_of_insert_by, outcome_of_read_by, outcome_of_release}
use Rattle.concurrent_lru.specs.Runs.{Refuses, Stands}
use Rattle.concurrent_lru.specs.StepLaws.{InsertIsThree, InsertIsRefused, ReadIsTwo}
use Rattle.concurrent_lru.specs.Steps.{held_by_one, held_in_phase, one_more_pin, Hits, Holds, IsAbsent, Joins, Makes, Releases, Step, Stores}
use Rattle.concurrent_lru.specs.declared.refusal.Refusal.{Refusal}
use Rattle.concurrent_lru.specs.declared.refusal.Refusal.TheVariants.{Memory, Overflow, Stale, Full}
use Rattle.concurrent_lru.specs.declared.step.Inserted.{Inserted}
use Rattle.concurrent_lru.proofs.AddedUp.SizesOfSteps.{hit_size}
use Rattle.concurrent_lru.proofs.Entries.NodesOfSetAndAdd.{inserted_at}
use Rattle.concurrent_lru.proofs.Steps.InsertOfKey.{invalidated_absent}
use Rattle.concurrent_lru.proofs.Steps.LawfulAfterRest.{rested, sum-rested}
use Rattle.concurrent_lru.proofs.Steps.OneAnswer.{same_entry}

module _ {K V : Type 0} (E : K → K → Bool) (laws : IsEquivalence E) (old : Cache K V) (l : IsLawful E old) (k : K) where
  -- a begin on a key that was invalidated makes a new entry
  makes_new : (mid made : Cache K V) (charge s : ℕ) (evicted : List (Idle K V)) → IsAbsent E mid k → Step E mid (ask.begin k charge) (say.make s) evicted made → Makes E mid k charge s evicted made
  makes_new mid made charge s evicted absent (inl m) = m
  makes_new mid made charge s evicted absent (inr j) = absurd (true≢false (sym j.same_key ∙ absent s j.entry.key j.entry.charge (inr (j.entry, j.holds.at, refl, refl, j.found))))

  stores : (new : Cache K V) (charge : ℕ) (v : V) (s : ℕ) (replaced evicted : List (Idle K V)) → Replaces E old k charge v s replaced evicted new → Stores E old k charge v s (replaced ++ evicted) new
  stores new charge v s replaced evicted r = record {
    replaced = replaced;
    evicted = evicted;
    mid = r.0;
    made = r.2.0;
    invalidated = r.1;
    begun = makes_new r.0 r.2.0 charge s evicted (invalidated_absent E laws old l k r.0 replaced r.1) r.2.1;
    given = subst (λ c. Step E r.2.0 (ask.ready s v) say.done [] c) (sym r.2.2.2) r.2.2.1;
    both = refl;
  }

  -- a begin on an absent key is refused for a new entry alone
  refuses : (new : Cache K V) (charge : ℕ) (v : V) (e : Refusal) → RefusesToReplace E old k charge e new → Refuses E old (ask.insert k charge v) e
  refuses new charge v Overflow r =
      let absent = invalidated_absent E laws old l k r.mid r.replaced r.invalidated in
      elim r.refuses.0 [
        | inl h ↦ (r.mid, r.replaced, r.invalidated, h.1)
        | inr full ↦ absurd (true≢false (sym full.same_key ∙ absent full.stamp full.entry.key full.entry.charge (inr (full.entry, full.at, refl, refl, full.found))))
      ]
  refuses new charge v Memory r =
      let absent = invalidated_absent E laws old l k r.mid r.replaced r.invalidated in
      elim r.refuses.0 [
        | inl h ↦ (r.mid, r.replaced, r.invalidated, h.1)
        | inr hit ↦ elim hit [
          | inl h ↦ absurd (true≢false (sym h.4 ∙ absent h.0 h.1.key h.1.charge (inr (h.1, h.3.at, refl, refl, h.6))))
          | inr h ↦ absurd (true≢false (sym h.3 ∙ absent h.0 h.1.key h.1.charge (inl (h.1, h.2, refl, refl))))
        ]
      ]
  refuses new charge v Stale r = absurd r.refuses.0
  refuses new charge v Full r = absurd r.refuses.0

  pub insert_stands : {M S : Type 0} (seen : S → V) (new : Cache K V) (charge : ℕ) (v : V) (r : Result (Inserted K V M S) (Refusal × S)) → Inserts E old k charge v r new → Stands E old (ask.insert k charge v) (outcome_of_insert_by seen r) new
  insert_stands seen new charge v (Ok i) h = stores new charge v i.stamp i.replaced i.evicted h
  insert_stands seen new charge v (Err e) h = (refuses new charge v e.0 h, h.same)

  -- where the capacity has room, a strict insert is refused as one that is not strict
  refuses_strictly : (charge : ℕ) (v : V) (e : Refusal) → HasCapacityFor old charge → Refuses E old (ask.insert k charge v) e → Refuses E old (ask.insert_strictly k charge v) e
  refuses_strictly charge v Overflow has r = (has, r)
  refuses_strictly charge v Memory has r = (has, r)
  refuses_strictly charge v Stale has r = absurd r
  refuses_strictly charge v Full has r = absurd r

  pub insert_strictly_stands : {M S : Type 0} (seen : S → V) (new : Cache K V) (charge : ℕ) (v : V) (r : Result (Inserted K V M S) (Refusal × S)) → InsertsStrictly E old k charge v r new → Stands E old (ask.insert_strictly k charge v) (outcome_of_insert_by seen r) new
  insert_strictly_stands seen new charge v (Ok i) (inl h) = (h.0, stores new charge v i.stamp i.replaced i.evicted h.1)
  insert_strictly_stands seen new charge v (Err e) (inl h) = (refuses_strictly charge v e.0 h.0 (refuses new charge v e.0 h.1), h.1.same)
  insert_strictly_stands seen new charge v (Ok i) (inr h) = absurd h.1
  insert_strictly_stands seen new charge v (Err e) (inr h) = (subst (λ x. Refuses E old (ask.insert_strictly k charge v) x) (sym h.1) h.0, h.2)

  -- and the other way round
  refuses_once : (charge : ℕ) (e : Refusal) (mid : Cache K V) (gone : List (Idle K V)) → Step E old (ask.invalidate k) say.done gone mid → (IsAbsent E mid k → Refuses E mid (ask.begin k charge) e) → RefusesToReplace E old k charge e old
  refuses_once charge e mid gone step refusal = record { mid = mid; replaced = gone; invalidated = step; refuses = (refusal (invalidated_absent E laws old l k mid gone step), refl); same = refl }

  refuses_begin : (charge : ℕ) (v : V) (e : Refusal) → Refuses E old (ask.insert k charge v) e → RefusesToReplace E old k charge e old
  refuses_begin charge v Overflow h = refuses_once charge Overflow h.0 h.1 h.2 (λ absent. inl (absent, h.3))
  refuses_begin charge v Memory h = refuses_once charge Memory h.0 h.1 h.2 (λ absent. inl (absent, h.3))
  refuses_begin charge v Stale h = absurd h
  refuses_begin charge v Full h = absurd h

pub insert_is_three : (K V : Type 0) (E : K → K → Bool) → InsertIsThree K V E
insert_is_three K V E old new k charge s v out h = (h.replaced, h.evicted, h.both, (h.mid, h.invalidated, (h.made, inl h.begun, (new, h.given, refl))))

pub insert_is_refused : (K V : Type 0) (E : K → K → Bool) → IsEquivalence E → InsertIsRefused K V E
insert_is_refused K V E laws old k charge v e l h = refuses_begin E laws old l k charge v e h

pub read_is_two : (K V : Type 0) (E : K → K → Bool) → ReadIsTwo K V E
read_is_two K V E old new k s v out h = (h.none, (h.mid, h.found, (new, h.released, refl)))

module _ {K V : Type 0} (E : K → K → Bool) (old mid : Cache K V) (l : IsLawful E old) (k : K) (s : ℕ) (v : V) where
  -- the entry that a hit pinned is held
  hit_holds : Hits E old k s v [] mid → (e : Held K V) × Holds mid s e (ready v)
  hit_holds (inl j) =
      let e = held_in_phase (ready v) (one_more_pin j.entry) in
      (e, record { at = ap (λ c. held_at c s) j.changed ∙ inserted_at old.held s e; phase = refl })
  hit_holds (inr r) =
      let e = held_by_one r.entry in
      (e, record { at = ap (λ c. held_at c s) r.changed ∙ inserted_at old.held s e; phase = ap ready r.value })

  -- a cache that has an idle entry is within its capacity
  within : (x : Idle K V) → idle_at old s ≡ Some x → sum_of old ≤ old.capacity
  within x at = elim (cases_lt old.capacity (sum_of old)) [
    | inl above ↦ absurd (none-some x (sym (ap (λ xs. idle_at (record old { idle = xs }) s) (l.settled above)) ∙ at))
    | inr low ↦ low
  ]

  -- nothing need leave where the sum fits
  none_leave : (c new : Cache K V) (out : List (Idle K V)) → Settles c out new → sum_of c ≤ c.capacity → out ≡ []
  none_leave c new [] settles fits = refl
  none_leave c new (x ∷ out) settles fits = absurd (settles.front.shortest [] c.idle refl (omega arith) (inl (omega (arith, fits))))

  -- an entry that was held before the hit has another pin
  not_last : Joins E old k s (ready v) (ready v) [] mid → (e : Held K V) → held_at mid s ≡ Some e → e.pins ≡ 1 → ⊥
  unfolding hit_holds
  not_last j e at last =
      let is = same_entry E mid s e (held_in_phase (ready v) (one_more_pin j.entry)) at (hit_holds (inl j)).1.at in
      let pins : e.pins ≡ j.entry.pins + 1 = ap (λ x. x.pins) is in
      let some : 0 < j.entry.pins = (l.pinned s j.entry j.holds.at).0 in
      omega (arith, pins, some, last)

  -- where the hit is given back at once, nothing is evicted
  gives_back : (new : Cache K V) (out : List (Idle K V)) → Hits E old k s v [] mid → Releases E mid s out new → out ≡ []
  unfolding hit_holds
  gives_back new out hit (inl left) = left.1.none
  gives_back new out (inl j) (inr (inl r)) = absurd (not_last j r.entry r.holds.at r.last)
  gives_back new out (inl j) (inr (inr r)) = absurd (not_last j r.entry r.holds.at r.last)
  gives_back new out (inr h) (inr (inl r)) =
      let sums = hit_size {E = E} old mid k s v [] l (inr h) in
      let a : sum_of mid + 0 ≡ sum_of old + 0 = sums.charge in
      let b : sum_of (rested mid s r.entry r.value) ≡ sum_of mid = sum-rested mid s r.entry r.value r.holds.at in
      let c : mid.capacity ≡ old.capacity = ap (λ c. c.capacity) h.changed in
      let d : sum_of old ≤ old.capacity = within h.entry h.at in
      none_leave (rested mid s r.entry r.value) new out r.settles (omega (arith, a, b, c, d))
  gives_back new out (inr h) (inr (inr r)) =
      let is = same_entry E mid s r.entry (held_by_one h.entry) r.holds.at (hit_holds (inr h)).1.at in
      absurd (true≢false (sym r.lost ∙ ap (λ e. e.detached) is))

  released : (new : Cache K V) (r : Result (List (Idle K V)) Refusal) → Hits E old k s v [] mid → Stands E mid (ask.release s) (outcome_of_release r) new → Releases E mid s [] new
  released new (Ok out) hit h = subst (λ xs. Releases E mid s xs new) (gives_back new out hit h) h
  released new (Err Stale) hit h = let holds = hit_holds hit in absurd (h.0 holds.0 v holds.1)
  released new (Err Overflow) hit h = absurd h.0
  released new (Err Memory) hit h = absurd h.0
  released new (Err Full) hit h = absurd h.0

  -- a get that hits, and the release of its stamp
  pub read_stands : {S : Type 0} (seen : S → V) (new : Cache K V) (a : S) (r : Result (List (Idle K V)) Refusal) → seen a ≡ v → Hits E old k s v [] mid → Stands E mid (ask.release s) (outcome_of_release r) new
      → Stands E old (ask.read k) (outcome_of_read_by {K = K} seen (Ok (Some (s, a)))) new
  read_stands seen new a r is hit h = subst (λ w. Step E old (ask.read k) (say.read s w) [] new) (sym is) (record { mid = mid; found = hit; released = released new r hit h; none = refl })

  -- and what both write
  pub read_writes : (a b c : Counted K V) (r : Result (List (Idle K V)) Refusal) → b.work ≤ a.work + 1 → WritesAtMostOneMore b (outcome_of_release r) c → Hits E old k s v [] mid → Stands E mid (ask.release s) (outcome_of_release r) c.cache → c.work ≤ a.work + 2
  read_writes a b c (Ok out) first second hit h =
      let more : c.work ≤ b.work + 1 + length out = second in
      let none : length out ≡ 0 = ap length (gives_back c.cache out hit h) in
      omega (arith, first, more, none)
  read_writes a b c (Err e) first second hit h = let same : c.work ≡ b.work = second in omega (arith, first, same)
