-- What each step does to the ready values.
use Rattle.std.proofs.Common.{◌≡◌, ◌≢◌, ℕ, ◌⊎◌, inl, inr, Bool, true, false, cond, List, [], ◌∷◌, Option, Some, None, Result, Ok, Err, refl, sym, ap, ◌∙◌, subst, arith}
use Rattle.std.specs.List.{Contains, find, filter}
use Rattle.std.specs.FinMap as finmap
use Rattle.std.specs.Ordering.{nat_cmp}
use Rattle.std.specs.Prelude.{IfOk, IfErr, IfSome, OnOk, OnErr}
use Rattle.std.specs.declared.sync.Arc.{Arc}
use Rattle.std.specs.declared.alloc.Global.{Global}
use Rattle.std.specs.Cmp.{IsEquivalence}
use Rattle.std.proofs.lemmas.Bool.{true≢false}
use Rattle.std.proofs.lemmas.Option.{none-some, same_Some}
use Rattle.std.proofs.lemmas.List.Elements.{Contains-append_left, Contains-append_right, Contains-append_cases, Contains-push_cases}
use Rattle.concurrent_lru.specs.Cache.{Cache, empty_cache, Idle, Held, Phase, making, untaken, ready, held_at, HasKeyAt, IsLawful, LacksStamp, Settles}
use Rattle.concurrent_lru.specs.Ready.{EqualKeysFit, HasReady, ReadyFor, FewerReady, OneMoreReady, HasEqualKeyAt, ValuesFit}
use Rattle.concurrent_lru.specs.Reply as say
use Rattle.concurrent_lru.specs.Request as ask
use Rattle.concurrent_lru.specs.Results.{outcome_of_begin, outcome_of_poll, outcome_of_ready, outcome_of_get, outcome_of_release, outcome_of_repin, begun_without_hint, found_without_hint}
use Rattle.concurrent_lru.specs.Runs.{Outcome, accepted, refused, Refuses, Stands}
use Rattle.concurrent_lru.specs.Steps.{with_capacity, with_held, without_held, without, one_more_pin, one_pin_less, held_in_phase, held_by_one, idle_again, Makes, Joins, Revives, Hits, ChangesPhase, Charges, Leaves, Removes, Rests, Drops, ReleasesAndEvicts, Repins, InvalidatesAt, held_detached}
use Rattle.concurrent_lru.specs.ThreadedCalls.{IfHit}
use Rattle.concurrent_lru.specs.declared.refusal.Refusal.{Refusal}
use Rattle.concurrent_lru.specs.declared.refusal.Refusal.TheVariants.{Stale}
use Rattle.concurrent_lru.specs.declared.step.Begun.{Begun}
use Rattle.concurrent_lru.specs.declared.step.Begun.TheVariants as rust
use Rattle.concurrent_lru.specs.declared.table.spot.Hint.{Hint}
use Rattle.concurrent_lru.proofs.Entries.NodesOfSetAndAdd.{inserted_cases}
use Rattle.concurrent_lru.proofs.Lists.Removals.{removed_some}
use Rattle.concurrent_lru.proofs.Steps.ChargeOfMaking.{given}

module _ {X : Type 0} where
  contains_more : (x y : X) (xs : List X) → Contains xs y → Contains (x ∷ xs) y
  contains_more x y xs h = Contains-append_right (x ∷ []) xs y h

  contains_first : (x : X) (xs : List X) → Contains (x ∷ xs) x
  contains_first x xs = (0, omega arith, refl)

  pub contains_found : (p : X → Bool) (xs : List X) (x : X) → find p xs ≡ Some x → Contains xs x
  contains_found p [] x h = absurd (none-some x h)
  contains_found p (y ∷ xs) x h =
      elim (p y) as (λ t. cond t (Some y) (find p xs) ≡ Some x → Contains (y ∷ xs) x) [
        | true ↦ λ k. subst (Contains (y ∷ xs)) (same_Some _ _ k) (contains_first y xs)
        | false ↦ λ k. contains_more y x xs (contains_found p xs x k)
      ] h

  contains_filtered : (p : X → Bool) (xs : List X) (y : X) → Contains (filter p xs) y → Contains xs y
  contains_filtered p [] y h = h
  contains_filtered p (x ∷ xs) y h =
      elim (p x) as (λ t. Contains (cond t (x ∷ filter p xs) (filter p xs)) y → Contains (x ∷ xs) y) [
        | true ↦ λ k. elim (Contains-append_cases (x ∷ []) (filter p xs) y k) [
          | inl a ↦ Contains-append_left (x ∷ []) xs y a
          | inr b ↦ contains_more x y xs (contains_filtered p xs y b)
        ]
        | false ↦ λ k. contains_more x y xs (contains_filtered p xs y k)
      ] h

module _ {V : Type 0} where
  unready_making : (v : V) {A : Type 0} → making ≡ ready v → A
  unready_making v h = cc

  unready_untaken : (v : V) {A : Type 0} → untaken ≡ ready v → A
  unready_untaken v h = cc

  same_ready : (v w : V) → ready v ≡ ready w → v ≡ w
  same_ready v w h = cc

module _ {K V : Type 0} where
  -- the changes that steps are made of
  fewer_same : (old new : Cache K V) → new ≡ old → FewerReady old new
  fewer_same old new e = subst (FewerReady old) (sym e) (λ k v h. h)

  fewer_settled : (old new : Cache K V) (out : List (Idle K V)) → Settles old out new → FewerReady old new
  fewer_settled old new out s k v h = elim h [
    | inl i ↦ inl (i.0, subst (λ xs. Contains xs i.0) (sym s.front.parts) (Contains-append_right out new.idle i.0 i.1), i.2, i.3)
    | inr e ↦ inr (e.0, e.1, sym (ap (λ c. held_at c e.0) s.others) ∙ e.2, e.3, e.4)
  ]

  fewer_dropped : (c : Cache K V) (s : ℕ) → FewerReady c (record c { idle = without s c.idle })
  fewer_dropped c s k v h = elim h [
    | inl i ↦ inl (i.0, contains_filtered _ c.idle i.0 i.1, i.2, i.3)
    | inr e ↦ inr e
  ]

  fewer_without : (c : Cache K V) (s : ℕ) → FewerReady c (without_held c s)
  fewer_without c s k v h = elim h [
    | inl i ↦ inl i
    | inr e ↦ inr (e.0, e.1, (removed_some c.held s e.0 e.1 e.2).1, e.3, e.4)
  ]

  -- a held entry is written: what is ready then was ready, or is the one written
  one_written : (c : Cache K V) (s : ℕ) (f : Held K V) (k : K) (v : V) → HasReady (with_held c s f) k v → HasReady c k v ⊎ ((f.key ≡ k) × (f.phase ≡ ready v))
  one_written c s f k v h = elim h [
    | inl i ↦ inl (inl i)
    | inr e ↦ elim (inserted_cases c.held s e.0 f e.1 e.2) [
      | inl w ↦ inr (sym (ap (λ x. x.key) w.1) ∙ e.3, sym (ap (λ x. x.phase) w.1) ∙ e.4)
      | inr was ↦ inl (inr (e.0, e.1, was, e.3, e.4))
    ]
  ]

  -- it keeps its key, and is ready only with what it was ready with
  fewer_written : (c : Cache K V) (s : ℕ) (e f : Held K V) → held_at c s ≡ Some e → f.key ≡ e.key → ((v : V) → f.phase ≡ ready v → e.phase ≡ ready v) → FewerReady c (with_held c s f)
  fewer_written c s e f at key phase k v h = elim (one_written c s f k v h) [
    | inl was ↦ was
    | inr is ↦ inr (s, e, at, sym key ∙ is.0, phase v is.1)
  ]

module _ {K V : Type 0} (E : K → K → Bool) where
  -- the cases of a step
  makes_fewer : (old new : Cache K V) (k : K) (charge s : ℕ) (out : List (Idle K V)) → Makes E old k charge s out new → FewerReady old new
  makes_fewer old new k charge s out m key v h =
      elim (one_written old s (record { key = m.copy; charge = charge; pins = 1; detached = false; phase = making }) key v (fewer_settled _ new out m.settles key v h)) [
        | inl was ↦ was
        | inr is ↦ unready_making v is.1
      ]

  joins_fewer : (old new : Cache K V) (k : K) (s : ℕ) (p q : Phase V) (out : List (Idle K V)) → ((v : V) → q ≡ ready v → p ≡ ready v) → Joins E old k s p q out new → FewerReady old new
  joins_fewer old new k s p q out same j = subst (FewerReady old) (sym j.changed) (fewer_written old s j.entry (held_in_phase q (one_more_pin j.entry)) j.holds.at refl (λ v h. j.holds.phase ∙ same v h))

  revives_fewer : (old new : Cache K V) (k : K) (s : ℕ) (v : V) (out : List (Idle K V)) → Revives E old k s v out new → FewerReady old new
  revives_fewer old new k s v out r key w h = elim (subst (λ c. HasReady c key w) r.changed h) [
    | inl i ↦ inl (i.0, contains_filtered _ old.idle i.0 i.1, i.2, i.3)
    | inr e ↦ elim (one_written old s (held_by_one r.entry) key w (inr e)) [
      | inl was ↦ was
      | inr is ↦ inl (r.entry, contains_found _ old.idle r.entry r.at, is.0, same_ready r.entry.value w is.1)
    ]
  ]

  hits_fewer : (old new : Cache K V) (k : K) (s : ℕ) (v : V) (out : List (Idle K V)) → Hits E old k s v out new → FewerReady old new
  hits_fewer old new k s v out h = elim h [
    | inl j ↦ joins_fewer old new k s (ready v) (ready v) out (λ w e. e) j
    | inr r ↦ revives_fewer old new k s v out r
  ]

  changes_phase_fewer : (old new : Cache K V) (s : ℕ) (p q : Phase V) (out : List (Idle K V)) → ((v : V) → q ≡ ready v → p ≡ ready v) → ChangesPhase E old s p q out new → FewerReady old new
  changes_phase_fewer old new s p q out same t = subst (FewerReady old) (sym t.changed) (fewer_written old s t.entry (held_in_phase q t.entry) t.holds.at refl (λ v h. t.holds.phase ∙ same v h))

  changes_phase_one_more : (old new : Cache K V) (s : ℕ) (v : V) (out : List (Idle K V)) → ChangesPhase E old s making (ready v) out new → OneMoreReady old s v new
  changes_phase_one_more old new s v out t key w h =
      elim (one_written old s (held_in_phase (ready v) t.entry) key w (subst (λ c. HasReady c key w) t.changed h)) [
        | inl was ↦ inl was
        | inr is ↦ inr (sym (same_ready v w is.1), (t.entry.charge, inr (t.entry, t.holds.at, is.0, refl)))
      ]

  charges_one_more : (old new : Cache K V) (s : ℕ) (v : V) (charge : ℕ) (out : List (Idle K V)) → Charges E old s v charge out new → OneMoreReady old s v new
  charges_one_more old new s v charge out t key w h =
      elim (one_written old s (given v charge t.entry) key w (fewer_settled _ new out t.settles key w h)) [
        | inl was ↦ inl was
        | inr is ↦ inr (sym (same_ready v w is.1), (t.entry.charge, inr (t.entry, t.holds.at, is.0, refl)))
      ]

  leaves_fewer : (old new : Cache K V) (s : ℕ) (p q : Phase V) (out : List (Idle K V)) → ((v : V) → q ≡ ready v → p ≡ ready v) → Leaves E old s p q out new → FewerReady old new
  leaves_fewer old new s p q out same l = subst (FewerReady old) (sym l.changed) (fewer_written old s l.entry (held_in_phase q (one_pin_less l.entry)) l.holds.at refl (λ v h. l.holds.phase ∙ same v h))

  removes_fewer : (old new : Cache K V) (s : ℕ) (k : K) (out : List (Idle K V)) → Removes E old s k out new → FewerReady old new
  removes_fewer old new s k out r = subst (FewerReady old) (sym r.changed) (fewer_without old s)

  rests_fewer : (old new : Cache K V) (s : ℕ) (out : List (Idle K V)) → Rests E old s out new → FewerReady old new
  rests_fewer old new s out r key w h = elim (fewer_settled _ new out r.settles key w h) [
    | inl i ↦ elim (Contains-push_cases old.idle (idle_again s r.entry r.value) i.0 i.1) [
      | inl a ↦ inl (i.0, a, i.2, i.3)
      | inr is ↦ inr (s, r.entry, r.holds.at, ap (λ x. x.key) is ∙ i.2, r.holds.phase ∙ ap ready (ap (λ x. x.value) is ∙ i.3))
    ]
    | inr e ↦ fewer_without old s key w (inr e)
  ]

  drops_fewer : (old new : Cache K V) (k : K) (out : List (Idle K V)) → Drops E old k out new → FewerReady old new
  drops_fewer old new k out d = subst (FewerReady old) (sym d.changed) (fewer_dropped old d.stamp)

  -- the requests: none but ready makes more ready
  begin_fewer : (old new : Cache K V) (k : K) (charge : ℕ) (o : Outcome K V) → Stands E old (ask.begin k charge) o new → FewerReady old new
  begin_fewer old new k charge (accepted (say.make s) out) (inl m) = makes_fewer old new k charge s out m
  begin_fewer old new k charge (accepted (say.make s) out) (inr j) = joins_fewer old new k s untaken making out (λ v e. unready_making v e) j
  begin_fewer old new k charge (accepted (say.wait s) out) j = joins_fewer old new k s making making out (λ v e. e) j
  begin_fewer old new k charge (accepted (say.hit s v) out) h = hits_fewer old new k s v out h
  begin_fewer old new k charge (accepted reply out) h = absurd h
  begin_fewer old new k charge (refused e) h = fewer_same old new h.1

  poll_fewer : (old new : Cache K V) (s : ℕ) (o : Outcome K V) → Stands E old (ask.poll s) o new → FewerReady old new
  poll_fewer old new s (accepted (say.make t) out) h = changes_phase_fewer old new s untaken making out (λ v e. unready_making v e) h.1
  poll_fewer old new s (accepted (say.wait t) out) h = changes_phase_fewer old new s making making out (λ v e. e) h.1
  poll_fewer old new s (accepted (say.hit t v) out) h = changes_phase_fewer old new s (ready v) (ready v) out (λ w e. e) h.1
  poll_fewer old new s (accepted reply out) h = absurd h
  poll_fewer old new s (refused e) h = fewer_same old new h.1

  fail_fewer : (old new : Cache K V) (s : ℕ) (o : Outcome K V) → Stands E old (ask.fail s) o new → FewerReady old new
  fail_fewer old new s (accepted say.left out) l = leaves_fewer old new s making untaken out (λ v e. unready_untaken v e) l
  fail_fewer old new s (accepted (say.removed k) out) r = removes_fewer old new s k out r
  fail_fewer old new s (accepted reply out) h = absurd h
  fail_fewer old new s (refused e) h = fewer_same old new h.1

  get_fewer : (old new : Cache K V) (k : K) (o : Outcome K V) → Stands E old (ask.get k) o new → FewerReady old new
  get_fewer old new k (accepted (say.hit s v) out) h = hits_fewer old new k s v out h
  get_fewer old new k (accepted say.missed out) h = fewer_same old new h.1.same
  get_fewer old new k (accepted reply out) h = absurd h
  get_fewer old new k (refused e) h = fewer_same old new h.1

  release_fewer : (old new : Cache K V) (s : ℕ) (o : Outcome K V) → Stands E old (ask.release s) o new → FewerReady old new
  release_fewer old new s (accepted say.done out) (inl l) = leaves_fewer old new s (ready l.0) (ready l.0) out (λ v e. e) l.1
  release_fewer old new s (accepted say.done out) (inr (inl r)) = rests_fewer old new s out r
  release_fewer old new s (accepted say.done out) (inr (inr r)) = subst (FewerReady old) (sym r.changed) (fewer_without old s)
  release_fewer old new s (accepted reply out) h = absurd h
  release_fewer old new s (refused e) h = fewer_same old new h.1

  releases_and_evicts_fewer : (old new : Cache K V) (s : ℕ) (out : List (Idle K V)) → ReleasesAndEvicts E old s out new → FewerReady old new
  releases_and_evicts_fewer old new s out (inl l) = leaves_fewer old new s (ready l.0) (ready l.0) out (λ v e. e) l.1
  releases_and_evicts_fewer old new s out (inr r) = subst (FewerReady old) (sym r.changed) (fewer_without old s)

  repins_fewer : (old new : Cache K V) (s : ℕ) (v : V) (out : List (Idle K V)) → Repins E old s v out new → FewerReady old new
  repins_fewer old new s v out (inl j) = subst (FewerReady old) (sym j.changed) (fewer_written old s j.entry (one_more_pin j.entry) j.holds.at refl (λ w h. h))
  repins_fewer old new s v out (inr r) = revives_fewer old new r.0 s v out r.1

  repin_fewer : (old new : Cache K V) (s : ℕ) (r : Result (Arc V Global) Refusal) → Stands E old (ask.repin s) (outcome_of_repin r) new → FewerReady old new
  repin_fewer old new s (Ok a) h = repins_fewer old new s a.value [] h
  repin_fewer old new s (Err e) h = fewer_same old new h.1

  release_and_evict_fewer : (old new : Cache K V) (s : ℕ) (r : Result (List (Idle K V)) Refusal) → Stands E old (ask.release_and_evict s) (outcome_of_release r) new → FewerReady old new
  release_and_evict_fewer old new s (Ok out) h = releases_and_evicts_fewer old new s out h
  release_and_evict_fewer old new s (Err e) h = fewer_same old new h.1

  advice_evict_fewer : (old new : Cache K V) (k : K) (out : List (Idle K V)) → Stands E old (ask.advice_evict k) (accepted say.done out) new → FewerReady old new
  advice_evict_fewer old new k out (inl d) = drops_fewer old new k out d
  advice_evict_fewer old new k out (inr h) = fewer_same old new h.1.same

  invalidate_fewer : (old new : Cache K V) (k : K) (out : List (Idle K V)) → Stands E old (ask.invalidate k) (accepted say.done out) new → FewerReady old new
  invalidate_fewer old new k out (inl d) = drops_fewer old new k out d
  invalidate_fewer old new k out (inr (inl d)) = subst (FewerReady old) (sym d.changed) (fewer_written old d.stamp d.entry (held_detached d.entry) d.at refl (λ v h. h))
  invalidate_fewer old new k out (inr (inr h)) = fewer_same old new h.1.same

  prune_fewer : (old new : Cache K V) (out : List (Idle K V)) → Stands E old ask.prune (accepted say.done out) new → FewerReady old new
  prune_fewer old new out h = subst (FewerReady old) (sym h.1) (λ k v r. elim r [
    | inl i ↦ absurd (omega (arith, i.1.1))
    | inr e ↦ inr e
  ])

  set_capacity_fewer : (old new : Cache K V) (capacity : ℕ) (out : List (Idle K V)) → Stands E old (ask.set_capacity capacity) (accepted say.done out) new → FewerReady old new
  set_capacity_fewer old new capacity out h = fewer_settled (with_capacity old capacity) new out h

  -- a hit's value is ready under a key equal to the one asked
  pub hits_ready : (old new : Cache K V) (k : K) (s : ℕ) (v : V) (out : List (Idle K V)) → Hits E old k s v out new → ReadyFor E old k v
  hits_ready old new k s v out h = elim h [
    | inl j ↦ (j.entry.key, j.same_key, inr (s, j.entry, j.holds.at, refl, j.holds.phase))
    | inr r ↦ (r.entry.key, r.same_key, inl (r.entry, contains_found _ old.idle r.entry r.at, refl, r.value))
  ]

  -- an entry has one key
  pub one_key : (c : Cache K V) (s : ℕ) (k l : K) → IsLawful E c → HasKeyAt c s k → HasKeyAt c s l → k ≡ l
  one_key c s k l lawful a b = elim a.1 [
    | inl i ↦ elim b.1 [
      | inl j ↦ sym i.2 ∙ ap (λ x. x.key) (same_Some _ _ (sym i.1 ∙ j.1)) ∙ j.2
      | inr e ↦ absurd (none-some e.0 (sym (lawful.held_apart s i.0 i.1) ∙ e.1))
    ]
    | inr e ↦ elim b.1 [
      | inl j ↦ absurd (none-some e.0 (sym (lawful.held_apart s j.0 j.1) ∙ e.1))
      | inr f ↦ sym e.2 ∙ ap (λ x. x.key) (same_Some _ _ (sym e.1 ∙ f.1)) ∙ f.2
    ]
  ]

  -- what the key that key_of answers says of another key
  pub equal_key_at : (c d : Cache K V) (s : ℕ) (own k : K) → c ≡ d → HasKeyAt c s own → E own k ≡ true → HasEqualKeyAt E d s k
  equal_key_at c d s own k is at same = subst (λ x. HasEqualKeyAt E x s k) is (own, at, same)

  pub other_key_at : (c d : Cache K V) (s : ℕ) (own k : K) → c ≡ d → IsLawful E c → HasKeyAt c s own → E own k ≡ false → HasEqualKeyAt E d s k → ⊥
  other_key_at c d s own k is lawful at other h =
      let found = subst (λ x. HasEqualKeyAt E x s k) (sym is) h in
      true≢false (sym found.2 ∙ ap (λ x. E x k) (one_key c s found.0 own lawful found.1 at) ∙ other)

  pub no_key_at : (c d : Cache K V) (s : ℕ) (k : K) → c ≡ d → LacksStamp c s → HasEqualKeyAt E d s k → ⊥
  no_key_at c d s k is lacks h =
      let found = subst (λ x. HasEqualKeyAt E x s k) (sym is) h in
      lacks found.0 found.1.0 found.1.1

  -- where it is not done, the value came back
  pub keyed_no_entry : (old new : Cache K V) (s : ℕ) (k : K) (a : Arc V Global) (r : Result (Unit {0}) (Arc V Global)) → OnOk r (HasEqualKeyAt E old s k) → OnErr r (new ≡ old) → IfErr r (λ b. b ≡ a) → (HasEqualKeyAt E old s k → ⊥) → (r ≡ Err a) × (new ≡ old)
  keyed_no_entry old new s k a (Ok x) keyed same back none = absurd (none keyed)
  keyed_no_entry old new s k a (Err b) keyed same back none = (ap Err back, same)

  polled_ready : (old new : Cache K V) (s : ℕ) (k : K) (v : V) (out : List (Idle K V)) → IsLawful E old → HasEqualKeyAt E old s k → ChangesPhase E old s (ready v) (ready v) out new → ReadyFor E old k v
  polled_ready old new s k v out lawful at t =
      let same : at.0 ≡ t.entry.key = one_key old s at.0 t.entry.key lawful at.1 (t.entry.charge, inr (t.entry, t.holds.at, refl, refl)) in
      (at.0, at.2, inr (s, t.entry, t.holds.at, sym same, t.holds.phase))

  -- a refusal of these requests is not that of a stamp
  pub begin_never_stale : (old new : Cache K V) (k : K) (charge : ℕ) (r : Result (Begun (Arc V Global) × List (Idle K V) × Hint) Refusal) → Stands E old (ask.begin k charge) (outcome_of_begin (begun_without_hint r)) new → IfErr r (λ e. e ≢ Stale)
  begin_never_stale old new k charge (Ok x) h = tt
  begin_never_stale old new k charge (Err e) h = λ is. subst (λ x. Refuses E old (ask.begin k charge) x) is h.0

  module _ (fits : K → V → Type 0) where
    kept_fewer : (old new : Cache K V) → FewerReady old new → ValuesFit fits old → ValuesFit fits new
    kept_fewer old new fewer kept k v h = kept k v (fewer k v h)

    pub kept_for : (c : Cache K V) (k : K) (v : V) → EqualKeysFit E fits → ValuesFit fits c → ReadyFor E c k v → fits k v
    kept_for c k v law kept r = law r.0 k v r.1 (kept r.0 v r.2)

    -- so the values stay fit
    pub begin_kept : (old new : Cache K V) (k : K) (charge : ℕ) (o : Outcome K V) → Stands E old (ask.begin k charge) o new → ValuesFit fits old → ValuesFit fits new
    begin_kept old new k charge o h = kept_fewer old new (begin_fewer old new k charge o h)

    pub poll_kept : (old new : Cache K V) (s : ℕ) (o : Outcome K V) → Stands E old (ask.poll s) o new → ValuesFit fits old → ValuesFit fits new
    poll_kept old new s o h = kept_fewer old new (poll_fewer old new s o h)

    pub fail_kept : (old new : Cache K V) (s : ℕ) (o : Outcome K V) → Stands E old (ask.fail s) o new → ValuesFit fits old → ValuesFit fits new
    fail_kept old new s o h = kept_fewer old new (fail_fewer old new s o h)

    pub get_kept : (old new : Cache K V) (k : K) (o : Outcome K V) → Stands E old (ask.get k) o new → ValuesFit fits old → ValuesFit fits new
    get_kept old new k o h = kept_fewer old new (get_fewer old new k o h)

    pub release_kept : (old new : Cache K V) (s : ℕ) (o : Outcome K V) → Stands E old (ask.release s) o new → ValuesFit fits old → ValuesFit fits new
    release_kept old new s o h = kept_fewer old new (release_fewer old new s o h)

    pub release_and_evict_kept : (old new : Cache K V) (s : ℕ) (r : Result (List (Idle K V)) Refusal) → Stands E old (ask.release_and_evict s) (outcome_of_release r) new → ValuesFit fits old → ValuesFit fits new
    release_and_evict_kept old new s r h = kept_fewer old new (release_and_evict_fewer old new s r h)

    pub repin_kept : (old new : Cache K V) (s : ℕ) (r : Result (Arc V Global) Refusal) → Stands E old (ask.repin s) (outcome_of_repin r) new → ValuesFit fits old → ValuesFit fits new
    repin_kept old new s r h = kept_fewer old new (repin_fewer old new s r h)

    pub advice_evict_kept : (old new : Cache K V) (k : K) (out : List (Idle K V)) → Stands E old (ask.advice_evict k) (accepted say.done out) new → ValuesFit fits old → ValuesFit fits new
    advice_evict_kept old new k out h = kept_fewer old new (advice_evict_fewer old new k out h)

    pub invalidate_kept : (old new : Cache K V) (k : K) (out : List (Idle K V)) → Stands E old (ask.invalidate k) (accepted say.done out) new → ValuesFit fits old → ValuesFit fits new
    invalidate_kept old new k out h = kept_fewer old new (invalidate_fewer old new k out h)

    pub invalidate_at_kept : (old new : Cache K V) (s : ℕ) (out : List (Idle K V)) → InvalidatesAt E old s out new → ValuesFit fits old → ValuesFit fits new
    invalidate_at_kept old new s out (inl h) kept = invalidate_kept old new h.0 out h.3 kept
    invalidate_at_kept old new s out (inr h) kept = subst (ValuesFit fits) (sym h.1.same) kept

    pub prune_kept : (old new : Cache K V) (out : List (Idle K V)) → Stands E old ask.prune (accepted say.done out) new → ValuesFit fits old → ValuesFit fits new
    prune_kept old new out h = kept_fewer old new (prune_fewer old new out h)

    pub set_capacity_kept : (old new : Cache K V) (capacity : ℕ) (out : List (Idle K V)) → Stands E old (ask.set_capacity capacity) (accepted say.done out) new → ValuesFit fits old → ValuesFit fits new
    set_capacity_kept old new capacity out h = kept_fewer old new (set_capacity_fewer old new capacity out h)

    ready_kept : (old new : Cache K V) (s : ℕ) (k : K) (v : V) (o : Outcome K V) → IsEquivalence E → EqualKeysFit E fits → IsLawful E old → HasEqualKeyAt E old s k → fits k v → Stands E old (ask.ready s v) o new → ValuesFit fits old → ValuesFit fits new
    ready_kept old new s k v (accepted say.done out) eq law lawful at fit h kept = λ key w r. elim (changes_phase_one_more old new s v out h key w r) [
      | inl was ↦ kept key w was
      | inr is ↦
          let own : at.0 ≡ key = one_key old s at.0 key lawful at.1 is.1 in
          subst (fits key) (sym is.0) (law k key v (ap (E k) (sym own) ∙ eq.symm k at.0 ∙ at.2) fit)
    ]
    ready_kept old new s k v (accepted reply out) eq law lawful at fit h kept = absurd h
    ready_kept old new s k v (refused e) eq law lawful at fit h kept = kept_fewer old new (fewer_same old new h.1) kept

    pub ready_with_kept : (old new : Cache K V) (s : ℕ) (k : K) (v : V) (charge : ℕ) (o : Outcome K V) → IsEquivalence E → EqualKeysFit E fits → IsLawful E old → HasEqualKeyAt E old s k → fits k v → Stands E old (ask.ready_with s v charge) o new → ValuesFit fits old → ValuesFit fits new
    ready_with_kept old new s k v charge (accepted say.done out) eq law lawful at fit h kept = λ key w r. elim (charges_one_more old new s v charge out h key w r) [
      | inl was ↦ kept key w was
      | inr is ↦
          let own : at.0 ≡ key = one_key old s at.0 key lawful at.1 is.1 in
          subst (fits key) (sym is.0) (law k key v (ap (E k) (sym own) ∙ eq.symm k at.0 ∙ at.2) fit)
    ]
    ready_with_kept old new s k v charge (accepted reply out) eq law lawful at fit h kept = absurd h
    ready_with_kept old new s k v charge (refused e) eq law lawful at fit h kept = kept_fewer old new (fewer_same old new h.1) kept

    -- where it is done only under a stamp whose entry has the key, the values fit whether it is
    -- done or not
    pub keyed_kept : (old new : Cache K V) (s : ℕ) (k : K) (v : V) (r : Result (Unit {0}) (Arc V Global)) → IsEquivalence E → EqualKeysFit E fits → IsLawful E old → fits k v → OnOk r (HasEqualKeyAt E old s k) → OnErr r (new ≡ old)
        → (HasEqualKeyAt E old s k → Stands E old (ask.ready s v) (outcome_of_ready r) new) → ValuesFit fits old → ValuesFit fits new
    keyed_kept old new s k v (Ok x) eq law lawful fit keyed same stands kept = ready_kept old new s k v (accepted say.done []) eq law lawful keyed fit (stands keyed) kept
    keyed_kept old new s k v (Err a) eq law lawful fit keyed same stands kept = subst (ValuesFit fits) (sym same) kept

    -- and a value that a request answers fits the key asked
    pub begin_hit : (old new : Cache K V) (k : K) (charge : ℕ) (r : Result (Begun (Arc V Global) × List (Idle K V) × Hint) Refusal) → EqualKeysFit E fits → ValuesFit fits old → Stands E old (ask.begin k charge) (outcome_of_begin (begun_without_hint r)) new → IfOk r (λ x. IfHit x.0 (fits k))
    begin_hit old new k charge (Ok (rust.Make s, out, p)) law kept h = tt
    begin_hit old new k charge (Ok (rust.Wait s, out, p)) law kept h = tt
    begin_hit old new k charge (Ok (rust.Hit s a, out, p)) law kept h = kept_for old k a.value law kept (hits_ready old new k s a.value out h)
    begin_hit old new k charge (Err e) law kept h = tt

    pub get_hit : (old new : Cache K V) (k : K) (r : Result (Option (ℕ × Arc V Global × Hint)) Refusal) → EqualKeysFit E fits → ValuesFit fits old → Stands E old (ask.get k) (outcome_of_get (found_without_hint r)) new → IfOk r (λ found. IfSome found (λ x. fits k x.1.value))
    get_hit old new k (Ok None) law kept h = tt
    get_hit old new k (Ok (Some x)) law kept h = kept_for old k x.1.value law kept (hits_ready old new k x.0 x.1.value [] h)
    get_hit old new k (Err e) law kept h = tt

    pub poll_hit : (old new : Cache K V) (s : ℕ) (k : K) (r : Result (Begun (Arc V Global)) Refusal) → EqualKeysFit E fits → IsLawful E old → ValuesFit fits old → HasEqualKeyAt E old s k → Stands E old (ask.poll s) (outcome_of_poll r) new → IfOk r (λ x. IfHit x (fits k))
    poll_hit old new s k (Ok (rust.Make t)) law lawful kept at h = tt
    poll_hit old new s k (Ok (rust.Wait t)) law lawful kept at h = tt
    poll_hit old new s k (Ok (rust.Hit t a)) law lawful kept at h = kept_for old k a.value law kept (polled_ready old new s k a.value [] lawful at h.1)
    poll_hit old new s k (Err e) law lawful kept at h = tt

    pub empty_kept : (capacity most next : ℕ) → ValuesFit fits (empty_cache capacity most next)
    empty_kept capacity most next k v h = elim h [
      | inl i ↦ absurd (omega (arith, i.1.1))
      | inr e ↦ absurd (none-some e.1 (sym (finmap.get-empty nat_cmp e.0) ∙ e.2))
    ]
