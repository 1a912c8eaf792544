-- A key that was invalidated is absent, and what begins then is being made.
use Rattle.std.proofs.Common.{◌≡◌, ℕ, ◌+◌, ◌≤◌, ◌^◌, ◌⊎◌, inl, inr, Bool, true, false, List, [], Some, Result, Ok, Err, refl, sym, ap, ◌∙◌, subst, eqb}
use Rattle.std.specs.Cmp.{IsEquivalence}
use Rattle.std.specs.Result.{IsErrAnd}
use Rattle.std.specs.FinMap as finmap
use Rattle.std.proofs.lemmas.Bool.{true≢false, eqb-true, eq-eqb}
use Rattle.std.proofs.lemmas.Option.{none-some, same_Some}
use Rattle.concurrent_lru.specs.Cache.{Cache, Idle, Held, making, sum_of, held_at, IsFound, IsLawful}
use Rattle.concurrent_lru.specs.Steps.{IsAbsent, HasNumbers, Holds, Makes, Drops, Invalidates, Step, held_detached, held_in_phase, one_more_pin, with_held}
use Rattle.concurrent_lru.specs.Request as ask
use Rattle.concurrent_lru.specs.Reply as say
use Rattle.concurrent_lru.specs.Runs.{accepted, refused, Stands}
use Rattle.concurrent_lru.specs.Results.{outcome_of_ready_by, reply_of_begun_by}
use Rattle.concurrent_lru.specs.Inserts.{Remakes, Replaces, RefusesToReplace}
use Rattle.concurrent_lru.specs.declared.refusal.Refusal.{Refusal}
use Rattle.concurrent_lru.specs.declared.refusal.Refusal.TheVariants.{Memory, Overflow}
use Rattle.concurrent_lru.specs.declared.step.Begun.{Begun}
use Rattle.concurrent_lru.specs.declared.step.Begun.TheVariants as rust
use Rattle.concurrent_lru.specs.declared.table.spot.Spot.{Spot}
use Rattle.concurrent_lru.proofs.Entries.NodesOfSetAndAdd.{inserted_at, inserted_other}
use Rattle.concurrent_lru.proofs.Steps.LawfulAfterRevival.{find_without}

not_true : (b : Bool) → (b ≡ true → ⊥) → b ≡ false
not_true true h = absurd (h refl)
not_true false h = refl

module _ {K V : Type 0} (E : K → K → Bool) (eq : IsEquivalence E) (old : Cache K V) (l : IsLawful E old) (k : K) where
  alike : (a own : K) → E a k ≡ true → E own k ≡ true → E a own ≡ true
  alike a own same equal = eq.congr a k own same ∙ eq.symm k own ∙ equal

  pub detached_absent : (s : ℕ) (e : Held K V) → held_at old s ≡ Some e → e.detached ≡ false → E e.key k ≡ true → IsAbsent E (with_held old s (held_detached e)) k
  detached_absent s e at found equal t a m was = not_true (E a k) (λ same.
      let own : IsFound old s e.key e.charge = inr (e, at, refl, refl, found) in
      elim was [
        | inl i ↦
            let stamp : t ≡ s = l.one_entry t s a e.key m e.charge (inl i) own (alike a e.key same equal) in
            none-some e (sym (l.held_apart t i.0 i.1) ∙ ap (held_at old) stamp ∙ at)
        | inr h ↦ elim (eqb t s) as (λ b. eqb t s ≡ b → ⊥) [
          | true ↦ λ b.
              let is : h.0 ≡ held_detached e = same_Some _ _ (sym h.1 ∙ ap (finmap.get (finmap.insert old.held s (held_detached e))) (eqb-true t s b) ∙ inserted_at old.held s (held_detached e)) in
              true≢false (sym (ap (λ x. x.detached) is) ∙ h.4)
          | false ↦ λ b.
              let stamp : t ≡ s = l.one_entry t s a e.key m e.charge (inr (h.0, sym (inserted_other old.held s t (held_detached e) b) ∙ h.1, h.2, h.3, h.4)) own (alike a e.key same equal) in
              true≢false (sym (eq-eqb t s stamp) ∙ b)
        ] refl
      ])

  pub dropped_absent : (mid : Cache K V) (out : List (Idle K V)) → Drops E old k out mid → IsAbsent E mid k
  dropped_absent mid out d = subst (λ c. IsAbsent E c k) (sym d.changed) (λ t a m was. not_true (E a k) (λ same.
      let own : IsFound old d.stamp d.entry.key d.entry.charge = inl (d.entry, d.at, refl, refl) in
      elim was [
        | inl i ↦
            let w = find_without d.stamp t i.0 old.idle i.1 in
            w.1 (l.one_entry t d.stamp a d.entry.key m d.entry.charge (inl (i.0, w.0, i.2, i.3)) own (alike a d.entry.key same d.same_key))
        | inr h ↦
            let stamp : t ≡ d.stamp = l.one_entry t d.stamp a d.entry.key m d.entry.charge (inr h) own (alike a d.entry.key same d.same_key) in
            none-some h.0 (sym (l.held_apart d.stamp d.entry d.at) ∙ ap (held_at old) (sym stamp) ∙ h.1)
      ]))

  -- so a key is absent once it was invalidated
  pub invalidated_absent : (mid : Cache K V) (out : List (Idle K V)) → Invalidates E old k out mid → IsAbsent E mid k
  invalidated_absent mid out (inl d) = dropped_absent mid out d
  invalidated_absent mid out (inr (inl d)) = subst (λ c. IsAbsent E c k) (sym d.changed) (detached_absent d.stamp d.entry d.at d.found d.same_key)
  invalidated_absent mid out (inr (inr h)) = subst (λ c. IsAbsent E c k) (sym h.1.same) h.0

module _ {K V : Type 0} (E : K → K → Bool) {c : Cache K V} {k : K} (charge : ℕ) (absent : IsAbsent E c k) where
  -- how a begin on an absent key may be refused
  pub overflows : (2 ^ 64 ≤ sum_of c + charge) ⊎ (2 ^ 64 ≤ c.next + 1) → Stands E c (ask.begin k charge) (refused Overflow) c
  overflows end = (inl (absent, end), refl)

  pub lacks_memory : HasNumbers E c charge → Stands E c (ask.begin k charge) (refused Memory) c
  lacks_memory numbers = (inl (absent, numbers), refl)

  -- it makes a new entry
  pub begun_new : {S : Type 0} (seen : S → V) (b : Begun S) (out : List (Idle K V)) (new : Cache K V) → Step E c (ask.begin k charge) (reply_of_begun_by seen b) out new → Makes E c k charge c.next out new
  begun_new seen (rust.Make s) out new (inl m) = subst (λ t. Makes E c k charge t out new) m.stamp m
  begun_new seen (rust.Make s) out new (inr j) = absurd (true≢false (sym j.same_key ∙ absent s j.entry.key j.entry.charge (inr (j.entry, j.holds.at, refl, refl, j.found))))
  begun_new seen (rust.Wait s) out new j = absurd (true≢false (sym j.same_key ∙ absent s j.entry.key j.entry.charge (inr (j.entry, j.holds.at, refl, refl, j.found))))
  begun_new seen (rust.Hit s a) out new (inl j) = absurd (true≢false (sym j.same_key ∙ absent s j.entry.key j.entry.charge (inr (j.entry, j.holds.at, refl, refl, j.found))))
  begun_new seen (rust.Hit s a) out new (inr r) = absurd (true≢false (sym r.same_key ∙ absent s r.entry.key r.entry.charge (inl (r.entry, r.at, refl, refl))))

module _ {K V : Type 0} (E : K → K → Bool) {old c : Cache K V} {k : K} {charge s : ℕ} {out : List (Idle K V)} (m : Makes E old k charge s out c) where
  abbrev pub made : Held K V
  made = record { key = m.copy; charge = charge; pins = 1; detached = false; phase = making }

  -- the new entry is being made
  pub made_holds : Holds c s made making
  made_holds = record { at = ap (λ x. finmap.get x.held s) m.settles.others ∙ inserted_at old.held s made; phase = refl }

module _ {K V : Type 0} (E : K → K → Bool) where
  -- what a begin tells to make is being made
  pub begun_holds : (old c : Cache K V) (k : K) (charge s : ℕ) (out : List (Idle K V)) → Step E old (ask.begin k charge) (say.make s) out c → (e : Held K V) × Holds c s e making
  begun_holds old c k charge s out (inl m) = (made E m, made_holds E m)
  begun_holds old c k charge s out (inr j) =
      let own = held_in_phase making (one_more_pin j.entry) in
      (own, record { at = ap (λ x. finmap.get x.held s) j.changed ∙ inserted_at old.held s own; phase = refl })

  -- so its value is stored
  pub stored_at_once : {S : Type 0} (seen : S → V) (c : Cache K V) (s : ℕ) (v : V) (r : Result (Unit {0}) S) (new : Cache K V) → (e : Held K V) × Holds c s e making → Stands E c (ask.ready s v) (outcome_of_ready_by seen r) new → Stands E c (ask.ready s v) (accepted say.done []) new
  stored_at_once seen c s v (Ok x) new holds h = h
  stored_at_once seen c s v (Err a) new holds h = absurd (h.0 holds.0 holds.1)

  -- An insert without its value, and then the value.
  pub replaces : {S : Type 0} (seen : S → V) (old c new : Cache K V) (k : K) (charge : ℕ) (v : V) (m : Spot × List (Idle K V) × List (Idle K V)) (r : Result (Unit {0}) S) → Remakes E old k charge (Ok m) c → Stands E c (ask.ready m.0.stamp v) (outcome_of_ready_by seen r) new
      → Replaces E old k charge v m.0.stamp m.1 m.2 new
  replaces seen old c new k charge v m r w stores = (w.0, w.1, (c, w.2, (new, stored_at_once seen c m.0.stamp v r new (begun_holds w.0 c k charge m.0.stamp m.2 w.2) stores, refl)))

  -- what an answer with `?` tells of a refusal
  pub remade_refused : (old new : Cache K V) (k : K) (charge : ℕ) (r : Result (Spot × List (Idle K V) × List (Idle K V)) Refusal) (x : Refusal) → IsErrAnd r (λ e. e ≡ x) → RefusesToReplace E old k charge x new → Remakes E old k charge r new
  remade_refused old new k charge (Ok _) x h w = absurd h
  remade_refused old new k charge (Err e) x h w = subst (λ y. RefusesToReplace E old k charge y new) (sym h) w
