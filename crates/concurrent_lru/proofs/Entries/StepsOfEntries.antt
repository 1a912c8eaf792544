-- The steps of a cache, from what happens to the entries of its table.
use Rattle.std.proofs.Common.{◌≡◌, ◌≢◌, ℕ, ◌+◌, ◌-◌, ◌<◌, ◌^◌, inl, inr, Bool, true, false, cond, List, [], ◌∷◌, ◌++◌, Option, Some, refl, sym, ap, ◌∙◌, subst, arith, ◌==◌}
use Rattle.std.specs.Prelude.{IsSome, is_some}
use Rattle.std.specs.List.{filter_map, cons_option}
use Rattle.std.specs.Ordering.{nat_cmp}
use Rattle.std.specs.Cmp.{IsEquivalence, nat_cmp_total}
use Rattle.std.specs.FinMap.{FinMap, get, insert, remove, get-insert, same_map, nat_cmp-IsAntisymmetric}
use Rattle.std.proofs.lemmas.Bool.{true≢false, eqb-true, eq-eqb}
use Rattle.std.proofs.lemmas.Option.{same_Some}
use Rattle.concurrent_lru.specs.Cache.{Phase, making, ready, Idle, Held, IsFront, Settles, idle_at}
use Rattle.concurrent_lru.specs.Steps.{ChangesPhase, Charges, held_in_phase, held_with_charge, held_detached, Departs, Ends, PinsAgain, Repins, Detaches, IsAbsent, Makes, Joins, Revives, Hits, Leaves, Removes, Rests, Drops, Invalidates, held_by_one, without, with_capacity}
use Rattle.concurrent_lru.specs.NodeTable.{Entry}
use Rattle.concurrent_lru.specs.Representation.{held_entry, as_idle}
use Rattle.concurrent_lru.specs.Entries.{Entries, cache_with, cache_of, charges_of, new_held, GetsAt, LeadsAt, ContainsHeldAt, EvictsAt, Rewrites, RevivesAt, RestsAt, held_with_pins}
use Rattle.concurrent_lru.specs.declared.node_table.Node.{Node}
use Rattle.concurrent_lru.specs.declared.node_table.memory.At.{At}
use Rattle.concurrent_lru.proofs.Steps.BeginOfAbsent.{as_idle-ready}
use Rattle.concurrent_lru.proofs.Entries.NodesOfSetAndAdd.{inserted_at}
use Rattle.concurrent_lru.proofs.Lists.DistinctEntries.{same}
use Rattle.concurrent_lru.proofs.Entries.EntryAtPlace.{seen_ready, stamp_is, idle_here}

put_over : {X : Type 0} (b : Bool) (v w : X) (o : Option X) → cond b (Some w) (cond b (Some v) o) ≡ cond b (Some w) o
put_over true v w o = refl
put_over false v w o = refl

-- the second insert under one stamp is the one that counts
pub insert_over : {X : Type 0} (m : FinMap nat_cmp X) (s : ℕ) (v w : X) → insert (insert m s v) s w ≡ insert m s w
insert_over m s v w = same_map nat_cmp_total nat_cmp-IsAntisymmetric _ _ (λ q.
    get-insert nat_cmp_total (insert m s v) s w q ∙ ap (cond (same q s) (Some w)) (get-insert nat_cmp_total m s v q) ∙ put_over (same q s) v w (get m q) ∙ sym (get-insert nat_cmp_total m s w q))

module _ {K V : Type 0} where
  -- an entry that is rewritten is held still
  pub still_held : {t u : Entries K V} {p : ℕ} {f : Held K V → Held K V} → Rewrites f t p u → ContainsHeldAt u p
  still_held {t} {u} {p} {f} w = (
    w.stamp,
    ap (λ x. get x.stamps p) w.changed ∙ w.at,
    ap (λ x. is_some (get x.held w.stamp)) w.changed ∙ ap is_some (inserted_at t.held w.stamp (f w.entry)),
  )

  -- and its node keeps its address
  pub still_leads : {t u : Entries K V} {p : ℕ} {f : Held K V → Held K V} {link : At (Node K V)} → Rewrites f t p u → LeadsAt t link p → LeadsAt u link p
  still_leads {t} {u} {p} w at = ap (λ x. get x.links p) w.changed ∙ at

module _ {K V : Type 0} {t : Entries K V} {p : ℕ} {e : Entry K V} (here : GetsAt t p e) (some : e.pins ≢ 0) where
  -- a held node rewritten, and once more
  rewritten : {u : Entries K V} {f : Held K V → Held K V} → Rewrites f t p u → u ≡ record t { held = insert t.held e.stamp (f (held_entry e)) }
  rewritten {u} {f} w =
      let stamp : w.stamp ≡ e.stamp = sym (stamp_is here w.stamp w.at) in
      let is : w.entry ≡ held_entry e = same_Some _ _ (sym w.held ∙ ap (get t.held) stamp ∙ here.held some) in
      w.changed ∙ (λ j. record t { held = insert t.held (stamp j) (f (is j)) })

  pub rewritten_twice : {mid u : Entries K V} {f g : Held K V → Held K V} → Rewrites f t p mid → Rewrites g mid p u → u ≡ record t { held = insert t.held e.stamp (g (f (held_entry e))) }
  rewritten_twice {mid} {u} {f} {g} w v =
      let first : mid ≡ record t { held = insert t.held e.stamp (f (held_entry e)) } = rewritten w in
      let stamp : v.stamp ≡ e.stamp = sym (stamp_is here v.stamp (sym (ap (λ x. get x.stamps p) first) ∙ v.at)) in
      let is : v.entry ≡ f (held_entry e) = same_Some _ _ (sym v.held ∙ ap (λ x. get x.held v.stamp) first ∙ ap (get (insert t.held e.stamp (f (held_entry e)))) stamp ∙ inserted_at t.held e.stamp (f (held_entry e))) in
      v.changed ∙ (λ j. record (first j) { held = insert (first j).held (stamp j) (g (is j)) })
      ∙ (λ j. record t { held = insert_over t.held e.stamp (f (held_entry e)) (g (f (held_entry e))) j })

  -- a write of the pins leaves the phase
  pinned : (u : Entries K V) (n : ℕ) (q : Phase V) → e.phase ≡ q → Rewrites (held_with_pins n) t p u → u ≡ record t { held = insert t.held e.stamp (held_in_phase q (held_with_pins n (held_entry e))) }
  pinned u n q phase w = rewritten w ∙ (λ j. record t { held = insert t.held e.stamp (record (held_entry e) { pins = n; phase = phase j }) })

module _ {K V : Type 0} (E : K → K → Bool) (capacity most next : ℕ) where
  pub makes : (old added new : Entries K V) (k copy : K) (charge : ℕ) (out : List (Idle K V))
      → IsAbsent E (cache_with capacity most next old) k → E copy k ≡ true → charges_of old + charge < 2 ^ 64 → next + 1 < 2 ^ 64
      → added.idle ≡ old.idle → added.held ≡ insert old.held next (new_held copy charge) → new.held ≡ added.held → IsFront (charges_of added) capacity added.idle out new.idle
      → Makes E (cache_with capacity most next old) k charge next out (cache_with capacity most (next + 1) new)
  makes old added new k copy charge out absent equal fits low idle held settled front = record {
    absent = absent;
    fits = (fits, low);
    stamp = refl;
    copy = copy;
    same_key = equal;
    settles = record {
      front = subst (λ (t : Entries K V). IsFront (charges_of t) capacity t.idle out new.idle) (λ j. record { idle = idle j; held = held j; stamps = added.stamps; links = added.links; work = added.work }) front;
      others = λ j. record { capacity = capacity; most_pins = most; next = next + 1; idle = new.idle; held = (settled ∙ held) j };
    };
  }

  -- all idle entries up to a front that suffices leave
  pub settles : (t u : Entries K V) (n : ℕ) (out : List (Idle K V)) → u.held ≡ t.held → IsFront (charges_of t) n t.idle out u.idle → Settles (with_capacity (cache_with capacity most next t) n) out (cache_with n most next u)
  settles t u n out held front = record { front = front; others = λ j. record { capacity = n; most_pins = most; next = next; idle = u.idle; held = held j } }

  module _ {t : Entries K V} {p : ℕ} {e : Entry K V} (here : GetsAt t p e) where
    -- begin on a held key
    pub joins : (u : Entries K V) (k : K) (a b : Phase V) → e.detached ≡ false → E e.key k ≡ true → e.pins ≢ 0 → e.pins < most → e.phase ≡ a → u ≡ record t { held = insert t.held e.stamp (held_in_phase b (held_with_pins (e.pins + 1) (held_entry e))) }
        → Joins E (cache_with capacity most next t) k e.stamp a b [] (cache_with capacity most next u)
    joins u k a b found equal some room phase is = record { entry = held_entry e; holds = record { at = here.held some; phase = phase }; found = found; same_key = equal; room = room; changed = ap (cache_with capacity most next) is; none = refl }

    pub joins_as_it_is : (u : Entries K V) (k : K) (q : Phase V) → e.detached ≡ false → E e.key k ≡ true → e.pins ≢ 0 → e.pins < most → e.phase ≡ q → Rewrites (held_with_pins (e.pins + 1)) t p u
        → Joins E (cache_with capacity most next t) k e.stamp q q [] (cache_with capacity most next u)
    joins_as_it_is u k q found equal some room phase w = joins u k q q found equal some room phase (pinned here some u (e.pins + 1) q phase w)

    -- begin or get on an idle key
    revives : (u : Entries K V) (k : K) (v : V) → E e.key k ≡ true → e.pins ≡ 0 → e.phase ≡ ready v → RevivesAt t p u → Revives E (cache_with capacity most next t) k e.stamp v [] (cache_with capacity most next u)
    revives u k v equal none phase w =
        let x : Idle K V = record { stamp = e.stamp; key = e.key; charge = e.charge; value = v } in
        let stamp : w.stamp ≡ e.stamp = sym (stamp_is here w.stamp w.at) in
        let is : w.entry ≡ x = same_Some _ _ (sym w.idle ∙ ap (idle_at (cache_of t)) stamp ∙ idle_here here v phase none) in
        record {
          entry = x;
          at = idle_here here v phase none;
          same_key = equal;
          value = refl;
          changed = ap (cache_with capacity most next) w.changed ∙ (λ j. record { capacity = capacity; most_pins = most; next = next; idle = without (stamp j) t.idle; held = insert t.held (stamp j) (held_by_one (is j)) });
          none = refl;
        }

    -- on a ready key
    pub hits : (u : Entries K V) (k : K) (v : V) → (e.pins ≢ 0 → e.detached ≡ false) → E e.key k ≡ true → e.pins < most → e.phase ≡ ready v → (e.pins ≡ 0 → RevivesAt t p u) → (e.pins ≢ 0 → Rewrites (held_with_pins (e.pins + 1)) t p u)
        → Hits E (cache_with capacity most next t) k e.stamp v [] (cache_with capacity most next u)
    hits u k v found equal room phase revived held = elim (e.pins == 0) as (λ b. (e.pins == 0) ≡ b → Hits E (cache_with capacity most next t) k e.stamp v [] (cache_with capacity most next u)) [
      | true ↦ λ b. let none = eqb-true e.pins 0 b in inr (revives u k v equal none phase (revived none))
      | false ↦ λ b.
          let some : e.pins ≢ 0 = λ none. true≢false (sym (eq-eqb e.pins 0 none) ∙ b) in
          inl (joins_as_it_is u k (ready v) (found some) equal some room phase (held some))
    ] refl

    -- repin
    pins_again : (u : Entries K V) (s : ℕ) (v : V) → get t.stamps p ≡ Some s → e.pins ≢ 0 → e.pins < most → e.phase ≡ ready v → Rewrites (held_with_pins (e.pins + 1)) t p u → PinsAgain E (cache_with capacity most next t) s v [] (cache_with capacity most next u)
    pins_again u s v at some room phase w =
        let stamp : e.stamp ≡ s = stamp_is here s at in
        record {
          entry = held_entry e;
          holds = record { at = ap (get t.held) (sym stamp) ∙ here.held some; phase = phase };
          room = room;
          changed = ap (cache_with capacity most next) (rewritten here some w) ∙ (λ j. record (cache_with capacity most next t) { held = insert t.held (stamp j) (held_with_pins (e.pins + 1) (held_entry e)) });
          none = refl;
        }

    pub repins : IsEquivalence E → (u : Entries K V) (s : ℕ) (v : V) → get t.stamps p ≡ Some s → e.pins < most → e.phase ≡ ready v → (e.pins ≡ 0 → RevivesAt t p u) → (e.pins ≢ 0 → Rewrites (held_with_pins (e.pins + 1)) t p u)
        → Repins E (cache_with capacity most next t) s v [] (cache_with capacity most next u)
    repins laws u s v at room phase revived held = elim (e.pins == 0) as (λ b. (e.pins == 0) ≡ b → Repins E (cache_with capacity most next t) s v [] (cache_with capacity most next u)) [
      | true ↦ λ b.
          let none = eqb-true e.pins 0 b in
          inr (e.key, subst (λ q. Revives E (cache_with capacity most next t) e.key q v [] (cache_with capacity most next u)) (stamp_is here s at) (revives u e.key v (laws.refl e.key) none phase (revived none)))
      | false ↦ λ b.
          let some : e.pins ≢ 0 = λ none. true≢false (sym (eq-eqb e.pins 0 none) ∙ b) in
          inl (pins_again u s v at some room phase (held some))
    ] refl

    -- poll and ready
    pub changes_phase : (u : Entries K V) (s : ℕ) (a q : Phase V) → get t.stamps p ≡ Some s → e.pins ≢ 0 → e.phase ≡ a → Rewrites (held_in_phase q) t p u → ChangesPhase E (cache_with capacity most next t) s a q [] (cache_with capacity most next u)
    changes_phase u s a q at some phase w =
        let stamp : e.stamp ≡ s = stamp_is here s at in
        record {
          entry = held_entry e;
          holds = record { at = ap (get t.held) (sym stamp) ∙ here.held some; phase = phase };
          changed = ap (cache_with capacity most next) (rewritten here some w) ∙ (λ j. record (cache_with capacity most next t) { held = insert t.held (stamp j) (held_in_phase q (held_entry e)) });
          none = refl;
        }

    -- ready_with, once the entry has another charge and its value
    pub charges : (mid given u : Entries K V) (s : ℕ) (v : V) (charge : ℕ) (out : List (Idle K V)) → get t.stamps p ≡ Some s → e.pins ≢ 0 → e.phase ≡ making → charges_of t + charge < 2 ^ 64 + e.charge
        → Rewrites (held_with_charge charge) t p mid → Rewrites (held_in_phase (ready v)) mid p given → u.held ≡ given.held → IsFront (charges_of given) capacity given.idle out u.idle
        → Charges E (cache_with capacity most next t) s v charge out (cache_with capacity most next u)
    charges mid given u s v charge out at some phase fits w x held front =
        let stamp : e.stamp ≡ s = stamp_is here s at in
        let changed : given ≡ record t { held = insert t.held s (held_in_phase (ready v) (held_with_charge charge (held_entry e))) } =
        rewritten_twice here some w x ∙ (λ j. record t { held = insert t.held (stamp j) (held_in_phase (ready v) (held_with_charge charge (held_entry e))) }) in
        record {
          entry = held_entry e;
          holds = record { at = ap (get t.held) (sym stamp) ∙ here.held some; phase = phase };
          fits = fits;
          settles = record {
            front = subst (λ (m : Entries K V). IsFront (charges_of m) capacity m.idle out u.idle) changed front;
            others = λ j. record { capacity = capacity; most_pins = most; next = next; idle = u.idle; held = (held ∙ ap (λ m. m.held) changed) j };
          };
        }

    -- fail and release with other pins left
    pub leaves : (u : Entries K V) (s : ℕ) (a b : Phase V) → get t.stamps p ≡ Some s → 1 < e.pins → e.phase ≡ a → u ≡ record t { held = insert t.held e.stamp (held_in_phase b (held_with_pins (e.pins - 1) (held_entry e))) }
        → Leaves E (cache_with capacity most next t) s a b [] (cache_with capacity most next u)
    leaves u s a b at others phase is =
        let stamp : e.stamp ≡ s = stamp_is here s at in
        record {
          entry = held_entry e;
          holds = record { at = ap (get t.held) (sym stamp) ∙ here.held (λ none. omega (arith, none, others)); phase = phase };
          others = omega (arith, others);
          changed = ap (cache_with capacity most next) is ∙ (λ j. record (cache_with capacity most next t) { held = insert t.held (stamp j) (held_in_phase b (held_with_pins (e.pins - 1) (held_entry e))) });
          none = refl;
        }

    pub leaves_as_it_is : (u : Entries K V) (s : ℕ) (q : Phase V) → get t.stamps p ≡ Some s → 1 < e.pins → e.phase ≡ q → Rewrites (held_with_pins (e.pins - 1)) t p u
        → Leaves E (cache_with capacity most next t) s q q [] (cache_with capacity most next u)
    leaves_as_it_is u s q at others phase w = leaves u s q q at others phase (pinned here (λ none. omega (arith, none, others)) u (e.pins - 1) q phase w)

    -- release of the last pin
    pub rests : (mid u : Entries K V) (s : ℕ) (out : List (Idle K V)) → get t.stamps p ≡ Some s → e.pins ≡ 1 → RestsAt t p mid → u.held ≡ mid.held → IsFront (charges_of mid) capacity mid.idle out u.idle
        → Rests E (cache_with capacity most next t) s out (cache_with capacity most next u)
    rests mid u s out at last w held front =
        let stamp : e.stamp ≡ s = stamp_is here s at in
        let known : w.was.stamp ≡ s = same_Some _ _ (sym w.was.at ∙ at) in
        let there : get t.held s ≡ Some (held_entry e) = ap (get t.held) (sym stamp) ∙ here.held (λ none. omega (arith, none, last)) in
        let is : w.was.entry ≡ held_entry e = same_Some _ _ (sym w.was.held ∙ ap (get t.held) known ∙ there) in
        let changed : mid ≡ record t { idle = t.idle ++ record { stamp = s; key = e.key; charge = e.charge; value = w.was.value } ∷ []; held = remove t.held s; work = t.work + 1 } =
        w.changed ∙ (λ j. record t { idle = t.idle ++ record { stamp = known j; key = (is j).key; charge = (is j).charge; value = w.was.value } ∷ []; held = remove t.held (known j); work = t.work + 1 }) in
        record {
          entry = held_entry e;
          value = w.was.value;
          holds = record { at = there; phase = ap (λ h. h.phase) (sym is) ∙ w.was.phase };
          found = ap (λ h. h.detached) (sym is) ∙ w.was.found;
          last = last;
          settles = record {
            front = subst (λ (m : Entries K V). IsFront (charges_of m) capacity m.idle out u.idle) changed front;
            others = λ j. record { capacity = capacity; most_pins = most; next = next; idle = u.idle; held = (held ∙ ap (λ m. m.held) changed) j };
          };
        }

    -- the last pin of an entry that leaves: the node d was taken away
    pub departs : (u : Entries K V) (s : ℕ) (v : V) (d : Entry K V) (out : List (Idle K V)) → get t.stamps p ≡ Some s → e.phase ≡ ready v → e.pins ≡ 1 → get t.stamps p ≡ Some d.stamp → get t.held d.stamp ≡ Some (held_entry d) → u.idle ≡ t.idle → u.held ≡ remove t.held d.stamp → out ≡ filter_map as_idle (d ∷ [])
        → Departs E (cache_with capacity most next t) s out (cache_with capacity most next u)
    departs u s v d out at phase last taken entry idle held one =
        let stamp : d.stamp ≡ s = same_Some _ _ (sym taken ∙ at) in
        let is : held_entry d ≡ held_entry e = same_Some _ _ (sym entry ∙ ap (get t.held) (sym (stamp_is here d.stamp taken)) ∙ here.held (λ none. omega (arith, none, last))) in
        let is_ready : d.phase ≡ ready v = ap (λ h. h.phase) is ∙ phase in
        record {
          entry = held_entry d;
          value = v;
          holds = record { at = ap (get t.held) (sym stamp) ∙ entry; phase = is_ready };
          last = ap (λ h. h.pins) is ∙ last;
          changed = λ j. record { capacity = capacity; most_pins = most; next = next; idle = idle j; held = (held ∙ ap (remove t.held) stamp) j };
          one = one ∙ ap (λ o. cons_option o []) (as_idle-ready d v is_ready) ∙ (λ j. record { stamp = stamp j; key = d.key; charge = d.charge; value = v } ∷ []);
        }

    -- release of the last pin of a detached one
    pub ends : (u : Entries K V) (s : ℕ) (v : V) (d : Entry K V) (out : List (Idle K V)) → get t.stamps p ≡ Some s → e.phase ≡ ready v → e.detached ≡ true → e.pins ≡ 1 → get t.stamps p ≡ Some d.stamp → get t.held d.stamp ≡ Some (held_entry d) → u.idle ≡ t.idle → u.held ≡ remove t.held d.stamp → out ≡ filter_map as_idle (d ∷ [])
        → Ends E (cache_with capacity most next t) s out (cache_with capacity most next u)
    ends u s v d out at phase lost last taken entry idle held one =
        let r = departs u s v d out at phase last taken entry idle held one in
        let is : r.entry ≡ held_entry e = same_Some _ _ (sym r.holds.at ∙ ap (get t.held) (sym (stamp_is here s at)) ∙ here.held (λ none. omega (arith, none, last))) in
        record { entry = r.entry; value = r.value; holds = r.holds; lost = ap (λ h. h.detached) is ∙ lost; last = r.last; changed = r.changed; one = r.one }

    -- invalidate on a held key
    pub detaches : (u : Entries K V) (k : K) → e.detached ≡ false → E e.key k ≡ true → e.pins ≢ 0 → Rewrites held_detached t p u → Detaches E (cache_with capacity most next t) k [] (cache_with capacity most next u)
    detaches u k found equal some w = record { stamp = e.stamp; entry = held_entry e; at = here.held some; found = found; same_key = equal; changed = ap (cache_with capacity most next) (rewritten here some w); none = refl }

    -- fail of the last pin: the node d was taken away
    pub removes : (u : Entries K V) (s : ℕ) (d : Entry K V) → get t.stamps p ≡ Some s → e.phase ≡ making → e.pins ≡ 1 → get t.stamps p ≡ Some d.stamp → get t.held d.stamp ≡ Some (held_entry d) → u.idle ≡ t.idle → u.held ≡ remove t.held d.stamp
        → Removes E (cache_with capacity most next t) s d.key [] (cache_with capacity most next u)
    removes u s d at phase last taken entry idle held =
        let stamp : d.stamp ≡ s = same_Some _ _ (sym taken ∙ at) in
        let is : held_entry d ≡ held_entry e = same_Some _ _ (sym entry ∙ ap (get t.held) (sym (stamp_is here d.stamp taken)) ∙ here.held (λ none. omega (arith, none, last))) in
        record {
          entry = held_entry d;
          holds = record { at = ap (get t.held) (sym stamp) ∙ entry; phase = ap (λ h. h.phase) is ∙ phase };
          last = ap (λ h. h.pins) is ∙ last;
          key = refl;
          changed = λ j. record { capacity = capacity; most_pins = most; next = next; idle = idle j; held = (held ∙ ap (remove t.held) stamp) j };
          none = refl;
        }

    -- advice_evict on an idle key: the node d was taken away
    pub drops : (u : Entries K V) (k : K) (d : Entry K V) (out : List (Idle K V)) → E e.key k ≡ true → e.pins ≡ 0 → get t.stamps p ≡ Some d.stamp → IsSome (as_idle d) → idle_at (cache_of t) d.stamp ≡ as_idle d → u.idle ≡ without d.stamp t.idle → u.held ≡ t.held → out ≡ filter_map as_idle (d ∷ [])
        → Drops E (cache_with capacity most next t) k out (cache_with capacity most next u)
    drops u k d out equal none taken idle entry cut held one =
        let r = seen_ready d idle in
        let x : Idle K V = record { stamp = d.stamp; key = d.key; charge = d.charge; value = r.0 } in
        let at : idle_at (cache_of t) d.stamp ≡ Some x = entry ∙ as_idle-ready d r.0 r.1 in
        let s = seen_ready e (here.idle none).0 in
        let key : d.key ≡ e.key = ap (λ y. y.key) (same_Some _ _ (sym at ∙ ap (idle_at (cache_of t)) (sym (stamp_is here d.stamp taken)) ∙ idle_here here s.0 s.1 none)) in
        record {
          stamp = d.stamp;
          entry = x;
          at = at;
          same_key = ap (λ y. E y k) key ∙ equal;
          changed = λ j. record { capacity = capacity; most_pins = most; next = next; idle = cut j; held = held j };
          one = one ∙ ap (λ o. cons_option o []) (as_idle-ready d r.0 r.1);
        }

    drops_at : (u : Entries K V) (k : K) (out : List (Idle K V)) → E e.key k ≡ true → e.pins ≡ 0 → EvictsAt t p out u → Drops E (cache_with capacity most next t) k out (cache_with capacity most next u)
    drops_at u k out equal none w =
        let s = seen_ready e (here.idle none).0 in
        let key : w.entry.key ≡ e.key = ap (λ y. y.key) (same_Some _ _ (sym w.idle ∙ ap (idle_at (cache_of t)) (sym (stamp_is here w.stamp w.at)) ∙ idle_here here s.0 s.1 none)) in
        record {
          stamp = w.stamp;
          entry = w.entry;
          at = w.idle;
          same_key = ap (λ y. E y k) key ∙ equal;
          changed = λ j. record { capacity = capacity; most_pins = most; next = next; idle = w.left j; held = w.held j };
          one = w.one;
        }

    -- invalidate on a key that finds the entry
    pub invalidates : (u : Entries K V) (k : K) (out : List (Idle K V)) → E e.key k ≡ true → (e.pins ≢ 0 → e.detached ≡ false) → (e.pins ≡ 0 → EvictsAt t p out u) → (e.pins ≢ 0 → Rewrites held_detached t p u × (out ≡ []))
        → Invalidates E (cache_with capacity most next t) k out (cache_with capacity most next u)
    invalidates u k out equal found evicted detached = elim (e.pins == 0) as (λ b. (e.pins == 0) ≡ b → Invalidates E (cache_with capacity most next t) k out (cache_with capacity most next u)) [
      | true ↦ λ b. let none = eqb-true e.pins 0 b in inl (drops_at u k out equal none (evicted none))
      | false ↦ λ b.
          let some : e.pins ≢ 0 = λ none. true≢false (sym (eq-eqb e.pins 0 none) ∙ b) in
          let d = detached some in
          inr (inl (subst (λ o. Detaches E (cache_with capacity most next t) k o (cache_with capacity most next u)) (sym d.1) (detaches u k (found some) equal some d.0)))
    ] refl
