-- The node at a place that an entry has.
use Rattle.std.proofs.Common.{◌≡◌, ◌≢◌, ℕ, inr, List, [], ◌∷◌, ◌++◌, Option, Bool, true, false, Some, None, refl, sym, ap, ◌∙◌, subst, ◌==◌}
use Rattle.std.specs.Prelude.{IsSome, is_some, slice_get}
use Rattle.std.specs.FinMap.{get, keys}
use Rattle.std.proofs.lemmas.Bool.{true≢false, eqb-true, eq-eqb, ne_eqb}
use Rattle.std.proofs.lemmas.Option.{none-some, same_Some}
use Rattle.concurrent_lru.specs.Cache.{Idle, Held, ready, idle_at, held_at}
use Rattle.concurrent_lru.specs.NodeTable.{Entry, NodeTable, entry_of, GetsNode}
use Rattle.concurrent_lru.specs.Representation.{as_idle, held_entry, held_in, idle_in, idle_at_place}
use Rattle.concurrent_lru.specs.Entries.{ContainsPlace, ContainsIdleAt, ContainsHeldAt, ContainsFoundAt, GetsAt, GetsNodeAt, IsReadyAt, ContainsNoStamp, cache_of, pins_at}
use Rattle.concurrent_lru.specs.declared.node_table.Node.{Node}
use Rattle.concurrent_lru.specs.declared.table.stamp_index.StampIndex.{StampIndex}
use Rattle.concurrent_lru.specs.Indexes.{IsStored, entries_of}
use Rattle.concurrent_lru.proofs.Entries.NodesOfSetAndAdd.{held_in-get, held_in-found}
use Rattle.concurrent_lru.proofs.Lists.Members.{IsIn, in_self}
use Rattle.concurrent_lru.proofs.Steps.BeginOfAbsent.{found_idle, idle_in-get, as_idle-ready}
use Rattle.std.specs.List.{filter_map, cons_option}
use Rattle.std.specs.Option.{option_and_then, option_map, option_map_or}
use Rattle.concurrent_lru.specs.Steps.{without}
use Rattle.concurrent_lru.proofs.Entries.SumsOfCharges.{stamps_apart, first_out}
use Rattle.concurrent_lru.proofs.Entries.PlacesOfNodes.{get_stamps}

module _ {K V : Type 0} where
  pub record IsNodeAt (t : NodeTable K V) (p s : ℕ) : Type 0 where
    pub entry : Entry K V
    pub at : get t.nodes p ≡ Some entry
    pub stamp : entry.stamp ≡ s

first_in : (xs : List ℕ) (p : ℕ) → slice_get xs 0 ≡ Some p → IsIn p xs
first_in [] p h = absurd (none-some p h)
first_in (x ∷ xs) p h = subst (λ q. IsIn q (x ∷ xs)) (same_Some x p h) (in_self x xs)

first_rest : (xs : List ℕ) (p : ℕ) → slice_get xs 0 ≡ Some p → (ys : List ℕ) × (xs ≡ p ∷ ys)
first_rest [] p h = absurd (none-some p h)
first_rest (x ∷ xs) p h = (xs, ap (λ y. y ∷ xs) (same_Some x p h))

pub no_first : (xs : List ℕ) → slice_get xs 0 ≡ None → xs ≡ []
no_first [] h = refl
no_first (x ∷ xs) h = absurd (none-some x (sym h))

pub some_of : {A : Type 0} (o : Rattle.std.proofs.Common.Option A) → IsSome o → (x : A) × (o ≡ Some x)
some_of None h = absurd (true≢false (sym h))
some_of (Some x) h = (x, refl)

module _ {K V : Type 0} {C : K → K → Type 0} {E : K → K → Bool} {H : K → ℕ} {t : NodeTable K V} {by_stamp : StampIndex} (r : IsStored C E H t by_stamp) where
  node_of : (p s : ℕ) → get (entries_of t).stamps p ≡ Some s → IsNodeAt t p s
  node_of p s h = elim (get t.nodes p) as (λ o. get t.nodes p ≡ o → option_map (λ x. x.stamp) o ≡ Some s → IsNodeAt t p s) [
    | None ↦ λ at k. absurd (none-some s k)
    | Some e ↦ λ at k. record { entry = e; at = at; stamp = same_Some _ _ k }
  ] refl (sym (get_stamps t.nodes p) ∙ h)

  pub has_node : (p : ℕ) → ContainsPlace (entries_of t) p → IsSome (get t.nodes p)
  has_node p h = ap is_some (node_of p h.0 h.1).at

  pub some_node : (p : ℕ) → ContainsPlace (entries_of t) p → (e : Entry K V) × (get t.nodes p ≡ Some e)
  some_node p h = let n = node_of p h.0 h.1 in (n.entry, n.at)

  -- the stamp of a node has its place
  pub place_at : (p : ℕ) (e : Entry K V) → get t.nodes p ≡ Some e → get (entries_of t).stamps p ≡ Some e.stamp
  place_at p e h = get_stamps t.nodes p ∙ ap (option_map (λ x. x.stamp)) h

  -- a held one
  pub held_node : (p : ℕ) (e : Entry K V) → ContainsHeldAt (entries_of t) p → get t.nodes p ≡ Some e → (e.pins == 0) ≡ false
  held_node p e h at =
      let n = node_of p h.0 h.1 in
      let o = some_of (held_at (cache_of (entries_of t)) h.0) h.2 in
      let f = held_in-found t (keys t.nodes) h.0 o.0 o.1 in
      let here : f.place ≡ p = r.represents.stamps f.place p f.entry n.entry f.at n.at (f.stamp ∙ sym n.stamp) in
      ap (λ y. y.pins == 0) (same_Some _ _ (sym at ∙ sym (ap (get t.nodes) here) ∙ f.at)) ∙ f.pinned

  pub held_found : (p : ℕ) (e : Entry K V) → get t.nodes p ≡ Some e → (e.pins == 0) ≡ false → held_at (cache_of (entries_of t)) e.stamp ≡ Some (held_entry e)
  held_found p e at h = held_in-get t (keys t.nodes) p e r.represents at h

  -- an idle one
  pub idle_node : (p : ℕ) → ContainsIdleAt (entries_of t) p → IsIn p t.idle
  idle_node p h =
      let n = node_of p h.0 h.1 in
      let o = some_of (idle_at (cache_of (entries_of t)) h.0) h.2 in
      let f = found_idle t h.0 o.0 t.idle (λ q m. m) o.1 in
      let w = r.represents.idle_ready f.place f.«in» in
      let x_is : Some (record { stamp = f.entry.stamp; key = f.entry.key; charge = f.entry.charge; value = w.1 }) ≡ Some o.0 =
      sym (as_idle-ready f.entry w.1 (ap (λ y. y.phase) (same_Some _ _ (sym f.at ∙ w.2)) ∙ w.4)) ∙ f.idle in
      let stamp : f.entry.stamp ≡ n.entry.stamp = ap (λ x. x.stamp) (same_Some _ _ x_is) ∙ eqb-true o.0.stamp h.0 f.stamp ∙ sym n.stamp in
      subst (λ q. IsIn q t.idle) (r.represents.stamps f.place p f.entry n.entry f.at n.at stamp) f.«in»

  pub idle_found : (p : ℕ) (e : Entry K V) → get t.nodes p ≡ Some e → IsIn p t.idle → IsSome (as_idle e) × (idle_at (cache_of (entries_of t)) e.stamp ≡ as_idle e)
  idle_found p e at m =
      let w = r.represents.idle_ready p m in
      let ph = ap (λ y. y.phase) (same_Some _ _ (sym at ∙ w.2)) ∙ w.4 in
      let is = as_idle-ready e w.1 ph in
      (ap is_some is, idle_in-get 0 0 0 t (keys t.nodes) p e w.1 r.represents at m ph ∙ sym is)

  pub node_is_at : (p : ℕ) (e : Entry K V) → get t.nodes p ≡ Some e → GetsAt (entries_of t) p e
  node_is_at p e at = record {
    at = place_at p e at;
    idle = λ z. idle_found p e at (r.represents.resting p e at z);
    held = λ n. held_found p e at (ne_eqb e.pins 0 n);
  }

  -- what a node that is idle is like, and one that is held and ready
  pub idle_like : (p : ℕ) (e : Entry K V) → get t.nodes p ≡ Some e → IsIn p t.idle → (v : V) × (e.pins ≡ 0) × (e.phase ≡ ready v)
  idle_like p e at m =
      let w = r.represents.idle_ready p m in
      let is : w.0 ≡ e = same_Some _ _ (sym w.2 ∙ at) in
      (w.1, ap (λ y. y.pins) (sym is) ∙ w.3, ap (λ y. y.phase) (sym is) ∙ w.4)

  pub ready_like : (p : ℕ) (e : Entry K V) → (h : IsReadyAt (entries_of t) p) → get t.nodes p ≡ Some e → ((e.pins == 0) ≡ false) × (e.phase ≡ ready h.value)
  ready_like p e h at =
      let n = node_of p h.stamp h.at in
      let stamp : e.stamp ≡ h.stamp = ap (λ y. y.stamp) (same_Some _ _ (sym at ∙ n.at)) ∙ n.stamp in
      let pinned = held_node p e (h.stamp, h.at, ap is_some h.held) at in
      let same : h.entry ≡ held_entry e = same_Some _ _ (sym h.held ∙ sym (ap (held_at (cache_of (entries_of t))) stamp) ∙ held_found p e at pinned) in
      (pinned, ap (λ y. y.phase) (sym same) ∙ h.phase)

  pub ready_found : (p : ℕ) (e : Entry K V) → IsReadyAt (entries_of t) p → get t.nodes p ≡ Some e → e.detached ≡ false
  ready_found p e h at =
      let n = node_of p h.stamp h.at in
      let stamp : e.stamp ≡ h.stamp = ap (λ y. y.stamp) (same_Some _ _ (sym at ∙ n.at)) ∙ n.stamp in
      let pinned = held_node p e (h.stamp, h.at, ap is_some h.held) at in
      let same : h.entry ≡ held_entry e = same_Some _ _ (sym h.held ∙ sym (ap (held_at (cache_of (entries_of t))) stamp) ∙ held_found p e at pinned) in
      ap (λ y. y.detached) (sym same) ∙ h.found

  -- a held one that is found by its key
  pub found_place : (p : ℕ) → ContainsFoundAt (entries_of t) p → ContainsHeldAt (entries_of t) p
  found_place p h = (h.0, h.1, ap is_some h.3)

  pub found_node : (p : ℕ) (e : Entry K V) → ContainsFoundAt (entries_of t) p → get t.nodes p ≡ Some e → e.detached ≡ false
  found_node p e h at =
      let n = node_of p h.0 h.1 in
      let stamp : e.stamp ≡ h.0 = ap (λ y. y.stamp) (same_Some _ _ (sym at ∙ n.at)) ∙ n.stamp in
      let pinned = held_node p e (found_place p h) at in
      let same : h.2 ≡ held_entry e = same_Some _ _ (sym h.3 ∙ sym (ap (held_at (cache_of (entries_of t))) stamp) ∙ held_found p e at pinned) in
      ap (λ y. y.detached) (sym same) ∙ h.4

  -- a stamp that no entry has is no held one's, nor is an idle one's
  pub unheld : (s : ℕ) → ContainsNoStamp (entries_of t) s → get (held_in t (keys t.nodes)) s ≡ None
  unheld s none = elim (get (held_in t (keys t.nodes)) s) as (λ o. get (held_in t (keys t.nodes)) s ≡ o → o ≡ None) [
    | None ↦ λ h. refl
    | Some h ↦ λ at. absurd (none h.key h.charge (inr (h, at, refl, refl)))
  ] refl

  pub idle_unheld : (p : ℕ) (e : Entry K V) → get t.nodes p ≡ Some e → IsIn p t.idle → get (held_in t (keys t.nodes)) e.stamp ≡ None
  idle_unheld p e at m = elim (get (held_in t (keys t.nodes)) e.stamp) as (λ o. get (held_in t (keys t.nodes)) e.stamp ≡ o → o ≡ None) [
    | None ↦ λ h. refl
    | Some h ↦ λ found.
        let f = held_in-found t (keys t.nodes) e.stamp h found in
        let here : f.place ≡ p = r.represents.stamps f.place p f.entry e f.at at f.stamp in
        let same : f.entry ≡ e = same_Some _ _ (sym f.at ∙ ap (get t.nodes) here ∙ at) in
        absurd (true≢false (sym (eq-eqb e.pins 0 (idle_like p e at m).1) ∙ ap (λ y. y.pins == 0) (sym same) ∙ f.pinned))
  ] refl

  -- the pins at a place, by what is held under its stamp
  pins_by : (p s : ℕ) (o : Option (Held K V)) → get (entries_of t).stamps p ≡ Some s → get (entries_of t).held s ≡ o → pins_at (entries_of t) p ≡ option_map_or (λ h. h.pins) o 0
  pins_by p s o at held = ap (λ n. option_map_or (λ i. option_map_or (λ h. h.pins) (get (entries_of t).held i) 0) n 0) at ∙ ap (λ n. option_map_or (λ h. h.pins) n 0) held

  -- they are its node's
  pub node_pins : (p : ℕ) (e : Entry K V) → get t.nodes p ≡ Some e → pins_at (entries_of t) p ≡ e.pins
  node_pins p e at = elim (e.pins == 0) as (λ b. (e.pins == 0) ≡ b → pins_at (entries_of t) p ≡ e.pins) [
    | true ↦ λ b. let none : e.pins ≡ 0 = eqb-true e.pins 0 b in pins_by p e.stamp None (place_at p e at) (idle_unheld p e at (r.represents.resting p e at none)) ∙ sym none
    | false ↦ λ b. pins_by p e.stamp (Some (held_entry e)) (place_at p e at) (held_found p e at b)
  ] refl

  -- a node is that of the entry at its place
  pub node_got : (p : ℕ) (n : Node K V) → GetsNode t p n → GetsNodeAt (entries_of t) p n
  node_got p n got = record { entry = node_is_at p (entry_of n) got.entry; pins = node_pins p (entry_of n) got.entry; alone = got.alone }

  -- the stamp of a place is its node's
  pub same_stamp : (p s : ℕ) (e : Entry K V) → get (entries_of t).stamps p ≡ Some s → get t.nodes p ≡ Some e → s ≡ e.stamp
  same_stamp p s e h at = let n = node_of p s h in sym n.stamp ∙ ap (λ y. y.stamp) (same_Some _ _ (sym n.at ∙ at))

  -- the oldest is an idle one, and the first that is shown
  pub oldest_idle : (p : ℕ) → slice_get t.idle 0 ≡ Some p → ContainsIdleAt (entries_of t) p
  oldest_idle p h =
      let m : IsIn p t.idle = first_in t.idle p h in
      let w = r.represents.idle_ready p m in
      let f = idle_found p w.0 w.2 m in
      (w.0.stamp, place_at p w.0 w.2, ap is_some f.1 ∙ f.0)

  pub oldest_out : (p s : ℕ) (o : Option (Idle K V)) → slice_get t.idle 0 ≡ Some p → get (entries_of t).stamps p ≡ Some s → idle_at (cache_of (entries_of t)) s ≡ o → idle_in t ≡ cons_option o [] ++ without s (idle_in t)
  oldest_out p s o h at is =
      let l = first_rest t.idle p h in
      let w = r.represents.idle_ready p (first_in t.idle p h) in
      let x : Idle K V = record { stamp = w.0.stamp; key = w.0.key; charge = w.0.charge; value = w.1 } in
      let shown : idle_in t ≡ x ∷ filter_map (idle_at_place t.nodes) l.0 =
      ap (filter_map (idle_at_place t.nodes)) l.1 ∙ ap (λ o. cons_option o (filter_map (idle_at_place t.nodes) l.0)) (ap (option_and_then as_idle) w.2 ∙ as_idle-ready w.0 w.1 w.4) in
      first_out (idle_in t) o s x (filter_map (idle_at_place t.nodes) l.0) shown (sym (same_stamp p s w.0 at w.2)) (stamps_apart t (keys t.nodes) r.represents) is
