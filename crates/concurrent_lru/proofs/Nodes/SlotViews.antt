-- What the slots show: the node at a place, whether it is idle, and what an insert, a write and a
-- removal do to both.
use Rattle.std.proofs.Common.{◌≡◌, ◌≢◌, ℕ, List, [], ◌∷◌, map, Option, Some, None, refl, sym, ap, ◌∙◌, subst, arith, ◌≤◌, IsSome, inl, inr, Bool, eqb}
use Rattle.std.proofs.Common.{is_some}
use Rattle.std.specs.List.{list_any}
use Rattle.std.proofs.lemmas.Bool.{cases_eq}
use Rattle.std.proofs.lemmas.Option.{same_Some}
use Rattle.std.specs.FinMap as fin
use denote.RawPtr.{Ptr}
use Rattle.concurrent_lru.specs.declared.node_table.Node.{Node}
use Rattle.concurrent_lru.specs.declared.node_table.links.Order.{Order}
use Rattle.concurrent_lru.specs.declared.node_table.slots.Slots.{Slots}
use Rattle.concurrent_lru.specs.Cells.{cell_at, ptr_in, slot_at, AtFirst}
use Rattle.concurrent_lru.specs.SlotPointers.{IsTied, ptr_of, place_in, cells_of, HasNode, LeadsTo, KeepsOthers}
use Rattle.concurrent_lru.specs.Order.{Link, link, first_or, last_or, Absent, Linked, IsOrder}
use Rattle.concurrent_lru.specs.Slots.{map_of_slots}
use Rattle.concurrent_lru.specs.NodeTable.{NodeTable, Entry, entry_of, hash_of}
use Rattle.concurrent_lru.specs.Relinks.{NodeCell, NodeCells, slot_in, before_in, after_in, before_at, after_at}
use Rattle.concurrent_lru.specs.SlotTable.{IsWhole, link_of, link_at, entry_in, entry_at, idle_places, idle_of, nodes_of, node_table_of, IsGood, AreGood, IsEnd, IsWellLinked, Lists}
use Rattle.concurrent_lru.specs.SlotWrites.{OnlyWrites, OnlyLooksAndWrites, Rewrites, RewritesLink}
use Rattle.concurrent_lru.specs.Listing.{unless, listing_in, hash_in, KeepsListings, spare_of}
use Rattle.concurrent_lru.specs.Probing.Entries.{entry}
use Rattle.concurrent_lru.specs.Probing.OpenTable.{mark_of}
use Rattle.concurrent_lru.proofs.Nodes.Listings.{looked_keeps, listed_kept}
use Rattle.concurrent_lru.proofs.Lists.SlotsAsMaps.{map_of_slots_at, made_insert, made_remove, made_same}
use Rattle.concurrent_lru.proofs.Order.Links.{Same, linked_same}
use Rattle.concurrent_lru.specs.NodeTable.{update_at}
use Rattle.std.specs.List.{IsDistinct}
use Rattle.std.specs.Option.{option_map_or}
use Rattle.slab.specs.Slab.{get}
use Rattle.concurrent_lru.proofs.Memory.CellSlots.{slot_of_held, value_at_slot, slots_kept}
use Rattle.concurrent_lru.proofs.Order.Appending.{some_cell, distinct, read, link_told_at, links_same, get_or-map_option, table_looked}
use Rattle.concurrent_lru.proofs.Order.TakingOut.{present_in}

-- the place is not the slot
abbrev pub NotSlot : ℕ → Option ℕ → Type 0
NotSlot slot w = (z : ℕ) → w ≡ Some z → z ≢ slot

first_not : (slot : ℕ) (ks : List ℕ) (e : Option ℕ) → Absent slot ks → NotSlot slot e → NotSlot slot (first_or ks e)
first_not slot [] e a h = h
first_not slot (k ∷ ks) e a h = λ z is eq. let same : k ≡ z = cc in a.0 (sym eq ∙ sym same)

last_not : (slot : ℕ) (b : Option ℕ) (ks : List ℕ) → Absent slot ks → NotSlot slot b → NotSlot slot (last_or b ks)
last_not slot b [] a h = h
last_not slot b (k ∷ ks) a h = last_not slot (Some k) ks a.1 (λ z is eq. let same : k ≡ z = cc in a.0 (sym eq ∙ sym same))

module _ {K V : Type 0} where
  node_is : (o : Order K V) (w : ℕ) (k : ℕ) → fin.get (node_table_of o w).nodes k ≡ entry_at o k
  node_is o w k = map_of_slots_at (map entry_in (cells_of o.slots)) k ∙ get_or-map_option entry_in refl (cells_of o.slots) k

  hash_is : (o : Order K V) (w : ℕ) (k : ℕ) → fin.get (node_table_of o w).hashes k ≡ hash_in (cell_at (cells_of o.slots) k)
  hash_is o w k = map_of_slots_at (map hash_in (cells_of o.slots)) k ∙ get_or-map_option hash_in refl (cells_of o.slots) k

  module _ (o : Order K V) (w : ℕ) (v : NodeTable K V) (e : node_table_of o w ≡ v) where
    pub node_had : (k p : ℕ) → k ≡ p → fin.get v.nodes p ≡ entry_at o k
    node_had k p f = (λ i. fin.get (sym e i).nodes (sym f i)) ∙ node_is o w k

    present_cases : (x : Option (NodeCell K V)) → IsSome (entry_in x) → IsSome x
    present_cases None h = h
    present_cases (Some x) h = refl

    pub present : (k p : ℕ) → k ≡ p → IsSome (fin.get v.nodes p) → HasNode o.slots k
    present k p f h = present_cases (cell_at (cells_of o.slots) k) (subst IsSome (node_had k p f) h)

    pub entry_there : (k p : ℕ) (n : NodeCell K V) → k ≡ p → cell_at (cells_of o.slots) k ≡ Some n → fin.get v.nodes p ≡ Some (entry_of n.value)
    entry_there k p n f h = node_had k p f ∙ ap entry_in h

    pub hash_there : (k p : ℕ) (n : NodeCell K V) → k ≡ p → cell_at (cells_of o.slots) k ≡ Some n → fin.get v.hashes p ≡ Some (hash_of n.value)
    hash_there k p n f h = (λ i. fin.get (sym e i).hashes (sym f i)) ∙ hash_is o w k ∙ ap hash_in h

    -- whether the slot is in the order
    pub idle_there : (b : Bool) (k p : ℕ) → k ≡ p → list_any (eqb p) v.idle ≡ b → list_any (eqb k) (idle_of o) ≡ b
    idle_there b k p f h = subst (λ (q : List ℕ × ℕ). list_any (eqb q.1) q.0 ≡ b) (λ i. ((sym e i).idle, sym f i)) h

  -- a change in a slot that is not idle
  module _ (cs ds : NodeCells K V) (slot : ℕ) (others : (q : ℕ) → q ≢ slot → cell_at ds q ≡ cell_at cs q) (apart : (q : ℕ) (p : Ptr) → ptr_in (cell_at ds q) ≡ Some p → slot_at ds p ≡ Some q) where
    -- a link that leads elsewhere leads where it led
    link_else : (w : Option Ptr) → IsGood cs w → NotSlot slot (slot_in cs w) → slot_in ds w ≡ slot_in cs w
    link_else None g h = refl
    link_else (Some p) g h =
        let held = slot_of_held cs p g in let there = value_at_slot cs p held.0 held.1 in
        apart held.0 p (ap ptr_in (others held.0 (h held.0 held.1) ∙ there.1) ∙ ap Some there.2) ∙ sym held.1

    good_else : (w : Option Ptr) → IsGood cs w → NotSlot slot (slot_in cs w) → IsGood ds w
    good_else None g h = tt
    good_else (Some p) g h = subst IsSome (sym (link_else (Some p) g h)) g

    all_else : (b : Option ℕ) (ks : List ℕ) (e : Option ℕ) → Linked (link_at cs) b ks e → Absent slot ks → NotSlot slot b → NotSlot slot e → AreGood cs ks → AreGood ds ks × Same (link_at cs) (link_at ds) ks
    all_else b [] e l a nb ne g = (tt, tt)
    all_else b (k ∷ ks) e l a nb ne g =
        let nk : k ≢ slot = (λ z. a.0 (sym z)) in
        let tells = link_told_at cs k (link b (first_or ks e)) l.0 in
        let left : NotSlot slot (slot_in cs (before_at cs k)) = (λ z is. nb z (sym tells.0 ∙ is)) in
        let right : NotSlot slot (slot_in cs (after_at cs k)) = (λ z is. first_not slot ks e a.1 ne z (sym tells.1 ∙ is)) in
        let on = all_else (Some k) ks e l.1 a.1 (λ z is eq. let same : k ≡ z = cc in nk (same ∙ eq)) ne g.1 in (
          (
            (subst (IsGood ds) (sym (ap before_in (others k nk))) (good_else (before_at cs k) g.0.0 left), subst (IsGood ds) (sym (ap after_in (others k nk))) (good_else (after_at cs k) g.0.1 right)),
            on.0,
          ),
          (ap (link_of ds) (others k nk) ∙ links_same cs ds (cell_at cs k) (link_else (before_at cs k) g.0.0 left) (link_else (after_at cs k) g.0.1 right), on.1),
        )

  pub table_else : (o : Order K V) (t : Slots K V) (slot : ℕ) → IsWellLinked o → Absent slot (idle_of o) → IsTied t → KeepsOthers o.slots t slot → IsEnd (cell_at (cells_of t) slot) → IsWellLinked (record o { slots = t }) × (idle_of (record o { slots = t }) ≡ idle_of o)
  table_else o t slot kept out tied others ends =
      let cs = cells_of o.slots in let ds = cells_of t in let n = o.newest in let ks = idle_of o in
      let i = kept.ordered in
      let stay = all_else cs ds slot others tied.apart None ks None i.linked out (λ z is. cc) (λ z is. cc) kept.good in
      let last : NotSlot slot (slot_in cs n) = (λ z is. last_not slot None ks out (λ y h. cc) z (sym i.last ∙ is)) in
      let j : IsOrder (link_at ds) o.oldest (slot_in ds n) ks = record {
        first = i.first;
        last = link_else cs ds slot others tied.apart n kept.last_good last ∙ i.last;
        linked = linked_same (link_at cs) (link_at ds) None ks None stay.1 i.linked;
        distinct = i.distinct;
      } in
      let e = read ds o.oldest (slot_in ds n) ks j in (
        record {
          tied = tied;
          ordered = subst (IsOrder (link_at ds) o.oldest (slot_in ds n)) (sym e) j;
          good = subst (AreGood ds) (sym e) stay.0;
          last_good = good_else cs ds slot others tied.apart n kept.last_good last;
          ends = λ q. elim (cases_eq q slot) [
            | inl is ↦ subst (λ x. IsEnd (cell_at ds x)) (sym is) ends
            | inr ne ↦ subst IsEnd (sym (others q ne)) (kept.ends q)
          ];
        },
        e,
      )

  vacant : (cs : NodeCells K V) (slot : ℕ) (b : Option ℕ) (ks : List ℕ) (e : Option ℕ) → cell_at cs slot ≡ None → Linked (link_at cs) b ks e → Absent slot ks
  vacant cs slot b [] e h l = tt
  vacant cs slot b (k ∷ ks) e h l = ((λ is. none_some _ (sym (ap (link_of cs) h) ∙ ap (link_at cs) is ∙ l.0)), vacant cs slot (Some k) ks e h l.1)
    where
      none_some : (x : Link) → None ≡ Some x → ⊥
      none_some x e = cc

  pub vacant_out : (o : Order K V) (slot : ℕ) → IsWellLinked o → cell_at (cells_of o.slots) slot ≡ None → Absent slot (idle_of o)
  vacant_out o slot kept h = vacant (cells_of o.slots) slot None (idle_of o) None h kept.ordered.linked

  pub entries_inserted : (cs ds : NodeCells K V) (slot : ℕ) (x : Entry K V) → ((q : ℕ) → q ≢ slot → cell_at ds q ≡ cell_at cs q) → entry_in (cell_at ds slot) ≡ Some x → map_of_slots (map entry_in ds) ≡ fin.insert (map_of_slots (map entry_in cs)) slot x
  entries_inserted cs ds slot x others h = made_insert (map entry_in cs) (map entry_in ds) slot x (get_or-map_option entry_in refl ds slot ∙ h)
      (λ q ne. get_or-map_option entry_in refl ds q ∙ ap entry_in (others q ne) ∙ sym (get_or-map_option entry_in refl cs q))

  pub entries_removed : (cs ds : NodeCells K V) (slot : ℕ) → ((q : ℕ) → q ≢ slot → cell_at ds q ≡ cell_at cs q) → cell_at ds slot ≡ None → map_of_slots (map entry_in ds) ≡ fin.remove (map_of_slots (map entry_in cs)) slot
  entries_removed cs ds slot others h = made_remove (map entry_in cs) (map entry_in ds) slot (get_or-map_option entry_in refl ds slot ∙ ap entry_in h)
      (λ q ne. get_or-map_option entry_in refl ds q ∙ ap entry_in (others q ne) ∙ sym (get_or-map_option entry_in refl cs q))

  -- another entry in a node that keeps its links
  module _ (o : Order K V) (t : Slots K V) (slot : ℕ) (f : Entry K V → Entry K V) (pointers : t.pointers ≡ o.slots.pointers) (r : Rewrites o.slots t slot f) where
    abbrev cs : NodeCells K V
    cs = cells_of o.slots

    abbrev ds : NodeCells K V
    ds = cells_of t

    -- what is alike in the slot is alike everywhere
    alike : {X : Type 0} (g : Option (NodeCell K V) → X) → g (Some r.new) ≡ g (Some r.old) → (q : ℕ) → g (cell_at ds q) ≡ g (cell_at cs q)
    alike g e q = elim (cases_eq q slot) [
      | inl is ↦ ap (λ j. g (cell_at ds j)) is ∙ ap g r.now ∙ e ∙ sym (ap g r.was) ∙ sym (ap (λ j. g (cell_at cs j)) is)
      | inr ne ↦ ap g (r.others q ne)
    ]

    pointers_all : (q : ℕ) → ptr_in (cell_at ds q) ≡ ptr_in (cell_at cs q)
    pointers_all = alike ptr_in (ap Some r.at)

    pub slots_all : (w : Option Ptr) → slot_in ds w ≡ slot_in cs w
    slots_all None = refl
    slots_all (Some p) = slots_kept cs ds pointers_all p

    before_all : (q : ℕ) → before_at ds q ≡ before_at cs q
    before_all = alike before_in r.node.before

    after_all : (q : ℕ) → after_at ds q ≡ after_at cs q
    after_all = alike after_in r.node.after

    good_all : (w : Option Ptr) → IsGood cs w → IsGood ds w
    good_all None g = tt
    good_all (Some p) g = subst IsSome (sym (slots_all (Some p))) g

    are_all : (ks : List ℕ) → AreGood cs ks → AreGood ds ks
    are_all [] g = tt
    are_all (q ∷ qs) g = ((subst (IsGood ds) (sym (before_all q)) (good_all _ g.0.0), subst (IsGood ds) (sym (after_all q)) (good_all _ g.0.1)), are_all qs g.1)

    links_all : (q : ℕ) → link_at ds q ≡ link_at cs q
    links_all q = alike (link_of ds) (λ i. Some (link (slot_in ds (r.node.before i)) (slot_in ds (r.node.after i)))) q ∙ links_same cs ds (cell_at cs q) (slots_all (before_at cs q)) (slots_all (after_at cs q))

    same_all : (ks : List ℕ) → Same (link_at cs) (link_at ds) ks
    same_all [] = tt
    same_all (q ∷ qs) = (links_all q, same_all qs)

    module _ (kept : IsWellLinked o) where
      order_all : IsOrder (link_at ds) o.oldest (slot_in ds o.newest) (idle_of o)
      order_all = let i = kept.ordered in
          record { first = i.first; last = slots_all o.newest ∙ i.last; linked = linked_same (link_at cs) (link_at ds) None (idle_of o) None (same_all (idle_of o)) i.linked; distinct = i.distinct }

      pub idle_written : idle_of (record o { slots = t }) ≡ idle_of o
      idle_written = read ds o.oldest (slot_in ds o.newest) (idle_of o) order_all

      pub table_written : IsWellLinked (record o { slots = t })
      table_written = record {
        tied = record {
          pointers = λ q. pointers_all q ∙ kept.tied.pointers q ∙ ap (λ l. ptr_of (get l q)) (sym pointers);
          apart = λ q p e. slots_kept cs ds pointers_all p ∙ kept.tied.apart q p (sym (pointers_all q) ∙ e);
          placed = λ q place e. kept.tied.placed q place (sym (alike place_in (ap Some r.node.place) q) ∙ e);
        };
        ordered = subst (IsOrder (link_at ds) o.oldest (slot_in ds o.newest)) (sym idle_written) order_all;
        good = subst (AreGood ds) (sym idle_written) (are_all (idle_of o) kept.good);
        last_good = good_all o.newest kept.last_good;
        ends = λ q. elim (cases_eq q slot) [
          | inl is ↦ subst IsEnd (sym (ap (cell_at ds) is ∙ r.now)) (r.node.chain ∙ subst IsEnd (ap (cell_at cs) is ∙ r.was) (kept.ends q))
          | inr ne ↦ subst IsEnd (sym (r.others q ne)) (kept.ends q)
        ];
      }

    pub hashes_written : (q : ℕ) → hash_in (cell_at ds q) ≡ hash_in (cell_at cs q)
    hashes_written = alike hash_in (ap Some r.node.hash)

    pub listings_written : ((e : Entry K V) → (f e).detached ≡ e.detached) → KeepsListings cs ds
    listings_written kept q =
        let same : (entry_of r.new.value).detached ≡ (entry_of r.old.value).detached = ap (λ (e : Entry K V). e.detached) r.node.entry ∙ kept (entry_of r.old.value) in
        (hashes_written q, alike listing_in (λ i. unless (same i) (entry (mark_of (r.node.hash i)) (record { ptr = r.at i }))) q)

    pub nodes_written : (v : NodeTable K V) (w p : ℕ) → node_table_of o w ≡ v → slot ≡ p → map_of_slots (map entry_in ds) ≡ update_at f v.nodes p
    nodes_written v w p e is =
        let at : fin.get v.nodes p ≡ Some (entry_of r.old.value) = node_had o w v e slot p is ∙ ap entry_in r.was in
        entries_inserted cs ds slot (f (entry_of r.old.value)) r.others (ap entry_in r.now ∙ ap Some r.node.entry) ∙ (λ n. fin.insert (e n).nodes (is n) (f (entry_of r.old.value))) ∙ ap (λ x. option_map_or (λ d. fin.insert v.nodes p (f d)) x v.nodes) (sym at)

  -- the node n at p, where a look led, has the entry of the slot
  pub looked_entry : (o : Order K V) (u : Slots K V) (p : Ptr) (k : ℕ) {n : Node K V} → u ≡ record o.slots { looks = u.looks } → LeadsTo o.slots p k → AtFirst (cells_of u) p (λ _ c. n ≡ c.value) → (e : Entry K V) → entry_at o k ≡ Some e → entry_of n ≡ e
  looked_entry o u p k rest link value e h =
      let same : cells_of u ≡ cells_of o.slots = ap (λ x. x.memory.cells) rest in
      let at : LeadsTo u p k = ap (λ l. slot_at l p) same ∙ link in
      let there = value_at_slot (cells_of u) p k at in
      ap entry_of (value k there.0 at there.1) ∙ same_Some (entry_of there.0.value) e (sym (ap entry_in there.1) ∙ ap (λ l. entry_in (cell_at l k)) same ∙ h)

  -- a node was looked at, at p, and its entry written
  pub record IsWritten (old new : Order K V) (k : ℕ) (p : Ptr) (f : Entry K V → Entry K V) : Type 0 where
    pub linked : IsWellLinked new
    pub at : LeadsTo new.slots p k
    pub idle : idle_of new ≡ idle_of old
    pub nodes : nodes_of new ≡ update_at f (nodes_of old) k
    pub listings : KeepsListings (cells_of old.slots) (cells_of new.slots)

  pub written : (o : Order K V) (u t : Slots K V) {k : ℕ} {p : Ptr} (f : Entry K V → Entry K V) → ((e : Entry K V) → (f e).detached ≡ e.detached) → IsWellLinked o → u ≡ record o.slots { looks = u.looks } → IsTied u → LeadsTo o.slots p k → OnlyWrites u t → RewritesLink u t p f → IsWritten o (record o { slots = t }) k p f
  written o u t {k} {p} f found kept rest tied link slots cells =
      let now : Order K V = record o { slots = u } in
      let same : cells_of u ≡ cells_of o.slots = ap (λ x. x.memory.cells) rest in
      let at : LeadsTo u p k = ap (λ l. slot_at l p) same ∙ link in
      let r = cells k at in let pointers : t.pointers ≡ u.pointers = ap (λ x. x.pointers) slots in
      let looked = table_looked o u rest tied kept in
      record {
        linked = table_written now t k f pointers r looked;
        at = slots_all now t k f pointers r (Some p) ∙ at;
        idle = idle_written now t k f pointers r looked ∙ ap (λ l. idle_places l o.oldest) same;
        nodes = nodes_written now t k f pointers r (node_table_of now 0) 0 k refl refl ∙ ap (λ l. update_at f (map_of_slots (map entry_in l)) k) same;
        listings = looked_keeps o.slots u (cells_of t) rest (listings_written now t k f pointers r found);
      }

  -- what is in the order has a node, and stands there once
  pub idle_within : (o : Order K V) (w p : ℕ) → IsWellLinked o → Lists o p → IsSome (fin.get (node_table_of o w).nodes p)
  idle_within o w p t m =
      let there = some_cell (cell_at (cells_of o.slots) p) (present_in o p t m) in
      ap is_some (node_is o w p ∙ ap entry_in there.1)

  pub idle_distinct : (o : Order K V) → IsWellLinked o → IsDistinct eqb (idle_of o)
  idle_distinct o t = distinct (idle_of o) t.ordered.distinct

  -- ---- the hashes, and the room to spare
  pub hashes_same : (cs ds : NodeCells K V) → ((q : ℕ) → hash_in (cell_at ds q) ≡ hash_in (cell_at cs q)) → map_of_slots (map hash_in ds) ≡ map_of_slots (map hash_in cs)
  hashes_same cs ds same = made_same (map hash_in cs) (map hash_in ds) (λ q. get_or-map_option hash_in refl ds q ∙ same q ∙ sym (get_or-map_option hash_in refl cs q))

  pub hashes_inserted : (cs ds : NodeCells K V) (slot x : ℕ) → ((q : ℕ) → q ≢ slot → cell_at ds q ≡ cell_at cs q) → hash_in (cell_at ds slot) ≡ Some x → map_of_slots (map hash_in ds) ≡ fin.insert (map_of_slots (map hash_in cs)) slot x
  hashes_inserted cs ds slot x others h = made_insert (map hash_in cs) (map hash_in ds) slot x (get_or-map_option hash_in refl ds slot ∙ h)
      (λ q ne. get_or-map_option hash_in refl ds q ∙ ap hash_in (others q ne) ∙ sym (get_or-map_option hash_in refl cs q))

  pub hashes_removed : (cs ds : NodeCells K V) (slot : ℕ) → ((q : ℕ) → q ≢ slot → cell_at ds q ≡ cell_at cs q) → cell_at ds slot ≡ None → map_of_slots (map hash_in ds) ≡ fin.remove (map_of_slots (map hash_in cs)) slot
  hashes_removed cs ds slot others h = made_remove (map hash_in cs) (map hash_in ds) slot (get_or-map_option hash_in refl ds slot ∙ ap hash_in h)
      (λ q ne. get_or-map_option hash_in refl ds q ∙ ap hash_in (others q ne) ∙ sym (get_or-map_option hash_in refl cs q))

  pub hash_had : (o : Order K V) (w : ℕ) (v : NodeTable K V) → node_table_of o w ≡ v → (k p : ℕ) → k ≡ p → fin.get v.hashes p ≡ hash_in (cell_at (cells_of o.slots) k)
  hash_had o w v e k p f = (λ i. fin.get (sym e i).hashes (sym f i)) ∙ map_of_slots_at (map hash_in (cells_of o.slots)) k ∙ get_or-map_option hash_in refl (cells_of o.slots) k

  -- ---- the addresses
  pub link_had : (o : Order K V) (w : ℕ) (v : NodeTable K V) → node_table_of o w ≡ v → (k p : ℕ) → k ≡ p → fin.get v.links p ≡ ptr_in (cell_at (cells_of o.slots) k)
  link_had o w v e k p f = (λ i. fin.get (sym e i).links (sym f i)) ∙ map_of_slots_at (map ptr_in (cells_of o.slots)) k ∙ get_or-map_option ptr_in refl (cells_of o.slots) k

  -- the address of a place leads to its slot, and what leads to the slot is the address
  pub link_leads : (o : Order K V) (w : ℕ) (v : NodeTable K V) → node_table_of o w ≡ v → (k p : ℕ) → k ≡ p → IsTied o.slots → (a : Ptr) → fin.get v.links p ≡ Some a → LeadsTo o.slots a k
  link_leads o w v e k p f tied a h = tied.apart k a (sym (link_had o w v e k p f) ∙ h)

  pub leads_link : (o : Order K V) (w : ℕ) (v : NodeTable K V) → node_table_of o w ≡ v → (k p : ℕ) → k ≡ p → (a : Ptr) → LeadsTo o.slots a k → fin.get v.links p ≡ Some a
  leads_link o w v e k p f a h = let there = value_at_slot (cells_of o.slots) a k h in link_had o w v e k p f ∙ ap ptr_in there.1 ∙ ap Some there.2

  -- nodes whose slab stays keep their addresses
  pub addresses_same : (s t : Slots K V) → IsTied s → IsTied t → t.pointers ≡ s.pointers → map_of_slots (map ptr_in (cells_of t)) ≡ map_of_slots (map ptr_in (cells_of s))
  addresses_same s t was is same = made_same (map ptr_in (cells_of s)) (map ptr_in (cells_of t))
      (λ q. get_or-map_option ptr_in refl (cells_of t) q ∙ is.pointers q ∙ ap (λ l. ptr_of (get l q)) same ∙ sym (was.pointers q) ∙ sym (get_or-map_option ptr_in refl (cells_of s) q))

  -- at least as much to spare as before
  pub spare_kept : (o : Order K V) (t : Slots K V) (v : NodeTable K V) (w : ℕ) → node_table_of o w ≡ v → spare_of o.slots ≤ spare_of t → v.spare ≤ spare_of t
  spare_kept o t v w e le = subst (λ n. n ≤ spare_of t) (ap (λ (x : NodeTable K V). x.spare) e) le

  pub spare_same : (o : Order K V) (t : Slots K V) (v : NodeTable K V) (w : ℕ) → node_table_of o w ≡ v → OnlyLooksAndWrites o.slots t → v.spare ≤ spare_of t
  spare_same o t v w e same =
      let kept : spare_of t ≡ spare_of o.slots = ap spare_of same in
      spare_kept o t v w e (let was = spare_of o.slots in let now = spare_of t in let is : now ≡ was = kept in omega (arith, is))

  -- ---- what a change of links or entries leaves whole
  pub whole_kept : (o q : Order K V) → IsWhole o → IsWellLinked q → OnlyLooksAndWrites o.slots q.slots → KeepsListings (cells_of o.slots) (cells_of q.slots) → IsWhole q
  whole_kept o q whole linked rest keeps = record { linked = linked; listed = listed_kept o.slots q.slots (ap (λ (s : Slots K V). s.by_hash) rest) keeps whole.listed }
