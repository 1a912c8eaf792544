-- The table by hash and the nodes stay in step.
use Rattle.std.proofs.Common.{◌≡◌, ◌≢◌, ℕ, zero, suc, arith, [], Bool, true, false, Option, Some, None, IsSome, refl, sym, ap, ◌∙◌, subst, inl, inr}
use Rattle.std.proofs.Common.{is_some}
use Rattle.std.proofs.lemmas.Bool.{cases_eq}
use denote.RawPtr.{Ptr}
use Rattle.concurrent_lru.specs.Cells.{cell_at, ptr_in, slot_at}
use Rattle.concurrent_lru.specs.Listing.{unless, listing, listing_in, hash_in, listing_at, KeepsListings, IsListed, IsListedBut, LeadsToCandidate}
use Rattle.concurrent_lru.specs.NodeTable.{Entry, entry_of, hash_of}
use Rattle.concurrent_lru.specs.Probing.Entries.{entry, Has, Holds, IsSame, Adds, Removes}
use Rattle.concurrent_lru.specs.Probing.OpenTable.{mark_of}
use Rattle.concurrent_lru.specs.Relinks.{NodeCell, NodeCells, place_of}
use Rattle.concurrent_lru.specs.SlotPointers.{IsTied, cells_of, place_in, HasNode, KeepsOthers}
use Rattle.concurrent_lru.specs.SlotTable.{entry_in}
use Rattle.concurrent_lru.specs.declared.node_table.Node.{Node}
use Rattle.concurrent_lru.specs.declared.node_table.memory.At.{At}
use Rattle.concurrent_lru.specs.declared.node_table.probes.Bucket.{Bucket}
use Rattle.concurrent_lru.specs.declared.node_table.slots.Slots.{Slots}
use Rattle.concurrent_lru.proofs.Probing.Contents.Slots.{holds_within, holds_one}

module _ {K V : Type 0} where
  -- ---- entries of the table, and cells
  on_unless : (b : Bool) (c : NodeCell K V) (e : Bucket (At (Node K V))) → unless b (listing c) ≡ Some e → (b ≡ false) × (e ≡ listing c)
  on_unless true c e h = cc
  on_unless false c e h = let same : listing c ≡ e = cc in (refl, sym same)

  -- what is listed is a node that is not detached
  pub listed_cell : (x : Option (NodeCell K V)) (e : Bucket (At (Node K V))) → listing_in x ≡ Some e → (c : NodeCell K V) × (x ≡ Some c) × ((entry_of c.value).detached ≡ false) × (e ≡ listing c)
  listed_cell None e h = cc
  listed_cell (Some c) e h = let on = on_unless (entry_of c.value).detached c e h in (c, refl, on.0, on.1)

  pub cell_listed : (x : Option (NodeCell K V)) (c : NodeCell K V) → x ≡ Some c → (entry_of c.value).detached ≡ false → listing_in x ≡ Some (listing c)
  cell_listed x c is found = ap listing_in is ∙ ap (λ b. unless b (listing c)) found

  pub cell_unlisted : (x : Option (NodeCell K V)) (c : NodeCell K V) → x ≡ Some c → (entry_of c.value).detached ≡ true → listing_in x ≡ None
  cell_unlisted x c is found = ap listing_in is ∙ ap (λ b. unless b (listing c)) found

  -- the node with this entry, or with this hash
  pub entry_cell : (x : Option (NodeCell K V)) (e : Entry K V) → entry_in x ≡ Some e → (c : NodeCell K V) × (x ≡ Some c) × (entry_of c.value ≡ e)
  entry_cell None e h = cc
  entry_cell (Some c) e h = let same : entry_of c.value ≡ e = cc in (c, refl, same)

  pub hash_cell : (x : Option (NodeCell K V)) (c : NodeCell K V) (hash : ℕ) → x ≡ Some c → hash_in x ≡ Some hash → hash_of c.value ≡ hash
  hash_cell x c hash is h = let same : Some (hash_of c.value) ≡ Some hash = sym (ap hash_in is) ∙ h in cc

  pub listed_ptr : (x : Option (NodeCell K V)) (e : Bucket (At (Node K V))) → listing_in x ≡ Some e → ptr_in x ≡ Some e.item.ptr
  listed_ptr x e h = let there = listed_cell x e h in ap ptr_in there.1 ∙ ap (λ (s : Bucket (At (Node K V))). Some s.item.ptr) (sym there.3)

  none_listed : (e : Bucket (At (Node K V))) (x : Option (NodeCell K V)) → x ≡ None → listing_in x ≡ Some e → ⊥
  none_listed e x none h = let a : listing_in x ≡ None = ap listing_in none in cc

  -- nodes that lie alike, with the same hashes and marks of detachment, are listed alike
  pub listed_alike : (x y : Option (NodeCell K V)) → entry_in x ≡ entry_in y → ptr_in x ≡ ptr_in y → hash_in x ≡ hash_in y → listing_in x ≡ listing_in y
  listed_alike None None e p h = refl
  listed_alike None (Some d) e p h = cc
  listed_alike (Some c) None e p h = cc
  listed_alike (Some c) (Some d) e p h =
      let same : entry_of c.value ≡ entry_of d.value = cc in let at : c.at ≡ d.at = cc in let hash : hash_of c.value ≡ hash_of d.value = cc in
      λ i. unless (same i).detached (entry (mark_of (hash i)) (record { ptr = at i }))

  -- ---- one address is of one slot
  pub same_slot : (s : Slots K V) (j k : ℕ) (p : Ptr) → IsTied s → ptr_in (cell_at (cells_of s) j) ≡ Some p → ptr_in (cell_at (cells_of s) k) ≡ Some p → j ≡ k
  same_slot s j k p tied h i = let a = tied.apart j p h in let b = tied.apart k p i in let both : Some j ≡ Some k = sym a ∙ b in cc

  pub one_item : (s : Slots K V) (j k : ℕ) (e f : Bucket (At (Node K V))) → IsTied s → listing_at s j ≡ Some e → listing_at s k ≡ Some f → e.item ≡ f.item → j ≡ k
  one_item s j k e f tied h i same = same_slot s j k f.item.ptr tied (listed_ptr (cell_at (cells_of s) j) e h ∙ ap (λ (a : At (Node K V)). Some a.ptr) same) (listed_ptr (cell_at (cells_of s) k) f i)

  -- ---- the table and the nodes
  pub listed_none : (s : Slots K V) → s.by_hash ≡ [] → cells_of s ≡ [] → IsListed s
  listed_none s table cells = record {
    listed = λ slot e h. absurd (nothing slot e (subst (λ cs. listing_in (cell_at cs slot) ≡ Some e) cells h));
    led = λ e h. absurd (empty h.0 e (subst (λ l. Holds l h.0 e) table h.1));
  }
    where
      nothing : (slot : ℕ) (e : Bucket (At (Node K V))) → listing_in (cell_at {X = NodeCell K V} [] slot) ≡ Some e → ⊥
      nothing zero e h = cc
      nothing (suc slot) e h = cc

      empty : (k : ℕ) (e : Bucket (At (Node K V))) → Holds [] k e → ⊥
      empty k e h = let within = holds_within [] k e h in omega (arith, within)

  pub listed_kept : (s t : Slots K V) → t.by_hash ≡ s.by_hash → KeepsListings (cells_of s) (cells_of t) → IsListed s → IsListed t
  listed_kept s t table same l = record {
    listed = λ slot e h. subst (λ b. Has b e) (sym table) (l.listed slot e (sym (same slot).1 ∙ h));
    led = λ e h. let there = l.led e (subst (λ b. Has b e) table h) in (there.0, (same there.0).1 ∙ there.1);
  }

  pub then_keeps : (cs ds es : NodeCells K V) → KeepsListings cs ds → KeepsListings ds es → KeepsListings cs es
  then_keeps cs ds es a b k = ((b k).0 ∙ (a k).0, (b k).1 ∙ (a k).1)

  -- a look changes no node
  pub looked_keeps : (s t : Slots K V) (es : NodeCells K V) → t ≡ record s { looks = t.looks } → KeepsListings (cells_of t) es → KeepsListings (cells_of s) es
  looked_keeps s t es rest keeps = subst (λ cs. KeepsListings cs es) (ap cells_of rest) keeps

  pub listed_grown : (s t : Slots K V) → IsSame s.by_hash t.by_hash → cells_of t ≡ cells_of s → IsListed s → IsListed t
  listed_grown s t same cells l = record {
    listed = λ slot e h. same.kept e (l.listed slot e (subst (λ cs. listing_in (cell_at cs slot) ≡ Some e) cells h));
    led = λ e h. let there = l.led e (same.from e h) in (there.0, subst (λ cs. listing_in (cell_at cs there.0) ≡ Some e) (sym cells) there.1);
  }

  -- a node more, which the table does not have yet
  pub put_but : (s t : Slots K V) (slot : ℕ) → t.by_hash ≡ s.by_hash → cell_at (cells_of s) slot ≡ None → KeepsOthers s t slot → IsListed s → IsListedBut t slot
  put_but s t slot table vacant others l = record {
    listed = λ k e ne h. subst (λ b. Has b e) (sym table) (l.listed k e (ap listing_in (sym (others k ne)) ∙ h));
    led = λ e h.
        let there = l.led e (subst (λ b. Has b e) table h) in
        let ne : there.0 ≢ slot = λ is. none_listed e (cell_at (cells_of s) there.0) (ap (cell_at (cells_of s)) is ∙ vacant) there.1 in
        (there.0, ne, ap listing_in (others there.0 ne) ∙ there.1);
  }

  -- another change in the slot that is left out
  pub but_kept : (s t : Slots K V) (slot : ℕ) → t.by_hash ≡ s.by_hash → ((k : ℕ) → k ≢ slot → listing_at t k ≡ listing_at s k) → IsListedBut s slot → IsListedBut t slot
  but_kept s t slot table others l = record {
    listed = λ k e ne h. subst (λ b. Has b e) (sym table) (l.listed k e ne (sym (others k ne) ∙ h));
    led = λ e h. let there = l.led e (subst (λ b. Has b e) table h) in (there.0, there.1, others there.0 there.1 ∙ there.2);
  }

  -- nothing is left out, where the slot has no node, or one that is detached
  pub but_none : (t : Slots K V) (slot : ℕ) → listing_at t slot ≡ None → IsListedBut t slot → IsListed t
  but_none t slot none l = record {
    listed = λ k e h. elim (cases_eq k slot) [
      | inl is ↦ absurd (let a : listing_at t k ≡ None = ap (listing_at t) is ∙ none in cc)
      | inr ne ↦ l.listed k e ne h
    ];
    led = λ e h. let there = l.led e h in (there.0, there.2);
  }

  -- the address of the node that is left out is not in the table
  pub but_absent : (t : Slots K V) (slot : ℕ) (at : At (Node K V)) → IsTied t → IsListedBut t slot → ptr_in (cell_at (cells_of t) slot) ≡ Some at.ptr → (e : Bucket (At (Node K V))) → Has t.by_hash e → e.item ≢ at
  but_absent t slot at tied l here e h is =
      let there = l.led e h in
      there.1 (same_slot t there.0 slot at.ptr tied (listed_ptr (cell_at (cells_of t) there.0) e there.2 ∙ ap (λ (a : At (Node K V)). Some a.ptr) is) here)

  pub listed_more : (t u : Slots K V) (slot : ℕ) (e : Bucket (At (Node K V))) → cells_of u ≡ cells_of t → listing_at t slot ≡ Some e → Adds t.by_hash u.by_hash e → IsListedBut t slot → IsListed u
  listed_more t u slot e cells here adds l = record {
    listed = λ k f h.
        let was : listing_at t k ≡ Some f = subst (λ cs. listing_in (cell_at cs k) ≡ Some f) cells h in
        elim (cases_eq k slot) [
          | inl is ↦ let a : listing_at t slot ≡ Some f = ap (listing_at t) (sym is) ∙ was in let same : e ≡ f = cc in subst (Has u.by_hash) same adds.here
          | inr ne ↦ adds.kept f (l.listed k f ne was)
        ];
    led = λ f h. elim (adds.from f h) [
      | inl is ↦ (slot, subst (λ cs. listing_in (cell_at cs slot) ≡ Some f) (sym cells) (here ∙ ap Some (sym is)))
      | inr before ↦ let there = l.led f before in (there.0, subst (λ cs. listing_in (cell_at cs there.0) ≡ Some f) (sym cells) there.2)
    ];
  }

  pub fewer_but : (s t : Slots K V) (slot : ℕ) (e : Bucket (At (Node K V))) → cells_of t ≡ cells_of s → IsTied s → listing_at s slot ≡ Some e → Removes s.by_hash t.by_hash e.item → IsListed s → IsListedBut t slot
  fewer_but s t slot e cells tied here removes l = record {
    listed = λ k f ne h.
        let was : listing_at s k ≡ Some f = subst (λ cs. listing_in (cell_at cs k) ≡ Some f) cells h in
        removes.kept f (l.listed k f was) (λ same. ne (one_item s k slot f e tied was here same));
    led = λ f h.
        let there = l.led f (removes.from f h) in
        let ne : there.0 ≢ slot = λ is.
        let a : listing_at s slot ≡ Some f = ap (listing_at s) (sym is) ∙ there.1 in let same : f ≡ e = cc in
        removes.gone f h (ap (λ (x : Bucket (At (Node K V))). x.item) same) in
        (there.0, ne, subst (λ cs. listing_in (cell_at cs there.0) ≡ Some f) (sym cells) there.1);
  }

  pub same_but : (s : Slots K V) (slot : ℕ) → listing_at s slot ≡ None → IsListed s → IsListedBut s slot
  same_but s slot none l = record {
    listed = λ k e ne h. l.listed k e h;
    led = λ e h.
        let there = l.led e h in
        (there.0, (λ is. let a : listing_at s there.0 ≡ None = ap (listing_at s) is ∙ none in let b = there.1 in cc), there.1);
  }

  -- the pointers stay in step whatever the table has
  pub tied_unlisted : (s t : Slots K V) → t ≡ record s { by_hash = t.by_hash } → IsTied s → IsTied t
  tied_unlisted s t rest tied = subst IsTied (sym rest) (record { pointers = tied.pointers; apart = tied.apart; placed = tied.placed })

  -- and a node stays in its slot
  pub unlisted : (s t : Slots K V) (slot : ℕ) → t ≡ record s { by_hash = t.by_hash } → IsTied s → HasNode s slot → record { tied : IsTied t; present : HasNode t slot }
  unlisted s t slot rest tied there = record { tied = tied_unlisted s t rest tied; present = subst (λ x. HasNode x slot) (sym rest) there }

  -- a node that was put in
  pub put_listed : (x : Option (NodeCell K V)) (n : Node K V) (at : At (Node K V)) → entry_in x ≡ Some (entry_of n) → hash_in x ≡ Some (hash_of n) → ptr_in x ≡ Some at.ptr → (entry_of n).detached ≡ false → listing_in x ≡ Some (entry (mark_of (hash_of n)) at)
  put_listed None n at e h p found = cc
  put_listed (Some c) n at e h p found =
      let same : entry_of c.value ≡ entry_of n = cc in let hash : hash_of c.value ≡ hash_of n = cc in let lies : c.at ≡ at.ptr = cc in
      ap (λ (x : Entry K V). unless x.detached (listing c)) same ∙ ap (λ b. unless b (listing c)) found ∙ (λ i. Some (entry (mark_of (hash i)) (record { ptr = lies i })))

  pub put_unlisted : (x : Option (NodeCell K V)) (n : Node K V) → entry_in x ≡ Some (entry_of n) → (entry_of n).detached ≡ true → listing_in x ≡ None
  put_unlisted None n e found = cc
  put_unlisted (Some c) n e found =
      let same : entry_of c.value ≡ entry_of n = cc in
      ap (λ (x : Entry K V). unless x.detached (listing c)) same ∙ ap (λ b. unless b (listing c)) found

  -- ---- where a slot of the table leads
  pub leads : (s : Slots K V) (k : ℕ) (e : Bucket (At (Node K V))) → IsTied s → IsListed s → Holds s.by_hash k e → IsSome (slot_at (cells_of s) e.item.ptr)
  leads s k e tied l h = let there = l.led e (k, h) in ap is_some (tied.apart there.0 e.item.ptr (listed_ptr (cell_at (cells_of s) there.0) e there.1))

  pub candidate : (s : Slots K V) (k : ℕ) (e : Bucket (At (Node K V))) (n : Node K V) → IsTied s → IsListed s → Holds s.by_hash k e
      → ((slot : ℕ) (c : NodeCell K V) → slot_at (cells_of s) e.item.ptr ≡ Some slot → cell_at (cells_of s) slot ≡ Some c → n ≡ c.value) → LeadsToCandidate s k n
  candidate s k e n tied l h value =
      let led = l.led e (k, h) in
      let node = listed_cell (cell_at (cells_of s) led.0) e led.1 in
      record {
        slot = led.0;
        cell = node.0;
        there = node.1;
        is = value led.0 node.0 (tied.apart led.0 e.item.ptr (listed_ptr (cell_at (cells_of s) led.0) e led.1)) node.1;
        found = node.2;
        holds = subst (Holds s.by_hash k) node.3 h;
      }

  -- a node whose address the slot of the table has is the one that it leads to
  pub only_candidate : (s : Slots K V) (k slot : ℕ) (n : Node K V) (c : NodeCell K V) (e : Bucket (At (Node K V))) → IsTied s → LeadsToCandidate s k n → cell_at (cells_of s) slot ≡ Some c → Holds s.by_hash k e → e.item ≡ (listing c).item → n ≡ c.value
  only_candidate s k slot n c e tied to there h same =
      let one : e ≡ listing to.cell = holds_one s.by_hash k e (listing to.cell) h to.holds in
      let at : to.cell.at ≡ c.at = ap (λ (x : Bucket (At (Node K V))). x.item.ptr) (sym one) ∙ ap (λ (a : At (Node K V)). a.ptr) same in
      let is : to.slot ≡ slot = same_slot s to.slot slot c.at tied (ap ptr_in to.there ∙ ap Some at) (ap ptr_in there) in
      let cells : Some to.cell ≡ Some c = sym to.there ∙ ap (cell_at (cells_of s)) is ∙ there in
      let cell : to.cell ≡ c = cc in
      to.is ∙ ap (λ (d : NodeCell K V). d.value) cell

  -- it stores the slot that it lies in
  pub candidate_slot : (s : Slots K V) (k : ℕ) (n : Node K V) → IsTied s → (to : LeadsToCandidate s k n) → place_of n ≡ to.slot
  candidate_slot s k n tied to = tied.placed to.slot (place_of n) (ap place_in to.there ∙ ap (λ x. Some (place_of x)) (sym to.is))

  -- and the item of that slot of the table leads to it
  pub candidate_leads : (s : Slots K V) (k slot : ℕ) (n : Node K V) (e : Bucket (At (Node K V))) → IsTied s → (to : LeadsToCandidate s k n) → Holds s.by_hash k e → place_of n ≡ slot → slot_at (cells_of s) e.item.ptr ≡ Some slot
  candidate_leads s k slot n e tied to h is =
      let one : e ≡ listing to.cell = holds_one s.by_hash k e (listing to.cell) h to.holds in
      ap (λ (x : Bucket (At (Node K V))). slot_at (cells_of s) x.item.ptr) one ∙ tied.apart to.slot to.cell.at (ap ptr_in to.there) ∙ ap Some (sym (candidate_slot s k n tied to) ∙ is)

  pub candidate_there : (s : Slots K V) (k : ℕ) (n : Node K V) → IsTied s → (to : LeadsToCandidate s k n) → cell_at (cells_of s) (place_of n) ≡ Some to.cell
  candidate_there s k n tied to = ap (cell_at (cells_of s)) (candidate_slot s k n tied to) ∙ to.there
