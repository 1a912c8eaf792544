-- What the value of a `Nodes` shows of a node that is read, and of a change of the order or of an
-- entry.
use Rattle.std.proofs.Common.{◌≡◌, ℕ, ◌+◌, ◌≤◌, List, [], Some, IsSome, refl, sym, ap, ◌∙◌, subst, arith}
use Rattle.std.specs.FinMap.{FinMap, get}
use Rattle.std.specs.Ordering.{nat_cmp}
use Rattle.concurrent_lru.specs.Cells.{cell_at}
use Rattle.concurrent_lru.specs.Listing.{KeepsListings, IsNodeIn, spare_of}
use Rattle.concurrent_lru.specs.NodeTable.{NodeTable, Entry, entry_of, hash_of, chain_of, update_at, GetsNode}
use Rattle.concurrent_lru.specs.SlotPointers.{IsTied, cells_of, IsNodeAt}
use Rattle.concurrent_lru.specs.SlotTable.{IsEnd, IsWellLinked, IsWhole, hashes_of, links_of, idle_of, node_table_of, nodes_of}
use Rattle.concurrent_lru.specs.SlotWrites.{OnlyLooksAndWrites, Rewrites}
use Rattle.concurrent_lru.specs.declared.node_table.Node.{Node}
use Rattle.concurrent_lru.specs.declared.node_table.links.Order.{Order}
use Rattle.concurrent_lru.specs.declared.node_table.slots.Slots.{Slots}
use Rattle.concurrent_lru.proofs.Nodes.SlotViews.{addresses_same, present, entry_there, hash_there, nodes_written, hashes_written, listings_written, idle_written, table_written, hashes_same, spare_kept, spare_same, whole_kept}
use Rattle.concurrent_lru.proofs.Order.Appending.{some_cell}

module _ {K V : Type 0} where
  -- the node n is in the slot k of the place p
  pub shown_node : (o : Order K V) (w : ℕ) {v : NodeTable K V} {k p : ℕ} (n : Node K V) → node_table_of o w ≡ v → k ≡ p → IsSome (get v.nodes p) → IsWellLinked o → IsNodeAt o.slots k n → record { entry : get v.nodes p ≡ Some (entry_of n); hash : get v.hashes p ≡ Some (hash_of n); alone : chain_of n ≡ [] }
  shown_node o w {v} {k} {p} n e is has linked found =
      let there = some_cell (cell_at (cells_of o.slots) k) (present o w v e k p is has) in
      let same : n ≡ there.0.value = found there.0 there.1 in
      record { entry = entry_there o w v e k p there.0 is there.1 ∙ ap (λ m. Some (entry_of m)) (sym same); hash = hash_there o w v e k p there.0 is there.1 ∙ ap (λ m. Some (hash_of m)) (sym same); alone = ap chain_of same ∙ subst IsEnd there.1 (linked.ends k) }

  -- a node in its slot is at its place
  pub shown_found : (o : Order K V) (w k : ℕ) {v : NodeTable K V} (n : Node K V) → node_table_of o w ≡ v → IsWellLinked o → IsNodeIn o.slots k n → GetsNode v k n
  shown_found o w k {v} n e linked there = record {
    entry = entry_there o w v e k k there.0 refl there.1 ∙ ap (λ m. Some (entry_of m)) (sym there.2);
    alone = ap chain_of there.2 ∙ subst IsEnd there.1 (linked.ends k);
  }

  -- Where the nodes and the idle ones changed by f and h at a slot, they did so at its place. The
  -- order was written `more` times.
  pub shown_relinked : {L : Type 0} (o q : Order K V) (w more : ℕ) {after : ℕ} {v : NodeTable K V} {k p : ℕ} (f : FinMap nat_cmp (Entry K V) → ℕ → FinMap nat_cmp (Entry K V)) (h : List ℕ → ℕ → List ℕ) → node_table_of o w ≡ v → k ≡ p
      → nodes_of q ≡ f (nodes_of o) k → idle_of q ≡ h (idle_of o) k → OnlyLooksAndWrites o.slots q.slots → KeepsListings (cells_of o.slots) (cells_of q.slots) → IsTied o.slots → IsTied q.slots → L → after ≡ w + more
      → record { nodes : nodes_of q ≡ f v.nodes p; hashes : hashes_of q ≡ v.hashes; links : links_of q ≡ v.links; idle : idle_of q ≡ h v.idle p; spare : v.spare ≤ spare_of q.slots; work : after ≡ v.work + more; looks : L }
  shown_relinked o q w more {v} f h e is nodes idle rest keeps was tied looks work = record {
    nodes = nodes ∙ (λ j. f (e j).nodes (is j));
    hashes = hashes_same (cells_of o.slots) (cells_of q.slots) (λ slot. (keeps slot).0) ∙ ap (λ (x : NodeTable K V). x.hashes) e;
    links = addresses_same o.slots q.slots was tied (ap (λ s. s.pointers) rest) ∙ ap (λ (x : NodeTable K V). x.links) e;
    idle = idle ∙ (λ j. h (e j).idle (is j));
    spare = spare_same o q.slots v w e rest;
    work = work ∙ ap (λ (x : NodeTable K V). x.work + more) e;
    looks = looks;
  }

  -- a node was looked up once
  pub looked_once : (o : Order K V) (w : ℕ) (v : NodeTable K V) (looks : ℕ) → node_table_of o w ≡ v → looks ≡ o.slots.looks.count + 1 → looks ≤ v.looks + 1
  looked_once o w v looks e once = let was = ap (λ (x : NodeTable K V). x.looks) e in omega (arith, was, once)

  -- where the entry in a slot changed by f, it did so at its place
  pub shown_rewritten : (o : Order K V) (t : Slots K V) (w : ℕ) {v : NodeTable K V} {k p : ℕ} (f : Entry K V → Entry K V) → node_table_of o w ≡ v → k ≡ p → IsWellLinked o → t.pointers ≡ o.slots.pointers → spare_of o.slots ≤ spare_of t → Rewrites o.slots t k f
      → record { nodes : nodes_of (record o { slots = t }) ≡ update_at f v.nodes p; hashes : hashes_of (record o { slots = t }) ≡ v.hashes; links : links_of (record o { slots = t }) ≡ v.links; idle : idle_of (record o { slots = t }) ≡ v.idle; spare : v.spare ≤ spare_of t; work : w ≡ v.work }
  shown_rewritten o t w {v} {k} {p} f e is linked pointers spare r = record {
    nodes = nodes_written o t k f pointers r v w p e is;
    hashes = hashes_same (cells_of o.slots) (cells_of t) (hashes_written o t k f pointers r) ∙ ap (λ (x : NodeTable K V). x.hashes) e;
    links = addresses_same o.slots t linked.tied (table_written o t k f pointers r linked).tied pointers ∙ ap (λ (x : NodeTable K V). x.links) e;
    idle = idle_written o t k f pointers r linked ∙ ap (λ (x : NodeTable K V). x.idle) e;
    spare = spare_kept o t v w e spare;
    work = ap (λ (x : NodeTable K V). x.work) e;
  }

  -- the same where nothing else changed, and then the order stays whole
  pub shown_rewritten_only : (o : Order K V) (t : Slots K V) (w : ℕ) {v : NodeTable K V} {k p : ℕ} (f : Entry K V → Entry K V) → node_table_of o w ≡ v → k ≡ p → IsWellLinked o → OnlyLooksAndWrites o.slots t → Rewrites o.slots t k f
      → record { nodes : nodes_of (record o { slots = t }) ≡ update_at f v.nodes p; hashes : hashes_of (record o { slots = t }) ≡ v.hashes; links : links_of (record o { slots = t }) ≡ v.links; idle : idle_of (record o { slots = t }) ≡ v.idle; spare : v.spare ≤ spare_of t; work : w ≡ v.work }
  shown_rewritten_only o t w f e is linked rest r =
      let left : spare_of o.slots ≤ spare_of t = let same : spare_of t ≡ spare_of o.slots = ap spare_of rest in omega (arith, same) in
      shown_rewritten o t w f e is linked (ap (λ s. s.pointers) rest) left r

  pub whole_rewritten : (o : Order K V) (t : Slots K V) {k : ℕ} (f : Entry K V → Entry K V) → ((e : Entry K V) → (f e).detached ≡ e.detached) → IsWhole o → OnlyLooksAndWrites o.slots t → Rewrites o.slots t k f → IsWhole (record o { slots = t })
  whole_rewritten o t {k} f found whole rest r =
      let pointers : t.pointers ≡ o.slots.pointers = ap (λ s. s.pointers) rest in
      whole_kept o (record o { slots = t }) whole (table_written o t k f pointers r whole.linked) rest (listings_written o t k f pointers r found)
