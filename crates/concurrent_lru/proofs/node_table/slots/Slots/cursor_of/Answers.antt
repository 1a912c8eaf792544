use Rattle.std.proofs.Common.{◌≡◌, Some, refl, sym, ap, ◌∙◌, subst, inl, inr}
use Rattle.std.proofs.lemmas.Bool.{cases_eq}
use Rattle.concurrent_lru.specs.Cells.{cell_at}
use Rattle.concurrent_lru.specs.Listing.{listing, LeadsToCandidate}
use Rattle.concurrent_lru.specs.NodeTable.{entry_of, hash_of}
use Rattle.concurrent_lru.specs.Probing.Entries.{Holds, entry}
use Rattle.concurrent_lru.specs.Probing.OpenTable.{mark_of, HasMark}
use Rattle.concurrent_lru.specs.Probing.Probes.{marks_of, mark_at}
use Rattle.concurrent_lru.specs.Relinks.{place_of}
use Rattle.concurrent_lru.specs.SlotPointers.{place_in}
use Rattle.concurrent_lru.proofs.Nodes.Listings.{leads, candidate, cell_listed, cell_unlisted, only_candidate, candidate_there}
use Rattle.concurrent_lru.proofs.Order.Appending.{some_cell}
use Rattle.concurrent_lru.proofs.Probing.Contents.Slots.{holds_mark}
use Rattle.concurrent_lru.proofs.Probing.Marks.{mark_filled}
use Rattle.concurrent_lru.proofs.Probing.Tables.Lookups.{item_mark, item_filled, fewer, past, none_past}
use Rattle.concurrent_lru.proofs.node_table.slots.Slots.cursor_of.Goals as goal
use Rattle.concurrent_lru.proofs.node_table.slots.Slots.cursor_of.Goals.{After-get}

pub walk-init : goal.walk-init
walk-init g c = record {
  mark = c.first-at.ensures.mark;
  ahead = λ k d at hash h. c.first-at.ensures.all k (holds_mark c.args.self.now.by_hash k (listing d) h ∙ ap mark_of hash);
}

pub item-requires : goal.item-requires
item-requires g c = item_filled c.args.self.now.by_hash (mark_of (hash_of c.node-node.result.now)) (mark_filled (hash_of c.node-node.result.now)) c.walk.at c.in-Item.cursor c.in-Item.is c.walk.invariant.mark

pub get-requires : goal.get-requires
get-requires g c = let s = c.args.self.now in leads s c.in-Item.cursor (entry (mark_at (marks_of s.by_hash) c.in-Item.cursor) c.item.result) c.requires.tied c.requires.listed c.item.ensures

-- the node at the cursor
led : (g : _) (c : After-get g) → LeadsToCandidate c.args.self.now c.in-Item.cursor c.get.result.now
led g c = let s = c.args.self.now in candidate s c.in-Item.cursor (entry (mark_at (marks_of s.by_hash) c.in-Item.cursor) c.item.result) c.get.result.now c.requires.tied c.requires.listed c.item.ensures c.get.ensures

pub next-at-requires : goal.next-at-requires
next-at-requires g c = item_filled c.args.self.now.by_hash (mark_of (hash_of c.node-node.result.now)) (mark_filled (hash_of c.node-node.result.now)) c.walk.at c.in-Item.cursor c.in-Item.is c.walk.invariant.mark

pub walk-smaller : goal.walk-smaller
walk-smaller g c = fewer c.args.self.now.by_hash (mark_of (hash_of c.node-node.result.now)) (mark_filled (hash_of c.node-node.result.now)) c.walk.at c.next-at.result c.in-Item.cursor c.in-Item.is c.next-at.ensures.rest

pub walk-preserved : goal.walk-preserved
walk-preserved g c =
    let s = c.args.self.now in let n = c.get.result.now in
    let mark : mark_at (marks_of s.by_hash) c.in-Item.cursor ≡ mark_of (hash_of c.node-node.result.now) = item_mark s.by_hash (mark_of (hash_of c.node-node.result.now)) (mark_filled (hash_of c.node-node.result.now)) c.walk.at c.in-Item.cursor c.in-Item.is c.walk.invariant.mark in
    record {
      mark = subst (λ m. HasMark s.by_hash m c.next-at.result) mark c.next-at.ensures.mark;
      ahead = λ k d at hash h. elim (cases_eq k c.in-Item.cursor) [
        | inl is ↦
            let same : n ≡ d.value = only_candidate s c.in-Item.cursor c.args.slot n d (listing d) c.requires.tied (led g (goal.at.walk-preserved g c).After-get) at (subst (λ j. Holds s.by_hash j (listing d)) is h) refl in
            absurd (c.if-get-slot.false (c.requires.tied.placed c.args.slot (place_of n) (ap place_in at ∙ ap (λ x. Some (place_of x)) (sym same))))
        | inr ne ↦ past s.by_hash (mark_of (hash_of c.node-node.result.now)) (mark_filled (hash_of c.node-node.result.now)) c.walk.at c.next-at.result c.in-Item.cursor c.in-Item.is c.next-at.ensures.rest k ne (c.walk.invariant.ahead k d at hash h)
      ];
    }

pub returns-then-get-slot : goal.returns-then-get-slot
returns-then-get-slot g c =
    let s = c.args.self.now in let to = led g (goal.at.returns-then-get-slot g c).After-get in
    (listing to.cell, cell_listed (cell_at s.memory.cells c.args.slot) to.cell (ap (cell_at s.memory.cells) (sym c.if-get-slot.true) ∙ candidate_there s c.in-Item.cursor c.get.result.now c.requires.tied to) to.found, to.holds)

pub returns-then-node : goal.returns-then-node
returns-then-node g c =
    let s = c.args.self.now in let there = some_cell (cell_at s.memory.cells c.args.slot) c.requires.present in
    cell_unlisted (cell_at s.memory.cells c.args.slot) there.0 there.1 (ap (λ x. (entry_of x).detached) (sym (c.node-node.ensures there.0 there.1)) ∙ c.if-node.true)

-- the table has each node that is not detached
pub returns : goal.returns
returns g c =
    let s = c.args.self.now in let there = some_cell (cell_at s.memory.cells c.args.slot) c.requires.present in
    let same = sym (c.node-node.ensures there.0 there.1) in
    let h = c.requires.listed.listed c.args.slot (listing there.0) (cell_listed (cell_at s.memory.cells c.args.slot) there.0 there.1 (ap (λ x. (entry_of x).detached) same ∙ c.if-node.false)) in
    absurd (none_past s.by_hash (mark_of (hash_of c.node-node.result.now)) (mark_filled (hash_of c.node-node.result.now)) c.walk.at h.0 c.in_default.not-Item (c.walk.invariant.ahead h.0 there.0 there.1 (ap hash_of same) h.1))
