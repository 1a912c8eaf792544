use Rattle.std.proofs.Common.{◌≡◌, refl, subst}
use Rattle.concurrent_lru.specs.Listing.{LeadsToCandidate}
use Rattle.concurrent_lru.specs.Probing.Entries.{entry}
use Rattle.concurrent_lru.specs.Probing.OpenTable.{mark_of, HasMark}
use Rattle.concurrent_lru.specs.Probing.Probes.{marks_of, mark_at}
use Rattle.concurrent_lru.proofs.Nodes.Listings.{leads, candidate, candidate_leads, candidate_there}
use Rattle.concurrent_lru.proofs.Nodes.ShownChanges.{shown_found}
use Rattle.concurrent_lru.proofs.Nodes.SlotViews.{leads_link}
use Rattle.concurrent_lru.proofs.Probing.Marks.{mark_filled}
use Rattle.concurrent_lru.proofs.Probing.Tables.Lookups.{item_mark, item_filled, fewer}
use Rattle.concurrent_lru.proofs.node_table.Nodes.find_stamp_by_hash.Goals as goal
use Rattle.concurrent_lru.proofs.node_table.Nodes.find_stamp_by_hash.Goals.{After-get-node}

pub item-link-requires : goal.item-link-requires
item-link-requires g c = item_filled c.self.inside.order.slots.by_hash (mark_of c.args.hash) (mark_filled c.args.hash) c.walk.at c.in-Item.cursor c.in-Item.is c.walk.invariant

pub get-node-requires : goal.get-node-requires
get-node-requires g c = let s = c.self.inside.order.slots in leads s c.in-Item.cursor (entry (mark_at (marks_of s.by_hash) c.in-Item.cursor) c.item-link.result) c.self.invariant.linked.tied c.self.invariant.listed c.item-link.ensures

-- the node at the cursor
led : (g : _) (c : After-get-node g) → LeadsToCandidate c.self.inside.order.slots c.in-Item.cursor c.get-node.result.now
led g c = let s = c.self.inside.order.slots in candidate s c.in-Item.cursor (entry (mark_at (marks_of s.by_hash) c.in-Item.cursor) c.item-link.result) c.get-node.result.now c.self.invariant.linked.tied c.self.invariant.listed c.item-link.ensures c.get-node.ensures

pub next-at-requires : goal.next-at-requires
next-at-requires g c = item_filled c.self.inside.order.slots.by_hash (mark_of c.args.hash) (mark_filled c.args.hash) c.walk.at c.in-Item.cursor c.in-Item.is c.walk.invariant

pub walk-smaller : goal.walk-smaller
walk-smaller g c = fewer c.self.inside.order.slots.by_hash (mark_of c.args.hash) (mark_filled c.args.hash) c.walk.at c.next-at.result c.in-Item.cursor c.in-Item.is c.next-at.ensures.rest

pub walk-preserved : goal.walk-preserved
walk-preserved g c =
    let s = c.self.inside.order.slots in
    let mark : mark_at (marks_of s.by_hash) c.in-Item.cursor ≡ mark_of c.args.hash = item_mark s.by_hash (mark_of c.args.hash) (mark_filled c.args.hash) c.walk.at c.in-Item.cursor c.in-Item.is c.walk.invariant in
    subst (λ m. HasMark s.by_hash m c.next-at.result) mark c.next-at.ensures.mark

pub returns-then-node-stamp-clause-node : goal.returns-then-node-stamp-clause-node
returns-then-node-stamp-clause-node g c =
    let o = c.self.inside.order in let to = led g (goal.at.returns-then-node-stamp-clause-node g c).After-get-node in
    shown_found o _ _ c.get-node.result.now c.self.view_is c.self.invariant.linked (to.cell, candidate_there o.slots c.in-Item.cursor c.get-node.result.now c.self.invariant.linked.tied to, to.is)

pub returns-then-node-stamp-clause-link : goal.returns-then-node-stamp-clause-link
returns-then-node-stamp-clause-link g c =
    let o = c.self.inside.order in let s = o.slots in
    leads_link o _ _ c.self.view_is _ _ refl c.item-link.result.ptr (candidate_leads s c.in-Item.cursor _ c.get-node.result.now (entry (mark_at (marks_of s.by_hash) c.in-Item.cursor) c.item-link.result) c.self.invariant.linked.tied (led g (goal.at.returns-then-node-stamp-clause-link g c).After-get-node) c.item-link.ensures refl)
