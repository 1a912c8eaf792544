use Rattle.std.proofs.Common.{◌≡◌, true, false, refl, sym, ap, ◌∙◌, subst, inl, inr}
use Rattle.std.proofs.lemmas.Bool.{cases_eq, true≢false}
use Rattle.concurrent_lru.specs.Cells.{cell_at}
use Rattle.concurrent_lru.specs.Listing.{listing, LeadsToCandidate}
use Rattle.concurrent_lru.specs.NodeTable.{entry_of}
use Rattle.concurrent_lru.specs.Probing.Entries.{Holds, entry}
use Rattle.concurrent_lru.specs.Probing.OpenTable.{mark_of, HasMark}
use Rattle.concurrent_lru.specs.Probing.Probes.{marks_of, mark_at}
use Rattle.concurrent_lru.proofs.Nodes.Listings.{leads, candidate, candidate_leads, cell_listed, only_candidate, candidate_there, entry_cell, hash_cell}
use Rattle.concurrent_lru.proofs.Nodes.SlotViews.{leads_link, node_had, hash_had}
use Rattle.concurrent_lru.proofs.Nodes.ShownChanges.{shown_found}
use Rattle.concurrent_lru.proofs.Probing.Contents.Slots.{holds_mark}
use Rattle.concurrent_lru.proofs.Probing.Marks.{mark_filled}
use Rattle.concurrent_lru.proofs.Probing.Tables.Lookups.{item_mark, item_filled, fewer, past, none_past}
use Rattle.concurrent_lru.proofs.node_table.Nodes.find_key.Goals as goal
use Rattle.concurrent_lru.proofs.node_table.Nodes.find_key.Goals.{After-get-node}

pub walk-init : goal.walk-init
walk-init g c = record {
  mark = c.first-at.ensures.mark;
  ahead = λ k slot d at hash same h. c.first-at.ensures.all k (holds_mark c.self.inside.order.slots.by_hash k (listing d) h ∙ ap mark_of hash);
}

pub item-link-requires : goal.item-link-requires
item-link-requires g c = item_filled c.self.inside.order.slots.by_hash (mark_of c.args.hash) (mark_filled c.args.hash) c.walk.at c.in-Item.cursor c.in-Item.is c.walk.invariant.mark

pub get-node-requires : goal.get-node-requires
get-node-requires g c = let s = c.self.inside.order.slots in leads s c.in-Item.cursor (entry (mark_at (marks_of s.by_hash) c.in-Item.cursor) c.item-link.result) c.self.invariant.linked.tied c.self.invariant.listed c.item-link.ensures

-- the node at the cursor
led : (g : _) (c : After-get-node g) → LeadsToCandidate c.self.inside.order.slots c.in-Item.cursor c.get-node.result.now
led g c = let s = c.self.inside.order.slots in candidate s c.in-Item.cursor (entry (mark_at (marks_of s.by_hash) c.in-Item.cursor) c.item-link.result) c.get-node.result.now c.self.invariant.linked.tied c.self.invariant.listed c.item-link.ensures c.get-node.ensures

pub next-at-requires : goal.next-at-requires
next-at-requires g c = item_filled c.self.inside.order.slots.by_hash (mark_of c.args.hash) (mark_filled c.args.hash) c.walk.at c.in-Item.cursor c.in-Item.is c.walk.invariant.mark

pub walk-smaller : goal.walk-smaller
walk-smaller g c = fewer c.self.inside.order.slots.by_hash (mark_of c.args.hash) (mark_filled c.args.hash) c.walk.at c.next-at.result c.in-Item.cursor c.in-Item.is c.next-at.ensures.rest

pub walk-preserved : goal.walk-preserved
walk-preserved g c =
    let s = c.self.inside.order.slots in let n = c.get-node.result.now in
    let mark : mark_at (marks_of s.by_hash) c.in-Item.cursor ≡ mark_of c.args.hash = item_mark s.by_hash (mark_of c.args.hash) (mark_filled c.args.hash) c.walk.at c.in-Item.cursor c.in-Item.is c.walk.invariant.mark in
    record {
      mark = subst (λ m. HasMark s.by_hash m c.next-at.result) mark c.next-at.ensures.mark;
      ahead = λ k slot d at hash same h. elim (cases_eq k c.in-Item.cursor) [
        | inl is ↦
            let node : n ≡ d.value = only_candidate s c.in-Item.cursor slot n d (listing d) c.self.invariant.linked.tied (led g (goal.at.walk-preserved g c).After-get-node) at (subst (λ j. Holds s.by_hash j (listing d)) is h) refl in
            absurd (true≢false (sym same ∙ ap (λ x. g.K.PartialEq.eq (entry_of x).key (g.Q.AsKey.owned c.args.key)) (sym node) ∙ sym c.is_key.ensures ∙ c.if-is_key.false))
        | inr ne ↦ past s.by_hash (mark_of c.args.hash) (mark_filled c.args.hash) c.walk.at c.next-at.result c.in-Item.cursor c.in-Item.is c.next-at.ensures.rest k ne (c.walk.invariant.ahead k slot d at hash same h)
      ];
    }

pub returns-then-is_key-clause-found : goal.returns-then-is_key-clause-found
returns-then-is_key-clause-found g c = let to = led g (goal.at.returns-then-is_key-clause-found g c).After-get-node in (ap (λ x. (entry_of x).detached) to.is ∙ to.found, sym c.is_key.ensures ∙ c.if-is_key.true)

pub returns-then-is_key-clause-node : goal.returns-then-is_key-clause-node
returns-then-is_key-clause-node g c =
    let o = c.self.inside.order in let to = led g (goal.at.returns-then-is_key-clause-node g c).After-get-node in
    shown_found o _ _ c.get-node.result.now c.self.view_is c.self.invariant.linked (to.cell, candidate_there o.slots c.in-Item.cursor c.get-node.result.now c.self.invariant.linked.tied to, to.is)

pub returns-clause-found : goal.returns-clause-found
returns-clause-found g c = λ p e at found hash.
    let i = c.self.inside in
    let s = i.order.slots in
    let cell = entry_cell (cell_at s.memory.cells p) e (sym (node_had i.order i.work.count c.args.self.now c.self.view_is p p refl) ∙ at) in
    let d = cell.0 in let same = cell.2 in
    let hashed = hash_cell (cell_at s.memory.cells p) d c.args.hash cell.1 (sym (hash_had i.order i.work.count c.args.self.now c.self.view_is p p refl) ∙ hash) in
    let h = c.self.invariant.listed.listed p (listing d) (cell_listed (cell_at s.memory.cells p) d cell.1 (ap (λ x. x.detached) same ∙ found)) in
    ap (λ x. g.K.PartialEq.eq x.key (g.Q.AsKey.owned c.args.key)) (sym same) ∙ (elim (g.K.PartialEq.eq (entry_of d.value).key (g.Q.AsKey.owned c.args.key)) as (λ b. g.K.PartialEq.eq (entry_of d.value).key (g.Q.AsKey.owned c.args.key) ≡ b → b ≡ false) [
      | true ↦ λ is. absurd (none_past s.by_hash (mark_of c.args.hash) (mark_filled c.args.hash) c.walk.at h.0 c.in_default.not-Item (c.walk.invariant.ahead h.0 p d cell.1 hashed is h.1))
      | false ↦ λ other. refl
    ] refl)

pub returns-then-is_key-clause-link : goal.returns-then-is_key-clause-link
returns-then-is_key-clause-link g c =
    let o = c.self.inside.order in let s = o.slots in
    leads_link o _ _ c.self.view_is _ _ refl c.item-link.result.ptr (candidate_leads s c.in-Item.cursor _ c.get-node.result.now (entry (mark_at (marks_of s.by_hash) c.in-Item.cursor) c.item-link.result) c.self.invariant.linked.tied (led g (goal.at.returns-then-is_key-clause-link g c).After-get-node) c.item-link.ensures refl)
