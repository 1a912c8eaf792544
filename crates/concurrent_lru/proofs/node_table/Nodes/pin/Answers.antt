use Rattle.std.proofs.Common.{is_some, ◌≡◌, ◌≤◌, ◌+◌, ℕ, Some, true, filter, not, eqb, refl, sym, ap, ◌∙◌, arith, subst}
use Rattle.std.specs.List.{list_any}
use Rattle.concurrent_lru.specs.NodeTable.{NodeTable, entry_of, update_at, entry_with_pins}
use Rattle.concurrent_lru.specs.SlotPointers.{cells_of, with_node}
use Rattle.concurrent_lru.specs.SlotTable.{entry_at}
use Rattle.concurrent_lru.proofs.Nodes.Listings.{then_keeps}
use Rattle.concurrent_lru.proofs.Nodes.NodeWrites.{revalued, only_wrote, then_writes}
use Rattle.concurrent_lru.proofs.Nodes.SlotViews.{IsWritten, addresses_same, link_leads, idle_there, node_had, hashes_same, whole_kept, written, looked_entry}
use Rattle.concurrent_lru.proofs.node_table.Nodes.pin.Goals as goal
use Rattle.concurrent_lru.proofs.node_table.Nodes.pin.Goals.{After-set_pins}

no_pins : (n : ℕ) → n ≤ 0 → n ≡ 0
no_pins n few = omega arith

pub lend-node-requires : goal.lend-node-requires
lend-node-requires g c = ap is_some (link_leads c.self.inside.order c.self.inside.work.count c.args.self.now c.self.view_is c.args.place c.args.place refl c.self.invariant.linked.tied c.args.link.ptr c.requires.link)

-- the node was given a pin
pinned : (g : _) (c : After-set_pins g) → IsWritten c.self.inside.order (record c.self.inside.order { slots = with_node c.self.inside.order.slots c.args.link.ptr c.set_pins.new.self }) c.args.place c.args.link.ptr (entry_with_pins (c.args.pins + 1))
pinned g c =
    written c.self.inside.order c.self.inside.order.slots (with_node c.self.inside.order.slots c.args.link.ptr c.set_pins.new.self) (entry_with_pins (c.args.pins + 1)) (λ e. refl) c.self.invariant.linked refl c.self.invariant.linked.tied (link_leads c.self.inside.order c.self.inside.work.count c.args.self.now c.self.view_is c.args.place c.args.place refl c.self.invariant.linked.tied c.args.link.ptr c.requires.link) refl
    (revalued (cells_of c.self.inside.order.slots) c.args.link.ptr c.lend-node.result.now c.set_pins.new.self c.lend-node.ensures.value (entry_with_pins (c.args.pins + 1)) c.set_pins.ensures)

-- the entry of the node
was : (g : _) (c : After-set_pins g) (e : _) → entry_at c.self.inside.order c.args.place ≡ Some e → entry_of c.lend-node.result.now ≡ e
was g c = looked_entry c.self.inside.order c.self.inside.order.slots c.args.link.ptr c.args.place refl (link_leads c.self.inside.order c.self.inside.work.count c.args.self.now c.self.view_is c.args.place c.args.place refl c.self.invariant.linked.tied c.args.link.ptr c.requires.link) c.lend-node.ensures.value

pub invariant_of-self : goal.invariant_of-self
invariant_of-self g c =
    let o = c.self.inside.order in let u = with_node c.self.inside.order.slots c.args.link.ptr c.set_pins.new.self in let w = pinned g (goal.at.invariant_of-self g c).After-set_pins in
    (refl, tt, whole_kept o (record o { slots = u }) c.self.invariant w.linked (only_wrote o.slots u refl) w.listings)

pub returns-then-pins-gt0-clause-charge : goal.returns-then-pins-gt0-clause-charge
returns-then-pins-gt0-clause-charge g c e h =
    ap (λ x. x.charge) (was g (goal.at.returns-then-pins-gt0-clause-charge g c).After-set_pins e (sym (node_had c.self.inside.order c.self.inside.work.count c.args.self.now c.self.view_is c.args.place c.args.place refl) ∙ h))

pub returns-then-pins-gt0-clause-nodes : goal.returns-then-pins-gt0-clause-nodes
returns-then-pins-gt0-clause-nodes g c = (pinned g (goal.at.returns-then-pins-gt0-clause-nodes g c).After-set_pins).nodes ∙ (λ j. update_at (entry_with_pins (c.args.pins + 1)) (c.self.view_is j).nodes c.args.place)

pub returns-then-pins-gt0-clause-held : goal.returns-then-pins-gt0-clause-held
returns-then-pins-gt0-clause-held g c some = ((pinned g (goal.at.returns-then-pins-gt0-clause-held g c).After-set_pins).idle ∙ ap (λ (v : NodeTable g.row.K.Denot g.row.V.Denot). v.idle) c.self.view_is, ap (λ (v : NodeTable g.row.K.Denot g.row.V.Denot). v.work) c.self.view_is)

pub returns-then-pins-gt0-clause-hashes : goal.returns-then-pins-gt0-clause-hashes
returns-then-pins-gt0-clause-hashes g c =
    let w = pinned g (goal.at.returns-then-pins-gt0-clause-hashes g c).After-set_pins in
    hashes_same (cells_of c.self.inside.order.slots) (cells_of (with_node c.self.inside.order.slots c.args.link.ptr c.set_pins.new.self)) (λ k. (w.listings k).0) ∙ ap (λ (v : NodeTable g.row.K.Denot g.row.V.Denot). v.hashes) c.self.view_is

pub cut-requires : goal.cut-requires
cut-requires g c =
    let w = pinned g (goal.at.cut-requires g c).After-set_pins in
    let idle = idle_there c.self.inside.order c.self.inside.work.count c.args.self.now c.self.view_is true c.args.place c.args.place refl (c.requires.idle (no_pins c.args.pins c.if-pins-gt0.false)) in
    record { linked = w.linked; idle = (c.args.place, w.at, subst (λ ks. list_any (eqb c.args.place) ks ≡ true) (sym w.idle) idle) }

pub invariant_of-self-2 : goal.invariant_of-self-2
invariant_of-self-2 g c =
    let o = c.self.inside.order in let u = with_node c.self.inside.order.slots c.args.link.ptr c.set_pins.new.self in let q = c.cut.new.self in let w = pinned g (goal.at.invariant_of-self-2 g c).After-set_pins in
    (refl, tt, whole_kept o q c.self.invariant c.cut.ensures.linked (then_writes o.slots u q.slots (only_wrote o.slots u refl) c.cut.ensures.rest) (then_keeps (cells_of o.slots) (cells_of u) (cells_of q.slots) w.listings c.cut.ensures.listings))

pub returns-clause-charge : goal.returns-clause-charge
returns-clause-charge g c e h =
    ap (λ x. x.charge) (was g (goal.at.returns-clause-charge g c).After-set_pins e (sym (node_had c.self.inside.order c.self.inside.work.count c.args.self.now c.self.view_is c.args.place c.args.place refl) ∙ h))

pub returns-clause-nodes : goal.returns-clause-nodes
returns-clause-nodes g c = c.cut.ensures.nodes ∙ (pinned g (goal.at.returns-clause-nodes g c).After-set_pins).nodes ∙ (λ j. update_at (entry_with_pins (c.args.pins + 1)) (c.self.view_is j).nodes c.args.place)

pub returns-clause-revived : goal.returns-clause-revived
returns-clause-revived g c none =
    let w = pinned g (goal.at.returns-clause-revived g c).After-set_pins in (
      c.cut.ensures.idle c.args.place w.at ∙ ap (filter (λ q. not (eqb q c.args.place))) w.idle ∙ (λ j. filter (λ q. not (eqb q c.args.place)) (c.self.view_is j).idle),
      c.tick.ensures ∙ ap (λ (v : NodeTable g.row.K.Denot g.row.V.Denot). v.work + 1) c.self.view_is,
    )

pub returns-clause-hashes : goal.returns-clause-hashes
returns-clause-hashes g c =
    let o = c.self.inside.order in let u = with_node c.self.inside.order.slots c.args.link.ptr c.set_pins.new.self in let q = c.cut.new.self in let w = pinned g (goal.at.returns-clause-hashes g c).After-set_pins in
    hashes_same (cells_of o.slots) (cells_of q.slots) (λ k. (then_keeps (cells_of o.slots) (cells_of u) (cells_of q.slots) w.listings c.cut.ensures.listings k).0) ∙ ap (λ (v : NodeTable g.row.K.Denot g.row.V.Denot). v.hashes) c.self.view_is

pub returns-then-pins-gt0-clause-links : goal.returns-then-pins-gt0-clause-links
returns-then-pins-gt0-clause-links g c =
    let o = c.self.inside.order in
    addresses_same o.slots (with_node o.slots c.args.link.ptr c.set_pins.new.self) c.self.invariant.linked.tied (pinned g (goal.at.returns-then-pins-gt0-clause-links g c).After-set_pins).linked.tied refl ∙ ap (λ (v : NodeTable g.row.K.Denot g.row.V.Denot). v.links) c.self.view_is

pub returns-clause-links : goal.returns-clause-links
returns-clause-links g c =
    let o = c.self.inside.order in
    addresses_same o.slots c.cut.new.self.slots c.self.invariant.linked.tied c.cut.ensures.linked.tied (ap (λ s. s.pointers) c.cut.ensures.rest) ∙ ap (λ (v : NodeTable g.row.K.Denot g.row.V.Denot). v.links) c.self.view_is

pub returns-then-pins-gt0-clause-looks : goal.returns-then-pins-gt0-clause-looks
returns-then-pins-gt0-clause-looks g c = ap (λ (v : NodeTable g.row.K.Denot g.row.V.Denot). v.looks) c.self.view_is

pub returns-clause-looks : goal.returns-clause-looks
returns-clause-looks g c = ap (λ k. k.count) c.cut.ensures.looks ∙ ap (λ (v : NodeTable g.row.K.Denot g.row.V.Denot). v.looks) c.self.view_is
