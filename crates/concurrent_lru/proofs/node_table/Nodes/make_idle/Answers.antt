use Rattle.std.proofs.Common.{is_some, ◌≡◌, ◌++◌, ◌∷◌, [], false, eqb, refl, sym, ap, ◌∙◌, subst}
use Rattle.std.specs.List.{list_any}
use Rattle.concurrent_lru.specs.NodeTable.{update_at, entry_with_pins}
use Rattle.concurrent_lru.specs.SlotPointers.{cells_of, with_node}
use Rattle.concurrent_lru.proofs.Nodes.Listings.{then_keeps}
use Rattle.concurrent_lru.proofs.Nodes.NodeWrites.{revalued, only_wrote, then_writes}
use Rattle.concurrent_lru.proofs.Nodes.SlotViews.{IsWritten, link_leads, idle_there, node_had, whole_kept, written, looked_entry}
use Rattle.concurrent_lru.proofs.Nodes.ShownChanges.{shown_relinked}
use Rattle.concurrent_lru.proofs.node_table.Nodes.make_idle.Goals.{After-set_pins}
use Rattle.concurrent_lru.proofs.node_table.Nodes.make_idle.Goals as goal

pub lend-node-requires : goal.lend-node-requires
lend-node-requires g c = ap is_some (link_leads c.self.inside.order c.self.inside.work.count c.args.self.now c.self.view_is c.place.inside.slot c.args.place c.place.view_is c.self.invariant.linked.tied c.args.link.ptr c.requires.link)

-- the pins of the node were removed
rested : (g : _) (c : After-set_pins g) → IsWritten c.self.inside.order (record c.self.inside.order { slots = with_node c.self.inside.order.slots c.args.link.ptr c.set_pins.new.self }) c.place.inside.slot c.args.link.ptr (entry_with_pins 0)
rested g c =
    written c.self.inside.order c.self.inside.order.slots (with_node c.self.inside.order.slots c.args.link.ptr c.set_pins.new.self) (entry_with_pins 0) (λ e. refl) c.self.invariant.linked refl c.self.invariant.linked.tied (link_leads c.self.inside.order c.self.inside.work.count c.args.self.now c.self.view_is c.place.inside.slot c.args.place c.place.view_is c.self.invariant.linked.tied c.args.link.ptr c.requires.link) refl (revalued (cells_of c.self.inside.order.slots) c.args.link.ptr c.lend-node.result.now c.set_pins.new.self c.lend-node.ensures.value (entry_with_pins 0) c.set_pins.ensures)

pub push-requires : goal.push-requires
push-requires g c =
    let w = rested g (goal.at.push-requires g c).After-set_pins in
    record { linked = w.linked; own = w.at; held = subst (λ ks. list_any (eqb c.place.inside.slot) ks ≡ false) (sym w.idle) (idle_there c.self.inside.order c.self.inside.work.count c.args.self.now c.self.view_is false c.place.inside.slot c.args.place c.place.view_is c.requires.held) }

pub returns : goal.returns
returns g c =
    let o = c.self.inside.order in let u = with_node c.self.inside.order.slots c.args.link.ptr c.set_pins.new.self in let q = c.push.new.self in
    let w = rested g (goal.at.returns g c).After-set_pins in
    let shown = shown_relinked o q _ 1 (update_at (entry_with_pins 0)) (λ ks k. ks ++ k ∷ []) c.self.view_is c.place.view_is (c.push.ensures.nodes ∙ w.nodes) (c.push.ensures.idle ∙ ap (λ ks. ks ++ c.place.inside.slot ∷ []) w.idle)
    (then_writes o.slots u q.slots (only_wrote o.slots u refl) c.push.ensures.rest) (then_keeps (cells_of o.slots) (cells_of u) (cells_of q.slots) w.listings c.push.ensures.listings)
    c.self.invariant.linked.tied c.push.ensures.linked.tied (ap (λ k. k.count) c.push.ensures.looks ∙ ap (λ v. v.looks) c.self.view_is) c.tick.ensures in
    let had = node_had o c.self.inside.work.count c.args.self.now c.self.view_is c.place.inside.slot c.args.place c.place.view_is in
    record { nodes = shown.nodes; hashes = shown.hashes; links = shown.links; idle = shown.idle; charge = λ e h. ap (λ x. x.charge) (looked_entry o o.slots c.args.link.ptr c.place.inside.slot refl (link_leads c.self.inside.order c.self.inside.work.count c.args.self.now c.self.view_is c.place.inside.slot c.args.place c.place.view_is c.self.invariant.linked.tied c.args.link.ptr c.requires.link) c.lend-node.ensures.value e (sym had ∙ h)); spare = shown.spare; work = shown.work; looks = shown.looks }

pub invariant_of-self : goal.invariant_of-self
invariant_of-self g c =
    let o = c.self.inside.order in let u = with_node c.self.inside.order.slots c.args.link.ptr c.set_pins.new.self in let q = c.push.new.self in
    let w = rested g (goal.at.invariant_of-self g c).After-set_pins in
    (refl, tt, whole_kept o q c.self.invariant c.push.ensures.linked (then_writes o.slots u q.slots (only_wrote o.slots u refl) c.push.ensures.rest) (then_keeps (cells_of o.slots) (cells_of u) (cells_of q.slots) w.listings c.push.ensures.listings))
