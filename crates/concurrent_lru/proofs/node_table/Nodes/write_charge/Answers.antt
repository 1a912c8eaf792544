use Rattle.std.proofs.Common.{refl, sym, ap, ◌∙◌, is_some}
use Rattle.concurrent_lru.specs.NodeTable.{entry_with_charge}
use Rattle.concurrent_lru.specs.SlotPointers.{with_node}
use Rattle.concurrent_lru.specs.SlotWrites.{Rewrites}
use Rattle.concurrent_lru.proofs.Nodes.NodeWrites.{only_wrote, looked_rewritten}
use Rattle.concurrent_lru.proofs.Nodes.SlotViews.{link_leads, looked_entry, node_had}
use Rattle.concurrent_lru.proofs.Nodes.ShownChanges.{shown_rewritten_only, whole_rewritten}
use Rattle.concurrent_lru.proofs.node_table.Nodes.write_charge.Goals.{After-set_charge}
use Rattle.concurrent_lru.proofs.node_table.Nodes.write_charge.Goals as goal

pub lend-node-requires : goal.lend-node-requires
lend-node-requires g c = ap is_some (link_leads c.self.inside.order c.self.inside.work.count c.args.self.now c.self.view_is c.args.place c.args.place refl c.self.invariant.linked.tied c.args.link.ptr c.requires.link)

rewritten : (g : _) (c : After-set_charge g) → Rewrites c.self.inside.order.slots (with_node c.self.inside.order.slots c.args.link.ptr c.set_charge.new.self) c.args.place (entry_with_charge c.args.charge)
rewritten g c = looked_rewritten c.self.inside.order.slots c.self.inside.order.slots c.args.link.ptr c.lend-node.result.now c.set_charge.new.self (entry_with_charge c.args.charge) refl (link_leads c.self.inside.order c.self.inside.work.count c.args.self.now c.self.view_is c.args.place c.args.place refl c.self.invariant.linked.tied c.args.link.ptr c.requires.link) c.lend-node.ensures.value c.set_charge.ensures

pub invariant_of-self : goal.invariant_of-self
invariant_of-self g c =
    let o = c.self.inside.order in let u = with_node o.slots c.args.link.ptr c.set_charge.new.self in
    (refl, tt, whole_rewritten o u (entry_with_charge c.args.charge) (λ e. refl) c.self.invariant (only_wrote o.slots u refl) (rewritten g (goal.at.invariant_of-self g c).After-set_charge))

pub returns : goal.returns
returns g c =
    let o = c.self.inside.order in let u = with_node o.slots c.args.link.ptr c.set_charge.new.self in
    let shown = shown_rewritten_only o u _ (entry_with_charge c.args.charge) c.self.view_is refl c.self.invariant.linked (only_wrote o.slots u refl) (rewritten g (goal.at.returns g c).After-set_charge) in
    let had = node_had o c.self.inside.work.count c.args.self.now c.self.view_is c.args.place c.args.place refl in
    record { charge = λ e h. ap (λ x. x.charge) (looked_entry o o.slots c.args.link.ptr c.args.place refl (link_leads o c.self.inside.work.count c.args.self.now c.self.view_is c.args.place c.args.place refl c.self.invariant.linked.tied c.args.link.ptr c.requires.link) c.lend-node.ensures.value e (sym had ∙ h)); nodes = shown.nodes; hashes = shown.hashes; links = shown.links; idle = shown.idle; spare = shown.spare; work = shown.work }
