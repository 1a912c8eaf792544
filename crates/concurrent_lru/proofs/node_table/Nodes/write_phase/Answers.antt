use Rattle.std.proofs.Common.{refl, ap, is_some}
use Rattle.concurrent_lru.specs.NodeTable.{entry_with_phase}
use Rattle.concurrent_lru.specs.SlotPointers.{with_node}
use Rattle.concurrent_lru.specs.SlotWrites.{Rewrites}
use Rattle.concurrent_lru.proofs.Nodes.NodeWrites.{only_wrote, looked_rewritten}
use Rattle.concurrent_lru.proofs.Nodes.SlotViews.{link_leads}
use Rattle.concurrent_lru.proofs.Nodes.ShownChanges.{shown_rewritten_only, whole_rewritten}
use Rattle.concurrent_lru.proofs.node_table.Nodes.write_phase.Goals.{After-set_phase}
use Rattle.concurrent_lru.proofs.node_table.Nodes.write_phase.Goals as goal

pub lend-requires : goal.lend-requires
lend-requires g c = ap is_some (link_leads c.self.inside.order c.self.inside.work.count c.args.self.now c.self.view_is c.args.place c.args.place refl c.self.invariant.linked.tied c.args.link.ptr c.requires.link)

rewritten : (g : _) (c : After-set_phase g) → Rewrites c.self.inside.order.slots (with_node c.self.inside.order.slots c.args.link.ptr c.set_phase.new.self) c.args.place (entry_with_phase c.args.phase)
rewritten g c = looked_rewritten c.self.inside.order.slots c.self.inside.order.slots c.args.link.ptr c.lend.result.now c.set_phase.new.self (entry_with_phase c.args.phase) refl (link_leads c.self.inside.order c.self.inside.work.count c.args.self.now c.self.view_is c.args.place c.args.place refl c.self.invariant.linked.tied c.args.link.ptr c.requires.link) c.lend.ensures.value c.set_phase.ensures

pub invariant_of-self : goal.invariant_of-self
invariant_of-self g c =
    let o = c.self.inside.order in let u = with_node o.slots c.args.link.ptr c.set_phase.new.self in
    (refl, tt, whole_rewritten o u (entry_with_phase c.args.phase) (λ e. refl) c.self.invariant (only_wrote o.slots u refl) (rewritten g (goal.at.invariant_of-self g c).After-set_phase))

pub returns : goal.returns
returns g c =
    let o = c.self.inside.order in let u = with_node o.slots c.args.link.ptr c.set_phase.new.self in
    shown_rewritten_only o u _ (entry_with_phase c.args.phase) c.self.view_is refl c.self.invariant.linked (only_wrote o.slots u refl) (rewritten g (goal.at.returns g c).After-set_phase)
