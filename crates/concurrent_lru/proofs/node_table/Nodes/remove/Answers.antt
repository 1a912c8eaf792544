use Rattle.std.proofs.Common.{true, filter, not, eqb, refl, ap, ◌∙◌}
use Rattle.concurrent_lru.specs.SlotTable.{nodes_of}
use Rattle.concurrent_lru.proofs.Nodes.Listings.{looked_keeps}
use Rattle.concurrent_lru.proofs.Nodes.NodeWrites.{only_looked, then_writes}
use Rattle.concurrent_lru.proofs.Nodes.SlotViews.{idle_there, whole_kept}
use Rattle.concurrent_lru.proofs.Nodes.ShownChanges.{looked_once, shown_relinked}
use Rattle.concurrent_lru.proofs.Order.TakingOut.{left_idle, looked_up, present_in}
use Rattle.concurrent_lru.proofs.node_table.Nodes.remove.Goals as goal

pub look-pointer-requires-clause-present : goal.look-pointer-requires-clause-present
look-pointer-requires-clause-present g c = present_in c.self.inside.order c.place.inside.slot c.self.invariant.linked (idle_there c.self.inside.order c.self.inside.work.count c.args.self.now c.self.view_is true c.place.inside.slot c.args.place c.place.view_is c.requires)

pub cut-requires : goal.cut-requires
cut-requires g c =
    looked_up c.self.inside.order c.look-pointer.new.self c.look-pointer.result c.look-pointer.ensures.rest c.look-pointer.ensures.tied c.self.invariant.linked c.look-pointer.ensures.link (idle_there c.self.inside.order c.self.inside.work.count c.args.self.now c.self.view_is true c.place.inside.slot c.args.place c.place.view_is c.requires)

pub returns : goal.returns
returns g c =
    let o = c.self.inside.order in let t = c.look-pointer.new.self in let q = c.cut.new.self in
    shown_relinked o q _ 1 (λ m k. m) (λ ks k. filter (λ j. not (eqb j k)) ks) c.self.view_is c.place.view_is
    (c.cut.ensures.nodes ∙ ap (λ s. nodes_of (record o { slots = s })) c.look-pointer.ensures.rest)
    (left_idle o t q c.look-pointer.result c.look-pointer.ensures.rest c.look-pointer.ensures.link c.cut.ensures.idle)
    (then_writes o.slots t q.slots (only_looked o.slots t c.look-pointer.ensures.rest) c.cut.ensures.rest)
    (looked_keeps o.slots t q.slots.memory.cells c.look-pointer.ensures.rest c.cut.ensures.listings)
    c.self.invariant.linked.tied c.cut.ensures.linked.tied (looked_once o _ _ _ c.self.view_is (ap (λ w. w.count) c.cut.ensures.looks ∙ c.look-pointer.ensures.looks)) c.tick.ensures

pub invariant_of-self : goal.invariant_of-self
invariant_of-self g c =
    let o = c.self.inside.order in let t = c.look-pointer.new.self in let q = c.cut.new.self in (
      refl,
      tt,
      whole_kept o q c.self.invariant c.cut.ensures.linked
          (then_writes o.slots t q.slots (only_looked o.slots t c.look-pointer.ensures.rest) c.cut.ensures.rest)
          (looked_keeps o.slots t q.slots.memory.cells c.look-pointer.ensures.rest c.cut.ensures.listings),
    )
