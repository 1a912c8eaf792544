use Rattle.std.proofs.Common.{◌++◌, ◌∷◌, [], false, refl, sym, ap, ◌∙◌, subst}
use Rattle.concurrent_lru.specs.Cells.{slot_at}
use Rattle.concurrent_lru.specs.SlotTable.{Omits, nodes_of, idle_of}
use Rattle.concurrent_lru.proofs.Nodes.Listings.{looked_keeps}
use Rattle.concurrent_lru.proofs.Nodes.NodeWrites.{only_looked, then_writes}
use Rattle.concurrent_lru.proofs.Nodes.SlotViews.{present, idle_there, whole_kept}
use Rattle.concurrent_lru.proofs.Nodes.ShownChanges.{looked_once, shown_relinked}
use Rattle.concurrent_lru.proofs.Order.Appending.{table_looked}
use Rattle.concurrent_lru.proofs.node_table.Nodes.append.Goals as goal

pub look-pointer-requires-clause-present : goal.look-pointer-requires-clause-present
look-pointer-requires-clause-present g c = present c.self.inside.order c.self.inside.work.count c.args.self.now c.self.view_is c.place.inside.slot c.args.place c.place.view_is c.requires.within

pub push-requires : goal.push-requires
push-requires g c =
    let o = c.self.inside.order in
    record {
      linked = table_looked o c.look-pointer.new.self c.look-pointer.ensures.rest c.look-pointer.ensures.tied c.self.invariant.linked;
      own = ap (λ t. slot_at t.memory.cells c.look-pointer.result) c.look-pointer.ensures.rest ∙ c.look-pointer.ensures.link;
      held = subst (λ t. Omits (record o { slots = t }) c.place.inside.slot) (sym c.look-pointer.ensures.rest) (idle_there c.self.inside.order c.self.inside.work.count c.args.self.now c.self.view_is false c.place.inside.slot c.args.place c.place.view_is c.requires.held);
    }

pub returns : goal.returns
returns g c =
    let o = c.self.inside.order in let t = c.look-pointer.new.self in let q = c.push.new.self in
    shown_relinked o q _ 1 (λ m k. m) (λ ks k. ks ++ k ∷ []) c.self.view_is c.place.view_is
    (c.push.ensures.nodes ∙ ap (λ s. nodes_of (record o { slots = s })) c.look-pointer.ensures.rest)
    (c.push.ensures.idle ∙ ap (λ s. idle_of (record o { slots = s }) ++ c.place.inside.slot ∷ []) c.look-pointer.ensures.rest)
    (then_writes o.slots t q.slots (only_looked o.slots t c.look-pointer.ensures.rest) c.push.ensures.rest)
    (looked_keeps o.slots t q.slots.memory.cells c.look-pointer.ensures.rest c.push.ensures.listings)
    c.self.invariant.linked.tied c.push.ensures.linked.tied (looked_once o _ _ _ c.self.view_is (ap (λ w. w.count) c.push.ensures.looks ∙ c.look-pointer.ensures.looks)) c.tick.ensures

pub invariant_of-self : goal.invariant_of-self
invariant_of-self g c =
    let o = c.self.inside.order in let t = c.look-pointer.new.self in let q = c.push.new.self in (
      refl,
      tt,
      whole_kept o q c.self.invariant c.push.ensures.linked
          (then_writes o.slots t q.slots (only_looked o.slots t c.look-pointer.ensures.rest) c.push.ensures.rest)
          (looked_keeps o.slots t q.slots.memory.cells c.look-pointer.ensures.rest c.push.ensures.listings),
    )
