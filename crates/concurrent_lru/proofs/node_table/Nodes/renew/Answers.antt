use Rattle.std.proofs.Common.{◌++◌, ◌∷◌, [], true, filter, not, eqb, refl, ap, ◌∙◌, arith}
use Rattle.std.specs.List.{list_any}
use Rattle.concurrent_lru.specs.SlotPointers.{cells_of}
use Rattle.concurrent_lru.specs.SlotTable.{idle_of}
use Rattle.concurrent_lru.proofs.Lists.DistinctNumbers.{list_any-filter_self}
use Rattle.concurrent_lru.proofs.Nodes.Listings.{then_keeps}
use Rattle.concurrent_lru.proofs.Nodes.NodeWrites.{then_writes}
use Rattle.concurrent_lru.proofs.Nodes.PointersTied.{slot_stays}
use Rattle.concurrent_lru.proofs.Nodes.SlotViews.{idle_there, link_leads, whole_kept}
use Rattle.concurrent_lru.proofs.Nodes.ShownChanges.{shown_relinked}
use Rattle.concurrent_lru.proofs.Order.TakingOut.{left_idle, looked_up}
use Rattle.concurrent_lru.proofs.node_table.Nodes.renew.Goals as goal

pub cut-requires : goal.cut-requires
cut-requires g c =
    looked_up c.self.inside.order c.self.inside.order.slots c.args.link.ptr refl c.self.invariant.linked.tied c.self.invariant.linked (link_leads c.self.inside.order c.self.inside.work.count c.args.self.now c.self.view_is c.place.inside.slot c.args.place c.place.view_is c.self.invariant.linked.tied c.args.link.ptr c.requires.link) (idle_there c.self.inside.order c.self.inside.work.count c.args.self.now c.self.view_is true c.place.inside.slot c.args.place c.place.view_is c.requires.idle)

pub push-requires-clause-own : goal.push-requires-clause-own
push-requires-clause-own g c =
    slot_stays c.self.inside.order.slots c.cut.new.self.slots c.place.inside.slot c.args.link.ptr c.self.invariant.linked.tied c.cut.ensures.linked.tied (ap (λ x. x.pointers) c.cut.ensures.rest) (link_leads c.self.inside.order c.self.inside.work.count c.args.self.now c.self.view_is c.place.inside.slot c.args.place c.place.view_is c.self.invariant.linked.tied c.args.link.ptr c.requires.link)

pub push-requires-clause-held : goal.push-requires-clause-held
push-requires-clause-held g c =
    ap (list_any (eqb c.place.inside.slot)) (left_idle c.self.inside.order c.self.inside.order.slots c.cut.new.self c.args.link.ptr refl (link_leads c.self.inside.order c.self.inside.work.count c.args.self.now c.self.view_is c.place.inside.slot c.args.place c.place.view_is c.self.invariant.linked.tied c.args.link.ptr c.requires.link) c.cut.ensures.idle) ∙ list_any-filter_self c.place.inside.slot (idle_of c.self.inside.order)

pub returns : goal.returns
returns g c =
    let o = c.self.inside.order in let u = c.cut.new.self in let q = c.push.new.self in
    shown_relinked o q _ 2 (λ m k. m) (λ ks k. filter (λ j. not (eqb j k)) ks ++ k ∷ []) c.self.view_is c.place.view_is
    (c.push.ensures.nodes ∙ c.cut.ensures.nodes)
    (c.push.ensures.idle ∙ ap (λ ks. ks ++ c.place.inside.slot ∷ []) (left_idle o o.slots u c.args.link.ptr refl (link_leads c.self.inside.order c.self.inside.work.count c.args.self.now c.self.view_is c.place.inside.slot c.args.place c.place.view_is c.self.invariant.linked.tied c.args.link.ptr c.requires.link) c.cut.ensures.idle))
    (then_writes o.slots u.slots q.slots c.cut.ensures.rest c.push.ensures.rest)
    (then_keeps (cells_of o.slots) (cells_of u.slots) (cells_of q.slots) c.cut.ensures.listings c.push.ensures.listings)
    c.self.invariant.linked.tied c.push.ensures.linked.tied (ap (λ w. w.count) (c.push.ensures.looks ∙ c.cut.ensures.looks) ∙ ap (λ v. v.looks) c.self.view_is) (let first = c.tick.ensures in let second = c.tick-2.ensures in omega (arith, first, second))

pub invariant_of-self : goal.invariant_of-self
invariant_of-self g c =
    let o = c.self.inside.order in let u = c.cut.new.self in let q = c.push.new.self in (
      refl,
      tt,
      whole_kept o q c.self.invariant c.push.ensures.linked
          (then_writes o.slots u.slots q.slots c.cut.ensures.rest c.push.ensures.rest)
          (then_keeps (cells_of o.slots) (cells_of u.slots) (cells_of q.slots) c.cut.ensures.listings c.push.ensures.listings),
    )
