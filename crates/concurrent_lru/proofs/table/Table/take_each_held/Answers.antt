use Rattle.std.proofs.Common.{◌≡◌, ◌+◌, ◌≤◌, None, refl, sym, ap, ◌∙◌, subst, arith}
use Rattle.std.specs.FinMap.{get}
use Rattle.concurrent_lru.specs.NodeTable.{entry_of}
use Rattle.concurrent_lru.specs.TakeAll.{TakesHeldAt}
use Rattle.concurrent_lru.proofs.Entries.HeldTaken.{AreHeldBetween, TakesSome, takes_none, takes_more, takes_each, held_between, none_at, left_at, none_between, nothing_held}
use Rattle.concurrent_lru.proofs.table.Table.take_each_held.Goals as goal
use Rattle.concurrent_lru.proofs.table.Table.take_each_held.Goals.{in-Some, in_default}

pub loop-number-init : goal.loop-number-init
loop-number-init g c = record {
  idle = c.requires;
  work = refl;
  places = subst (λ t. AreHeldBetween t 0 c.end_of_places-number-end.result) c.self.view_is (held_between c.self.invariant.stored c.end_of_places-number-end.result c.end_of_places-number-end.ensures);
  taken = subst (TakesSome c.args.self.now.held c.args.self.now.held) (sym c.none-taken.ensures) (takes_none c.args.self.now.held);
}

pub loop-number-preserved : goal.loop-number-preserved
loop-number-preserved g c =
    let i = c.loop-number.invariant in
    let now = c.loop-number.self in
    let new = c.take_held_at.new.self in
    elim c.match-take_held_at.branch [
      | in-Some w ↦
          let e = entry_of w.in-Some.node.value in
          let t = subst (λ p. TakesHeldAt now p e new) c.at.ensures w.in-Some.ensures.taken in
          record {
            idle = t.idle ∙ i.idle;
            work = t.work ∙ i.work;
            places = left_at now new c.loop-number.number c.end_of_places-number-end.result e.stamp i.places t.at t.held t.stamps;
            taken = subst (TakesSome c.args.self.now.held new.held) (sym (w.taken-is ∙ w.push_front.ensures)) (takes_more c.args.self.now.held now.held new.held c.loop-number.taken e i.taken t.entry t.held);
          }
      | in_default w ↦
          let t = w.in_default.ensures.taken in
          let free = subst (λ p. get now.stamps p ≡ None) c.at.ensures t.0 in
          record {
            idle = ap (λ x. x.idle) t.1 ∙ i.idle;
            work = ap (λ x. x.work) t.1 ∙ i.work;
            places = subst (λ x. AreHeldBetween x (c.loop-number.number + 1) c.end_of_places-number-end.result) (sym t.1) (none_at now c.loop-number.number c.end_of_places-number-end.result i.places free);
            taken = subst (λ x. TakesSome c.args.self.now.held x.held c.match-take_held_at.taken) (sym t.1) (subst (TakesSome c.args.self.now.held now.held) (sym w.taken-is) i.taken);
          }
    ]

pub returns-clause-taken : goal.returns-clause-taken
returns-clause-taken g c =
    let i = c.loop-number.invariant in
    let past : c.end_of_places-number-end.result ≤ c.loop-number.number = omega (arith, c.loop-number-test.false) in
    takes_each c.args.self.now.held c.loop-number.self.held c.loop-number.taken i.taken (none_between c.loop-number.self c.loop-number.number c.end_of_places-number-end.result past i.places)

pub returns-clause-held : goal.returns-clause-held
returns-clause-held g c =
    let i = c.loop-number.invariant in
    let past : c.end_of_places-number-end.result ≤ c.loop-number.number = omega (arith, c.loop-number-test.false) in
    nothing_held c.loop-number.self.held (none_between c.loop-number.self c.loop-number.number c.end_of_places-number-end.result past i.places)
