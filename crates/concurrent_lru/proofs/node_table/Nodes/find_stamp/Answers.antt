use Rattle.std.proofs.Common.{◌≡◌, ◌≤◌, refl, inl, inr, arith, sym, ap, ◌∙◌, subst}
use Rattle.std.proofs.lemmas.Bool.{cases_lt}
use Rattle.std.proofs.lemmas.Option.{none-some}
use Rattle.concurrent_lru.specs.NodeTable.{HasStampAt}
use Rattle.concurrent_lru.specs.SlotTable.{entry_in}
use Rattle.concurrent_lru.proofs.Nodes.SlotViews.{node_had}
use Rattle.concurrent_lru.proofs.node_table.Nodes.find_stamp.Goals as goal

pub returns-then-has_stamp : goal.returns-then-has_stamp
returns-then-has_stamp g c = c.has_stamp.ensures.yes c.if-has_stamp.true

pub loop-slot-preserved : goal.loop-slot-preserved
loop-slot-preserved g c = λ place below has. elim (cases_lt place c.loop-slot.slot) [
  | inl before ↦ c.loop-slot.invariant place before has
  | inr from ↦ c.has_stamp.ensures.no c.if-has_stamp.false (subst (λ p. HasStampAt c.args.self.now p c.args.stamp) (let is : place ≡ c.loop-slot.slot = omega (arith, below, from) in is) has)
]

pub returns : goal.returns
returns g c = λ place e at same. elim (cases_lt place c.loop-slot.slot) [
  | inl before ↦ c.loop-slot.invariant place before (e, at, same)
  | inr from ↦
      let i = c.self.inside in
      let past : c.end_of_slots-slot-end.result ≤ place = omega (arith, from, c.loop-slot-test.false) in
      none-some e (sym (node_had i.order i.work.count c.args.self.now c.self.view_is place place refl ∙ ap entry_in (c.end_of_slots-slot-end.ensures place past)) ∙ at)
]
