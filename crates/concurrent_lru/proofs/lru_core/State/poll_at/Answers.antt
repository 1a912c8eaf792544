use Rattle.std.proofs.Common.{[], refl, sym, ap, ◌∙◌, subst, inr}
use Rattle.concurrent_lru.specs.Cache.{making, untaken, ready, held_at}
use Rattle.concurrent_lru.specs.Steps.{Holds, ChangesPhase}
use Rattle.concurrent_lru.specs.NodeTable.{entry_of, phase_of}
use Rattle.concurrent_lru.specs.Representation.{held_entry}
use Rattle.concurrent_lru.specs.Entries.{cache_with}
use Rattle.concurrent_lru.specs.Request as ask
use Rattle.concurrent_lru.proofs.Entries.EntryAtPlace.{held_is, held_place, holds}
use Rattle.concurrent_lru.proofs.Steps.PollWithoutChange.{none_if_no_some, changes_phase_same}
use Rattle.concurrent_lru.proofs.Steps.ReadyAndPoll.{changes_phase_lawful}
use Rattle.concurrent_lru.proofs.Steps.MemoryRefused.{polled_memory}
use Rattle.concurrent_lru.proofs.Entries.StepsOfEntries.{changes_phase}
use Rattle.concurrent_lru.proofs.lru_core.State.poll_at.Goals as goal
use Rattle.concurrent_lru.proofs.lru_core.State.poll_at.Goals.{After-set_phase}

pub returns-in_default-clause-step : goal.returns-in_default-clause-step
returns-in_default-clause-step g c = (
  ap (λ k. held_at k.cache c.args.spot.now.stamp) (sym c.self.view_is)
      ∙ none_if_no_some (held_at (cache_with c.self.inside.capacity c.self.inside.most_pins c.self.inside.next c.self.inside.table) c.args.spot.now.stamp) (λ h at. c.in_default.ensures.found h.key h.charge (inr (h, at, refl, refl))),
  refl,
)

pub returns-then-node-eq0-clause-step : goal.returns-then-node-eq0-clause-step
returns-then-node-eq0-clause-step g c = (
  ap (λ k. held_at k.cache c.args.spot.now.stamp) (sym c.self.view_is)
      ∙ none_if_no_some (held_at (cache_with c.self.inside.capacity c.self.inside.most_pins c.self.inside.next c.self.inside.table) c.args.spot.now.stamp)
      (λ h at. (held_is c.in-Some.ensures.node.entry c.self.invariant.lawful c.args.spot.now.stamp h c.in-Some.ensures.found at).0 c.if-node-eq0.true),
  refl,
)

pub returns-in-Making-clause-step : goal.returns-in-Making-clause-step
returns-in-Making-clause-step g c =
    let h = held_entry (entry_of c.in-Some.found.node.now) in
    let here = holds c.in-Some.ensures.node.entry c.self.inside.capacity c.self.inside.most_pins c.self.inside.next c.args.spot.now.stamp making c.in-Some.ensures.found c.if-node-eq0.false (ap phase_of c.in-Making.is) in
    (refl, changes_phase_same g.K.PartialEq.eq c.args.self.now.cache c.args.spot.now.stamp h making (subst (λ k. Holds k c.args.spot.now.stamp h making) (ap (λ x. x.cache) c.self.view_is) here))

pub returns-in_ok-share-in-Ready-clause-step : goal.returns-in_ok-share-in-Ready-clause-step
returns-in_ok-share-in-Ready-clause-step g c =
    let v = g.M.Sharing.seen c.in_ok-share-in-Ready.field-0 in
    let h = held_entry (entry_of c.in-Some.found.node.now) in
    let here = holds c.in-Some.ensures.node.entry c.self.inside.capacity c.self.inside.most_pins c.self.inside.next c.args.spot.now.stamp (ready v) c.in-Some.ensures.found c.if-node-eq0.false (ap phase_of c.in-Ready.is ∙ ap ready (sym c.in_ok-share-in-Ready.ensures)) in
    (refl, changes_phase_same g.K.PartialEq.eq c.args.self.now.cache c.args.spot.now.stamp h (ready v) (subst (λ k. Holds k c.args.spot.now.stamp h (ready v)) (ap (λ x. x.cache) c.self.view_is) here))

pub returns-in_err-share-in-Ready-clause-step : goal.returns-in_err-share-in-Ready-clause-step
returns-in_err-share-in-Ready-clause-step g c =
    let v = c.in-Ready.value in
    let h = held_entry (entry_of c.in-Some.found.node.now) in
    let here = holds c.in-Some.ensures.node.entry c.self.inside.capacity c.self.inside.most_pins c.self.inside.next c.args.spot.now.stamp (ready v) c.in-Some.ensures.found c.if-node-eq0.false (ap phase_of c.in-Ready.is) in
    polled_memory g.M.Sharing.seen g.K.PartialEq.eq c.args.self.now.cache (ask.poll c.args.spot.now.stamp) c.from_residual.result _ c.from_residual.ensures.1 refl
    (h, v, subst (λ k. Holds k c.args.spot.now.stamp h (ready v)) (ap (λ x. x.cache) c.self.view_is) here)

pub set_phase-requires-clause-held : goal.set_phase-requires-clause-held
set_phase-requires-clause-held g c = held_place c.in-Some.ensures.node.entry c.if-node-eq0.false

takes : (g : _) (c : After-set_phase g) → ChangesPhase g.K.PartialEq.eq (cache_with c.self.inside.capacity c.self.inside.most_pins c.self.inside.next c.self.inside.table) c.args.spot.now.stamp untaken making [] (cache_with c.self.inside.capacity c.self.inside.most_pins c.self.inside.next c.set_phase.new.self)
takes g c = changes_phase g.K.PartialEq.eq c.self.inside.capacity c.self.inside.most_pins c.self.inside.next c.in-Some.ensures.node.entry c.set_phase.new.self c.args.spot.now.stamp untaken making c.in-Some.ensures.found c.if-node-eq0.false (ap phase_of c.in-Untaken.is) c.set_phase.ensures

pub invariant_of-self : goal.invariant_of-self
invariant_of-self g c = record { lawful = changes_phase_lawful _ _ _ _ _ _ _ c.self.invariant.lawful (takes g c); pins_above = c.self.invariant.pins_above }

pub returns-in-Untaken-clause-step : goal.returns-in-Untaken-clause-step
returns-in-Untaken-clause-step g c = (refl, subst (λ old. ChangesPhase g.K.PartialEq.eq old c.args.spot.now.stamp untaken making [] (cache_with c.self.inside.capacity c.self.inside.most_pins c.self.inside.next c.set_phase.new.self)) (ap (λ x. x.cache) c.self.view_is) (takes g c))

pub returns-in-Untaken-clause-lawful : goal.returns-in-Untaken-clause-lawful
returns-in-Untaken-clause-lawful g c = changes_phase_lawful _ _ _ _ _ _ _ c.self.invariant.lawful (takes g c)
