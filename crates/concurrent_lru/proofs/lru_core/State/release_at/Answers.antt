use Rattle.std.proofs.Common.{◌≡◌, ℕ, ◌<◌, [], refl, ap, ◌∙◌, subst, arith, inl, inr}
use Rattle.concurrent_lru.specs.Cache.{ready, IsLawful, held_at}
use Rattle.concurrent_lru.specs.Steps.{Leaves, Rests, Ends}
use Rattle.concurrent_lru.specs.NodeTable.{entry_of, phase_of}
use Rattle.concurrent_lru.specs.Entries.{cache_with}
use Rattle.concurrent_lru.proofs.Entries.EntryAtPlace.{held_is, held_place, not_in_phase, ready_place}
use Rattle.concurrent_lru.proofs.Steps.Release.{phase_ready, leaves_lawful, left_seen, rests_lawful}
use Rattle.concurrent_lru.proofs.Steps.LawfulAfterLeaving.{ends_lawful}
use Rattle.concurrent_lru.proofs.Entries.StepsOfEntries.{leaves_as_it_is, rests, ends}
use Rattle.concurrent_lru.proofs.lru_core.State.release_at.Goals as goal
use Rattle.concurrent_lru.proofs.lru_core.State.release_at.Goals.{After-none, After-settle, After-one}

pub returns-in_default-clause-step : goal.returns-in_default-clause-step
returns-in_default-clause-step g c = (λ h v holds. c.in_default.ensures.found h.key h.charge (inr (h, ap (λ k. held_at k.cache c.args.spot.now.stamp) c.self.view_is ∙ holds.at, refl, refl)), refl)

pub returns-in_default-phase : goal.returns-in_default-phase
returns-in_default-phase g c = record { step = (λ h v. not_in_phase c.in-Some.ensures.node.entry c.self.invariant.lawful (ready v) (ap (λ x. x.cache) c.self.view_is) c.args.spot.now.stamp c.in-Some.ensures.found (λ e. let r = phase_ready _ v e in c.in_default-phase.not-Ready r.0 r.1) h, refl); work = refl; lawful = subst (IsLawful _) (ap (λ x. x.cache) c.self.view_is) c.self.invariant.lawful }

pub returns-then-pins-eq0-clause-step : goal.returns-then-pins-eq0-clause-step
returns-then-pins-eq0-clause-step g c = (
  λ h v holds. (held_is c.in-Some.ensures.node.entry c.self.invariant.lawful c.args.spot.now.stamp h c.in-Some.ensures.found (ap (λ k. held_at k.cache c.args.spot.now.stamp) c.self.view_is ∙ holds.at)).0 c.if-pins-eq0.true,
  refl,
)

pub set_pins-requires-clause-held : goal.set_pins-requires-clause-held
set_pins-requires-clause-held g c = held_place c.in-Some.ensures.node.entry c.if-pins-eq0.false

unpinned : (g : _) (c : After-none g) → Leaves g.K.PartialEq.eq (cache_with c.self.inside.capacity c.self.inside.most_pins c.self.inside.next c.self.inside.table) c.args.spot.now.stamp (ready c.in-Ready.field-0) (ready c.in-Ready.field-0) [] (cache_with c.self.inside.capacity c.self.inside.most_pins c.self.inside.next c.set_pins.new.self)
unpinned g c = leaves_as_it_is g.K.PartialEq.eq c.self.inside.capacity c.self.inside.most_pins c.self.inside.next c.in-Some.ensures.node.entry c.set_pins.new.self c.args.spot.now.stamp (ready c.in-Ready.field-0) c.in-Some.ensures.found c.if-pins-gt1.true (ap phase_of c.in-Ready.is) c.set_pins.ensures

pub invariant_of-self : goal.invariant_of-self
invariant_of-self g c = record { lawful = leaves_lawful _ _ _ _ _ _ _ c.self.invariant.lawful (unpinned g c); pins_above = c.self.invariant.pins_above }

pub returns-then-pins-gt1-clause-step : goal.returns-then-pins-gt1-clause-step
returns-then-pins-gt1-clause-step g c = inl (c.in-Ready.field-0, left_seen (ap (λ x. x.cache) c.self.view_is) c.none.ensures (unpinned g c))

pub returns-then-pins-gt1-clause-lawful : goal.returns-then-pins-gt1-clause-lawful
returns-then-pins-gt1-clause-lawful g c = leaves_lawful _ _ _ _ _ _ _ c.self.invariant.lawful (unpinned g c)

pub make_idle-requires-clause-ready : goal.make_idle-requires-clause-ready
make_idle-requires-clause-ready g c = ready_place c.in-Some.ensures.node.entry c.in-Ready.field-0 (ap phase_of c.in-Ready.is) c.if-pins-eq0.false c.if-detached.false

one : (n : ℕ) → (n ≡ 0 → ⊥) → (1 < n → ⊥) → n ≡ 1
one n some few = omega arith

ended : (g : _) (c : After-one g) → Ends g.K.PartialEq.eq (cache_with c.self.inside.capacity c.self.inside.most_pins c.self.inside.next c.self.inside.table) c.args.spot.now.stamp c.one.result (cache_with c.self.inside.capacity c.self.inside.most_pins c.self.inside.next c.take_held.new.self)
ended g c =
    let few = c.if-pins-gt1.false in
    ends g.K.PartialEq.eq c.self.inside.capacity c.self.inside.most_pins c.self.inside.next c.in-Some.ensures.node.entry c.take_held.new.self c.args.spot.now.stamp c.in-Ready.field-0 (entry_of c.take_held.result.value) c.one.result c.in-Some.ensures.found
    (ap phase_of c.in-Ready.is) c.if-detached.true (one (entry_of c.in-Some.found.node.now).pins c.if-pins-eq0.false (λ many. omega (arith, many, few))) c.take_held.ensures.at c.take_held.ensures.entry c.take_held.ensures.idle c.take_held.ensures.held c.one.ensures

pub invariant_of-self-then-detached : goal.invariant_of-self-then-detached
invariant_of-self-then-detached g c = record { lawful = ends_lawful _ _ _ _ _ c.self.invariant.lawful (ended g c); pins_above = c.self.invariant.pins_above }

pub returns-then-detached-clause-step : goal.returns-then-detached-clause-step
returns-then-detached-clause-step g c = inr (inr (subst (λ old. Ends g.K.PartialEq.eq old c.args.spot.now.stamp c.one.result (cache_with c.self.inside.capacity c.self.inside.most_pins c.self.inside.next c.take_held.new.self)) (ap (λ x. x.cache) c.self.view_is) (ended g c)))

pub returns-then-detached-clause-lawful : goal.returns-then-detached-clause-lawful
returns-then-detached-clause-lawful g c = ends_lawful _ _ _ _ _ c.self.invariant.lawful (ended g c)

rested : (g : _) (c : After-settle g) → Rests g.K.PartialEq.eq (cache_with c.self.inside.capacity c.self.inside.most_pins c.self.inside.next c.self.inside.table) c.args.spot.now.stamp c.settle.result (cache_with c.self.inside.capacity c.self.inside.most_pins c.self.inside.next c.settle.new.self)
rested g c =
    let few = c.if-pins-gt1.false in
    rests g.K.PartialEq.eq c.self.inside.capacity c.self.inside.most_pins c.self.inside.next c.in-Some.ensures.node.entry c.make_idle.new.self c.settle.new.self c.args.spot.now.stamp c.settle.result c.in-Some.ensures.found
    (one (entry_of c.in-Some.found.node.now).pins c.if-pins-eq0.false (λ many. omega (arith, many, few))) c.make_idle.ensures c.settle.ensures.held c.settle.ensures.front

pub invariant_of-self-2 : goal.invariant_of-self-2
invariant_of-self-2 g c = record { lawful = rests_lawful _ _ _ _ _ c.self.invariant.lawful (rested g c); pins_above = c.self.invariant.pins_above }

pub returns-clause-step : goal.returns-clause-step
returns-clause-step g c = inr (inl (subst (λ old. Rests g.K.PartialEq.eq old c.args.spot.now.stamp c.settle.result (cache_with c.self.inside.capacity c.self.inside.most_pins c.self.inside.next c.settle.new.self)) (ap (λ x. x.cache) c.self.view_is) (rested g c)))

pub returns-clause-lawful : goal.returns-clause-lawful
returns-clause-lawful g c = rests_lawful _ _ _ _ _ c.self.invariant.lawful (rested g c)
