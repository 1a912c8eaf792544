use Rattle.std.proofs.Common.{◌≡◌, ℕ, ◌<◌, [], refl, ap, ◌∙◌, subst, arith, inl, inr}
use Rattle.concurrent_lru.specs.Cache.{ready, held_at}
use Rattle.concurrent_lru.specs.Steps.{Leaves, Departs}
use Rattle.concurrent_lru.specs.NodeTable.{entry_of, phase_of}
use Rattle.concurrent_lru.specs.Entries.{cache_with}
use Rattle.concurrent_lru.proofs.Steps.Release.{leaves_lawful, left_seen}
use Rattle.concurrent_lru.proofs.Steps.LawfulAfterLeaving.{departs_lawful}
use Rattle.concurrent_lru.proofs.Entries.StepsOfEntries.{leaves_as_it_is, departs}
use Rattle.concurrent_lru.proofs.lru_core.State.release_and_evict_at.Goals as goal
use Rattle.concurrent_lru.proofs.lru_core.State.release_and_evict_at.Goals.{After-none, After-one-last}

pub returns-in_default-clause-step : goal.returns-in_default-clause-step
returns-in_default-clause-step g c = (λ h v holds. c.in_default.ensures.found h.key h.charge (inr (h, ap (λ k. held_at k.cache c.args.spot.now.stamp) c.self.view_is ∙ holds.at, refl, refl)), refl)

unpinned : (g : _) (c : After-none g) → Leaves g.K.PartialEq.eq (cache_with c.self.inside.capacity c.self.inside.most_pins c.self.inside.next c.self.inside.table) c.args.spot.now.stamp (ready c.in-Ready.field-0) (ready c.in-Ready.field-0) [] (cache_with c.self.inside.capacity c.self.inside.most_pins c.self.inside.next c.set_pins.new.self)
unpinned g c = leaves_as_it_is g.K.PartialEq.eq c.self.inside.capacity c.self.inside.most_pins c.self.inside.next c.in-Some.ensures.node.entry c.set_pins.new.self c.args.spot.now.stamp (ready c.in-Ready.field-0) c.in-Some.ensures.found c.if-pins-gt1.true (ap phase_of c.in-Ready.is) c.set_pins.ensures

pub invariant_of-self : goal.invariant_of-self
invariant_of-self g c = record { lawful = leaves_lawful _ _ _ _ _ _ _ c.self.invariant.lawful (unpinned g c); pins_above = c.self.invariant.pins_above }

pub returns-then-pins-gt1-clause-step : goal.returns-then-pins-gt1-clause-step
returns-then-pins-gt1-clause-step g c = inl (c.in-Ready.field-0, left_seen (ap (λ x. x.cache) c.self.view_is) c.none.ensures (unpinned g c))

pub returns-then-pins-gt1-clause-lawful : goal.returns-then-pins-gt1-clause-lawful
returns-then-pins-gt1-clause-lawful g c = leaves_lawful _ _ _ _ _ _ _ c.self.invariant.lawful (unpinned g c)

one : (n : ℕ) → (n ≡ 0 → ⊥) → (1 < n → ⊥) → n ≡ 1
one n some few = omega arith

departed : (g : _) (c : After-one-last g) → Departs g.K.PartialEq.eq (cache_with c.self.inside.capacity c.self.inside.most_pins c.self.inside.next c.self.inside.table) c.args.spot.now.stamp c.one-last.result (cache_with c.self.inside.capacity c.self.inside.most_pins c.self.inside.next c.take_held.new.self)
departed g c =
    let few = c.if-pins-gt1.false in
    departs g.K.PartialEq.eq c.self.inside.capacity c.self.inside.most_pins c.self.inside.next c.in-Some.ensures.node.entry c.take_held.new.self c.args.spot.now.stamp c.in-Ready.field-0 (entry_of c.take_held.result.value) c.one-last.result c.in-Some.ensures.found
    (ap phase_of c.in-Ready.is) (one (entry_of c.in-Some.found.node.now).pins c.if-pins-eq0.false (λ many. omega (arith, many, few))) c.take_held.ensures.at c.take_held.ensures.entry c.take_held.ensures.idle c.take_held.ensures.held c.one-last.ensures

pub invariant_of-self-2 : goal.invariant_of-self-2
invariant_of-self-2 g c = record { lawful = departs_lawful _ _ _ _ _ c.self.invariant.lawful (departed g c); pins_above = c.self.invariant.pins_above }

pub returns-clause-step : goal.returns-clause-step
returns-clause-step g c = inr (subst (λ old. Departs g.K.PartialEq.eq old c.args.spot.now.stamp c.one-last.result (cache_with c.self.inside.capacity c.self.inside.most_pins c.self.inside.next c.take_held.new.self)) (ap (λ x. x.cache) c.self.view_is) (departed g c))

pub returns-clause-lawful : goal.returns-clause-lawful
returns-clause-lawful g c = departs_lawful _ _ _ _ _ c.self.invariant.lawful (departed g c)
