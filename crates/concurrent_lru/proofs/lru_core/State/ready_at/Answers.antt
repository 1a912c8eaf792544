use Rattle.std.proofs.Common.{[], refl, ap, ◌∙◌, inl, inr}
use Rattle.concurrent_lru.specs.Cache.{making, ready, held_at}
use Rattle.concurrent_lru.specs.Entries.{cache_with}
use Rattle.concurrent_lru.specs.NodeTable.{phase_of}
use Rattle.concurrent_lru.specs.Steps.{ChangesPhase}
use Rattle.concurrent_lru.proofs.Entries.EntryAtPlace.{held_place, not_in_phase, unready_pinned}
use Rattle.concurrent_lru.proofs.Entries.StepsOfEntries.{changes_phase}
use Rattle.concurrent_lru.proofs.Steps.NotReady.{unready_not_ready}
use Rattle.concurrent_lru.proofs.Steps.ReadyAndPoll.{phase_making, changes_phase_lawful, stored_seen}
use Rattle.concurrent_lru.proofs.lru_core.State.ready_at.Goals as goal
use Rattle.concurrent_lru.proofs.lru_core.State.ready_at.Goals.{After-set_phase}

pub returns-in_default-clause-step : goal.returns-in_default-clause-step
returns-in_default-clause-step g c = (λ h holds. c.in_default.ensures.found h.key h.charge (inr (h, ap (λ k. held_at k.cache c.args.spot.now.stamp) c.self.view_is ∙ holds.at, refl, refl)), refl)

pub returns-in_default-phase-clause-step : goal.returns-in_default-phase-clause-step
returns-in_default-phase-clause-step g c = (not_in_phase c.in-Some.ensures.node.entry c.self.invariant.lawful making (ap (λ x. x.cache) c.self.view_is) c.args.spot.now.stamp c.in-Some.ensures.found (λ e. c.in_default-phase.not-Making (phase_making _ e)), refl)

pub set_phase-requires-clause-held : goal.set_phase-requires-clause-held
set_phase-requires-clause-held g c = let here = c.in-Some.ensures.node.entry in held_place here (unready_pinned here (unready_not_ready _ (inl (ap phase_of c.in-Making.is))))

stores : (g : _) (c : After-set_phase g) → ChangesPhase g.K.PartialEq.eq (cache_with c.self.inside.capacity c.self.inside.most_pins c.self.inside.next c.self.inside.table) c.args.spot.now.stamp making (ready c.new.result) [] (cache_with c.self.inside.capacity c.self.inside.most_pins c.self.inside.next c.set_phase.new.self)
stores g c = changes_phase g.K.PartialEq.eq c.self.inside.capacity c.self.inside.most_pins c.self.inside.next c.in-Some.ensures.node.entry c.set_phase.new.self c.args.spot.now.stamp making (ready c.new.result) c.in-Some.ensures.found (unready_pinned c.in-Some.ensures.node.entry (unready_not_ready _ (inl (ap phase_of c.in-Making.is)))) (ap phase_of c.in-Making.is) c.set_phase.ensures

pub invariant_of-self : goal.invariant_of-self
invariant_of-self g c = record { lawful = changes_phase_lawful _ _ _ _ _ _ _ c.self.invariant.lawful (stores g c); pins_above = c.self.invariant.pins_above }

pub returns-clause-step : goal.returns-clause-step
returns-clause-step g c = stored_seen (ap (λ x. x.cache) c.self.view_is) c.new.ensures (stores g c)

pub returns-clause-lawful : goal.returns-clause-lawful
returns-clause-lawful g c = changes_phase_lawful _ _ _ _ _ _ _ c.self.invariant.lawful (stores g c)
