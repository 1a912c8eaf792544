use Rattle.std.proofs.Common.{◌≡◌, ℕ, ◌<◌, [], refl, sym, ap, ◌∙◌, subst, arith, inl, inr}
use Rattle.concurrent_lru.specs.Cache.{making, untaken, IsLawful, held_at}
use Rattle.concurrent_lru.specs.Steps.{Leaves, Removes}
use Rattle.concurrent_lru.specs.NodeTable.{entry_of, phase_of}
use Rattle.concurrent_lru.specs.Entries.{cache_with}
use Rattle.concurrent_lru.proofs.Steps.LawfulAfterLeaving.{removes_lawful}
use Rattle.concurrent_lru.proofs.Entries.EntryAtPlace.{held_place, not_in_phase, unready_pinned}
use Rattle.concurrent_lru.proofs.Steps.NotReady.{unready_not_ready}
use Rattle.concurrent_lru.proofs.Steps.ReadyAndPoll.{phase_making}
use Rattle.concurrent_lru.proofs.Steps.Release.{leaves_lawful}
use Rattle.concurrent_lru.proofs.Entries.StepsOfEntries.{still_held, still_leads, rewritten_twice, leaves, removes}
use Rattle.concurrent_lru.proofs.lru_core.State.fail_at.Goals as goal
use Rattle.concurrent_lru.proofs.lru_core.State.fail_at.Goals.{After-set_phase, After-into_inner-key}

pub returns-in_default-clause-step : goal.returns-in_default-clause-step
returns-in_default-clause-step g c = (λ h holds. c.in_default.ensures.found h.key h.charge (inr (h, ap (λ k. held_at k.cache c.args.spot.now.stamp) c.self.view_is ∙ holds.at, refl, refl)), refl)

pub returns-in_default-phase : goal.returns-in_default-phase
returns-in_default-phase g c = record { step = (not_in_phase c.in-Some.ensures.node.entry c.self.invariant.lawful making (ap (λ x. x.cache) c.self.view_is) c.args.spot.now.stamp c.in-Some.ensures.found (λ e. c.in_default-phase.not-Making (phase_making _ e)), refl); work = refl; lawful = subst (IsLawful _) (ap (λ x. x.cache) c.self.view_is) c.self.invariant.lawful }

pub set_pins-requires-clause-held : goal.set_pins-requires-clause-held
set_pins-requires-clause-held g c = let many = c.if-pins-gt1.true in held_place c.in-Some.ensures.node.entry (λ none. omega (arith, none, many))

pub set_phase-requires-clause-held : goal.set_phase-requires-clause-held
set_phase-requires-clause-held g c = still_held c.set_pins.ensures

pub set_phase-requires-clause-link : goal.set_phase-requires-clause-link
set_phase-requires-clause-link g c = still_leads c.set_pins.ensures c.in-Some.ensures.link

gives_up : (g : _) (c : After-set_phase g) → Leaves g.K.PartialEq.eq (cache_with c.self.inside.capacity c.self.inside.most_pins c.self.inside.next c.self.inside.table) c.args.spot.now.stamp making untaken [] (cache_with c.self.inside.capacity c.self.inside.most_pins c.self.inside.next c.set_phase.new.self)
gives_up g c =
    let here = c.in-Some.ensures.node.entry in
    let many = c.if-pins-gt1.true in
    leaves g.K.PartialEq.eq c.self.inside.capacity c.self.inside.most_pins c.self.inside.next here c.set_phase.new.self c.args.spot.now.stamp making untaken c.in-Some.ensures.found many (ap phase_of c.in-Making.is)
    (rewritten_twice here (λ none. omega (arith, none, many)) c.set_pins.ensures c.set_phase.ensures)

pub invariant_of-self : goal.invariant_of-self
invariant_of-self g c = record { lawful = leaves_lawful _ _ _ _ _ _ _ c.self.invariant.lawful (gives_up g c); pins_above = c.self.invariant.pins_above }

pub returns-then-pins-gt1-clause-step : goal.returns-then-pins-gt1-clause-step
returns-then-pins-gt1-clause-step g c = subst (λ old. Leaves g.K.PartialEq.eq old c.args.spot.now.stamp making untaken [] (cache_with c.self.inside.capacity c.self.inside.most_pins c.self.inside.next c.set_phase.new.self)) (ap (λ x. x.cache) c.self.view_is) (gives_up g c)

pub returns-then-pins-gt1-clause-lawful : goal.returns-then-pins-gt1-clause-lawful
returns-then-pins-gt1-clause-lawful g c = leaves_lawful _ _ _ _ _ _ _ c.self.invariant.lawful (gives_up g c)

pub take_held-node-requires : goal.take_held-node-requires
take_held-node-requires g c = let here = c.in-Some.ensures.node.entry in held_place here (unready_pinned here (unready_not_ready _ (inl (ap phase_of c.in-Making.is))))

one : (n : ℕ) → (n ≡ 0 → ⊥) → (1 < n → ⊥) → n ≡ 1
one n some few = omega arith

gone : (g : _) (c : After-into_inner-key g) → Removes g.K.PartialEq.eq (cache_with c.self.inside.capacity c.self.inside.most_pins c.self.inside.next c.self.inside.table) c.args.spot.now.stamp (entry_of c.into_inner-key.result).key [] (cache_with c.self.inside.capacity c.self.inside.most_pins c.self.inside.next c.take_held-node.new.self)
gone g c =
    let here = c.in-Some.ensures.node.entry in
    let phase = ap phase_of c.in-Making.is in
    let few = c.if-pins-gt1.false in
    let new = cache_with c.self.inside.capacity c.self.inside.most_pins c.self.inside.next c.take_held-node.new.self in
    subst (λ n. Removes g.K.PartialEq.eq (cache_with c.self.inside.capacity c.self.inside.most_pins c.self.inside.next c.self.inside.table) c.args.spot.now.stamp (entry_of n).key [] new) (sym c.into_inner-key.ensures)
    (removes g.K.PartialEq.eq c.self.inside.capacity c.self.inside.most_pins c.self.inside.next here c.take_held-node.new.self c.args.spot.now.stamp (entry_of c.take_held-node.result.value) c.in-Some.ensures.found phase
    (one (entry_of c.in-Some.found.node.now).pins (unready_pinned here (unready_not_ready _ (inl phase))) (λ many. omega (arith, many, few)))
    c.take_held-node.ensures.at c.take_held-node.ensures.entry c.take_held-node.ensures.idle c.take_held-node.ensures.held)

pub invariant_of-self-2 : goal.invariant_of-self-2
invariant_of-self-2 g c = record { lawful = removes_lawful _ _ _ _ _ _ c.self.invariant.lawful (gone g (goal.at.invariant_of-self-2 g c).After-into_inner-key); pins_above = c.self.invariant.pins_above }

pub returns-clause-step : goal.returns-clause-step
returns-clause-step g c =
    let new = cache_with c.self.inside.capacity c.self.inside.most_pins c.self.inside.next c.take_held-node.new.self in
    subst (λ old. Removes g.K.PartialEq.eq old c.args.spot.now.stamp (entry_of c.into_inner-key.result).key [] new) (ap (λ x. x.cache) c.self.view_is) (gone g (goal.at.returns-clause-step g c).After-into_inner-key)

pub returns-clause-lawful : goal.returns-clause-lawful
returns-clause-lawful g c = removes_lawful _ _ _ _ _ _ c.self.invariant.lawful (gone g (goal.at.returns-clause-lawful g c).After-into_inner-key)
