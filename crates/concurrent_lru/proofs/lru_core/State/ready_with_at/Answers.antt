use Rattle.std.proofs.Common.{◌≡◌, ℕ, ◌+◌, ◌-◌, ◌<◌, ◌≤◌, ◌^◌, refl, ap, ◌∙◌, subst, arith, inl, inr}
use Rattle.concurrent_lru.specs.Cache.{making, held_at}
use Rattle.concurrent_lru.specs.Entries.{cache_with, charges_of}
use Rattle.concurrent_lru.specs.NodeTable.{entry_of, phase_of}
use Rattle.concurrent_lru.specs.Runs.{IsMadeAt, PassesEndWith}
use Rattle.concurrent_lru.specs.Steps.{Charges}
use Rattle.concurrent_lru.proofs.Entries.EntryAtPlace.{held_place, holds, not_in_phase, unready_pinned}
use Rattle.concurrent_lru.proofs.Entries.StepsOfEntries.{charges, still_held}
use Rattle.concurrent_lru.proofs.Entries.SumsOfCharges.{held_bound}
use Rattle.concurrent_lru.proofs.Steps.ChargeOfMaking.{charges_lawful}
use Rattle.concurrent_lru.proofs.Steps.NotReady.{unready_not_ready}
use Rattle.concurrent_lru.proofs.Steps.ReadyAndPoll.{phase_making}
use Rattle.concurrent_lru.proofs.lru_core.State.ready_with_at.Goals as goal
use Rattle.concurrent_lru.proofs.lru_core.State.ready_with_at.Goals.{In-Making, After-settle}

pub returns-in_default-clause-step : goal.returns-in_default-clause-step
returns-in_default-clause-step g c = (λ h holds. c.in_default.ensures.found h.key h.charge (inr (h, ap (λ k. held_at k.cache c.args.spot.now.stamp) c.self.view_is ∙ holds.at, refl, refl)), refl)

pub returns-in_default-phase-clause-step : goal.returns-in_default-phase-clause-step
returns-in_default-phase-clause-step g c = (not_in_phase c.in-Some.ensures.node.entry c.self.invariant.lawful making (ap (λ x. x.cache) c.self.view_is) c.args.spot.now.stamp c.in-Some.ensures.found (λ e. c.in_default-phase.not-Making (phase_making _ e)), refl)

-- the charge of the making is part of the total
part : (g : _) (c : In-Making g) → (entry_of c.in-Some.found.node.now).charge ≤ charges_of c.self.inside.table
part g c =
    let here = c.in-Some.ensures.node.entry in
    held_bound c.self.inside.table _ _ (here.held (unready_pinned here (unready_not_ready _ (inl (ap phase_of c.in-Making.is)))))

pub overflow_sub-rest : goal.overflow_sub-rest
overflow_sub-rest g c = let part = part g (goal.at.overflow_sub-rest g c).In-Making in let total = c.total.ensures in omega (arith, part, total)

-- where the charge does not fit beside the rest, it overflows the sum
past : (sum total was charge : ℕ) → sum < 2 ^ 64 → total ≡ sum → was ≤ sum → 18446744073709551615 - (total - was) < charge → 2 ^ 64 + was ≤ sum + charge
past sum total was charge low same part large = omega (arith, low, same, part, large)

within : (sum total was charge : ℕ) → sum < 2 ^ 64 → total ≡ sum → was ≤ sum → charge ≤ 18446744073709551615 - (total - was) → sum + charge < 2 ^ 64 + was
within sum total was charge low same part small = omega (arith, low, same, part, small)

pub returns-then-charge-rest-clause-step : goal.returns-then-charge-rest-clause-step
returns-then-charge-rest-clause-step g c =
    let here = c.in-Some.ensures.node.entry in
    let phase = ap phase_of c.in-Making.is in
    let held = holds here c.self.inside.capacity c.self.inside.most_pins c.self.inside.next c.args.spot.now.stamp making c.in-Some.ensures.found (unready_pinned here (unready_not_ready _ (inl phase))) phase in
    let passes = past (charges_of c.self.inside.table) c.total.result (entry_of c.in-Some.found.node.now).charge c.args.charge c.self.invariant.lawful.sum_fits c.total.ensures (part g (goal.at.returns-then-charge-rest-clause-step g c).In-Making) c.if-charge-rest.true in
    subst (λ old. IsMadeAt g.K.PartialEq.eq old c.args.spot.now.stamp (λ was. PassesEndWith g.K.PartialEq.eq old c.args.charge was) × (old ≡ old)) (ap (λ x. x.cache) c.self.view_is) ((_, held, passes), refl)

pub set_charge-requires-clause-held : goal.set_charge-requires-clause-held
set_charge-requires-clause-held g c = let here = c.in-Some.ensures.node.entry in held_place here (unready_pinned here (unready_not_ready _ (inl (ap phase_of c.in-Making.is))))

pub set_phase-requires-clause-held : goal.set_phase-requires-clause-held
set_phase-requires-clause-held g c = still_held c.set_charge.ensures

-- the entry gets its charge and its value, and the cache settles
charges_it : (g : _) (c : After-settle g) → Charges g.K.PartialEq.eq (cache_with c.self.inside.capacity c.self.inside.most_pins c.self.inside.next c.self.inside.table) c.args.spot.now.stamp (g.M.Sharing.seen c.args.value) c.args.charge c.settle.result (cache_with c.self.inside.capacity c.self.inside.most_pins c.self.inside.next c.settle.new.self)
charges_it g c =
    let here = c.in-Some.ensures.node.entry in
    let phase = ap phase_of c.in-Making.is in
    let part = held_bound c.self.inside.table _ _ (here.held (unready_pinned here (unready_not_ready _ (inl phase)))) in
    subst (λ v. Charges g.K.PartialEq.eq (cache_with c.self.inside.capacity c.self.inside.most_pins c.self.inside.next c.self.inside.table) c.args.spot.now.stamp v c.args.charge c.settle.result (cache_with c.self.inside.capacity c.self.inside.most_pins c.self.inside.next c.settle.new.self)) c.new.ensures
    (charges g.K.PartialEq.eq c.self.inside.capacity c.self.inside.most_pins c.self.inside.next here c.set_charge.new.self c.set_phase.new.self c.settle.new.self c.args.spot.now.stamp c.new.result c.args.charge c.settle.result c.in-Some.ensures.found (unready_pinned here (unready_not_ready _ (inl phase))) phase
    (within (charges_of c.self.inside.table) c.total.result (entry_of c.in-Some.found.node.now).charge c.args.charge c.self.invariant.lawful.sum_fits c.total.ensures part c.if-charge-rest.false)
    c.set_charge.ensures c.set_phase.ensures c.settle.ensures.held c.settle.ensures.front)

pub invariant_of-self : goal.invariant_of-self
invariant_of-self g c = record { lawful = charges_lawful _ _ _ _ _ _ _ c.self.invariant.lawful c.requires (charges_it g c); pins_above = c.self.invariant.pins_above }

pub returns-clause-step : goal.returns-clause-step
returns-clause-step g c = subst (λ old. Charges g.K.PartialEq.eq old c.args.spot.now.stamp (g.M.Sharing.seen c.args.value) c.args.charge c.settle.result (cache_with c.self.inside.capacity c.self.inside.most_pins c.self.inside.next c.settle.new.self)) (ap (λ x. x.cache) c.self.view_is) (charges_it g c)

pub returns-clause-lawful : goal.returns-clause-lawful
returns-clause-lawful g c = charges_lawful _ _ _ _ _ _ _ c.self.invariant.lawful c.requires (charges_it g c)
