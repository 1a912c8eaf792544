use Rattle.std.proofs.Common.{◌≡◌, ℕ, ◌+◌, ◌-◌, ◌<◌, ◌≤◌, refl, ap, ◌∙◌, subst, arith, inl, inr}
use Rattle.std.proofs.lemmas.Bool.{ltb-true}
use Rattle.concurrent_lru.specs.Cache.{LacksCapacityToCharge, held_at, making, pinned_of}
use Rattle.concurrent_lru.specs.Entries.{cache_of}
use Rattle.concurrent_lru.specs.NodeTable.{entry_of, phase_of}
use Rattle.concurrent_lru.specs.Runs.{IsMadeAt}
use Rattle.concurrent_lru.proofs.Entries.EntryAtPlace.{holds, unready_pinned}
use Rattle.concurrent_lru.proofs.Steps.ChargeOfMaking.{pinned_within}
use Rattle.concurrent_lru.proofs.Steps.NotReady.{unready_not_ready}
use Rattle.concurrent_lru.proofs.lru_core.State.is_full_with.Goals as goal
use Rattle.concurrent_lru.proofs.lru_core.State.is_full_with.Goals.{In-Making}

pub returns-in_default-clause-no : goal.returns-in_default-clause-no
returns-in_default-clause-no g c = λ _ e held. absurd (c.in_default.ensures.found e.key e.charge (inr (e, ap (λ k. held_at k.cache c.args.spot.now.stamp) c.self.view_is ∙ held.at, refl, refl)))

-- the charge of the making is part of those of the held entries
part : (g : _) (c : In-Making g) → (entry_of c.in-Some.found.node.now).charge ≤ pinned_of (cache_of c.self.inside.table)
part g c =
    let here = c.in-Some.ensures.node.entry in
    pinned_within (cache_of c.self.inside.table) _ _ (here.held (unready_pinned here (unready_not_ready _ (inl (ap phase_of c.in-Making.is)))))

pub overflow_sub-others : goal.overflow_sub-others
overflow_sub-others g c = let part = part g (goal.at.overflow_sub-others g c).In-Making in let pinned = c.pinned_charge.ensures in omega (arith, part, pinned)

-- where its new charge does not fit beside the others, the capacity lacks room for it
lacks : (g : _) (c : In-Making g) → c.self.inside.capacity + (entry_of c.in-Some.found.node.now).charge < pinned_of (cache_of c.self.inside.table) + c.args.charge → IsMadeAt g.K.PartialEq.eq c.args.self.now.cache c.args.spot.now.stamp (λ was. LacksCapacityToCharge c.args.self.now.cache was c.args.charge)
lacks g c more =
    let here = c.in-Some.ensures.node.entry in
    let phase = ap phase_of c.in-Making.is in
    subst (λ old. IsMadeAt g.K.PartialEq.eq old c.args.spot.now.stamp (λ was. LacksCapacityToCharge old was c.args.charge)) (ap (λ x. x.cache) c.self.view_is)
    (_, holds here c.self.inside.capacity c.self.inside.most_pins c.self.inside.next c.args.spot.now.stamp making c.in-Some.ensures.found (unready_pinned here (unready_not_ready _ (inl phase))) phase, more)

above : (capacity pinned total was charge : ℕ) → pinned ≡ total → was ≤ total → capacity < pinned - was → capacity + was < total + charge
above capacity pinned total was charge same part large = omega (arith, same, part, large)

beside : (capacity pinned total was charge : ℕ) → pinned ≡ total → was ≤ total → pinned - was ≤ capacity → capacity - (pinned - was) < charge → capacity + was < total + charge
beside capacity pinned total was charge same part low large = omega (arith, same, part, low, large)

pub returns-then-others-self-clause-yes : goal.returns-then-others-self-clause-yes
returns-then-others-self-clause-yes g c = λ _.
    let at = (goal.at.returns-then-others-self-clause-yes g c).In-Making in
    lacks g at (above c.self.inside.capacity c.pinned_charge.result _ _ c.args.charge c.pinned_charge.ensures (part g at) c.if-others-self.true)

pub returns-else-others-self-clause-yes : goal.returns-else-others-self-clause-yes
returns-else-others-self-clause-yes g c = λ large.
    let at = (goal.at.returns-else-others-self-clause-yes g c).In-Making in
    lacks g at (beside c.self.inside.capacity c.pinned_charge.result _ _ c.args.charge c.pinned_charge.ensures (part g at) c.if-others-self.false (ltb-true _ _ large))
