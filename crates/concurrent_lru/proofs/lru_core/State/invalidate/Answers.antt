use Rattle.std.proofs.Common.{refl, ap, subst, inr}
use Rattle.concurrent_lru.specs.Steps.{Invalidates, IsAbsent}
use Rattle.concurrent_lru.specs.Entries.{cache_with}
use Rattle.concurrent_lru.proofs.Steps.StaysLawful.{invalidates_lawful}
use Rattle.concurrent_lru.proofs.Entries.EntryAtPlace.{key_is, found_is, found_here, idle_place}
use Rattle.concurrent_lru.proofs.Entries.StepsOfEntries.{invalidates}
use Rattle.concurrent_lru.proofs.lru_core.State.invalidate.Goals as goal
use Rattle.concurrent_lru.proofs.lru_core.State.invalidate.Goals.{After-invalidate}

pub returns-in_default-clause-step : goal.returns-in_default-clause-step
returns-in_default-clause-step g c = inr (inr (subst (λ old. IsAbsent g.K.PartialEq.eq old (g.Q.AsKey.owned c.args.key)) (ap (λ x. x.cache) c.self.view_is) c.in_default.ensures.absent, record { same = refl; none = c.none.ensures }))

pub invalidate-requires : goal.invalidate-requires
invalidate-requires g c =
    let here = c.in-Ok.ensures.node.entry in
    record {
      idle = idle_place here;
      held = λ some. found_here here some (found_is here c.self.invariant.lawful (g.Q.AsKey.owned c.args.key) c.in-Ok.ensures.found some);
    }

invalidated : (g : _) (c : After-invalidate g) → Invalidates g.K.PartialEq.eq (cache_with c.self.inside.capacity c.self.inside.most_pins c.self.inside.next c.self.inside.table) (g.Q.AsKey.owned c.args.key) c.invalidate.result (cache_with c.self.inside.capacity c.self.inside.most_pins c.self.inside.next c.invalidate.new.self)
invalidated g c =
    let here = c.in-Ok.ensures.node.entry in
    let key = g.Q.AsKey.owned c.args.key in
    let found = c.in-Ok.ensures.found in
    invalidates g.K.PartialEq.eq c.self.inside.capacity c.self.inside.most_pins c.self.inside.next here c.invalidate.new.self key c.invalidate.result
    (key_is here c.self.invariant.lawful key found) (found_is here c.self.invariant.lawful key found) c.invalidate.ensures.evicted c.invalidate.ensures.detached

pub invariant_of-self : goal.invariant_of-self
invariant_of-self g c = record { lawful = invalidates_lawful _ _ _ _ _ c.self.invariant.lawful (invalidated g c); pins_above = c.self.invariant.pins_above }

pub returns-clause-step : goal.returns-clause-step
returns-clause-step g c = subst (λ old. Invalidates g.K.PartialEq.eq old (g.Q.AsKey.owned c.args.key) c.invalidate.result (cache_with c.self.inside.capacity c.self.inside.most_pins c.self.inside.next c.invalidate.new.self)) (ap (λ x. x.cache) c.self.view_is) (invalidated g c)

pub returns-clause-lawful : goal.returns-clause-lawful
returns-clause-lawful g c = invalidates_lawful _ _ _ _ _ c.self.invariant.lawful (invalidated g c)
