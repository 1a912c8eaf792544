use Rattle.std.proofs.Common.{◌≡◌, ◌≤◌, ℕ, refl, ap, subst, inl, inr, arith}
use Rattle.concurrent_lru.specs.Steps.{Drops, IsNotIdle}
use Rattle.concurrent_lru.specs.NodeTable.{entry_of}
use Rattle.concurrent_lru.specs.Entries.{cache_with}
use Rattle.concurrent_lru.proofs.Steps.AdviceOfAbsent.{absent_not_idle}
use Rattle.concurrent_lru.proofs.Steps.LawfulAfterLeaving.{drops_lawful}
use Rattle.concurrent_lru.proofs.Entries.EntryAtPlace.{key_is, found_is, idle_place, is_not_idle}
use Rattle.concurrent_lru.proofs.Entries.StepsOfEntries.{drops}
use Rattle.concurrent_lru.proofs.lru_core.State.advice_evict.Goals as goal
use Rattle.concurrent_lru.proofs.lru_core.State.advice_evict.Goals.{After-one}

pub returns-in_default-clause-step : goal.returns-in_default-clause-step
returns-in_default-clause-step g c = inr (
  subst (λ old. IsNotIdle g.K.PartialEq.eq old (g.Q.AsKey.owned c.args.key)) (ap (λ x. x.cache) c.self.view_is)
      (absent_not_idle g.K.PartialEq.eq (cache_with c.self.inside.capacity c.self.inside.most_pins c.self.inside.next c.self.inside.table) (g.Q.AsKey.owned c.args.key) c.in_default.ensures.absent),
  record { same = refl; none = c.none.ensures },
)

pub returns-then-node-gt0-clause-step : goal.returns-then-node-gt0-clause-step
returns-then-node-gt0-clause-step g c =
    let here = c.in-Ok.ensures.node.entry in
    let some = c.if-node-gt0.true in
    inr (
      subst (λ old. IsNotIdle g.K.PartialEq.eq old (g.Q.AsKey.owned c.args.key)) (ap (λ x. x.cache) c.self.view_is)
          (is_not_idle here c.self.invariant.lawful (g.Q.AsKey.owned c.args.key) g.met.K.Eq.laws (key_is here c.self.invariant.lawful (g.Q.AsKey.owned c.args.key) c.in-Ok.ensures.found) (λ none. omega (arith, none, some)) (found_is here c.self.invariant.lawful (g.Q.AsKey.owned c.args.key) c.in-Ok.ensures.found)),
      record { same = refl; none = c.none-then-node-gt0.ensures },
    )

no_pins : (n : ℕ) → n ≤ 0 → n ≡ 0
no_pins n h = omega arith

pub evict-node-requires : goal.evict-node-requires
evict-node-requires g c = idle_place c.in-Ok.ensures.node.entry (no_pins _ c.if-node-gt0.false)

gone : (g : _) (c : After-one g) → Drops g.K.PartialEq.eq (cache_with c.self.inside.capacity c.self.inside.most_pins c.self.inside.next c.self.inside.table) (g.Q.AsKey.owned c.args.key) c.one.result (cache_with c.self.inside.capacity c.self.inside.most_pins c.self.inside.next c.evict-node.new.self)
gone g c =
    let here = c.in-Ok.ensures.node.entry in
    drops g.K.PartialEq.eq c.self.inside.capacity c.self.inside.most_pins c.self.inside.next here c.evict-node.new.self (g.Q.AsKey.owned c.args.key) (entry_of c.evict-node.result.value) c.one.result
    (key_is here c.self.invariant.lawful (g.Q.AsKey.owned c.args.key) c.in-Ok.ensures.found) (no_pins _ c.if-node-gt0.false) c.evict-node.ensures.at c.evict-node.ensures.ready c.evict-node.ensures.entry c.evict-node.ensures.idle c.evict-node.ensures.held c.one.ensures

pub invariant_of-self : goal.invariant_of-self
invariant_of-self g c = record { lawful = drops_lawful _ _ _ _ _ c.self.invariant.lawful (gone g c); pins_above = c.self.invariant.pins_above }

pub returns-clause-step : goal.returns-clause-step
returns-clause-step g c = inl (subst (λ old. Drops g.K.PartialEq.eq old (g.Q.AsKey.owned c.args.key) c.one.result (cache_with c.self.inside.capacity c.self.inside.most_pins c.self.inside.next c.evict-node.new.self)) (ap (λ x. x.cache) c.self.view_is) (gone g c))

pub returns-clause-lawful : goal.returns-clause-lawful
returns-clause-lawful g c = drops_lawful _ _ _ _ _ c.self.invariant.lawful (gone g c)
