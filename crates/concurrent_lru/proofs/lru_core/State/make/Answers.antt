use Rattle.std.proofs.Common.{◌≡◌, ℕ, ◌+◌, ◌-◌, ◌<◌, ◌≤◌, ◌^◌, sym, ap, subst, arith}
use Rattle.concurrent_lru.specs.Steps.{IsAbsent, Makes}
use Rattle.concurrent_lru.specs.Entries.{charges_of, cache_with}
use Rattle.concurrent_lru.proofs.Steps.BeginOfAbsent.{makes_lawful}
use Rattle.concurrent_lru.proofs.Entries.StepsOfEntries as steps
use Rattle.concurrent_lru.proofs.lru_core.State.make.Goals as goal
use Rattle.concurrent_lru.proofs.lru_core.State.make.Goals.{After-settle-evicted}

pub add-requires-clause-absent : goal.add-requires-clause-absent
add-requires-clause-absent g c = subst (λ k. IsAbsent g.K.PartialEq.eq k c.args.key.now) (sym (ap (λ x. x.cache) c.self.view_is)) c.requires.absent

pub add-requires-clause-fresh : goal.add-requires-clause-fresh
add-requires-clause-fresh g c = λ k m e. let low : c.self.inside.next < c.self.inside.next = c.self.invariant.lawful.below_next c.self.inside.next k m e in omega (arith, low)

below_end : (n : ℕ) → n < 2 ^ 64 → (n ≡ 18446744073709551615 → ⊥) → n + 1 < 2 ^ 64
below_end n h k = omega arith

makes : (g : _) (c : After-settle-evicted g) → Makes g.K.PartialEq.eq (cache_with c.self.inside.capacity c.self.inside.most_pins c.self.inside.next c.self.inside.table) c.args.key.now c.args.charge c.self.inside.next c.settle-evicted.result (cache_with c.self.inside.capacity c.self.inside.most_pins (c.self.inside.next + 1) c.settle-evicted.new.self)
makes g c =
    let absent = subst (λ k. IsAbsent g.K.PartialEq.eq k c.args.key.now) (sym (ap (λ x. x.cache) c.self.view_is)) c.requires.absent in
    let sum_fits : charges_of c.self.inside.table < 2 ^ 64 = c.self.invariant.lawful.sum_fits in
    let total : c.total.result ≡ charges_of c.self.inside.table = c.total.ensures in
    let small : c.args.charge ≤ 18446744073709551615 - c.total.result = c.if-charge-total.false in
    let fits : charges_of c.self.inside.table + c.args.charge < 2 ^ 64 = omega (arith, sum_fits, total, small) in
    let low : c.self.inside.next + 1 < 2 ^ 64 = below_end c.self.inside.next (omega arith) c.if-self.false in
    let ok = c.in_ok-place.ensures.ok in
    steps.makes g.K.PartialEq.eq c.self.inside.capacity c.self.inside.most_pins c.self.inside.next c.self.inside.table c.add.new.self c.settle-evicted.new.self c.args.key.now ok.0 c.args.charge c.settle-evicted.result
    absent ok.1 fits low c.add.ensures.idle ok.2 c.settle-evicted.ensures.held c.settle-evicted.ensures.front

pub invariant_of-self-2 : goal.invariant_of-self-2
invariant_of-self-2 g c = record {
  lawful = makes_lawful _ _ _ _ _ _ _ g.met.K.Eq.laws c.self.invariant.lawful c.requires.charged c.self.invariant.pins_above (makes g c);
  pins_above = c.self.invariant.pins_above;
}

pub returns-clause-lawful : goal.returns-clause-lawful
returns-clause-lawful g c = makes_lawful _ _ _ _ _ _ _ g.met.K.Eq.laws c.self.invariant.lawful c.requires.charged c.self.invariant.pins_above (makes g c)
