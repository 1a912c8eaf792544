use Rattle.std.proofs.Common.{◌≡◌, ◌≢◌, ℕ, ◌+◌, ◌-◌, ◌<◌, ◌≤◌, ◌^◌, [], Ok, refl, sym, ap, subst, inl, inr, arith}
use Rattle.concurrent_lru.specs.Cache.{IsLawful}
use Rattle.concurrent_lru.specs.Steps.{IsAbsent, Makes}
use Rattle.concurrent_lru.specs.NodeTable.{entry_of, hash_of}
use Rattle.concurrent_lru.specs.Entries.{charges_of, cache_with}
use Rattle.concurrent_lru.specs.Inserts.{Remakes, RefusesToReplace}
use Rattle.concurrent_lru.specs.declared.refusal.Refusal.TheVariants.{Overflow}
use Rattle.concurrent_lru.proofs.Entries.EntryAtPlace.{key_is, found_is, found_here}
use Rattle.concurrent_lru.proofs.Entries.StepsOfInserts as steps
use Rattle.concurrent_lru.proofs.Steps.InsertOfKey.{begun_new, remade_refused}
use Rattle.concurrent_lru.proofs.lru_core.State.remake.Goals as goal
use Rattle.concurrent_lru.proofs.lru_core.State.remake.Goals.{After-none-then-pins-gt0, After-one, then-charge-total-via-then-charge-total, then-charge-total-via-else-charge-total+then-stamp, then-charge-rest-via-then-charge-rest, then-charge-rest-via-else-charge-rest+then-stamp-2}

pinned : (n : ℕ) → 0 < n → n ≢ 0
pinned n some none = omega (arith, none, some)

no_pins : (n : ℕ) → n ≤ 0 → n ≡ 0
no_pins n h = omega arith

below_end : (n : ℕ) → n < 2 ^ 64 → (n ≡ 18446744073709551615 → ⊥) → n + 1 < 2 ^ 64
below_end n h k = omega arith

at_end : (n : ℕ) → n ≡ 18446744073709551615 → 2 ^ 64 ≤ n + 1
at_end n h = omega arith

-- The charge fits beside a sum, and beside what an idle entry leaves of it; or it does not.
fits_beside : (sum total charge : ℕ) → sum < 2 ^ 64 → total ≡ sum → charge ≤ 18446744073709551615 - total → sum + charge < 2 ^ 64
fits_beside sum total charge low same small = omega (arith, low, same, small)

too_large : (sum total charge : ℕ) → sum < 2 ^ 64 → total ≡ sum → 18446744073709551615 - total < charge → 2 ^ 64 ≤ sum + charge
too_large sum total charge low same large = omega (arith, low, same, large)

fits_in_place : (sum total old_charge charge : ℕ) → sum < 2 ^ 64 → total ≡ sum → old_charge ≤ sum → charge ≤ 18446744073709551615 - (total - old_charge) → sum + charge < 2 ^ 64 + old_charge
fits_in_place sum total old_charge charge low same counted small = omega (arith, low, same, counted, small)

too_large_in_place : (sum total old_charge charge : ℕ) → sum < 2 ^ 64 → total ≡ sum → old_charge ≤ sum → 18446744073709551615 - (total - old_charge) < charge → 2 ^ 64 + old_charge ≤ sum + charge
too_large_in_place sum total old_charge charge low same counted large = omega (arith, low, same, counted, large)

pub make-requires-clause-absent : goal.make-requires-clause-absent
make-requires-clause-absent g c = subst (λ old. IsAbsent g.K.PartialEq.eq old c.args.key.now) (ap (λ x. x.cache) c.self.view_is) c.in-Err.ensures.absent

pub returns-in_err-_begun-in-Err-clause-step : goal.returns-in_err-_begun-in-Err-clause-step
returns-in_err-_begun-in-Err-clause-step g c =
    let old = c.args.self.now.cache in
    remade_refused g.K.PartialEq.eq old c.make.new.self.cache c.args.key.now c.args.charge c.from_residual.result _ c.from_residual.ensures.1 (record {
      mid = old;
      replaced = [];
      invalidated = inr (inr ((subst (λ old. IsAbsent g.K.PartialEq.eq old c.args.key.now) (ap (λ x. x.cache) c.self.view_is) c.in-Err.ensures.absent), record { same = refl; none = refl }));
      refuses = (c.in_err-_begun-in-Err.ensures.step.0, refl);
      same = ap (λ x. x.cache) c.in_err-_begun-in-Err.ensures.same;
    })

pub returns-in-Err-clause-step : goal.returns-in-Err-clause-step
returns-in-Err-clause-step g c =
    let old = c.args.self.now.cache in
    let absent : IsAbsent g.K.PartialEq.eq old c.args.key.now = (subst (λ old. IsAbsent g.K.PartialEq.eq old c.args.key.now) (ap (λ x. x.cache) c.self.view_is) c.in-Err.ensures.absent) in
    let made = begun_new g.K.PartialEq.eq c.args.charge absent g.M.Sharing.seen c.in_ok-_begun-in-Err._begun c.in_ok-_begun-in-Err.evicted c.make.new.self.cache c.in_ok-_begun-in-Err.ensures.step in
    let next = sym (ap (λ x. x.cache.next) c.self.view_is) in
    (old, inr (inr (absent, record { same = refl; none = c.none.ensures })), inl (subst (λ n. Makes g.K.PartialEq.eq old c.args.key.now c.args.charge n c.in_ok-_begun-in-Err.evicted c.make.new.self.cache) next made))

pub returns-then-charge-total-clause-step : goal.returns-then-charge-total-clause-step
returns-then-charge-total-clause-step g c =
    let some = pinned (entry_of c.in-Ok.found.node.now).pins c.if-pins-gt0.true in
    let equal = key_is c.in-Ok.ensures.node.entry c.self.invariant.lawful c.args.key.now c.in-Ok.ensures.found in
    let found = found_is c.in-Ok.ensures.node.entry c.self.invariant.lawful c.args.key.now c.in-Ok.ensures.found some in
    subst (λ old. RefusesToReplace g.K.PartialEq.eq old c.args.key.now c.args.charge Overflow old) (ap (λ x. x.cache) c.self.view_is)
    (steps.overflows_held g.K.PartialEq.eq g.met.K.Eq.laws c.self.inside.capacity c.self.inside.most_pins c.self.inside.next c.in-Ok.ensures.node.entry c.self.invariant.lawful c.args.key.now c.args.charge equal some found (elim c.then-charge-total.branch [
      | then-charge-total-via-then-charge-total w ↦ inl (too_large (charges_of c.self.inside.table) c.total.result c.args.charge c.self.invariant.lawful.sum_fits c.total.ensures w.if-charge-total.true)
      | then-charge-total-via-else-charge-total+then-stamp w ↦ inr (at_end c.self.inside.next w.if-stamp.true)
    ]))

pub add_over_held-requires-clause-keyed : goal.add_over_held-requires-clause-keyed
add_over_held-requires-clause-keyed g c e here = key_is here c.self.invariant.lawful c.args.key.now c.in-Ok.ensures.found

pub add_over_held-requires-clause-held : goal.add_over_held-requires-clause-held
add_over_held-requires-clause-held g c =
    let some = pinned (entry_of c.in-Ok.found.node.now).pins c.if-pins-gt0.true in
    let found = found_is c.in-Ok.ensures.node.entry c.self.invariant.lawful c.args.key.now c.in-Ok.ensures.found some in
    found_here c.in-Ok.ensures.node.entry some found

pub add_over_held-requires-clause-fresh : goal.add_over_held-requires-clause-fresh
add_over_held-requires-clause-fresh g c = λ k m e. let low : c.self.inside.next < c.self.inside.next = c.self.invariant.lawful.below_next c.self.inside.next k m e in omega (arith, low)

pub returns-in_err-new-clause-step : goal.returns-in_err-new-clause-step
returns-in_err-new-clause-step g c =
    let some = pinned (entry_of c.in-Ok.found.node.now).pins c.if-pins-gt0.true in
    let equal = key_is c.in-Ok.ensures.node.entry c.self.invariant.lawful c.args.key.now c.in-Ok.ensures.found in
    let found = found_is c.in-Ok.ensures.node.entry c.self.invariant.lawful c.args.key.now c.in-Ok.ensures.found some in
    let answer = c.from_residual-in_err-new in
    let lacks = steps.lacks_memory_held g.K.PartialEq.eq g.met.K.Eq.laws c.self.inside.capacity c.self.inside.most_pins c.self.inside.next c.in-Ok.ensures.node.entry c.self.invariant.lawful c.args.key.now c.args.charge equal some found (fits_beside (charges_of c.self.inside.table) c.total.result c.args.charge c.self.invariant.lawful.sum_fits c.total.ensures c.if-charge-total.false) (below_end c.self.inside.next (omega arith) c.if-stamp.false) in
    subst (λ t. Remakes g.K.PartialEq.eq c.args.self.now.cache c.args.key.now c.args.charge answer.result (cache_with c.self.inside.capacity c.self.inside.most_pins c.self.inside.next t)) (sym c.in_err-new.ensures.err)
    (subst (λ old. Remakes g.K.PartialEq.eq old c.args.key.now c.args.charge answer.result (cache_with c.self.inside.capacity c.self.inside.most_pins c.self.inside.next c.self.inside.table)) (ap (λ x. x.cache) c.self.view_is)
    (remade_refused g.K.PartialEq.eq (cache_with c.self.inside.capacity c.self.inside.most_pins c.self.inside.next c.self.inside.table) (cache_with c.self.inside.capacity c.self.inside.most_pins c.self.inside.next c.self.inside.table) c.args.key.now c.args.charge answer.result _ answer.ensures.1 (subst (λ e. RefusesToReplace g.K.PartialEq.eq (cache_with c.self.inside.capacity c.self.inside.most_pins c.self.inside.next c.self.inside.table) c.args.key.now c.args.charge e (cache_with c.self.inside.capacity c.self.inside.most_pins c.self.inside.next c.self.inside.table)) (sym c.in_err-new.ensures.refusal) lacks)))

over_held : (g : _) (c : After-none-then-pins-gt0 g) → Remakes g.K.PartialEq.eq (cache_with c.self.inside.capacity c.self.inside.most_pins c.self.inside.next c.self.inside.table) c.args.key.now c.args.charge (Ok (record { stamp = c.self.inside.next; hint = record { hash = hash_of c.in-Ok.found.node.now; place = c.in_ok-new.new } }, [], c.settle-evicted.result)) (cache_with c.self.inside.capacity c.self.inside.most_pins (c.self.inside.next + 1) c.settle-evicted.new.self)
over_held g c =
    let some = pinned (entry_of c.in-Ok.found.node.now).pins c.if-pins-gt0.true in
    let equal = key_is c.in-Ok.ensures.node.entry c.self.invariant.lawful c.args.key.now c.in-Ok.ensures.found in
    let found = found_is c.in-Ok.ensures.node.entry c.self.invariant.lawful c.args.key.now c.in-Ok.ensures.found some in
    steps.remakes_held g.K.PartialEq.eq g.met.K.Eq.laws c.self.inside.capacity c.self.inside.most_pins c.self.inside.next c.in-Ok.ensures.node.entry c.self.invariant.lawful c.args.key.now c.args.charge equal some found c.add_over_held.new.self c.settle-evicted.new.self c.settle-evicted.result c.in_ok-new.ensures.ok (fits_beside (charges_of c.self.inside.table) c.total.result c.args.charge c.self.invariant.lawful.sum_fits c.total.ensures c.if-charge-total.false) (below_end c.self.inside.next (omega arith) c.if-stamp.false) c.settle-evicted.ensures.held c.settle-evicted.ensures.front record { hash = hash_of c.in-Ok.found.node.now; place = c.in_ok-new.new }

over_held_lawful : (g : _) (c : After-none-then-pins-gt0 g) → IsLawful g.K.PartialEq.eq (cache_with c.self.inside.capacity c.self.inside.most_pins (c.self.inside.next + 1) c.settle-evicted.new.self)
over_held_lawful g c =
    let some = pinned (entry_of c.in-Ok.found.node.now).pins c.if-pins-gt0.true in
    let equal = key_is c.in-Ok.ensures.node.entry c.self.invariant.lawful c.args.key.now c.in-Ok.ensures.found in
    let found = found_is c.in-Ok.ensures.node.entry c.self.invariant.lawful c.args.key.now c.in-Ok.ensures.found some in
    steps.held_lawful g.K.PartialEq.eq g.met.K.Eq.laws c.self.inside.capacity c.self.inside.most_pins c.self.inside.next c.in-Ok.ensures.node.entry c.self.invariant.lawful c.args.key.now c.args.charge equal some found c.add_over_held.new.self c.settle-evicted.new.self c.settle-evicted.result c.in_ok-new.ensures.ok (fits_beside (charges_of c.self.inside.table) c.total.result c.args.charge c.self.invariant.lawful.sum_fits c.total.ensures c.if-charge-total.false) (below_end c.self.inside.next (omega arith) c.if-stamp.false) c.settle-evicted.ensures.held c.settle-evicted.ensures.front c.requires c.self.invariant.pins_above

pub invariant_of-self-then-pins-gt0 : goal.invariant_of-self-then-pins-gt0
invariant_of-self-then-pins-gt0 g c = record { lawful = over_held_lawful g c; pins_above = c.self.invariant.pins_above }

pub returns-then-pins-gt0-clause-step : goal.returns-then-pins-gt0-clause-step
returns-then-pins-gt0-clause-step g c =
    let new = (cache_with c.self.inside.capacity c.self.inside.most_pins (c.self.inside.next + 1) c.settle-evicted.new.self) in
    subst (λ old. Remakes g.K.PartialEq.eq old c.args.key.now c.args.charge (Ok (record { stamp = c.self.inside.next; hint = record { hash = hash_of c.in-Ok.found.node.now; place = c.in_ok-new.new } }, c.none-then-pins-gt0.result, c.settle-evicted.result)) new) (ap (λ x. x.cache) c.self.view_is)
    (subst (λ replaced. Remakes g.K.PartialEq.eq (cache_with c.self.inside.capacity c.self.inside.most_pins c.self.inside.next c.self.inside.table) c.args.key.now c.args.charge (Ok (record { stamp = c.self.inside.next; hint = record { hash = hash_of c.in-Ok.found.node.now; place = c.in_ok-new.new } }, replaced, c.settle-evicted.result)) new) (sym c.none-then-pins-gt0.ensures) (over_held g c))

pub returns-then-pins-gt0-clause-lawful : goal.returns-then-pins-gt0-clause-lawful
returns-then-pins-gt0-clause-lawful g c = over_held_lawful g c

pub overflow_sub-rest : goal.overflow_sub-rest
overflow_sub-rest g c =
    let none = no_pins (entry_of c.in-Ok.found.node.now).pins c.if-pins-gt0.false in
    let equal = key_is c.in-Ok.ensures.node.entry c.self.invariant.lawful c.args.key.now c.in-Ok.ensures.found in
    let counted = steps.counted g.K.PartialEq.eq g.met.K.Eq.laws c.self.inside.capacity c.self.inside.most_pins c.self.inside.next c.in-Ok.ensures.node.entry c.self.invariant.lawful c.args.key.now c.args.charge equal none in
    let total = c.total-2.ensures in
    omega (arith, counted, total)

pub returns-then-charge-rest-clause-step : goal.returns-then-charge-rest-clause-step
returns-then-charge-rest-clause-step g c =
    let none = no_pins (entry_of c.in-Ok.found.node.now).pins c.if-pins-gt0.false in
    let equal = key_is c.in-Ok.ensures.node.entry c.self.invariant.lawful c.args.key.now c.in-Ok.ensures.found in
    subst (λ old. RefusesToReplace g.K.PartialEq.eq old c.args.key.now c.args.charge Overflow old) (ap (λ x. x.cache) c.self.view_is)
    (steps.overflows_idle g.K.PartialEq.eq g.met.K.Eq.laws c.self.inside.capacity c.self.inside.most_pins c.self.inside.next c.in-Ok.ensures.node.entry c.self.invariant.lawful c.args.key.now c.args.charge equal none (elim c.then-charge-rest.branch [
      | then-charge-rest-via-then-charge-rest w ↦ inl (too_large_in_place (charges_of c.self.inside.table) c.total-2.result (entry_of c.in-Ok.found.node.now).charge c.args.charge c.self.invariant.lawful.sum_fits c.total-2.ensures (steps.counted g.K.PartialEq.eq g.met.K.Eq.laws c.self.inside.capacity c.self.inside.most_pins c.self.inside.next c.in-Ok.ensures.node.entry c.self.invariant.lawful c.args.key.now c.args.charge equal none) w.if-charge-rest.true)
      | then-charge-rest-via-else-charge-rest+then-stamp-2 w ↦ inr (at_end c.self.inside.next w.if-stamp-2.true)
    ]))

pub add_over_idle-requires-clause-keyed : goal.add_over_idle-requires-clause-keyed
add_over_idle-requires-clause-keyed g c e here = key_is here c.self.invariant.lawful c.args.key.now c.in-Ok.ensures.found

pub add_over_idle-requires-clause-fresh : goal.add_over_idle-requires-clause-fresh
add_over_idle-requires-clause-fresh g c = λ k m e. let low : c.self.inside.next < c.self.inside.next = c.self.invariant.lawful.below_next c.self.inside.next k m e in omega (arith, low)

pub returns-in_err-old-clause-step : goal.returns-in_err-old-clause-step
returns-in_err-old-clause-step g c =
    let none = no_pins (entry_of c.in-Ok.found.node.now).pins c.if-pins-gt0.false in
    let equal = key_is c.in-Ok.ensures.node.entry c.self.invariant.lawful c.args.key.now c.in-Ok.ensures.found in
    let answer = c.from_residual-in_err-old in
    let lacks = steps.lacks_memory_idle g.K.PartialEq.eq g.met.K.Eq.laws c.self.inside.capacity c.self.inside.most_pins c.self.inside.next c.in-Ok.ensures.node.entry c.self.invariant.lawful c.args.key.now c.args.charge equal none (fits_in_place (charges_of c.self.inside.table) c.total-2.result (entry_of c.in-Ok.found.node.now).charge c.args.charge c.self.invariant.lawful.sum_fits c.total-2.ensures (steps.counted g.K.PartialEq.eq g.met.K.Eq.laws c.self.inside.capacity c.self.inside.most_pins c.self.inside.next c.in-Ok.ensures.node.entry c.self.invariant.lawful c.args.key.now c.args.charge equal none) c.if-charge-rest.false) (below_end c.self.inside.next (omega arith) c.if-stamp-2.false) in
    subst (λ t. Remakes g.K.PartialEq.eq c.args.self.now.cache c.args.key.now c.args.charge answer.result (cache_with c.self.inside.capacity c.self.inside.most_pins c.self.inside.next t)) (sym c.in_err-old.ensures.err)
    (subst (λ old. Remakes g.K.PartialEq.eq old c.args.key.now c.args.charge answer.result (cache_with c.self.inside.capacity c.self.inside.most_pins c.self.inside.next c.self.inside.table)) (ap (λ x. x.cache) c.self.view_is)
    (remade_refused g.K.PartialEq.eq (cache_with c.self.inside.capacity c.self.inside.most_pins c.self.inside.next c.self.inside.table) (cache_with c.self.inside.capacity c.self.inside.most_pins c.self.inside.next c.self.inside.table) c.args.key.now c.args.charge answer.result _ answer.ensures.1 (subst (λ e. RefusesToReplace g.K.PartialEq.eq (cache_with c.self.inside.capacity c.self.inside.most_pins c.self.inside.next c.self.inside.table) c.args.key.now c.args.charge e (cache_with c.self.inside.capacity c.self.inside.most_pins c.self.inside.next c.self.inside.table)) (sym c.in_err-old.ensures.refusal) lacks)))

over_idle : (g : _) (c : After-one g) → Remakes g.K.PartialEq.eq (cache_with c.self.inside.capacity c.self.inside.most_pins c.self.inside.next c.self.inside.table) c.args.key.now c.args.charge (Ok (record { stamp = c.self.inside.next; hint = record { hash = hash_of c.in-Ok.found.node.now; place = c.in_ok-old.new } }, c.one.result, c.settle-evicted-2.result)) (cache_with c.self.inside.capacity c.self.inside.most_pins (c.self.inside.next + 1) c.settle-evicted-2.new.self)
over_idle g c =
    let none = no_pins (entry_of c.in-Ok.found.node.now).pins c.if-pins-gt0.false in
    let equal = key_is c.in-Ok.ensures.node.entry c.self.invariant.lawful c.args.key.now c.in-Ok.ensures.found in
    steps.remakes_idle g.K.PartialEq.eq g.met.K.Eq.laws c.self.inside.capacity c.self.inside.most_pins c.self.inside.next c.in-Ok.ensures.node.entry c.self.invariant.lawful c.args.key.now c.args.charge equal none c.add_over_idle.new.self c.settle-evicted-2.new.self (entry_of c.in_ok-old.old.value) c.one.result c.settle-evicted-2.result c.in_ok-old.ensures.ready c.in_ok-old.ensures.ok c.one.ensures (fits_in_place (charges_of c.self.inside.table) c.total-2.result (entry_of c.in-Ok.found.node.now).charge c.args.charge c.self.invariant.lawful.sum_fits c.total-2.ensures (steps.counted g.K.PartialEq.eq g.met.K.Eq.laws c.self.inside.capacity c.self.inside.most_pins c.self.inside.next c.in-Ok.ensures.node.entry c.self.invariant.lawful c.args.key.now c.args.charge equal none) c.if-charge-rest.false) (below_end c.self.inside.next (omega arith) c.if-stamp-2.false) c.settle-evicted-2.ensures.held c.settle-evicted-2.ensures.front record { hash = hash_of c.in-Ok.found.node.now; place = c.in_ok-old.new }

over_idle_lawful : (g : _) (c : After-one g) → IsLawful g.K.PartialEq.eq (cache_with c.self.inside.capacity c.self.inside.most_pins (c.self.inside.next + 1) c.settle-evicted-2.new.self)
over_idle_lawful g c =
    let none = no_pins (entry_of c.in-Ok.found.node.now).pins c.if-pins-gt0.false in
    let equal = key_is c.in-Ok.ensures.node.entry c.self.invariant.lawful c.args.key.now c.in-Ok.ensures.found in
    steps.idle_lawful g.K.PartialEq.eq g.met.K.Eq.laws c.self.inside.capacity c.self.inside.most_pins c.self.inside.next c.in-Ok.ensures.node.entry c.self.invariant.lawful c.args.key.now c.args.charge equal none c.add_over_idle.new.self c.settle-evicted-2.new.self (entry_of c.in_ok-old.old.value) c.one.result c.settle-evicted-2.result c.in_ok-old.ensures.ready c.in_ok-old.ensures.ok c.one.ensures (fits_in_place (charges_of c.self.inside.table) c.total-2.result (entry_of c.in-Ok.found.node.now).charge c.args.charge c.self.invariant.lawful.sum_fits c.total-2.ensures (steps.counted g.K.PartialEq.eq g.met.K.Eq.laws c.self.inside.capacity c.self.inside.most_pins c.self.inside.next c.in-Ok.ensures.node.entry c.self.invariant.lawful c.args.key.now c.args.charge equal none) c.if-charge-rest.false) (below_end c.self.inside.next (omega arith) c.if-stamp-2.false) c.settle-evicted-2.ensures.held c.settle-evicted-2.ensures.front c.requires c.self.invariant.pins_above

pub invariant_of-self-2 : goal.invariant_of-self-2
invariant_of-self-2 g c = record { lawful = over_idle_lawful g c; pins_above = c.self.invariant.pins_above }

pub returns-clause-step : goal.returns-clause-step
returns-clause-step g c = subst (λ old. Remakes g.K.PartialEq.eq old c.args.key.now c.args.charge (Ok (record { stamp = c.self.inside.next; hint = record { hash = hash_of c.in-Ok.found.node.now; place = c.in_ok-old.new } }, c.one.result, c.settle-evicted-2.result)) (cache_with c.self.inside.capacity c.self.inside.most_pins (c.self.inside.next + 1) c.settle-evicted-2.new.self)) (ap (λ x. x.cache) c.self.view_is) (over_idle g c)

pub returns-clause-lawful : goal.returns-clause-lawful
returns-clause-lawful g c = over_idle_lawful g c
