use Rattle.std.proofs.Common.{◌≢◌, ◌≤◌, ℕ, refl, ap, subst, inl, inr, arith}
use Rattle.concurrent_lru.specs.Cache.{IsUnfoundAt}
use Rattle.concurrent_lru.specs.NodeTable.{entry_of}
use Rattle.concurrent_lru.specs.Steps.{Invalidates, InvalidatesAt}
use Rattle.concurrent_lru.specs.Entries.{FindsEntry, cache_with}
use Rattle.concurrent_lru.proofs.Steps.FoundEntries.{found_entry}
use Rattle.concurrent_lru.proofs.Steps.StaysLawful.{invalidates_lawful}
use Rattle.concurrent_lru.proofs.Entries.EntryAtPlace.{finds_entry, found_here, stamp_is}
use Rattle.concurrent_lru.proofs.Entries.StepsOfEntries.{invalidates}
use Rattle.concurrent_lru.proofs.lru_core.State.invalidate_entry.Goals as goal
use Rattle.concurrent_lru.proofs.lru_core.State.invalidate_entry.Goals.{After-invalidate, else-pins-gt0-via-then-pins-gt0+else-detached, else-pins-gt0-via-else-pins-gt0}

none_of : (n : ℕ) → n ≤ 0 → n ≢ 0 → ⊥
none_of n none some = omega (arith, none, some)

pub returns-in_default-clause-step : goal.returns-in_default-clause-step
returns-in_default-clause-step g c =
    let old = cache_with c.self.inside.capacity c.self.inside.most_pins c.self.inside.next c.self.inside.table in
    inr (subst (λ k. IsUnfoundAt k c.args.spot.now.stamp) (ap (λ x. x.cache) c.self.view_is) (λ k m f. c.in_default.ensures.found k m (found_entry old c.args.spot.now.stamp k m f)), record { same = refl; none = c.none.ensures })

pub invalidate-requires-clause-held : goal.invalidate-requires-clause-held
invalidate-requires-clause-held g c = λ some. found_here c.in-Some.ensures.node.entry some (elim c.else-pins-gt0.branch [
  | else-pins-gt0-via-then-pins-gt0+else-detached w ↦ w.if-detached.false
  | else-pins-gt0-via-else-pins-gt0 w ↦ absurd (none_of _ w.if-pins-gt0.false some)
])

-- the key of the entry that was found is invalidated
invalidated : (g : _) (c : After-invalidate g)
    → Invalidates g.K.PartialEq.eq (cache_with c.self.inside.capacity c.self.inside.most_pins c.self.inside.next c.self.inside.table) (entry_of c.in-Some.found.node.now).key c.invalidate.result (cache_with c.self.inside.capacity c.self.inside.most_pins c.self.inside.next c.invalidate.new.self)
invalidated g c =
    let e = entry_of c.in-Some.found.node.now in
    invalidates g.K.PartialEq.eq c.self.inside.capacity c.self.inside.most_pins c.self.inside.next c.in-Some.ensures.node.entry c.invalidate.new.self e.key c.invalidate.result
    (g.met.K.Eq.laws.refl e.key) (λ some. elim c.else-pins-gt0.branch [
      | else-pins-gt0-via-then-pins-gt0+else-detached w ↦ w.if-detached.false
      | else-pins-gt0-via-else-pins-gt0 w ↦ absurd (none_of _ w.if-pins-gt0.false some)
    ]) c.invalidate.ensures.evicted c.invalidate.ensures.detached

pub invariant_of-self : goal.invariant_of-self
invariant_of-self g c = record { lawful = invalidates_lawful _ _ _ _ _ c.self.invariant.lawful (invalidated g c); pins_above = c.self.invariant.pins_above }

pub returns-clause-lawful : goal.returns-clause-lawful
returns-clause-lawful g c = invalidates_lawful _ _ _ _ _ c.self.invariant.lawful (invalidated g c)

pub returns-clause-step : goal.returns-clause-step
returns-clause-step g c =
    let e = entry_of c.in-Some.found.node.now in
    let here = c.in-Some.ensures.node.entry in
    let new = cache_with c.self.inside.capacity c.self.inside.most_pins c.self.inside.next c.invalidate.new.self in
    let found = subst (λ s. FindsEntry c.self.inside.table s e.key e.charge) (stamp_is here c.args.spot.now.stamp c.in-Some.ensures.found) (finds_entry here (λ some. elim c.else-pins-gt0.branch [
      | else-pins-gt0-via-then-pins-gt0+else-detached w ↦ w.if-detached.false
      | else-pins-gt0-via-else-pins-gt0 w ↦ absurd (none_of _ w.if-pins-gt0.false some)
    ])) in
    subst (λ old. InvalidatesAt g.K.PartialEq.eq old c.args.spot.now.stamp c.invalidate.result new) (ap (λ x. x.cache) c.self.view_is) (inl (e.key, e.charge, found, invalidated g c))
