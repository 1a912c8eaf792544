use Rattle.std.proofs.Common.{◌≡◌, refl, ap, subst, arith, rules, of_calls}
use Rattle.concurrent_lru.specs.Cache.{IsLawful}
use Rattle.concurrent_lru.specs.NodeTable.{entry_of, phase_of}
use Rattle.concurrent_lru.specs.Entries.{cache_with}
use Rattle.concurrent_lru.specs.Request as ask
use Rattle.concurrent_lru.specs.Reads.{Finds, GetsAndReleases}
use Rattle.concurrent_lru.specs.Runs.{Overflows}
use Rattle.concurrent_lru.proofs.Entries.EntryAtPlace.{key_is, found_is, has_room, unready_found, get_overflows}
use Rattle.concurrent_lru.proofs.Entries.ReadEntry.{finds, read_held, read_idle, read_lawful}
use Rattle.concurrent_lru.proofs.Steps.NotReady.{absent_missed, missed, unready_phase}
use Rattle.concurrent_lru.proofs.lru_core.State.read.Goals as goal
use Rattle.concurrent_lru.proofs.lru_core.State.read.Goals.{After-renew}

pub returns-in_default-clause-step : goal.returns-in_default-clause-step
returns-in_default-clause-step g c = absent_missed g.K.PartialEq.eq (g.Q.AsKey.owned c.args.key) (ap (λ x. x.cache) c.self.view_is) c.in_default.ensures.absent

pub returns-in_default-phase : goal.returns-in_default-phase
returns-in_default-phase g c = record { step = missed g.K.PartialEq.eq (g.Q.AsKey.owned c.args.key) (ap (λ x. x.cache) c.self.view_is) (unready_found c.in-Ok.ensures.node.entry c.self.invariant.lawful (g.Q.AsKey.owned c.args.key) g.met.K.Eq.laws c.in-Ok.ensures.found (unready_phase _ c.in_default-phase.not-Ready)); work = omega arith; refused = tt; missed = λ _. refl; lawful = subst (IsLawful _) (ap (λ x. x.cache) c.self.view_is) c.self.invariant.lawful }

pub returns-then-pins-self-clause-step : goal.returns-then-pins-self-clause-step
returns-then-pins-self-clause-step g c =
    let here = c.in-Ok.ensures.node.entry in
    let equal = key_is here c.self.invariant.lawful (g.Q.AsKey.owned c.args.key) c.in-Ok.ensures.found in (
      refl,
      (
        subst (λ old. Overflows g.K.PartialEq.eq old (ask.get (g.Q.AsKey.owned c.args.key))) (ap (λ x. x.cache) c.self.view_is)
            (get_overflows here g.K.PartialEq.eq c.self.inside.capacity c.self.inside.most_pins c.self.inside.next (g.Q.AsKey.owned c.args.key) c.in-Ready.value (found_is here c.self.invariant.lawful (g.Q.AsKey.owned c.args.key) c.in-Ok.ensures.found) c.self.invariant.pins_above equal c.if-pins-self.true (ap phase_of c.in-Ready.is)),
        refl,
      ),
    )

pub reader-answer-requires : goal.reader-answer-requires
reader-answer-requires g c =
    let here = c.in-Ok.ensures.node.entry in
    let found = finds g.K.PartialEq.eq c.self.inside.capacity c.self.inside.most_pins c.self.inside.next here (g.Q.AsKey.owned c.args.key) c.in-Ready.value (key_is here c.self.invariant.lawful (g.Q.AsKey.owned c.args.key) c.in-Ok.ensures.found)
    (has_room here c.self.invariant.lawful c.self.invariant.pins_above c.if-pins-self.false) (ap phase_of c.in-Ready.is) (found_is here c.self.invariant.lawful (g.Q.AsKey.owned c.args.key) c.in-Ok.ensures.found) in
    c.requires.callable c.in-Ready.value (subst (λ old. Finds g.K.PartialEq.eq old (g.Q.AsKey.owned c.args.key) c.in-Ready.value) (ap (λ x. x.cache) c.self.view_is) found) c.value.result c.value.ensures

pub returns-then-pins-gt0-clause-step : goal.returns-then-pins-gt0-clause-step
returns-then-pins-gt0-clause-step g c =
    let here = c.in-Ok.ensures.node.entry in
    let v = c.in-Ready.value in
    let pinned = c.if-pins-gt0.true in
    let read = read_held g.K.PartialEq.eq c.self.inside.capacity c.self.inside.most_pins c.self.inside.next here (g.Q.AsKey.owned c.args.key) v (key_is here c.self.invariant.lawful (g.Q.AsKey.owned c.args.key) c.in-Ok.ensures.found)
    (has_room here c.self.invariant.lawful c.self.invariant.pins_above c.if-pins-self.false) (ap phase_of c.in-Ready.is) (found_is here c.self.invariant.lawful (g.Q.AsKey.owned c.args.key) c.in-Ok.ensures.found) (λ none. omega (arith, none, pinned)) in
    (v, subst (λ old. GetsAndReleases g.K.PartialEq.eq old (g.Q.AsKey.owned c.args.key) (entry_of c.in-Ok.found.node.now).stamp v old) (ap (λ x. x.cache) c.self.view_is) read, search (rules, of_calls))

unpinned : (g : _) (c : After-renew g) → (entry_of c.in-Ok.found.node.now).pins ≡ 0
unpinned g c = let few = c.if-pins-gt0.false in omega (arith, few)

lawful : (g : _) (c : After-renew g) → IsLawful g.K.PartialEq.eq (cache_with c.self.inside.capacity c.self.inside.most_pins c.self.inside.next c.renew.new.self)
lawful g c =
    let here = c.in-Ok.ensures.node.entry in
    read_lawful g.K.PartialEq.eq c.self.inside.capacity c.self.inside.most_pins c.self.inside.next here (g.Q.AsKey.owned c.args.key) c.in-Ready.value (key_is here c.self.invariant.lawful (g.Q.AsKey.owned c.args.key) c.in-Ok.ensures.found)
    (has_room here c.self.invariant.lawful c.self.invariant.pins_above c.if-pins-self.false) (ap phase_of c.in-Ready.is) (found_is here c.self.invariant.lawful (g.Q.AsKey.owned c.args.key) c.in-Ok.ensures.found) c.self.invariant.lawful c.renew.new.self g.met.K.Eq.laws (unpinned g c) c.renew.ensures

pub invariant_of-self : goal.invariant_of-self
invariant_of-self g c = record { lawful = lawful g c; pins_above = c.self.invariant.pins_above }

pub returns-clause-step : goal.returns-clause-step
returns-clause-step g c =
    let here = c.in-Ok.ensures.node.entry in
    let v = c.in-Ready.value in
    let read = read_idle g.K.PartialEq.eq c.self.inside.capacity c.self.inside.most_pins c.self.inside.next here (g.Q.AsKey.owned c.args.key) v (key_is here c.self.invariant.lawful (g.Q.AsKey.owned c.args.key) c.in-Ok.ensures.found)
    (has_room here c.self.invariant.lawful c.self.invariant.pins_above c.if-pins-self.false) (ap phase_of c.in-Ready.is) (found_is here c.self.invariant.lawful (g.Q.AsKey.owned c.args.key) c.in-Ok.ensures.found) c.self.invariant.lawful c.renew.new.self (unpinned g c) c.renew.ensures in
    let new = cache_with c.self.inside.capacity c.self.inside.most_pins c.self.inside.next c.renew.new.self in
    (v, subst (λ old. GetsAndReleases g.K.PartialEq.eq old (g.Q.AsKey.owned c.args.key) (entry_of c.in-Ok.found.node.now).stamp v new) (ap (λ x. x.cache) c.self.view_is) read, search (rules, of_calls))

pub returns-clause-lawful : goal.returns-clause-lawful
returns-clause-lawful g c = lawful g c
