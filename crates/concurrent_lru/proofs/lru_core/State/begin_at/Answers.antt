use Rattle.std.proofs.Common.{[], refl, sym, ap, subst, arith, inl, inr}
use Rattle.concurrent_lru.specs.Cache.{making, untaken}
use Rattle.concurrent_lru.specs.Steps.{IsAbsent, Joins, Hits}
use Rattle.concurrent_lru.specs.NodeTable.{entry_of, phase_of}
use Rattle.concurrent_lru.specs.Entries.{cache_with}
use Rattle.concurrent_lru.specs.Request as ask
use Rattle.concurrent_lru.specs.Runs.{Overflows, TakesMemory}
use Rattle.concurrent_lru.proofs.Entries.EntryAtPlace.{key_is, found_is, has_room, held_place, unready_pinned, would_hit, is_full}
use Rattle.concurrent_lru.proofs.Steps.NotReady.{unready_not_ready}
use Rattle.concurrent_lru.proofs.Steps.BeginOfHeld.{joins_lawful}
use Rattle.concurrent_lru.proofs.Steps.StaysLawful.{hits_lawful}
use Rattle.concurrent_lru.proofs.Steps.MemoryRefused.{begun_memory}
use Rattle.concurrent_lru.proofs.Entries.StepsOfEntries.{still_held, still_leads, rewritten_twice, joins, joins_as_it_is, hits}
use Rattle.concurrent_lru.proofs.lru_core.State.begin_at.Goals as goal
use Rattle.concurrent_lru.proofs.lru_core.State.begin_at.Goals.{After-none, After-none-in-Untaken, After-none-in-Ready}

pub make-requires-clause-absent : goal.make-requires-clause-absent
make-requires-clause-absent g c = subst (λ k. IsAbsent g.K.PartialEq.eq k c.args.key.now) (ap (λ x. x.cache) c.self.view_is) c.in-Err.ensures.absent

pub returns-then-pins-self-clause-step : goal.returns-then-pins-self-clause-step
returns-then-pins-self-clause-step g c =
    let here = c.in-Ok.ensures.node.entry in
    let equal = key_is here c.self.invariant.lawful c.args.key.now c.in-Ok.ensures.found in (
      subst (λ old. Overflows g.K.PartialEq.eq old (ask.begin c.args.key.now c.args.charge)) (ap (λ x. x.cache) c.self.view_is)
          (inr (is_full here g.K.PartialEq.eq c.self.inside.capacity c.self.inside.most_pins c.self.inside.next c.args.key.now (found_is here c.self.invariant.lawful c.args.key.now c.in-Ok.ensures.found) c.self.invariant.pins_above equal c.if-pins-self.true)),
      refl,
    )

pub overflow_add-pins : goal.overflow_add-pins
overflow_add-pins g c = let room = has_room c.in-Ok.ensures.node.entry c.self.invariant.lawful c.self.invariant.pins_above c.if-pins-self.false in omega (arith, room)

pub set_pins-requires-clause-held : goal.set_pins-requires-clause-held
set_pins-requires-clause-held g c = let here = c.in-Ok.ensures.node.entry in held_place here (unready_pinned here (unready_not_ready _ (inl (ap phase_of c.in-Making.is))))

waits : (g : _) (c : After-none g) → Joins g.K.PartialEq.eq (cache_with c.self.inside.capacity c.self.inside.most_pins c.self.inside.next c.self.inside.table) c.args.key.now (entry_of c.in-Ok.found.node.now).stamp making making [] (cache_with c.self.inside.capacity c.self.inside.most_pins c.self.inside.next c.set_pins.new.self)
waits g c =
    let here = c.in-Ok.ensures.node.entry in
    let phase = ap phase_of c.in-Making.is in
    joins_as_it_is g.K.PartialEq.eq c.self.inside.capacity c.self.inside.most_pins c.self.inside.next here c.set_pins.new.self c.args.key.now making
    (found_is here c.self.invariant.lawful c.args.key.now c.in-Ok.ensures.found (unready_pinned here (unready_not_ready _ (inl phase)))) (key_is here c.self.invariant.lawful c.args.key.now c.in-Ok.ensures.found) (unready_pinned here (unready_not_ready _ (inl phase)))
    (has_room here c.self.invariant.lawful c.self.invariant.pins_above c.if-pins-self.false) phase c.set_pins.ensures

pub invariant_of-self : goal.invariant_of-self
invariant_of-self g c = record { lawful = joins_lawful _ _ _ _ _ _ _ _ c.self.invariant.lawful (waits g c); pins_above = c.self.invariant.pins_above }

pub returns-in-Making-clause-step : goal.returns-in-Making-clause-step
returns-in-Making-clause-step g c =
    let s = (entry_of c.in-Ok.found.node.now).stamp in
    let new = cache_with c.self.inside.capacity c.self.inside.most_pins c.self.inside.next c.set_pins.new.self in
    let step : Joins g.K.PartialEq.eq c.args.self.now.cache c.args.key.now s making making [] new = subst (λ old. Joins g.K.PartialEq.eq old c.args.key.now s making making [] new) (ap (λ x. x.cache) c.self.view_is) (waits g c) in
    subst (λ out. Joins g.K.PartialEq.eq c.args.self.now.cache c.args.key.now s making making out new) (sym c.none.ensures) step

pub returns-in-Making-clause-lawful : goal.returns-in-Making-clause-lawful
returns-in-Making-clause-lawful g c = joins_lawful _ _ _ _ _ _ _ _ c.self.invariant.lawful (waits g c)

pub overflow_add-pins-in-Untaken : goal.overflow_add-pins-in-Untaken
overflow_add-pins-in-Untaken g c = let room = has_room c.in-Ok.ensures.node.entry c.self.invariant.lawful c.self.invariant.pins_above c.if-pins-self.false in omega (arith, room)

pub set_pins-requires-in-Untaken-clause-held : goal.set_pins-requires-in-Untaken-clause-held
set_pins-requires-in-Untaken-clause-held g c = let here = c.in-Ok.ensures.node.entry in held_place here (unready_pinned here (unready_not_ready _ (inr (ap phase_of c.in-Untaken.is))))

pub set_phase-requires-clause-held : goal.set_phase-requires-clause-held
set_phase-requires-clause-held g c = still_held c.set_pins-in-Untaken.ensures

pub set_phase-requires-clause-link : goal.set_phase-requires-clause-link
set_phase-requires-clause-link g c = still_leads c.set_pins-in-Untaken.ensures c.in-Ok.ensures.link

takes : (g : _) (c : After-none-in-Untaken g) → Joins g.K.PartialEq.eq (cache_with c.self.inside.capacity c.self.inside.most_pins c.self.inside.next c.self.inside.table) c.args.key.now (entry_of c.in-Ok.found.node.now).stamp untaken making [] (cache_with c.self.inside.capacity c.self.inside.most_pins c.self.inside.next c.set_phase.new.self)
takes g c =
    let here = c.in-Ok.ensures.node.entry in
    let phase = ap phase_of c.in-Untaken.is in
    let some = unready_pinned here (unready_not_ready _ (inr phase)) in
    joins g.K.PartialEq.eq c.self.inside.capacity c.self.inside.most_pins c.self.inside.next here c.set_phase.new.self c.args.key.now untaken making
    (found_is here c.self.invariant.lawful c.args.key.now c.in-Ok.ensures.found some) (key_is here c.self.invariant.lawful c.args.key.now c.in-Ok.ensures.found) some
    (has_room here c.self.invariant.lawful c.self.invariant.pins_above c.if-pins-self.false) phase (rewritten_twice here some c.set_pins-in-Untaken.ensures c.set_phase.ensures)

pub invariant_of-self-in-Untaken : goal.invariant_of-self-in-Untaken
invariant_of-self-in-Untaken g c = record { lawful = joins_lawful _ _ _ _ _ _ _ _ c.self.invariant.lawful (takes g c); pins_above = c.self.invariant.pins_above }

pub returns-in-Untaken-clause-step : goal.returns-in-Untaken-clause-step
returns-in-Untaken-clause-step g c =
    let s = (entry_of c.in-Ok.found.node.now).stamp in
    let new = cache_with c.self.inside.capacity c.self.inside.most_pins c.self.inside.next c.set_phase.new.self in
    let step : Joins g.K.PartialEq.eq c.args.self.now.cache c.args.key.now s untaken making [] new = subst (λ old. Joins g.K.PartialEq.eq old c.args.key.now s untaken making [] new) (ap (λ x. x.cache) c.self.view_is) (takes g c) in
    inr (subst (λ out. Joins g.K.PartialEq.eq c.args.self.now.cache c.args.key.now s untaken making out new) (sym c.none-in-Untaken.ensures) step)

pub returns-in-Untaken-clause-lawful : goal.returns-in-Untaken-clause-lawful
returns-in-Untaken-clause-lawful g c = joins_lawful _ _ _ _ _ _ _ _ c.self.invariant.lawful (takes g c)

pub returns-in_err-share-in-Ready-clause-step : goal.returns-in_err-share-in-Ready-clause-step
returns-in_err-share-in-Ready-clause-step g c =
    let here = c.in-Ok.ensures.node.entry in
    begun_memory g.M.Sharing.seen g.K.PartialEq.eq c.args.self.now.cache (ask.begin c.args.key.now c.args.charge) c.from_residual.result _ c.from_residual.ensures.1 refl
    (subst (λ old. TakesMemory g.K.PartialEq.eq old (ask.begin c.args.key.now c.args.charge)) (ap (λ x. x.cache) c.self.view_is)
    (inr (would_hit here g.K.PartialEq.eq c.self.inside.capacity c.self.inside.most_pins c.self.inside.next c.args.key.now c.in-Ready.value (found_is here c.self.invariant.lawful c.args.key.now c.in-Ok.ensures.found)
    (has_room here c.self.invariant.lawful c.self.invariant.pins_above c.if-pins-self.false)
    (key_is here c.self.invariant.lawful c.args.key.now c.in-Ok.ensures.found) (ap phase_of c.in-Ready.is))))

pub pin-requires : goal.pin-requires
pin-requires g c =
    let room = has_room c.in-Ok.ensures.node.entry c.self.invariant.lawful c.self.invariant.pins_above c.if-pins-self.false in
    record { place = ((entry_of c.in-Ok.found.node.now).stamp, c.in-Ok.ensures.node.entry.at); link = c.in-Ok.ensures.link; pins = c.in-Ok.ensures.node.pins; room = omega (arith, room) }

found : (g : _) (c : After-none-in-Ready g) → Hits g.K.PartialEq.eq (cache_with c.self.inside.capacity c.self.inside.most_pins c.self.inside.next c.self.inside.table) c.args.key.now (entry_of c.in-Ok.found.node.now).stamp c.in-Ready.value [] (cache_with c.self.inside.capacity c.self.inside.most_pins c.self.inside.next c.pin.new.self)
found g c =
    let here = c.in-Ok.ensures.node.entry in
    hits g.K.PartialEq.eq c.self.inside.capacity c.self.inside.most_pins c.self.inside.next here c.pin.new.self c.args.key.now c.in-Ready.value
    (found_is here c.self.invariant.lawful c.args.key.now c.in-Ok.ensures.found) (key_is here c.self.invariant.lawful c.args.key.now c.in-Ok.ensures.found) (has_room here c.self.invariant.lawful c.self.invariant.pins_above c.if-pins-self.false)
    (ap phase_of c.in-Ready.is) c.pin.ensures.revived c.pin.ensures.held

pub invariant_of-self-in-Ready : goal.invariant_of-self-in-Ready
invariant_of-self-in-Ready g c = record { lawful = hits_lawful _ g.met.K.Eq.laws _ c.self.invariant.lawful c.self.invariant.pins_above _ _ _ _ _ (found g c); pins_above = c.self.invariant.pins_above }

pub returns-in_ok-share-in-Ready-clause-lawful : goal.returns-in_ok-share-in-Ready-clause-lawful
returns-in_ok-share-in-Ready-clause-lawful g c = hits_lawful _ g.met.K.Eq.laws _ c.self.invariant.lawful c.self.invariant.pins_above _ _ _ _ _ (found g c)

pub returns-in_ok-share-in-Ready-clause-step : goal.returns-in_ok-share-in-Ready-clause-step
returns-in_ok-share-in-Ready-clause-step g c =
    let s = (entry_of c.in-Ok.found.node.now).stamp in
    let v = g.M.Sharing.seen c.in_ok-share-in-Ready.share in
    let new = cache_with c.self.inside.capacity c.self.inside.most_pins c.self.inside.next c.pin.new.self in
    let same : Hits g.K.PartialEq.eq (cache_with c.self.inside.capacity c.self.inside.most_pins c.self.inside.next c.self.inside.table) c.args.key.now s v [] new =
    subst (λ w. Hits g.K.PartialEq.eq (cache_with c.self.inside.capacity c.self.inside.most_pins c.self.inside.next c.self.inside.table) c.args.key.now s w [] new) (sym c.in_ok-share-in-Ready.ensures) (found g c) in
    let step : Hits g.K.PartialEq.eq c.args.self.now.cache c.args.key.now s v [] new = subst (λ old. Hits g.K.PartialEq.eq old c.args.key.now s v [] new) (ap (λ x. x.cache) c.self.view_is) same in
    subst (λ out. Hits g.K.PartialEq.eq c.args.self.now.cache c.args.key.now s v out new) (sym c.none-in-Ready.ensures) step
