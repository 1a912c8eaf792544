use Rattle.std.proofs.Common.{[], refl, sym, ap, subst, arith}
use Rattle.concurrent_lru.specs.Cache.{IsLawful}
use Rattle.concurrent_lru.specs.Steps.{Hits}
use Rattle.concurrent_lru.specs.NodeTable.{entry_of, phase_of}
use Rattle.concurrent_lru.specs.Entries.{cache_with}
use Rattle.concurrent_lru.specs.Request as ask
use Rattle.concurrent_lru.specs.Runs.{Overflows, TakesMemory}
use Rattle.concurrent_lru.proofs.Entries.EntryAtPlace.{key_is, found_is, has_room, unready_found, would_hit, get_overflows}
use Rattle.concurrent_lru.proofs.Steps.NotReady.{absent_missed, missed, unready_phase}
use Rattle.concurrent_lru.proofs.Steps.StaysLawful.{hits_lawful}
use Rattle.concurrent_lru.proofs.Steps.MemoryRefused.{got_memory}
use Rattle.concurrent_lru.proofs.Entries.StepsOfEntries.{hits}
use Rattle.concurrent_lru.proofs.lru_core.State.get_at.Goals as goal
use Rattle.concurrent_lru.proofs.lru_core.State.get_at.Goals.{After-pin}

pub returns-in_default-clause-step : goal.returns-in_default-clause-step
returns-in_default-clause-step g c = absent_missed g.K.PartialEq.eq (g.Q.AsKey.owned c.args.key) (ap (λ x. x.cache) c.self.view_is) c.in_default.ensures.absent

pub returns-in_default-phase : goal.returns-in_default-phase
returns-in_default-phase g c = record { step = missed g.K.PartialEq.eq (g.Q.AsKey.owned c.args.key) (ap (λ x. x.cache) c.self.view_is) (unready_found c.in-Ok.ensures.node.entry c.self.invariant.lawful (g.Q.AsKey.owned c.args.key) g.met.K.Eq.laws c.in-Ok.ensures.found (unready_phase _ c.in_default-phase.not-Ready)); work = omega arith; lawful = subst (IsLawful _) (ap (λ x. x.cache) c.self.view_is) c.self.invariant.lawful }

pub returns-then-pins-self-clause-step : goal.returns-then-pins-self-clause-step
returns-then-pins-self-clause-step g c =
    let here = c.in-Ok.ensures.node.entry in
    let equal = key_is here c.self.invariant.lawful (g.Q.AsKey.owned c.args.key) c.in-Ok.ensures.found in (
      subst (λ old. Overflows g.K.PartialEq.eq old (ask.get (g.Q.AsKey.owned c.args.key))) (ap (λ x. x.cache) c.self.view_is)
          (get_overflows here g.K.PartialEq.eq c.self.inside.capacity c.self.inside.most_pins c.self.inside.next (g.Q.AsKey.owned c.args.key) c.in-Ready.value (found_is here c.self.invariant.lawful (g.Q.AsKey.owned c.args.key) c.in-Ok.ensures.found) c.self.invariant.pins_above equal c.if-pins-self.true (ap phase_of c.in-Ready.is)),
      refl,
    )

pub returns-in_err-share-clause-step : goal.returns-in_err-share-clause-step
returns-in_err-share-clause-step g c =
    let here = c.in-Ok.ensures.node.entry in
    got_memory g.M.Sharing.seen g.K.PartialEq.eq c.args.self.now.cache (ask.get (g.Q.AsKey.owned c.args.key)) c.from_residual.result _ c.from_residual.ensures.1 refl
    (subst (λ old. TakesMemory g.K.PartialEq.eq old (ask.get (g.Q.AsKey.owned c.args.key))) (ap (λ x. x.cache) c.self.view_is)
    (would_hit here g.K.PartialEq.eq c.self.inside.capacity c.self.inside.most_pins c.self.inside.next (g.Q.AsKey.owned c.args.key) c.in-Ready.value (found_is here c.self.invariant.lawful (g.Q.AsKey.owned c.args.key) c.in-Ok.ensures.found)
    (has_room here c.self.invariant.lawful c.self.invariant.pins_above c.if-pins-self.false)
    (key_is here c.self.invariant.lawful (g.Q.AsKey.owned c.args.key) c.in-Ok.ensures.found) (ap phase_of c.in-Ready.is)))

pub pin-requires : goal.pin-requires
pin-requires g c =
    let room = has_room c.in-Ok.ensures.node.entry c.self.invariant.lawful c.self.invariant.pins_above c.if-pins-self.false in
    record { place = ((entry_of c.in-Ok.found.node.now).stamp, c.in-Ok.ensures.node.entry.at); link = c.in-Ok.ensures.link; pins = c.in-Ok.ensures.node.pins; room = omega (arith, room) }

found : (g : _) (c : After-pin g) → Hits g.K.PartialEq.eq (cache_with c.self.inside.capacity c.self.inside.most_pins c.self.inside.next c.self.inside.table) (g.Q.AsKey.owned c.args.key) (entry_of c.in-Ok.found.node.now).stamp c.in-Ready.value [] (cache_with c.self.inside.capacity c.self.inside.most_pins c.self.inside.next c.pin.new.self)
found g c =
    let here = c.in-Ok.ensures.node.entry in
    hits g.K.PartialEq.eq c.self.inside.capacity c.self.inside.most_pins c.self.inside.next here c.pin.new.self (g.Q.AsKey.owned c.args.key) c.in-Ready.value
    (found_is here c.self.invariant.lawful (g.Q.AsKey.owned c.args.key) c.in-Ok.ensures.found) (key_is here c.self.invariant.lawful (g.Q.AsKey.owned c.args.key) c.in-Ok.ensures.found) (has_room here c.self.invariant.lawful c.self.invariant.pins_above c.if-pins-self.false)
    (ap phase_of c.in-Ready.is) c.pin.ensures.revived c.pin.ensures.held

pub invariant_of-self : goal.invariant_of-self
invariant_of-self g c = record { lawful = hits_lawful _ g.met.K.Eq.laws _ c.self.invariant.lawful c.self.invariant.pins_above _ _ _ _ _ (found g c); pins_above = c.self.invariant.pins_above }

pub returns-clause-step : goal.returns-clause-step
returns-clause-step g c =
    let new = cache_with c.self.inside.capacity c.self.inside.most_pins c.self.inside.next c.pin.new.self in
    subst (λ w. Hits g.K.PartialEq.eq c.args.self.now.cache (g.Q.AsKey.owned c.args.key) (entry_of c.in-Ok.found.node.now).stamp w [] new) (sym c.in_ok-share.ensures)
    (subst (λ old. Hits g.K.PartialEq.eq old (g.Q.AsKey.owned c.args.key) (entry_of c.in-Ok.found.node.now).stamp c.in-Ready.value [] new) (ap (λ x. x.cache) c.self.view_is) (found g c))

pub returns-clause-lawful : goal.returns-clause-lawful
returns-clause-lawful g c = hits_lawful _ g.met.K.Eq.laws _ c.self.invariant.lawful c.self.invariant.pins_above _ _ _ _ _ (found g c)
