use Rattle.std.proofs.Common.{[], refl, sym, ap, subst, inl, inr}
use Rattle.concurrent_lru.specs.Cache.{idle_at}
use Rattle.concurrent_lru.specs.Steps.{Repins}
use Rattle.concurrent_lru.specs.NodeTable.{phase_of}
use Rattle.concurrent_lru.specs.Entries.{cache_with}
use Rattle.concurrent_lru.specs.Request as ask
use Rattle.concurrent_lru.specs.Runs.{HasNoneReadyAt, HasRoomAt, Overflows}
use Rattle.concurrent_lru.proofs.Entries.EntryAtPlace.{has_room, has_room_at, repin_overflows}
use Rattle.concurrent_lru.proofs.Entries.StepsOfEntries.{repins}
use Rattle.concurrent_lru.proofs.Steps.MemoryRefused.{repinned_memory}
use Rattle.concurrent_lru.proofs.Steps.PollWithoutChange.{none_if_no_some}
use Rattle.concurrent_lru.proofs.Steps.StaysLawful.{repins_lawful}
use Rattle.concurrent_lru.proofs.lru_core.State.repin_at.Goals as goal
use Rattle.concurrent_lru.proofs.lru_core.State.repin_at.Goals.{After-pin}

pub returns-in_default-clause-step : goal.returns-in_default-clause-step
returns-in_default-clause-step g c =
    let old = cache_with c.self.inside.capacity c.self.inside.most_pins c.self.inside.next c.self.inside.table in
    let none : HasNoneReadyAt g.K.PartialEq.eq old c.args.spot.now.stamp = (
      λ h v holds. c.in_default.ensures.found h.key h.charge (inr (h, holds.at, refl, refl)),
      none_if_no_some (idle_at old c.args.spot.now.stamp) (λ x at. c.in_default.ensures.found x.key x.charge (inl (x, at, refl, refl))),
    ) in
    (subst (λ k. HasNoneReadyAt g.K.PartialEq.eq k c.args.spot.now.stamp) (ap (λ x. x.cache) c.self.view_is) none, refl)

pub returns-then-pins-self-clause-step : goal.returns-then-pins-self-clause-step
returns-then-pins-self-clause-step g c = (
  subst (λ old. Overflows g.K.PartialEq.eq old (ask.repin c.args.spot.now.stamp)) (ap (λ x. x.cache) c.self.view_is)
      (repin_overflows c.in-Some.ensures.node.entry g.K.PartialEq.eq c.self.inside.capacity c.self.inside.most_pins c.self.inside.next c.args.spot.now.stamp c.in-Ready.value c.in-Some.ensures.found c.self.invariant.pins_above c.if-pins-self.true (ap phase_of c.in-Ready.is)),
  refl,
)

pub returns-in_err-share-clause-step : goal.returns-in_err-share-clause-step
returns-in_err-share-clause-step g c =
    repinned_memory g.M.Sharing.seen g.K.PartialEq.eq c.args.self.now.cache (ask.repin c.args.spot.now.stamp) c.from_residual.result _ c.from_residual.ensures.1 refl
    (subst (λ old. HasRoomAt g.K.PartialEq.eq old c.args.spot.now.stamp) (ap (λ x. x.cache) c.self.view_is)
    (has_room_at c.in-Some.ensures.node.entry g.K.PartialEq.eq c.self.inside.capacity c.self.inside.most_pins c.self.inside.next c.args.spot.now.stamp c.in-Ready.value c.in-Some.ensures.found
    (has_room c.in-Some.ensures.node.entry c.self.invariant.lawful c.self.invariant.pins_above c.if-pins-self.false) (ap phase_of c.in-Ready.is)))

pinned : (g : _) (c : After-pin g) → Repins g.K.PartialEq.eq (cache_with c.self.inside.capacity c.self.inside.most_pins c.self.inside.next c.self.inside.table) c.args.spot.now.stamp c.in-Ready.value [] (cache_with c.self.inside.capacity c.self.inside.most_pins c.self.inside.next c.pin.new.self)
pinned g c =
    let here = c.in-Some.ensures.node.entry in
    repins g.K.PartialEq.eq c.self.inside.capacity c.self.inside.most_pins c.self.inside.next here g.met.K.Eq.laws c.pin.new.self c.args.spot.now.stamp c.in-Ready.value c.in-Some.ensures.found
    (has_room here c.self.invariant.lawful c.self.invariant.pins_above c.if-pins-self.false)
    (ap phase_of c.in-Ready.is) c.pin.ensures.revived c.pin.ensures.held

pub invariant_of-self : goal.invariant_of-self
invariant_of-self g c = record { lawful = repins_lawful _ g.met.K.Eq.laws _ c.self.invariant.lawful c.self.invariant.pins_above _ _ _ _ (pinned g c); pins_above = c.self.invariant.pins_above }

pub returns-clause-step : goal.returns-clause-step
returns-clause-step g c =
    let new = cache_with c.self.inside.capacity c.self.inside.most_pins c.self.inside.next c.pin.new.self in
    subst (λ w. Repins g.K.PartialEq.eq c.args.self.now.cache c.args.spot.now.stamp w [] new) (sym c.in_ok-share.ensures)
    (subst (λ old. Repins g.K.PartialEq.eq old c.args.spot.now.stamp c.in-Ready.value [] new) (ap (λ x. x.cache) c.self.view_is) (pinned g c))

pub returns-clause-lawful : goal.returns-clause-lawful
returns-clause-lawful g c = repins_lawful _ g.met.K.Eq.laws _ c.self.invariant.lawful c.self.invariant.pins_above _ _ _ _ (pinned g c)
