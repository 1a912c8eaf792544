use Rattle.std.proofs.Common.{◌≡◌, false, refl, sym, ap, ◌∙◌, subst}
use Rattle.std.specs.Arc.{arc_value}
use Rattle.concurrent_lru.specs.CountedCalls.{counted}
use Rattle.concurrent_lru.specs.Debts.{ready_with_under}
use Rattle.concurrent_lru.specs.Ready.{HasEqualKeyAt, ValuesFit}
use Rattle.concurrent_lru.specs.Request as ask
use Rattle.concurrent_lru.specs.Reply as say
use Rattle.concurrent_lru.specs.Runs.{accepted, refused, Stands}
use Rattle.concurrent_lru.proofs.AddedUp.CountsOfCharges.{counted_charge, owes_charge, recharged_held, refusal_counted, stands_under, was_counted}
use Rattle.concurrent_lru.proofs.AddedUp.CountsOfSteps.{can_evict, soundly_counted, told_evicted}
use Rattle.concurrent_lru.proofs.Steps.ReadyValues.{ready_with_kept}
use Rattle.concurrent_lru.proofs.locked.Locked.ready_with_core.Goals as goal

pub returns-then-not-is_own-clause-step : goal.returns-then-not-is_own-clause-step
returns-then-not-is_own-clause-step g c = λ own. absurd (c.has_key-is_own.ensures.no c.if-not-is_own.true (subst (λ x. HasEqualKeyAt g.K.PartialEq.eq x.cache c.args.spot.now.stamp c.args.key.now) (sym c.self.view_is) own))

pub returns-then-is_full_with-clause-no_entry : goal.returns-then-is_full_with-clause-no_entry
returns-then-is_full_with-clause-no_entry g c = λ none. absurd (none (subst (λ x. HasEqualKeyAt g.K.PartialEq.eq x.cache c.args.spot.now.stamp c.args.key.now) c.self.view_is (c.has_key-is_own.ensures.yes c.if-not-is_own.false)))

pub recharge-requires-clause-counted : goal.recharge-requires-clause-counted
recharge-requires-clause-counted g c = was_counted g.K.PartialEq.eq c.self.inside.state.cache c.ready_with_at.new.self.cache c.args.spot.now.stamp (arc_value c.args.stored) c.args.charge c.in-Ok.evicted c.in-Ok.ensures.step c.charge_at-was.result c.charge_at-was.ensures c.self.inside.counts c.self.invariant.counted.adds_up

pub evict-requires-clause-entries : goal.evict-requires-clause-entries
evict-requires-clause-entries g c =
    let old = c.self.inside.state.cache in
    let owes = owes_charge g.K.PartialEq.eq old c.ready_with_at.new.self.cache c.args.spot.now.stamp (arc_value c.args.stored) c.args.charge c.in-Ok.evicted c.in-Ok.ensures.step c.charge_at-was.result c.charge_at-was.ensures c.self.inside.counts c.self.invariant.counted.adds_up in
    let same = recharged_held g.K.PartialEq.eq old c.ready_with_at.new.self.cache c.args.spot.now.stamp (arc_value c.args.stored) c.args.charge c.in-Ok.evicted c.in-Ok.ensures.step c.charge_at-was.result c.charge_at-was.ensures c.self.inside.counts c.self.invariant.counted.adds_up c.recharge.new.self c.recharge.ensures in
    (can_evict owes same c.len.ensures c.total.ensures.step.0).entries

pub evict-requires-clause-charge : goal.evict-requires-clause-charge
evict-requires-clause-charge g c =
    let old = c.self.inside.state.cache in
    let owes = owes_charge g.K.PartialEq.eq old c.ready_with_at.new.self.cache c.args.spot.now.stamp (arc_value c.args.stored) c.args.charge c.in-Ok.evicted c.in-Ok.ensures.step c.charge_at-was.result c.charge_at-was.ensures c.self.inside.counts c.self.invariant.counted.adds_up in
    let same = recharged_held g.K.PartialEq.eq old c.ready_with_at.new.self.cache c.args.spot.now.stamp (arc_value c.args.stored) c.args.charge c.in-Ok.evicted c.in-Ok.ensures.step c.charge_at-was.result c.charge_at-was.ensures c.self.inside.counts c.self.invariant.counted.adds_up c.recharge.new.self c.recharge.ensures in
    (can_evict owes same c.len.ensures c.total.ensures.step.0).charge

pub invariant_of-self-in-Ok : goal.invariant_of-self-in-Ok
invariant_of-self-in-Ok g c =
    let old = c.self.inside.state.cache in
    let new = c.ready_with_at.new.self.cache in
    let s = c.args.spot.now.stamp in
    let v = arc_value c.args.stored in
    let owes = owes_charge g.K.PartialEq.eq old new s v c.args.charge c.in-Ok.evicted c.in-Ok.ensures.step c.charge_at-was.result c.charge_at-was.ensures c.self.inside.counts c.self.invariant.counted.adds_up in
    let same = recharged_held g.K.PartialEq.eq old new s v c.args.charge c.in-Ok.evicted c.in-Ok.ensures.step c.charge_at-was.result c.charge_at-was.ensures c.self.inside.counts c.self.invariant.counted.adds_up c.recharge.new.self c.recharge.ensures in
    record {
      counted = soundly_counted {E = g.K.PartialEq.eq} old new c.self.inside.counts c.evict.new.self (ask.ready_with s v c.args.charge) (accepted say.done c.in-Ok.evicted) c.self.invariant.counted c.in-Ok.ensures.step c.ready_with_at.ensures.lawful
          (told_evicted c.in-Ok.evicted owes same c.evict.ensures c.len.ensures c.total.ensures.step.0);
      kept = ready_with_kept g.K.PartialEq.eq g.F.Fit.fits old new s c.args.key.now v c.args.charge (accepted say.done c.in-Ok.evicted) g.met.K.Eq.laws g.met.F.Fit.equal_keys c.self.invariant.counted.lawful (c.has_key-is_own.ensures.yes c.if-not-is_own.false) c.requires.fits c.in-Ok.ensures.step c.self.invariant.kept;
    }

pub invariant_of-self-in-Err : goal.invariant_of-self-in-Err
invariant_of-self-in-Err g c =
    let old = c.self.inside.state.cache in
    let new = c.ready_with_at.new.self.cache in
    let s = c.args.spot.now.stamp in
    let v = arc_value c.args.stored in
    record {
      counted = soundly_counted {E = g.K.PartialEq.eq} old new c.self.inside.counts c.count_refusal.new.counts (ask.ready_with s v c.args.charge) (refused c.in-Err.refusal) c.self.invariant.counted c.in-Err.ensures.step c.ready_with_at.ensures.lawful
          (c.count_refusal.ensures ∙ refusal_counted g.K.PartialEq.eq old new s v c.args.charge false c.in-Err.refusal c.self.inside.counts c.in-Err.ensures.step.0);
      kept = subst (ValuesFit g.F.Fit.fits) (sym (ap (λ x. x.cache) c.in-Err.ensures.same)) c.self.invariant.kept;
    }

pub returns-in-Ok-clause-step : goal.returns-in-Ok-clause-step
returns-in-Ok-clause-step g c = λ own.
    let new = c.ready_with_at.new.self.cache in
    stands_under g.K.PartialEq.eq c.args.self.now.cache new c.args.spot.now.stamp (arc_value c.args.stored) c.args.charge c.args.self.now.strict (accepted say.done c.in-Ok.evicted) (c.if-is_full_with.ensures.no refl)
    (subst (λ x. Stands g.K.PartialEq.eq x.cache (ask.ready_with c.args.spot.now.stamp (arc_value c.args.stored) c.args.charge) (accepted say.done c.in-Ok.evicted) new) c.self.view_is c.in-Ok.ensures.step)

pub returns-in-Ok-clause-no_entry : goal.returns-in-Ok-clause-no_entry
returns-in-Ok-clause-no_entry g c = λ none. absurd (none (subst (λ x. HasEqualKeyAt g.K.PartialEq.eq x.cache c.args.spot.now.stamp c.args.key.now) c.self.view_is (c.has_key-is_own.ensures.yes c.if-not-is_own.false)))

pub returns-in-Ok-clause-counted : goal.returns-in-Ok-clause-counted
returns-in-Ok-clause-counted g c =
    let old = c.self.inside.state.cache in
    let new = c.ready_with_at.new.self.cache in
    let s = c.args.spot.now.stamp in
    let v = arc_value c.args.stored in
    let owes = owes_charge g.K.PartialEq.eq old new s v c.args.charge c.in-Ok.evicted c.in-Ok.ensures.step c.charge_at-was.result c.charge_at-was.ensures c.self.inside.counts c.self.invariant.counted.adds_up in
    let same = recharged_held g.K.PartialEq.eq old new s v c.args.charge c.in-Ok.evicted c.in-Ok.ensures.step c.charge_at-was.result c.charge_at-was.ensures c.self.inside.counts c.self.invariant.counted.adds_up c.recharge.new.self c.recharge.ensures in
    subst (λ x. c.evict.new.self ≡ counted x.cache (ready_with_under x.strict s v c.args.charge) (accepted say.done c.in-Ok.evicted) x.counts) c.self.view_is
    (told_evicted c.in-Ok.evicted owes same c.evict.ensures c.len.ensures c.total.ensures.step.0 ∙ sym (counted_charge c.self.inside.strict old s v c.args.charge c.in-Ok.evicted c.self.inside.counts))

pub returns-in-Err-clause-step : goal.returns-in-Err-clause-step
returns-in-Err-clause-step g c = λ own.
    let new = c.ready_with_at.new.self.cache in
    stands_under g.K.PartialEq.eq c.args.self.now.cache new c.args.spot.now.stamp (arc_value c.args.stored) c.args.charge c.args.self.now.strict (refused c.in-Err.refusal) (c.if-is_full_with.ensures.no refl)
    (subst (λ x. Stands g.K.PartialEq.eq x.cache (ask.ready_with c.args.spot.now.stamp (arc_value c.args.stored) c.args.charge) (refused c.in-Err.refusal) new) c.self.view_is c.in-Err.ensures.step)

pub returns-in-Err-clause-no_entry : goal.returns-in-Err-clause-no_entry
returns-in-Err-clause-no_entry g c = λ none. absurd (none (subst (λ x. HasEqualKeyAt g.K.PartialEq.eq x.cache c.args.spot.now.stamp c.args.key.now) c.self.view_is (c.has_key-is_own.ensures.yes c.if-not-is_own.false)))

pub returns-in-Err-clause-counted : goal.returns-in-Err-clause-counted
returns-in-Err-clause-counted g c =
    let old = c.self.inside.state.cache in
    let s = c.args.spot.now.stamp in
    let v = arc_value c.args.stored in
    subst (λ x. c.count_refusal.new.counts ≡ counted x.cache (ready_with_under x.strict s v c.args.charge) (refused c.in-Err.refusal) x.counts) c.self.view_is
    (c.count_refusal.ensures ∙ refusal_counted g.K.PartialEq.eq old c.ready_with_at.new.self.cache s v c.args.charge c.self.inside.strict c.in-Err.refusal c.self.inside.counts c.in-Err.ensures.step.0)
