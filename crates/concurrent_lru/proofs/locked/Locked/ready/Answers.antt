use Rattle.std.proofs.Common.{◌∙◌, ap, subst}
use Rattle.concurrent_lru.specs.Ready.{HasEqualKeyAt}
use Rattle.concurrent_lru.specs.Request as ask
use Rattle.concurrent_lru.specs.Results.{outcome_of_ready}
use Rattle.concurrent_lru.specs.Runs.{Stands}
use Rattle.concurrent_lru.proofs.AddedUp.CountsOfSteps.{soundly_readied}
use Rattle.concurrent_lru.proofs.Steps.ReadyValues.{keyed_kept, keyed_no_entry}
use Rattle.concurrent_lru.proofs.locked.Locked.ready.Goals as goal

pub invariant_of-self : goal.invariant_of-self
invariant_of-self g c =
    let ready = c.ready_keyed-back.ensures in
    record {
      counted = soundly_readied {E = g.K.PartialEq.eq} c.self.inside.state.cache c.ready_keyed-back.new.self.cache c.self.inside.counts c.making.inside.spot.stamp c.args.key.now c.args.stored.value c.ready_keyed-back.result.0 c.self.invariant.counted ready.lawful ready.keyed ready.same ready.step;
      kept = keyed_kept _ _ _ _ _ _ _ _ g.met.K.Eq.laws g.met.F.Fit.equal_keys c.self.invariant.counted.lawful c.requires.fits ready.keyed ready.same ready.step c.self.invariant.kept;
    }

pub returns-clause-step : goal.returns-clause-step
returns-clause-step g c =
    let new = c.ready_keyed-back.new.self.cache in
    let step = subst (λ old. HasEqualKeyAt g.K.PartialEq.eq old.cache c.making.inside.spot.stamp c.args.key.now → Stands g.K.PartialEq.eq old.cache (ask.ready c.making.inside.spot.stamp c.args.stored.value) (outcome_of_ready c.ready_keyed-back.result.0) new) c.self.view_is c.ready_keyed-back.ensures.step in
    rw c.of.ensures (subst (λ m. HasEqualKeyAt g.K.PartialEq.eq c.args.self.now.cache m.stamp c.args.key.now → Stands g.K.PartialEq.eq c.args.self.now.cache (ask.ready m.stamp c.args.stored.value) (outcome_of_ready c.ready_keyed-back.result.0) new) c.making.view_is step)

pub returns-clause-no_entry : goal.returns-clause-no_entry
returns-clause-no_entry g c =
    let ready = c.ready_keyed-back.ensures in
    let is = ap (λ x. x.cache) c.self.view_is in
    λ none.
    let back = keyed_no_entry g.K.PartialEq.eq _ c.ready_keyed-back.new.self.cache c.making.inside.spot.stamp c.args.key.now c.args.stored _ ready.keyed ready.same ready.back (λ at. none (subst (λ m. HasEqualKeyAt g.K.PartialEq.eq c.args.self.now.cache m.stamp c.args.key.now) c.making.view_is (subst (λ old. HasEqualKeyAt g.K.PartialEq.eq old c.making.inside.spot.stamp c.args.key.now) is at))) in
    (c.of.ensures ∙ back.0, λ j. record { cache = (back.1 ∙ is) j; counts = ap (λ x. x.counts) c.self.view_is j; strict = ap (λ x. x.strict) c.self.view_is j })
