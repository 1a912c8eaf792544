use Rattle.std.proofs.Common.{◌∙◌, ap, sym, subst, Ok, []}
use Rattle.concurrent_lru.specs.Cache.{ready, making, untaken}
use Rattle.concurrent_lru.specs.Request as ask
use Rattle.concurrent_lru.specs.Results.{outcome_of_poll}
use Rattle.concurrent_lru.specs.Runs.{Stands}
use Rattle.concurrent_lru.specs.Steps.{ChangesPhase}
use Rattle.concurrent_lru.proofs.locked.Locked.poll_spot.Goals as goal

pub returns-in-Ok-Make-clause-step : goal.returns-in-Ok-Make-clause-step
returns-in-Ok-Make-clause-step g c = λ at.
    let step = subst (λ b. Stands g.K.PartialEq.eq c.args.self.now.cache (ask.poll c.args.spot.stamp) (outcome_of_poll (Ok b)) c.poll_core.new.self.cache) c.in-Ok-Make.field-0-is (c.in-Ok-Make.ensures.step at) in (
      ap (λ m. m.stamp) c.of-making.ensures,
      subst (λ e. ChangesPhase g.K.PartialEq.eq c.args.self.now.cache c.args.spot.stamp untaken making e c.poll_core.new.self.cache) (sym (c.of.ensures ∙ c.none.ensures)) step.1,
    )

pub returns-in-Ok-Wait-clause-step : goal.returns-in-Ok-Wait-clause-step
returns-in-Ok-Wait-clause-step g c = λ at.
    let step = subst (λ b. Stands g.K.PartialEq.eq c.args.self.now.cache (ask.poll c.args.spot.stamp) (outcome_of_poll (Ok b)) c.poll_core.new.self.cache) c.in-Ok-Wait.field-0-is (c.in-Ok-Wait.ensures.step at) in
    (ap (λ w. w.stamp) c.of-in-Ok-Wait.ensures, step.1)

pub returns-in-Ok-Hit-clause-step : goal.returns-in-Ok-Hit-clause-step
returns-in-Ok-Hit-clause-step g c = λ at.
    let step = subst (λ b. Stands g.K.PartialEq.eq c.args.self.now.cache (ask.poll c.args.spot.stamp) (outcome_of_poll (Ok b)) c.poll_core.new.self.cache) c.in-Ok-Hit.field-0-is (c.in-Ok-Hit.ensures.step at) in
    let pin = c.of-in-Ok-Hit.ensures in (
      ap (λ p. p.stamp) pin,
      subst (λ v. ChangesPhase g.K.PartialEq.eq c.args.self.now.cache c.args.spot.stamp (ready v) (ready v) [] c.poll_core.new.self.cache) (sym (ap (λ p. p.value) pin)) step.1,
    )
