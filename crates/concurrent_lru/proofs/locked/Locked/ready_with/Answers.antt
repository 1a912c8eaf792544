use Rattle.std.proofs.Common.{◌≡◌, Err, IfOk, IfErr, sym, ap, ◌∙◌, subst}
use Rattle.std.specs.Arc.{arc_value}
use Rattle.concurrent_lru.specs.Debts.{ready_with_under}
use Rattle.concurrent_lru.specs.Ready.{HasEqualKeyAt}
use Rattle.concurrent_lru.specs.Reply as say
use Rattle.concurrent_lru.specs.Results.{outcome_of_ready_with}
use Rattle.concurrent_lru.specs.Runs.{accepted, refused, Stands}
use Rattle.concurrent_lru.specs.declared.refusal.Refusal.TheVariants.{Overflow, Stale, Full}
use Rattle.concurrent_lru.proofs.locked.Locked.ready_with.Goals as goal

pub returns-in-Ok-clause-step : goal.returns-in-Ok-clause-step
returns-in-Ok-clause-step g c =
    let E = g.K.PartialEq.eq in
    let old = c.args.self.now in
    let s = c.making.inside.spot.stamp in
    let v = arc_value c.args.stored in
    let new = c.ready_with_core-charged.new.self.cache in
    let step = subst (λ r. HasEqualKeyAt E old.cache s c.args.key.now → Stands E old.cache (ready_with_under old.strict s v c.args.charge) (outcome_of_ready_with r) new) c.in-Ok.is c.ready_with_core-charged.ensures.step in
    rw c.of.ensures (subst (λ m. HasEqualKeyAt E old.cache m.stamp c.args.key.now → Stands E old.cache (ready_with_under old.strict m.stamp v c.args.charge) (accepted say.done c.in-Ok.evicted) new) c.making.view_is step)

pub returns-in-Ok-clause-no_entry : goal.returns-in-Ok-clause-no_entry
returns-in-Ok-clause-no_entry g c = λ none.
    let gone = c.ready_with_core-charged.ensures.no_entry (λ at. none (subst (λ m. HasEqualKeyAt g.K.PartialEq.eq c.args.self.now.cache m.stamp c.args.key.now) c.making.view_is at)) in
    absurd (subst (λ r. IfOk r (λ x. ⊥)) (sym gone.0 ∙ c.in-Ok.is) tt)

pub returns-in-Stale-clause-step : goal.returns-in-Stale-clause-step
returns-in-Stale-clause-step g c =
    let E = g.K.PartialEq.eq in
    let old = c.args.self.now in
    let s = c.making.inside.spot.stamp in
    let v = arc_value c.args.stored in
    let new = c.ready_with_core-charged.new.self.cache in
    let step = subst (λ r. HasEqualKeyAt E old.cache s c.args.key.now → Stands E old.cache (ready_with_under old.strict s v c.args.charge) (outcome_of_ready_with r) new) (c.in-Err.is ∙ ap (λ e. Err (e, c.in-Err.stored)) c.in-Stale.is) c.ready_with_core-charged.ensures.step in
    rw c.of-in-Stale.ensures (subst (λ m. HasEqualKeyAt E old.cache m.stamp c.args.key.now → Stands E old.cache (ready_with_under old.strict m.stamp v c.args.charge) (refused Stale) new) c.making.view_is step)

pub returns-in-Stale-clause-no_entry : goal.returns-in-Stale-clause-no_entry
returns-in-Stale-clause-no_entry g c = λ none.
    let back = subst (λ r. IfErr r (λ e. e.1 ≡ c.args.stored)) c.in-Err.is c.ready_with_core-charged.ensures.back in
    let gone = c.ready_with_core-charged.ensures.no_entry (λ at. none (subst (λ m. HasEqualKeyAt g.K.PartialEq.eq c.args.self.now.cache m.stamp c.args.key.now) c.making.view_is at)) in
    (c.of-in-Stale.ensures ∙ ap (λ a. Err a) back, gone.1)

pub returns-in-Overflow-clause-step : goal.returns-in-Overflow-clause-step
returns-in-Overflow-clause-step g c =
    let E = g.K.PartialEq.eq in
    let old = c.args.self.now in
    let s = c.making.inside.spot.stamp in
    let v = arc_value c.args.stored in
    let new = c.ready_with_core-charged.new.self.cache in
    let step = subst (λ r. HasEqualKeyAt E old.cache s c.args.key.now → Stands E old.cache (ready_with_under old.strict s v c.args.charge) (outcome_of_ready_with r) new) (c.in-Err.is ∙ ap (λ e. Err (e, c.in-Err.stored)) c.in-Overflow.is) c.ready_with_core-charged.ensures.step in
    (subst (λ m. HasEqualKeyAt E old.cache m.stamp c.args.key.now → Stands E old.cache (ready_with_under old.strict m.stamp v c.args.charge) (refused Overflow) new) c.making.view_is step)

pub returns-in-Overflow-clause-no_entry : goal.returns-in-Overflow-clause-no_entry
returns-in-Overflow-clause-no_entry g c = λ none. (tt, (c.ready_with_core-charged.ensures.no_entry (λ at. none (subst (λ m. HasEqualKeyAt g.K.PartialEq.eq c.args.self.now.cache m.stamp c.args.key.now) c.making.view_is at))).1)

pub returns-in-Full-clause-step : goal.returns-in-Full-clause-step
returns-in-Full-clause-step g c =
    let E = g.K.PartialEq.eq in
    let old = c.args.self.now in
    let s = c.making.inside.spot.stamp in
    let v = arc_value c.args.stored in
    let new = c.ready_with_core-charged.new.self.cache in
    let step = subst (λ r. HasEqualKeyAt E old.cache s c.args.key.now → Stands E old.cache (ready_with_under old.strict s v c.args.charge) (outcome_of_ready_with r) new) (c.in-Err.is ∙ ap (λ e. Err (e, c.in-Err.stored)) c.in-Full.is) c.ready_with_core-charged.ensures.step in
    (subst (λ m. HasEqualKeyAt E old.cache m.stamp c.args.key.now → Stands E old.cache (ready_with_under old.strict m.stamp v c.args.charge) (refused Full) new) c.making.view_is step)

pub returns-in-Full-clause-no_entry : goal.returns-in-Full-clause-no_entry
returns-in-Full-clause-no_entry g c = λ none. (tt, (c.ready_with_core-charged.ensures.no_entry (λ at. none (subst (λ m. HasEqualKeyAt g.K.PartialEq.eq c.args.self.now.cache m.stamp c.args.key.now) c.making.view_is at))).1)
