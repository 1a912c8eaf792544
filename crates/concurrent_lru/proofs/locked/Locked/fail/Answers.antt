use Rattle.std.proofs.Common.{subst, sym}
use Rattle.concurrent_lru.specs.Ready.{HasEqualKeyAt}
use Rattle.concurrent_lru.proofs.locked.Locked.fail.Goals as goal

pub returns-then-not-is_own-clause-step : goal.returns-then-not-is_own-clause-step
returns-then-not-is_own-clause-step g c = λ at.
    let own = subst (λ m. HasEqualKeyAt g.K.PartialEq.eq c.args.self.now.cache m.stamp c.args.key.now) (sym c.making.view_is) at in
    absurd (c.has_key-is_own.ensures.no c.if-not-is_own.true (subst (λ s. HasEqualKeyAt g.K.PartialEq.eq s.cache c.making.inside.spot.stamp c.args.key.now) (sym c.self.view_is) own))

pub returns-clause-no_entry : goal.returns-clause-no_entry
returns-clause-no_entry g c = λ none.
    let own = subst (λ s. HasEqualKeyAt g.K.PartialEq.eq s.cache c.making.inside.spot.stamp c.args.key.now) c.self.view_is (c.has_key-is_own.ensures.yes c.if-not-is_own.false) in
    absurd (none (subst (λ m. HasEqualKeyAt g.K.PartialEq.eq c.args.self.now.cache m.stamp c.args.key.now) c.making.view_is own))
