use Rattle.std.proofs.Common.{subst}
use Rattle.concurrent_lru.specs.Request as ask
use Rattle.concurrent_lru.specs.Results.{reply_of_begun}
use Rattle.concurrent_lru.specs.Steps.{Step}
use Rattle.lru_sizing.proofs.Replays.{made_once, hit_once, held_making, held_given, held_hit, none_waits}
use Rattle.lru_sizing.proofs.replay.use_once.Goals as goal

pub release-evicted-requires : goal.release-evicted-requires
release-evicted-requires g c =
    held_hit g.K.PartialEq.eq c.args.cache.now.cache c.begin.new.self.cache c.args.key.now c.args.charge c.in-Hit.stamp c.in-Hit._value.value c.in_ok-begun._evicted c.requires.none_held
    (subst (λ b. Step g.K.PartialEq.eq c.args.cache.now.cache (ask.begin c.args.key.now c.args.charge) (reply_of_begun b) c.in_ok-begun._evicted c.begin.new.self.cache) c.in-Hit.is c.in_ok-begun.ensures.step)

pub give-requires : goal.give-requires
give-requires g c =
    held_making g.K.PartialEq.eq c.args.cache.now.cache c.begin.new.self.cache c.args.key.now c.args.charge c.in-Make.stamp c.in_ok-begun._evicted c.requires.none_held
    (subst (λ b. Step g.K.PartialEq.eq c.args.cache.now.cache (ask.begin c.args.key.now c.args.charge) (reply_of_begun b) c.in_ok-begun._evicted c.begin.new.self.cache) c.in-Make.is c.in_ok-begun.ensures.step)

pub release-evicted-requires-in-Make : goal.release-evicted-requires-in-Make
release-evicted-requires-in-Make g c = held_given g.K.PartialEq.eq c.begin.new.self.cache c.give.new.cache.cache c.in-Make.stamp _ _ c.give.ensures

pub unreachable-requires : goal.unreachable-requires
unreachable-requires g c =
    none_waits g.K.PartialEq.eq c.args.cache.now.cache c.begin.new.self.cache c.args.key.now c.args.charge c.in-Wait.field-0 c.in_ok-begun._evicted c.requires.none_held
    (subst (λ b. Step g.K.PartialEq.eq c.args.cache.now.cache (ask.begin c.args.key.now c.args.charge) (reply_of_begun b) c.in_ok-begun._evicted c.begin.new.self.cache) c.in-Wait.is c.in_ok-begun.ensures.step)

pub returns-in-Hit-clause-used : goal.returns-in-Hit-clause-used
returns-in-Hit-clause-used g c =
    hit_once g.K.PartialEq.eq c.args.cache.now.cache c.begin.new.self.cache c.release-evicted.new.cache.cache c.args.key.now c.args.charge c.in-Hit.stamp c.in-Hit._value.value c.in_ok-begun._evicted c.release-evicted.result
    (subst (λ b. Step g.K.PartialEq.eq c.args.cache.now.cache (ask.begin c.args.key.now c.args.charge) (reply_of_begun b) c.in_ok-begun._evicted c.begin.new.self.cache) c.in-Hit.is c.in_ok-begun.ensures.step)
    c.release-evicted.ensures

pub returns-in-Make-clause-used : goal.returns-in-Make-clause-used
returns-in-Make-clause-used g c =
    made_once g.K.PartialEq.eq c.args.cache.now.cache c.begin.new.self.cache c.give.new.cache.cache c.release-evicted-in-Make.new.cache.cache c.args.key.now c.args.charge c.in-Make.stamp c.args.value.value c.in_ok-begun._evicted _ c.release-evicted-in-Make.result
    (subst (λ b. Step g.K.PartialEq.eq c.args.cache.now.cache (ask.begin c.args.key.now c.args.charge) (reply_of_begun b) c.in_ok-begun._evicted c.begin.new.self.cache) c.in-Make.is c.in_ok-begun.ensures.step)
    c.give.ensures c.release-evicted-in-Make.ensures
