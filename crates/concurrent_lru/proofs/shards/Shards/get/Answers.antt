use Rattle.std.proofs.Common.{rules, Ok, Err}
use Rattle.concurrent_lru.specs.Results.{outcome_of_get}
use Rattle.concurrent_lru.proofs.SideBySide.OneOfMany.{lawful-set, stands-set-at}
use Rattle.concurrent_lru.proofs.shards.Shards.get.Goals as goal

pub invariant_of-self : goal.invariant_of-self
invariant_of-self g c = lawful-set _ _ _ _ c.self.invariant c.get.ensures.lawful

pub invariant_of-self-2 : goal.invariant_of-self-2
invariant_of-self-2 g c = lawful-set _ _ _ _ c.self.invariant c.get.ensures.lawful

pub returns : goal.returns
returns g c = record { shard = search rules; lawful = (lawful-set _ _ _ _ c.self.invariant c.get.ensures.lawful).1; step = stands-set-at _ _ _ {o = outcome_of_get (Ok c.in_ok-found.found)} c.self.view_is c.route-shard.ensures.route c.route-shard.ensures.within c.index_mut.ensures.value c.in_ok-found.ensures.step (search rules) }

pub returns-in_err-found : goal.returns-in_err-found
returns-in_err-found g c = record { shard = search rules; lawful = (lawful-set _ _ _ _ c.self.invariant c.get.ensures.lawful).1; step = stands-set-at _ _ _ {o = outcome_of_get (Err c.in_err-found.field-0.0)} c.self.view_is c.route-shard.ensures.route c.route-shard.ensures.within c.index_mut.ensures.value c.in_err-found.ensures.step (search rules) }
