use Rattle.std.proofs.Common.{rules, refl, Err}
use Rattle.concurrent_lru.specs.Results.{outcome_of_insert}
use Rattle.concurrent_lru.proofs.SideBySide.OneOfMany.{lawful-set, stands-set-at}
use Rattle.concurrent_lru.proofs.shards.Shards.insert.Goals as goal

pub invariant_of-self : goal.invariant_of-self
invariant_of-self g c = lawful-set _ _ _ _ c.self.invariant c.insert.ensures.lawful

pub invariant_of-self-2 : goal.invariant_of-self-2
invariant_of-self-2 g c = lawful-set _ _ _ _ c.self.invariant c.insert.ensures.lawful

pub returns : goal.returns
returns g c = record { shard = search rules; back = search rules; lawful = (lawful-set _ _ _ _ c.self.invariant c.insert.ensures.lawful).1; step = stands-set-at _ _ _ c.self.view_is c.route-shard.ensures.route c.route-shard.ensures.within c.index_mut.ensures.value c.in_ok-inserted.ensures.request refl }

pub returns-in_err-inserted : goal.returns-in_err-inserted
returns-in_err-inserted g c = record { shard = search rules; back = search rules; lawful = (lawful-set _ _ _ _ c.self.invariant c.insert.ensures.lawful).1; step = stands-set-at _ _ _ {o = outcome_of_insert (Err c.in_err-inserted.field-0.0)} c.self.view_is c.route-shard.ensures.route c.route-shard.ensures.within c.index_mut.ensures.value c.in_err-inserted.ensures.request (search rules) }
