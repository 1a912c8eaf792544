use Rattle.std.proofs.Common.{◌≡◌, ◌≤◌, ◌++◌, map, length, vec_len, vec_capacity}
use Rattle.std.specs.Vec.Iter.{into_iter_items, into_iter_len}
use Rattle.std.specs.List.{AllByRecursion, AllZip}
use Rattle.concurrent_lru.specs.Results.{IsCharged, request_of}
use Rattle.concurrent_lru.specs.Sharded.{AreLawful, key_number, shard_of}
use Rattle.concurrent_lru.specs.Parts.{RunsApart}
use Rattle.concurrent_lru.specs.ShardSteps.{request_at_shard, step_at_shard, outcome_at_shard, IsShardAnswerTo}
use Rattle.concurrent_lru.proofs.shards.Shards.run.Given as goal

abbrev pub invariant-loop-step : goal.invariant-loop-step
invariant-loop-step g l = record {
  parts : l.yielded ++ into_iter_items l.step-iterator ≡ l.fn.steps.items;
  left : into_iter_len l.step-iterator ≡ length (into_iter_items l.step-iterator);
  charged : AllByRecursion IsCharged (map request_of (map step_at_shard (into_iter_items l.step-iterator)));
  run : RunsApart g.K.PartialEq.eq l.fn.self (map (request_at_shard (shard_of (key_number g.S.BuildHasher g.S.Hasher.Hasher g.K.Hash.hash_input) l.fn.self)) l.yielded) (map outcome_at_shard l.answers.items) l.self;
  kinds : AllZip IsShardAnswerTo l.yielded l.answers.items;
  lawful : AreLawful g.K.PartialEq.eq l.self;
  told : vec_len l.answers ≡ length l.yielded;
  room : length l.fn.steps.items ≤ vec_capacity l.answers;
}
