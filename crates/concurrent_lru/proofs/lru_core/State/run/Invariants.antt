use Rattle.std.proofs.Common.{◌≡◌, ◌≤◌, ◌++◌, map, length, vec_len, vec_capacity}
use Rattle.std.specs.Vec.Iter.{into_iter_items, into_iter_len}
use Rattle.std.specs.List.{AllByRecursion}
use Rattle.concurrent_lru.specs.Cache.{IsLawful}
use Rattle.concurrent_lru.specs.Counted.{StepsWriteAtMost}
use Rattle.concurrent_lru.specs.Runs.{Run}
use Rattle.concurrent_lru.specs.Results.{request_of_by, outcome_of_by, IsCharged, AreAnswersToBy}
use Rattle.concurrent_lru.proofs.lru_core.State.run.Given as goal

abbrev pub invariant-loop-step : goal.invariant-loop-step
invariant-loop-step g l = record {
  parts : l.yielded ++ into_iter_items l.step-iterator ≡ l.fn.steps.items;
  left : into_iter_len l.step-iterator ≡ length (into_iter_items l.step-iterator);
  charged : AllByRecursion IsCharged (map (request_of_by g.M.Sharing.seen) (into_iter_items l.step-iterator));
  run : Run g.K.PartialEq.eq l.fn.self.cache (map (request_of_by g.M.Sharing.seen) l.yielded) (map (outcome_of_by g.M.Sharing.seen) l.answers.items) l.self.cache;
  work : StepsWriteAtMost l.fn.self (map (outcome_of_by g.M.Sharing.seen) l.answers.items) l.self;
  kinds : AreAnswersToBy g.M.Sharing.seen l.yielded l.answers.items;
  lawful : IsLawful g.K.PartialEq.eq l.self.cache;
  told : vec_len l.answers ≡ length l.yielded;
  room : length l.fn.steps.items ≤ vec_capacity l.answers;
}
