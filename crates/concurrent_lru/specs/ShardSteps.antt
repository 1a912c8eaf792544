-- The steps of shards as requests to one shard each, and the results of their calls as outcomes.
use Rattle.std.specs.Prelude.{◌≡◌, ℕ, ◌⊎◌, List, [], ◌++◌, Option, Some, None, Result, Ok, Err}
use Rattle.std.specs.declared.sync.Arc.{Arc}
use Rattle.std.specs.declared.alloc.Global.{Global}
use Rattle.concurrent_lru.specs.Cache.{Idle}
use Rattle.concurrent_lru.specs.Request.{Request}
use Rattle.concurrent_lru.specs.Reply as say
use Rattle.concurrent_lru.specs.Runs.{Outcome, accepted, refused}
use Rattle.concurrent_lru.specs.Results.{reply_of_begun, request_of, outcome_of, IsAnswerTo}
use Rattle.concurrent_lru.specs.declared.refusal.Refusal.{Refusal}
use Rattle.concurrent_lru.specs.declared.refusal.Refusal.TheVariants.{Stale}
use Rattle.concurrent_lru.specs.declared.step.Begun.{Begun}
use Rattle.concurrent_lru.specs.declared.share.ByArc.{ByArc}
use Rattle.concurrent_lru.specs.declared.step.Inserted.{Inserted}
use Rattle.concurrent_lru.specs.declared.step.Answer.{Answer}
use Rattle.concurrent_lru.specs.declared.step.Answer.TheVariants as answer
use Rattle.concurrent_lru.specs.declared.step.Step.{Step as RustStep}
use Rattle.concurrent_lru.specs.declared.step.Step.TheVariants as step
use Rattle.concurrent_lru.specs.declared.shards.ShardStep.{ShardStep}
use Rattle.concurrent_lru.specs.declared.shards.ShardStep.TheVariants as shard

module _ {K V : Type 0} where
  -- the shard that a step goes to: the one of its key, or the one that it names
  abbrev pub shard_of_step : (K → ℕ) → ShardStep K V → ℕ
  shard_of_step route (shard.Begin k c) = route k
  shard_of_step route (shard.BeginStrictly k c) = route k
  shard_of_step route (shard.Get k) = route k
  shard_of_step route (shard.AdviceEvict k) = route k
  shard_of_step route (shard.Invalidate k) = route k
  shard_of_step route (shard.Insert k c a) = route k
  shard_of_step route (shard.InsertStrictly k c a) = route k
  shard_of_step route (shard.Read k) = route k
  shard_of_step route (shard.Poll i s) = i
  shard_of_step route (shard.Ready i s a) = i
  shard_of_step route (shard.ReadyWith i s a c) = i
  shard_of_step route (shard.ReadyWithStrictly i s a c) = i
  shard_of_step route (shard.Fail i s) = i
  shard_of_step route (shard.Release i s) = i
  shard_of_step route (shard.ReleaseAndEvict i s) = i
  shard_of_step route (shard.Repin i s) = i
  shard_of_step route (shard.Prune i) = i
  shard_of_step route (shard.SetCapacity i c) = i
  shard_of_step route (shard.Total i) = i

  -- the step that the shard takes
  abbrev pub step_at_shard : ShardStep K V → RustStep K (Arc V Global)
  step_at_shard (shard.Begin k c) = step.Begin k c
  step_at_shard (shard.BeginStrictly k c) = step.BeginStrictly k c
  step_at_shard (shard.Get k) = step.Get k
  step_at_shard (shard.AdviceEvict k) = step.AdviceEvict k
  step_at_shard (shard.Invalidate k) = step.Invalidate k
  step_at_shard (shard.Insert k c a) = step.Insert k c a
  step_at_shard (shard.InsertStrictly k c a) = step.InsertStrictly k c a
  step_at_shard (shard.Read k) = step.Read k
  step_at_shard (shard.Poll i s) = step.Poll s
  step_at_shard (shard.Ready i s a) = step.Ready s a
  step_at_shard (shard.ReadyWith i s a c) = step.ReadyWith s a c
  step_at_shard (shard.ReadyWithStrictly i s a c) = step.ReadyWithStrictly s a c
  step_at_shard (shard.Fail i s) = step.Fail s
  step_at_shard (shard.Release i s) = step.Release s
  step_at_shard (shard.ReleaseAndEvict i s) = step.ReleaseAndEvict s
  step_at_shard (shard.Repin i s) = step.Repin s
  step_at_shard (shard.Prune i) = step.Prune
  step_at_shard (shard.SetCapacity i c) = step.SetCapacity c
  step_at_shard (shard.Total i) = step.Total

  -- a step as a shard and its request; an answer of a shard as an outcome of that shard
  abbrev pub request_at_shard : (K → ℕ) → ShardStep K V → ℕ × Request K V
  request_at_shard route s = (shard_of_step route s, request_of (step_at_shard s))

  abbrev pub outcome_at_shard : ℕ × Answer K V ByArc (Arc V Global) → ℕ × Outcome K V
  outcome_at_shard a = (a.0, outcome_of a.1)

  -- the answer to a step for a shard that does not exist; a value is returned to the caller
  abbrev pub TellsNoShard : RustStep K (Arc V Global) → Answer K V ByArc (Arc V Global) → Type 0
  TellsNoShard (step.Ready s a) (answer.Back b) = b.value ≡ a.value
  TellsNoShard (step.Ready s a) _ = ⊥
  TellsNoShard (step.ReadyWith s a c) (answer.NotReady e b) = (e ≡ Stale) × (b.value ≡ a.value)
  TellsNoShard (step.ReadyWith s a c) _ = ⊥
  TellsNoShard (step.ReadyWithStrictly s a c) (answer.NotReady e b) = (e ≡ Stale) × (b.value ≡ a.value)
  TellsNoShard (step.ReadyWithStrictly s a c) _ = ⊥
  TellsNoShard (step.Insert k c a) (answer.NotInserted e b) = (e ≡ Stale) × (b.value ≡ a.value)
  TellsNoShard (step.Insert k c a) _ = ⊥
  TellsNoShard (step.InsertStrictly k c a) (answer.NotInserted e b) = (e ≡ Stale) × (b.value ≡ a.value)
  TellsNoShard (step.InsertStrictly k c a) _ = ⊥
  TellsNoShard _ a = a ≡ answer.Refused Stale

  -- the answer is of its step's kind, or says that there is no such shard
  abbrev pub IsShardAnswerTo : ShardStep K V → ℕ × Answer K V ByArc (Arc V Global) → Type 0
  IsShardAnswerTo s a = IsAnswerTo (step_at_shard s) a.1 ⊎ TellsNoShard (step_at_shard s) a.1

  -- the results of the calls of shards as outcomes
  abbrev pub outcome_of_shard_begin : Result (ℕ × Begun (Arc V Global) × List (Idle K V)) Refusal → Outcome K V
  outcome_of_shard_begin (Ok r) = accepted (reply_of_begun r.1) r.2
  outcome_of_shard_begin (Err e) = refused e

  abbrev pub outcome_of_shard_get : Result (Option (ℕ × ℕ × Arc V Global)) Refusal → Outcome K V
  outcome_of_shard_get (Ok None) = accepted say.missed []
  outcome_of_shard_get (Ok (Some r)) = accepted (say.hit r.1 r.2.value) []
  outcome_of_shard_get (Err e) = refused e

  abbrev pub outcome_of_shard_insert : Result (ℕ × Inserted K V ByArc (Arc V Global)) (Refusal × Arc V Global) → Outcome K V
  outcome_of_shard_insert (Ok r) = accepted (say.inserted r.1.stamp) (r.1.replaced ++ r.1.evicted)
  outcome_of_shard_insert (Err e) = refused e.0

  abbrev pub outcome_of_shard_evictions : Result (List (Idle K V)) Refusal → Outcome K V
  outcome_of_shard_evictions (Ok evicted) = accepted say.done evicted
  outcome_of_shard_evictions (Err e) = refused e

  abbrev pub outcome_of_shard_total : Result ℕ Refusal → Outcome K V
  outcome_of_shard_total (Ok n) = accepted (say.sum n) []
  outcome_of_shard_total (Err e) = refused e
