-- The view of a record: the request without its value, and what was recorded of the reply.
use Rattle.concurrent_lru.specs.Request as ask
use Rattle.concurrent_lru.specs.Request.{Request}
use Rattle.lru_journal.specs.declared.record.Recorded.{Recorded}
use Rattle.lru_journal.specs.declared.record.Recorded.TheVariants as step
use Rattle.lru_journal.specs.declared.record.Told.{Told}

-- an accepted request without its value, and what was recorded of the reply
pub record Answered (K : Type 0) : Type 0 where
  pub request : Request K (Unit {0})
  pub reply : Told

module _ {K : Type 0} where
  -- a recorded step as a request
  abbrev pub request_of_recorded : Recorded K → Request K (Unit {0})
  request_of_recorded (step.Begin k c) = ask.begin k c
  request_of_recorded (step.BeginStrictly k c) = ask.begin_strictly k c
  request_of_recorded (step.Poll s) = ask.poll s
  request_of_recorded (step.Ready s) = ask.ready s tt
  request_of_recorded (step.ReadyWith s c) = ask.ready_with s tt c
  request_of_recorded (step.ReadyWithStrictly s c) = ask.ready_with_strictly s tt c
  request_of_recorded (step.Fail s) = ask.fail s
  request_of_recorded (step.Get k) = ask.get k
  request_of_recorded (step.Release s) = ask.release s
  request_of_recorded (step.ReleaseAndEvict s) = ask.release_and_evict s
  request_of_recorded (step.Repin s) = ask.repin s
  request_of_recorded (step.AdviceEvict k) = ask.advice_evict k
  request_of_recorded (step.Invalidate k) = ask.invalidate k
  request_of_recorded (step.Insert k c) = ask.insert k c tt
  request_of_recorded (step.InsertStrictly k c) = ask.insert_strictly k c tt
  request_of_recorded (step.Read k) = ask.read k
  request_of_recorded step.Prune = ask.prune
  request_of_recorded (step.SetCapacity c) = ask.set_capacity c
  request_of_recorded step.Total = ask.total

  abbrev pub record_of : Request K (Unit {0}) → Told → Answered K
  record_of request reply = record { request = request; reply = reply }
