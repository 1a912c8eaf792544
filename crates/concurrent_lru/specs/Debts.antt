-- The results of the calls under the lock: each as an outcome of the abstract cache, and the key
-- and charge that it is for.
use Rattle.std.specs.Prelude.{◌≡◌, ℕ, Bool, cond, List, [], Option, Some, None, Result, Ok, Err, ⊤}
use Rattle.std.specs.declared.sync.Arc.{Arc}
use Rattle.std.specs.declared.alloc.Global.{Global}
use Rattle.concurrent_lru.specs.Cache.{Idle}
use Rattle.concurrent_lru.specs.CountedCalls.{LockedCache}
use Rattle.concurrent_lru.specs.Counts.{one_refusal}
use Rattle.concurrent_lru.specs.Pins.{PinOf}
use Rattle.concurrent_lru.specs.Reply as say
use Rattle.concurrent_lru.specs.Request as ask
use Rattle.concurrent_lru.specs.Request.{Request}
use Rattle.concurrent_lru.specs.Results.{outcome_of_repin}
use Rattle.concurrent_lru.specs.Runs.{Outcome, accepted, refused}
use Rattle.concurrent_lru.specs.declared.counts.Counts.{Counts}
use Rattle.concurrent_lru.specs.declared.refusal.Refusal.{Refusal}
use Rattle.concurrent_lru.specs.declared.refusal.Refusal.TheVariants.{Memory, Overflow, Stale, Full}
use Rattle.concurrent_lru.specs.declared.locked.pins.Entered.{Entered}
use Rattle.concurrent_lru.specs.declared.locked.pins.Entered.TheVariants as enter
use Rattle.concurrent_lru.specs.declared.locked.pins.Polled.{Polled}
use Rattle.concurrent_lru.specs.declared.locked.pins.Polled.TheVariants as poll

-- the counts after a refusal of a value with its charge: it counts, unless the stamp is stale
abbrev pub counted_refusal : Refusal → Counts → Counts
counted_refusal Memory n = one_refusal n
counted_refusal Overflow n = one_refusal n
counted_refusal Stale n = n
counted_refusal Full n = one_refusal n

module _ {K V : Type 0} where
  abbrev pub outcome_of_locked_get : Result (Option (PinOf K V)) Refusal → Outcome K V
  outcome_of_locked_get (Ok None) = accepted say.missed []
  outcome_of_locked_get (Ok (Some p)) = accepted (say.hit p.stamp p.value) []
  outcome_of_locked_get (Err e) = refused e

  -- a repin for a pin: the share that the core returned is beside the new pin
  abbrev pub outcome_of_locked_repin : Result (PinOf K V × Result (Arc V Global) Refusal) (Refusal × Arc V Global) → Outcome K V
  outcome_of_locked_repin (Ok r) = outcome_of_repin r.1
  outcome_of_locked_repin (Err e) = refused e.0

  -- a begin as the limit wants it, which is strict or not
  abbrev pub begin_under : Bool → K → ℕ → Request K V
  begin_under strict k charge = cond strict (ask.begin_strictly k charge) (ask.begin k charge)

  -- a ready_with as the limit wants it, which is strict or not
  abbrev pub ready_with_under : Bool → ℕ → V → ℕ → Request K V
  ready_with_under strict s v charge = cond strict (ask.ready_with_strictly s v charge) (ask.ready_with s v charge)

  -- a ready_with for a making: what the entry's charge evicted is beside the pin, or the share, if
  -- no entry is being made there
  abbrev pub outcome_of_charged : Result (List (Idle K V)) (Arc V Global) → Outcome K V
  outcome_of_charged (Ok evicted) = accepted say.done evicted
  outcome_of_charged (Err a) = refused Stale

  abbrev pub outcome_of_locked_ready_with : {W A B : Type 0} → Result (PinOf K V × Result (List (Idle K V)) (Arc V Global) × W) (Refusal × A × B) → Outcome K V
  outcome_of_locked_ready_with (Ok r) = outcome_of_charged r.1
  outcome_of_locked_ready_with (Err e) = refused e.0

module _ {K V F : Type 0} where
  abbrev pub outcome_of_entered : Entered K V F → Outcome K V
  outcome_of_entered (enter.Make m evicted) = accepted (say.make m.stamp) evicted
  outcome_of_entered (enter.Wait w) = accepted (say.wait w.stamp) []
  outcome_of_entered (enter.Hit p) = accepted (say.hit p.stamp p.value) []

  abbrev pub outcome_of_locked_begin : Result (Entered K V F) Refusal → Outcome K V
  outcome_of_locked_begin (Ok entered) = outcome_of_entered entered
  outcome_of_locked_begin (Err e) = refused e

  -- a begin that need not wait; nothing is the answer that another caller makes the value
  abbrev pub outcome_of_locked_try_begin : Result (Option (Entered K V F)) Refusal → Outcome K V
  outcome_of_locked_try_begin (Ok None) = accepted say.missed []
  outcome_of_locked_try_begin (Ok (Some entered)) = outcome_of_entered entered
  outcome_of_locked_try_begin (Err e) = refused e

  abbrev pub outcome_of_locked_poll : Polled K V F → Outcome K V
  outcome_of_locked_poll (poll.Entered entered) = outcome_of_entered entered
  outcome_of_locked_poll (poll.Refused unread) = refused Memory
  outcome_of_locked_poll poll.NoPin = refused Stale

  -- the answer belongs to a caller that asked for this key and charge, in a call that left this
  -- state under the lock
  abbrev pub AsksOnEntry : Entered K V F → K → ℕ → LockedCache K V → Type 0
  AsksOnEntry (enter.Make m evicted) k c new = (m.key ≡ k) × (m.charge ≡ c)
  AsksOnEntry (enter.Wait w) k c new = (w.key ≡ k) × (w.charge ≡ c) × (w.left ≡ new)
  AsksOnEntry (enter.Hit p) k c new = (p.key ≡ k) × (p.charge ≡ Some c)

  abbrev pub AsksOnPoll : Polled K V F → K → ℕ → LockedCache K V → Type 0
  AsksOnPoll (poll.Entered entered) k c new = AsksOnEntry entered k c new
  AsksOnPoll (poll.Refused unread) k c new = ⊤
  AsksOnPoll poll.NoPin k c new = ⊤

  -- P holds of the value, if the call hit
  abbrev pub IfEntered : Entered K V F → (V → Type 0) → Type 0
  IfEntered (enter.Make m evicted) P = ⊤
  IfEntered (enter.Wait w) P = ⊤
  IfEntered (enter.Hit p) P = P p.value

  -- the caller need not wait
  abbrev pub NeedsNoWait : Entered K V F → Type 0
  NeedsNoWait (enter.Make m evicted) = ⊤
  NeedsNoWait (enter.Wait w) = ⊥
  NeedsNoWait (enter.Hit p) = ⊤

  abbrev pub IfPolled : Polled K V F → (V → Type 0) → Type 0
  IfPolled (poll.Entered entered) P = IfEntered entered P
  IfPolled (poll.Refused unread) P = ⊤
  IfPolled poll.NoPin P = ⊤
