-- The calls from C on clocks and readers.
use Rattle.std.specs.Prelude.{◌≡◌, ◌==◌, ◌⊎◌, ◌/◌, ◌^◌, ⊤, ℕ, Bool, false, List, [], Option, None, Some, sum_by, MatchBool, MatchOption}
use Rattle.std.specs.List.{list_any}
use Rattle.std.proofs.Math.ListN.{set}
use Rattle.lru_clock.specs.Begun.{IsBegun}
use Rattle.lru_clock.specs.Evictions.{places_of, refuses, IsWithin}
use Rattle.lru_clock.specs.Makings.{HasEnded, has_number, is_of}
use Rattle.lru_clock.specs.SeatChanges.{AddsVacant, Charges, ChargesForOther, KeepsCharges, VacatesListed}
use Rattle.lru_clock.specs.Seats.{Seat, seat, LacksKey}
use Rattle.lru_clock.specs.declared.clock_core.makings.Begun.TheVariants as begun
use Rattle.lru_clock.specs.declared.shard_state.ShardState.{ShardState}
use Rattle.lru_c.specs.Codes as code
use Rattle.lru_c.specs.Handles.{OnOpen}
use Rattle.lru_c.specs.Keys.{words_eq}
use Rattle.lru_c.specs.declared.clock.locked.Clock.{Clock}
use Rattle.lru_c.specs.declared.clock.locked.ClockNumber.{ClockNumber}
use Rattle.lru_c.specs.declared.clock.locked.ClockNumber.TheVariants as which
use Rattle.lru_c.specs.declared.clock.reader.Reader.{Reader}
use Rattle.lru_c.specs.declared.clock.told.LruClockCounts.{LruClockCounts}
use Rattle.lru_c.specs.declared.clock.told.LruFound.{LruFound}
use Rattle.lru_c.specs.declared.clock.told.LruLeft.{LruLeft}
use Rattle.lru_c.specs.declared.words.key.Words.{Words}

-- an answer of a code, a value and a place; one that is a code alone
abbrev pub found : ℕ → ℕ → ℕ → LruFound
found c value place = record { value = value; code = c; place = place }

abbrev pub bare_found : ℕ → LruFound
bare_found c = found c 0 0

-- what is under the lock, and the seats of the places
abbrev pub State : Type 0
State = ShardState Words

abbrev pub Seats : Type 0
Seats = List (Seat Words)

-- the tag of a hash
abbrev pub tag_of : ℕ → ℕ
tag_of hash = hash / 2 ^ 32

-- A lookup pinned an entry and told its value and its place, or told nothing: it missed, or the
-- entry has the maximum number of pins.
abbrev pub IsLookup : LruFound → Type 0
IsLookup t = (t.code ≡ code.hit) ⊎ (t ≡ bare_found code.missed) ⊎ (t ≡ bare_found code.overflow)

-- The same, of whatever entry is at a place, which is told.
abbrev pub IsLookupAt : ℕ → LruFound → Type 0
IsLookupAt p t = ((t.code ≡ code.hit) × (t.place ≡ p)) ⊎ (t ≡ bare_found code.missed) ⊎ (t ≡ bare_found code.overflow)

-- The answer of a call that was refused for want of memory, or since a number would overflow.
abbrev pub IsRefused : LruFound → Type 0
IsRefused t = (t ≡ bare_found code.memory) ⊎ (t ≡ bare_found code.overflow)

-- A pin was given back, perhaps the last one of an entry, which was invalidated, or while the total
-- was above the capacity; or there was none.
abbrev pub IsRelease : ℕ → Type 0
IsRelease c = (c ≡ code.done) ⊎ (c ≡ code.last) ⊎ (c ≡ code.above) ⊎ (c ≡ code.stale)

-- An entry left, or none did.
abbrev pub LeavesAny : ℕ → Type 0
LeavesAny c = (c ≡ code.gone) ⊎ (c ≡ code.done)

-- The same; if none left, the seats are unchanged, and else one of them is vacant now.
abbrev pub LeavesOne : Seats → ℕ → Seats → Type 0
LeavesOne old c new = ((c ≡ code.gone) × (p : ℕ) × (new ≡ set old p (seat 0 0 None))) ⊎ ((c ≡ code.done) × (new ≡ old))

-- An entry that the index had left, whose seat is vacant now, and no other seat changed; or none
-- did, and no charge changed.
abbrev pub LeavesListed : Seats → ℕ → Seats → Type 0
LeavesListed old c new = ((c ≡ code.gone) × VacatesListed old new) ⊎ ((c ≡ code.done) × KeepsCharges old new)

-- The entry at a place left, whose seat is vacant now; or none did, and nothing changed.
abbrev pub LeavesAt : ℕ → State → ℕ → State → Type 0
LeavesAt p old c new = ((c ≡ code.gone) × (new.seats ≡ set old.seats p (seat 0 0 None))) ⊎ ((c ≡ code.done) × (new ≡ old))

-- The same, after a pin of the entry was given back; or there was no pin, and nothing changed.
abbrev pub ReleasesAt : ℕ → State → ℕ → State → Type 0
ReleasesAt p old c new = LeavesAt p old c new ⊎ ((c ≡ code.stale) × (new ≡ old))

-- Places were added, perhaps fewer than were asked for if that was refused, and no entry changed.
abbrev pub Reserves : State → ℕ → State → Type 0
Reserves old c new = ((c ≡ code.done) ⊎ (c ≡ code.memory) ⊎ (c ≡ code.overflow)) × (new ≡ record old { seats = new.seats; order = new.order }) × AddsVacant old.seats new.seats

-- The counts of a clock, its total and its capacity were told.
pub record AreCounts (s : State) (t : LruClockCounts) : Type 0 where
  pub makings : t.makings ≡ s.counts.makings
  pub failures : t.failures ≡ s.counts.failures
  pub insertions : t.insertions ≡ s.counts.insertions
  pub evictions : t.evictions ≡ s.counts.evictions
  pub charge : t.charge ≡ sum_by (λ seat. seat.charge) s.seats
  pub capacity : t.capacity ≡ s.capacity

-- a value for the key is being made that later callers wait for
abbrev pub is_making : Words → State → Bool
is_making key s = list_any (is_of words_eq key) s.makings

-- The index has no entry of the key, and the entry that it had left if nobody had pinned it. No
-- other entry left. Later callers wait for no making of the key.
abbrev pub Erases : ℕ → Words → State → ℕ → State → Type 0
Erases hash key old c new = LeavesListed old.seats c new.seats × LacksKey words_eq new.seats (tag_of hash) key × (is_making key new ≡ false)

-- An entry of this charge and value was stored and pinned, and later callers wait for no making of
-- the key; or the key has one, which was looked up; or it is refused, by a strict call if it would
-- take the total above the capacity, and never otherwise. A charge of 0, a lookup and a strict
-- refusal change nothing, and no other refusal changes an entry.
abbrev pub Adds : Words → ℕ → ℕ → Bool → State → LruFound → State → Type 0
Adds key charge value is_strict old t new =
    MatchBool (charge == 0) ((t ≡ bare_found code.no_charge) × (new ≡ old))
    (((t.code ≡ code.hit) × (new ≡ old)) ⊎ ((t ≡ bare_found code.overflow) × AddsVacant old.seats new.seats) ⊎ MatchBool (refuses is_strict old.capacity old.seats charge) ((t ≡ bare_found code.full) × (new ≡ old))
    (((t.code ≡ code.done) × (t.value ≡ value) × Charges charge t.place old.seats new.seats × (is_making key new ≡ false)) ⊎ ((t ≡ bare_found code.memory) × AddsVacant old.seats new.seats)))

-- An entry of this charge was stored, and the total has grown by it; or another entry has left, and
-- the total is less by that one's charge.
abbrev pub CountsOver : ℕ → Seats → LruFound → Seats → Type 0
CountsOver charge old t new = ((t.code ≡ code.done) × Charges charge t.place old new) ⊎ ((t.code ≡ code.replaced) × ChargesForOther charge t.place old new)

-- An entry of this charge and value was stored and pinned, the total is within the capacity if the
-- call is strict, and later callers wait for no making of the key; or an entry left, and another
-- has to leave first; or the new one is refused, and no entry changed. A charge of 0 changes
-- nothing.
abbrev pub StoresOver : Words → ℕ → ℕ → Bool → State → LruFound → State → Type 0
StoresOver key charge value is_strict old t new =
    MatchBool (charge == 0) ((t ≡ bare_found code.no_charge) × (new ≡ old))
    ((CountsOver charge old.seats t new.seats × (t.value ≡ value) × IsWithin is_strict new.capacity new.seats × (is_making key new ≡ false)) ⊎ (t ≡ bare_found code.gone) ⊎ (((t ≡ bare_found code.full) ⊎ IsRefused t) × AddsVacant old.seats new.seats))

-- The entry that left is written only with a code that says that one did.
abbrev pub WritesLeft : ℕ → LruLeft → LruLeft → Type 0
WritesLeft c old new = MatchBool (c == code.gone) ⊤ (MatchBool (c == code.replaced) ⊤ (new ≡ old))

-- The key has an entry, which was looked up; or nobody makes its value, and the caller does now,
-- under a ticket that no other making has; or another caller makes it; or the caller is refused.
-- Only a making that begins changes anything.
abbrev pub BeginsMaking : Words → ℕ → State → LruFound → State → Type 0
BeginsMaking key charge old t new =
    MatchBool (charge == 0) ((t ≡ bare_found code.no_charge) × (new ≡ old))
    (((t.code ≡ code.hit) × (new ≡ old)) ⊎ ((t ≡ found code.make t.value 0) × IsBegun {V = ℕ} words_eq key old (begun.Make t.value) new) ⊎ ((t ≡ bare_found code.wait) × IsBegun {V = ℕ} words_eq key old begun.Wait new) ⊎ (IsRefused t × (new ≡ old)))

-- The making with a ticket has ended, and an entry of this value was stored and pinned, or refused;
-- or no making has the ticket. A strict call is refused exactly if the charge would take the total
-- above the capacity. A charge of 0, a strict refusal and such a ticket change nothing.
abbrev pub Readies : ℕ → ℕ → ℕ → Bool → State → LruFound → State → Type 0
Readies ticket charge value is_strict old t new =
    MatchBool (charge == 0) ((t ≡ bare_found code.no_charge) × (new ≡ old)) (
    MatchBool (refuses is_strict old.capacity old.seats charge) ((t ≡ bare_found code.full) × (new ≡ old))
    (((t.code ≡ code.done) × (t.value ≡ value) × Charges charge t.place old.seats new.seats × HasEnded ticket old.makings new.makings) ⊎ ((t ≡ bare_found code.stale) × (has_number ticket old.makings ≡ false) × (new ≡ old)) ⊎ (IsRefused t × HasEnded ticket old.makings new.makings)))

-- The making with a ticket has ended; or none has it, and nothing changed. No seat changed.
abbrev pub Fails : ℕ → State → ℕ → State → Type 0
Fails ticket old c new = (((c ≡ code.done) × HasEnded ticket old.makings new.makings) ⊎ ((c ≡ code.stale) × (has_number ticket old.makings ≡ false) × (new ≡ old))) × (new.seats ≡ old.seats)

-- the number of a clock that a call asked for
abbrev pub number_of : ClockNumber → State → ℕ
number_of which.Total s = sum_by (λ seat. seat.charge) s.seats
number_of which.Capacity s = s.capacity
number_of which.Places s = places_of s.seats

-- A new clock has this capacity and no places.
abbrev pub IsNewClock : ℕ → Clock → Type 0
IsNewClock capacity c = (c.state.capacity ≡ capacity) × (c.state.seats ≡ [])

-- A call on the clock behind a handle; or the handle is not open, and the call returned that.
abbrev pub OnClock : Option Clock → ℕ → Option Clock → (State → State → Type 0) → Type 0
OnClock old c new Step = OnOpen old new (λ o n. Step o.state n.state) (c ≡ code.closed)

-- Freeing a clock closed its handle, unless it has entries or makings, which are left as they are.
abbrev pub Frees : Option Clock → ℕ → Option Clock → Type 0
Frees None c new = (c ≡ code.closed) × (new ≡ None)
Frees (Some o) c new = ((c ≡ code.done) × (new ≡ None) × (o.state.makings ≡ [])) ⊎ ((c ≡ code.not_empty) × (new ≡ Some o))

-- A call on the reader behind a handle, which it leaves as it is.
abbrev pub OnReader : Option Reader → Type 0 → Option Reader → Type 0 → Type 0
OnReader old Closed new Step = (new ≡ old) × MatchOption old Closed (λ _. Step)
