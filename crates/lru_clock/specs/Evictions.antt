-- An eviction: which looks are made at slots, and which entry leaves, by what each look found.
use Rattle.std.specs.Prelude.{◌≡◌, ℕ, zero, suc, ◌+◌, ◌-◌, ◌*◌, ◌^◌, ◌≤◌, ⊤, Bool, true, false, cond, List, [], ◌∷◌, ◌++◌, length, Option, None, Some, slice_get, min, nat_lt, sum_by, MatchBool}
use Rattle.std.proofs.Math.ListN.{set}
use Rattle.lru_clock.specs.Seats.{Seat, seat}
use Rattle.lru_clock.specs.Orders.{OrderOf, IsWidened, left, ended, came, is_due, second, swept, skips, hand_moved}
use Rattle.lru_clock.specs.Looks.{looked, is_at}
use Rattle.lru_clock.specs.declared.order.Cost.{Cost}
use Rattle.lru_clock.specs.declared.order.Cost.TheVariants.{OneChance, AllChances}
use Rattle.lru_clock.specs.declared.order.Look.{Look}
use Rattle.lru_clock.specs.declared.order.Look.TheVariants.{Pinned, Used, Unused}
use Rattle.lru_clock.specs.declared.order.Looked.{Looked}
use Rattle.lru_clock.specs.declared.order.Second.{Second}
use Rattle.lru_clock.specs.declared.order.Second.TheVariants.{Nowhere, Young, Old}

-- where a run of looks has come to: the order, the looks that it did not use, and the place whose
-- entry left, if one did
pub record Run : Type 0 where
  pub order : OrderOf
  pub looks : List Looked
  pub place : Option ℕ

-- the run ended and no entry left; the entry at this place left
abbrev pub none_left : OrderOf → List Looked → Option Run
none_left o looks = Some (record { order = o; looks = looks; place = None })

abbrev pub one_left : ℕ → OrderOf → List Looked → Option Run
one_left p o looks = Some (record { order = o; looks = looks; place = Some p })

-- a run goes on from an order, with the looks that are left; it comes to nothing if it needs
-- another look, or the next one was made elsewhere or at another cost
abbrev pub Goes : Type 0
Goes = OrderOf → List Looked → Option Run

-- the next look is made at this place and this cost, and the run goes on by what it finds
abbrev pub next_look : ℕ → Cost → (Look → List Looked → Option Run) → List Looked → Option Run
next_look p cost go [] = None
next_look p cost go (look ∷ looks) = cond (is_at p cost look) (go look.found looks) None

-- the second run goes on where the first one ended, unless an entry left
abbrev pub and_then_from : Option ℕ → OrderOf → List Looked → Goes → Option Run
and_then_from None o looks go = go o looks
and_then_from (Some p) o looks go = one_left p o looks

abbrev pub and_then : Option Run → Goes → Option Run
and_then None go = None
and_then (Some run) go = and_then_from run.place run.order run.looks go

-- a run used some of the looks, and an entry left only if the last of these, at its place, found it
-- unused
abbrev pub StopsAt : List Looked → List Looked → Option ℕ → Type 0
StopsAt looks rest None = (before : List Looked) × (looks ≡ before ++ rest)
StopsAt looks rest (Some p) = (before : List Looked) × (cost : Cost) × (looks ≡ before ++ looked p cost Unused ∷ rest)

abbrev pub Stops : List Looked → Option Run → Type 0
Stops looks None = ⊤
Stops looks (Some run) = StopsAt looks run.looks run.place

-- a run used at most `n` of the looks
abbrev pub UsesAtMost : ℕ → List Looked → Option Run → Type 0
UsesAtMost n looks None = ⊤
UsesAtMost n looks (Some run) = length looks ≤ n + length run.looks

module _ {K : Type 0} where
  -- the charge of the entry at a place, its tag if the index has it, and the number of places
  abbrev pub charge_in : Option (Seat K) → ℕ
  charge_in None = 0
  charge_in (Some seat) = seat.charge

  abbrev pub charge_at : List (Seat K) → ℕ → ℕ
  charge_at seats p = charge_in (slice_get seats p)

  abbrev pub tag_in : Option (Seat K) → Option ℕ
  tag_in None = None
  tag_in (Some seat) = cond seat.is_listed (Some seat.tag) None

  abbrev pub tag_at : List (Seat K) → ℕ → Option ℕ
  tag_at seats p = tag_in (slice_get seats p)

  abbrev pub places_of : List (Seat K) → ℕ
  places_of seats = min (2 ^ 32 - 1) (length seats)

  module _ (seats : List (Seat K)) where
    -- the entry at a place was evicted, and has a ghost if the index had it; it passed its trial;
    -- it came
    abbrev pub evicted : ℕ → OrderOf → OrderOf
    evicted p o = left p (charge_at seats p) (tag_at seats p) o

    abbrev pub passed : ℕ → OrderOf → OrderOf
    passed p o = ended p (charge_at seats p) o

    abbrev pub arrived : ℕ → ℕ → OrderOf → OrderOf
    arrived p capacity o = came p (charge_at seats p) (tag_at seats p) capacity o

    -- the second hand looked at an entry that is no longer young: it leaves if it is unused, and
    -- else passes its trial
    abbrev pub tried : ℕ → OrderOf → Goes → Look → List Looked → Option Run
    tried p o go Unused looks = one_left p (evicted p o) looks
    tried p o go Used looks = go (passed p o) looks
    tried p o go Pinned looks = go (passed p o) looks

    -- the second hand is at an entry; its look takes all chances
    abbrev pub try_at : Second → OrderOf → List Looked → Goes → Option Run
    try_at Nowhere o looks go = none_left o looks
    try_at Young o looks go = go o looks
    try_at (Old p) o looks go = next_look p AllChances (tried p o go) looks

    -- the second hand goes on for at most `n` places, while the trial part has to give up an entry
    abbrev pub by_second : ℕ → OrderOf → List Looked → Option Run
    by_second zero o looks = none_left o looks
    by_second (suc n) o looks = cond (is_due o) (try_at (second o) (swept o) looks (by_second n)) (none_left o looks)

    -- the hand looked at an entry: it leaves if it is unused, and else stays
    abbrev pub reached : ℕ → OrderOf → Goes → Look → List Looked → Option Run
    reached p o go Unused looks = one_left p (evicted p o) looks
    reached p o go Used looks = go o looks
    reached p o go Pinned looks = go o looks

    -- the hand goes on for at most `n` places, of the main part or of both; each look takes one
    -- chance
    abbrev pub by_hand : Bool → ℕ → OrderOf → List Looked → Option Run
    by_hand is_main zero o looks = none_left o looks
    by_hand is_main (suc n) o looks = cond (skips is_main o)
        (by_hand is_main n (hand_moved (places_of seats) o) looks)
        (next_look o.hand OneChance (reached o.hand (hand_moved (places_of seats) o) (by_hand is_main n)) looks)

    -- an eviction: an entry on trial, if that part has to give one up; or one of the main part; or
    -- any
    abbrev pub evict : Goes
    evict o looks = and_then (and_then (by_second (2 * places_of seats) o looks) (by_hand true (4 * places_of seats))) (by_hand false (4 * places_of seats))

  -- the seats after the entry at a place left, if one did, and whether there is one to drop
  abbrev pub Vacates : {X : Type 0} → Option ℕ → List (Seat K) → List (Seat K) → Option X → Type 0
  Vacates None old new None = new ≡ old
  Vacates None old new (Some leaver) = ⊥
  Vacates (Some p) old new None = ⊥
  Vacates (Some p) old new (Some leaver) = new ≡ set old p (seat 0 0 None)

  -- the looks that were made are those of the run, and the seats and the order are what it says
  -- for what they found
  pub record Runs {X : Type 0} (run : Goes) (seats new_seats : List (Seat K)) (order new_order : OrderOf) (looks new_looks : List Looked) (leaver : Option X) : Type 0 where
    pub made : List Looked
    pub place : Option ℕ
    pub listed : new_looks ≡ looks ++ made
    pub ran : (more : List Looked) → run order (made ++ more) ≡ Some (record { order = new_order; looks = more; place = place })
    pub vacates : Vacates place seats new_seats leaver

  -- another charge would take the total above the capacity, and stays within a `u64`
  abbrev pub is_above : ℕ → List (Seat K) → ℕ → Bool
  is_above capacity seats charge =
      let total = sum_by (λ seat. seat.charge) seats + charge in
      cond (nat_lt total (2 ^ 64)) (nat_lt capacity total) false

  -- a strict limit refuses another charge, and one that is not strict refuses none
  abbrev pub refuses : Bool → ℕ → List (Seat K) → ℕ → Bool
  refuses is_strict capacity seats charge = cond is_strict (is_above capacity seats charge) false

  -- the total is within the capacity, if that is a strict limit
  abbrev pub IsWithin : Bool → ℕ → List (Seat K) → Type 0
  IsWithin is_strict capacity seats = MatchBool is_strict (sum_by (λ seat. seat.charge) seats ≤ capacity) ⊤

  -- room was made if there has to be some, and else nothing changed
  abbrev pub MakesRoom : {X : Type 0} → Bool → List (Seat K) → List (Seat K) → OrderOf → OrderOf → List Looked → List Looked → Option X → Type 0
  MakesRoom is_above seats new_seats order new_order looks new_looks leaver =
      MatchBool is_above (Runs (evict seats) seats new_seats order new_order looks new_looks leaver)
      ((new_seats ≡ seats) × (new_order ≡ order) × (new_looks ≡ looks) × (leaver ≡ None))

  -- an entry came to a place, after room was made for more places if there had to be some
  abbrev pub Comes : List (Seat K) → ℕ → ℕ → OrderOf → OrderOf → Type 0
  Comes seats p capacity old new = (wide : OrderOf) × IsWidened old wide × (new ≡ arrived seats p capacity wide)
