-- The order in which entries leave a shard: how each event changes what is kept for it.
use Rattle.std.specs.Prelude.{◌≡◌, ℕ, ◌+◌, ◌-◌, ◌*◌, ◌/◌, ◌^◌, ◌==◌, Bool, true, false, cond, List, [], Option, None, Some}
use Rattle.std.specs.Prelude.{nat_lt, min, max}
use Rattle.lru_clock.specs.Bits.{IsPadded, has_bit, with_bit, without_bit, next_bit}
use Rattle.lru_clock.specs.Ghosts.{part_left, with_ghost, without_ghost, ghosts_of}
use Rattle.lru_clock.specs.declared.order.Part.{Part}
use Rattle.lru_clock.specs.declared.order.Part.TheVariants.{Trial, Main}
use Rattle.lru_clock.specs.declared.order.Second.{Second}
use Rattle.lru_clock.specs.declared.order.Second.TheVariants.{Nowhere, Young, Old}

-- the places on trial; those that an entry of the main part left last, so that the second hand
-- spares the next one once; the ghosts; the border; the charge of the entries on trial; and the
-- places of the second hand and of the hand
pub record OrderOf : Type 0 where
  pub trials : List ℕ
  pub youngs : List ℕ
  pub ghosts : List ℕ
  pub border : ℕ
  pub trial : ℕ
  pub sweep : ℕ
  pub hand : ℕ

-- the border is at first an eighth of the capacity
abbrev pub first_border : ℕ → ℕ
first_border capacity = capacity / 8

-- the order of a shard without places
abbrev pub no_order : ℕ → OrderOf
no_order capacity = record { trials = []; youngs = []; ghosts = []; border = first_border capacity; trial = 0; sweep = 0; hand = 0 }

-- there is room for more places and ghosts, and nothing else changed
abbrev pub IsWidened : OrderOf → OrderOf → Type 0
IsWidened old new = IsPadded old.trials new.trials × IsPadded old.youngs new.youngs × IsPadded old.ghosts new.ghosts
    × (new ≡ record old { trials = new.trials; youngs = new.youngs; ghosts = new.ghosts })

-- the part of a place
abbrev pub part_of : OrderOf → ℕ → Part
part_of o p = cond (has_bit o.trials p) Trial Main

-- the trial part has to give up an entry
abbrev pub is_due : OrderOf → Bool
is_due o = cond (o.trial == 0) false (cond (nat_lt o.trial o.border) false true)

-- the entry at a place is no longer on trial
abbrev pub ended : ℕ → ℕ → OrderOf → OrderOf
ended p charge o = cond (has_bit o.trials p) (record o { trials = without_bit o.trials p; trial = o.trial - charge }) o

-- a ghost of the entry at a place was added, if it has a tag
abbrev pub haunted : ℕ → Option ℕ → OrderOf → OrderOf
haunted p None o = o
haunted p (Some tag) o = record o { ghosts = with_ghost o.ghosts tag (part_of o p) }

-- the place is young if the entry was of the main part
abbrev pub aged : ℕ → OrderOf → OrderOf
aged p o = record o { youngs = cond (has_bit o.trials p) (without_bit o.youngs p) (with_bit o.youngs p) }

-- the entry at a place left
abbrev pub left : ℕ → ℕ → Option ℕ → OrderOf → OrderOf
left p charge tag o = ended p charge (aged p (haunted p tag o))

-- a sum of two numbers of 64 bits, or else the greatest such number
abbrev pub sum_within : ℕ → ℕ → ℕ
sum_within m n = min (2 ^ 64 - 1) (m + n)

-- the entry at a place is on trial
abbrev pub begun : ℕ → ℕ → OrderOf → OrderOf
begun p charge o = record o { trials = with_bit o.trials p; trial = sum_within o.trial charge }

-- (other + 1) / own, to the nearest number, and at least 1
abbrev pub ratio : ℕ → ℕ → ℕ
ratio own other = max 1 ((2 * other + own + 2) / (2 * own))

-- how far the border moves when an entry of this charge returns that had left a part
abbrev pub step : Part → ℕ → OrderOf → ℕ
step Trial charge o = charge * ratio (ghosts_of Trial o.ghosts) (ghosts_of Main o.ghosts)
step Main charge o = charge * ratio (ghosts_of Main o.ghosts) (ghosts_of Trial o.ghosts)

-- the border afterwards: an entry that left the trial part says that this part is too small, one
-- that left the main part that it is too large
abbrev pub moved_border : Part → ℕ → ℕ → OrderOf → ℕ
moved_border Trial charge capacity o = min (capacity / 2) (o.border + step Trial charge o)
moved_border Main charge capacity o = max (capacity / 64) (o.border - step Main charge o)

-- an entry came whose tag has a ghost that left this part, if there is one
abbrev pub returned : Option Part → ℕ → ℕ → ℕ → ℕ → OrderOf → OrderOf
returned None p charge tag capacity o = begun p charge o
returned (Some part) p charge tag capacity o = record o { border = moved_border part charge capacity o; ghosts = without_ghost o.ghosts tag }

-- an entry came to a place
abbrev pub came : ℕ → ℕ → Option ℕ → ℕ → OrderOf → OrderOf
came p charge None capacity o = begun p charge o
came p charge (Some tag) capacity o = returned (part_left o.ghosts tag) p charge tag capacity o

-- where the second hand comes to: the next place on trial
abbrev pub second_at : Option ℕ → OrderOf → Second
second_at None o = Nowhere
second_at (Some p) o = cond (has_bit o.youngs p) Young (Old p)

abbrev pub second : OrderOf → Second
second o = second_at (next_bit o.trials o.sweep) o

-- it has passed the place, which is no longer young
abbrev pub swept_past : Option ℕ → OrderOf → OrderOf
swept_past None o = o
swept_past (Some p) o = record o { sweep = p + 1; youngs = without_bit o.youngs p }

abbrev pub swept : OrderOf → OrderOf
swept o = swept_past (next_bit o.trials o.sweep) o

-- the hand skips the place at which it is, since that is on trial and the hand is for the main part
abbrev pub skips : Bool → OrderOf → Bool
skips is_main o = cond is_main (has_bit o.trials o.hand) false

-- the hand has moved on to the next of some places; after the last one comes the first one
abbrev pub hand_moved : ℕ → OrderOf → OrderOf
hand_moved places o = record o { hand = cond (nat_lt (o.hand + 1) places) (o.hand + 1) 0 }
