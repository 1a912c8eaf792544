-- Where the slots of places lie: in pages, of which the first eight have 64 slots, the next eight
-- twice as many, and so on.
use Rattle.std.specs.Prelude.{ℕ, ◌+◌, ◌-◌, ◌*◌, ◌/◌, ◌%◌, ◌^◌}

-- the number of slots in a page
abbrev pub length_of : ℕ → ℕ
length_of page = 2 ^ (page / 8 + 6)

-- the place of the slot at a position of a page
abbrev pub place_of : ℕ × ℕ → ℕ
place_of spot = (spot.0 % 8 + 8) * length_of spot.0 + spot.1 - 512
