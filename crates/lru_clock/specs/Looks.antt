-- The looks at slots: what a look leaves of a slot's word, and how it is recorded.
use Rattle.std.specs.Prelude.{◌≡◌, ◌≢◌, ℕ, ◌-◌, ◌%◌, ◌^◌, ◌==◌, Bool, true, false, cond, ◌&&◌, nat_lt, List, [], ◌∷◌, ◌++◌, Option, None, Some, count_by}
use Rattle.lru_clock.specs.declared.order.Cost.{Cost}
use Rattle.lru_clock.specs.declared.order.Cost.TheVariants.{OneChance, AllChances}
use Rattle.lru_clock.specs.declared.order.Look.{Look}
use Rattle.lru_clock.specs.declared.order.Look.TheVariants.{Pinned, Used, Unused}
use Rattle.lru_clock.specs.declared.order.Looked.{Looked}

-- the entry of a slot with this word is present and has a chance
abbrev pub has_chance : ℕ → Bool
has_chance word = cond (word % 4 == 1) (cond (nat_lt word (2 ^ 32)) false true) false

-- the word once the entry has lost one of its chances, or all of them
abbrev pub without_chance : Cost → ℕ → ℕ
without_chance OneChance word = word - 2 ^ 32
without_chance AllChances word = word % 2 ^ 32

-- the word after a look at an entry that nobody has pinned: the entry loses what the look costs, or
-- is taken out if it has no chance or was invalidated
abbrev pub after_look : Cost → ℕ → ℕ
after_look cost word = cond (has_chance word) (without_chance cost word) 3

-- a look was made at this place, at this cost, and found this
abbrev pub looked : ℕ → Cost → Look → Looked
looked p cost found = record { place = p; cost = cost; found = found }

-- the list of looks is longer by one, at this place and this cost. The look found the entry unused
-- if that was taken out, and did not otherwise
abbrev pub LooksOnce : {X : Type 0} → ℕ → Cost → List Looked → List Looked → Option X → Type 0
LooksOnce p cost old new None = (found : Look) × (found ≢ Unused) × (new ≡ old ++ looked p cost found ∷ [])
LooksOnce p cost old new (Some taken) = new ≡ old ++ looked p cost Unused ∷ []

abbrev pub is_cost : Cost → Cost → Bool
is_cost OneChance OneChance = true
is_cost OneChance AllChances = false
is_cost AllChances OneChance = false
is_cost AllChances AllChances = true

abbrev pub is_pinned : Look → Bool
is_pinned Pinned = true
is_pinned Used = false
is_pinned Unused = false

abbrev pub is_used : Look → Bool
is_used Pinned = false
is_used Used = true
is_used Unused = false

-- the look was made at this place and this cost
abbrev pub is_at : ℕ → Cost → Looked → Bool
is_at p cost look = (look.place == p) && is_cost look.cost cost

-- how many of the looks took a chance from the entry at a place, and how many were to take one, but
-- found it pinned, or no entry
abbrev pub chances_taken : ℕ → List Looked → ℕ
chances_taken p looks = count_by (λ look. is_at p OneChance look && is_used look.found) looks

abbrev pub times_pinned : ℕ → List Looked → ℕ
times_pinned p looks = count_by (λ look. is_at p OneChance look && is_pinned look.found) looks
