-- A bit for each place, 64 to a word: a place `p` has the bit `p % 64` of the word `p / 64`.
use Rattle.std.specs.Prelude.{◌≡◌, ◌++◌, replicate, ℕ, zero, suc, ◌+◌, ◌-◌, ◌*◌, ◌/◌, ◌%◌, ◌^◌, ◌<◌, ◌≤◌, ◌==◌, Bool, cond, List, length, Option, None, Some}
use Rattle.std.specs.Int.{bit_at}
use Rattle.std.specs.Int.Bits.{bit_or, bit_xor}
use Rattle.std.proofs.Math.ListN.{get_or, set}

-- the bit of a place is set
abbrev pub has_bit : List ℕ → ℕ → Bool
has_bit words p = bit_at (get_or words (p / 64) 0) (p % 64) == 1

-- the words after the bit of a place was set, and after it was cleared; a place past the words has
-- no bit
abbrev pub with_bit : List ℕ → ℕ → List ℕ
with_bit words p = set words (p / 64) (bit_or (get_or words (p / 64) 0) (2 ^ (p % 64)))

abbrev pub without_bit : List ℕ → ℕ → List ℕ
without_bit words p = cond (has_bit words p) (set words (p / 64) (bit_xor (get_or words (p / 64) 0) (2 ^ (p % 64)))) words

-- no bit of a word is set from this one on; the lowest one that is set
abbrev pub LacksFrom : ℕ → ℕ → Type 0
LacksFrom word bit = (i : ℕ) → bit ≤ i → i < 64 → bit_at word i ≡ 0

pub record IsLowest (word bit found : ℕ) : Type 0 where
  pub after : bit ≤ found
  pub within : found < 64
  pub set : bit_at word found ≡ 1
  pub below : (i : ℕ) → bit ≤ i → i < found → bit_at word i ≡ 0

-- zeros were added at the end
abbrev pub IsPadded : List ℕ → List ℕ → Type 0
IsPadded old new = (n : ℕ) × (new ≡ old ++ replicate n 0)

-- the first of the `n` places from `p` on whose bit is set
abbrev pub first_bit : List ℕ → ℕ → ℕ → Option ℕ
first_bit words p zero = None
first_bit words p (suc n) = cond (has_bit words p) (Some p) (first_bit words (p + 1) n)

-- the first of two numbers that there is
abbrev pub either : Option ℕ → Option ℕ → Option ℕ
either (Some m) n = Some m
either None n = n

-- the next place from `p` on whose bit is set; after the last place comes the first one
abbrev pub next_bit : List ℕ → ℕ → Option ℕ
next_bit words p = either (first_bit words p (64 * length words - p)) (first_bit words 0 (64 * length words))
