-- Buckets in a circle: the next bucket, and the distance from one bucket to another.
use Rattle.std.specs.Prelude.{ℕ, ◌+◌, ◌-◌, nat_lt, bit_and, if◌then◌else◌}

-- the bucket after this one, of n buckets; the first one follows the last one
abbrev pub next_of : ℕ → ℕ → ℕ
next_of n at = if nat_lt (at + 1) n then at + 1 else 0

-- the number of steps from one bucket on to another
abbrev pub steps : ℕ → ℕ → ℕ → ℕ
steps n from to = if nat_lt to from then n - from + to else to - from

-- the bucket at which a walk for this mark begins
abbrev pub home_of : ℕ → ℕ → ℕ
home_of n mark = bit_and mark (n - 1)
