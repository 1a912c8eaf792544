-- Steps in a circle of n buckets.
use Rattle.std.proofs.Common.{◌≡◌, ◌≢◌, ℕ, ◌+◌, ◌-◌, ◌<◌, ◌≤◌, cond, ap, arith, inl, inr, ◌⊎◌}
use Rattle.std.proofs.lemmas.Bool.{cases_lt, lt-ltb, le-ltb}
use Rattle.std.proofs.lemmas.Nat.{and_le_r}
use Rattle.concurrent_lru.specs.Probing.Cycle.{next_of, steps, home_of}

pub home_within : (n mark : ℕ) → 0 < n → home_of n mark < n
home_within n mark some = let le : home_of n mark ≤ n - 1 = and_le_r mark (n - 1) in omega (arith, le)

next_inner : (n at : ℕ) → at + 1 < n → next_of n at ≡ at + 1
next_inner n at h = ap (λ t. cond t (at + 1) 0) (lt-ltb (at + 1) n h)

next_last : (n at : ℕ) → n ≤ at + 1 → next_of n at ≡ 0
next_last n at h = ap (λ t. cond t (at + 1) 0) (le-ltb (at + 1) n h)

-- the next bucket is within, and is the following one or, after the last, the first
pub next_cases : (n at : ℕ) → at < n → (next_of n at ≡ at + 1) × (at + 1 < n) ⊎ (next_of n at ≡ 0) × (at + 1 ≡ n)
next_cases n at h = elim (cases_lt (at + 1) n) [
  | inl lt ↦ inl (next_inner n at lt, lt)
  | inr le ↦ inr (next_last n at le, omega arith)
]

pub next_within : (n at : ℕ) → at < n → next_of n at < n
next_within n at h = elim (next_cases n at h) [ inl e ↦ omega arith | inr e ↦ omega arith ]

pub steps_cases : (n a b : ℕ) → (steps n a b ≡ n - a + b) × (b < a) ⊎ (steps n a b ≡ b - a) × (a ≤ b)
steps_cases n a b = elim (cases_lt b a) [
  | inl lt ↦ inl (ap (λ t. cond t (n - a + b) (b - a)) (lt-ltb b a lt), lt)
  | inr le ↦ inr (ap (λ t. cond t (n - a + b) (b - a)) (le-ltb b a le), le)
]

pub steps_self : (n a : ℕ) → steps n a a ≡ 0
steps_self n a = elim (steps_cases n a a) [ inl e ↦ absurd (omega arith) | inr e ↦ omega arith ]

pub steps_within : (n a b : ℕ) → a < n → b < n → steps n a b < n
steps_within n a b h k = elim (steps_cases n a b) [ inl e ↦ omega arith | inr e ↦ omega arith ]

pub steps_none : (n a b : ℕ) → a < n → b < n → steps n a b ≡ 0 → a ≡ b
steps_none n a b h k z = elim (steps_cases n a b) [ inl e ↦ absurd (omega arith) | inr e ↦ omega arith ]

-- from the next bucket on it is one step less
pub steps_from_next : (n a b : ℕ) → a < n → b < n → b ≢ a → steps n (next_of n a) b + 1 ≡ steps n a b
steps_from_next n a b h k ne = elim (next_cases n a h) [
  | inl e ↦ elim (steps_cases n a b) [
    | inl f ↦ elim (steps_cases n (next_of n a) b) [ inl g ↦ omega arith | inr g ↦ omega arith ]
    | inr f ↦ elim (steps_cases n (next_of n a) b) [ inl g ↦ omega arith | inr g ↦ omega arith ]
  ]
  | inr e ↦ elim (steps_cases n a b) [
    | inl f ↦ elim (steps_cases n (next_of n a) b) [ inl g ↦ omega arith | inr g ↦ omega arith ]
    | inr f ↦ elim (steps_cases n (next_of n a) b) [ inl g ↦ omega arith | inr g ↦ omega arith ]
  ]
]

-- to the next bucket it is one step more
pub steps_to_next : (n a b : ℕ) → a < n → b < n → next_of n b ≢ a → steps n a (next_of n b) ≡ steps n a b + 1
steps_to_next n a b h k ne = elim (next_cases n b k) [
  | inl e ↦ elim (steps_cases n a b) [
    | inl f ↦ elim (steps_cases n a (next_of n b)) [ inl g ↦ omega arith | inr g ↦ omega arith ]
    | inr f ↦ elim (steps_cases n a (next_of n b)) [ inl g ↦ omega arith | inr g ↦ omega arith ]
  ]
  | inr e ↦ elim (steps_cases n a b) [
    | inl f ↦ elim (steps_cases n a (next_of n b)) [ inl g ↦ omega arith | inr g ↦ omega arith ]
    | inr f ↦ elim (steps_cases n a (next_of n b)) [ inl g ↦ omega arith | inr g ↦ omega arith ]
  ]
]

-- the steps between two buckets, by how far each is from a third
pub steps_beyond : (n o a b : ℕ) → o < n → a < n → b < n → (steps n a b + steps n o a ≡ steps n o b) × (steps n o a ≤ steps n o b)
    ⊎ (steps n a b + steps n o a ≡ steps n o b + n) × (steps n o b < steps n o a)
steps_beyond n o a b h k l = elim (steps_cases n o a) [
  | inl e ↦ elim (steps_cases n o b) [
    | inl f ↦ elim (steps_cases n a b) [ inl g ↦ inr (omega arith, omega arith) | inr g ↦ inl (omega arith, omega arith) ]
    | inr f ↦ elim (steps_cases n a b) [ inl g ↦ absurd (omega arith) | inr g ↦ inr (omega arith, omega arith) ]
  ]
  | inr e ↦ elim (steps_cases n o b) [
    | inl f ↦ elim (steps_cases n a b) [ inl g ↦ inl (omega arith, omega arith) | inr g ↦ absurd (omega arith) ]
    | inr f ↦ elim (steps_cases n a b) [ inl g ↦ inr (omega arith, omega arith) | inr g ↦ inl (omega arith, omega arith) ]
  ]
]

pub steps_same : (n o a b : ℕ) → o < n → a < n → b < n → steps n o a ≡ steps n o b → a ≡ b
steps_same n o a b h k l e = elim (steps_beyond n o a b h k l) [
  | inl f ↦ steps_none n a b k l (omega arith)
  | inr f ↦ absurd (omega arith)
]
