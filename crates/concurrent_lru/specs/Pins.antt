-- The views of the pins and handles of callers.
use Rattle.std.specs.Prelude.{◌≡◌, ℕ, Option, refl}
use Rattle.std.specs.Coded.{Coded, code_by, coded×, coded_ℕ}
use Rattle.concurrent_lru.specs.CountedCalls.{LockedCache, locked_cache_code}

-- an entry whose value a caller makes or has waited for: its stamp, and the key and charge that the
-- caller asked for
pub record AskOf (K : Type 0) : Type 0 where
  pub stamp : ℕ
  pub key : K
  pub charge : ℕ

-- the same for a caller that is to wait, and the state in which its call left the cache
pub record WaitOf (K V : Type 0) : Type 0 where
  pub stamp : ℕ
  pub key : K
  pub charge : ℕ
  pub left : LockedCache K V

-- a pin of a ready entry: its stamp, the key that was asked for, the charge if one was given, and
-- the value
pub record PinOf (K V : Type 0) : Type 0 where
  pub stamp : ℕ
  pub key : K
  pub charge : Option ℕ
  pub value : V

-- what a handle shows: the key that was asked for, the charge if one was given, and the value
pub record HandleOf (K V : Type 0) : Type 0 where
  pub key : K
  pub charge : Option ℕ
  pub value : V

-- the handle belongs to a caller that asked for this key and charge, and its value fits the key
abbrev pub IsHandleFor : {K V : Type 0} → (K → V → Type 0) → HandleOf K V → K → Option ℕ → Type 0
IsHandleFor fits h k c = (h.key ≡ k) × (h.charge ≡ c) × fits k h.value

abbrev pub wait_code : {K V : Type 0} → Coded K → Coded V → Coded (WaitOf K V)
wait_code {K} {V} k v =
    code_by (ℕ × (K × (ℕ × LockedCache K V)))
    (coded× coded_ℕ (coded× k (coded× coded_ℕ (locked_cache_code k v))))
    (λ w. (w.stamp, (w.key, (w.charge, w.left))))
    (λ p. record { stamp = p.0; key = p.1.0; charge = p.1.1.0; left = p.1.1.1 }) (λ _. refl)
