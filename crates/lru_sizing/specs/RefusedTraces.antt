-- Why a trace is refused. E is the equality of keys.
use Rattle.std.specs.Prelude.{◌≡◌, ◌≢◌, ℕ, ◌+◌, ◌<◌, ◌≤◌, ◌^◌, Bool, true, List, length, take, sum_by, Some, slice_get}
use Rattle.concurrent_lru.specs.Uses.{charge_in, last_uses}
use Rattle.lru_sizing.specs.ReuseWeights.{used_keys}
use Rattle.lru_sizing.specs.declared.refusal.Refusal.{Refusal}
use Rattle.lru_sizing.specs.declared.refusal.Refusal.TheVariants.{Memory, Overflow, TwoCharges}

module _ {K : Type 0} (E : K → K → Bool) where
  -- these two uses of one key have different charges
  pub record HasTwoCharges (trace : List (K × ℕ)) (first second : ℕ) : Type 0 where
    pub one : K × ℕ
    pub other : K × ℕ
    pub one_at : slice_get trace first ≡ Some one
    pub other_at : slice_get trace second ≡ Some other
    pub same_key : E one.0 other.0 ≡ true
    pub two : one.1 ≢ other.1

  -- the trace may be refused for this reason; memory may always be refused
  abbrev pub IsRefusedFor : List (K × ℕ) → Refusal → Type 0
  IsRefusedFor trace Memory = Unit {0}
  IsRefusedFor trace (Overflow place) = (place < length trace) × (2 ^ 64 ≤ sum_by (charge_in E trace) (last_uses E (used_keys (take (place + 1) trace))))
  IsRefusedFor trace (TwoCharges first second) = (first < second) × HasTwoCharges trace first second
