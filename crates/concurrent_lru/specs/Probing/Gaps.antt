-- A bucket that was emptied, while the entries after it are moved back.
use Rattle.std.specs.Prelude.{◌≡◌, ◌≢◌, ℕ, ◌<◌, ◌≤◌, List, length, ◌⊎◌}
use Rattle.concurrent_lru.specs.Probing.Cycle.{next_of, steps, home_of}
use Rattle.concurrent_lru.specs.Probing.Probes.{mark_at, IsEmptyAt, IsFilledAt}

-- the distance of a bucket from the one after the empty bucket `end`, where every search ends
abbrev pub rank : ℕ → ℕ → ℕ → ℕ
rank n end k = steps n (next_of n end) k

-- among n buckets `hole` is empty; the buckets after `start` and before `at` are done, and an entry
-- whose search crosses the hole is at `at` or after it
pub record IsGap (n : ℕ) (ms : List ℕ) (start hole at : ℕ) : Type 0 where
  pub end : ℕ
  pub long : length ms ≡ n
  pub end_within : end < n
  pub start_within : start < n
  pub hole_within : hole < n
  pub at_within : at < n
  pub ends : IsEmptyAt ms end
  pub vacant : IsEmptyAt ms hole
  pub apart : end ≢ hole
  pub began : rank n end start ≤ rank n end hole
  pub after : rank n end hole < rank n end at
  pub between : (m : ℕ) → m < n → rank n end hole < rank n end m → rank n end m < rank n end at → IsFilledAt ms m
  pub upright : (k : ℕ) → IsFilledAt ms k → rank n end (home_of n (mark_at ms k)) ≤ rank n end k
  pub reached : (k m : ℕ) → IsFilledAt ms k → m < n → rank n end (home_of n (mark_at ms k)) ≤ rank n end m
      → rank n end m ≤ rank n end k → IsFilledAt ms m ⊎ ((m ≡ hole) × (rank n end at ≤ rank n end k))
