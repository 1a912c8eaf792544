-- The marks of buckets, and the walks along them; the mark of an empty bucket is 0.
use Rattle.std.specs.Prelude.{◌≡◌, ◌≢◌, ℕ, zero, suc, ◌<◌, ◌≤◌, ◌==◌, List, [], ◌∷◌, map, filter, length, slice_index_or, if◌then◌else◌}
use Rattle.concurrent_lru.specs.Probing.Cycle.{next_of, steps, home_of}
use Rattle.concurrent_lru.specs.declared.node_table.probes.Bucket.{Bucket}
use Rattle.concurrent_lru.specs.declared.node_table.probes.Step.{Step}
use Rattle.concurrent_lru.specs.declared.node_table.probes.Step.TheVariants.{Item, End}

abbrev pub marks_of : {T : Type 0} → List (Bucket T) → List ℕ
marks_of buckets = map (λ s. s.mark) buckets

-- the mark of a bucket, or 0 past the last bucket
abbrev pub mark_at : List ℕ → ℕ → ℕ
mark_at ms k = slice_index_or ms k 0

abbrev pub IsEmptyAt : List ℕ → ℕ → Type 0
IsEmptyAt ms k = mark_at ms k ≡ 0

abbrev pub IsFilledAt : List ℕ → ℕ → Type 0
IsFilledAt ms k = mark_at ms k ≢ 0

abbrev pub HasEmpty : List ℕ → Type 0
HasEmpty ms = (k : ℕ) × (k < length ms) × IsEmptyAt ms k

-- the filled buckets from this one up to the first empty one, at most this many
abbrev pub run : ℕ → List ℕ → ℕ → List ℕ
run zero ms at = []
run (suc more) ms at = if mark_at ms at == 0 then [] else at ∷ run more ms (next_of (length ms) at)

-- the first empty bucket from this one on
abbrev pub end : ℕ → List ℕ → ℕ → ℕ
end zero ms at = at
end (suc more) ms at = if mark_at ms at == 0 then at else end more ms (next_of (length ms) at)

abbrev pub run_at : List ℕ → ℕ → List ℕ
run_at ms at = run (length ms) ms at

abbrev pub end_at : List ℕ → ℕ → ℕ
end_at ms at = end (length ms) ms at

-- the buckets with this mark that a walk from a bucket visits
abbrev pub walk_at : List ℕ → ℕ → ℕ → List ℕ
walk_at ms mark at = filter (λ k. mark_at ms k == mark) (run_at ms at)

-- what a search from a bucket finds first: a bucket with the mark, or else the end of the walk
abbrev pub Finds : List ℕ → ℕ → ℕ → Step → Type 0
Finds ms mark at (Item k) = (mark_at ms k ≡ mark) × (walk_at ms mark at ≡ walk_at ms mark k)
Finds ms mark at End = walk_at ms mark at ≡ []

-- the empty bucket at which the search for a mark ends
pub record Ends (ms : List ℕ) (mark at : ℕ) : Type 0 where
  pub within : at < length ms
  pub is_empty : IsEmptyAt ms at
  pub before : (m : ℕ) → m < length ms → steps (length ms) (home_of (length ms) mark) m < steps (length ms) (home_of (length ms) mark) at → IsFilledAt ms m

-- among n buckets, none from the home of a mark to the bucket with the mark is empty
abbrev pub IsReachedIn : ℕ → List ℕ → Type 0
IsReachedIn n ms = (k m : ℕ) → IsFilledAt ms k → m < n
    → steps n (home_of n (mark_at ms k)) m ≤ steps n (home_of n (mark_at ms k)) k → IsFilledAt ms m

abbrev pub IsReached : List ℕ → Type 0
IsReached ms = IsReachedIn (length ms) ms
