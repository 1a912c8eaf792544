-- The entries of a list of buckets, whichever buckets they are in.
use Rattle.std.specs.Prelude.{◌≡◌, ◌≢◌, ℕ, ◌==◌, List, Some, not, count_by, slice_get, ◌⊎◌}
use Rattle.concurrent_lru.specs.declared.node_table.probes.Bucket.{Bucket}

module _ {T : Type 0} where
  -- the bucket k is filled, with s
  pub record Holds (buckets : List (Bucket T)) (k : ℕ) (s : Bucket T) : Type 0 where
    pub is : slice_get buckets k ≡ Some s
    pub filled : s.mark ≢ 0

  -- some bucket is filled with s
  abbrev pub Has : List (Bucket T) → Bucket T → Type 0
  Has buckets s = (k : ℕ) × Holds buckets k s

  abbrev pub entry : ℕ → T → Bucket T
  entry mark item = record { mark = mark; item = item }

  -- no item is in two buckets
  abbrev pub AreApart : List (Bucket T) → Type 0
  AreApart buckets = (k l : ℕ) (r s : Bucket T) → Holds buckets k r → Holds buckets l s → r.item ≡ s.item → k ≡ l

  -- the number of filled buckets
  abbrev pub count : List (Bucket T) → ℕ
  count buckets = count_by (λ s. not (s.mark == 0)) buckets

  -- the entries of old and new are the same
  pub record IsSame (old new : List (Bucket T)) : Type 0 where
    pub kept : (s : Bucket T) → Has old s → Has new s
    pub from : (s : Bucket T) → Has new s → Has old s

  -- the entries of new are those of old, and s
  pub record Adds (old new : List (Bucket T)) (s : Bucket T) : Type 0 where
    pub here : Has new s
    pub kept : (r : Bucket T) → Has old r → Has new r
    pub from : (r : Bucket T) → Has new r → (r ≡ s) ⊎ Has old r

  -- the entries of new are those of old, except the one with this item
  pub record Removes (old new : List (Bucket T)) (item : T) : Type 0 where
    pub gone : (r : Bucket T) → Has new r → r.item ≢ item
    pub kept : (r : Bucket T) → Has old r → r.item ≢ item → Has new r
    pub from : (r : Bucket T) → Has new r → Has old r
