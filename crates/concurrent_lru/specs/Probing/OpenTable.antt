-- The view of an `OpenTable`: its buckets. No clause says in which bucket a change leaves an item.
use Rattle.std.specs.Prelude.{◌≡◌, ℕ, ◌/◌, ◌≤◌, List, [], length, bit_or, refl}
use Rattle.std.specs.Coded.{Coded, code_by, coded×, coded_ℕ}
use Rattle.concurrent_lru.specs.Probing.Probes.{marks_of, mark_at, IsFilledAt, walk_at, IsReached}
use Rattle.concurrent_lru.specs.Probing.Entries.{AreApart, count}
use Rattle.concurrent_lru.specs.declared.node_table.probes.Bucket.{Bucket}
use Rattle.concurrent_lru.specs.declared.node_table.probes.TheConstants.{FILLED}
use Rattle.concurrent_lru.specs.declared.node_table.probes.Step.{Step}
use Rattle.concurrent_lru.specs.declared.node_table.probes.Step.TheVariants.{Item, End}

-- the mark of a hash
abbrev pub mark_of : ℕ → ℕ
mark_of hash = bit_or hash FILLED

module _ {T : Type 0} where
  abbrev pub bucket_code : Coded T → Coded (Bucket T)
  bucket_code t = code_by (ℕ × T) (coded× coded_ℕ t) (λ s. (s.mark, s.item)) (λ p. record { mark = p.0; item = p.1 }) (λ _. refl)

  -- how many items fit: half of the buckets stay empty
  abbrev pub capacity : List (Bucket T) → ℕ
  capacity buckets = length buckets / 2

  -- a search reaches every mark, no item is in two buckets, and there are `len` items, which fit
  pub record IsTable (buckets : List (Bucket T)) (len : ℕ) : Type 0 where
    pub reached : IsReached (marks_of buckets)
    pub apart : AreApart buckets
    pub counted : len ≡ count buckets
    pub room : len ≤ capacity buckets

  -- there is an item at the cursor
  abbrev pub IsFilled : List (Bucket T) → ℕ → Type 0
  IsFilled buckets cursor = IsFilledAt (marks_of buckets) cursor

  -- the item that a walk has reached, if any, has this mark
  abbrev pub HasMark : List (Bucket T) → ℕ → Step → Type 0
  HasMark buckets mark (Item cursor) = mark_at (marks_of buckets) cursor ≡ mark
  HasMark buckets mark End = Unit {0}

  -- the buckets that a walk still visits, starting with the one that it has reached
  abbrev pub walk : List (Bucket T) → Step → List ℕ
  walk buckets (Item cursor) = walk_at (marks_of buckets) (mark_at (marks_of buckets) cursor) cursor
  walk buckets End = []
