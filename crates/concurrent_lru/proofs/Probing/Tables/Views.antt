-- From what is seen of a table to the buckets that the code reads.
use Rattle.std.proofs.Common.{◌≡◌, ◌≢◌, ℕ, ◌<◌, List, ◌∷◌, length, refl, sym, ap, ◌∙◌, subst, arith, Contains}
use Rattle.concurrent_lru.specs.Probing.Cycle.{next_of, home_of}
use Rattle.concurrent_lru.specs.Probing.Probes.{marks_of, mark_at, IsFilledAt, HasEmpty, Finds}
use Rattle.concurrent_lru.specs.Probing.OpenTable.{mark_of, IsTable, IsFilled, HasMark, walk}
use Rattle.concurrent_lru.specs.declared.node_table.probes.Bucket.{Bucket}
use Rattle.concurrent_lru.specs.declared.node_table.probes.Step.{Step}
use Rattle.concurrent_lru.specs.declared.node_table.probes.Step.TheVariants.{Item}
use Rattle.concurrent_lru.proofs.Probing.Marks.{length-marks}
use Rattle.concurrent_lru.proofs.Probing.Gaps.{filled_within}
use Rattle.concurrent_lru.proofs.Probing.Tables.Walks.{has_empty, first_mark, first_all, next_rest}

module _ {T : Type 0} where
  pub some_in : (buckets now : List (Bucket T)) (len : ℕ) → IsTable buckets len → now ≡ buckets → 0 < length buckets → HasEmpty (marks_of now)
  some_in buckets now len t is some = subst (λ l. HasEmpty (marks_of l)) (sym is) (has_empty buckets len t some)

  -- a filled bucket that is seen
  module _ (buckets now v : List (Bucket T)) (is : now ≡ buckets) (seen : buckets ≡ v) (k cursor : ℕ) (at : k ≡ cursor) (filled : IsFilled v cursor) where
    pub filled_at : IsFilledAt (marks_of now) k
    filled_at = subst (IsFilledAt (marks_of now)) (sym at) (subst (λ l. IsFilledAt (marks_of l) cursor) (sym (is ∙ seen)) filled)

    pub within_at : k < length now
    within_at =
        let lt : k < length (marks_of now) = filled_within (marks_of now) k filled_at in
        let long : length (marks_of now) ≡ length now = length-marks now in
        omega arith

    pub empty_at : (len : ℕ) → IsTable buckets len → HasEmpty (marks_of now)
    empty_at len t = some_in buckets now len t is (let lt = within_at in let long : length now ≡ length buckets = ap length is in omega arith)

  -- ---- the first step of a walk
  module _ (buckets now v : List (Bucket T)) (len hash mark home : ℕ) (t : IsTable buckets len) (is : now ≡ buckets) (seen : buckets ≡ v) (marks : mark ≡ mark_of hash) (begins : home ≡ home_of (length buckets) mark)
      (s : Step) (found : Finds (marks_of now) mark home s) where
    finds : Finds (marks_of buckets) mark home s
    finds = subst (λ l. Finds (marks_of l) mark home s) is found

    pub begun_mark : HasMark v (mark_of hash) s
    begun_mark = subst (λ l. HasMark l (mark_of hash) s) seen (subst (λ m. HasMark buckets m s) marks (first_mark buckets len t mark home s finds))

    pub begun_all : mark ≢ 0 → (k : ℕ) → mark_at (marks_of v) k ≡ mark_of hash → Contains (walk v s) k
    begun_all filled k h = subst (λ l. Contains (walk l s) k) seen
        (first_all buckets len t mark home s filled begins finds k (subst (λ l. mark_at (marks_of l) k ≡ mark) (sym seen) (h ∙ sym marks)))

  -- ---- a further step
  module _ (buckets now v : List (Bucket T)) (len k cursor : ℕ) (t : IsTable buckets len) (is : now ≡ buckets) (seen : buckets ≡ v) (at : k ≡ cursor) (filled : IsFilled v cursor)
      (s : Step) (found : Finds (marks_of now) (mark_at (marks_of now) k) (next_of (length now) k) s) where
    table : IsTable v len
    table = subst (λ l. IsTable l len) seen t

    on : Finds (marks_of v) (mark_at (marks_of v) cursor) (next_of (length v) cursor) s
    on = subst (λ j. Finds (marks_of v) (mark_at (marks_of v) j) (next_of (length v) j) s) at
        (subst (λ (l : List (Bucket T)). Finds (marks_of l) (mark_at (marks_of l) k) (next_of (length l) k) s) (is ∙ seen) found)

    pub on_mark : HasMark v (mark_at (marks_of v) cursor) s
    on_mark = first_mark v len table (mark_at (marks_of v) cursor) (next_of (length v) cursor) s on

    pub on_rest : walk v (Item cursor) ≡ cursor ∷ walk v s
    on_rest = next_rest v len table cursor (next_of (length v) cursor) filled refl s on
