-- The marks of buckets that are read and written.
use Rattle.std.proofs.Common.{◌≡◌, ◌≢◌, ℕ, ◌<◌, List, ◌∷◌, length, get_or, set, sym, ap, ◌∙◌, arith, bit_or, max, ◌^◌}
use Rattle.std.specs.Int.{bit_at}
use Rattle.std.proofs.lemmas.Nat.Bits.{bit_at_or, bit_at-pow_same, bit_at-zero}
use Rattle.std.proofs.lemmas.List.{length-map, map-set, get_or-map}
use Rattle.concurrent_lru.specs.Probing.Cycle.{next_of}
use Rattle.concurrent_lru.specs.Probing.Probes.{marks_of, mark_at, IsFilledAt, HasEmpty, run_at, end_at, walk_at}
use Rattle.concurrent_lru.specs.declared.node_table.probes.Bucket.{Bucket}
use Rattle.concurrent_lru.proofs.Probing.Circle.{next_within}
use Rattle.concurrent_lru.proofs.Probing.Runs.{run_on, end_on, walk_past}

-- a mark has the bit that 0 lacks
pub mark_filled : (hash : ℕ) → bit_or hash (2 ^ 63) ≢ 0
mark_filled hash e =
    let here : bit_at (bit_or hash (2 ^ 63)) 63 ≡ max (bit_at hash 63) (bit_at (2 ^ 63) 63) = bit_at_or hash (2 ^ 63) 63 in
    let one : bit_at (2 ^ 63) 63 ≡ 1 = bit_at-pow_same 63 in
    let none : bit_at (bit_or hash (2 ^ 63)) 63 ≡ 0 = ap (λ t. bit_at t 63) e ∙ bit_at-zero 63 in
    omega (arith, here, one, none)

module _ {T : Type 0} where
  pub length-marks : (buckets : List (Bucket T)) → length (marks_of buckets) ≡ length buckets
  length-marks buckets = length-map buckets (λ (s : Bucket T). s.mark)

  -- what is read where there is a bucket
  pub mark_read : (buckets : List (Bucket T)) (k : ℕ) (s : Bucket T) → k < length buckets → mark_at (marks_of buckets) k ≡ (get_or buckets k s).mark
  mark_read buckets k s lt = get_or-map (λ (t : Bucket T). t.mark) buckets k s 0 lt

  pub marks-set : (buckets : List (Bucket T)) (k : ℕ) (s : Bucket T) → marks_of (set buckets k s) ≡ set (marks_of buckets) k s.mark
  marks-set buckets k s = map-set (λ (t : Bucket T). t.mark) buckets k s

  -- a search that goes on past a filled bucket
  pub record GoesOn (buckets : List (Bucket T)) (at next : ℕ) : Type 0 where
    pub within : next < length buckets
    pub end : end_at (marks_of buckets) at ≡ end_at (marks_of buckets) next
    pub shorter : length (run_at (marks_of buckets) next) < length (run_at (marks_of buckets) at)

  module _ (buckets : List (Bucket T)) (at next : ℕ) (s : Bucket T) (some : HasEmpty (marks_of buckets)) (lt : at < length buckets) (filled : (get_or buckets at s).mark ≢ 0) (to : next ≡ next_of (length buckets) at) where
    abbrev ms : List ℕ
    ms = marks_of buckets

    full : IsFilledAt ms at
    full none = filled (sym (mark_read buckets at s lt) ∙ none)

    in_marks : at < length ms
    in_marks = let long : length ms ≡ length buckets = length-marks buckets in omega arith

    next_is : next_of (length ms) at ≡ next
    next_is = ap (λ n. next_of n at) (length-marks buckets) ∙ sym to

    pub goes_on : GoesOn buckets at next
    goes_on =
        let long : length ms ≡ length buckets = length-marks buckets in
        let run : run_at ms at ≡ at ∷ run_at ms (next_of (length ms) at) = run_on ms some.0 some.1 some.2 at in_marks full in
        let more : length (run_at ms at) ≡ length (at ∷ run_at ms next) = ap length (run ∙ ap (λ k. at ∷ run_at ms k) next_is) in
        let near : next_of (length ms) at < length ms = next_within (length ms) at in_marks in
        record {
          within = omega (arith, next_is);
          end = end_on ms some.0 some.1 some.2 at in_marks full ∙ ap (end_at ms) next_is;
          shorter = omega (arith, more);
        }

    -- a walk passes a bucket with another mark
    pub passes : (mark : ℕ) → (get_or buckets at s).mark ≢ mark → walk_at ms mark at ≡ walk_at ms mark next
    passes mark other = walk_past ms mark at some in_marks full (λ e. other (sym (mark_read buckets at s lt) ∙ e)) ∙ ap (walk_at ms mark) next_is
