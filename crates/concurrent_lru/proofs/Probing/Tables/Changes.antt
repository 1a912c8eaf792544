-- A table after an insertion, a removal and a growth.
use Rattle.std.proofs.Common.{◌≡◌, ℕ, ◌+◌, ◌-◌, ◌<◌, ◌≤◌, List, length, sym, ap, ◌∙◌, subst, arith}
use Rattle.concurrent_lru.specs.Probing.Probes.{marks_of, IsReached}
use Rattle.concurrent_lru.specs.Probing.Entries.{AreApart, count}
use Rattle.concurrent_lru.specs.Probing.OpenTable.{IsTable, capacity}
use Rattle.concurrent_lru.specs.declared.node_table.probes.Bucket.{Bucket}

module _ {T : Type 0} where
  -- what is seen has room for one more
  pub room_in : (v now : List (Bucket T)) → now ≡ v → count v < capacity v → count now < length now
  room_in v now is room =
      let a : count now ≡ count v = ap count is in
      let b : length now ≡ length v = ap length is in
      omega arith

  pub reached_in : (buckets now : List (Bucket T)) (len : ℕ) → now ≡ buckets → IsTable buckets len → IsReached (marks_of now)
  reached_in buckets now len is t = subst (λ l. IsReached (marks_of l)) (sym is) t.reached

  pub apart_in : (buckets now : List (Bucket T)) (len : ℕ) → now ≡ buckets → IsTable buckets len → AreApart now
  apart_in buckets now len is t = subst AreApart (sym is) t.apart

  module _ (buckets now new : List (Bucket T)) (len : ℕ) (is : now ≡ buckets) (long : length new ≡ length now) (reached : IsReached (marks_of new)) (apart : AreApart new) (t : IsTable buckets len) where
    same_length : length new ≡ length buckets
    same_length = long ∙ ap length is

    same_count : count now ≡ count buckets
    same_count = ap count is

    pub table_more : (v : List (Bucket T)) → buckets ≡ v → count v < capacity v → count new ≡ count now + 1 → IsTable new (len + 1)
    table_more v seen room more =
        let counted = t.counted in
        let a = same_length in
        let b = same_count in
        let c : count buckets ≡ count v = ap count seen in
        let d : length buckets ≡ length v = ap length seen in
        record { reached = reached; apart = apart; counted = omega arith; room = omega arith }

    pub table_fewer : count new + 1 ≡ count now → IsTable new (len - 1)
    table_fewer fewer =
        let counted = t.counted in
        let room = t.room in
        let a = same_length in
        let b = same_count in
        record { reached = reached; apart = apart; counted = omega arith; room = omega arith }

  pub table_grown : (buckets now new : List (Bucket T)) (len : ℕ) → now ≡ buckets → length buckets ≤ length new → IsReached (marks_of new) → AreApart new → count new ≡ count now → IsTable buckets len → IsTable new len
  table_grown buckets now new len is longer reached apart same t =
      let counted = t.counted in
      let room = t.room in
      let b : count now ≡ count buckets = ap count is in
      record { reached = reached; apart = apart; counted = omega arith; room = omega arith }
