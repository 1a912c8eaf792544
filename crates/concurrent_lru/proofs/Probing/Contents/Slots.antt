-- What a bucket holds, and what a write to one changes.
use Rattle.std.proofs.Common.{◌≡◌, ◌≢◌, ℕ, zero, suc, ◌+◌, ◌<◌, cond, not, List, [], ◌∷◌, ◌++◌, length, get_or, set, sym, ap, ◌∙◌, arith, eqb, inl, inr, Some}
use Rattle.std.specs.Prelude.{slice_get}
use Rattle.std.specs.List.{sum_by}
use Rattle.std.proofs.lemmas.Bool.{cases_eq, cases_lt, eq-eqb, ne_eqb}
use Rattle.std.proofs.lemmas.List.{length-set, get_or-set_same, get_or-set_other}
use Rattle.std.proofs.lemmas.List.Sums.{sum_by-append}
use Rattle.std.proofs.lemmas.Option.{slice_get_past, slice_get_within, slice_get-get_or, get_or_from_slice_get}
use Rattle.concurrent_lru.specs.Probing.Probes.{marks_of, mark_at, IsEmptyAt, IsFilledAt, HasEmpty}
use Rattle.concurrent_lru.specs.Probing.Entries.{Holds, count}
use Rattle.concurrent_lru.specs.declared.node_table.probes.Bucket.{Bucket}
use Rattle.concurrent_lru.proofs.Probing.Marks.{mark_read}

module _ {T : Type 0} where
  got_same : (buckets : List (Bucket T)) (k : ℕ) (s : Bucket T) → k < length buckets → slice_get (set buckets k s) k ≡ Some s
  got_same buckets k s lt =
      let long : length (set buckets k s) ≡ length buckets = length-set buckets k s in
      slice_get-get_or (set buckets k s) k s (omega arith) ∙ ap Some (get_or-set_same buckets k s s lt)

  got_other : (buckets : List (Bucket T)) (k j : ℕ) (s : Bucket T) → j ≢ k → slice_get (set buckets k s) j ≡ slice_get buckets j
  got_other buckets k j s ne =
      let long : length (set buckets k s) ≡ length buckets = length-set buckets k s in
      elim (cases_lt j (length buckets)) [
        | inl lt ↦ slice_get-get_or (set buckets k s) j s (omega arith) ∙ ap Some (get_or-set_other buckets k j s s ne) ∙ sym (slice_get-get_or buckets j s lt)
        | inr le ↦ slice_get_past (set buckets k s) j (omega arith) ∙ sym (slice_get_past buckets j le)
      ]

  pub holds_within : (buckets : List (Bucket T)) (k : ℕ) (s : Bucket T) → Holds buckets k s → k < length buckets
  holds_within buckets k s h = slice_get_within buckets k s h.is

  pub holds_read : (buckets : List (Bucket T)) (k : ℕ) (s : Bucket T) → k < length buckets → s ≡ get_or buckets k s → s.mark ≢ 0 → Holds buckets k s
  holds_read buckets k s lt is filled = record { is = slice_get-get_or buckets k s lt ∙ ap Some (sym is); filled = filled }

  pub holds_get : (buckets : List (Bucket T)) (k : ℕ) (d : Bucket T) → k < length buckets → IsFilledAt (marks_of buckets) k → Holds buckets k (get_or buckets k d)
  holds_get buckets k d lt full = record { is = slice_get-get_or buckets k d lt; filled = λ none. full (mark_read buckets k d lt ∙ none) }

  pub holds_mark : (buckets : List (Bucket T)) (k : ℕ) (s : Bucket T) → Holds buckets k s → mark_at (marks_of buckets) k ≡ s.mark
  holds_mark buckets k s h = mark_read buckets k s (holds_within buckets k s h) ∙ ap (λ (t : Bucket T). t.mark) (get_or_from_slice_get buckets k s s h.is)

  pub holds_filled : (buckets : List (Bucket T)) (k : ℕ) (s : Bucket T) → Holds buckets k s → IsFilledAt (marks_of buckets) k
  holds_filled buckets k s h none = h.filled (sym (holds_mark buckets k s h) ∙ none)

  pub holds_one : (buckets : List (Bucket T)) (k : ℕ) (r s : Bucket T) → Holds buckets k r → Holds buckets k s → r ≡ s
  holds_one buckets k r s h i = let a = h.is in let b = i.is in cc

  pub holds_set : (buckets : List (Bucket T)) (k : ℕ) (s : Bucket T) → k < length buckets → s.mark ≢ 0 → Holds (set buckets k s) k s
  holds_set buckets k s lt filled = record { is = got_same buckets k s lt; filled = filled }

  pub holds_other : (buckets : List (Bucket T)) (k j : ℕ) (s r : Bucket T) → j ≢ k → Holds buckets j r → Holds (set buckets k s) j r
  holds_other buckets k j s r ne h = record { is = got_other buckets k j s ne ∙ h.is; filled = h.filled }

  pub held_other : (buckets : List (Bucket T)) (k j : ℕ) (s r : Bucket T) → j ≢ k → Holds (set buckets k s) j r → Holds buckets j r
  held_other buckets k j s r ne h = record { is = sym (got_other buckets k j s ne) ∙ h.is; filled = h.filled }

  -- what is held where a bucket was written
  pub held_same : (buckets : List (Bucket T)) (k : ℕ) (s r : Bucket T) → k < length buckets → Holds (set buckets k s) k r → r ≡ s
  held_same buckets k s r lt h = let a = got_same buckets k s lt in let b = h.is in cc

  pub not_emptied : (buckets : List (Bucket T)) (k : ℕ) (s r : Bucket T) → k < length buckets → s.mark ≡ 0 → Holds (set buckets k s) k r → ⊥
  not_emptied buckets k s r lt none h = h.filled (ap (λ (t : Bucket T). t.mark) (held_same buckets k s r lt h) ∙ none)

  -- ---- how many are filled
  abbrev one : Bucket T → ℕ
  one s = cond (not (eqb s.mark 0)) 1 0

  one_filled : (s : Bucket T) → s.mark ≢ 0 → one s ≡ 1
  one_filled s h = ap (λ t. cond (not t) 1 0) (ne_eqb s.mark 0 h)

  one_empty : (s : Bucket T) → s.mark ≡ 0 → one s ≡ 0
  one_empty s h = ap (λ t. cond (not t) 1 0) (eq-eqb s.mark 0 h)

  pub count-cons : (s : Bucket T) (buckets : List (Bucket T)) → count (s ∷ buckets) ≡ one s + count buckets
  count-cons s buckets = let a : sum_by one ((s ∷ []) ++ buckets) ≡ sum_by one (s ∷ []) + sum_by one buckets = sum_by-append one (s ∷ []) buckets in omega (arith, a)

  count-set : (buckets : List (Bucket T)) (k : ℕ) (s : Bucket T) → k < length buckets → count (set buckets k s) + one (get_or buckets k s) ≡ count buckets + one s
  count-set [] k s lt = absurd (omega arith)
  count-set (x ∷ buckets) zero s lt =
      let a : count (s ∷ buckets) ≡ one s + count buckets = count-cons s buckets in
      let b : count (x ∷ buckets) ≡ one x + count buckets = count-cons x buckets in
      omega (arith, a, b)
  count-set (x ∷ buckets) (suc k) s lt =
      let a : count (x ∷ set buckets k s) ≡ one x + count (set buckets k s) = count-cons x (set buckets k s) in
      let b : count (x ∷ buckets) ≡ one x + count buckets = count-cons x buckets in
      let c : count (set buckets k s) + one (get_or buckets k s) ≡ count buckets + one s = count-set buckets k s (omega arith) in
      omega (arith, a, b, c)

  pub count_filled : (buckets : List (Bucket T)) (k : ℕ) (s : Bucket T) → k < length buckets → IsEmptyAt (marks_of buckets) k → s.mark ≢ 0 → count (set buckets k s) ≡ count buckets + 1
  count_filled buckets k s lt none filled =
      let a : count (set buckets k s) + one (get_or buckets k s) ≡ count buckets + one s = count-set buckets k s lt in
      let b : one (get_or buckets k s) ≡ 0 = one_empty (get_or buckets k s) (sym (mark_read buckets k s lt) ∙ none) in
      let c : one s ≡ 1 = one_filled s filled in
      omega (arith, a, b, c)

  pub count_emptied : (buckets : List (Bucket T)) (k : ℕ) (s : Bucket T) → k < length buckets → IsFilledAt (marks_of buckets) k → s.mark ≡ 0 → count (set buckets k s) + 1 ≡ count buckets
  count_emptied buckets k s lt full none =
      let a : count (set buckets k s) + one (get_or buckets k s) ≡ count buckets + one s = count-set buckets k s lt in
      let b : one (get_or buckets k s) ≡ 1 = one_filled (get_or buckets k s) (λ e. full (mark_read buckets k s lt ∙ e)) in
      let c : one s ≡ 0 = one_empty s none in
      omega (arith, a, b, c)

  -- where fewer are filled than there are, one is empty
  pub some_empty : (buckets : List (Bucket T)) → count buckets < length buckets → HasEmpty (marks_of buckets)
  some_empty [] h = absurd (omega arith)
  some_empty (s ∷ buckets) h = elim (cases_eq s.mark 0) [
    | inl none ↦ (0, omega arith, none)
    | inr full ↦
        let a : count (s ∷ buckets) ≡ one s + count buckets = count-cons s buckets in
        let b : one s ≡ 1 = one_filled s full in
        let rest : HasEmpty (marks_of buckets) = some_empty buckets (omega (arith, a, b)) in
        let lt : rest.0 < length (marks_of buckets) = rest.1 in
        (suc rest.0, omega arith, rest.2)
  ]
