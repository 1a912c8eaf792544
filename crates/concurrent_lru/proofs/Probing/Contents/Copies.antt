-- Entries that are copied bucket by bucket into buckets that were empty.
use Rattle.std.proofs.Common.{◌≡◌, ◌≢◌, ℕ, zero, suc, ◌+◌, ◌<◌, ◌≤◌, cond, not, List, [], ◌∷◌, ◌++◌, length, get_or, take, refl, sym, ap, ◌∙◌, subst, arith, eqb, inl, inr}
use Rattle.std.proofs.lemmas.Bool.{cases_eq, eq-eqb, ne_eqb}
use Rattle.std.proofs.lemmas.List.{take_all}
use Rattle.std.proofs.lemmas.Option.{slice_get-get_or}
use Rattle.std.proofs.lemmas.List.Sums.{count_by_more_yes, count_by_more_no}
use Rattle.concurrent_lru.specs.Probing.Probes.{marks_of, IsEmptyAt}
use Rattle.concurrent_lru.specs.Probing.Entries.{Holds, Has, AreApart, IsSame, Adds, count, entry}
use Rattle.concurrent_lru.specs.declared.node_table.probes.Bucket.{Bucket}
use Rattle.concurrent_lru.proofs.Probing.Contents.Slots.{holds_within, holds_read, holds_one, holds_filled, count-cons}

module _ {T : Type 0} where
  -- nothing is held where all buckets are empty
  pub none_held : (buckets : List (Bucket T)) → ((k : ℕ) → IsEmptyAt (marks_of buckets) k) → (k : ℕ) (s : Bucket T) → Holds buckets k s → ⊥
  none_held buckets vacant k s h = holds_filled buckets k s h (vacant k)

  pub none_counted : (buckets : List (Bucket T)) → ((k : ℕ) → IsEmptyAt (marks_of buckets) k) → count buckets ≡ 0
  none_counted [] vacant = refl
  none_counted (s ∷ buckets) vacant =
      count-cons s buckets ∙ (λ i. one_none i + none_counted buckets (λ k. vacant (suc k)) i)
    where
      one_none : ◌≡◌ {A = ℕ} (cond (not (eqb s.mark 0)) 1 0) 0
      one_none = ap (λ t. cond (not t) 1 0) (eq-eqb s.mark 0 (vacant 0))

  pub count-take : (n : ℕ) (buckets : List (Bucket T)) → count (take n buckets) ≤ count buckets
  count-take zero buckets = omega arith
  count-take (suc n) [] = omega arith
  count-take (suc n) (s ∷ buckets) =
      let a : count (s ∷ take n buckets) ≡ cond (not (eqb s.mark 0)) 1 0 + count (take n buckets) = count-cons s (take n buckets) in
      let b : count (s ∷ buckets) ≡ cond (not (eqb s.mark 0)) 1 0 + count buckets = count-cons s buckets in
      let rest : count (take n buckets) ≤ count buckets = count-take n buckets in
      omega (arith, a, b, rest)

  -- the entries of the buckets before a number are those of other buckets
  pub record IsCopied (source target : List (Bucket T)) (n : ℕ) : Type 0 where
    pub kept : (k : ℕ) (s : Bucket T) → k < n → Holds source k s → Has target s
    pub came : (s : Bucket T) → Has target s → (k : ℕ) × (k < n) × Holds source k s
    pub counted : count target ≡ count (take n source)

  pub copied_none : (source target : List (Bucket T)) → ((k : ℕ) → IsEmptyAt (marks_of target) k) → IsCopied source target 0
  copied_none source target vacant = record {
    kept = λ k s lt h. absurd (omega arith);
    came = λ s h. absurd (none_held target vacant h.0 s h.1);
    counted = none_counted target vacant;
  }

  pub copied_all : (source target : List (Bucket T)) (n : ℕ) → length source ≤ n → IsCopied source target n → IsSame source target × (count target ≡ count source)
  copied_all source target n le c = (
    record {
      kept = λ s h. c.kept h.0 s (let w : h.0 < length source = holds_within source h.0 s h.1 in omega arith) h.1;
      from = λ s h. let k = c.came s h in (k.0, k.2);
    },
    c.counted ∙ ap count (take_all n source le),
  )

  module _ (source target : List (Bucket T)) (n : ℕ) (s : Bucket T) (lt : n < length source) (is : s ≡ get_or source n s) (c : IsCopied source target n) where
    -- an empty bucket is passed over
    pub copied_past : s.mark ≡ 0 → IsCopied source target (n + 1)
    copied_past none = record {
      kept = λ k r near h. elim (cases_eq k n) [
        | inl e ↦ absurd (h.filled (ap (λ (t : Bucket T). t.mark) (same k r e h) ∙ none))
        | inr ne ↦ c.kept k r (omega arith) h
      ];
      came = λ r h. let k = c.came r h in let lt : k.0 < n = k.1 in (k.0, omega arith, k.2);
      counted = c.counted ∙ sym (count_by_more_no (λ (t : Bucket T). not (eqb t.mark 0)) source n s lt (ap (λ (t : Bucket T). not (eqb t.mark 0)) (sym is) ∙ ap not (eq-eqb s.mark 0 none)));
    }
      where
        same : (k : ℕ) (r : Bucket T) → k ≡ n → Holds source k r → r ≡ s
        same k r e h =
            let at : Holds source n r = subst (λ t. Holds source t r) e h in
            let a = slice_get-get_or source n s lt in
            let b = at.is in
            cc (a, b, is)

    -- an entry is copied
    module _ (filled : s.mark ≢ 0) (apart : AreApart source) where
      here_held : Holds source n s
      here_held = holds_read source n s lt is filled

      pub copied_absent : (r : Bucket T) → Has target r → r.item ≢ s.item
      copied_absent r h same =
          let k = c.came r h in
          let e : k.0 ≡ n = apart k.0 n r s k.2 here_held same in
          let near : k.0 < n = k.1 in
          omega arith

      pub copied_next : (new : List (Bucket T)) → Adds target new (entry s.mark s.item) → count new ≡ count target + 1 → IsCopied source new (n + 1)
      copied_next new adds more = record {
        kept = λ k r near h. elim (cases_eq k n) [
          | inl e ↦ subst (Has new) (sym (holds_one source n r s (subst (λ t. Holds source t r) e h) here_held)) adds.here
          | inr ne ↦ adds.kept r (c.kept k r (omega arith) h)
        ];
        came = λ r h. elim (adds.from r h) [
          | inl e ↦ (n, omega arith, subst (Holds source n) (sym e) here_held)
          | inr old ↦ let k = c.came r old in let near : k.0 < n = k.1 in (k.0, omega arith, k.2)
        ];
        counted =
            let yes = count_by_more_yes (λ (t : Bucket T). not (eqb t.mark 0)) source n s lt (ap (λ (t : Bucket T). not (eqb t.mark 0)) (sym is) ∙ ap not (ne_eqb s.mark 0 filled)) in
            let before : count target ≡ count (take n source) = c.counted in
            omega (arith, yes, more, before);
      }

  -- one more empty bucket
  pub vacant_more : (buckets : List (Bucket T)) (s : Bucket T) → ((k : ℕ) → IsEmptyAt (marks_of buckets) k) → s.mark ≡ 0 → (k : ℕ) → IsEmptyAt (marks_of (buckets ++ s ∷ [])) k
  vacant_more [] s vacant none zero = none
  vacant_more [] s vacant none (suc k) = refl
  vacant_more (r ∷ buckets) s vacant none zero = vacant 0
  vacant_more (r ∷ buckets) s vacant none (suc k) = vacant_more buckets s (λ j. vacant (suc j)) none k
