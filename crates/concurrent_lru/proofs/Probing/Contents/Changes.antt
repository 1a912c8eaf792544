-- The entries after one is put in, taken out or moved.
use Rattle.std.proofs.Common.{◌≡◌, ◌≢◌, ℕ, ◌+◌, ◌<◌, List, length, set, refl, sym, ap, ◌∙◌, subst, arith, inl, inr, ◌⊎◌}
use Rattle.std.proofs.lemmas.Bool.{cases_eq}
use Rattle.std.proofs.lemmas.List.{length-set}
use Rattle.concurrent_lru.specs.Probing.Probes.{marks_of, IsEmptyAt}
use Rattle.concurrent_lru.specs.Probing.Entries.{Holds, Has, AreApart, IsSame, Adds, Removes, count}
use Rattle.concurrent_lru.specs.declared.node_table.probes.Bucket.{Bucket}
use Rattle.concurrent_lru.proofs.Probing.Contents.Slots.{holds_filled, holds_one, holds_within, holds_set, holds_other, held_other, held_same, not_emptied, count_filled, count_emptied}

module _ {T : Type 0} where
  pub same_refl : (buckets : List (Bucket T)) → IsSame buckets buckets
  same_refl buckets = record { kept = λ s h. h; from = λ s h. h }

  pub same_trans : (a b c : List (Bucket T)) → IsSame a b → IsSame b c → IsSame a c
  same_trans a b c h k = record { kept = λ s x. k.kept s (h.kept s x); from = λ s x. h.from s (k.from s x) }

  pub removes_same : (a b c : List (Bucket T)) (item : T) → Removes a b item → IsSame b c → Removes a c item
  removes_same a b c item h k = record {
    gone = λ r x. h.gone r (k.from r x);
    kept = λ r x ne. k.kept r (h.kept r x ne);
    from = λ r x. h.from r (k.from r x);
  }

  module _ (buckets : List (Bucket T)) (k : ℕ) (s : Bucket T) (lt : k < length buckets) where
    -- an empty bucket is filled
    module _ (none : IsEmptyAt (marks_of buckets) k) (filled : s.mark ≢ 0) where
      not_there : (j : ℕ) (r : Bucket T) → Holds buckets j r → j ≢ k
      not_there j r h e = holds_filled buckets j r h (subst (IsEmptyAt (marks_of buckets)) (sym e) none)

      pub adds : Adds buckets (set buckets k s) s
      adds = record {
        here = (k, holds_set buckets k s lt filled);
        kept = λ r h. (h.0, holds_other buckets k h.0 s r (not_there h.0 r h.1) h.1);
        from = λ r h. elim (cases_eq h.0 k) [
          | inl e ↦ inl (held_same buckets k s r lt (subst (λ j. Holds (set buckets k s) j r) e h.1))
          | inr ne ↦ inr (h.0, held_other buckets k h.0 s r ne h.1)
        ];
      }

      module _ (apart : AreApart buckets) (absent : (r : Bucket T) → Has buckets r → r.item ≢ s.item) where
        -- an item that was there is not the one that is put in
        not_both : (j : ℕ) (r t : Bucket T) → j ≢ k → Holds (set buckets k s) j r → Holds (set buckets k s) k t → r.item ≢ t.item
        not_both j r t ne h i same =
            absent r (j, held_other buckets k j s r ne h) (same ∙ ap (λ (x : Bucket T). x.item) (held_same buckets k s t lt i))

        pub adds_apart : AreApart (set buckets k s)
        adds_apart j l r t h i same = elim (cases_eq j k) [
          | inl e ↦ elim (cases_eq l k) [
            | inl f ↦ e ∙ sym f
            | inr ne ↦ absurd (not_both l t r ne i (subst (λ x. Holds (set buckets k s) x r) e h) (sym same))
          ]
          | inr ne ↦ elim (cases_eq l k) [
            | inl f ↦ absurd (not_both j r t ne h (subst (λ x. Holds (set buckets k s) x t) f i) same)
            | inr other ↦ apart j l r t (held_other buckets k j s r ne h) (held_other buckets k l s t other i) same
          ]
        ]

    -- a filled bucket is emptied
    module _ (x : Bucket T) (here : Holds buckets k x) (none : s.mark ≡ 0) (apart : AreApart buckets) where
      left : (j : ℕ) (r : Bucket T) → Holds (set buckets k s) j r → j ≢ k
      left j r h e = not_emptied buckets k s r lt none (subst (λ t. Holds (set buckets k s) t r) e h)

      pub removes : Removes buckets (set buckets k s) x.item
      removes = record {
        gone = λ r h same. left h.0 r h.1 (apart h.0 k r x (held_other buckets k h.0 s r (left h.0 r h.1) h.1) here same);
        kept = λ r h ne. (h.0, holds_other buckets k h.0 s r (λ e. ne (ap (λ (t : Bucket T). t.item) (holds_one buckets k r x (subst (λ t. Holds buckets t r) e h.1) here))) h.1);
        from = λ r h. (h.0, held_other buckets k h.0 s r (left h.0 r h.1) h.1);
      }

      pub removes_apart : AreApart (set buckets k s)
      removes_apart j l r t h i same = apart j l r t (held_other buckets k j s r (left j r h) h) (held_other buckets k l s t (left l t i) i) same

  -- an entry is moved from one bucket into another, which was empty
  module _ (buckets : List (Bucket T)) (to from : ℕ) (s x : Bucket T) (lt : to < length buckets) (none : IsEmptyAt (marks_of buckets) to) (here : Holds buckets from s) (blank : x.mark ≡ 0) where
    abbrev filled : List (Bucket T)
    filled = set buckets to s

    abbrev moved : List (Bucket T)
    moved = set filled from x

    ends_apart : from ≢ to
    ends_apart e = holds_filled buckets from s here (subst (IsEmptyAt (marks_of buckets)) (sym e) none)

    in_filled : from < length filled
    in_filled = let long : length filled ≡ length buckets = length-set buckets to s in let w : from < length buckets = holds_within buckets from s here in omega arith

    not_left : (k : ℕ) (r : Bucket T) → Holds moved k r → k ≢ from
    not_left k r h e = not_emptied filled from x r in_filled blank (subst (λ t. Holds moved t r) e h)

    -- where what is held now was before
    before : (k : ℕ) (r : Bucket T) → Holds moved k r → (j : ℕ) × Holds buckets j r × ((k ≡ to) × (j ≡ from) ⊎ (j ≡ k))
    before k r h = elim (cases_eq k to) [
      | inl e ↦ (from, subst (λ t. Holds buckets from t) (sym (held_same buckets to s r lt (subst (λ t. Holds filled t r) e (held_other filled from k x r (not_left k r h) h)))) here, inl (e, refl))
      | inr ne ↦ (k, held_other buckets to k s r ne (held_other filled from k x r (not_left k r h) h), inr refl)
    ]

    after : (k : ℕ) (r : Bucket T) → Holds buckets k r → Has moved r
    after k r h = elim (cases_eq k from) [
      | inl e ↦ (to, subst (λ t. Holds moved to t) (holds_one buckets from s r here (subst (λ t. Holds buckets t r) e h)) (holds_other filled from to x s (λ is. ends_apart (sym is)) (holds_set buckets to s lt here.filled)))
      | inr ne ↦ (k, holds_other filled from k x r ne (holds_other buckets to k s r (λ e. holds_filled buckets k r h (subst (IsEmptyAt (marks_of buckets)) (sym e) none)) h))
    ]

    pub moves : IsSame buckets moved
    moves = record {
      kept = λ r h. after h.0 r h.1;
      from = λ r h. ((before h.0 r h.1).0, (before h.0 r h.1).1);
    }

    pub moves_apart : AreApart buckets → AreApart moved
    moves_apart apart k l r t h i same =
        let a = before k r h in
        let b = before l t i in
        let e : a.0 ≡ b.0 = apart a.0 b.0 r t a.1 b.1 same in
        elim a.2 [
          | inl p ↦ elim b.2 [
            | inl q ↦ p.0 ∙ sym q.0
            | inr q ↦ absurd (not_left l t i (sym q ∙ sym e ∙ p.1))
          ]
          | inr p ↦ elim b.2 [
            | inl q ↦ absurd (not_left k r h (sym p ∙ e ∙ q.1))
            | inr q ↦ sym p ∙ e ∙ q
          ]
        ]

    pub moves_count : count moved ≡ count buckets
    moves_count =
        let one : count filled ≡ count buckets + 1 = count_filled buckets to s lt none here.filled in
        let two : count moved + 1 ≡ count filled = count_emptied filled from x in_filled (holds_filled filled from s (holds_other buckets to from s s ends_apart here)) blank in
        omega arith
