-- An index without entries, one more seat, and the words that are copied into a wider index.
use Rattle.std.proofs.Common.{◌≡◌, ℕ, zero, suc, ◌+◌, ◌<◌, ◌≤◌, cond, Bool, true, false, List, [], ◌∷◌, ◌++◌, Some, map, length, take, replicate, refl, sym, ap, ◌∙◌, subst, arith, inl, inr, ◌⊎◌}
use Rattle.std.specs.Prelude.{slice_get, count_by}
use Rattle.std.proofs.lemmas.Bool.{cases_eq}
use Rattle.std.proofs.lemmas.List.{length-append, length-replicate, take_all}
use Rattle.std.proofs.lemmas.List.Sums.{sum_by_more, sum_by_push, sum_by-take-le, count_by-le-length}
use Rattle.std.proofs.lemmas.Option.{slice_get_within, get_or_from_slice_get}
use Rattle.concurrent_lru.specs.Probing.Probes.{mark_at, HasEmpty, IsEmptyAt, IsReached, marks_of}
use Rattle.concurrent_lru.specs.Probing.Entries.{Has, entry, count, AreApart}
use Rattle.concurrent_lru.proofs.Probing.Contents.Copies.{none_held, none_counted}
use Rattle.lru_clock.specs.Index.{IsSize, word_of, LacksWord, PutsIn}
use Rattle.lru_clock.specs.Seats.{Seat, IsListed, IsIndex}
use Rattle.lru_clock.proofs.Words.Cells.{marks_cells, has_cell, has_empty}
use Rattle.lru_clock.proofs.Words.Homes.{same_place}
use Rattle.lru_clock.proofs.Seating.Places.{got_one}

-- yes is not no
not_both : (b : Bool) → b ≡ true → b ≡ false → ⊥
not_both b is isnt = cc (is, isnt)

pub zero_at : (n k : ℕ) → mark_at (replicate n 0) k ≡ 0
zero_at zero k = refl
zero_at (suc n) zero = refl
zero_at (suc n) (suc k) = zero_at n k

module _ (n : ℕ) where
  blank_cells : (k : ℕ) → IsEmptyAt (marks_of (map (λ w. entry w w) (replicate n 0))) k
  blank_cells k = subst (λ ms. IsEmptyAt ms k) (sym (marks_cells (replicate n 0))) (zero_at n k)

  pub blank_has : (r : _) → Has (map (λ w. entry w w) (replicate n 0)) r → ⊥
  blank_has r h = none_held (map (λ w. entry w w) (replicate n 0)) blank_cells h.0 r h.1

  pub blank_reached : IsReached (replicate n 0)
  blank_reached k m full in_m near = absurd (full (zero_at n k))

  pub blank_apart : AreApart (map (λ w. entry w w) (replicate n 0))
  blank_apart k l r s h i same = absurd (blank_has r (k, h))

  pub blank_count : count (map (λ w. entry w w) (replicate n 0)) ≡ 0
  blank_count = none_counted (map (λ w. entry w w) (replicate n 0)) blank_cells

module _ {K : Type 0} where
  abbrev pub is_listed : Seat K → Bool
  is_listed s = s.is_listed

  -- the words of the seats before a number have been copied
  pub record IsCopied (seats : List (Seat K)) (words : List ℕ) (n : ℕ) : Type 0 where
    pub reached : IsReached words
    pub apart : AreApart (map (λ w. entry w w) words)
    pub leads : (p : ℕ) (s : Seat K) → p < n → slice_get seats p ≡ Some s → s.is_listed ≡ true → Has (map (λ w. entry w w) words) (entry (word_of s.tag p) (word_of s.tag p))
    pub from : (r : _) → Has (map (λ w. entry w w) words) r → (p : ℕ) × (s : Seat K) × (p < n) × (slice_get seats p ≡ Some s) × (s.is_listed ≡ true) × (r.item ≡ word_of s.tag p)
    pub counted : count (map (λ w. entry w w) words) ≡ count_by (λ (s : Seat K). s.is_listed) (take n seats)

  pub copied_none : (seats : List (Seat K)) (words : List ℕ) → words ≡ replicate (length words) 0 → IsCopied seats words 0
  copied_none seats words zeros =
      subst (λ ws. IsCopied seats ws 0) (sym zeros)
      (record {
        reached = blank_reached (length words);
        apart = blank_apart (length words);
        leads = λ p s lt is listed. absurd (omega arith);
        from = λ r h. absurd (blank_has (length words) r h);
        counted = blank_count (length words);
      })

  -- fewer words are filled than there are
  pub copied_empty : (seats : List (Seat K)) (words : List ℕ) (n : ℕ) → IsCopied seats words n → length seats < length words → HasEmpty words
  copied_empty seats words n c room =
      let few = sum_by-take-le (λ (s : Seat K). cond s.is_listed 1 0) seats n in
      let all = count_by-le-length (λ (s : Seat K). s.is_listed) seats in
      has_empty words (omega (arith, c.counted, few, all, room))

  module _ (seats : List (Seat K)) (words : List ℕ) (n : ℕ) (s : Seat K) (c : IsCopied seats words n) (is : slice_get seats n ≡ Some s) where
    more : count_by (λ (u : Seat K). u.is_listed) (take (n + 1) seats) ≡ count_by (λ (u : Seat K). u.is_listed) (take n seats) + cond s.is_listed 1 0
    more =
        sum_by_more (λ (u : Seat K). cond u.is_listed 1 0) seats n s (slice_get_within seats n s is)
        ∙ ap (λ (u : Seat K). count_by (λ (u : Seat K). u.is_listed) (take n seats) + cond u.is_listed 1 0) (get_or_from_slice_get seats n s s is)

    pub copied_past : s.is_listed ≡ false → IsCopied seats words (n + 1)
    copied_past unlisted = record {
      reached = c.reached;
      apart = c.apart;
      leads = λ p u lt at listed. elim (cases_eq p n) [
        | inl e ↦ absurd (not_both u.is_listed listed (ap is_listed (got_one seats n u s (subst (λ j. slice_get seats j ≡ Some u) e at) is) ∙ unlisted))
        | inr ne ↦ c.leads p u (omega arith) at listed
      ];
      from = λ r h. let f = c.from r h in (f.0, f.1, omega (arith, f.2), f.3, f.4, f.5);
      counted = c.counted ∙ sym (more ∙ omega (arith, ap {B = ℕ} (λ b. cond b 1 0) unlisted));
    }

    module _ (tags : (p : ℕ) (u : Seat K) → slice_get seats p ≡ Some u → u.tag < 4294967296) (listed : s.is_listed ≡ true) where
      pub copied_lacks : LacksWord words (word_of s.tag n)
      copied_lacks k in_k at =
          let f = c.from (entry (word_of s.tag n) (word_of s.tag n)) (has_cell words (word_of s.tag n) (λ none. omega (arith, none)) (k, in_k, at)) in
          let same : n ≡ f.0 = same_place s.tag f.1.tag n f.0 (tags n s is) (tags f.0 f.1 f.3) f.5 in
          omega (arith, f.2, same)

      pub copied_next : (news : List ℕ) → PutsIn words news (word_of s.tag n) → IsCopied seats news (n + 1)
      copied_next news puts = record {
        reached = puts.reached;
        apart = puts.apart;
        leads = λ p u lt at on. elim (cases_eq p n) [
          | inl e ↦
              let u_is = got_one seats n u s (subst (λ j. slice_get seats j ≡ Some u) e at) is in
              subst (λ (w : ℕ). Has (map (λ w. entry w w) news) (entry w w)) (λ i. word_of ((sym u_is i).tag) (sym e i)) puts.adds.here
          | inr ne ↦ puts.adds.kept (entry (word_of u.tag p) (word_of u.tag p)) (c.leads p u (omega arith) at on)
        ];
        from = λ r h. elim (puts.adds.from r h) [
          | inl e ↦ (n, s, omega arith, is, listed, ap (λ x. x.item) e)
          | inr old ↦ let f = c.from r old in (f.0, f.1, omega (arith, f.2), f.3, f.4, f.5)
        ];
        counted = omega (arith, puts.counted, c.counted, more, ap {B = ℕ} (λ b. cond b 1 0) listed);
      }

  pub copied_all : (E : K → K → Bool) (seats : List (Seat K)) (olds words : List ℕ) (n : ℕ) → length seats ≤ n → IsIndex E seats olds → IsCopied seats words n → length seats < length words → IsSize (length words) → IsIndex E seats words
  copied_all E seats olds words n le ix c room size = record {
    reached = c.reached;
    apart = c.apart;
    tags = ix.tags;
    leads = λ p s is listed. c.leads p s (omega (arith, slice_get_within seats p s is)) is listed;
    from = λ r h. let f = c.from r h in (f.0, f.1, f.3, f.4, f.5);
    counted = c.counted ∙ ap (count_by (λ (s : Seat K). s.is_listed)) (take_all n seats le);
    room = room;
    size = size;
    one_each = ix.one_each;
  }

  -- no seats
  pub index_none : (E : K → K → Bool) (n : ℕ) → 0 < n → IsSize n → IsIndex E [] (replicate n 0)
  index_none E n some size = record {
    reached = blank_reached n;
    apart = blank_apart n;
    tags = λ p s is. absurd (omega (arith, slice_get_within [] p s is));
    leads = λ p s is listed. absurd (omega (arith, slice_get_within [] p s is));
    from = λ r h. absurd (blank_has n r h);
    counted = blank_count n;
    room = omega (arith, some, length-replicate {A = ℕ} n 0);
    size = subst IsSize (sym (length-replicate {A = ℕ} n 0)) size;
    one_each = λ p q t k l h i same. absurd (omega (arith, slice_get_within [] p h.seat h.is));
  }

  at_push : (xs : List (Seat K)) (t : Seat K) (q : ℕ) (u : Seat K) → slice_get (xs ++ t ∷ []) q ≡ Some u → (slice_get xs q ≡ Some u) ⊎ (t ≡ u)
  at_push [] t zero u e = inr (cc e)
  at_push [] t (suc q) u e = absurd (omega (arith, slice_get_within [] q u e))
  at_push (x ∷ xs) t zero u e = inl e
  at_push (x ∷ xs) t (suc q) u e = at_push xs t q u e

  got_longer : (xs ys : List (Seat K)) (q : ℕ) (u : Seat K) → slice_get xs q ≡ Some u → slice_get (xs ++ ys) q ≡ Some u
  got_longer [] ys q u e = absurd (omega (arith, slice_get_within [] q u e))
  got_longer (x ∷ xs) ys zero u e = e
  got_longer (x ∷ xs) ys (suc q) u e = got_longer xs ys q u e

  -- another seat, whose entry the index does not have
  module _ (E : K → K → Bool) (seats : List (Seat K)) (words : List ℕ) (t : Seat K) (ix : IsIndex E seats words) (blank : t.is_listed ≡ false) (tag : t.tag < 4294967296) where
    was : (q : ℕ) (u : Seat K) → slice_get (seats ++ t ∷ []) q ≡ Some u → u.is_listed ≡ true → slice_get seats q ≡ Some u
    was q u at listed = elim (at_push seats t q u at) [
      | inl old ↦ old
      | inr e ↦ absurd (not_both u.is_listed listed (ap is_listed (sym e) ∙ blank))
    ]

    listed_before : (q tg : ℕ) (k : K) → IsListed (seats ++ t ∷ []) q tg k → IsListed seats q tg k
    listed_before q tg k h = record { seat = h.seat; is = was q h.seat h.is h.listed; listed = h.listed; tag = h.tag; key = h.key }

    pub index_longer : length seats + 1 < length words → IsIndex E (seats ++ t ∷ []) words
    index_longer room = record {
      reached = ix.reached;
      apart = ix.apart;
      tags = λ q u at. elim (at_push seats t q u at) [
        | inl old ↦ ix.tags q u old
        | inr e ↦ subst (λ (v : Seat K). v.tag < 4294967296) e tag
      ];
      leads = λ q u at listed. ix.leads q u (was q u at listed) listed;
      from = λ r h. let f = ix.from r h in (f.0, f.1, got_longer seats (t ∷ []) f.0 f.1 f.2, f.3, f.4);
      counted =
          let push = sum_by_push (λ (s : Seat K). cond s.is_listed 1 0) seats t in
          omega (arith, ix.counted, push, ap {B = ℕ} (λ b. cond b 1 0) blank);
      room = omega (arith, room, length-append seats (t ∷ []));
      size = ix.size;
      one_each = λ a b tg k l h i same. ix.one_each a b tg k l (listed_before a tg k h) (listed_before b tg l i) same;
    }
