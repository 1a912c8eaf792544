-- One change of a seat, and of the words with it.
use Rattle.std.proofs.Common.{◌≡◌, ◌≢◌, ℕ, ◌<◌, Bool, true, false, List, Some, map, length, set, refl, sym, ap, ◌∙◌, subst, arith, inl, inr}
use Rattle.std.specs.Prelude.{slice_get}
use Rattle.std.specs.Cmp.{IsEquivalence}
use Rattle.std.proofs.lemmas.Bool.{cases_eq}
use Rattle.std.proofs.lemmas.List.{length-set}
use Rattle.std.proofs.lemmas.Option.{slice_get_within}
use Rattle.concurrent_lru.specs.Probing.Entries.{Has, entry}
use Rattle.lru_clock.specs.Index.{IsSize, word_of, LacksWord, TakesOut, PutsIn}
use Rattle.lru_clock.specs.Seats.{Seat, IsListed, LacksKey, IsIndex, listed_as}
use Rattle.lru_clock.proofs.Words.Cells.{has_cell}
use Rattle.lru_clock.proofs.Words.Homes.{same_place}
use Rattle.lru_clock.proofs.Seating.Places.{got_same, got_other, got_one, count_set, listed_other}

-- yes is not no
not_both : (b : Bool) → b ≡ true → b ≡ false → ⊥
not_both b is isnt = cc (is, isnt)

module _ {K : Type 0} (E : K → K → Bool) (seats : List (Seat K)) (words : List ℕ) (ix : IsIndex E seats words) (p : ℕ) (s : Seat K) (is : slice_get seats p ≡ Some s) where
  in_seats : p < length seats
  in_seats = slice_get_within seats p s is

  -- an unlisted seat becomes another unlisted seat
  module _ (t : Seat K) (unlisted : s.is_listed ≡ false) (blank : t.is_listed ≡ false) (tag : t.tag < 4294967296) where
    set_apart : (q : ℕ) (u : Seat K) → slice_get (set seats p t) q ≡ Some u → u.is_listed ≡ true → q ≢ p
    set_apart q u at listed e = not_both u.is_listed listed (ap (λ (v : Seat K). v.is_listed) (got_one (set seats p t) p u t (subst (λ j. slice_get (set seats p t) j ≡ Some u) e at) (got_same seats p t in_seats)) ∙ blank)

    pub index_kept : IsIndex E (set seats p t) words
    index_kept = record {
      reached = ix.reached;
      apart = ix.apart;
      tags = λ q u at. elim (cases_eq q p) [
        | inl e ↦ subst (λ (v : Seat K). v.tag < 4294967296) (sym (got_one (set seats p t) p u t (subst (λ j. slice_get (set seats p t) j ≡ Some u) e at) (got_same seats p t in_seats))) tag
        | inr ne ↦ ix.tags q u (sym (got_other seats p q t ne) ∙ at)
      ];
      leads = λ q u at listed. ix.leads q u (sym (got_other seats p q t (set_apart q u at listed)) ∙ at) listed;
      from = λ r h.
          let f = ix.from r h in
          (f.0, f.1, got_other seats p f.0 t (λ e. not_both f.1.is_listed f.3 (ap (λ (v : Seat K). v.is_listed) (got_one seats p f.1 s (subst (λ j. slice_get seats j ≡ Some f.1) e f.2) is) ∙ unlisted)) ∙ f.2, f.3, f.4);
      counted = omega (arith, ix.counted, count_set seats p s t false false is unlisted blank);
      room = omega (arith, ix.room, length-set seats p t);
      size = ix.size;
      one_each = λ a b tg k l h i same. ix.one_each a b tg k l
          (listed_other seats p a tg t k (set_apart a h.seat h.is h.listed) h)
          (listed_other seats p b tg t l (set_apart b i.seat i.is i.listed) i) same;
    }

  -- the index has it from now on
  module _ (eqv : IsEquivalence E) (key : K) (unlisted : s.is_listed ≡ false) (has : s.key ≡ Some key) (lacks : LacksKey E seats s.tag key)
      (news : List ℕ) (puts : PutsIn words news (word_of s.tag p)) where
    abbrev now : Seat K
    now = listed_as true s

    at_place : (q : ℕ) (u : Seat K) → slice_get (set seats p now) q ≡ Some u → q ≡ p → u ≡ now
    at_place q u at e = got_one (set seats p now) p u now (subst (λ j. slice_get (set seats p now) j ≡ Some u) e at) (got_same seats p now in_seats)

    not_there : (q : ℕ) (u : Seat K) → slice_get seats q ≡ Some u → u.is_listed ≡ true → q ≢ p
    not_there q u at listed e = not_both u.is_listed listed (ap (λ (v : Seat K). v.is_listed) (got_one seats p u s (subst (λ j. slice_get seats j ≡ Some u) e at) is) ∙ unlisted)

    -- the key of the entry that the index has now
    own_key : (tg : ℕ) (k : K) (h : IsListed (set seats p now) p tg k) → (s.tag ≡ tg) × (key ≡ k)
    own_key tg k h =
        let u = at_place p h.seat h.is refl in
        let here : Some key ≡ Some k = sym has ∙ ap (λ (v : Seat K). v.key) (sym u) ∙ h.key in
        (ap (λ (v : Seat K). v.tag) (sym u) ∙ h.tag, cc here)

    -- another entry has another key
    other_key : (q tg : ℕ) (k l : K) → q ≢ p → IsListed (set seats p now) p tg k → IsListed (set seats p now) q tg l → E l k ≡ false
    other_key q tg k l ne h i =
        let own = own_key tg k h in
        let old = listed_other seats p q tg now l ne i in
        subst (λ x. E l x ≡ false) own.1 (lacks q l (record { seat = old.seat; is = old.is; listed = old.listed; tag = old.tag ∙ sym own.0; key = old.key }))

    pub index_more : IsIndex E (set seats p now) news
    index_more = record {
      reached = puts.reached;
      apart = puts.apart;
      tags = λ q u at. elim (cases_eq q p) [
        | inl e ↦ subst (λ (v : Seat K). v.tag < 4294967296) (sym (at_place q u at e)) (ix.tags p s is)
        | inr ne ↦ ix.tags q u (sym (got_other seats p q now ne) ∙ at)
      ];
      leads = λ q u at listed. elim (cases_eq q p) [
        | inl e ↦ subst (λ (w : ℕ). Has (map (λ w. entry w w) news) (entry w w)) (λ i. word_of ((sym (at_place q u at e) i).tag) (sym e i)) puts.adds.here
        | inr ne ↦ puts.adds.kept (entry (word_of u.tag q) (word_of u.tag q)) (ix.leads q u (sym (got_other seats p q now ne) ∙ at) listed)
      ];
      from = λ r h. elim (puts.adds.from r h) [
        | inl e ↦ (p, now, got_same seats p now in_seats, refl, ap (λ x. x.item) e)
        | inr old ↦ let f = ix.from r old in (f.0, f.1, got_other seats p f.0 now (not_there f.0 f.1 f.2 f.3) ∙ f.2, f.3, f.4)
      ];
      counted = omega (arith, ix.counted, puts.counted, count_set seats p s now false true is unlisted refl);
      room = omega (arith, ix.room, length-set seats p now, puts.long);
      size = subst IsSize (sym puts.long) ix.size;
      one_each = λ a b tg k l h i same. elim (cases_eq a p) [
        | inl e ↦ elim (cases_eq b p) [
          | inl f ↦ e ∙ sym f
          | inr ne ↦ absurd (not_both (E l k) (eqv.symm l k ∙ same) (other_key b tg k l ne (subst (λ j. IsListed (set seats p now) j tg k) e h) i))
        ]
        | inr na ↦ elim (cases_eq b p) [
          | inl f ↦ absurd (not_both (E k l) same (other_key a tg l k na (subst (λ j. IsListed (set seats p now) j tg l) f i) h))
          | inr ne ↦ ix.one_each a b tg k l (listed_other seats p a tg now k na h) (listed_other seats p b tg now l ne i) same
        ]
      ];
    }

  -- the index no longer has it
  module _ (listed : s.is_listed ≡ true) (news : List ℕ) (takes : TakesOut words news (word_of s.tag p)) where
    abbrev gone : Seat K
    gone = listed_as false s

    gone_apart : (q : ℕ) (u : Seat K) → slice_get (set seats p gone) q ≡ Some u → u.is_listed ≡ true → q ≢ p
    gone_apart q u at on e = not_both u.is_listed on (ap (λ (v : Seat K). v.is_listed) (got_one (set seats p gone) p u gone (subst (λ j. slice_get (set seats p gone) j ≡ Some u) e at) (got_same seats p gone in_seats)))

    pub index_less : IsIndex E (set seats p gone) news
    index_less = record {
      reached = takes.reached;
      apart = takes.apart;
      tags = λ q u at. elim (cases_eq q p) [
        | inl e ↦ subst (λ (v : Seat K). v.tag < 4294967296) (sym (got_one (set seats p gone) p u gone (subst (λ j. slice_get (set seats p gone) j ≡ Some u) e at) (got_same seats p gone in_seats))) (ix.tags p s is)
        | inr ne ↦ ix.tags q u (sym (got_other seats p q gone ne) ∙ at)
      ];
      leads = λ q u at on.
          let ne = gone_apart q u at on in
          let old = sym (got_other seats p q gone ne) ∙ at in
          takes.removes.kept (entry (word_of u.tag q) (word_of u.tag q)) (ix.leads q u old on) (λ e. ne (same_place u.tag s.tag q p (ix.tags q u old) (ix.tags p s is) e));
      from = λ r h.
          let f = ix.from r (takes.removes.from r h) in
          let ne : f.0 ≢ p = λ e. takes.removes.gone r h (f.4 ∙ (λ i. word_of ((got_one seats p f.1 s (subst (λ j. slice_get seats j ≡ Some f.1) e f.2) is i).tag) (e i))) in
          (f.0, f.1, got_other seats p f.0 gone ne ∙ f.2, f.3, f.4);
      counted = omega (arith, ix.counted, takes.counted, count_set seats p s gone true false is listed refl);
      room = omega (arith, ix.room, length-set seats p gone, takes.long);
      size = subst IsSize (sym takes.long) ix.size;
      one_each = λ a b tg k l h i same. ix.one_each a b tg k l
          (listed_other seats p a tg gone k (gone_apart a h.seat h.is h.listed) h)
          (listed_other seats p b tg gone l (gone_apart b i.seat i.is i.listed) i) same;
    }

  -- no word leads to a seat whose entry the index does not have
  pub lacks_word : s.is_listed ≡ false → LacksWord words (word_of s.tag p)
  lacks_word unlisted k in_k at =
      let f = ix.from (entry (word_of s.tag p) (word_of s.tag p)) (has_cell words (word_of s.tag p) (λ none. omega (arith, none)) (k, in_k, at)) in
      let same : p ≡ f.0 = same_place s.tag f.1.tag p f.0 (ix.tags p s is) (ix.tags f.0 f.1 f.2) f.4 in
      not_both f.1.is_listed f.3 (ap (λ (v : Seat K). v.is_listed) (got_one seats p f.1 s (subst (λ j. slice_get seats j ≡ Some f.1) (sym same) f.2) is) ∙ unlisted)
