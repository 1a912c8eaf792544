-- A search for a key along the words of its tag.
use Rattle.std.proofs.Common.{◌≡◌, ◌≢◌, ℕ, ◌+◌, ◌-◌, ◌/◌, ◌%◌, ◌<◌, ◌≤◌, Bool, true, List, Some, length, sym, ap, ◌∙◌, subst, arith, inl, inr}
use Rattle.std.specs.Prelude.{slice_get}
use Rattle.std.proofs.lemmas.Bool.{cases_lt}
use Rattle.std.proofs.lemmas.List.Sums.{count_by-le-length}
use Rattle.std.proofs.lemmas.Option.{slice_get_within}
use native.Mathlib.Nat.{pow-le-pow_right}
use Rattle.concurrent_lru.specs.Probing.Cycle.{next_of, steps, home_of}
use Rattle.concurrent_lru.specs.Probing.Probes.{mark_at, Ends, HasEmpty, IsEmptyAt, IsFilledAt}
use Rattle.concurrent_lru.specs.Probing.Entries.{entry}
use Rattle.concurrent_lru.proofs.Probing.Circle.{home_within}
use Rattle.lru_clock.specs.Index.{IsSize, word_of}
use Rattle.lru_clock.specs.Seats.{Seat, LacksKey, HasKeyAt, IsIndex}
use Rattle.lru_clock.specs.Searches.{SeatHas, SeatLacks}
use Rattle.lru_clock.proofs.Words.Cells.{cell_holds, cell_word, has_empty}
use Rattle.lru_clock.proofs.Words.Walks.{Walk, walk_on, before_next, shorter}
use Rattle.lru_clock.proofs.Words.Homes.{home_is, size_pos, same_place}
use Rattle.lru_clock.proofs.Seating.Places.{got_one}

pub size_most : (n : ℕ) → IsSize n → n ≤ 4294967296
size_most n size = subst (λ t. t ≤ 4294967296) (sym size.2) (pow-le-pow_right (omega arith) size.1)

module _ {K : Type 0} (E : K → K → Bool) (seats : List (Seat K)) (ws : List ℕ) (ix : IsIndex E seats ws) where
  pub index_empty : HasEmpty ws
  index_empty = has_empty ws (omega (arith, ix.counted, count_by-le-length (λ (s : Seat K). s.is_listed) seats, ix.room))

  -- a word has room for the place of a seat
  pub place_fits : (place : ℕ) → place < length seats → place < 4294967295
  place_fits place lt = omega (arith, lt, ix.room, size_most (length ws) ix.size)

  -- the seat that a word leads to
  pub record Leads (word : ℕ) : Type 0 where
    pub place : ℕ
    pub seat : Seat K
    pub is : slice_get seats place ≡ Some seat
    pub listed : seat.is_listed ≡ true
    pub tag : seat.tag < 4294967296
    pub word_is : word ≡ word_of seat.tag place

  leads_to : (at : ℕ) → at < length ws → IsFilledAt ws at → Leads (mark_at ws at)
  leads_to at lt full =
      let f = ix.from (entry (mark_at ws at) (mark_at ws at)) (at, cell_holds ws at lt full) in
      record { place = f.0; seat = f.1; is = f.2; listed = f.3; tag = ix.tags f.0 f.1 f.2; word_is = f.4 }

  module _ (size : IsSize (length ws)) (tag : ℕ) (key : K) (at : ℕ) (walk : Walk ws (home_of (length ws) tag) at) where
    abbrev home : ℕ
    home = home_of (length ws) tag

    in_home : home < length ws
    in_home = home_within (length ws) tag (size_pos (length ws) size)

    -- the seats that were passed have other keys
    abbrev Others : ℕ → Type 0
    Others to = (m p : ℕ) → m < length ws → steps (length ws) home m < steps (length ws) home to → mark_at ws m ≡ word_of tag p → SeatLacks E seats p key

    pub ends_with : IsEmptyAt ws at → Others at → LacksKey E seats tag key × ((p : ℕ) → Ends ws (word_of tag p) at)
    ends_with none others = (
      λ p l h.
          let is : word_of h.seat.tag p ≡ word_of tag p = ap (λ t. word_of t p) h.tag in
          let has = cell_word ws (word_of h.seat.tag p) (ix.leads p h.seat h.is h.listed) in
          let mark : mark_at ws has.0 ≡ word_of tag p = has.2 ∙ is in
          let from : home_of (length ws) (mark_at ws has.0) ≡ home = ap (home_of (length ws)) mark ∙ home_is (length ws) tag p size in
          let full : IsFilledAt ws has.0 = λ e. omega (arith, mark, e) in
          elim (cases_lt (steps (length ws) home has.0) (steps (length ws) home at)) [
            | inl lt ↦ others has.0 p has.1 lt mark h.seat l h.is h.key
            | inr le ↦ absurd (ix.reached has.0 at full walk.within (subst (λ t. steps (length ws) t at ≤ steps (length ws) t has.0) (sym from) le) none)
          ],
      λ p. record {
        within = walk.within;
        is_empty = none;
        before = λ m in_m near. walk.passed m in_m (subst (λ t. steps (length ws) t m < steps (length ws) t at) (home_is (length ws) tag p size) near);
      },
    )

    pub found : (word past place : ℕ) → word ≡ mark_at ws at → word ≢ 0 → word % 4294967296 ≡ tag → past ≡ word / 4294967296 → place ≡ (past + 4294967295) % 4294967296
        → SeatHas E seats place key → HasKeyAt E seats tag key place
    found word past place is full low high to has =
        let l = leads_to at walk.within (λ none. full (is ∙ none)) in
        let word_is : word ≡ word_of l.seat.tag l.place = is ∙ l.word_is in
        let most : length ws ≤ 4294967296 = size_most (length ws) size in
        let in_seats : l.place < length seats = slice_get_within seats l.place l.seat l.is in
        let room = ix.room in
        let tag_is : l.seat.tag ≡ tag = (let tags = l.tag in omega (arith, word_is, low, tags)) in
        let place_is : l.place ≡ place = (let tags = l.tag in omega (arith, word_is, high, to, tags, in_seats, room, most)) in
        let here : l.seat ≡ has.0 = got_one seats place l.seat has.0 (subst (λ j. slice_get seats j ≡ Some l.seat) place_is l.is) has.2 in
        (has.1, record { seat = l.seat; is = subst (λ j. slice_get seats j ≡ Some l.seat) place_is l.is; listed = l.listed; tag = tag_is; key = ap (λ (s : Seat K). s.key) here ∙ has.3 }, has.4)

    module _ (full : IsFilledAt ws at) (next : ℕ) (to : next ≡ next_of (length ws) at) where
      pub next_walk : Walk ws home next
      next_walk = subst (Walk ws home) (sym to) (walk_on ws home in_home index_empty at walk full)

      pub next_shorter : length ws - steps (length ws) home next < length ws - steps (length ws) home at
      next_shorter = subst (λ t. length ws - steps (length ws) home t < length ws - steps (length ws) home at) (sym to) (shorter ws home in_home index_empty at walk full)

      pub next_others : Others at → ((p : ℕ) → mark_at ws at ≡ word_of tag p → SeatLacks E seats p key) → Others next
      next_others others here m p in_m near is = elim (before_next ws home in_home index_empty at walk full m in_m (subst (λ t. steps (length ws) home m < steps (length ws) home t) to near)) [
        | inl e ↦ here p (ap (mark_at ws) (sym e) ∙ is)
        | inr lt ↦ others m p in_m lt is
      ]

    -- the seat that the word here leads to has another key
    pub lacks_here : (word past place p : ℕ) → word ≡ mark_at ws at → word ≢ 0 → tag < 4294967296 → past ≡ word / 4294967296 → place ≡ (past + 4294967295) % 4294967296
        → mark_at ws at ≡ word_of tag p → SeatLacks E seats place key → SeatLacks E seats p key
    lacks_here word past place p is full low high to mark lacks =
        let l = leads_to at walk.within (λ none. full (is ∙ none)) in
        let most : length ws ≤ 4294967296 = size_most (length ws) size in
        let in_seats : l.place < length seats = slice_get_within seats l.place l.seat l.is in
        let same : l.place ≡ p = same_place l.seat.tag tag l.place p l.tag low (sym l.word_is ∙ mark) in
        let room = ix.room in
        let place_is : place ≡ p = omega (arith, is, mark, high, to, low, in_seats, same, room, most) in
        subst (λ j. SeatLacks E seats j key) place_is lacks

    pub tag_here : (word p : ℕ) → word ≡ mark_at ws at → tag < 4294967296 → mark_at ws at ≡ word_of tag p → word % 4294967296 ≡ tag
    tag_here word p is low mark = omega (arith, is, mark, low)
