-- Seats by their places.
use Rattle.std.proofs.Common.{◌≡◌, ◌≢◌, ℕ, zero, suc, ◌+◌, ◌<◌, ◌≤◌, cond, Bool, false, List, [], ◌∷◌, Option, None, Some, MatchOption, length, get_or, set, refl, sym, ap, ◌∙◌, subst, arith}
use Rattle.std.specs.Prelude.{slice_get, count_by, sum_by}
use Rattle.std.proofs.lemmas.List.{set-get_or, set-set}
use Rattle.std.proofs.lemmas.List.Sums.{sum_by-set, get_or-le-sum_by}
use Rattle.std.proofs.lemmas.Option.{slice_get_within, slice_get_past, slice_get-get_or, get_or_from_slice_get}
use Rattle.lru_clock.specs.Seats.{Seat, IsListed, listed_as}
use Rattle.lru_clock.specs.SeatChanges.{UnlistsAt}

module _ {X : Type 0} where
  pub got_same : (xs : List X) (k : ℕ) (x : X) → k < length xs → slice_get (set xs k x) k ≡ Some x
  got_same [] k x lt = absurd (omega arith)
  got_same (y ∷ xs) zero x lt = refl
  got_same (y ∷ xs) (suc k) x lt = got_same xs k x (omega arith)

  pub got_other : (xs : List X) (k j : ℕ) (x : X) → j ≢ k → slice_get (set xs k x) j ≡ slice_get xs j
  got_other [] k j x ne = refl
  got_other (y ∷ xs) zero zero x ne = absurd (ne refl)
  got_other (y ∷ xs) zero (suc j) x ne = refl
  got_other (y ∷ xs) (suc k) zero x ne = refl
  got_other (y ∷ xs) (suc k) (suc j) x ne = got_other xs k j x (λ e. ne (ap suc e))

  pub got_one : (xs : List X) (k : ℕ) (x y : X) → slice_get xs k ≡ Some x → slice_get xs k ≡ Some y → x ≡ y
  got_one xs k x y a b = cc (a, b)

module _ {K : Type 0} where
  -- how many the index has, after a change at one place
  pub count_set : (seats : List (Seat K)) (p : ℕ) (s t : Seat K) (b c : Bool) → slice_get seats p ≡ Some s → s.is_listed ≡ b → t.is_listed ≡ c
      → count_by (λ (u : Seat K). u.is_listed) (set seats p t) + cond b 1 0 ≡ count_by (λ (u : Seat K). u.is_listed) seats + cond c 1 0
  count_set seats p s t b c is before after =
      let f : Seat K → ℕ = λ u. cond u.is_listed 1 0 in
      let was : b ≡ (get_or seats p s).is_listed = sym before ∙ ap (λ (u : Seat K). u.is_listed) (sym (get_or_from_slice_get seats p s s is)) in
      let change = sum_by-set f seats p t s (slice_get_within seats p s is) in
      ap (λ d. count_by (λ (u : Seat K). u.is_listed) (set seats p t) + cond d 1 0) was ∙ change ∙ ap (λ d. count_by (λ (u : Seat K). u.is_listed) seats + cond d 1 0) after

  -- an entry at another place is as it was
  pub listed_other : (seats : List (Seat K)) (p q tag : ℕ) (t : Seat K) (k : K) → q ≢ p → IsListed (set seats p t) q tag k → IsListed seats q tag k
  listed_other seats p q tag t k ne h = record {
    seat = h.seat;
    is = sym (got_other seats p q t ne) ∙ h.is;
    listed = h.listed;
    tag = h.tag;
    key = h.key;
  }

-- the seat that was read is the one at its place
pub seat_read : {X : Type 0} (xs : List X) (k : ℕ) (x : X) → k < length xs → x ≡ get_or xs k x → slice_get xs k ≡ Some x
seat_read xs k x lt is = slice_get-get_or xs k x lt ∙ ap Some (sym is)

pub set_again : {X : Type 0} (xs : List X) (k : ℕ) (x : X) → slice_get xs k ≡ Some x → set xs k x ≡ xs
set_again xs k x is = ap (set xs k) (sym (get_or_from_slice_get xs k x x is)) ∙ set-get_or xs k x

module _ {K : Type 0} where
  abbrev pub charges : List (Seat K) → ℕ
  charges seats = sum_by (λ (s : Seat K). s.charge) seats

  -- the sum after a change at one place
  pub sum_set : (seats : List (Seat K)) (p : ℕ) (s t : Seat K) → slice_get seats p ≡ Some s → charges (set seats p t) + s.charge ≡ charges seats + t.charge
  sum_set seats p s t is =
      let change = sum_by-set (λ (u : Seat K). u.charge) seats p t s (slice_get_within seats p s is) in
      let was : (get_or seats p s).charge ≡ s.charge = ap (λ (u : Seat K). u.charge) (get_or_from_slice_get seats p s s is) in
      omega (arith, change, was)

  pub sum_kept : (seats : List (Seat K)) (p : ℕ) (s t : Seat K) → slice_get seats p ≡ Some s → t.charge ≡ s.charge → charges (set seats p t) ≡ charges seats
  sum_kept seats p s t is same = omega (arith, sum_set seats p s t is, same)

  pub part_of_sum : (seats : List (Seat K)) (p : ℕ) (s : Seat K) → slice_get seats p ≡ Some s → s.charge ≤ charges seats
  part_of_sum seats p s is =
      let part = get_or-le-sum_by (λ (u : Seat K). u.charge) seats p s (slice_get_within seats p s is) in
      let was : (get_or seats p s).charge ≡ s.charge = ap (λ (u : Seat K). u.charge) (get_or_from_slice_get seats p s s is) in
      omega (arith, part, was)

  -- what an unlisting does, where the index has the entry, where it has not, and where there is no
  -- seat
  pub unlists : (old new : List (Seat K)) (p : ℕ) (s : Seat K) → slice_get old p ≡ Some s → new ≡ set old p (listed_as false s) → UnlistsAt old p new
  unlists old new p s is e = subst (λ o. MatchOption o (new ≡ old) (λ u. new ≡ set old p (listed_as false u))) (sym is) e

  pub unlists_nothing : (old : List (Seat K)) (p : ℕ) (s : Seat K) → slice_get old p ≡ Some s → s.is_listed ≡ false → UnlistsAt old p old
  unlists_nothing old p s is not = unlists old old p s is (sym (ap (λ b. set old p (listed_as b s)) (sym not) ∙ set_again old p s is))

  pub unlists_nowhere : (old : List (Seat K)) (p : ℕ) → length old ≤ p → UnlistsAt old p old
  unlists_nowhere old p past = subst (λ o. MatchOption o (old ≡ old) (λ u. old ≡ set old p (listed_as false u))) (sym (slice_get_past old p past)) refl

  -- a seat after an unlisting, by what its place had before
  module _ (old new : List (Seat K)) (p : ℕ) (s : Seat K) (at : slice_get new p ≡ Some s) where
    unlisted_by : (o : Option (Seat K)) → slice_get old p ≡ o → MatchOption o (new ≡ old) (λ u. new ≡ set old p (listed_as false u)) → s.is_listed ≡ false
    unlisted_by None is same = absurd (none_is_some (sym is ∙ ap (λ l. slice_get l p) (sym same) ∙ at))
      where
        none_is_some : None ≡ Some s → ⊥
        none_is_some e = cc e
    unlisted_by (Some u) is same =
        let lt : p < length old = slice_get_within old p u is in
        let here : slice_get new p ≡ Some (listed_as false u) = ap (λ l. slice_get l p) same ∙ got_same old p (listed_as false u) lt in
        ap (λ (v : Seat K). v.is_listed) (got_one new p s (listed_as false u) at here)

    pub unlisted : UnlistsAt old p new → s.is_listed ≡ false
    unlisted h = unlisted_by (slice_get old p) refl h

  module _ (old new : List (Seat K)) (p : ℕ) (t : Seat K) where
    set_by : (o : Option (Seat K)) → MatchOption o (new ≡ old) (λ u. new ≡ set old p (listed_as false u)) → set new p t ≡ set old p t
    set_by None same = ap (λ l. set l p t) same
    set_by (Some u) same = ap (λ l. set l p t) same ∙ set-set old p (listed_as false u) t

    pub set_after : UnlistsAt old p new → set new p t ≡ set old p t
    set_after h = set_by (slice_get old p) h
