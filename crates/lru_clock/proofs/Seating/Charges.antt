-- The charges of the seats, after a change at one place.
use Rattle.std.proofs.Common.{◌≡◌, ℕ, zero, suc, ◌+◌, Bool, MatchBool, subst, List, [], ◌∷◌, Option, None, Some, true, false, set, refl, sym, ap, ◌∙◌, arith, inl, inr}
use Rattle.std.specs.Prelude.{slice_get}
use Rattle.std.proofs.lemmas.Bool.{cases_eq}
use Rattle.std.proofs.lemmas.Option.{slice_get_within}
use Rattle.lru_clock.specs.Evictions.{charge_at, charge_in}
use Rattle.lru_clock.specs.SeatChanges.{ListsAt, IsVacant, KeepsCharges, Charges}
use Rattle.lru_clock.specs.Seats.{Seat, seat, listed_as}
use Rattle.lru_clock.proofs.Seating.Places.{got_same, got_other, sum_set, sum_kept, charges}

-- a change at a place past the end is none
set_past : {X : Type 0} (xs : List X) (k : ℕ) (x : X) → slice_get xs k ≡ None → set xs k x ≡ xs
set_past [] k x none = refl
set_past (y ∷ xs) zero x none = absurd (cc none)
set_past (y ∷ xs) (suc k) x none = ap (λ l. y ∷ l) (set_past xs k x none)

module _ {K : Type 0} (seats : List (Seat K)) (p : ℕ) where
  -- an entry came to a vacant place
  pub charged : (t : Seat K) → IsVacant seats p → Charges t.charge p seats (set seats p t)
  charged t is = record {
    here = ap charge_in (got_same seats p t (slice_get_within seats p (seat 0 0 None) is));
    total = omega (arith, sum_set seats p (seat 0 0 None) t is);
  }

  -- its charge no longer counts
  vacated_by : (o : Option (Seat K)) → slice_get seats p ≡ o → charges (set seats p (seat 0 0 None)) + charge_in o ≡ charges seats
  vacated_by None is = omega (arith, ap charges (set_past seats p (seat 0 0 None) is))
  vacated_by (Some s) is = omega (arith, sum_set seats p s (seat 0 0 None) is)

  pub vacated : charges (set seats p (seat 0 0 None)) + charge_at seats p ≡ charges seats
  vacated = vacated_by (slice_get seats p) refl

  -- the index has the entry of a place from now on, or does not have it
  module _ (s : Seat K) (is : slice_get seats p ≡ Some s) (b : Bool) where
    same_charge : (q : ℕ) → charge_at (set seats p (listed_as b s)) q ≡ charge_at seats q
    same_charge q = elim (cases_eq q p) [
      | inl e ↦ ap (λ j. charge_at (set seats p (listed_as b s)) j) e
          ∙ ap charge_in (got_same seats p (listed_as b s) (slice_get_within seats p s is))
          ∙ sym (ap charge_in is) ∙ ap (charge_at seats) (sym e)
      | inr ne ↦ ap charge_in (got_other seats p q (listed_as b s) ne)
    ]

    pub listed : KeepsCharges seats (set seats p (listed_as b s))
    listed = record {
      total = sum_kept seats p s (listed_as b s) is refl;
      each = same_charge;
    }

-- the index has the entry of a place from now on, or nothing changed
pub keeps : {K : Type 0} (old new : List (Seat K)) (p : ℕ) (b : Bool) → MatchBool b (ListsAt old p new) (new ≡ old) → KeepsCharges old new
keeps old new p true (s, is, unlisted, same) = subst (KeepsCharges old) (sym same) (listed old p s is true)
keeps old new p false same = subst (KeepsCharges old) (sym same) (record { total = refl; each = λ q. refl })

-- room was made before, which changes no charge
pub after_room : {K : Type 0} (old roomy new : List (Seat K)) (charge p : ℕ) → charges roomy ≡ charges old → Charges charge p roomy new → Charges charge p old new
after_room old roomy new charge p same c = record { here = c.here; total = omega (arith, c.total, same) }

-- the entry could not be stored
pub given_back : {K : Type 0} (old new : List (Seat K)) (charge p : ℕ) → Charges charge p old new → charges (set new p (seat 0 0 None)) ≡ charges old
given_back old new charge p c = omega (arith, vacated new p, c.here, c.total)
