-- What a change of the index does to the seats.
use Rattle.std.specs.Prelude.{◌≡◌, ◌≢◌, ℕ, ◌+◌, ◌-◌, ◌<◌, ◌^◌, ◌++◌, replicate, true, false, List, Option, None, Some, slice_get, sum_by, MatchOption}
use Rattle.std.proofs.Math.ListN.{set}
use Rattle.lru_clock.specs.Evictions.{charge_at}
use Rattle.lru_clock.specs.Seats.{Seat, seat, listed_as}

module _ {K : Type 0} where
  -- an entry of this charge may be put at a place: the place has a seat, the index has no entry
  -- there, and the sum of the charges stays within a `u64`
  pub record IsFree (seats : List (Seat K)) (p charge : ℕ) : Type 0 where
    pub seat : Seat K
    pub is : slice_get seats p ≡ Some seat
    pub unlisted : seat.is_listed ≡ false
    pub fits : sum_by (λ s. s.charge) seats - seat.charge + charge < 2 ^ 64

  -- the index has the entry of a place from now on
  abbrev pub ListsAt : List (Seat K) → ℕ → List (Seat K) → Type 0
  ListsAt old p new = (s : Seat K) × (slice_get old p ≡ Some s) × (s.is_listed ≡ false) × (new ≡ set old p (listed_as true s))

  -- the index does not have the entry of a place from now on, if there is such a place
  abbrev pub UnlistsAt : List (Seat K) → ℕ → List (Seat K) → Type 0
  UnlistsAt old p new = MatchOption (slice_get old p) (new ≡ old) (λ s. new ≡ set old p (listed_as false s))

  -- a place has a seat and no entry
  abbrev pub IsVacant : List (Seat K) → ℕ → Type 0
  IsVacant seats p = slice_get seats p ≡ Some (seat 0 0 None)

  -- vacant places were added, and nothing else changed
  abbrev pub AddsVacant : List (Seat K) → List (Seat K) → Type 0
  AddsVacant old new = (n : ℕ) × (new ≡ old ++ replicate n (seat 0 0 None))

  -- a vacant place was taken for an entry, perhaps one that was added for it; the index does not
  -- have the entry
  abbrev pub Reserves : List (Seat K) → ℕ → List (Seat K) → Type 0
  Reserves old p new =
      (wide : List (Seat K)) × AddsVacant old wide × IsVacant wide p
      × ((s : Seat K) × (s.is_listed ≡ false) × (new ≡ set wide p s))

  -- vacant places may have been added, and then the entry at some place left, if one did
  abbrev pub VacatesAny : {X : Type 0} → List (Seat K) → List (Seat K) → Option X → Type 0
  VacatesAny old new None = AddsVacant old new
  VacatesAny old new (Some leaver) = (wide : List (Seat K)) × AddsVacant old wide × ((p : ℕ) × (new ≡ set wide p (seat 0 0 None)))

  -- no charge changed
  pub record KeepsCharges (old new : List (Seat K)) : Type 0 where
    pub total : sum_by (λ s. s.charge) new ≡ sum_by (λ s. s.charge) old
    pub each : (p : ℕ) → charge_at new p ≡ charge_at old p

  -- an entry of this charge is at a place, and the total has grown by it
  pub record Charges (charge p : ℕ) (old new : List (Seat K)) : Type 0 where
    pub here : charge_at new p ≡ charge
    pub total : sum_by (λ s. s.charge) new ≡ sum_by (λ s. s.charge) old + charge

  -- a place has a seat, and the index does not have its entry
  abbrev pub IsUnlisted : List (Seat K) → ℕ → Type 0
  IsUnlisted seats p = (s : Seat K) × (slice_get seats p ≡ Some s) × (s.is_listed ≡ false)

  -- an entry that the index had left its place
  abbrev pub VacatesListed : List (Seat K) → List (Seat K) → Type 0
  VacatesListed old new = (p : ℕ) × (s : Seat K) × (slice_get old p ≡ Some s) × (s.is_listed ≡ true) × (new ≡ set old p (seat 0 0 None))

  -- the same, if an entry left, and otherwise no charge changed
  abbrev pub VacatesIfListed : {X : Type 0} → List (Seat K) → List (Seat K) → Option X → Type 0
  VacatesIfListed old new None = KeepsCharges old new
  VacatesIfListed old new (Some leaver) = VacatesListed old new

  -- the entry at a place is as it was, and the total is less by the charge of another that left
  pub record LeavesOther (p : ℕ) (old new : List (Seat K)) : Type 0 where
    pub here : charge_at new p ≡ charge_at old p
    pub place : ℕ
    pub other : place ≢ p
    pub total : sum_by (λ s. s.charge) new + charge_at old place ≡ sum_by (λ s. s.charge) old

  -- the same, if another entry left, and otherwise no charge changed
  abbrev pub LeavesAnyOther : {X : Type 0} → ℕ → List (Seat K) → List (Seat K) → Option X → Type 0
  LeavesAnyOther p old new None = KeepsCharges old new
  LeavesAnyOther p old new (Some leaver) = LeavesOther p old new

  -- an entry of this charge is at a place, and the total has grown by it, and is less by the charge
  -- of another entry that left
  pub record ChargesForOther (charge p : ℕ) (old new : List (Seat K)) : Type 0 where
    pub here : charge_at new p ≡ charge
    pub place : ℕ
    pub total : sum_by (λ s. s.charge) new + charge_at old place ≡ sum_by (λ s. s.charge) old + charge

  -- the same, if another entry left, and otherwise the total has grown by the whole charge
  abbrev pub ChargesOver : {X : Type 0} → ℕ → ℕ → List (Seat K) → List (Seat K) → Option X → Type 0
  ChargesOver charge p old new None = Charges charge p old new
  ChargesOver charge p old new (Some leaver) = ChargesForOther charge p old new
