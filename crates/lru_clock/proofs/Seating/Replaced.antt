-- The charges of the seats after an entry was stored, and perhaps another left.
use Rattle.std.proofs.Common.{◌≡◌, ◌≢◌, ℕ, zero, suc, ◌+◌, ◌-◌, ◌≤◌, ◌++◌, Bool, true, false, List, [], ◌∷◌, Option, None, Some, MatchOption, set, refl, sym, ap, ◌∙◌, subst, arith}
use Rattle.std.specs.Prelude.{replicate, slice_get, is_some, IfNone, IfSome}
use Rattle.std.proofs.lemmas.List.Sums.{sum_by-append, sum_by-cons}
use Rattle.std.proofs.lemmas.Option.{slice_get_within}
use Rattle.lru_clock.specs.Evictions.{charge_at, charge_in, IsWithin}
use Rattle.lru_clock.specs.SeatChanges.{AddsVacant, Charges, ChargesForOther, ChargesOver, IsUnlisted, KeepsCharges, LeavesAnyOther, LeavesOther, Reserves, UnlistsAt, VacatesAny, VacatesIfListed, VacatesListed}
use Rattle.lru_clock.specs.Seats.{Seat, seat, listed_as}
use Rattle.lru_clock.proofs.Seating.Charges.{after_room, listed as listed_kept, vacated}
use Rattle.lru_clock.proofs.Seating.Places.{charges, got_one, got_other, got_same}
use Rattle.lru_clock.proofs.Seating.Vacant.{both_added}

not_both : (b : Bool) → b ≡ true → b ≡ false → ⊥
not_both b is isnt = cc (is, isnt)

-- vacant places have no charge
blank_total : (K : Type 0) (n : ℕ) → charges {K = K} (replicate n (seat 0 0 None)) ≡ 0
blank_total K zero = refl
blank_total K (suc n) = omega (arith, sum_by-cons (λ (s : Seat K). s.charge) (seat 0 0 None) (replicate n (seat 0 0 None)), blank_total K n)

blank_at : (K : Type 0) (n q : ℕ) → charge_at {K = K} (replicate n (seat 0 0 None)) q ≡ 0
blank_at K zero q = refl
blank_at K (suc n) zero = refl
blank_at K (suc n) (suc q) = blank_at K n q

module _ {K : Type 0} where
  more_total : (old : List (Seat K)) (n : ℕ) → charges (old ++ replicate n (seat 0 0 None)) ≡ charges old
  more_total old n = omega (arith, sum_by-append (λ (s : Seat K). s.charge) old (replicate n (seat 0 0 None)), blank_total K n)

  more_at : (old : List (Seat K)) (n q : ℕ) → charge_at (old ++ replicate n (seat 0 0 None)) q ≡ charge_at old q
  more_at [] n q = blank_at K n q
  more_at (s ∷ old) n zero = refl
  more_at (s ∷ old) n (suc q) = more_at old n q

  added_total : (old new : List (Seat K)) → AddsVacant old new → charges new ≡ charges old
  added_total old new (n, is) = ap charges is ∙ more_total old n

  added_at : (old new : List (Seat K)) → AddsVacant old new → (q : ℕ) → charge_at new q ≡ charge_at old q
  added_at old new (n, is) q = ap (λ l. charge_at l q) is ∙ more_at old n q

  both_kept : (old mid new : List (Seat K)) → KeepsCharges old mid → KeepsCharges mid new → KeepsCharges old new
  both_kept old mid new a b = record { total = b.total ∙ a.total; each = λ p. b.each p ∙ a.each p }

  -- the total is within a strict limit once an entry left whose charge was at least the excess
  pub within_taken : (b : Bool) (capacity place : ℕ) (old new : List (Seat K)) → new ≡ set old place (seat 0 0 None) → charges old - capacity ≤ charge_at old place → IsWithin b capacity new
  within_taken false capacity place old new is enough = tt
  within_taken true capacity place old new is enough = omega (arith, ap charges is, vacated old place, enough)

  -- the place that was taken for an entry, and the others
  module _ (old counted : List (Seat K)) (p : ℕ) where
    taken_seat : Reserves old p counted → IsUnlisted counted p
    taken_seat (wide, added, vacant, (s, unlisted, is)) =
        (s, ap (λ l. slice_get l p) is ∙ got_same wide p s (slice_get_within wide p (seat 0 0 None) vacant), unlisted)

    taken_other : Reserves old p counted → (q : ℕ) → q ≢ p → charge_at counted q ≡ charge_at old q
    taken_other (wide, added, vacant, (s, unlisted, is)) q ne =
        ap (λ l. charge_at l q) is ∙ ap charge_in (got_other wide p q s ne) ∙ added_at old wide added q

  -- an entry that the index had is not at a place whose entry it does not have
  left_other : (old new : List (Seat K)) (p : ℕ) → IsUnlisted old p → VacatesListed old new → LeavesOther p old new
  left_other old new p (u, at, unlisted) (q, s, is, listed, same) =
      let other : q ≢ p = λ e. not_both s.is_listed listed (ap (λ (v : Seat K). v.is_listed) (got_one old q s u is (subst (λ j. slice_get old j ≡ Some u) (sym e) at)) ∙ unlisted) in
      record {
        here = ap (λ l. charge_at l p) same ∙ ap charge_in (got_other old q p (seat 0 0 None) (λ e. other (sym e)));
        place = q;
        other = other;
        total = ap (λ l. charges l + charge_at old q) same ∙ vacated old q;
      }

  other_kept : (p : ℕ) (old mid new : List (Seat K)) → LeavesOther p old mid → KeepsCharges mid new → LeavesOther p old new
  other_kept p old mid new h k = record {
    here = k.each p ∙ h.here;
    place = h.place;
    other = h.other;
    total = omega (arith, k.total, h.total);
  }

  -- the key's entry left, if it did, and then the index got the new one
  settled : {X : Type 0} (p : ℕ) (old mid new : List (Seat K)) (left : Option X) → IsUnlisted old p → VacatesIfListed old mid left → KeepsCharges mid new → LeavesAnyOther p old new left
  settled p old mid new None unlisted kept lists = both_kept old mid new kept lists
  settled p old mid new (Some leaver) unlisted vacates lists = other_kept p old mid new (left_other old mid p unlisted vacates) lists

  -- the key's entry left now, if it did, unless one had given way before
  pub settled_after : {X Y : Type 0} (p : ℕ) (old mid new : List (Seat K)) (gone : Option X) (left : Option Y) → IfNone gone (IsUnlisted old p)
      → MatchOption gone (VacatesIfListed old mid left) (λ _. (mid ≡ old) × (is_some left ≡ true)) → KeepsCharges mid new
      → MatchOption gone (LeavesAnyOther p old new left) (λ _. KeepsCharges old new × (is_some left ≡ true))
  settled_after p old mid new None left unlisted vacates lists = settled p old mid new left unlisted vacates lists
  settled_after p old mid new (Some g) left unlisted (same, is) lists = (subst (λ l. KeepsCharges l new) same lists, is)

  -- a new entry was counted at a place, and then another one left, if one did
  module _ (charge p : ℕ) (old counted : List (Seat K)) (counts : Charges charge p old counted) (reserves : Reserves old p counted) where
    charged_other : (new : List (Seat K)) → LeavesOther p counted new → ChargesForOther charge p old new
    charged_other new h = record {
      here = h.here ∙ counts.here;
      place = h.place;
      total = omega (arith, h.total, counts.total, taken_other old counted p reserves h.place h.other);
    }

    charged_any : {Y : Type 0} (new : List (Seat K)) (left : Option Y) → LeavesAnyOther p counted new left → ChargesOver charge p old new left
    charged_any new None kept = record { here = kept.each p ∙ counts.here; total = kept.total ∙ counts.total }
    charged_any new (Some leaver) h = charged_other new h

    pub replaced : {X Y : Type 0} (given new : List (Seat K)) (gone : Option X) (left : Option Y)
        → MatchOption gone (given ≡ counted) (λ _. VacatesListed counted given)
        → MatchOption gone (LeavesAnyOther p given new left) (λ _. KeepsCharges given new × (is_some left ≡ true))
        → ChargesOver charge p old new left
    replaced given new None left same leaves = charged_any new left (subst (λ l. LeavesAnyOther p l new left) same leaves)
    replaced given new (Some g) None vacates (kept, is) = absurd (cc is)
    replaced given new (Some g) (Some leaver) vacates (kept, is) =
        charged_other new (other_kept p counted given new (left_other counted given p (taken_seat old counted p reserves) vacates) kept)

    -- the index does not have the new entry yet
    pub still_unlisted : {X : Type 0} (given : List (Seat K)) (gone : Option X) → MatchOption gone (given ≡ counted) (λ _. VacatesListed counted given) → IfNone gone (IsUnlisted given p)
    still_unlisted given None same = subst (λ l. IsUnlisted l p) (sym same) (taken_seat old counted p reserves)
    still_unlisted given (Some g) vacates = tt

  -- way was made before
  module _ (charge p : ℕ) (old mid new : List (Seat K)) where
    over_room : {Y : Type 0} (left : Option Y) → AddsVacant old mid → ChargesOver charge p mid new left → ChargesOver charge p old new left
    over_room None added c = after_room old mid new charge p (added_total old mid added) c
    over_room (Some leaver) added c = record {
      here = c.here;
      place = c.place;
      total = omega (arith, c.total, added_total old mid added, added_at old mid added c.place);
    }

    over_left : {X : Type 0} (e : X) → VacatesAny old mid (Some e) → Charges charge p mid new → ChargesForOther charge p old new
    over_left e (wide, added, (q, is)) c = record {
      here = c.here;
      place = q;
      total = omega (arith, c.total, ap charges is, vacated wide q, added_total old wide added, added_at old wide added q);
    }

    pub over_way : {X Y : Type 0} (evicted : Option X) (left : Option Y) → VacatesAny old mid evicted
        → MatchOption evicted (ChargesOver charge p mid new left) (λ _. Charges charge p mid new)
        → IfSome evicted (λ _. is_some left ≡ true) → ChargesOver charge p old new left
    over_way None left added c is = over_room left added c
    over_way (Some e) None vacates c is = absurd (cc is)
    over_way (Some e) (Some leaver) vacates c is = over_left e vacates c

  -- a new entry that was refused changed nothing, unless another one left
  pub refused_over : {X Y : Type 0} (old mid new : List (Seat K)) (evicted : Option X) (left : Option Y) → VacatesAny old mid evicted
      → IfSome evicted (λ _. is_some left ≡ true) → IfNone left (AddsVacant mid new) → IfNone left (AddsVacant old new)
  refused_over old mid new evicted (Some leaver) made is same = tt
  refused_over old mid new None None added is same = both_added old mid new added same
  refused_over old mid new (Some e) None made is same = absurd (cc is)

  -- the index no longer had an entry, and then it left its place
  pub unlisted_charges : (old new : List (Seat K)) (p : ℕ) (s : Seat K) → slice_get old p ≡ Some s → UnlistsAt old p new → KeepsCharges old new
  unlisted_charges old new p s is unlists = subst (KeepsCharges old) (sym (same_by (slice_get old p) is unlists)) (listed_kept old p s is false)
    where
      same_by : (o : Option (Seat K)) → o ≡ Some s → MatchOption o (new ≡ old) (λ u. new ≡ set old p (listed_as false u)) → new ≡ set old p (listed_as false s)
      same_by None e h = absurd (cc e)
      same_by (Some u) e h = h ∙ ap (λ (v : Seat K). set old p (listed_as false v)) (some_is u e)
        where
          some_is : (u : Seat K) → Some u ≡ Some s → u ≡ s
          some_is u e = cc e
