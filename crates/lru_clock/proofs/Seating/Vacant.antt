-- Seats to which vacant ones were added.
use Rattle.std.proofs.Common.{◌≡◌, ℕ, ◌+◌, ◌++◌, ◌∷◌, [], Bool, true, false, List, Option, None, Some, MatchOption, set, refl, sym, ap, subst, ◌∙◌, append_assoc, append-nil}
use Rattle.std.specs.Prelude.{replicate, IfNone}
use Rattle.std.proofs.lemmas.List.{set-set, replicate-append-replicate}
use Rattle.lru_clock.specs.Evictions.{MakesRoom, Vacates}
use Rattle.lru_clock.specs.Orders.{OrderOf}
use Rattle.lru_clock.specs.SeatChanges.{AddsVacant, Reserves, VacatesAny, VacatesListed}
use Rattle.lru_clock.specs.Seats.{Seat, seat}
use Rattle.lru_clock.specs.declared.order.Looked.{Looked}
use Rattle.lru_clock.proofs.FirstBits.{same_widened}
use Rattle.lru_clock.proofs.Seating.Places.{set_again}

module _ {K : Type 0} where
  pub none_added : (seats : List (Seat K)) → AddsVacant seats seats
  none_added seats = (0, sym (append-nil seats))

  pub one_added : (seats : List (Seat K)) → AddsVacant seats (seats ++ seat 0 0 None ∷ [])
  one_added seats = (1, refl)

  pub both_added : (old mid new : List (Seat K)) → AddsVacant old mid → AddsVacant mid new → AddsVacant old new
  both_added old mid new (m, a) (n, b) =
      (m + n, b ∙ ap (λ l. l ++ replicate n (seat 0 0 None)) a ∙ append_assoc old (replicate m (seat 0 0 None)) (replicate n (seat 0 0 None)) ∙ ap (λ l. old ++ l) (replicate-append-replicate m n (seat 0 0 None)))

  -- the place was given back
  pub cancelled : (old new : List (Seat K)) (p : ℕ) → Reserves old p new → AddsVacant old (set new p (seat 0 0 None))
  cancelled old new p (wide, added, vacant, (s, unlisted, is)) =
      subst (AddsVacant old) (sym (ap (λ l. set l p (seat 0 0 None)) is ∙ set-set wide p s (seat 0 0 None) ∙ set_again wide p (seat 0 0 None) vacant)) added

  -- the place was given back, and meanwhile no seat changed unless an entry left
  pub cancelled_after : {X : Type 0} (old counted given : List (Seat K)) (p : ℕ) (left : Option X) → Reserves old p counted → MatchOption left (given ≡ counted) (λ _. VacatesListed counted given) → IfNone left (AddsVacant old (set given p (seat 0 0 None)))
  cancelled_after old counted given p None reserves same = subst (AddsVacant old) (sym (ap (λ l. set l p (seat 0 0 None)) same)) (cancelled old counted p reserves)
  cancelled_after old counted given p (Some leaver) reserves same = tt

  -- room was made once there was a vacant place
  module _ {X : Type 0} (old wide new : List (Seat K)) (added : AddsVacant old wide) where
    vacated_by : (place : Option ℕ) (leaver : Option X) → Vacates place wide new leaver → VacatesAny old new leaver
    vacated_by None None is = subst (AddsVacant old) (sym is) added
    vacated_by None (Some leaver) is = absurd is
    vacated_by (Some p) None is = absurd is
    vacated_by (Some p) (Some leaver) is = (wide, added, (p, is))

    pub made_way : (b : Bool) (order new_order : OrderOf) (looks new_looks : List Looked) (leaver : Option X) → MakesRoom b wide new order new_order looks new_looks leaver → VacatesAny old new leaver
    made_way true order new_order looks new_looks leaver runs = vacated_by runs.place leaver runs.vacates
    made_way false order new_order looks new_looks leaver (is, ordered, looked, none) = subst (VacatesAny old new) (sym none) (subst (AddsVacant old) (sym is) added)

-- neither the order nor the seats got room
pub ruleset nothing_added = (same_widened, none_added)
