-- Runs of looks, one look after the other.
use Rattle.std.proofs.Common.{◌≡◌, ◌≢◌, ℕ, suc, ◌*◌, Bool, true, false, cond, List, [], ◌∷◌, ◌++◌, Option, Some, None, refl, sym, ap, subst, ◌∙◌, append_assoc, append-nil}
use Rattle.std.specs.Prelude.{◌&&◌}
use Rattle.std.proofs.lemmas.Bool.{eq-eqb}
use Rattle.lru_clock.specs.Seats.{Seat}
use Rattle.lru_clock.specs.Orders.{OrderOf, is_due, second, swept, skips, hand_moved}
use Rattle.lru_clock.specs.Looks.{looked, is_cost}
use Rattle.lru_clock.specs.Evictions.{Run, Goes, Runs, Vacates, none_left, one_left, next_look, and_then, passed, places_of, tried, try_at, by_second, reached, by_hand, evict}
use Rattle.lru_clock.specs.declared.order.Cost.{Cost}
use Rattle.lru_clock.specs.declared.order.Cost.TheVariants.{OneChance, AllChances}
use Rattle.lru_clock.specs.declared.order.Look.{Look}
use Rattle.lru_clock.specs.declared.order.Look.TheVariants.{Pinned, Used, Unused}
use Rattle.lru_clock.specs.declared.order.Looked.{Looked}
use Rattle.lru_clock.specs.declared.order.Second.{Second}

-- after the looks that made a list longer, what is left of a run is another run
pub record Leads (all rest : Goes) (old o : OrderOf) (looks new_looks : List Looked) : Type 0 where
  pub made : List Looked
  pub listed : new_looks ≡ looks ++ made
  pub ran : (more : List Looked) → all old (made ++ more) ≡ rest o more

pub leads_none : (all : Goes) (o : OrderOf) (looks : List Looked) → Leads all all o o looks looks
leads_none all o looks = record { made = []; listed = sym (append-nil looks); ran = λ more. refl }

-- it goes on without a look, and with one
pub leads_on : (all rest next : Goes) (old o p : OrderOf) (was now : List Looked) → Leads all rest old o was now → ((more : List Looked) → rest o more ≡ next p more) → Leads all next old p was now
leads_on all rest next old o p was now had step = record { made = had.made; listed = had.listed; ran = λ more. had.ran more ∙ step more }

-- two lists of looks that were made one after the other
both_listed : (was now later one two : List Looked) → now ≡ was ++ one → later ≡ now ++ two → later ≡ was ++ (one ++ two)
both_listed was now later one two first then = then ∙ ap (λ l. l ++ two) first ∙ append_assoc was one two

pub leads_at : (all rest next : Goes) (old o p : OrderOf) (was now later : List Looked) (look : Looked) → Leads all rest old o was now → later ≡ now ++ look ∷ []
    → ((more : List Looked) → rest o (look ∷ more) ≡ next p more) → Leads all next old p was later
leads_at all rest next old o p was now later look had is step = record {
  made = had.made ++ look ∷ [];
  listed = both_listed was now later had.made (look ∷ []) had.listed is;
  ran = λ more. ap (all old) (append_assoc had.made (look ∷ []) more) ∙ had.ran (look ∷ more) ∙ step more;
}

-- the look that a run asks for next
costs : (c : Cost) → is_cost c c ≡ true
costs OneChance = refl
costs AllChances = refl

pub next_is : (p : ℕ) (cost : Cost) (go : Look → List Looked → Option Run) (found : Look) (looks : List Looked) → next_look p cost go (looked p cost found ∷ looks) ≡ go found looks
next_is p cost go found looks =
    ap (λ b. cond (b && is_cost cost cost) (go found looks) None) (eq-eqb p p refl) ∙ ap (λ b. cond b (go found looks) None) (costs cost)

module _ {K : Type 0} where
  -- it ended: no entry left
  pub leads_nowhere : {X : Type 0} (all : Goes) (old o : OrderOf) (was now : List Looked) (seats new_seats : List (Seat K)) → Leads all none_left old o was now → new_seats ≡ seats → Runs {K = K} {X = X} all seats new_seats old o was now None
  leads_nowhere all old o was now seats new_seats had same = record { made = had.made; place = None; listed = had.listed; ran = had.ran; vacates = same }

  -- or the entry at a place left, after a look
  pub leads_out : {X : Type 0} (all rest : Goes) (old o p : OrderOf) (was now later : List Looked) (look : Looked) (place : ℕ) (seats new_seats : List (Seat K)) (leaver : X) → Leads all rest old o was now
      → later ≡ now ++ look ∷ [] → ((more : List Looked) → rest o (look ∷ more) ≡ one_left place p more) → Vacates (Some place) seats new_seats (Some leaver) → Runs all seats new_seats old p was later (Some leaver)
  leads_out all rest old o p was now later look place seats new_seats leaver had is ends gone = record {
    made = had.made ++ look ∷ [];
    place = Some place;
    listed = both_listed was now later had.made (look ∷ []) had.listed is;
    ran = λ more. ap (all old) (append_assoc had.made (look ∷ []) more) ∙ had.ran (look ∷ more) ∙ ends more;
    vacates = gone;
  }

  -- one step of the second hand
  pub second_rests : (seats : List (Seat K)) (n : ℕ) (o : OrderOf) (looks : List Looked) → is_due o ≡ false → by_second seats (suc n) o looks ≡ none_left o looks
  second_rests seats n o looks due = ap (λ b. cond b (try_at seats (second o) (swept o) looks (by_second seats n)) (none_left o looks)) due

  pub second_steps : (seats : List (Seat K)) (n : ℕ) (o : OrderOf) (looks : List Looked) (at : Second) → is_due o ≡ true → second o ≡ at → by_second seats (suc n) o looks ≡ try_at seats at (swept o) looks (by_second seats n)
  second_steps seats n o looks at due is =
      ap (λ b. cond b (try_at seats (second o) (swept o) looks (by_second seats n)) (none_left o looks)) due ∙ ap (λ s. try_at seats s (swept o) looks (by_second seats n)) is

  pub tried_stays : (seats : List (Seat K)) (p : ℕ) (o : OrderOf) (found : Look) (looks : List Looked) (go : Goes) → found ≢ Unused → tried seats p o go found looks ≡ go (passed seats p o) looks
  tried_stays seats p o Pinned looks go stays = refl
  tried_stays seats p o Used looks go stays = refl
  tried_stays seats p o Unused looks go stays = absurd (stays refl)

  -- one step of the hand
  pub hand_skips : (seats : List (Seat K)) (is_main : Bool) (n : ℕ) (o : OrderOf) (looks : List Looked) → skips is_main o ≡ true
      → by_hand seats is_main (suc n) o looks ≡ by_hand seats is_main n (hand_moved (places_of seats) o) looks
  hand_skips seats is_main n o looks is =
      ap (λ b. cond b (by_hand seats is_main n (hand_moved (places_of seats) o) looks) (next_look o.hand OneChance (reached seats o.hand (hand_moved (places_of seats) o) (by_hand seats is_main n)) looks)) is

  pub hand_looks : (seats : List (Seat K)) (is_main : Bool) (n : ℕ) (o : OrderOf) (looks : List Looked) → skips is_main o ≡ false
      → by_hand seats is_main (suc n) o looks ≡ next_look o.hand OneChance (reached seats o.hand (hand_moved (places_of seats) o) (by_hand seats is_main n)) looks
  hand_looks seats is_main n o looks is =
      ap (λ b. cond b (by_hand seats is_main n (hand_moved (places_of seats) o) looks) (next_look o.hand OneChance (reached seats o.hand (hand_moved (places_of seats) o) (by_hand seats is_main n)) looks)) is

  pub reached_stays : (seats : List (Seat K)) (p : ℕ) (o : OrderOf) (found : Look) (looks : List Looked) (go : Goes) → found ≢ Unused → reached seats p o go found looks ≡ go o looks
  reached_stays seats p o Pinned looks go stays = refl
  reached_stays seats p o Used looks go stays = refl
  reached_stays seats p o Unused looks go stays = absurd (stays refl)

  -- the three runs of an eviction: the first one evicts
  first_of : {X : Type 0} (seats seats1 : List (Seat K)) (o o1 : OrderOf) (looks looks1 made : List Looked) (leaver : X) (place : Option ℕ) → looks1 ≡ looks ++ made
      → ((more : List Looked) → by_second seats (2 * places_of seats) o (made ++ more) ≡ Some (record { order = o1; looks = more; place = place }))
      → Vacates place seats seats1 (Some leaver) → Runs (evict seats) seats seats1 o o1 looks looks1 (Some leaver)
  first_of seats seats1 o o1 looks looks1 made leaver None listed ran gone = absurd gone
  first_of seats seats1 o o1 looks looks1 made leaver (Some p) listed ran gone = record {
    made = made;
    place = Some p;
    listed = listed;
    ran = λ more. ap (λ r. and_then (and_then r (by_hand seats true (4 * places_of seats))) (by_hand seats false (4 * places_of seats))) (ran more);
    vacates = gone;
  }

  pub first_leaves : {X : Type 0} (seats seats1 : List (Seat K)) (o o1 : OrderOf) (looks looks1 : List Looked) (leaver : X)
      → Runs (by_second seats (2 * places_of seats)) seats seats1 o o1 looks looks1 (Some leaver) → Runs (evict seats) seats seats1 o o1 looks looks1 (Some leaver)
  first_leaves seats seats1 o o1 looks looks1 leaver run = first_of seats seats1 o o1 looks looks1 run.made leaver run.place run.listed run.ran run.vacates

  -- a run in which no entry left
  stayed : (X : Type 0) (place : Option ℕ) (seats new_seats : List (Seat K)) → Vacates {K = K} {X = X} place seats new_seats None → (place ≡ None) × (new_seats ≡ seats)
  stayed X None seats new_seats same = (refl, same)
  stayed X (Some p) seats new_seats gone = absurd gone

  pub runs_none : {X : Type 0} (run : Goes) (seats new_seats : List (Seat K)) (o p : OrderOf) (was now : List Looked) → Runs {K = K} {X = X} run seats new_seats o p was now None → Leads run none_left o p was now × (new_seats ≡ seats)
  runs_none {X} run seats new_seats o p was now ran =
      let stays = stayed X ran.place seats new_seats ran.vacates in
      (record { made = ran.made; listed = ran.listed; ran = λ more. ran.ran more ∙ ap (λ q. Some (record { order = p; looks = more; place = q })) stays.0 }, stays.1)

  -- the second one does
  second_of : {X : Type 0} (seats seats2 : List (Seat K)) (o o1 o2 : OrderOf) (looks looks1 looks2 : List Looked) (leaver : X) → Leads (by_second seats (2 * places_of seats)) none_left o o1 looks looks1 → (made : List Looked) (place : Option ℕ)
      → looks2 ≡ looks1 ++ made → ((more : List Looked) → by_hand seats true (4 * places_of seats) o1 (made ++ more) ≡ Some (record { order = o2; looks = more; place = place }))
      → Vacates place seats seats2 (Some leaver) → Runs (evict seats) seats seats2 o o2 looks looks2 (Some leaver)
  second_of seats seats2 o o1 o2 looks looks1 looks2 leaver had made None listed ran gone = absurd gone
  second_of seats seats2 o o1 o2 looks looks1 looks2 leaver had made (Some p) listed ran gone = record {
    made = had.made ++ made;
    place = Some p;
    listed = both_listed looks looks1 looks2 had.made made had.listed listed;
    ran = λ more. ap (evict seats o) (append_assoc had.made made more)
        ∙ ap (λ r. and_then (and_then r (by_hand seats true (4 * places_of seats))) (by_hand seats false (4 * places_of seats))) (had.ran (made ++ more))
        ∙ ap (λ r. and_then r (by_hand seats false (4 * places_of seats))) (ran more);
    vacates = gone;
  }

  pub second_leaves : {X : Type 0} (seats seats1 seats2 : List (Seat K)) (o o1 o2 : OrderOf) (looks looks1 looks2 : List Looked) (leaver : X)
      → Runs {K = K} {X = X} (by_second seats (2 * places_of seats)) seats seats1 o o1 looks looks1 None → Runs (by_hand seats1 true (4 * places_of seats1)) seats1 seats2 o1 o2 looks1 looks2 (Some leaver)
      → Runs (evict seats) seats seats2 o o2 looks looks2 (Some leaver)
  second_leaves {X} seats seats1 seats2 o o1 o2 looks looks1 looks2 leaver by_one by_two =
      let had = runs_none {X = X} (by_second seats (2 * places_of seats)) seats seats1 o o1 looks looks1 by_one in
      let run = subst (λ s. Runs (by_hand s true (4 * places_of s)) s seats2 o1 o2 looks1 looks2 (Some leaver)) had.1 by_two in
      second_of seats seats2 o o1 o2 looks looks1 looks2 leaver had.0 run.made run.place run.listed run.ran run.vacates

  -- the third one may
  pub third_ends : {X : Type 0} (seats seats1 seats2 seats3 : List (Seat K)) (o o1 o2 o3 : OrderOf) (looks looks1 looks2 looks3 : List Looked) (leaver : Option X)
      → Runs {K = K} {X = X} (by_second seats (2 * places_of seats)) seats seats1 o o1 looks looks1 None → Runs {K = K} {X = X} (by_hand seats1 true (4 * places_of seats1)) seats1 seats2 o1 o2 looks1 looks2 None
      → Runs (by_hand seats2 false (4 * places_of seats2)) seats2 seats3 o2 o3 looks2 looks3 leaver → Runs (evict seats) seats seats3 o o3 looks looks3 leaver
  third_ends {X} seats seats1 seats2 seats3 o o1 o2 o3 looks looks1 looks2 looks3 leaver by_one by_two by_three =
      let had = runs_none {X = X} (by_second seats (2 * places_of seats)) seats seats1 o o1 looks looks1 by_one in
      let main = runs_none {X = X} (by_hand seats true (4 * places_of seats)) seats seats2 o1 o2 looks1 looks2 (subst (λ s. Runs {K = K} {X = X} (by_hand s true (4 * places_of s)) s seats2 o1 o2 looks1 looks2 None) had.1 by_two) in
      let run = subst (λ s. Runs (by_hand s false (4 * places_of s)) s seats3 o2 o3 looks2 looks3 leaver) main.1 by_three in
      record {
        made = had.0.made ++ (main.0.made ++ run.made);
        place = run.place;
        listed = both_listed looks looks1 looks3 had.0.made (main.0.made ++ run.made) had.0.listed (both_listed looks1 looks2 looks3 main.0.made run.made main.0.listed run.listed);
        ran = λ more. ap (evict seats o) (append_assoc had.0.made (main.0.made ++ run.made) more)
            ∙ ap (λ r. and_then (and_then r (by_hand seats true (4 * places_of seats))) (by_hand seats false (4 * places_of seats))) (had.0.ran ((main.0.made ++ run.made) ++ more))
            ∙ ap (λ l. and_then (by_hand seats true (4 * places_of seats) o1 l) (by_hand seats false (4 * places_of seats))) (append_assoc main.0.made run.made more)
            ∙ ap (λ r. and_then r (by_hand seats false (4 * places_of seats))) (main.0.ran (run.made ++ more))
            ∙ run.ran more;
        vacates = run.vacates;
      }
