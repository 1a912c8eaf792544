-- What holds of each eviction, whatever its looks found.
use Rattle.std.proofs.Common.{◌≡◌, ℕ, zero, suc, ◌+◌, ◌*◌, ◌<◌, ◌≤◌, Bool, true, false, cond, ◌&&◌, List, [], ◌∷◌, ◌++◌, length, Option, Some, None, refl, sym, ap, ◌∙◌, subst, arith, append_assoc, inl, inr}
use Rattle.std.specs.Prelude.{◌==◌, nat_lt, ⊤}
use Rattle.std.proofs.lemmas.Bool.{and_parts, eqb-true, eq-eqb, ne_eqb, lt-ltb, le-ltb, ltb-true, cases_lt, cases_eq, cases_Bool, false≢true, cond_both}
use Rattle.std.proofs.lemmas.List.Sums.{sum_by-cons}
use Rattle.lru_clock.specs.Seats.{Seat}
use Rattle.lru_clock.specs.Orders.{OrderOf, is_due, second, swept, skips, hand_moved}
use Rattle.lru_clock.specs.Looks.{looked, is_at, is_cost, is_used, is_pinned, chances_taken, times_pinned}
use Rattle.lru_clock.specs.Evictions.{Run, Goes, none_left, next_look, and_then, and_then_from, passed, places_of, tried, try_at, by_second, reached, by_hand, evict, Stops, StopsAt, UsesAtMost}
use Rattle.lru_clock.specs.declared.order.Cost.{Cost}
use Rattle.lru_clock.specs.declared.order.Cost.TheVariants.{OneChance, AllChances}
use Rattle.lru_clock.specs.declared.order.Look.{Look}
use Rattle.lru_clock.specs.declared.order.Look.TheVariants.{Pinned, Used, Unused}
use Rattle.lru_clock.specs.declared.order.Looked.{Looked}
use Rattle.lru_clock.specs.declared.order.Second.{Second}
use Rattle.lru_clock.specs.declared.order.Second.TheVariants.{Nowhere, Young, Old}

-- a look that was made where and at the cost that it had to be
same_cost : (c d : Cost) → is_cost c d ≡ true → c ≡ d
same_cost OneChance OneChance is = refl
same_cost OneChance AllChances is = absurd (false≢true is)
same_cost AllChances OneChance is = absurd (false≢true is)
same_cost AllChances AllChances is = refl

look_is : (p : ℕ) (cost : Cost) (look : Looked) → is_at p cost look ≡ true → look ≡ looked p cost look.found
look_is p cost look is =
    let parts = and_parts (look.place == p) (is_cost look.cost cost) is in
    ap (λ q. looked q look.cost look.found) (eqb-true look.place p parts.0) ∙ ap (λ c. looked p c look.found) (same_cost look.cost cost parts.1)

-- one look more in front
stops_more : (x : Looked) (looks rest : List Looked) (place : Option ℕ) → StopsAt looks rest place → StopsAt (x ∷ looks) rest place
stops_more x looks rest None s = (x ∷ s.0, ap (λ l. x ∷ l) s.1)
stops_more x looks rest (Some p) s = (x ∷ s.0, s.1, ap (λ l. x ∷ l) s.2)

stops_with : (x : Looked) (looks : List Looked) (run : Option Run) → Stops looks run → Stops (x ∷ looks) run
stops_with x looks None s = s
stops_with x looks (Some run) s = stops_more x looks run.looks run.place s

-- some looks in front
stops_after : (before middle looks rest : List Looked) (place : Option ℕ) → looks ≡ before ++ middle → StopsAt middle rest place → StopsAt looks rest place
stops_after before middle looks rest None is s = (before ++ s.0, is ∙ ap (λ l. before ++ l) s.1 ∙ sym (append_assoc before s.0 rest))
stops_after before middle looks rest (Some p) is s = (before ++ s.0, s.1, is ∙ ap (λ l. before ++ l) s.2 ∙ sym (append_assoc before s.0 (looked p s.1 Unused ∷ rest)))

stops_behind : (before middle looks : List Looked) (run : Option Run) → looks ≡ before ++ middle → Stops middle run → Stops looks run
stops_behind before middle looks None is s = s
stops_behind before middle looks (Some run) is s = stops_after before middle looks run.looks run.place is s

stops_either : (b : Bool) (looks : List Looked) (x y : Option Run) → Stops looks x → Stops looks y → Stops looks (cond b x y)
stops_either true looks x y s t = s
stops_either false looks x y s t = t

stops_then_from : (place : Option ℕ) (o : OrderOf) (looks rest : List Looked) (go : Goes) → StopsAt looks rest place → ((p : OrderOf) (l : List Looked) → Stops l (go p l)) → Stops looks (and_then_from place o rest go)
stops_then_from None o looks rest go s goes = stops_behind s.0 rest looks (go o rest) s.1 (goes o rest)
stops_then_from (Some p) o looks rest go s goes = s

stops_then : (looks : List Looked) (run : Option Run) (go : Goes) → Stops looks run → ((p : OrderOf) (l : List Looked) → Stops l (go p l)) → Stops looks (and_then run go)
stops_then looks None go s goes = s
stops_then looks (Some run) go s goes = stops_then_from run.place run.order looks run.looks go s goes

stops_if : (b : Bool) (looks : List Looked) (run : Option Run) → (b ≡ true → Stops looks run) → Stops looks (cond b run None)
stops_if true looks run s = s refl
stops_if false looks run s = tt

stops_next : (p : ℕ) (cost : Cost) (looks : List Looked) (go : Look → List Looked → Option Run) → ((look : Looked) (l : List Looked) → look ≡ looked p cost look.found → Stops (look ∷ l) (go look.found l))
    → Stops looks (next_look p cost go looks)
stops_next p cost [] go s = tt
stops_next p cost (look ∷ looks) go s = stops_if (is_at p cost look) (look ∷ looks) (go look.found looks) (λ is. s look looks (look_is p cost look is))

module _ {K : Type 0} (seats : List (Seat K)) where
  stops_tried : (p : ℕ) (o : OrderOf) (look : Looked) (looks : List Looked) (go : Goes) → look ≡ looked p AllChances look.found → ((q : OrderOf) (l : List Looked) → Stops l (go q l))
      → (found : Look) → look.found ≡ found → Stops (look ∷ looks) (tried seats p o go found looks)
  stops_tried p o look looks go is goes Unused found = ([], AllChances, ap (λ x. x ∷ looks) (is ∙ ap (looked p AllChances) found))
  stops_tried p o look looks go is goes Used found = stops_with look looks (go (passed seats p o) looks) (goes (passed seats p o) looks)
  stops_tried p o look looks go is goes Pinned found = stops_with look looks (go (passed seats p o) looks) (goes (passed seats p o) looks)

  stops_try_at : (at : Second) (o : OrderOf) (looks : List Looked) (go : Goes) → ((q : OrderOf) (l : List Looked) → Stops l (go q l)) → Stops looks (try_at seats at o looks go)
  stops_try_at Nowhere o looks go goes = ([], refl)
  stops_try_at Young o looks go goes = goes o looks
  stops_try_at (Old p) o looks go goes = stops_next p AllChances looks (tried seats p o go) (λ look l is. stops_tried p o look l go is goes look.found refl)

  pub stops_second : (n : ℕ) (o : OrderOf) (looks : List Looked) → Stops looks (by_second seats n o looks)
  stops_second zero o looks = ([], refl)
  stops_second (suc n) o looks =
      stops_either (is_due o) looks (try_at seats (second o) (swept o) looks (by_second seats n)) (none_left o looks) (stops_try_at (second o) (swept o) looks (by_second seats n) (stops_second n)) ([], refl)

  stops_reached : (p : ℕ) (o : OrderOf) (look : Looked) (looks : List Looked) (go : Goes) → look ≡ looked p OneChance look.found → ((q : OrderOf) (l : List Looked) → Stops l (go q l))
      → (found : Look) → look.found ≡ found → Stops (look ∷ looks) (reached seats p o go found looks)
  stops_reached p o look looks go is goes Unused found = ([], OneChance, ap (λ x. x ∷ looks) (is ∙ ap (looked p OneChance) found))
  stops_reached p o look looks go is goes Used found = stops_with look looks (go o looks) (goes o looks)
  stops_reached p o look looks go is goes Pinned found = stops_with look looks (go o looks) (goes o looks)

  pub stops_hand : (is_main : Bool) (n : ℕ) (o : OrderOf) (looks : List Looked) → Stops looks (by_hand seats is_main n o looks)
  stops_hand is_main zero o looks = ([], refl)
  stops_hand is_main (suc n) o looks =
      let next = hand_moved (places_of seats) o in
      stops_either (skips is_main o) looks (by_hand seats is_main n next looks) (next_look o.hand OneChance (reached seats o.hand next (by_hand seats is_main n)) looks)
      (stops_hand is_main n next looks)
      (stops_next o.hand OneChance looks (reached seats o.hand next (by_hand seats is_main n)) (λ look l is. stops_reached o.hand next look l (by_hand seats is_main n) is (stops_hand is_main n) look.found refl))

  -- an entry leaves only after a look at its place that found it unused, which is the last one
  pub stops_evict : (o : OrderOf) (looks : List Looked) → Stops looks (evict seats o looks)
  stops_evict o looks =
      stops_then looks (and_then (by_second seats (2 * places_of seats) o looks) (by_hand seats true (4 * places_of seats))) (by_hand seats false (4 * places_of seats))
      (stops_then looks (by_second seats (2 * places_of seats) o looks) (by_hand seats true (4 * places_of seats)) (stops_second (2 * places_of seats) o looks) (stops_hand true (4 * places_of seats)))
      (stops_hand false (4 * places_of seats))

-- a run that used a look more
uses_with : (n : ℕ) (x : Looked) (looks : List Looked) (run : Option Run) → UsesAtMost n looks run → UsesAtMost (suc n) (x ∷ looks) run
uses_with n x looks None s = tt
uses_with n x looks (Some run) s = omega (arith, s)

uses_more : (n : ℕ) (looks : List Looked) (run : Option Run) → UsesAtMost n looks run → UsesAtMost (suc n) looks run
uses_more n looks None s = tt
uses_more n looks (Some run) s = omega (arith, s)

uses_either : (b : Bool) (n : ℕ) (looks : List Looked) (x y : Option Run) → UsesAtMost n looks x → UsesAtMost n looks y → UsesAtMost n looks (cond b x y)
uses_either true n looks x y s t = s
uses_either false n looks x y s t = t

uses_next : (n p : ℕ) (cost : Cost) (looks : List Looked) (go : Look → List Looked → Option Run) → ((look : Looked) (l : List Looked) → UsesAtMost n (look ∷ l) (go look.found l)) → UsesAtMost n looks (next_look p cost go looks)
uses_next n p cost [] go s = tt
uses_next n p cost (look ∷ looks) go s = uses_either (is_at p cost look) n (look ∷ looks) (go look.found looks) None (s look looks) tt

uses_behind : (m n : ℕ) (looks rest : List Looked) (run : Option Run) → length looks ≤ m + length rest → UsesAtMost n rest run → UsesAtMost (m + n) looks run
uses_behind m n looks rest None l s = tt
uses_behind m n looks rest (Some run) l s = omega (arith, l, s)

uses_then_from : (m n : ℕ) (place : Option ℕ) (o : OrderOf) (looks rest : List Looked) (go : Goes) → length looks ≤ m + length rest → ((p : OrderOf) (l : List Looked) → UsesAtMost n l (go p l)) → UsesAtMost (m + n) looks (and_then_from place o rest go)
uses_then_from m n None o looks rest go l goes = uses_behind m n looks rest (go o rest) l (goes o rest)
uses_then_from m n (Some p) o looks rest go l goes = omega (arith, l)

uses_then : (m n : ℕ) (looks : List Looked) (run : Option Run) (go : Goes) → UsesAtMost m looks run → ((p : OrderOf) (l : List Looked) → UsesAtMost n l (go p l)) → UsesAtMost (m + n) looks (and_then run go)
uses_then m n looks None go s goes = tt
uses_then m n looks (Some run) go s goes = uses_then_from m n run.place run.order looks run.looks go s goes

module _ {K : Type 0} (seats : List (Seat K)) where
  uses_tried : (n p : ℕ) (o : OrderOf) (look : Looked) (looks : List Looked) (go : Goes) → ((q : OrderOf) (l : List Looked) → UsesAtMost n l (go q l)) → (found : Look) → UsesAtMost (suc n) (look ∷ looks) (tried seats p o go found looks)
  uses_tried n p o look looks go goes Unused = omega arith
  uses_tried n p o look looks go goes Used = uses_with n look looks (go (passed seats p o) looks) (goes (passed seats p o) looks)
  uses_tried n p o look looks go goes Pinned = uses_with n look looks (go (passed seats p o) looks) (goes (passed seats p o) looks)

  uses_try_at : (n : ℕ) (at : Second) (o : OrderOf) (looks : List Looked) (go : Goes) → ((q : OrderOf) (l : List Looked) → UsesAtMost n l (go q l)) → UsesAtMost (suc n) looks (try_at seats at o looks go)
  uses_try_at n Nowhere o looks go goes = omega arith
  uses_try_at n Young o looks go goes = uses_more n looks (go o looks) (goes o looks)
  uses_try_at n (Old p) o looks go goes = uses_next (suc n) p AllChances looks (tried seats p o go) (λ look l. uses_tried n p o look l go goes look.found)

  uses_second : (n : ℕ) (o : OrderOf) (looks : List Looked) → UsesAtMost n looks (by_second seats n o looks)
  uses_second zero o looks = omega arith
  uses_second (suc n) o looks =
      uses_either (is_due o) (suc n) looks (try_at seats (second o) (swept o) looks (by_second seats n)) (none_left o looks) (uses_try_at n (second o) (swept o) looks (by_second seats n) (uses_second n)) (omega arith)

  uses_reached : (n p : ℕ) (o : OrderOf) (look : Looked) (looks : List Looked) (go : Goes) → ((q : OrderOf) (l : List Looked) → UsesAtMost n l (go q l)) → (found : Look) → UsesAtMost (suc n) (look ∷ looks) (reached seats p o go found looks)
  uses_reached n p o look looks go goes Unused = omega arith
  uses_reached n p o look looks go goes Used = uses_with n look looks (go o looks) (goes o looks)
  uses_reached n p o look looks go goes Pinned = uses_with n look looks (go o looks) (goes o looks)

  uses_hand : (is_main : Bool) (n : ℕ) (o : OrderOf) (looks : List Looked) → UsesAtMost n looks (by_hand seats is_main n o looks)
  uses_hand is_main zero o looks = omega arith
  uses_hand is_main (suc n) o looks =
      let next = hand_moved (places_of seats) o in
      uses_either (skips is_main o) (suc n) looks (by_hand seats is_main n next looks) (next_look o.hand OneChance (reached seats o.hand next (by_hand seats is_main n)) looks)
      (uses_more n looks (by_hand seats is_main n next looks) (uses_hand is_main n next looks))
      (uses_next (suc n) o.hand OneChance looks (reached seats o.hand next (by_hand seats is_main n)) (λ look l. uses_reached n o.hand next look l (by_hand seats is_main n) (uses_hand is_main n) look.found))

  -- no more than ten looks for each place
  pub uses_evict : (o : OrderOf) (looks : List Looked) → UsesAtMost (2 * places_of seats + 4 * places_of seats + 4 * places_of seats) looks (evict seats o looks)
  uses_evict o looks =
      let m = places_of seats in
      uses_then (2 * m + 4 * m) (4 * m) looks (and_then (by_second seats (2 * m) o looks) (by_hand seats true (4 * m))) (by_hand seats false (4 * m))
      (uses_then (2 * m) (4 * m) looks (by_second seats (2 * m) o looks) (by_hand seats true (4 * m)) (uses_second (2 * m) o looks) (uses_hand true (4 * m)))
      (uses_hand false (4 * m))

-- how many looks of the hand at a place found the entry used, or pinned
abbrev busy : ℕ → List Looked → ℕ
busy p looks = chances_taken p looks + times_pinned p looks

busy_more : (p : ℕ) (look : Looked) (looks : List Looked) → busy p (look ∷ looks) ≡ (cond (is_at p OneChance look && is_used look.found) 1 0 + cond (is_at p OneChance look && is_pinned look.found) 1 0) + busy p looks
busy_more p look looks =
    let taken = sum_by-cons (λ x. cond (is_at p OneChance x && is_used x.found) 1 0) look looks in
    let pinned = sum_by-cons (λ x. cond (is_at p OneChance x && is_pinned x.found) 1 0) look looks in
    omega (arith, taken, pinned)

busy_behind : (p : ℕ) (before rest looks : List Looked) → looks ≡ before ++ rest → busy p rest ≤ busy p looks
busy_behind p [] rest looks is = let same : busy p looks ≡ busy p rest = ap (busy p) is in omega (arith, same)
busy_behind p (look ∷ before) rest looks is =
    let same : busy p looks ≡ busy p (look ∷ (before ++ rest)) = ap (busy p) is in
    let more = busy_more p look (before ++ rest) in
    let behind = busy_behind p before rest (before ++ rest) refl in
    omega (arith, same, more, behind)

one_at_most : (b : Bool) → cond b 1 0 ≤ 1
one_at_most true = omega arith
one_at_most false = omega arith

-- such a look counts at its own place
counted : (b : Looked → Bool) (h p : ℕ) (look : Looked) → is_at h OneChance look ≡ true → b look ≡ true → cond (h == p) 1 0 ≤ cond (is_at p OneChance look && b look) 1 0
counted b h p look at is =
    elim (cases_eq h p) [
      | inl same ↦
          let one : ◌≡◌ {A = ℕ} (cond (is_at p OneChance look && b look) 1 0) 1 = ap (λ t. cond (t && b look) 1 0) (subst (λ q. is_at q OneChance look ≡ true) same at) ∙ ap (λ t. cond t 1 0) is in
          let most = one_at_most (h == p) in
          omega (arith, one, most)
      | inr apart ↦ let none : ◌≡◌ {A = ℕ} (cond (h == p) 1 0) 0 = ap (λ t. cond t 1 0) (ne_eqb h p apart) in omega (arith, none)
    ]

-- where the hand is after one step among `m` places, and how often it is at a place in `n` steps
abbrev after : ℕ → ℕ → ℕ
after m h = cond (nat_lt (h + 1) m) (h + 1) 0

abbrev visits : ℕ → ℕ → ℕ → ℕ → ℕ
visits m p zero h = 0
visits m p (suc n) h = cond (h == p) 1 0 + visits m p n (after m h)

abbrev rounds : ℕ → ℕ → ℕ
rounds m zero = 0
rounds m (suc r) = m + rounds m r

after_on : (m h : ℕ) → h + 1 < m → after m h ≡ h + 1
after_on m h l = ap (λ b. cond b (h + 1) 0) (lt-ltb (h + 1) m l)

after_back : (m h : ℕ) → m ≤ h + 1 → after m h ≡ 0
after_back m h l = ap (λ b. cond b (h + 1) 0) (le-ltb (h + 1) m l)

after_within : (m h : ℕ) → 0 < m → after m h < m
after_within m h some = cond_both (nat_lt (h + 1) m) (h + 1) 0 (λ k. k < m) (λ e. ltb-true (h + 1) m e) (λ e. some)

visits_apart : (m p n h r : ℕ) → h < m → p < m → (h ≡ p → ⊥) → (h ≤ p → p + rounds m r < suc n + h) → (p < h → p + m + rounds m r < suc n + h)
    → ((k : ℕ) → k < m → p < m → (k ≤ p → p + rounds m r < n + k) → (p < k → p + m + rounds m r < n + k) → r < visits m p n k) → r < visits m p n (after m h)
visits_apart m p n h r l within apart ahead behind again =
    elim (cases_lt (h + 1) m) [
      | inl on ↦ subst (λ k. r < visits m p n k) (sym (after_on m h on)) (again (h + 1) on within (λ a. let e = ahead (omega (arith, a)) in omega (arith, e)) (λ b. let e = behind (omega (arith, b, apart)) in omega (arith, e)))
      | inr back ↦ subst (λ k. r < visits m p n k) (sym (after_back m h back)) (again 0 (omega (arith, l)) within (λ a. let e = behind (omega (arith, l, within, back, apart)) in omega (arith, e, l, back)) (λ b. absurd (omega (arith, b))))
    ]

-- it comes once before the first round ends, and once more in each further round
visits_often : (m p n h r : ℕ) → h < m → p < m → (h ≤ p → p + rounds m r < n + h) → (p < h → p + m + rounds m r < n + h) → r < visits m p n h
visits_often m p zero h r l within ahead behind = elim (cases_lt p h) [ inl b ↦ absurd (let e = behind b in omega (arith, e, l)) | inr a ↦ absurd (let e = ahead a in omega (arith, e, a)) ]
visits_often m p (suc n) h zero l within ahead behind =
    elim (cases_eq h p) [
      | inl same ↦ let one : ◌≡◌ {A = ℕ} (cond (h == p) 1 0) 1 = ap (λ t. cond t 1 0) (eq-eqb h p same) in omega (arith, one)
      | inr apart ↦ let later = visits_apart m p n h zero l within apart ahead behind (λ k. visits_often m p n k zero) in omega (arith, later)
    ]
visits_often m p (suc n) h (suc r) l within ahead behind =
    elim (cases_eq h p) [
      | inl same ↦
          let one : ◌≡◌ {A = ℕ} (cond (h == p) 1 0) 1 = ap (λ t. cond t 1 0) (eq-eqb h p same) in
          let far : p + (m + rounds m r) < suc n + h = ahead (omega (arith, same)) in
          let later : r < visits m p n (after m h) = elim (cases_lt (h + 1) m) [
            | inl on ↦ subst (λ k. r < visits m p n k) (sym (after_on m h on)) (visits_often m p n (h + 1) r on within (λ a. absurd (omega (arith, same, a))) (λ b. omega (arith, far)))
            | inr back ↦ subst (λ k. r < visits m p n k) (sym (after_back m h back)) (visits_often m p n 0 r (omega (arith, l)) within (λ a. omega (arith, far, l, back)) (λ b. absurd (omega (arith, b))))
          ] in
          omega (arith, one, later)
      | inr apart ↦ let later = visits_apart m p n h (suc r) l within apart ahead behind (λ k. visits_often m p n k (suc r)) in omega (arith, later)
    ]

-- a run that ended without an entry that left
abbrev Missing : Option Run → Type 0
Missing None = ⊤
Missing (Some run) = ⊥

no_run : (run : Run) → None ≡ Some run → ⊥
no_run run is = subst Missing is tt

abbrev Nowhere_left : Option ℕ → Type 0
Nowhere_left None = ⊤
Nowhere_left (Some p) = ⊥

no_place : (p : ℕ) → Some p ≡ None → ⊥
no_place p is = subst Nowhere_left (sym is) tt

abbrev place_of : Option Run → Option ℕ
place_of None = None
place_of (Some run) = run.place

stayed_from : (place : Option ℕ) (o : OrderOf) (looks : List Looked) (go : Goes) (end : Run) → and_then_from place o looks go ≡ Some end → end.place ≡ None → (place ≡ None) × (go o looks ≡ Some end)
stayed_from None o looks go end is none = (refl, is)
stayed_from (Some p) o looks go end is none = absurd (no_place p (ap place_of is ∙ none))

record Stayed (run : Option Run) (go : Goes) (end : Run) : Type 0 where
  pub run_of : Run
  pub is : run ≡ Some run_of
  pub none : run_of.place ≡ None
  pub went : go run_of.order run_of.looks ≡ Some end

stayed : (run : Option Run) (go : Goes) (end : Run) → and_then run go ≡ Some end → end.place ≡ None → Stayed run go end
stayed None go end is none = absurd (no_run end is)
stayed (Some run) go end is none =
    let both = stayed_from run.place run.order run.looks go end is none in
    record { run_of = run; is = refl; none = both.0; went = both.1 }

module _ {K : Type 0} (seats : List (Seat K)) (p : ℕ) where
  busy_found : (n : ℕ) (o : OrderOf) (look : Looked) (looks : List Looked) (run : Run) → is_at o.hand OneChance look ≡ true → run.place ≡ None
      → (by_hand seats false n (hand_moved (places_of seats) o) looks ≡ Some run → visits (places_of seats) p n (after (places_of seats) o.hand) ≤ busy p looks)
      → (found : Look) → look.found ≡ found → reached seats o.hand (hand_moved (places_of seats) o) (by_hand seats false n) found looks ≡ Some run
      → cond (o.hand == p) 1 0 + visits (places_of seats) p n (after (places_of seats) o.hand) ≤ busy p (look ∷ looks)
  busy_found n o look looks run at none later Unused found is = absurd (no_place o.hand (ap place_of is ∙ none))
  busy_found n o look looks run at none later Used found is =
      let here = counted (λ x. is_used x.found) o.hand p look at (ap is_used found) in
      let rest = later is in
      let more = busy_more p look looks in
      omega (arith, here, rest, more)
  busy_found n o look looks run at none later Pinned found is =
      let here = counted (λ x. is_pinned x.found) o.hand p look at (ap is_pinned found) in
      let rest = later is in
      let more = busy_more p look looks in
      omega (arith, here, rest, more)

  -- in the last run nobody is skipped: each visit is a look
  hand_busy : (n : ℕ) (o : OrderOf) (looks : List Looked) (run : Run) → by_hand seats false n o looks ≡ Some run → run.place ≡ None → visits (places_of seats) p n o.hand ≤ busy p looks
  hand_busy zero o looks run is none = omega arith
  hand_busy (suc n) o [] run is none = absurd (no_run run is)
  hand_busy (suc n) o (look ∷ looks) run is none = elim (cases_Bool (is_at o.hand OneChance look)) [
    | inl at ↦
        let went : reached seats o.hand (hand_moved (places_of seats) o) (by_hand seats false n) look.found looks ≡ Some run =
        sym (ap (λ b. cond b (reached seats o.hand (hand_moved (places_of seats) o) (by_hand seats false n) look.found looks) None) at) ∙ is in
        busy_found n o look looks run at none (λ q. hand_busy n (hand_moved (places_of seats) o) looks run q none) look.found refl went
    | inr off ↦ absurd (no_run run (sym (ap (λ b. cond b (reached seats o.hand (hand_moved (places_of seats) o) (by_hand seats false n) look.found looks) None) off) ∙ is))
  ]

module _ {K : Type 0} (seats : List (Seat K)) where
  -- after a step the hand is at one of the places
  abbrev Within : Option Run → Type 0
  Within None = ⊤
  Within (Some run) = run.place ≡ None → run.order.hand < places_of seats

  within_either : (b : Bool) (x y : Option Run) → Within x → Within y → Within (cond b x y)
  within_either true x y s t = s
  within_either false x y s t = t

  within_next : (q : ℕ) (cost : Cost) (looks : List Looked) (go : Look → List Looked → Option Run) → ((found : Look) (l : List Looked) → Within (go found l)) → Within (next_look q cost go looks)
  within_next q cost [] go s = tt
  within_next q cost (look ∷ looks) go s = within_either (is_at q cost look) (go look.found looks) None (s look.found looks) tt

  within_reached : (q : ℕ) (o : OrderOf) (go : Goes) → ((l : List Looked) → Within (go o l)) → (found : Look) (looks : List Looked) → Within (reached seats q o go found looks)
  within_reached q o go goes Unused looks = λ none. absurd (no_place q none)
  within_reached q o go goes Used looks = goes looks
  within_reached q o go goes Pinned looks = goes looks

  within_hand : (is_main : Bool) (n : ℕ) (o : OrderOf) (looks : List Looked) → 0 < places_of seats → (n ≡ 0 → o.hand < places_of seats) → Within (by_hand seats is_main n o looks)
  within_hand is_main zero o looks some here = λ none. here refl
  within_hand is_main (suc n) o looks some here =
      let next = hand_moved (places_of seats) o in
      let moved : n ≡ 0 → next.hand < places_of seats = λ _. after_within (places_of seats) o.hand some in
      within_either (skips is_main o) (by_hand seats is_main n next looks) (next_look o.hand OneChance (reached seats o.hand next (by_hand seats is_main n)) looks)
      (within_hand is_main n next looks some moved)
      (within_next o.hand OneChance looks (reached seats o.hand next (by_hand seats is_main n)) (within_reached o.hand next (by_hand seats is_main n) (λ l. within_hand is_main n next l some moved)))

  -- if no entry left, each place was looked at four times and more
  pub busy_evict : (o q : OrderOf) (looks : List Looked) (p : ℕ) → evict seats o looks ≡ none_left q [] → p < places_of seats → chances_taken p looks < 4 → 0 < times_pinned p looks
  busy_evict o q looks p is there few =
      let m = places_of seats in
      let end : Run = record { order = q; looks = []; place = None } in
      let last = stayed (and_then (by_second seats (2 * m) o looks) (by_hand seats true (4 * m))) (by_hand seats false (4 * m)) end is refl in
      let two = last.run_of in
      let main = stayed (by_second seats (2 * m) o looks) (by_hand seats true (4 * m)) two last.is last.none in
      let one = main.run_of in
      let hand_two : two.order.hand < m = subst Within main.went (within_hand true (4 * m) one.order one.looks (omega (arith, there)) (λ e. absurd (omega (arith, e, there)))) last.none in
      let to_one = subst (StopsAt looks one.looks) main.none (subst (Stops looks) main.is (stops_second seats (2 * m) o looks)) in
      let to_two = subst (StopsAt one.looks two.looks) last.none (subst (Stops one.looks) main.went (stops_hand seats true (4 * m) one.order one.looks)) in
      let behind_one = busy_behind p to_one.0 one.looks looks to_one.1 in
      let behind_two = busy_behind p to_two.0 two.looks one.looks to_two.1 in
      let ahead : two.order.hand ≤ p → p + (m + (m + (m + 0))) < 4 * m + two.order.hand = λ a. omega (arith, there) in
      let behind : p < two.order.hand → p + m + (m + (m + (m + 0))) < 4 * m + two.order.hand = λ b. omega (arith, b) in
      let often : 3 < visits m p (4 * m) two.order.hand = visits_often m p (4 * m) two.order.hand 3 hand_two there ahead behind in
      let seen = hand_busy seats p (4 * m) two.order two.looks end last.went refl in
      omega (arith, few, behind_one, behind_two, often, seen)
