-- The steps of a history keep its rule, and a slot with one number in two prefixes has one entry.
use Rattle.std.proofs.Common.{◌≡◌, ◌≢◌, ◌≤◌, ℕ, zero, suc, ◌+◌, ◌<◌, ◌==◌, Bool, true, false, List, [], ◌∷◌, ◌++◌, length, refl, ap, sym, ◌∙◌, subst, arith, inl, inr, ◌⊎◌, Option, None, Some, slice_set, if◌then◌else◌, length-append, append_assoc, map, ◌%◌}
use Rattle.std.proofs.lemmas.List.{append-nil, append_cancel_left, get_or-set_same, get_or-set_other, get_or_append_left, length-set, length-map}
use Rattle.std.proofs.lemmas.List.Sums.{sum_by-append, sum_by-cons}
use Rattle.std.proofs.lemmas.Bool.Decides.{nat_tests}
use mathlib.Core.List.{IsPrefix}
use Rattle.std.proofs.lemmas.Option.{slice_get-get_or}
use Rattle.std.specs.Prelude.{slice_get, slice_index_or, IfSome}
use Rattle.core.specs.Slice.{IsItemAt}
use denote.Ref.{Bor}
use mathlib.Core.Logic.{dite}
use native.Mathlib.Decide.{ℕ_discrete}
use prog.Atomic.{either}
use Rattle.logbook.specs.Pages.{Book, Named, Cell, cell, keeps, gives, adds, nib, no_nib, may_write, step, Moves, Goes}
use Rattle.lru_clock.specs.declared.history.Event.{Event}
use Rattle.lru_clock.specs.declared.history.Entry.{Entry}
use Rattle.lru_clock.specs.History.{turns, of_place, entry_after, entry_at, entry, coming}
use Rattle.lru_clock.specs.History.{ComesTo, HasCome}
use Rattle.lru_clock.specs.Arrivals.{Arrives}
use Rattle.lru_clock.specs.declared.history.past.Arrival.{Arrival}
use Rattle.lru_clock.specs.Books.{EachAt, numbers}
use Rattle.lru_clock.specs.Shards.{IsShardOf}
use Rattle.lru_clock.specs.Hits.{HasArrived, Sees}
use Rattle.lru_clock.specs.Pins.{PastOf}
use Rattle.lru_clock.specs.HistoryRule.{IsKept, Looks, Adds, Widens, Begins}

pub prefix_trans : {A : Type 0} (xs ys zs : List A) → IsPrefix xs ys → IsPrefix ys zs → IsPrefix xs zs
prefix_trans xs ys zs p q = (p.0 ++ q.0, sym (append_assoc xs p.0 q.0) ∙ (ap (λ w. w ++ q.0) p.1 ∙ q.1))

longer : {A : Type 0} (x y : A) (xs ys : List A) → x ≡ y → IsPrefix xs ys ⊎ IsPrefix ys xs → IsPrefix (x ∷ xs) (y ∷ ys) ⊎ IsPrefix (y ∷ ys) (x ∷ xs)
longer x y xs ys heads (inl p) = inl (p.0, cc (heads, p.1))
longer x y xs ys heads (inr p) = inr (p.0, cc (heads, p.1))

-- of two prefixes of one list, one is a prefix of the other
pub prefix_either : {A : Type 0} (xs ys zs : List A) → IsPrefix xs zs → IsPrefix ys zs → IsPrefix xs ys ⊎ IsPrefix ys xs
prefix_either [] ys zs p q = inl (ys, refl)
prefix_either (x ∷ xs) [] zs p q = inr (x ∷ xs, refl)
prefix_either (x ∷ xs) (y ∷ ys) [] p q = absurd (cc (p.1))
prefix_either (x ∷ xs) (y ∷ ys) (z ∷ zs) p q =
    let heads : x ≡ y = cc (p.1, q.1) in
    longer x y xs ys heads (prefix_either xs ys zs (p.0, cc (p.1)) (q.0, cc (q.1)))

nothing_of : {A : Type 0} (xs ys : List A) → xs ++ ys ≡ [] → xs ≡ []
nothing_of [] ys none = refl
nothing_of (x ∷ xs) ys none = absurd (cc none)

-- a prefix of a list of one item is empty or the whole list
one_of : {A : Type 0} (xs ys : List A) (e : A) → xs ++ ys ≡ e ∷ [] → (xs ≡ []) ⊎ (xs ≡ e ∷ [])
one_of [] ys e one = inl refl
one_of (x ∷ xs) ys e one = inr (cc (one, nothing_of xs ys (cc one)))

pub prefix_self : {A : Type 0} (xs : List A) → IsPrefix xs xs
prefix_self xs = ([], append-nil xs)

-- a number is 0 or above it
none_or_some : (n : ℕ) → (n ≡ 0) ⊎ (0 < n)
none_or_some zero = inl refl
none_or_some (suc n) = inr (omega arith)

module _ {K V : Type 0} where
  abbrev pub shown : List (Event K V) → List (Event K V)
  shown log = []

  abbrev pub moved : List (Event K V) → List (Event K V) → ℕ → Type 0
  moved xs ys n = Unit {0}

  pub turns-append : (p : ℕ) (xs ys : List (Event K V)) → turns p (xs ++ ys) ≡ turns p xs + turns p ys
  turns-append p xs ys = sum_by-append (of_place p) xs ys

  pub entry_after-append : (p : ℕ) (had : Option (Entry K V)) (xs ys : List (Event K V)) → entry_after p had (xs ++ ys) ≡ entry_after p (entry_after p had xs) ys
  entry_after-append p had [] ys = refl
  entry_after-append p had (e ∷ xs) ys = entry_after-append p (if e.place == p then e.entry else had) xs ys

  -- without an event of its own a slot has what it had
  pub unchanged : (p : ℕ) (had : Option (Entry K V)) (ys : List (Event K V)) → turns p ys ≡ 0 → entry_after p had ys ≡ had
  unchanged p had [] none = refl
  unchanged p had (e ∷ ys) none = dite (ℕ_discrete e.place p)
      (λ here. let is : (e.place == p) ≡ true = grind (arith, nat_tests) in
      let one : of_place p e ≡ e.skipped + 1 = rw is refl in absurd (omega (arith, one, none, sum_by-cons (of_place p) e ys)))
      (λ apart. let is : (e.place == p) ≡ false = grind (arith, nat_tests) in
      let nothing : of_place p e ≡ 0 = rw is refl in
      rw is (unchanged p had ys (omega (arith, nothing, none, sum_by-cons (of_place p) e ys))))

  -- a slot whose counter has not risen since a prefix still has what it had there
  longer_same : (p : ℕ) (xs ys : List (Event K V)) → IsPrefix xs ys → turns p xs ≡ turns p ys → entry_at p xs ≡ entry_at p ys
  longer_same p xs ys pre count =
      let none : turns p pre.0 ≡ 0 = omega (arith, turns-append p xs pre.0, ap (turns p) pre.1, count) in
      sym (unchanged p (entry_at p xs) pre.0 none) ∙ (sym (entry_after-append p None xs pre.0) ∙ ap (entry_at p) pre.1)

  one_entry : (p : ℕ) (xs ys : List (Event K V)) → turns p xs ≡ turns p ys → IsPrefix xs ys ⊎ IsPrefix ys xs → entry_at p xs ≡ entry_at p ys
  one_entry p xs ys count (inl pre) = longer_same p xs ys pre count
  one_entry p xs ys count (inr pre) = sym (longer_same p ys xs pre (sym count))

  -- a slot that has an event in a prefix has one in the whole
  pub still_begun : (p : ℕ) (xs ys : List (Event K V)) → IsPrefix xs ys → 0 < turns p xs → 0 < turns p ys
  still_begun p xs ys pre some = omega (arith, turns-append p xs pre.0, ap (turns p) pre.1, some)

  -- another event raises the counter of its own place, and that of no other
  pub one_more : (p : ℕ) (log : List (Event K V)) (e : Event K V) → e.place ≡ p → turns p (log ++ e ∷ []) ≡ turns p log + (e.skipped + 1)
  one_more p log e at =
      let here : (e.place == p) ≡ true = grind (arith, nat_tests) in
      let more : of_place p e ≡ e.skipped + 1 = rw here refl in
      omega (arith, turns-append p log (e ∷ []), more)

  pub none_more : (p q : ℕ) (log : List (Event K V)) (e : Event K V) → e.place ≡ p → q ≢ p → turns q (log ++ e ∷ []) ≡ turns q log
  none_more p q log e at apart =
      let more : of_place q e ≡ 0 = grind (arith, nat_tests) in
      omega (arith, turns-append q log (e ∷ []), more)

  pub comes : (p : ℕ) (log : List (Event K V)) (e : Event K V) → e.place ≡ p → entry_at p (log ++ e ∷ []) ≡ e.entry
  comes p log e at =
      let here : (e.place == p) ≡ true = grind (arith, nat_tests) in
      entry_after-append p None log (e ∷ []) ∙ rw here refl

  -- one counter changes, and the history goes on
  set_head : (cs : List Cell) (log : List (Event K V)) (k n : ℕ) → IsKept cs log → k < length cs → (b : Bool) → (k == 0) ≡ b → (cell (slice_set cs k (n, true)) 0).1 ≡ true
  set_head cs log k n kept in_k true is =
      let same : k ≡ 0 = grind (arith, nat_tests) in
      subst (λ (q : ℕ). (cell (slice_set cs k (n, true)) q).1 ≡ true) same (ap (λ (c : Cell). c.1) (get_or-set_same cs k (n, true) (0, false) in_k))
  set_head cs log k n kept in_k false is =
      let apart : 0 ≢ k = grind (arith, nat_tests) in
      ap (λ (c : Cell). c.1) (get_or-set_other cs k 0 (n, true) (0, false) apart) ∙ kept.head

  set_at : (cs : List Cell) (log after : List (Event K V)) (k n p : ℕ) → IsKept cs log → k < length cs → n ≡ turns k after → ((q : ℕ) → q ≢ k → turns q after ≡ turns q log)
      → 0 < turns p after → (b : Bool) → (p == k) ≡ b → (p < length (slice_set cs k (n, true))) × (cell (slice_set cs k (n, true)) p ≡ (turns p after, true))
  set_at cs log after k n p kept in_k count others some true is =
      let same : p ≡ k = grind (arith, nat_tests) in
      subst (λ (q : ℕ). (q < length (slice_set cs k (n, true))) × (cell (slice_set cs k (n, true)) q ≡ (turns q after, true))) (sym same)
      (omega (arith, length-set cs k (n, true), in_k), get_or-set_same cs k (n, true) (0, false) in_k ∙ ap (λ (m : ℕ). (m, true)) count)
  set_at cs log after k n p kept in_k count others some false is =
      let apart : p ≢ k = grind (arith, nat_tests) in
      let was = kept.slots p (omega (arith, others p apart, some)) in
      (omega (arith, length-set cs k (n, true), was.0), get_or-set_other cs k p (n, true) (0, false) apart ∙ (was.1 ∙ ap (λ (m : ℕ). (m, true)) (sym (others p apart))))

  pub kept_set : (cs : List Cell) (log after : List (Event K V)) (k n : ℕ) → IsKept cs log → k < length cs → n ≡ turns k after → turns 0 after ≡ 0 → ((q : ℕ) → q ≢ k → turns q after ≡ turns q log)
      → IsKept (slice_set cs k (n, true)) after
  kept_set cs log after k n kept in_k count no_slot others = record {
    some = omega (arith, length-set cs k (n, true), kept.some);
    head = set_head cs log k n kept in_k (k == 0) refl;
    no_slot = no_slot;
    slots = λ p some. set_at cs log after k n p kept in_k count others some (p == k) refl;
  }

  -- the head may have any value
  head_at : (cs : List Cell) (log : List (Event K V)) (n p : ℕ) → IsKept cs log → 0 < turns p log → (p < length (slice_set cs 0 (n, true))) × (cell (slice_set cs 0 (n, true)) p ≡ (turns p log, true))
  head_at cs log n p kept some =
      let apart : p ≢ 0 = λ same. absurd (omega (arith, kept.no_slot, subst (λ (q : ℕ). 0 < turns q log) same some)) in
      let was = kept.slots p some in
      (omega (arith, length-set cs 0 (n, true), was.0), get_or-set_other cs 0 p (n, true) (0, false) apart ∙ was.1)

  kept_head : (cs : List Cell) (log : List (Event K V)) (n : ℕ) → IsKept cs log → IsKept (slice_set cs 0 (n, true)) log
  kept_head cs log n kept = record {
    some = omega (arith, length-set cs 0 (n, true), kept.some);
    head = set_head cs log 0 n kept kept.some true refl;
    no_slot = kept.no_slot;
    slots = λ p some. head_at cs log n p kept some;
  }

  -- a word that is not known yet changes nothing
  longer_at : (cs : List Cell) (log : List (Event K V)) (p : ℕ) → IsKept cs log → 0 < turns p log → (p < length (cs ++ (0, false) ∷ [])) × (cell (cs ++ (0, false) ∷ []) p ≡ (turns p log, true))
  longer_at cs log p kept some =
      let was = kept.slots p some in
      (omega (arith, length-append cs ((0, false) ∷ []), was.0), get_or_append_left cs ((0, false) ∷ []) (0, false) p was.0 ∙ was.1)

  kept_longer : (cs : List Cell) (log : List (Event K V)) → IsKept cs log → IsKept (cs ++ (0, false) ∷ []) log
  kept_longer cs log kept = record {
    some = omega (arith, length-append cs ((0, false) ∷ []), kept.some);
    head = ap (λ (c : Cell). c.1) (get_or_append_left cs ((0, false) ∷ []) (0, false) 0 kept.some) ∙ kept.head;
    no_slot = kept.no_slot;
    slots = λ p some. longer_at cs log p kept some;
  }

  pub looks_moves : (v : List (Event K V)) (e : Event K V) (k : ℕ) → 0 < turns k v → Moves IsKept shown moved k (v, (no_nib, None)) (λ n. n) (Looks (step k 0 0 e) (v, (no_nib, None)))
  looks_moves v e k begun cs log kept pre away =
      let all : log ++ [] ≡ log = append-nil log in
      let at = kept.slots k (still_begun k v log pre begun) in
      let here : (cell cs k).0 ≡ turns k log = ap (λ (c : Cell). c.0) at.1 in
      let count : (cell cs k).0 ≡ turns k (log ++ []) = here ∙ ap (turns k) (sym all) in (
        at.0,
        ap (λ (c : Cell). c.1) at.1,
        (
          keeps,
          [],
          None,
          tt,
          kept_set cs log (log ++ []) k (cell cs k).0 kept at.0 count (ap (turns 0) all ∙ kept.no_slot) (λ q apart. ap (turns q) all),
          inl (refl, refl),
          sym count,
        ),
      )

  adds_goes : (v : List (Event K V)) (e : Event K V) (k old new n : ℕ) (cs : List Cell) (log : List (Event K V)) → k < length cs → 0 < turns k log → e.place ≡ k → new ≡ old + (e.skipped + 1) → IsKept cs log → IsPrefix v log → n ≡ turns k log
      → (cell cs k).0 ≡ n → (b : Bool) → (n == old) ≡ b
      → Goes IsKept shown moved k (v, (no_nib, None)) (λ n. either (n == old) new n) (Adds (step k old new e) (v, (no_nib, None))) cs log
  adds_goes v e k old new n cs log in_k begun at more kept pre count found true is =
      let here : n ≡ old = grind (arith, nat_tests) in
      let apart : 0 ≢ k = λ same. absurd (omega (arith, kept.no_slot, subst (λ (q : ℕ). 0 < turns q log) (sym same) begun)) in
      let next : either ((cell cs k).0 == old) new (cell cs k).0 ≡ turns k (log ++ e ∷ []) = rw (found, is) (omega (arith, one_more k log e at, count, here, more)) in (
        keeps,
        e ∷ [],
        None,
        tt,
        kept_set cs log (log ++ e ∷ []) k _ kept in_k next (none_more k 0 log e at apart ∙ kept.no_slot) (λ q other. none_more k q log e at other),
        inl (refl, refl),
        rw (found, is) (pre.0, ap (λ l. l ++ e ∷ []) (sym pre.1), omega (arith, one_more k log e at, count, here, more)),
      )
  adds_goes v e k old new n cs log in_k begun at more kept pre count found false is =
      let all : log ++ [] ≡ log = append-nil log in
      let next : either ((cell cs k).0 == old) new (cell cs k).0 ≡ turns k (log ++ []) = rw (found, is) (count ∙ ap (turns k) (sym all)) in (
        keeps,
        [],
        None,
        tt,
        kept_set cs log (log ++ []) k _ kept in_k next (ap (turns 0) all ∙ kept.no_slot) (λ q apart. ap (turns q) all),
        inl (refl, refl),
        rw (found, is) (ap (turns k) all ∙ sym count),
      )

  pub adds_moves : (v : List (Event K V)) (e : Event K V) (k old new : ℕ) → 0 < turns k v → e.place ≡ k → new ≡ old + (e.skipped + 1)
      → Moves IsKept shown moved k (v, (no_nib, None)) (λ n. either (n == old) new n) (Adds (step k old new e) (v, (no_nib, None)))
  adds_moves v e k old new begun at more cs log kept pre away =
      let still = still_begun k v log pre begun in
      let is = kept.slots k still in
      let here : (cell cs k).0 ≡ turns k log = ap (λ (c : Cell). c.0) is.1 in (
        is.0,
        ap (λ (c : Cell). c.1) is.1,
        adds_goes v e k old new (cell cs k).0 cs log is.0 still at more kept pre here refl ((cell cs k).0 == old) refl,
      )

  pub widens_moves : (v : List (Event K V)) (e : Event K V) → Moves IsKept shown moved 0 (v, (no_nib, None)) (λ n. either (n == 0) 0 n) (Widens (step 0 0 0 e) (v, (no_nib, None)))
  widens_moves v e cs log kept pre away = (
    kept.some,
    kept.head,
    (
      adds,
      [],
      None,
      tt,
      subst (IsKept (slice_set cs 0 (either ((cell cs 0).0 == 0) 0 (cell cs 0).0, true) ++ (0, false) ∷ [])) (sym (append-nil log)) (kept_longer _ log (kept_head cs log _ kept)),
      inl (refl, refl),
      refl,
    ),
  )

  begins_goes : (v : List (Event K V)) (e : Event K V) (q : ℕ) (cs : List Cell) (log : List (Event K V)) → e.place ≡ q → e.skipped ≡ 0 → IsKept cs log → q < length cs → (cell cs q).1 ≡ false → turns q log ≡ 0
      → Goes IsKept shown moved 0 (v, (nib may_write q 1, None)) (λ n. either (n == 0) 0 n) (Begins (step 0 0 0 e) (v, (nib may_write q 1, None))) cs log
  begins_goes v e q cs log at first kept in_q away none =
      let apart : 0 ≢ q = λ same. absurd (cc (kept.head, subst (λ (p : ℕ). (cell cs p).1 ≡ false) (sym same) away)) in
      let n = either ((cell cs 0).0 == 0) 0 (cell cs 0).0 in
      let set = slice_set cs 0 (n, true) in
      let one : turns q (log ++ e ∷ []) ≡ 1 = omega (arith, one_more q log e at, none, first) in (
        gives,
        e ∷ [],
        None,
        refl,
        kept_set set log (log ++ e ∷ []) q 1 (kept_head cs log n kept) (omega (arith, length-set cs 0 (n, true), in_q)) (sym one) (none_more q 0 log e at apart ∙ kept.no_slot) (λ p other. none_more q p log e at other),
        inl (refl, refl),
        one,
      )

  begins_by : (v : List (Event K V)) (e : Event K V) (q : ℕ) (cs : List Cell) (log : List (Event K V)) → e.place ≡ q → e.skipped ≡ 0 → IsKept cs log → q < length cs → (cell cs q).1 ≡ false → (turns q log ≡ 0) ⊎ (0 < turns q log)
      → Goes IsKept shown moved 0 (v, (nib may_write q 1, None)) (λ n. either (n == 0) 0 n) (Begins (step 0 0 0 e) (v, (nib may_write q 1, None))) cs log
  begins_by v e q cs log at first kept in_q away (inl none) = begins_goes v e q cs log at first kept in_q away none
  begins_by v e q cs log at first kept in_q away (inr some) = absurd (cc (away, (kept.slots q some).1))

  pub begins_moves : (v : List (Event K V)) (e : Event K V) (q : ℕ) → e.place ≡ q → e.skipped ≡ 0 → Moves IsKept shown moved 0 (v, (nib may_write q 1, None)) (λ n. either (n == 0) 0 n) (Begins (step 0 0 0 e) (v, (nib may_write q 1, None)))
  begins_moves v e q at first cs log kept pre away =
      let out = away refl in
      (kept.some, kept.head, begins_by v e q cs log at first kept out.0 out.1 (none_or_some (turns q log)))

  fewer_by : (p : ℕ) (xs ys : List (Event K V)) → IsPrefix xs ys ⊎ IsPrefix ys xs → turns p xs < turns p ys → IsPrefix xs ys
  fewer_by p xs ys (inl pre) less = pre
  fewer_by p xs ys (inr pre) less = absurd (omega (arith, turns-append p ys pre.0, ap (turns p) pre.1, less))

  -- of two prefixes of one history, the one in which a counter is smaller is a prefix of the other
  pub fewer : (p : ℕ) (xs ys zs : List (Event K V)) → IsPrefix xs zs → IsPrefix ys zs → turns p xs < turns p ys → IsPrefix xs ys
  fewer p xs ys zs one other less = fewer_by p xs ys (prefix_either xs ys zs one other) less

  -- a prefix in which a slot's counter is as high as in another ends no earlier than its last event
  whole_by : (p : ℕ) (xs before rest : List (Event K V)) (e : Event K V) → e.place ≡ p → turns p xs ≡ turns p (before ++ e ∷ []) → before ++ rest ≡ xs → (rest ≡ []) ⊎ (rest ≡ e ∷ []) → IsPrefix (before ++ e ∷ []) xs
  whole_by p xs before rest e at count all (inl none) = absurd (omega (arith, count, one_more p before e at, ap (turns p) (sym (append-nil before)), ap (turns p) (ap (λ r. before ++ r) (sym none) ∙ all)))
  whole_by p xs before rest e at count all (inr last) = subst (λ ys. IsPrefix (before ++ e ∷ []) ys) (ap (λ r. before ++ r) (sym last) ∙ all) (prefix_self (before ++ e ∷ []))

  whole_of : (p : ℕ) (xs before : List (Event K V)) (e : Event K V) → e.place ≡ p → turns p xs ≡ turns p (before ++ e ∷ []) → IsPrefix xs (before ++ e ∷ []) → IsPrefix xs before ⊎ IsPrefix before xs → IsPrefix (before ++ e ∷ []) xs
  whole_of p xs before e at count pre (inl short) = absurd (omega (arith, count, one_more p before e at, turns-append p xs short.0, ap (turns p) short.1))
  whole_of p xs before e at count pre (inr long) =
      let all : before ++ (long.0 ++ pre.0) ≡ before ++ e ∷ [] = sym (append_assoc before long.0 pre.0) ∙ (ap (λ w. w ++ pre.0) long.1 ∙ pre.1) in
      whole_by p xs before long.0 e at count long.1 (one_of long.0 pre.0 e (append_cancel_left before (long.0 ++ pre.0) (e ∷ []) all))

  whole_either : (p : ℕ) (xs before : List (Event K V)) (e : Event K V) → e.place ≡ p → turns p xs ≡ turns p (before ++ e ∷ []) → IsPrefix xs (before ++ e ∷ []) ⊎ IsPrefix (before ++ e ∷ []) xs → IsPrefix (before ++ e ∷ []) xs
  whole_either p xs before e at count (inl pre) = whole_of p xs before e at count pre (prefix_either xs before (before ++ e ∷ []) pre (e ∷ [], refl))
  whole_either p xs before e at count (inr pre) = pre

  pub whole : (p : ℕ) (xs before zs : List (Event K V)) (e : Event K V) → e.place ≡ p → turns p xs ≡ turns p (before ++ e ∷ []) → IsPrefix xs zs → IsPrefix (before ++ e ∷ []) zs → IsPrefix (before ++ e ∷ []) xs
  whole p xs before zs e at count one other = whole_either p xs before e at count (prefix_either xs (before ++ e ∷ []) zs one other)

  -- an entry whose making began after the first prefix is there in one in which its slot's counter
  -- has its number
  pub has_come : (w : Named) (a : Arrival K V) (age : ℕ) (e : Entry K V) (since seen zs : List (Event K V)) (number : ℕ) (at : Arrives w a age e) → turns 1 since ≤ number → number < at.ticket → turns w.key seen ≡ a.number
      → IsPrefix since zs → IsPrefix seen zs → IsPrefix a.log.log zs → HasCome w.key since e seen
  has_come w a age e since seen zs number at begun passed count one other last =
      let came = coming w.key at.skipped at.ticket e in
      let end : IsPrefix (at.before ++ came ∷ []) zs = subst (λ l. IsPrefix l zs) at.last last in
      let all : turns w.key seen ≡ turns w.key (at.before ++ came ∷ []) = count ∙ (sym at.count ∙ ap (turns w.key) at.last) in
      let whole : IsPrefix (at.before ++ came ∷ []) seen = whole w.key seen at.before zs came refl all other end in record {
        before = at.before;
        skipped = at.skipped;
        ticket = at.ticket;
        begun = record {
          later = fewer 1 since at.before zs one (prefix_trans at.before (at.before ++ came ∷ []) zs (came ∷ [], refl) end) (omega (arith, begun, passed, at.begun, at.drawn));
          after = omega (arith, begun, passed);
          within = omega (arith, at.begun, at.drawn);
        };
        came = whole;
        there = sym (longer_same w.key (at.before ++ came ∷ []) seen whole (sym all)) ∙ comes w.key at.before came refl;
      }

  -- two arrivals at one slot with one number are of one entry
  pub one_arrival : (w : Named) (a b : Arrival K V) (n m : ℕ) (e f : Entry K V) (zs : List (Event K V)) → Arrives w a n e → Arrives w b m f → a.number ≡ b.number → IsPrefix a.log.log zs → IsPrefix b.log.log zs → e ≡ f
  one_arrival w a b n m e f zs at bt same one other =
      let count : turns w.key a.log.log ≡ turns w.key b.log.log = at.count ∙ (same ∙ sym bt.count) in
      let had : entry_at w.key a.log.log ≡ Some e = ap (entry_at w.key) at.last ∙ comes w.key at.before (coming w.key at.skipped at.ticket e) refl in
      let has : entry_at w.key b.log.log ≡ Some f = ap (entry_at w.key) bt.last ∙ comes w.key bt.before (coming w.key bt.skipped bt.ticket f) refl in
      cc (had, has, one_entry w.key a.log.log b.log.log count (prefix_either a.log.log b.log.log zs one other))

-- a property of each item of a list still holds if an item that has it is added
pub each_push : {A : Type 0} (P : ℕ → A → Type 0) (xs : List A) (y : A) → EachAt P xs → P (length xs) y → EachAt P (xs ++ y ∷ [])
each_push P [] y old new zero x is = subst (P zero) (cc is) new
each_push P [] y old new (suc k) x is = absurd (cc is)
each_push P (z ∷ xs) y old new zero x is = old zero x is
each_push P (z ∷ xs) y old new (suc k) x is = each_push (λ j. P (suc j)) xs y (λ j. old (suc j)) new k x is

pub each_none : {A : Type 0} (P : ℕ → A → Type 0) → EachAt P []
each_none P k x is = absurd (cc is)

book_of : List ℕ → Book
book_of (n ∷ l ∷ c ∷ ns) = record { number = n; log_name = l; cells_name = c }
book_of ns = record { number = 0; log_name = 0; cells_name = 0 }

-- a book is known by its numbers
pub same_book : (a b : Book) → numbers a ≡ numbers b → a ≡ b
unfolding book_of
same_book a b same = ap book_of same

-- an item that was read is at its place
pub read_at : {A : Type 0} (xs : List A) (k : ℕ) (x : A) → k < length xs → x ≡ slice_index_or xs k x → slice_get xs k ≡ Some x
read_at xs k x lt is = slice_get-get_or xs k x lt ∙ ap Some (sym is)

-- an item of a page is where it was read, and of the book that the page's tag names
pub of_page : {A : Type 0} (f : A → Book) (spot : A → ℕ × ℕ) (xs : List A) (page k : ℕ) (r : Option (Bor A)) (tag : List ℕ) (b : Book)
    → EachAt (λ (j : ℕ) (x : A). ((spot x).1 ≡ j) × ((spot x).0 ∷ numbers (f x) ≡ tag)) xs → IsItemAt xs k r → tag ≡ page ∷ numbers b
    → IfSome r (λ (x : Bor A). spot x.now ≡ (page, k)) × IfSome r (λ (x : Bor A). f x.now ≡ b)
of_page f spot xs page k None tag b each at names = (tt, tt)
of_page f spot xs page k (Some x) tag b each at names =
    let here = each k x.now (read_at xs k x.now at.3.0 at.1) in
    let same : (spot x.now).0 ∷ numbers (f x.now) ≡ page ∷ numbers b = here.1 ∙ names in
    let first : (spot x.now).0 ≡ page = cc same in
    (λ i. (first i, here.0 i), same_book (f x.now) b (cc same))

-- what holds of such an item holds with its spot in the place of where it was read
pub at_spot : {A : Type 0} (spot : A → ℕ × ℕ) (P : ℕ × ℕ → Type 0) (r : Option (Bor A)) (s : ℕ × ℕ) → IfSome r (λ (x : Bor A). spot x.now ≡ s) → P s → IfSome r (λ (x : Bor A). P (spot x.now))
at_spot spot P None s is p = tt
at_spot spot P (Some x) s is p = subst P (sym is) p

module _ {K V : Type 0} where
  -- an entry with whose arrival a prefix ends came within it
  pub comes_last : (w : Named) (a : Arrival K V) (age : ℕ) (e : Entry K V) (log : List (Event K V)) → log ≡ a.log.log → Arrives w a age e → ComesTo w.key e log
  comes_last w a age e log same at = (at.before, at.skipped, at.ticket, ([], append-nil (at.before ++ coming w.key at.skipped at.ticket e ∷ []) ∙ (sym at.last ∙ sym same)))

  -- an entry of an equal key that came to a place
  pub arrived_with : (E : K → K → Bool) (p : ℕ) (k l : K) (v u : V) (log : List (Event K V)) → ComesTo p (entry l u) log → v ≡ u → E l k ≡ true → HasArrived E log k v
  arrived_with E p k l v u log came same equal = record {
    place = p;
    key = l;
    comes = subst (λ (x : V). ComesTo p (entry l x) log) (sym same) came;
    equal = equal;
  }

  -- what a past says of an arrival, said of the entry
  pub sees_if : (E : K → K → Bool) (w : Named) (a : Arrival K V) (age : ℕ) (past : Option (PastOf K V)) (k l : K) (v u : V) (book : Book) (log : List (Event K V)) → Arrives w a age (entry l u) → v ≡ u → E l k ≡ true
      → IfSome past (λ (p : PastOf K V). book ≡ p.book) → IfSome past (λ (p : PastOf K V). IsPrefix p.seen log)
      → IfSome past (λ (p : PastOf K V). (e : Entry K V) → Arrives w a age e → HasCome w.key p.since e log)
      → IfSome past (λ (p : PastOf K V). Sees E p k v book log)
  sees_if E w a age None k l v u book log at same equal same_book later came = tt
  sees_if E w a age (Some p) k l v u book log at same equal same_book later came =
      (same_book, later, (w.key, l, subst (λ (x : V). HasCome w.key p.since (entry l x) log) (sym same) (came (entry l u) at), equal))

got_map : {A : Type 0} (f : A → Book) (xs : List A) (k : ℕ) (x : A) → slice_get xs k ≡ Some x → slice_get (map f xs) k ≡ Some (f x)
got_map f [] k x is = absurd (cc is)
got_map f (y ∷ xs) zero x is = cc is
got_map f (y ∷ xs) (suc k) x is = got_map f xs k x is

-- what is so of the shard of a key is so of its book
pub shard_map : {A : Type 0} (f : A → Book) (xs : List A) (n : ℕ) (x : A) → IsShardOf xs n x → IsShardOf (map f xs) n (f x)
shard_map f xs n x is = rw (length-map xs f) (got_map f xs (n % length xs) x is)
