-- The makings stay apart as one is added, removed or invalidated.
use Rattle.std.proofs.Common.{◌≡◌, ℕ, zero, suc, ◌+◌, ◌<◌, ◌≤◌, ◌||◌, ◌&&◌, not, Bool, true, false, List, [], ◌∷◌, ◌++◌, Some, MatchBool, take, drop, set, refl, ap, sym, ◌∙◌, subst, arith, nat_eq}
use Rattle.std.specs.Prelude.{slice_get}
use Rattle.std.specs.Cmp.{IsEquivalence}
use Rattle.std.specs.List.{AllByRecursion, IsDistinct, list_any, remove}
use Rattle.std.proofs.lemmas.Bool.{or_parts, and_parts}
use Rattle.std.proofs.lemmas.Map.Keys.{any_passes_from_place}
use Rattle.lru_clock.specs.declared.makings.Ended.{Ended}
use Rattle.lru_clock.specs.declared.makings.Ended.TheVariants as ended
use Rattle.lru_clock.specs.declared.makings.Making.{Making}
use Rattle.lru_clock.specs.Makings.{AreApart, Ends, HasEnded, IsWithout, Marks, making, invalidated, has_number, is_numbered, is_of, is_same}

neither : (a b : Bool) → a ≡ false → b ≡ false → (a || b) ≡ false
neither true b p q = p
neither false b p q = q

module _ {X : Type 0} where
  all_with : (P : X → Type 0) (xs : List X) (x : X) → AllByRecursion P xs → P x → AllByRecursion P (xs ++ x ∷ [])
  all_with P [] x all here = (here, tt)
  all_with P (y ∷ xs) x all here = (all.0, all_with P xs x all.1 here)

  all_without : (P : X → Type 0) (xs : List X) (i : ℕ) → AllByRecursion P xs → AllByRecursion P (take i xs ++ drop (suc i) xs)
  all_without P [] zero all = tt
  all_without P [] (suc i) all = tt
  all_without P (x ∷ xs) zero all = all.1
  all_without P (x ∷ xs) (suc i) all = (all.0, all_without P xs i all.1)

  all_at : (P : X → Type 0) (xs : List X) (i : ℕ) (x : X) → slice_get xs i ≡ Some x → AllByRecursion P xs → P x
  all_at P (y ∷ xs) zero x is all = subst P (some_same is) all.0
    where
      some_same : {a b : X} → Some a ≡ Some b → a ≡ b
      some_same e = cc e
  all_at P (y ∷ xs) (suc i) x is all = all_at P xs i x is all.1
  all_at P [] i x is all = absurd (cc is)

  all_set : (P : X → Type 0) (xs : List X) (i : ℕ) (x y : X) → slice_get xs i ≡ Some x → (P x → P y) → AllByRecursion P xs → AllByRecursion P (set xs i y)
  all_set P [] i x y is goes all = tt
  all_set P (z ∷ xs) zero x y is goes all = (goes (all_at P (z ∷ xs) zero x is all), all.1)
  all_set P (z ∷ xs) (suc i) x y is goes all = (all.0, all_set P xs i x y is goes all.1)

  all_kept : (P Q : X → Type 0) → ((x : X) → P x → Q x) → (xs : List X) → AllByRecursion P xs → AllByRecursion Q xs
  all_kept P Q goes [] all = tt
  all_kept P Q goes (x ∷ xs) all = (goes x all.0, all_kept P Q goes xs all.1)

  none_of : (p : X → Bool) (xs : List X) → AllByRecursion (λ x. p x ≡ false) xs → list_any p xs ≡ false
  none_of p [] all = refl
  none_of p (x ∷ xs) all = neither (p x) (list_any p xs) all.0 (none_of p xs all.1)

  module _ (E : X → X → Bool) where
    distinct_with : (xs : List X) (x : X) → list_any (λ y. E y x) xs ≡ false → IsDistinct E xs → IsDistinct E (xs ++ x ∷ [])
    unfolding IsDistinct
    distinct_with [] x absent distinct = (tt, tt)
    distinct_with (y ∷ xs) x absent distinct =
        let parts = or_parts (E y x) (list_any (λ y. E y x) xs) absent in
        (all_with (λ z. E y z ≡ false) xs x distinct.0 parts.0, distinct_with xs x parts.1 distinct.1)

    distinct_without : (xs : List X) (i : ℕ) → IsDistinct E xs → IsDistinct E (take i xs ++ drop (suc i) xs)
    unfolding IsDistinct
    distinct_without [] zero distinct = tt
    distinct_without [] (suc i) distinct = tt
    distinct_without (x ∷ xs) zero distinct = distinct.1
    distinct_without (x ∷ xs) (suc i) distinct = (all_without (λ y. E x y ≡ false) xs i distinct.0, distinct_without xs i distinct.1)

    -- x is at i, and y takes its place
    distinct_set : (x y : X) → ((z : X) → E z x ≡ false → E z y ≡ false) → ((z : X) → E x z ≡ false → E y z ≡ false) → (xs : List X) (i : ℕ) → slice_get xs i ≡ Some x → IsDistinct E xs → IsDistinct E (set xs i y)
    unfolding IsDistinct
    distinct_set x y to from [] i is distinct = tt
    distinct_set x y to from (z ∷ xs) zero is distinct =
        (all_kept (λ w. E x w ≡ false) (λ w. E y w ≡ false) from xs (all_at (λ v. AllByRecursion (λ w. E v w ≡ false) xs) (z ∷ []) zero x is (distinct.0, tt)), distinct.1)
    distinct_set x y to from (z ∷ xs) (suc i) is distinct =
        (all_set (λ w. E z w ≡ false) xs i x y is (to z) distinct.0, distinct_set x y to from xs i is distinct.1)

    -- x is at i, and p is false of all that differ from x
    module _ (p : X → Bool) (x : X) (before : (z : X) → E z x ≡ false → p z ≡ false) (after : (z : X) → E x z ≡ false → p z ≡ false) where
      others : (xs : List X) (i : ℕ) → slice_get xs i ≡ Some x → IsDistinct E xs → list_any p (take i xs ++ drop (suc i) xs) ≡ false
      unfolding IsDistinct
      others [] i is distinct = absurd (cc is)
      others (z ∷ xs) zero is distinct =
          none_of p xs (all_kept (λ w. E x w ≡ false) (λ w. p w ≡ false) after xs (all_at (λ v. AllByRecursion (λ w. E v w ≡ false) xs) (z ∷ []) zero x is (distinct.0, tt)))
      others (z ∷ xs) (suc i) is distinct =
          neither (p z) (list_any p (take i xs ++ drop (suc i) xs)) (before z (all_at (λ w. E z w ≡ false) xs i x is distinct.0)) (others xs i is distinct.1)

      others_set : (y : X) → p y ≡ false → (xs : List X) (i : ℕ) → slice_get xs i ≡ Some x → IsDistinct E xs → list_any p (set xs i y) ≡ false
      unfolding IsDistinct
      others_set y not [] i is distinct = refl
      others_set y not (z ∷ xs) zero is distinct =
          neither (p y) (list_any p xs) not
          (none_of p xs (all_kept (λ w. E x w ≡ false) (λ w. p w ≡ false) after xs (all_at (λ v. AllByRecursion (λ w. E v w ≡ false) xs) (z ∷ []) zero x is (distinct.0, tt))))
      others_set y not (z ∷ xs) (suc i) is distinct =
          neither (p z) (list_any p (set xs i y)) (before z (all_at (λ w. E z w ≡ false) xs i x is distinct.0)) (others_set y not xs i is distinct.1)

below_differs : (m n : ℕ) → m < n → nat_eq m n ≡ false
below_differs m n lt = grind (arith, lt)

eq_from : (m n : ℕ) → nat_eq m n ≡ true → m ≡ n
eq_from m n is = grind (arith, is)

same_symm : (m n : ℕ) → nat_eq m n ≡ nat_eq n m
same_symm m n = grind arith

module _ {K : Type 0} (E : K → K → Bool) where
  -- a number that is above all of them
  pub fresh : (n : ℕ) (ms : List (Making K)) → AreApart E n ms → has_number n ms ≡ false
  fresh n ms apart = none_of (is_numbered n) ms (all_kept (λ m. m.number < n) (λ m. is_numbered n m ≡ false) (λ m lt. below_differs m.number n lt) ms apart.numbered)

  -- a greater number is above all of them, too
  pub apart_below : (n m : ℕ) (ms : List (Making K)) → n ≤ m → AreApart E n ms → AreApart E m ms
  apart_below n m ms le apart = record {
    numbered = all_kept (λ l. l.number < n) (λ l. l.number < m) (λ l lt. omega (arith, lt, le)) ms apart.numbered;
    numbers = apart.numbers;
    keys = apart.keys;
  }

  -- a making of a key that has none is added
  pub apart_with : (n : ℕ) (ms : List (Making K)) (k : K) → list_any (is_of E k) ms ≡ false → AreApart E n ms → AreApart E (n + 1) (ms ++ making k n false ∷ [])
  apart_with n ms k absent apart = record {
    numbered = all_with (λ m. m.number < n + 1) ms (making k n false) (all_kept (λ m. m.number < n) (λ m. m.number < n + 1) (λ m lt. omega (arith, lt)) ms apart.numbered) (omega arith);
    numbers = distinct_with (λ l m. nat_eq l.number m.number) ms (making k n false) (fresh n ms apart) apart.numbers;
    keys = distinct_with (is_same E) ms (making k n false) absent apart.keys;
  }

  -- a making is removed
  pub apart_without : (n i : ℕ) (ms : List (Making K)) → AreApart E n ms → AreApart E n (remove ms i)
  apart_without n i ms apart = record {
    numbered = all_without (λ m. m.number < n) ms i apart.numbered;
    numbers = distinct_without (λ l m. nat_eq l.number m.number) ms i apart.numbers;
    keys = distinct_without (is_same E) ms i apart.keys;
  }

  pub number_gone : (n i : ℕ) (ms : List (Making K)) (m : Making K) → slice_get ms i ≡ Some m → AreApart E n ms → has_number m.number (remove ms i) ≡ false
  number_gone n i ms m is apart = others (λ l m. nat_eq l.number m.number) (is_numbered m.number) m (λ z e. e) (λ z e. same_symm z.number m.number ∙ e) ms i is apart.numbers

  -- a making is invalidated
  not_with : (l m : Making K) → is_same E l (invalidated m) ≡ false
  not_with l m = elim l.is_invalidated as (λ b. is_same E (record l { is_invalidated = b }) (invalidated m) ≡ false) [ true ↦ refl | false ↦ refl ]

  pub apart_marked : (n i : ℕ) (ms : List (Making K)) (m : Making K) → slice_get ms i ≡ Some m → AreApart E n ms → AreApart E n (set ms i (invalidated m))
  apart_marked n i ms m is apart = record {
    numbered = all_set (λ l. l.number < n) ms i m (invalidated m) is (λ lt. lt) apart.numbered;
    numbers = distinct_set (λ l m. nat_eq l.number m.number) m (invalidated m) (λ z e. e) (λ z e. e) ms i is apart.numbers;
    keys = distinct_set (is_same E) m (invalidated m) (λ z e. not_with z m) (λ z e. refl) ms i is apart.keys;
  }

  module _ (eqv : IsEquivalence E) (k : K) (m : Making K) (of : is_of E k m ≡ true) where
    parts : (not m.is_invalidated ≡ true) × (E m.key k ≡ true)
    parts = and_parts (not m.is_invalidated) (E m.key k) of

    -- the making of a key differs from all that are not
    key_before : (l : Making K) → is_same E l m ≡ false → is_of E k l ≡ false
    key_before l differ =
        let same : E l.key m.key ≡ E l.key k = eqv.symm l.key m.key ∙ eqv.congr m.key k l.key parts.1 ∙ eqv.symm k l.key in
        sym (ap (λ b. not l.is_invalidated && b) (ap (λ b. b && E l.key m.key) parts.0 ∙ same)) ∙ differ

    key_after : (l : Making K) → is_same E m l ≡ false → is_of E k l ≡ false
    key_after l differ =
        let same : E m.key l.key ≡ E l.key k = eqv.congr m.key k l.key parts.1 ∙ eqv.symm k l.key in
        sym (ap (λ b. b && (not l.is_invalidated && E m.key l.key)) parts.0 ∙ ap (λ b. not l.is_invalidated && b) same) ∙ differ

    pub key_gone : (n i : ℕ) (ms : List (Making K)) → slice_get ms i ≡ Some m → AreApart E n ms → list_any (is_of E k) (set ms i (invalidated m)) ≡ false
    key_gone n i ms is apart = others_set (is_same E) (is_of E k) m key_before key_after (invalidated m) refl ms i is apart.keys

  pub marks_at : (k : K) (ms new : List (Making K)) (i : ℕ) (m : Making K) → slice_get ms i ≡ Some m → is_of E k m ≡ true → new ≡ set ms i (invalidated m) → Marks E k ms new
  marks_at k ms new i m is of marked =
      let made : Marked ms new = (i, m, is, of, marked) in
      subst (λ b. MatchBool b (Marked ms new) (new ≡ ms)) (sym (any_passes_from_place (is_of E k) ms i m is of)) made
    where
      Marked : List (Making K) → List (Making K) → Type 0
      Marked ms new = (i : ℕ) × (m : Making K) × (slice_get ms i ≡ Some m) × (is_of E k m ≡ true) × (new ≡ set ms i (invalidated m))

  -- the making that was removed from i has this number
  pub ends_at : (n next i : ℕ) (ms new : List (Making K)) (m : Making K) → slice_get ms i ≡ Some m → is_numbered n m ≡ true → AreApart E next ms → new ≡ remove ms i → IsWithout ms (making m.key n m.is_invalidated) new
  ends_at n next i ms new m is numbered apart removed =
      let same : m.number ≡ n = eq_from m.number n numbered in (
        i,
        is ∙ ap (λ j. Some (making m.key j m.is_invalidated)) same,
        removed,
        subst (λ ms. has_number n ms ≡ false) (sym removed) (subst (λ j. has_number j (remove ms i) ≡ false) same (number_gone next i ms m is apart)),
      )

module _ {K : Type 0} (n : ℕ) (old new : List (Making K)) where
  -- an end that found the making
  pub has_ended : (r : Ended K) → (r ≡ ended.Unknown → ⊥) → Ends n old r new → HasEnded n old new
  has_ended (ended.Current k) known ends = (making k n false, refl, ends)
  has_ended (ended.Invalidated k) known ends = (making k n true, refl, ends)
  has_ended ended.Unknown known ends = absurd (known refl)

  pub ended_current : (r : Ended K) (k : K) → r ≡ ended.Current k → Ends n old r new → HasEnded n old new
  ended_current r k is ends = (making k n false, refl, subst (λ r. Ends n old r new) is ends)

  pub ended_invalidated : (r : Ended K) (k : K) → r ≡ ended.Invalidated k → Ends n old r new → HasEnded n old new
  ended_invalidated r k is ends = (making k n true, refl, subst (λ r. Ends n old r new) is ends)
