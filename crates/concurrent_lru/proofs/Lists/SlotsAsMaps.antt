-- A list of slots as a finite map: what it has at a place, and after one slot changes.
use Rattle.std.proofs.Common.{◌≡◌, ◌≢◌, ℕ, zero, suc, ◌+◌, ◌<◌, List, [], ◌∷◌, true, false, cond, get_or, Option, Some, None, refl, sym, ap, ◌∙◌, arith, inl, inr}
use Rattle.std.specs.Prelude.{is_some, count_by}
use Rattle.std.proofs.lemmas.Bool.{cases_eq}
use Rattle.std.specs.Ordering.{nat_cmp, eq_by_cmp, is_eq}
use Rattle.std.specs.declared.cmp.Ordering.TheVariants.{Less, Equal, Greater}
use Rattle.std.specs.Cmp.{nat_cmp_total, eq_by_cmp_equiv}
use Rattle.std.specs.FinMap.{FinMap, insert, remove, get, len, get-empty, get-insert, get-remove, len-empty, len-insert, same_map, nat_cmp-IsAntisymmetric}
use Rattle.concurrent_lru.specs.Slots.{map_of_slots_from, map_of_slots}
use Rattle.concurrent_lru.proofs.Entries.SumsOfHeld.{sum_by-cons}

same_key : (k : ℕ) → eq_by_cmp nat_cmp k k ≡ true
same_key k = (eq_by_cmp_equiv nat_cmp_total).refl k

other_key : (q k : ℕ) → q ≢ k → eq_by_cmp nat_cmp q k ≡ false
other_key q k ne = (elim (nat_cmp q k) as (λ r. nat_cmp q k ≡ r → is_eq r ≡ false) [
  | Less ↦ λ e. refl
  | Equal ↦ λ e. absurd (ne (nat_cmp-IsAntisymmetric q k e))
  | Greater ↦ λ e. refl
]) refl

-- an empty slot counts for nothing
count-none : {Z : Type 0} (z : Option Z) (zs : List (Option Z)) → is_some z ≡ false → count_by is_some (z ∷ zs) ≡ count_by is_some zs
count-none {Z} z zs h =
    let whole = sum_by-cons (λ (o : Option Z). cond (is_some o) 1 0) z zs in
    let none : ◌≡◌ {A = ℕ} (cond (is_some z) 1 0) 0 = ap (λ b. cond b 1 0) h in
    omega (arith, whole, none)

module _ {X : Type 0} where
  pub insert_same : (m : FinMap nat_cmp X) (k : ℕ) (v : X) → get (insert m k v) k ≡ Some v
  insert_same m k v = get-insert nat_cmp_total m k v k ∙ ap (λ b. cond b (Some v) (get m k)) (same_key k)

  pub insert_other : (m : FinMap nat_cmp X) (k : ℕ) (v : X) (q : ℕ) → q ≢ k → get (insert m k v) q ≡ get m q
  insert_other m k v q ne = get-insert nat_cmp_total m k v q ∙ ap (λ b. cond b (Some v) (get m q)) (other_key q k ne)

  pub remove_same : (m : FinMap nat_cmp X) (k : ℕ) → get (remove m k) k ≡ None
  remove_same m k = get-remove nat_cmp_total m k k ∙ ap (λ b. cond b None (get m k)) (same_key k)

  pub remove_other : (m : FinMap nat_cmp X) (k q : ℕ) → q ≢ k → get (remove m k) q ≡ get m q
  remove_other m k q ne = get-remove nat_cmp_total m k q ∙ ap (λ b. cond b None (get m q)) (other_key q k ne)

  below : (k : ℕ) (slots : List (Option X)) (q : ℕ) → q < k → get (map_of_slots_from k slots) q ≡ None
  below k [] q lt = get-empty nat_cmp q
  below k (None ∷ slots) q lt = below (suc k) slots q (omega arith)
  below k (Some x ∷ slots) q lt = insert_other (map_of_slots_from (suc k) slots) k x q (λ e. omega arith) ∙ below (suc k) slots q (omega arith)

  at_from : (k : ℕ) (slots : List (Option X)) (j q : ℕ) → q ≡ k + j → get (map_of_slots_from k slots) q ≡ get_or slots j None
  at_from k [] j q e = get-empty nat_cmp q
  at_from k (None ∷ slots) zero q e = below (suc k) slots q (omega arith)
  at_from k (Some x ∷ slots) zero q e = let is : q ≡ k = omega arith in ap (get (insert (map_of_slots_from (suc k) slots) k x)) is ∙ insert_same (map_of_slots_from (suc k) slots) k x
  at_from k (None ∷ slots) (suc j) q e = at_from (suc k) slots j q (omega arith)
  at_from k (Some x ∷ slots) (suc j) q e = insert_other (map_of_slots_from (suc k) slots) k x q (λ is. omega arith) ∙ at_from (suc k) slots j q (omega arith)

  -- the map has at each place what the slot has
  pub map_of_slots_at : (slots : List (Option X)) (q : ℕ) → get (map_of_slots slots) q ≡ get_or slots q None
  map_of_slots_at slots q = at_from 0 slots q q (omega arith)

  -- slots that differ at one place
  pub made_insert : (old new : List (Option X)) (k : ℕ) (x : X) → get_or new k None ≡ Some x → ((q : ℕ) → q ≢ k → get_or new q None ≡ get_or old q None) → map_of_slots new ≡ insert (map_of_slots old) k x
  made_insert old new k x here others = same_map nat_cmp_total nat_cmp-IsAntisymmetric (map_of_slots new) (insert (map_of_slots old) k x) (λ q. elim (cases_eq q k) [
    | inl is ↦ map_of_slots_at new q ∙ ap (λ p. get_or new p None) is ∙ here ∙ sym (insert_same (map_of_slots old) k x) ∙ sym (ap (get (insert (map_of_slots old) k x)) is)
    | inr ne ↦ map_of_slots_at new q ∙ others q ne ∙ sym (map_of_slots_at old q) ∙ sym (insert_other (map_of_slots old) k x q ne)
  ])

  pub made_remove : (old new : List (Option X)) (k : ℕ) → get_or new k None ≡ None → ((q : ℕ) → q ≢ k → get_or new q None ≡ get_or old q None) → map_of_slots new ≡ remove (map_of_slots old) k
  made_remove old new k here others = same_map nat_cmp_total nat_cmp-IsAntisymmetric (map_of_slots new) (remove (map_of_slots old) k) (λ q. elim (cases_eq q k) [
    | inl is ↦ map_of_slots_at new q ∙ ap (λ p. get_or new p None) is ∙ here ∙ sym (remove_same (map_of_slots old) k) ∙ sym (ap (get (remove (map_of_slots old) k)) is)
    | inr ne ↦ map_of_slots_at new q ∙ others q ne ∙ sym (map_of_slots_at old q) ∙ sym (remove_other (map_of_slots old) k q ne)
  ])

  pub made_same : (old new : List (Option X)) → ((q : ℕ) → get_or new q None ≡ get_or old q None) → map_of_slots new ≡ map_of_slots old
  made_same old new h = same_map nat_cmp_total nat_cmp-IsAntisymmetric (map_of_slots new) (map_of_slots old) (λ q. map_of_slots_at new q ∙ h q ∙ sym (map_of_slots_at old q))

  -- the map has as many entries as slots are filled
  len_from : (k : ℕ) (slots : List (Option X)) → len (map_of_slots_from k slots) ≡ count_by is_some slots
  len_from k [] = len-empty nat_cmp X
  len_from k (None ∷ slots) = len_from (suc k) slots ∙ sym (count-none None slots refl)
  len_from k (Some x ∷ slots) =
      let more : len (insert (map_of_slots_from (suc k) slots) k x) ≡ len (map_of_slots_from (suc k) slots) + 1 = len-insert nat_cmp_total (map_of_slots_from (suc k) slots) k x ∙ ap (λ o. cond (is_some o) (len (map_of_slots_from (suc k) slots)) (len (map_of_slots_from (suc k) slots) + 1)) (below (suc k) slots k (omega arith)) in
      let rest = len_from (suc k) slots in
      let whole : count_by is_some (Some x ∷ slots) ≡ 1 + count_by is_some slots = sum_by-cons (λ (o : Option X). cond (is_some o) 1 0) (Some x) slots in
      omega (arith, more, rest, whole)

  pub map_of_slots-len : (slots : List (Option X)) → len (map_of_slots slots) ≡ count_by is_some slots
  map_of_slots-len slots = len_from 0 slots

-- slots that are filled at the same places: as many are
module _ {X Y : Type 0} where
  count-cons : (x : Option X) (y : Option Y) (xs : List (Option X)) (ys : List (Option Y)) → is_some x ≡ is_some y → count_by is_some xs ≡ count_by is_some ys → count_by is_some (x ∷ xs) ≡ count_by is_some (y ∷ ys)
  count-cons x y xs ys h k =
      sum_by-cons (λ (o : Option X). cond (is_some o) 1 0) x xs ∙ (λ i. cond (h i) 1 0 + k i) ∙ sym (sum_by-cons (λ (o : Option Y). cond (is_some o) 1 0) y ys)

  pub count-alike : (xs : List (Option X)) (ys : List (Option Y)) → ((k : ℕ) → is_some (get_or xs k None) ≡ is_some (get_or ys k None)) → count_by is_some xs ≡ count_by is_some ys
  count-alike [] [] h = refl
  count-alike [] (y ∷ ys) h = count-alike [] ys (λ k. h (suc k)) ∙ sym (count-none y ys (sym (h 0)))
  count-alike (x ∷ xs) [] h = count-none x xs (h 0) ∙ count-alike xs [] (λ k. h (suc k))
  count-alike (x ∷ xs) (y ∷ ys) h = count-cons x y xs ys (h 0) (count-alike xs ys (λ k. h (suc k)))
