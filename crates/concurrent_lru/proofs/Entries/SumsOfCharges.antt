-- The sum of the charges: with an entry more, one less, one written, and where one comes to rest or
-- is revived.
use Rattle.std.proofs.Common.{◌≡◌, ℕ, ◌+◌, ◌-◌, ◌≤◌, false, cond, not, List, [], ◌∷◌, ◌++◌, Option, Some, None, map, refl, sym, ap, ◌∙◌, subst, eqb, ◌==◌, ◌||◌, arith}
use Rattle.std.specs.Prelude.{sum_by}
use Rattle.std.specs.List.{IsDistinct, AllByRecursion, list_any, filter_map, cons_option, find}
use Rattle.std.specs.Option.{option_and_then}
use Rattle.std.specs.FinMap.{get, insert, remove, empty, entries, len-entries, len-empty}
use Rattle.std.proofs.lemmas.Bool.{ne_eqb, true≢false, eq-eqb}
use Rattle.concurrent_lru.specs.Cache.{Idle, Held, charges}
use Rattle.concurrent_lru.specs.Steps.{without}
use Rattle.concurrent_lru.specs.NodeTable.{Entry, NodeTable}
use Rattle.concurrent_lru.specs.Representation.{IsRepresentation, idle_in, idle_at_place, held_charges, as_idle}
use Rattle.concurrent_lru.specs.Entries.{Entries, charges_of}
use Rattle.std.specs.Ordering.{nat_cmp}
use Rattle.std.specs.Cmp.{nat_eq_equiv}
use Rattle.concurrent_lru.proofs.Entries.PlacesOfNodes.{empty_by_length}
use Rattle.concurrent_lru.proofs.Steps.BeginOfAbsent.{as_idle-ready}
use Rattle.concurrent_lru.proofs.Lists.Members.{IsIn, in_self, in_tail}
use Rattle.concurrent_lru.proofs.Steps.LawfulAfterRevival.{charges_without}
use Rattle.concurrent_lru.proofs.Entries.SumsOfHeld.{sum_by-cons, sum-insert, sum-remove, sum-change}

-- what is left of a total is what is left of the sum
pub less_alike : (left total sum all n : ℕ) → left + n ≡ total → sum + n ≡ all → total ≡ all → left ≡ sum
less_alike left total sum all n a b c = omega (arith, a, b, c)

-- and what is left where a part is taken off
pub less_left : (total sum all n : ℕ) → total ≡ all → sum + n ≡ all → total - n ≡ sum
less_left total sum all n a b = omega (arith, a, b)

pub absent_in : (q : ℕ) (xs : List ℕ) → AllByRecursion (λ y. eqb q y ≡ false) xs → IsIn q xs → ⊥
absent_in q [] h m = true≢false (sym m)
absent_in q (x ∷ xs) h m = absent_in q xs h.1 (sym (ap (λ b. b || list_any (eqb q) xs) h.0) ∙ m)

module _ {K V : Type 0} where
  pub charges-append : (xs ys : List (Idle K V)) → charges (xs ++ ys) ≡ charges xs + charges ys
  charges-append [] ys = omega arith
  charges-append (x ∷ xs) ys =
      let a = sum_by-cons (λ (z : Idle K V). z.charge) x (xs ++ ys) in
      let b = sum_by-cons (λ (z : Idle K V). z.charge) x xs in
      let c = charges-append xs ys in
      omega (arith, a, b, c)

  -- the sum of the idle entries, with one less, and with one more
  pub idle_less : (t u : Entries K V) (s : ℕ) (x : Idle K V) → IsDistinct eqb (map (λ y. y.stamp) t.idle) → u.idle ≡ without s t.idle → find (λ z. z.stamp == s) t.idle ≡ Some x → charges u.idle + x.charge ≡ charges t.idle
  idle_less t u s x apart i at =
      let a : charges u.idle ≡ charges (without s t.idle) = ap charges i in
      let c : charges (without s t.idle) + x.charge ≡ charges t.idle = charges_without s x t.idle apart at in
      omega (arith, a, c)

  pub idle_more : (t u : Entries K V) (x : Idle K V) → u.idle ≡ t.idle ++ x ∷ [] → charges u.idle ≡ charges t.idle + x.charge
  idle_more t u x i =
      let a : charges u.idle ≡ charges t.idle + charges (x ∷ []) = ap charges i ∙ charges-append t.idle (x ∷ []) in
      let o : charges (x ∷ []) ≡ x.charge + charges {K = K} {V = V} [] = sum_by-cons (λ (z : Idle K V). z.charge) x [] in
      omega (arith, a, o)

  pub sum_none : (t : Entries K V) → t.idle ≡ [] → t.held ≡ empty → charges_of t ≡ 0
  sum_none t i h =
      let a : charges t.idle ≡ charges {K = K} {V = V} [] = ap charges i in
      let b : held_charges t.held ≡ 0 = ap held_charges h ∙ ap (λ es. sum_by (λ (e : Held K V). e.charge) (map (λ (e : ℕ × Held K V). e.1) es)) (empty_by_length (entries empty) (sym (len-entries empty) ∙ len-empty nat_cmp (Held K V))) in
      let c : charges {K = K} {V = V} [] ≡ 0 = refl in
      omega (arith, a, b, c)

  pub held_bound : (t : Entries K V) (s : ℕ) (h : Held K V) → get t.held s ≡ Some h → h.charge ≤ charges_of t
  held_bound t s h at =
      let c : held_charges (remove t.held s) + h.charge ≡ held_charges t.held = sum-remove (λ e. e.charge) t.held s h at in
      omega (arith, c)

  pub idle_bound : (t : Entries K V) (s : ℕ) (x : Idle K V) → IsDistinct eqb (map (λ y. y.stamp) t.idle) → find (λ z. z.stamp == s) t.idle ≡ Some x → x.charge ≤ charges_of t
  idle_bound t s x apart at =
      let c : charges (without s t.idle) + x.charge ≡ charges t.idle = charges_without s x t.idle apart at in
      omega (arith, c)

  pub sum_with : (t u : Entries K V) (s : ℕ) (h : Held K V) → u.idle ≡ t.idle → u.held ≡ insert t.held s h → get t.held s ≡ None → charges_of u ≡ charges_of t + h.charge
  sum_with t u s h i k free =
      let a : charges u.idle ≡ charges t.idle = ap charges i in
      let b : held_charges u.held ≡ held_charges t.held + h.charge = ap held_charges k ∙ sum-insert (λ e. e.charge) t.held s h free in
      omega (arith, a, b)

  pub sum_less : (t u : Entries K V) (s : ℕ) (h : Held K V) → u.idle ≡ t.idle → u.held ≡ remove t.held s → get t.held s ≡ Some h → charges_of u + h.charge ≡ charges_of t
  sum_less t u s h i k at =
      let a : charges u.idle ≡ charges t.idle = ap charges i in
      let b : held_charges u.held ≡ held_charges (remove t.held s) = ap held_charges k in
      let c : held_charges (remove t.held s) + h.charge ≡ held_charges t.held = sum-remove (λ e. e.charge) t.held s h at in
      omega (arith, a, b, c)

  pub sum_changed : (t u : Entries K V) (s : ℕ) (h g : Held K V) → u.idle ≡ t.idle → u.held ≡ insert t.held s g → get t.held s ≡ Some h → charges_of u + h.charge ≡ charges_of t + g.charge
  sum_changed t u s h g i k at =
      let a : charges u.idle ≡ charges t.idle = ap charges i in
      let b : held_charges u.held ≡ held_charges (insert t.held s g) = ap held_charges k in
      let c : held_charges (insert t.held s g) + h.charge ≡ held_charges t.held + g.charge = sum-change (λ e. e.charge) t.held s h g at in
      omega (arith, a, b, c)

  pub sum_written : (t u : Entries K V) (s : ℕ) (h g : Held K V) → u.idle ≡ t.idle → u.held ≡ insert t.held s g → get t.held s ≡ Some h → g.charge ≡ h.charge → charges_of u ≡ charges_of t
  sum_written t u s h g i k at same = let a = sum_changed t u s h g i k at in omega (arith, a, same)

  pub sum_evicted : (t u : Entries K V) (s : ℕ) (x : Idle K V) → IsDistinct eqb (map (λ y. y.stamp) t.idle) → u.idle ≡ without s t.idle → u.held ≡ t.held → find (λ z. z.stamp == s) t.idle ≡ Some x → charges_of u + x.charge ≡ charges_of t
  sum_evicted t u s x apart i k at =
      let a : charges u.idle ≡ charges (without s t.idle) = ap charges i in
      let b : held_charges u.held ≡ held_charges t.held = ap held_charges k in
      let c : charges (without s t.idle) + x.charge ≡ charges t.idle = charges_without s x t.idle apart at in
      omega (arith, a, b, c)

  pub sum_revived : (t u : Entries K V) (s : ℕ) (x : Idle K V) (h : Held K V) → IsDistinct eqb (map (λ y. y.stamp) t.idle) → u.idle ≡ without s t.idle → u.held ≡ insert t.held s h → find (λ z. z.stamp == s) t.idle ≡ Some x → get t.held s ≡ None → h.charge ≡ x.charge → charges_of u ≡ charges_of t
  sum_revived t u s x h apart i k at free same =
      let a : charges u.idle ≡ charges (without s t.idle) = ap charges i in
      let b : held_charges u.held ≡ held_charges t.held + h.charge = ap held_charges k ∙ sum-insert (λ e. e.charge) t.held s h free in
      let c : charges (without s t.idle) + x.charge ≡ charges t.idle = charges_without s x t.idle apart at in
      omega (arith, a, b, c, same)

  pub sum_rested : (t u : Entries K V) (s : ℕ) (h : Held K V) (x : Idle K V) → u.idle ≡ t.idle ++ x ∷ [] → u.held ≡ remove t.held s → get t.held s ≡ Some h → x.charge ≡ h.charge → charges_of u ≡ charges_of t
  sum_rested t u s h x i k at same =
      let a : charges u.idle ≡ charges t.idle + charges (x ∷ []) = ap charges i ∙ charges-append t.idle (x ∷ []) in
      let o : charges (x ∷ []) ≡ x.charge + charges {K = K} {V = V} [] = sum_by-cons (λ (z : Idle K V). z.charge) x [] in
      let b : held_charges u.held ≡ held_charges (remove t.held s) = ap held_charges k in
      let c : held_charges (remove t.held s) + h.charge ≡ held_charges t.held = sum-remove (λ e. e.charge) t.held s h at in
      omega (arith, a, o, b, c, same)

  -- the stamps of the idle entries are distinct
  all_others : (t : NodeTable K V) (places : List ℕ) (r : IsRepresentation t places) (s : ℕ) (xs : List ℕ) → ((q : ℕ) → IsIn q xs → IsIn q t.idle) → ((q : ℕ) (x : Entry K V) → IsIn q xs → get t.nodes q ≡ Some x → s ≡ x.stamp → ⊥) → AllByRecursion (λ y. eqb s y ≡ false) (map (λ (x : Idle K V). x.stamp) (filter_map (idle_at_place t.nodes) xs))
  all_others t places r s [] all none = tt
  all_others t places r s (q ∷ xs) all none =
      let w = r.idle_ready q (all q (in_self q xs)) in
      let x : Idle K V = record { stamp = w.0.stamp; key = w.0.key; charge = w.0.charge; value = w.1 } in
      let at : idle_at_place t.nodes q ≡ Some x = ap (option_and_then as_idle) w.2 ∙ as_idle-ready w.0 w.1 w.4 in
      subst (λ o. AllByRecursion (λ y. eqb s y ≡ false) (map (λ (x : Idle K V). x.stamp) (cons_option o (filter_map (idle_at_place t.nodes) xs)))) (sym at)
      (ne_eqb s w.0.stamp (none q w.0 (in_self q xs) w.2), all_others t places r s xs (λ p m. all p (in_tail p q xs m)) (λ p y m. none p y (in_tail p q xs m)))

  stamps_along : (t : NodeTable K V) (places : List ℕ) (r : IsRepresentation t places) (xs : List ℕ) → ((q : ℕ) → IsIn q xs → IsIn q t.idle) → IsDistinct eqb xs → IsDistinct eqb (map (λ (x : Idle K V). x.stamp) (filter_map (idle_at_place t.nodes) xs))
  unfolding IsDistinct
  stamps_along t places r [] all d = tt
  stamps_along t places r (q ∷ xs) all d =
      let w = r.idle_ready q (all q (in_self q xs)) in
      let x : Idle K V = record { stamp = w.0.stamp; key = w.0.key; charge = w.0.charge; value = w.1 } in
      let at : idle_at_place t.nodes q ≡ Some x = ap (option_and_then as_idle) w.2 ∙ as_idle-ready w.0 w.1 w.4 in
      subst (λ o. IsDistinct eqb (map (λ (x : Idle K V). x.stamp) (cons_option o (filter_map (idle_at_place t.nodes) xs)))) (sym at) (
        all_others t places r w.0.stamp xs (λ p m. all p (in_tail p q xs m)) (λ p y m h s. absent_in q xs d.0 (subst (λ u. IsIn u xs) (sym (r.stamps q p w.0 y w.2 h s)) m)),
        stamps_along t places r xs (λ p m. all p (in_tail p q xs m)) d.1,
      )

  pub stamps_apart : (t : NodeTable K V) (places : List ℕ) → IsRepresentation t places → IsDistinct eqb (map (λ (x : Idle K V). x.stamp) (idle_in t))
  stamps_apart t places r = stamps_along t places r t.idle (λ q m. m) r.idle_apart

  -- the first of a list with distinct stamps, taken out
  without_all : (s : ℕ) (xs : List (Idle K V)) → AllByRecursion (λ y. eqb s y ≡ false) (map (λ (x : Idle K V). x.stamp) xs) → without s xs ≡ xs
  without_all s [] h = refl
  without_all s (x ∷ xs) h =
      ap (λ b. cond (not b) (x ∷ without s xs) (without s xs)) (nat_eq_equiv.symm x.stamp s ∙ h.0) ∙ ap (λ ys. x ∷ ys) (without_all s xs h.1)

  without_first : (s : ℕ) (x : Idle K V) (xs : List (Idle K V)) → x.stamp ≡ s → IsDistinct eqb (map (λ (y : Idle K V). y.stamp) (x ∷ xs)) → without s (x ∷ xs) ≡ xs
  unfolding IsDistinct
  without_first s x xs h d =
      ap (λ b. cond (not b) (x ∷ without s xs) (without s xs)) (eq-eqb x.stamp s h)
      ∙ without_all s xs (subst (λ u. AllByRecursion (λ y. eqb u y ≡ false) (map (λ (y : Idle K V). y.stamp) xs)) h d.0)

  pub first_out : (xs : List (Idle K V)) (o : Option (Idle K V)) (s : ℕ) (x : Idle K V) (rest : List (Idle K V)) → xs ≡ x ∷ rest → x.stamp ≡ s → IsDistinct eqb (map (λ (y : Idle K V). y.stamp) xs) → find (λ z. z.stamp == s) xs ≡ o → xs ≡ cons_option o [] ++ without s xs
  first_out xs o s x rest whole h d found =
      let one : o ≡ Some x = sym found ∙ ap (find (λ z. z.stamp == s)) whole ∙ ap (λ b. cond b (Some x) (find (λ z. z.stamp == s) rest)) (eq-eqb x.stamp s h) in
      let cut : without s xs ≡ rest = ap (without s) whole ∙ without_first s x rest h (subst (λ ys. IsDistinct eqb (map (λ (y : Idle K V). y.stamp) ys)) whole d) in
      whole ∙ (λ i. cons_option (sym one i) [] ++ sym cut i)
