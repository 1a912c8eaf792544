-- Lists of entries under distinct numbers, as maps: one entry more, one changed, one less.
use Rattle.std.proofs.Common.{◌≡◌, ℕ, Bool, true, false, cond, List, [], ◌∷◌, ◌++◌, map, Option, Some, None, refl, sym, ap, ◌∙◌, subst, eqb, ◌==◌}
use Rattle.std.specs.List as list
use Rattle.std.specs.List.{AllByRecursion}
use Rattle.std.specs.Ordering.{nat_cmp, eq_by_cmp}
use Rattle.std.specs.Cmp.{nat_cmp_total, nat_eq_equiv, eq_by_cmp_equiv, unsigned_tied}
use Rattle.std.specs.FinMap.{from_entries, insert, remove, get-from_entries, get-insert, get-remove, same_map, nat_cmp-IsAntisymmetric, from_entries_push}
use Rattle.std.specs.FinMap.Entries.{find}
use Rattle.std.proofs.lemmas.Bool.{eqb-true}
use Rattle.std.proofs.lemmas.Option.{none-some}

abbrev pub same : ℕ → ℕ → Bool
same = eq_by_cmp nat_cmp

pub same-refl : (s : ℕ) → same s s ≡ true
same-refl s = (eq_by_cmp_equiv nat_cmp_total).refl s

pub same-symm : (s t : ℕ) → same s t ≡ same t s
same-symm s t = (eq_by_cmp_equiv nat_cmp_total).symm s t

pub same-true : (s t : ℕ) → same s t ≡ true → s ≡ t
same-true s t h = eqb-true s t (sym (unsigned_tied s t) ∙ h)

pub same_of : (q s t : ℕ) → same q t ≡ true → same s t ≡ false → same q s ≡ false
same_of q s t a b = subst (λ u. same u s ≡ false) (sym (same-true q t a)) (same-symm t s ∙ b)

-- where the first of two is not the answer
pub head_none : {A : Type 0} (t : Bool) (x : A) (o : Option A) → cond t (Some x) o ≡ None → (t ≡ false) × (o ≡ None)
head_none true x o h = absurd (none-some x (sym h))
head_none false x o h = (refl, h)

-- where nothing has the stamp, no stamp equals it
pub none_has : {X : Type 0} (stamp : X → ℕ) (s : ℕ) (xs : List X) → list.find (λ x. stamp x == s) xs ≡ None → AllByRecursion (λ y. eqb s y ≡ false) (map stamp xs)
none_has stamp s [] h = tt
none_has stamp s (x ∷ xs) h =
    let apart = head_none (stamp x == s) x (list.find (λ y. stamp y == s) xs) h in
    (nat_eq_equiv.symm s (stamp x) ∙ apart.0, none_has stamp s xs apart.1)

cond_same : {A : Type 0} (t : Bool) (x y z : A) → cond t y z ≡ cond t y (cond t x z)
cond_same true x y z = refl
cond_same false x y z = refl

module _ {X : Type 0} where
  -- what is found in a list joined of two
  pub find-absent : (q : ℕ) (a b : List (ℕ × X)) → find nat_cmp q a ≡ None → find nat_cmp q (a ++ b) ≡ find nat_cmp q b
  find-absent q [] b h = refl
  find-absent q (e ∷ a) b h =
      elim (same q e.0) as (λ t. cond t (Some e.1) (find nat_cmp q a) ≡ None → cond t (Some e.1) (find nat_cmp q (a ++ b)) ≡ find nat_cmp q b) [
        | true ↦ λ h. absurd (none-some e.1 (sym h))
        | false ↦ λ h. find-absent q a b h
      ] h

  pub find-mid : (s : ℕ) (x : X) (a b : List (ℕ × X)) → find nat_cmp s a ≡ None → find nat_cmp s (a ++ (s, x) ∷ b) ≡ Some x
  find-mid s x a b h = find-absent s a ((s, x) ∷ b) h ∙ ap (λ t. cond t (Some x) (find nat_cmp s b)) (same-refl s)

  -- another value at s
  pub find-changed : (q s : ℕ) (x y : X) (a b : List (ℕ × X)) → find nat_cmp s a ≡ None → find nat_cmp q (a ++ (s, y) ∷ b) ≡ cond (same q s) (Some y) (find nat_cmp q (a ++ (s, x) ∷ b))
  find-changed q s x y [] b h = cond_same (same q s) (Some x) (Some y) (find nat_cmp q b)
  find-changed q s x y (e ∷ a) b h =
      let apart = head_none (same s e.0) e.1 (find nat_cmp s a) h in
      elim (same q e.0) as (λ t. same q e.0 ≡ t → cond t (Some e.1) (find nat_cmp q (a ++ (s, y) ∷ b)) ≡ cond (same q s) (Some y) (cond t (Some e.1) (find nat_cmp q (a ++ (s, x) ∷ b)))) [
        | true ↦ λ t. ap (λ u. cond u (Some y) (Some e.1)) (sym (same_of q s e.0 t apart.0))
        | false ↦ λ t. find-changed q s x y a b apart.1
      ] refl

  -- one less
  pub find-cut : (q s : ℕ) (x : X) (a b : List (ℕ × X)) → find nat_cmp s a ≡ None → find nat_cmp s b ≡ None → find nat_cmp q (a ++ b) ≡ cond (same q s) None (find nat_cmp q (a ++ (s, x) ∷ b))
  find-cut q s x [] b h k =
      elim (same q s) as (λ t. same q s ≡ t → find nat_cmp q b ≡ cond t None (cond t (Some x) (find nat_cmp q b))) [
        | true ↦ λ t. subst (λ u. find nat_cmp u b ≡ None) (sym (same-true q s t)) k
        | false ↦ λ t. refl
      ] refl
  find-cut q s x (e ∷ a) b h k =
      let apart = head_none (same s e.0) e.1 (find nat_cmp s a) h in
      elim (same q e.0) as (λ t. same q e.0 ≡ t → cond t (Some e.1) (find nat_cmp q (a ++ b)) ≡ cond (same q s) None (cond t (Some e.1) (find nat_cmp q (a ++ (s, x) ∷ b)))) [
        | true ↦ λ t. ap (λ u. cond u None (Some e.1)) (sym (same_of q s e.0 t apart.0))
        | false ↦ λ t. find-cut q s x a b apart.1 k
      ] refl

  -- the same of maps
  pub from_entries-changed : (s : ℕ) (x y : X) (a b : List (ℕ × X)) → find nat_cmp s a ≡ None → from_entries {R = nat_cmp} (a ++ (s, y) ∷ b) ≡ insert (from_entries {R = nat_cmp} (a ++ (s, x) ∷ b)) s y
  from_entries-changed s x y a b h = same_map nat_cmp_total nat_cmp-IsAntisymmetric _ _ (λ q.
      get-from_entries nat_cmp_total (a ++ (s, y) ∷ b) q ∙ find-changed q s x y a b h
      ∙ ap (cond (same q s) (Some y)) (sym (get-from_entries nat_cmp_total (a ++ (s, x) ∷ b) q))
      ∙ sym (get-insert nat_cmp_total (from_entries {R = nat_cmp} (a ++ (s, x) ∷ b)) s y q))

  pub from_entries-cut : (s : ℕ) (x : X) (a b : List (ℕ × X)) → find nat_cmp s a ≡ None → find nat_cmp s b ≡ None → from_entries {R = nat_cmp} (a ++ b) ≡ remove (from_entries {R = nat_cmp} (a ++ (s, x) ∷ b)) s
  from_entries-cut s x a b h k = same_map nat_cmp_total nat_cmp-IsAntisymmetric _ _ (λ q.
      get-from_entries nat_cmp_total (a ++ b) q ∙ find-cut q s x a b h k
      ∙ ap (cond (same q s) None) (sym (get-from_entries nat_cmp_total (a ++ (s, x) ∷ b) q))
      ∙ sym (get-remove nat_cmp_total (from_entries {R = nat_cmp} (a ++ (s, x) ∷ b)) s q))

  pub from_entries-push : (s : ℕ) (x : X) (a : List (ℕ × X)) → find nat_cmp s a ≡ None → from_entries {R = nat_cmp} (a ++ (s, x) ∷ []) ≡ insert (from_entries {R = nat_cmp} a) s x
  from_entries-push s x a h = from_entries_push nat_cmp_total nat_cmp-IsAntisymmetric a s x h
