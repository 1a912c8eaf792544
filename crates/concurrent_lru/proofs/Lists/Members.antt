-- Members of lists of numbers, and what a filter_map gives along them.
use Rattle.std.proofs.Common.{◌≡◌, ℕ, true, false, cond, not, List, [], ◌∷◌, ◌++◌, Option, refl, sym, ap, ◌∙◌, subst, eqb, ◌||◌}
use Rattle.std.specs.List.{list_any, filter, filter_map, cons_option, IsDistinct}
use Rattle.std.specs.Cmp.{nat_eq_equiv}
use Rattle.std.proofs.lemmas.Bool.{eqb-true, true≢false, or_right, or_left}
use Rattle.std.proofs.lemmas.List.Folds.{list_any-append}
use Rattle.std.proofs.lemmas.List.Elements.{filter_map-append}
use Rattle.concurrent_lru.proofs.Lists.DistinctNumbers.{distinct_parts}

abbrev pub IsIn : ℕ → List ℕ → Type 0
IsIn q xs = list_any (eqb q) xs ≡ true

pub in_self : (p : ℕ) (xs : List ℕ) → IsIn p (p ∷ xs)
in_self p xs = ap (λ t. t || list_any (eqb p) xs) (nat_eq_equiv.refl p)

pub in_tail : (q p : ℕ) (xs : List ℕ) → IsIn q xs → IsIn q (p ∷ xs)
in_tail q p xs h = or_right (eqb q p) (list_any (eqb q) xs) h

pub in_rest : (q p : ℕ) (xs : List ℕ) → IsIn q (p ∷ xs) → eqb q p ≡ false → IsIn q xs
in_rest q p xs h ne = sym (ap (λ t. t || list_any (eqb q) xs) ne) ∙ h

pub in_wider : (q p : ℕ) (a b : List ℕ) → IsIn q (a ++ b) → IsIn q (a ++ p ∷ b)
in_wider q p [] b h = in_tail q p b h
in_wider q p (x ∷ a) b h =
    elim (eqb q x) as (λ t. (t || list_any (eqb q) (a ++ b)) ≡ true → (t || list_any (eqb q) (a ++ p ∷ b)) ≡ true) [ true ↦ λ _. refl | false ↦ λ k. in_wider q p a b k ] h

pub in_narrower : (q p : ℕ) (a b : List ℕ) → IsIn q (a ++ p ∷ b) → eqb q p ≡ false → IsIn q (a ++ b)
in_narrower q p [] b h ne = in_rest q p b h ne
in_narrower q p (x ∷ a) b h ne =
    elim (eqb q x) as (λ t. (t || list_any (eqb q) (a ++ p ∷ b)) ≡ true → (t || list_any (eqb q) (a ++ b)) ≡ true) [ true ↦ λ _. refl | false ↦ λ k. in_narrower q p a b k ne ] h

pub not_self : (q p : ℕ) (xs : List ℕ) → list_any (eqb p) xs ≡ false → IsIn q xs → eqb q p ≡ false
not_self q p xs free h =
    elim (eqb q p) as (λ t. eqb q p ≡ t → eqb q p ≡ false) [
      | true ↦ λ e. absurd (true≢false (sym (subst (λ t. IsIn t xs) (eqb-true q p e) h) ∙ free))
      | false ↦ λ e. e
    ] refl

pub free_beside : (p : ℕ) (a b : List ℕ) → IsDistinct eqb (a ++ p ∷ b) → list_any (eqb p) (a ++ b) ≡ false
free_beside p a b h =
    let parts = distinct_parts p a b h in
    list_any-append (eqb p) a b ∙ ap (λ t. t || list_any (eqb p) b) parts.0 ∙ parts.1

-- functions that agree on the members give the same
pub filter_map-same : {Y : Type 0} (f h : ℕ → Option Y) (xs : List ℕ) → ((q : ℕ) → IsIn q xs → f q ≡ h q) → filter_map f xs ≡ filter_map h xs
filter_map-same f h [] same = refl
filter_map-same f h (x ∷ xs) same =
    ap (λ o. cons_option o (filter_map f xs)) (same x (in_self x xs))
    ∙ ap (cons_option (h x)) (filter_map-same f h xs (λ q k. same q (in_tail q x xs k)))

-- around one member
pub filter_map-mid : {Y : Type 0} (f : ℕ → Option Y) (p : ℕ) (a b : List ℕ) → filter_map f (a ++ p ∷ b) ≡ filter_map f a ++ cons_option (f p) (filter_map f b)
filter_map-mid f p a b = filter_map-append f a (p ∷ b)

pub in_left : (q : ℕ) (a b : List ℕ) → IsIn q a → IsIn q (a ++ b)
in_left q a b h = list_any-append (eqb q) a b ∙ or_left (list_any (eqb q) a) (list_any (eqb q) b) h

pub in_right : (q : ℕ) (a b : List ℕ) → IsIn q b → IsIn q (a ++ b)
in_right q a b h = list_any-append (eqb q) a b ∙ or_right (list_any (eqb q) a) (list_any (eqb q) b) h

pub in_filter : (q p : ℕ) (xs : List ℕ) → IsIn q xs → eqb q p ≡ false → IsIn q (filter (λ t. not (eqb t p)) xs)
in_filter q p [] h ne = h
in_filter q p (x ∷ xs) h ne =
    elim (eqb x p) as (λ b. eqb x p ≡ b → IsIn q (cond (not b) (x ∷ filter (λ t. not (eqb t p)) xs) (filter (λ t. not (eqb t p)) xs))) [
      | true ↦ λ b. in_filter q p xs (in_rest q x xs h (ap (eqb q) (eqb-true x p b) ∙ ne)) ne
      | false ↦ λ b. elim (eqb q x) as (λ u. (u || list_any (eqb q) xs) ≡ true → (u || list_any (eqb q) (filter (λ t. not (eqb t p)) xs)) ≡ true) [ true ↦ λ _. refl | false ↦ λ k. in_filter q p xs k ne ] h
    ] refl
