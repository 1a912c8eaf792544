-- The charge of a key, made from the begins of a run.
use Rattle.std.proofs.Common.{◌≡◌, ℕ, ◌<◌, Bool, true, false, cond, List, [], ◌∷◌, map, refl, sym, ap, ◌∙◌, arith, ◌||◌, Some}
use Rattle.std.specs.List.{list_any, find, AllByRecursion}
use Rattle.std.specs.Option.{option_map_or}
use Rattle.std.specs.Cmp.{IsEquivalence}
use Rattle.std.proofs.lemmas.Bool.{true≢false}
use Rattle.concurrent_lru.specs.Request as ask
use Rattle.concurrent_lru.specs.Request.{Request}
use Rattle.concurrent_lru.specs.Results.{IsCharged}
use Rattle.concurrent_lru.specs.Uses.{begins, HaveOneCharge, charge_in}
use Rattle.concurrent_lru.proofs.Runs.LongestEnds.{AgreesOnEqual}
use Rattle.concurrent_lru.proofs.Runs.PlainRuns.{IsPriced}

find_same : {X : Type 0} (p q : X → Bool) → ((x : X) → p x ≡ q x) → (xs : List X) → find p xs ≡ find q xs
find_same p q h [] = refl
find_same p q h (x ∷ xs) = ap (λ t. cond t (Some x) (find p xs)) (h x) ∙ ap (cond (q x) (Some x)) (find_same p q h xs)

module _ {K : Type 0} (E : K → K → Bool) (eq : IsEquivalence E) where
  -- equal keys have one charge
  pub charge_agrees : (bs : List (K × ℕ)) → AgreesOnEqual E (charge_in E bs)
  charge_agrees bs k l t = ap (λ b. option_map_or (λ b. b.1) b 0) (find_same (λ b. E b.0 k) (λ b. E b.0 l) (λ b. eq.symm b.0 k ∙ eq.congr k l b.0 t ∙ eq.symm l b.0) bs)

  -- a key with a charge was begun
  pub charged_begun : (bs : List (K × ℕ)) (k : K) → 0 < charge_in E bs k → list_any (E k) (map (λ b. b.0) bs) ≡ true
  charged_begun [] k h = absurd (omega (arith, h))
  charged_begun (b ∷ bs) k h =
      ap (λ t. t || list_any (E k) (map (λ b. b.0) bs)) (eq.symm k b.0) ∙ elim (E b.0 k) as (λ t. 0 < option_map_or (λ b. b.1) (cond t (Some b) (find (λ b. E b.0 k) bs)) 0 → (t || list_any (E k) (map (λ b. b.0) bs)) ≡ true) [
        | true ↦ λ _. refl
        | false ↦ λ h. charged_begun bs k h
      ] h

  -- each begin is among the begins
  begun_self : (bs : List (K × ℕ)) → AllByRecursion (λ b. list_any (λ d. E d.0 b.0) bs ≡ true) bs
  begun_self [] = tt
  begun_self (b ∷ bs) = (ap (λ t. t || list_any (λ d. E d.0 b.0) bs) (eq.refl b.0), behind b bs bs (begun_self bs))
    where
      behind : (b : K × ℕ) (bs cs : List (K × ℕ)) → AllByRecursion (λ c. list_any (λ d. E d.0 c.0) bs ≡ true) cs → AllByRecursion (λ c. list_any (λ d. E d.0 c.0) (b ∷ bs) ≡ true) cs
      behind b bs [] h = tt
      behind b bs (c ∷ cs) h = (ap (λ t. E b.0 c.0 || t) h.0 ∙ Rattle.std.proofs.Math.Bool.or-true (E b.0 c.0), behind b bs cs h.1)

  charge_of_begin : (k : K) (c : ℕ) (bs : List (K × ℕ)) → list_any (λ d. E d.0 k) bs ≡ true → AllByRecursion (λ d. E k d.0 ≡ true → c ≡ d.1) bs → c ≡ charge_in E bs k
  charge_of_begin k c [] h a = absurd (true≢false (sym h))
  charge_of_begin k c (b ∷ bs) h a = elim (E b.0 k) as (λ t. E b.0 k ≡ t → (t || list_any (λ d. E d.0 k) bs) ≡ true → c ≡ option_map_or (λ b. b.1) (cond t (Some b) (find (λ b. E b.0 k) bs)) 0) [
    | true ↦ λ t h. a.0 (eq.symm k b.0 ∙ t)
    | false ↦ λ t h. charge_of_begin k c bs h a.1
  ] refl h

  -- where each key has one charge, each begin has its key's
  pub begins_charged : (bs : List (K × ℕ)) → HaveOneCharge E bs → AllByRecursion (λ b. b.1 ≡ charge_in E bs b.0) bs
  begins_charged bs one = go bs (begun_self bs) one
    where
      go : (cs : List (K × ℕ)) → AllByRecursion (λ c. list_any (λ d. E d.0 c.0) bs ≡ true) cs → AllByRecursion (λ c. AllByRecursion (λ d. E c.0 d.0 ≡ true → c.1 ≡ d.1) bs) cs → AllByRecursion (λ c. c.1 ≡ charge_in E bs c.0) cs
      go [] h a = tt
      go (c ∷ cs) h a = (charge_of_begin c.0 c.1 bs h.0 a.0, go cs h.1 a.1)

pub priced : {K V : Type 0} (price : K → ℕ) (rs : List (Request K V)) → AllByRecursion (λ b. b.1 ≡ price b.0) (begins rs) → AllByRecursion IsCharged rs → AllByRecursion (IsPriced price) rs
priced price [] h c = tt
priced price (ask.begin k n ∷ rs) h c = ((h.0, c.0), priced price rs h.1 c.1)
priced price (_ ∷ rs) h c = (tt, priced price rs h c.1)
