-- The step of prune: a front that suffices for a total of 0 is the whole list.
use Rattle.std.proofs.Common.{◌≡◌, ℕ, ◌+◌, ◌<◌, inl, inr, Bool, cond, List, [], ◌∷◌, ◌++◌, map, Some, refl, sym, ap, ◌∙◌, subst, arith, eqb, ◌==◌}
use Rattle.std.specs.List.{find, IsDistinct}
use Rattle.std.proofs.lemmas.Bool.{eq-eqb}
use Rattle.std.proofs.lemmas.List.{append-nil}
use Rattle.std.proofs.lemmas.List.Sums.{sum_by-append}
use Rattle.concurrent_lru.specs.Cache.{Cache, Idle, IsLawful, IsFront, sum_of, charges}
use Rattle.concurrent_lru.specs.Entries.{Entries, cache_with, charges_of}
use Rattle.concurrent_lru.proofs.Steps.LawfulAfterChange.{find_rest}
use Rattle.concurrent_lru.proofs.Entries.SumsOfHeld.{sum_by-cons}

module _ {K V : Type 0} where
  -- charges are above 0, so what is left over a total of 0 is nothing
  nothing_left : (E : K → K → Bool) (c : Cache K V) (out rest : List (Idle K V)) → IsLawful E c → c.idle ≡ out ++ rest → charges rest ≡ 0 → rest ≡ []
  nothing_left E c out [] l parts none = refl
  nothing_left E c out (x ∷ rest) l parts none =
      let apart : IsDistinct eqb (map (λ y. y.stamp) (out ++ x ∷ rest)) = subst (λ xs. IsDistinct eqb (map (λ y. y.stamp) xs)) parts l.idle_apart in
      let first : find (λ y. y.stamp == x.stamp) (x ∷ rest) ≡ Some x = ap (λ b. cond b (Some x) (find (λ y. y.stamp == x.stamp) rest)) (eq-eqb x.stamp x.stamp refl) in
      let here : find (λ y. y.stamp == x.stamp) c.idle ≡ Some x = ap (find (λ y. y.stamp == x.stamp)) parts ∙ find_rest x.stamp x out (x ∷ rest) apart first in
      let some : 0 < x.charge = l.charged x.stamp x.key x.charge (inl (x, here, refl, refl)) in
      let sum : charges (x ∷ rest) ≡ x.charge + charges rest = sum_by-cons (λ y. y.charge) x rest in
      absurd (omega (arith, some, sum, none))

  left_of : (E : K → K → Bool) (c : Cache K V) (total : ℕ) (out rest : List (Idle K V)) → IsLawful E c → total ≡ sum_of c → IsFront total 0 c.idle out rest → rest ≡ []
  left_of E c total out rest l sums front = elim front.suffices [
    | inl h ↦
        let parts : charges c.idle ≡ charges out + charges rest = ap charges front.parts ∙ sum_by-append (λ x. x.charge) out rest in
        nothing_left E c out rest l front.parts (omega (arith, h, parts, sums))
    | inr h ↦ h
  ]

  -- settling to 0
  pub prunes : {E : K → K → Bool} {capacity most next : ℕ} (t u : Entries K V) (out : List (Idle K V)) → IsLawful E (cache_with capacity most next t) → u.held ≡ t.held → IsFront (charges_of t) 0 t.idle out u.idle
      → (out ≡ t.idle) × (cache_with capacity most next u ≡ record (cache_with capacity most next t) { idle = [] })
  prunes {E} {capacity} {most} {next} t u out l held front =
      let none : u.idle ≡ [] = left_of E (cache_with capacity most next t) (charges_of t) out u.idle l refl front in (
        sym (front.parts ∙ ap (λ xs. out ++ xs) none ∙ append-nil out),
        λ j. record { capacity = capacity; most_pins = most; next = next; idle = none j; held = held j },
      )
