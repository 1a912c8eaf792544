-- A map after a removal, and a list of places without one of them.
use Rattle.std.proofs.Common.{◌≡◌, ℕ, Bool, true, false, cond, Option, Some, None, refl, sym, ap, ◌∙◌, eqb}
use Rattle.std.specs.Ordering.{nat_cmp}
use Rattle.std.specs.Cmp.{nat_cmp_total, unsigned_tied}
use Rattle.std.specs.FinMap.{FinMap, get, remove, get-remove}
use Rattle.std.proofs.lemmas.Option.{none-some}
use Rattle.concurrent_lru.proofs.Lists.DistinctEntries.{same}

module _ {X : Type 0} where
  -- a map after a removal
  pub removed_other : (m : FinMap nat_cmp X) (p q : ℕ) → eqb q p ≡ false → get (remove m p) q ≡ get m q
  removed_other m p q ne = get-remove nat_cmp_total m p q ∙ ap (λ t. cond t None (get m q)) (unsigned_tied q p ∙ ne)

  removed_cases : (t : Bool) (o : Option X) (x : X) → cond t None o ≡ Some x → (t ≡ false) × (o ≡ Some x)
  removed_cases true o x h = absurd (none-some x h)
  removed_cases false o x h = (refl, h)

  pub removed_some : (m : FinMap nat_cmp X) (p q : ℕ) (x : X) → get (remove m p) q ≡ Some x → (eqb q p ≡ false) × (get m q ≡ Some x)
  removed_some m p q x h =
      let r = removed_cases (same q p) (get m q) x (sym (get-remove nat_cmp_total m p q) ∙ h) in
      (sym (unsigned_tied q p) ∙ r.0, r.1)
