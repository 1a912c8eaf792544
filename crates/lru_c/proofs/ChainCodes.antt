-- The code of a chain that has entries.
use Rattle.std.proofs.Common.{◌≡◌, ℕ, List, [], ◌∷◌, ◌++◌, refl}
use Rattle.concurrent_lru.specs.Cache.{Idle}
use Rattle.lru_c.specs.Codes as code
use Rattle.lru_c.specs.Chains.{code_of_entries}

module _ {K : Type 0} where
  pub more : (xs ys : List (Idle K ℕ)) → (xs ≡ [] → ⊥) → code.not_empty ≡ code_of_entries (xs ++ ys)
  more [] ys h = absurd (h refl)
  more (x ∷ xs) ys h = refl
