-- The values that are being made.
use Rattle.std.specs.Prelude.{◌≡◌, ℕ, ◌<◌, ◌&&◌, Bool, true, false, not, List, [], ◌∷◌, ◌++◌, Some, slice_get, nat_eq, MatchBool}
use Rattle.std.specs.List.{AllByRecursion, IsDistinct, list_any, remove}
use Rattle.std.proofs.Math.ListN.{set}
use Rattle.lru_clock.specs.declared.makings.Ended.{Ended}
use Rattle.lru_clock.specs.declared.makings.Ended.TheVariants as ended
use Rattle.lru_clock.specs.declared.makings.Making.{Making}

module _ {K : Type 0} where
  -- a making; the same one, invalidated
  abbrev pub making : K → ℕ → Bool → Making K
  making k n is_invalidated = record { key = k; number = n; is_invalidated = is_invalidated }

  abbrev pub invalidated : Making K → Making K
  invalidated m = making m.key m.number true

  -- it has this number; one of them has it
  abbrev pub is_numbered : ℕ → Making K → Bool
  is_numbered n m = nat_eq m.number n

  abbrev pub has_number : ℕ → List (Making K) → Bool
  has_number n ms = list_any (is_numbered n) ms

  -- an item for which a test is true is at this index
  abbrev pub IsAt : (Making K → Bool) → List (Making K) → ℕ → Type 0
  IsAt test ms i = (m : Making K) × (slice_get ms i ≡ Some m) × (test m ≡ true)

  -- the making of a key with a number, which none had, was added
  abbrev pub IsWith : List (Making K) → K → ℕ → List (Making K) → Type 0
  IsWith old k n new = (new ≡ old ++ making k n false ∷ []) × (has_number n old ≡ false)

  -- a making was removed, and none has its number
  abbrev pub IsWithout : List (Making K) → Making K → List (Making K) → Type 0
  IsWithout old m new = (i : ℕ) × (slice_get old i ≡ Some m) × (new ≡ remove old i) × (has_number m.number new ≡ false)

  -- the making with a number has ended
  abbrev pub HasEnded : ℕ → List (Making K) → List (Making K) → Type 0
  HasEnded n old new = (m : Making K) × (m.number ≡ n) × IsWithout old m new

  -- how the making with a number ended
  abbrev pub Ends : ℕ → List (Making K) → Ended K → List (Making K) → Type 0
  Ends n old (ended.Current k) new = IsWithout old (making k n false) new
  Ends n old (ended.Invalidated k) new = IsWithout old (making k n true) new
  Ends n old ended.Unknown new = (has_number n old ≡ false) × (new ≡ old)

  module _ (E : K → K → Bool) where
    -- it is the making of this key, and not invalidated
    abbrev pub is_of : K → Making K → Bool
    is_of k m = not m.is_invalidated && E m.key k

    -- both are makings of one key, and not invalidated
    abbrev pub is_same : Making K → Making K → Bool
    is_same l m = not l.is_invalidated && (not m.is_invalidated && E l.key m.key)

    -- the making of a key was invalidated, if there is one
    abbrev pub Marks : K → List (Making K) → List (Making K) → Type 0
    Marks k old new = MatchBool (list_any (is_of k) old)
        ((i : ℕ) × (m : Making K) × (slice_get old i ≡ Some m) × (is_of k m ≡ true) × (new ≡ set old i (invalidated m)))
        (new ≡ old)

    -- each making has a number of its own below the next one, and each key has one making that is
    -- not invalidated
    pub record AreApart (next : ℕ) (ms : List (Making K)) : Type 0 where
      pub numbered : AllByRecursion (λ m. m.number < next) ms
      pub numbers : IsDistinct (λ l m. nat_eq l.number m.number) ms
      pub keys : IsDistinct is_same ms
