-- What a history says about a hit.
use Rattle.std.specs.Prelude.{◌≡◌, ℕ, Bool, true, List, [], ◌∷◌, ◌++◌}
use mathlib.Core.List.{IsPrefix}
use Rattle.logbook.specs.Pages.{Book}
use Rattle.lru_clock.specs.declared.history.Event.{Event}
use Rattle.lru_clock.specs.History.{coming, entry, ComesTo, HasCome}
use Rattle.lru_clock.specs.Pins.{PastOf}

module _ {K V : Type 0} where
  -- `log` ends when an entry of this value comes to some slot, whose making drew this ticket
  abbrev pub ComesLast : ℕ → V → List (Event K V) → Type 0
  ComesLast ticket v log = (before : List (Event K V)) × (p : ℕ) × (skipped : ℕ) × (k : K) × (log ≡ before ++ coming p skipped ticket (entry k v) ∷ [])

module _ {K V : Type 0} (E : K → K → Bool) where
  -- an entry with an equal key and this value came to some slot within `log`
  pub record HasArrived (log : List (Event K V)) (k : K) (v : V) : Type 0 where
    pub place : ℕ
    pub key : K
    pub comes : ComesTo place (entry key v) log
    pub equal : E key k ≡ true

  -- the making of a value for an equal key began after the prefix `since`; then its entry came to
  -- some slot, and is there at the end of `log`
  abbrev pub IsFresh : List (Event K V) → List (Event K V) → K → V → Type 0
  IsFresh since log k v = (p : ℕ) × (l : K) × HasCome p since (entry l v) log × (E l k ≡ true)

  -- `log` is of the past's history and extends what the past has seen, and such an entry is there
  -- at the end of it
  abbrev pub Sees : PastOf K V → K → V → Book → List (Event K V) → Type 0
  Sees past k v book log = (book ≡ past.book) × IsPrefix past.seen log × IsFresh past.since log k v
