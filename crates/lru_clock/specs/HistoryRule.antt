-- The rule of a history, and what its steps tell their callers.
use Rattle.std.specs.Prelude.{◌≡◌, ℕ, ◌==◌, ◌<◌, true, List, ◌++◌, ◌∷◌, [], length, MatchBool}
use Rattle.logbook.specs.Pages.{Cell, cell, Step, View, may_make}
use Rattle.lru_clock.specs.declared.history.Event.{Event}
use Rattle.lru_clock.specs.History.{turns}

module _ {K V : Type 0} where
  -- the history knows its head and the counter of each slot that has an event, and the counter has
  -- the value to which the events have raised it
  pub record IsKept (cells : List Cell) (log : List (Event K V)) : Type 0 where
    pub some : 0 < length cells
    pub head : (cell cells 0).1 ≡ true
    pub no_slot : turns 0 log ≡ 0
    pub slots : (p : ℕ) → 0 < turns p log → (p < length cells) × (cell cells p ≡ (turns p log, true))

  abbrev pub Looks : Step (Event K V) → View (Event K V) ℕ → ℕ → View (Event K V) ℕ → Type 0
  Looks s v found w = turns s.key w.0 ≡ found

  -- the history ends with the event that was asked for, and the counter has the new value, unless
  -- its value was not the expected one
  abbrev pub Adds : Step (Event K V) → View (Event K V) ℕ → ℕ → View (Event K V) ℕ → Type 0
  Adds s v found w = MatchBool (found == s.old) ((mid : List (Event K V)) × (w.0 ≡ (v.0 ++ mid) ++ s.ask ∷ []) × (turns s.key w.0 ≡ s.new)) (turns s.key w.0 ≡ found)

  abbrev pub Widens : Step (Event K V) → View (Event K V) ℕ → ℕ → View (Event K V) ℕ → Type 0
  Widens s v found w = w.1.0.right ≡ may_make

  abbrev pub Begins : Step (Event K V) → View (Event K V) ℕ → ℕ → View (Event K V) ℕ → Type 0
  Begins s v found w = turns v.1.0.key w.0 ≡ 1
