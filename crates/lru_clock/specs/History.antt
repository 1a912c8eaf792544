-- The history of a shard.
use Rattle.std.specs.Prelude.{◌≡◌, ℕ, ◌+◌, ◌<◌, ◌≤◌, ◌==◌, if◌then◌else◌, true, List, [], ◌∷◌, ◌++◌, Option, None, Some}
use mathlib.Core.List.{IsPrefix}
use Rattle.std.specs.List.{sum_by}
use Rattle.logbook.specs.Pages.{Book, Named}
use Rattle.lru_clock.specs.declared.history.Entry.{Entry}
use Rattle.lru_clock.specs.declared.history.Event.{Event}

-- the word with this key in a book
abbrev pub named : ℕ → Book → Named
named k b = record { tracked = true; key = k; book = b }

module _ {K V : Type 0} where
  abbrev pub entry : K → V → Entry K V
  entry k v = record { key = k; value = v }

  -- an event without an entry; an entry comes, whose making drew this ticket
  abbrev pub event : ℕ → ℕ → Event K V
  event p n = record { place = p; skipped = n; ticket = 0; entry = None }

  abbrev pub coming : ℕ → ℕ → ℕ → Entry K V → Event K V
  coming p n t e = record { place = p; skipped = n; ticket = t; entry = Some e }

  -- by how much the event raises the counter of this place
  abbrev pub of_place : ℕ → Event K V → ℕ
  of_place p e = if e.place == p then e.skipped + 1 else 0

  -- the counter of a place after these events
  abbrev pub turns : ℕ → List (Event K V) → ℕ
  turns p log = sum_by (of_place p) log

  -- the entry that the slot at a place has after these events, if it had this one before them
  abbrev pub entry_after : ℕ → Option (Entry K V) → List (Event K V) → Option (Entry K V)
  entry_after p had [] = had
  entry_after p had (e ∷ es) = entry_after p (if e.place == p then e.entry else had) es

  -- the entry that the slot at a place has
  abbrev pub entry_at : ℕ → List (Event K V) → Option (Entry K V)
  entry_at p log = entry_after p None log

  -- a ticket was drawn after the prefix `since`, within the longer prefix `before`
  pub record IsDrawn (ticket : ℕ) (since before : List (Event K V)) : Type 0 where
    pub later : IsPrefix since before
    pub after : turns 1 since < ticket
    pub within : ticket ≤ turns 1 before

  -- the making of the entry drew its ticket after the prefix `since`; then the entry came to the
  -- slot at a place, and is there at the end of `log`
  pub record HasCome (p : ℕ) (since : List (Event K V)) (e : Entry K V) (log : List (Event K V)) : Type 0 where
    pub before : List (Event K V)
    pub skipped : ℕ
    pub ticket : ℕ
    pub begun : IsDrawn ticket since before
    pub came : IsPrefix (before ++ coming p skipped ticket e ∷ []) log
    pub there : entry_at p log ≡ Some e

  -- the entry came to the slot at a place within `log`
  abbrev pub ComesTo : ℕ → Entry K V → List (Event K V) → Type 0
  ComesTo p e log = (before : List (Event K V)) × (skipped : ℕ) × (ticket : ℕ) × IsPrefix (before ++ coming p skipped ticket e ∷ []) log
