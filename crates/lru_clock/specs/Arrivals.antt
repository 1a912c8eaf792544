-- How an entry came to its slot.
use Rattle.std.specs.Prelude.{◌≡◌, ℕ, ◌+◌, ◌<◌, ◌≤◌, List, [], ◌∷◌, ◌++◌}
use Rattle.logbook.specs.Pages.{Named}
use Rattle.lru_clock.specs.declared.history.Entry.{Entry}
use Rattle.lru_clock.specs.declared.history.Event.{Event}
use Rattle.lru_clock.specs.declared.history.past.Arrival.{Arrival}
use Rattle.lru_clock.specs.History.{turns, coming}

-- the arrival of an entry, whose making was of this age, at the slot of a counter: its number was
-- drawn before, and is the value that the counter then has; its ticket was drawn no later than the
-- number; and an age below 2^32 - 1 says how far the ticket lies below the number
pub record Arrives {K V : Type 0} (w : Named) (a : Arrival K V) (age : ℕ) (e : Entry K V) : Type 0 where
  pub book : a.log.book ≡ w.book
  pub count : turns w.key a.log.log ≡ a.number
  pub before : List (Event K V)
  pub drawn : a.number ≤ turns 1 before
  pub ticket : ℕ
  pub begun : ticket ≤ a.number
  pub aged : age < 4294967295 → ticket + age ≡ a.number
  pub skipped : ℕ
  pub last : a.log.log ≡ before ++ coming w.key skipped ticket e ∷ []
