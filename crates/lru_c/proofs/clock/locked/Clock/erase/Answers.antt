-- The entry that left was in the index, and the tag under which the index lacks the key is that of
-- the hash.
use Rattle.std.proofs.Common.{◌≡◌, ℕ, Option, None, Some, MatchOption, inl, inr, sym, subst}
use Rattle.lru_clock.specs.SeatChanges.{VacatesIfListed}
use Rattle.lru_clock.specs.Seats.{IsListed}
use Rattle.lru_c.specs.Clocks.{LeavesListed, Seats}
use Rattle.lru_c.specs.Codes as code
use Rattle.lru_c.proofs.clock.locked.Clock.erase.Goals as goal

left_listed : {X : Type 0} (old new : Seats) (left : Option X) (c : ℕ) → VacatesIfListed old new left → MatchOption left (c ≡ code.done) (λ _. c ≡ code.gone) → LeavesListed old c new
left_listed old new None c seats told = inr (told, seats)
left_listed old new (Some leaver) c seats told = inl (told, seats)

pub returns-clause-erases : goal.returns-clause-erases
returns-clause-erases c = (
  left_listed c.args.self.now.state.seats c.invalidate_entry-gone.new.state.seats c.invalidate_entry-gone.result c.write_left-code.result c.invalidate_entry-gone.ensures.left c.write_left-code.ensures.told,
  (λ p l at. c.invalidate_entry-gone.ensures.gone p l (subst (λ t. IsListed c.invalidate_entry-gone.new.state.seats p t l) (sym c.tag_of.ensures) at)),
  c.invalidate.ensures.gone,
)
