-- The index gets the entry after the key's has left.
use Rattle.std.proofs.Common.{◌≡◌, true, MatchOption, refl, sym, ap, subst}
use Rattle.std.specs.Prelude.{is_some}
use Rattle.lru_clock.specs.SeatChanges.{KeepsCharges, VacatesIfListed}
use Rattle.lru_clock.proofs.Seating.Replaced.{settled_after}
use Rattle.lru_clock.proofs.clock_core.Core.settle_in.Goals as goal
use Rattle.lru_clock.proofs.clock_core.Core.settle_in.Goals.{in-Some, in-None}

pub returns-clause-charges : goal.returns-clause-charges
returns-clause-charges g c =
    let old = c.args.state.now.seats in
    let mid = c.match-old.state.seats in
    let left = c.match-old.left in
    let vacates : MatchOption c.args.old (VacatesIfListed old mid left) (λ _. (mid ≡ old) × (is_some left ≡ true)) = elim c.match-old.branch [
      | in-Some w ↦ rw (w.in-Some.is, w.state-is, w.left-is) (refl, refl)
      | in-None w ↦ rw (w.in-None.is, w.state-is, w.left-is) w.invalidate_entry-left.ensures.left
    ] in
    let lists = subst (KeepsCharges mid) (sym (ap (λ s. s.seats) c.come.ensures)) c.list.ensures.charges in
    settled_after c.args.place old mid c.come.new.self.seats c.args.old left c.requires.unlisted vacates lists
