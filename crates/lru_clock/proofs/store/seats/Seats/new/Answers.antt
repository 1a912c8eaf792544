use Rattle.std.proofs.Common.{◌≡◌, [], refl, sym, subst, arith, sum_by}
use Rattle.lru_clock.specs.Seats.{IsIndex}
use Rattle.lru_clock.proofs.Seating.Copies.{index_none}
use Rattle.lru_clock.proofs.store.seats.Seats.new.Goals as goal

pub new-requires : goal.new-requires
new-requires g c = (8, omega arith, refl)

pub invariant_of-result : goal.invariant_of-result
invariant_of-result g c =
    subst (λ l. (0 ≡ sum_by (λ seat. seat.charge) l) × IsIndex g.K.PartialEq.eq l c.in_ok-words.words) (sym c.new-2.ensures.items)
    (refl, subst (IsIndex g.K.PartialEq.eq []) (sym c.in_ok-words.ensures) (index_none g.K.PartialEq.eq 256 (omega arith) (8, omega arith, refl)))
