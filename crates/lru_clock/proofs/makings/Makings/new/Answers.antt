use Rattle.std.proofs.Common.{sym, subst}
use Rattle.std.specs.List.{IsDistinct}
use Rattle.lru_clock.specs.Makings.{AreApart}
use Rattle.lru_clock.proofs.makings.Makings.new.Goals as goal

pub invariant_of-result : goal.invariant_of-result
unfolding IsDistinct
invariant_of-result g c = subst (AreApart g.K.PartialEq.eq 0) (sym c.new.ensures.items) (record { numbered = tt; numbers = tt; keys = tt })
