use Rattle.std.proofs.Common.{rules, of_calls}
use Rattle.lru_clock.proofs.clock.Cache.get_or_init_with.Goals as goal

pub finish-requires : goal.finish-requires
finish-requires g c = record { fits = c.requires.fits c.init-value.result.0 c.init-value.result.1 (search (rules, of_calls)) }

pub returns-in_ok-found-in-Make-clause-charge : goal.returns-in_ok-found-in-Make-clause-charge
returns-in_ok-found-in-Make-clause-charge g c =
    rw (c.new-in-Make.ensures.charge, c.new-in-Make.ensures.value, c.in_ok-found-in-Make.ensures.value) (search (rules, of_calls))
