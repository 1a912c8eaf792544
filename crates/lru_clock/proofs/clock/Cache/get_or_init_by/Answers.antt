use Rattle.std.proofs.Common.{rules, of_calls}
use Rattle.lru_clock.proofs.clock.Cache.get_or_init_by.Goals as goal

pub finish-requires : goal.finish-requires
finish-requires g c = record { fits = c.requires.fits _ (search (rules, of_calls)) }
