use Rattle.std.proofs.Common.{refl}
use Rattle.lru_clock.proofs.clock.Cache.get_or_try_init_by.Goals as goal

pub finish-requires : goal.finish-requires
finish-requires g c = record { fits = c.requires.fits _ (_, c.in-Ok-init.ensures, refl) }
