use Rattle.std.proofs.Common.{refl}
use Rattle.lru_clock.proofs.clock.Cache.get_or_try_init_with.Goals as goal

pub finish-requires : goal.finish-requires
finish-requires g c = record { fits = c.requires.fits _ _ (_, c.in-Ok-init.ensures, refl) }

pub returns-in-Ok-finish-clause-charge : goal.returns-in-Ok-finish-clause-charge
returns-in-Ok-finish-clause-charge g c =
    rw (c.new-in-Ok-finish.ensures.charge, c.new-in-Ok-finish.ensures.value, c.in-Ok-finish.ensures.value) (_, c.in-Ok-init.ensures, refl)
