use Rattle.std.proofs.Common.{refl}
use Rattle.lru_clock.proofs.Pages.{page_and_position}
use Rattle.lru_clock.proofs.store.page_of.Goals as goal

pub returns : goal.returns
returns c =
    let lies = page_and_position c.args.place c.ilog2-log.result _ c.ilog2.result c.wrapping_shr-multiple.result c.wrapping_shl.result _ _
    c.ranges.place.fits c.ilog2-log.ensures.power_le c.ilog2-log.ensures.next_power_gt c.ilog2.ensures.power_le c.ilog2.ensures.next_power_gt
    refl c.wrapping_shr-multiple.ensures c.wrapping_shl.ensures refl refl in
    record { place = lies.0; within = lies.1 }
