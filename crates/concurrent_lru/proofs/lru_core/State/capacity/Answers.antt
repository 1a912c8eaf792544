use Rattle.std.proofs.Common.{◌<◌, ◌^◌, arith, ap, subst}
use Rattle.concurrent_lru.specs.Cache.{IsWithinLimits}
use Rattle.concurrent_lru.proofs.lru_core.State.capacity.Goals as goal

pub returns-clause-limits : goal.returns-clause-limits
returns-clause-limits g c =
    let stamps : c.self.inside.next < 2 ^ 64 = omega arith in
    let pins : c.self.inside.most_pins < 2 ^ 32 = omega arith in
    subst IsWithinLimits (ap (λ x. x.cache) c.self.view_is) (record { stamps = stamps; sum = c.self.invariant.lawful.sum_fits; some_pins = c.self.invariant.pins_above; pins = pins })
