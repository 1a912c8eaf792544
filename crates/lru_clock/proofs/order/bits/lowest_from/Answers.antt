use Rattle.std.proofs.Common.{arith}
use Rattle.lru_clock.proofs.FirstBits.{lacks_shifted, lowest_shifted}
use Rattle.lru_clock.proofs.order.bits.lowest_from.Goals as goal

pub returns-then-rest-eq0 : goal.returns-then-rest-eq0
returns-then-rest-eq0 c = lacks_shifted c.args.word c.args.bit c.if-rest-eq0.true

pub returns-else-rest-eq0 : goal.returns-else-rest-eq0
returns-else-rest-eq0 c = lowest_shifted c.args.word c.args.bit (omega (arith, c.ranges.word.fits)) (omega (arith, c.if-rest-eq0.false))
