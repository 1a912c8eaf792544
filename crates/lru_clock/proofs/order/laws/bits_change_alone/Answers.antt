use Rattle.lru_clock.proofs.BitLaws.{with_same, with_other, without_same, without_other}
use Rattle.lru_clock.proofs.order.laws.bits_change_alone.Goals as goal

pub returns : goal.returns
returns c = record { set = with_same; cleared = without_same; other_set = with_other; other_cleared = without_other }
