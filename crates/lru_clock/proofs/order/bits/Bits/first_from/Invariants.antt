use Rattle.std.proofs.Common.{◌≡◌, ◌+◌, ◌*◌, ◌-◌, ◌<◌, length}
use Rattle.lru_clock.specs.Bits.{first_bit}
use Rattle.lru_clock.proofs.order.bits.Bits.first_from.Given as goal

-- no bit is set in what was passed
abbrev pub invariant-loop-at : goal.invariant-loop-at
invariant-loop-at l = record {
  within : l.bit < 64;
  passed : first_bit l.self l.from (64 * length l.self - l.from) ≡ first_bit l.self (64 * l.at + l.bit) (64 * length l.self - (64 * l.at + l.bit));
}
