use Rattle.std.proofs.Common.{◌≡◌, length}
use Rattle.lru_clock.proofs.Seating.Copies.{IsCopied}
use Rattle.lru_clock.proofs.store.seats.copy_listed.Given as goal

-- the words of the seats before this one have been copied
abbrev pub invariant-loop-at : goal.invariant-loop-at
invariant-loop-at g l = record {
  long : length l.words ≡ length l.fn.words;
  copied : IsCopied l.seats l.words l.at;
}
