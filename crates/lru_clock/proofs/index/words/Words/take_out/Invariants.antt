use Rattle.std.proofs.Common.{◌≡◌, ◌-◌, length, set}
use Rattle.concurrent_lru.specs.Probing.Cycle.{steps}
use Rattle.concurrent_lru.specs.Probing.Gaps.{IsGap}
use Rattle.lru_clock.specs.Index.{Rearranges}
use Rattle.lru_clock.proofs.index.words.Words.take_out.Given as goal

-- the words before `at` have been dealt with
abbrev pub invariant-loop-self : goal.invariant-loop-self
invariant-loop-self l = record {
  long : length l.self ≡ length l.fn.self;
  count : l.count ≡ length l.fn.self;
  gap : IsGap (length l.fn.self) (set l.self l.hole 0) l.from l.hole l.at;
  same : Rearranges (set l.fn.self l.from 0) (set l.self l.hole 0);
}

abbrev pub decreases-loop-self : goal.decreases-loop-self
decreases-loop-self l = length l.fn.self - steps (length l.fn.self) l.from l.at
