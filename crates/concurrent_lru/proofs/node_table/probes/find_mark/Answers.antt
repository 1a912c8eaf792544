-- A bucket with another mark is passed.
use Rattle.std.proofs.Common.{◌∙◌}
use Rattle.concurrent_lru.proofs.Probing.Marks.{GoesOn, goes_on, passes}
use Rattle.concurrent_lru.proofs.node_table.probes.find_mark.Goals as goal

pub loop-mark-smaller : goal.loop-mark-smaller
loop-mark-smaller g c = (goes_on c.args.buckets.now c.loop-mark.at c.next_of-at.result c.index-buckets-at.result c.requires.ends c.loop-mark.invariant.within c.if-found-eq0.false c.next_of-at.ensures.next).shorter

pub loop-mark-preserved : goal.loop-mark-preserved
loop-mark-preserved g c =
    let on : GoesOn c.args.buckets.now c.loop-mark.at c.next_of-at.result = goes_on c.args.buckets.now c.loop-mark.at c.next_of-at.result c.index-buckets-at.result c.requires.ends c.loop-mark.invariant.within c.if-found-eq0.false c.next_of-at.ensures.next in
    record {
      within = on.within;
      walk = c.loop-mark.invariant.walk ∙ passes c.args.buckets.now c.loop-mark.at c.next_of-at.result c.index-buckets-at.result c.requires.ends c.loop-mark.invariant.within c.if-found-eq0.false c.next_of-at.ensures.next c.args.mark c.if-found-mark.false;
    }
