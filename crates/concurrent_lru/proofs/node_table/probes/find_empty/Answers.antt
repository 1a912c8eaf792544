-- A filled bucket is passed.
use Rattle.std.proofs.Common.{sym, ◌∙◌}
use Rattle.concurrent_lru.specs.Probing.Probes.{marks_of, HasEmpty}
use Rattle.concurrent_lru.proofs.Probing.Marks.{GoesOn, goes_on, mark_read}
use Rattle.concurrent_lru.proofs.Probing.Runs.{at_end}
use Rattle.concurrent_lru.proofs.node_table.probes.find_empty.Goals as goal

pub loop-at-smaller : goal.loop-at-smaller
loop-at-smaller g c = (goes_on c.args.buckets.now c.loop-at.at c.next_of-at.result c.index-buckets-at.result c.requires.ends c.loop-at.invariant.within c.loop-at-test.true c.next_of-at.ensures.next).shorter

pub loop-at-preserved : goal.loop-at-preserved
loop-at-preserved g c =
    let on : GoesOn c.args.buckets.now c.loop-at.at c.next_of-at.result = goes_on c.args.buckets.now c.loop-at.at c.next_of-at.result c.index-buckets-at.result c.requires.ends c.loop-at.invariant.within c.loop-at-test.true c.next_of-at.ensures.next in
    record { within = on.within; end = c.loop-at.invariant.end ∙ on.end }

pub returns-clause-end : goal.returns-clause-end
returns-clause-end g c =
    let some : HasEmpty (marks_of c.args.buckets.now) = c.requires.ends in
    sym (c.loop-at.invariant.end ∙ (at_end (marks_of c.args.buckets.now) some.0 some.1 some.2 c.loop-at.at (mark_read c.args.buckets.now c.loop-at.at c.index-buckets-at.result c.loop-at.invariant.within ∙ c.loop-at-test.false)).1)
