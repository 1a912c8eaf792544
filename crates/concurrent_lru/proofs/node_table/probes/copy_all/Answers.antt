-- Each entry is copied in its turn.
use Rattle.std.proofs.Common.{◌+◌, ◌≤◌, take, sym, subst, arith}
use Rattle.concurrent_lru.specs.Probing.Probes.{marks_of, IsReached}
use Rattle.concurrent_lru.specs.Probing.Entries.{AreApart, count}
use Rattle.concurrent_lru.proofs.Probing.Contents.Copies.{IsCopied, none_held, count-take, copied_none, copied_all, copied_past, copied_absent, copied_next}
use Rattle.concurrent_lru.proofs.node_table.probes.copy_all.Goals as goal
use Rattle.concurrent_lru.proofs.node_table.probes.copy_all.Goals.{then-bucket-ne0, else-bucket-ne0}

pub loop-bucket-init : goal.loop-bucket-init
loop-bucket-init g c = record {
  reached = λ k m h lt near. absurd (h (c.requires.vacant k));
  apart = λ k l r s h i same. absurd (none_held c.args.to.now c.requires.vacant k r h);
  copied = copied_none c.args.from.now c.args.to.now c.requires.vacant;
}

pub put-requires-clause-room : goal.put-requires-clause-room
put-requires-clause-room g c =
    let few : count (take c.loop-bucket.bucket-index c.args.from.now) ≤ count c.args.from.now = count-take c.loop-bucket.bucket-index c.args.from.now in
    omega (arith, few, c.loop-bucket.invariant.copied.counted, c.loop-bucket.auto.to, c.requires.room)

pub put-requires-clause-absent : goal.put-requires-clause-absent
put-requires-clause-absent g c =
    copied_absent c.args.from.now c.loop-bucket.to c.loop-bucket.bucket-index c.bucket-item.result c.loop-bucket-test.true c.bucket-item.is c.loop-bucket.invariant.copied
    c.if-bucket-ne0.true c.requires.apart

pub loop-bucket-preserved : goal.loop-bucket-preserved
loop-bucket-preserved g c = record {
  reached = elim c.if-bucket-ne0.branch [
    | then-bucket-ne0 w ↦ subst (λ l. IsReached (marks_of l)) (sym w.to-is) w.put.ensures.reached
    | else-bucket-ne0 w ↦ subst (λ l. IsReached (marks_of l)) (sym w.to-is) c.loop-bucket.invariant.reached
  ];
  apart = elim c.if-bucket-ne0.branch [
    | then-bucket-ne0 w ↦ subst AreApart (sym w.to-is) w.put.ensures.apart
    | else-bucket-ne0 w ↦ subst AreApart (sym w.to-is) c.loop-bucket.invariant.apart
  ];
  copied = elim c.if-bucket-ne0.branch [
    | then-bucket-ne0 w ↦ subst (λ l. IsCopied c.args.from.now l (c.loop-bucket.bucket-index + 1)) (sym w.to-is)
        (copied_next c.args.from.now c.loop-bucket.to c.loop-bucket.bucket-index c.bucket-item.result c.loop-bucket-test.true c.bucket-item.is c.loop-bucket.invariant.copied w.if-bucket-ne0.true c.requires.apart
        w.put.new.buckets w.put.ensures.adds w.put.ensures.count)
    | else-bucket-ne0 w ↦ subst (λ l. IsCopied c.args.from.now l (c.loop-bucket.bucket-index + 1)) (sym w.to-is)
        (copied_past c.args.from.now c.loop-bucket.to c.loop-bucket.bucket-index c.bucket-item.result c.loop-bucket-test.true c.bucket-item.is c.loop-bucket.invariant.copied w.if-bucket-ne0.false)
  ];
}

pub returns-clause-same : goal.returns-clause-same
returns-clause-same g c = (copied_all c.args.from.now c.loop-bucket.to c.loop-bucket.bucket-index c.loop-bucket-test.false c.loop-bucket.invariant.copied).0

pub returns-clause-count : goal.returns-clause-count
returns-clause-count g c = (copied_all c.args.from.now c.loop-bucket.to c.loop-bucket.bucket-index c.loop-bucket-test.false c.loop-bucket.invariant.copied).1
