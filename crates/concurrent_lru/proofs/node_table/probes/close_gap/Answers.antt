-- The hole moves on, up to where nothing is reached over it.
use Rattle.std.proofs.Common.{◌≡◌, ◌≢◌, ℕ, ◌-◌, ◌<◌, List, length, sym, ap, ◌∙◌, subst, arith}
use Rattle.concurrent_lru.specs.Probing.Cycle.{next_of, steps}
use Rattle.concurrent_lru.specs.Probing.Probes.{marks_of, mark_at, IsFilledAt, IsReachedIn, IsReached}
use Rattle.concurrent_lru.specs.Probing.Gaps.{IsGap}
use Rattle.concurrent_lru.specs.declared.node_table.probes.Bucket.{Bucket}
use Rattle.concurrent_lru.proofs.Probing.Marks.{length-marks}
use Rattle.concurrent_lru.proofs.Probing.Gaps.{gap_further, gap_end}
use Rattle.concurrent_lru.proofs.Probing.Contents.Changes.{same_trans}
use Rattle.concurrent_lru.proofs.node_table.probes.close_gap.Goals as goal

module _ {T : Type 0} (buckets : List (Bucket T)) (start hole at mark : ℕ) (is : mark ≡ mark_at (marks_of buckets) at) (gap : IsGap (length buckets) (marks_of buckets) start hole at) where
  filled : mark ≢ 0 → IsFilledAt (marks_of buckets) at
  filled h none = h (is ∙ none)

  further : (n next : ℕ) → n ≡ length buckets → next ≡ next_of n at → mark ≢ 0 → n - steps n start next < length buckets - steps (length buckets) start at
  further n next long to h =
      subst (λ t. t < length buckets - steps (length buckets) start at) (λ i. sym long i - steps (sym long i) start (step i))
      (gap_further (length buckets) (marks_of buckets) start hole at gap (filled h))
    where
      step : next_of (length buckets) at ≡ next
      step = ap (λ t. next_of t at) (sym long) ∙ sym to

  over : mark ≡ 0 → IsReached (marks_of buckets)
  over none = subst (λ n. IsReachedIn n (marks_of buckets)) (sym (length-marks buckets)) (gap_end (length buckets) (marks_of buckets) start hole at gap (sym is ∙ none))

goes_on : {T : Type 0} (buckets news : List (Bucket T)) (start at result next : ℕ) → length news ≡ length buckets → next ≡ next_of (length news) at
    → IsGap (length buckets) (marks_of news) start result (next_of (length buckets) at) → IsGap (length news) (marks_of news) start result next
goes_on buckets news start at result next long is h =
    subst (IsGap (length news) (marks_of news) start result) (sym is) (subst (λ n. IsGap n (marks_of news) start result (next_of n at)) (sym long) h)

pub loop-buckets-smaller : goal.loop-buckets-smaller
loop-buckets-smaller g c = further c.loop-buckets.buckets c.args.from c.loop-buckets.hole c.loop-buckets.at c.mark_in.result c.mark_in.ensures c.loop-buckets.invariant.gap
    (length c.close_hole-hole.new.buckets) c.next_of-at-in-loop-buckets.result c.close_hole-hole.auto.buckets c.next_of-at-in-loop-buckets.ensures.next c.loop-buckets-test.true

pub loop-buckets-preserved : goal.loop-buckets-preserved
loop-buckets-preserved g c =
    let on = c.close_hole-hole.ensures in
    record {
      hole = omega (arith, on.hole, c.close_hole-hole.auto.buckets);
      at = c.next_of-at-in-loop-buckets.ensures.within;
      gap = goes_on c.loop-buckets.buckets c.close_hole-hole.new.buckets c.args.from c.loop-buckets.at c.close_hole-hole.result c.next_of-at-in-loop-buckets.result c.close_hole-hole.auto.buckets c.next_of-at-in-loop-buckets.ensures.next
          (on.gap c.args.from c.loop-buckets.invariant.gap);
      same = same_trans c.args.buckets.now c.loop-buckets.buckets c.close_hole-hole.new.buckets c.loop-buckets.invariant.same on.same;
      apart = λ h. on.apart (c.loop-buckets.invariant.apart h);
      count = on.count ∙ c.loop-buckets.invariant.count;
    }

pub returns-clause-reached : goal.returns-clause-reached
returns-clause-reached g c = over c.loop-buckets.buckets c.args.from c.loop-buckets.hole c.loop-buckets.at c.mark_in.result c.mark_in.ensures c.loop-buckets.invariant.gap c.loop-buckets-test.false
