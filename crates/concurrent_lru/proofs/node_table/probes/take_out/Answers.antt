-- The bucket is emptied, and what follows it is moved back.
use Rattle.std.proofs.Common.{◌≡◌, ℕ, ◌+◌, ◌<◌, List, length, get_or, set, refl, sym, ap, ◌∙◌, subst}
use Rattle.std.proofs.lemmas.List.{length-set}
use Rattle.concurrent_lru.specs.Probing.Cycle.{next_of}
use Rattle.concurrent_lru.specs.Probing.Probes.{marks_of, IsFilledAt, HasEmpty, IsReachedIn, IsReached}
use Rattle.concurrent_lru.specs.Probing.Entries.{Holds, AreApart, Removes, count}
use Rattle.concurrent_lru.specs.Probing.Gaps.{IsGap}
use Rattle.concurrent_lru.specs.declared.node_table.probes.Bucket.{Bucket}
use Rattle.concurrent_lru.proofs.Probing.Marks.{length-marks, marks-set}
use Rattle.concurrent_lru.proofs.Probing.Gaps.{gap_start}
use Rattle.concurrent_lru.proofs.Probing.Contents.Slots.{holds_get, holds_one, count_emptied}
use Rattle.concurrent_lru.proofs.Probing.Contents.Changes.{removes, removes_apart, removes_same}
use Rattle.concurrent_lru.proofs.node_table.probes.take_out.Goals as goal

module _ {T : Type 0} (buckets : List (Bucket T)) (at : ℕ) (d : Bucket T) (lt : at < length buckets) (full : IsFilledAt (marks_of buckets) at) where
  abbrev emptied : List (Bucket T)
  emptied = set buckets at (record { mark = 0; item = (get_or buckets at d).item })

  held : Holds buckets at (get_or buckets at d)
  held = holds_get buckets at d lt full

  starts : HasEmpty (marks_of buckets) → IsReached (marks_of buckets) → IsGap (length emptied) (marks_of emptied) at at (next_of (length emptied) at)
  starts some r =
      subst (λ n. IsGap n (marks_of emptied) at at (next_of n at)) (sym (length-set buckets at (record { mark = 0; item = (get_or buckets at d).item })))
      (subst (λ ms. IsGap (length buckets) ms at at (next_of (length buckets) at)) (sym (marks-set buckets at (record { mark = 0; item = (get_or buckets at d).item })))
      (gap_start (length buckets) (marks_of buckets) at (length-marks buckets) some lt full (subst (λ n. IsReachedIn n (marks_of buckets)) (length-marks buckets) r)))

  taken : AreApart buckets → Removes buckets emptied (get_or buckets at d).item
  taken apart = removes buckets at (record { mark = 0; item = (get_or buckets at d).item }) lt (get_or buckets at d) held refl apart

  taken_apart : AreApart buckets → AreApart emptied
  taken_apart apart = removes_apart buckets at (record { mark = 0; item = (get_or buckets at d).item }) lt (get_or buckets at d) held refl apart

  fewer : count emptied + 1 ≡ count buckets
  fewer = count_emptied buckets at (record { mark = 0; item = (get_or buckets at d).item }) lt full refl

pub close_gap-requires-clause-gap : goal.close_gap-requires-clause-gap
close_gap-requires-clause-gap g c = starts c.args.buckets.now c.args.at c.index-buckets-at.result c.requires.within c.requires.filled c.requires.ends c.requires.reached

pub returns-clause-apart : goal.returns-clause-apart
returns-clause-apart g c = c.close_gap.ensures.apart (taken_apart c.args.buckets.now c.args.at c.index-buckets-at.result c.requires.within c.requires.filled c.requires.apart)

pub returns-clause-item : goal.returns-clause-item
returns-clause-item g c s h =
    ap (λ (r : Bucket g.row.T.Denot). r.item) (holds_one c.args.buckets.now c.args.at (get_or c.args.buckets.now c.args.at c.index-buckets-at.result) s (held c.args.buckets.now c.args.at c.index-buckets-at.result c.requires.within c.requires.filled) h)

pub returns-clause-removes : goal.returns-clause-removes
returns-clause-removes g c =
    removes_same c.args.buckets.now (emptied c.args.buckets.now c.args.at c.index-buckets-at.result c.requires.within c.requires.filled) c.close_gap.new.buckets (get_or c.args.buckets.now c.args.at c.index-buckets-at.result).item
    (taken c.args.buckets.now c.args.at c.index-buckets-at.result c.requires.within c.requires.filled c.requires.apart) c.close_gap.ensures.same

pub returns-clause-count : goal.returns-clause-count
returns-clause-count g c = ap (λ n. n + 1) c.close_gap.ensures.count ∙ fewer c.args.buckets.now c.args.at c.index-buckets-at.result c.requires.within c.requires.filled
