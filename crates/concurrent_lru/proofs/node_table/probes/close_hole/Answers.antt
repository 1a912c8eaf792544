-- An entry stays, or moves back into the hole.
use Rattle.std.proofs.Common.{◌≡◌, ℕ, ◌<◌, List, length, get_or, set, refl, sym, ap, ◌∙◌, subst, arith}
use Rattle.concurrent_lru.specs.Probing.Cycle.{next_of, steps, home_of}
use Rattle.concurrent_lru.specs.Probing.Probes.{marks_of, mark_at, IsFilledAt}
use Rattle.concurrent_lru.specs.Probing.Entries.{Holds}
use Rattle.concurrent_lru.specs.Probing.Gaps.{IsGap}
use Rattle.concurrent_lru.specs.declared.node_table.probes.Bucket.{Bucket}
use Rattle.concurrent_lru.proofs.Probing.Marks.{mark_read, marks-set}
use Rattle.concurrent_lru.proofs.Probing.Gaps.{gap_keep, gap_move}
use Rattle.concurrent_lru.proofs.Probing.Contents.Slots.{holds_read}
use Rattle.concurrent_lru.proofs.Probing.Contents.Changes.{moves, moves_apart, moves_count}
use Rattle.concurrent_lru.proofs.node_table.probes.close_hole.Goals as goal

module _ {T : Type 0} (buckets : List (Bucket T)) (start hole at : ℕ) (s x : Bucket T) (lt : at < length buckets) (is : s ≡ get_or buckets at s) (full : IsFilledAt (marks_of buckets) at) where
  mark_is : mark_at (marks_of buckets) at ≡ s.mark
  mark_is = mark_read buckets at s lt ∙ ap (λ (t : Bucket T). t.mark) (sym is)

  home_is : (home : ℕ) → home ≡ home_of (length buckets) s.mark → home_of (length buckets) (mark_at (marks_of buckets) at) ≡ home
  home_is home e = ap (home_of (length buckets)) mark_is ∙ sym e

  held : Holds buckets at s
  held = holds_read buckets at s lt is (λ none. full (mark_is ∙ none))

  moved_marks : x.mark ≡ 0 → marks_of (set (set buckets hole s) at x) ≡ set (set (marks_of buckets) hole (mark_at (marks_of buckets) at)) at 0
  moved_marks none = marks-set (set buckets hole s) at x ∙ ap (λ l. set l at x.mark) (marks-set buckets hole s) ∙ (λ j. set (set (marks_of buckets) hole (sym mark_is j)) at (none j))

pub returns-then-steps_between-clause-gap : goal.returns-then-steps_between-clause-gap
returns-then-steps_between-clause-gap g c start gap =
    let buckets : List (Bucket g.row.T.Denot) = c.args.buckets.now in
    let home : home_of (length buckets) (mark_at (marks_of buckets) c.args.at) ≡ c.home_of-home.result = home_is buckets start c.args.hole c.args.at c.index-buckets-at.result c.index-buckets-at.result c.requires.at c.index-buckets-at.is c.requires.filled c.home_of-home.result c.home_of-home.ensures.home in
    let near : steps (length buckets) (home_of (length buckets) (mark_at (marks_of buckets) c.args.at)) c.args.at ≡ c.steps_between.result = ap (λ t. steps (length buckets) t c.args.at) home ∙ sym c.steps_between.ensures in
    gap_keep (length buckets) (marks_of buckets) start c.args.hole c.args.at gap c.requires.filled (omega (arith, near))

pub returns-clause-gap : goal.returns-clause-gap
returns-clause-gap g c start gap =
    let buckets : List (Bucket g.row.T.Denot) = c.args.buckets.now in
    let x : Bucket g.row.T.Denot = record { mark = 0; item = c.index-buckets-at.result.item } in
    let home : home_of (length buckets) (mark_at (marks_of buckets) c.args.at) ≡ c.home_of-home.result = home_is buckets start c.args.hole c.args.at c.index-buckets-at.result x c.requires.at c.index-buckets-at.is c.requires.filled c.home_of-home.result c.home_of-home.ensures.home in
    let near : steps (length buckets) (home_of (length buckets) (mark_at (marks_of buckets) c.args.at)) c.args.at ≡ c.steps_between.result = ap (λ t. steps (length buckets) t c.args.at) home ∙ sym c.steps_between.ensures in
    subst (λ ms. IsGap (length buckets) ms start c.args.at (next_of (length buckets) c.args.at)) (sym (moved_marks buckets start c.args.hole c.args.at c.index-buckets-at.result x c.requires.at c.index-buckets-at.is c.requires.filled refl))
    (gap_move (length buckets) (marks_of buckets) start c.args.hole c.args.at gap c.requires.filled (omega (arith, near)))

pub returns-clause-same : goal.returns-clause-same
returns-clause-same g c = moves c.args.buckets.now c.args.hole c.args.at c.index-buckets-at.result (record { mark = 0; item = c.index-buckets-at.result.item }) c.requires.hole c.requires.gap.1.vacant
    (held c.args.buckets.now 0 c.args.hole c.args.at c.index-buckets-at.result c.index-buckets-at.result c.requires.at c.index-buckets-at.is c.requires.filled) refl

pub returns-clause-apart : goal.returns-clause-apart
returns-clause-apart g c = moves_apart c.args.buckets.now c.args.hole c.args.at c.index-buckets-at.result (record { mark = 0; item = c.index-buckets-at.result.item }) c.requires.hole c.requires.gap.1.vacant
    (held c.args.buckets.now 0 c.args.hole c.args.at c.index-buckets-at.result c.index-buckets-at.result c.requires.at c.index-buckets-at.is c.requires.filled) refl

pub returns-clause-count : goal.returns-clause-count
returns-clause-count g c = moves_count c.args.buckets.now c.args.hole c.args.at c.index-buckets-at.result (record { mark = 0; item = c.index-buckets-at.result.item }) c.requires.hole c.requires.gap.1.vacant
    (held c.args.buckets.now 0 c.args.hole c.args.at c.index-buckets-at.result c.index-buckets-at.result c.requires.at c.index-buckets-at.is c.requires.filled) refl
