-- If not all buckets are filled, each search ends at an empty bucket, which is then filled.
use Rattle.std.proofs.Common.{◌≡◌, ◌≢◌, ℕ, ◌<◌, List, length, set, sym, ap, ◌∙◌, subst}
use Rattle.concurrent_lru.specs.Probing.Cycle.{home_of}
use Rattle.concurrent_lru.specs.Probing.Probes.{marks_of, end_at, Ends, IsEmptyAt, IsReached}
use Rattle.concurrent_lru.specs.Probing.Entries.{count}
use Rattle.concurrent_lru.specs.declared.node_table.probes.Bucket.{Bucket}
use Rattle.concurrent_lru.proofs.Probing.Marks.{length-marks, marks-set}
use Rattle.concurrent_lru.proofs.Probing.Fills.{ends_at, fills}
use Rattle.concurrent_lru.proofs.Probing.Contents.Slots.{count_filled, some_empty}
use Rattle.concurrent_lru.proofs.Probing.Contents.Changes.{adds, adds_apart}
use Rattle.concurrent_lru.proofs.node_table.probes.put.Goals as goal

module _ {T : Type 0} (buckets : List (Bucket T)) (home mark at : ℕ) (item : T) (room : count buckets < length buckets) (is : home ≡ home_of (length buckets) mark) (to : at ≡ end_at (marks_of buckets) home) where
  abbrev bucket : Bucket T
  bucket = record { mark = mark; item = item }

  ends : Ends (marks_of buckets) mark at
  ends = ends_at (marks_of buckets) mark at (some_empty buckets room) (to ∙ ap (end_at (marks_of buckets)) (is ∙ ap (λ n. home_of n mark) (sym (length-marks buckets))))

  vacant : IsEmptyAt (marks_of buckets) at
  vacant = ends.is_empty

  reached : mark ≢ 0 → IsReached (marks_of buckets) → IsReached (marks_of (set buckets at bucket))
  reached filled r = subst IsReached (sym (marks-set buckets at bucket)) (fills (marks_of buckets) mark at ends filled r)

pub find_empty-at-requires-clause-ends : goal.find_empty-at-requires-clause-ends
find_empty-at-requires-clause-ends g c = some_empty c.args.buckets.now c.requires.room

pub returns-clause-reached : goal.returns-clause-reached
returns-clause-reached g c = reached c.args.buckets.now c.home_of-home.result c.args.mark c.find_empty-at.result c.args.item c.requires.room c.home_of-home.ensures.home c.find_empty-at.ensures.end c.requires.filled c.requires.reached

pub returns-clause-apart : goal.returns-clause-apart
returns-clause-apart g c =
    let buckets = c.args.buckets.now in let at = c.find_empty-at.result in
    let room = c.requires.room in let is = c.home_of-home.ensures.home in let to = c.find_empty-at.ensures.end in
    adds_apart buckets at (record { mark = c.args.mark; item = c.args.item }) c.find_empty-at.ensures.within (vacant buckets c.home_of-home.result c.args.mark at c.args.item room is to) c.requires.filled c.requires.apart c.requires.absent

pub returns-clause-adds : goal.returns-clause-adds
returns-clause-adds g c =
    let buckets = c.args.buckets.now in let at = c.find_empty-at.result in
    let room = c.requires.room in let is = c.home_of-home.ensures.home in let to = c.find_empty-at.ensures.end in
    adds buckets at (record { mark = c.args.mark; item = c.args.item }) c.find_empty-at.ensures.within (vacant buckets c.home_of-home.result c.args.mark at c.args.item room is to) c.requires.filled

pub returns-clause-count : goal.returns-clause-count
returns-clause-count g c =
    let buckets = c.args.buckets.now in let at = c.find_empty-at.result in
    let room = c.requires.room in let is = c.home_of-home.ensures.home in let to = c.find_empty-at.ensures.end in
    count_filled buckets at (record { mark = c.args.mark; item = c.args.item }) c.find_empty-at.ensures.within (vacant buckets c.home_of-home.result c.args.mark at c.args.item room is to) c.requires.filled
