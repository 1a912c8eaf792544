use Rattle.std.proofs.Common.{sym, ap, ◌∙◌, refl, subst}
use Rattle.concurrent_lru.specs.Probing.Probes.{marks_of, mark_at}
use Rattle.concurrent_lru.specs.Probing.Entries.{Holds, entry}
use Rattle.concurrent_lru.specs.declared.node_table.probes.Bucket.{Bucket}
use Rattle.concurrent_lru.proofs.Probing.Contents.Slots.{holds_mark, holds_read}
use Rattle.concurrent_lru.proofs.Probing.Marks.{mark_read}
use Rattle.concurrent_lru.proofs.Probing.Tables.Views.{filled_at, within_at}
use Rattle.concurrent_lru.proofs.node_table.open_table.OpenTable.item.Goals as goal

pub returns : goal.returns
returns g c =
    let items = c.self.inside.buckets.items in
    let bucket = c.cursor.inside.bucket in
    let v = c.args.self.now in
    let s = c.index.result.now in
    let lt = within_at items items v refl c.self.view_is bucket c.args.cursor c.cursor.view_is c.requires in
    let full = filled_at items items v refl c.self.view_is bucket c.args.cursor c.cursor.view_is c.requires in
    let h = holds_read items bucket s lt c.index.ensures (λ none. full (mark_read items bucket s lt ∙ ap (λ (t : Bucket g.row.T.Denot). t.mark) (sym c.index.ensures) ∙ none)) in
    subst (λ j. Holds v j (entry (mark_at (marks_of v) j) s.item)) c.cursor.view_is
    (subst (λ l. Holds l bucket (entry (mark_at (marks_of l) bucket) s.item)) c.self.view_is
    (subst (λ m. Holds items bucket (entry m s.item)) (sym (holds_mark items bucket s h)) h))
