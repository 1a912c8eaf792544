-- A walk goes on with a search behind the cursor.
use Rattle.std.proofs.Common.{◌≡◌, ◌∙◌, length, refl, sym, ap, subst, arith}
use Rattle.concurrent_lru.specs.Probing.Cycle.{next_of}
use Rattle.concurrent_lru.specs.Probing.Probes.{marks_of, mark_at, Finds}
use Rattle.concurrent_lru.specs.declared.node_table.probes.Bucket.{Bucket}
use Rattle.concurrent_lru.proofs.Probing.Marks.{mark_read}
use Rattle.concurrent_lru.proofs.Probing.Tables.Views.{within_at, empty_at, on_rest}
use Rattle.concurrent_lru.proofs.node_table.open_table.OpenTable.next.Goals as goal

pub find_mark-requires-clause-ends : goal.find_mark-requires-clause-ends
find_mark-requires-clause-ends g c = empty_at c.self.inside.buckets.items c.deref.result.now c.args.self.now c.deref.ensures.value c.self.view_is c.cursor.inside.bucket c.args.cursor c.cursor.view_is c.requires c.self.inside.len c.self.invariant

pub returns-clause-rest : goal.returns-clause-rest
returns-clause-rest g c =
    let items = c.self.inside.buckets.items in
    let now = c.deref.result.now in
    let bucket = c.cursor.inside.bucket in
    let same = c.deref.ensures.value in
    let lt = within_at items items c.args.self.now refl c.self.view_is bucket c.args.cursor c.cursor.view_is c.requires in
    let mark : c.index.result.now.mark ≡ mark_at (marks_of now) bucket =
    ap (λ (s : Bucket g.row.T.Denot). s.mark) c.index.ensures ∙ sym (mark_read items bucket c.index.result.now lt) ∙ ap (λ l. mark_at (marks_of l) bucket) (sym same) in
    let many : c.len.result ≡ length items = omega (arith, c.self.inside.buckets.ok) in
    let next : c.next_of-next.result ≡ next_of (length now) bucket = c.next_of-next.ensures.next ∙ ap (λ n. next_of n bucket) (many ∙ ap length (sym same)) in
    let found = subst (λ n. Finds (marks_of now) (mark_at (marks_of now) bucket) n c.find_mark.result) next (subst (λ m. Finds (marks_of now) m c.next_of-next.result c.find_mark.result) mark c.find_mark.ensures) in
    on_rest items now c.args.self.now c.self.inside.len bucket c.args.cursor c.self.invariant same c.self.view_is c.cursor.view_is c.requires c.find_mark.result found
