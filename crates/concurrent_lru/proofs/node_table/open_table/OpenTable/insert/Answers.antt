-- The item is put where its search ends.
use Rattle.std.proofs.Common.{◌+◌, ◌/◌, ◌∙◌, length, drop, sym, ap, subst}
use Rattle.std.proofs.lemmas.List.{take_at}
use Rattle.concurrent_lru.specs.Probing.Entries.{Has, Adds, entry, count}
use Rattle.concurrent_lru.specs.Probing.OpenTable.{mark_of, IsTable, capacity}
use Rattle.concurrent_lru.proofs.Probing.Marks.{mark_filled}
use Rattle.concurrent_lru.proofs.Probing.Tables.Changes.{room_in, reached_in, apart_in, table_more}
use Rattle.concurrent_lru.proofs.node_table.open_table.OpenTable.insert.Goals as goal

pub put-requires-clause-filled : goal.put-requires-clause-filled
put-requires-clause-filled g c = mark_filled c.args.hash

pub put-requires-clause-room : goal.put-requires-clause-room
put-requires-clause-room g c = room_in c.args.self.now c.deref_mut.result.now (c.deref_mut.ensures.value ∙ c.self.view_is) c.requires.room

pub put-requires-clause-reached : goal.put-requires-clause-reached
put-requires-clause-reached g c = reached_in c.self.inside.buckets.items c.deref_mut.result.now c.self.inside.len c.deref_mut.ensures.value c.self.invariant

pub put-requires-clause-apart : goal.put-requires-clause-apart
put-requires-clause-apart g c = apart_in c.self.inside.buckets.items c.deref_mut.result.now c.self.inside.len c.deref_mut.ensures.value c.self.invariant

pub put-requires-clause-absent : goal.put-requires-clause-absent
put-requires-clause-absent g c s h = c.requires.absent s (subst (λ l. Has l s) (c.deref_mut.ensures.value ∙ c.self.view_is) h)

pub invariant_of-self : goal.invariant_of-self
invariant_of-self g c =
    let after = take_at c.put.new.buckets (drop (length c.put.new.buckets) c.self.inside.buckets.items) c.self.inside.buckets.len (c.put.auto.buckets ∙ c.deref_mut.ensures.len) in
    subst (λ l. IsTable l (c.self.inside.len + 1)) (sym after)
    (table_more c.self.inside.buckets.items c.deref_mut.result.now c.put.new.buckets c.self.inside.len c.deref_mut.ensures.value c.put.auto.buckets c.put.ensures.reached c.put.ensures.apart c.self.invariant c.args.self.now c.self.view_is c.requires.room c.put.ensures.count)

pub returns-clause-adds : goal.returns-clause-adds
returns-clause-adds g c =
    let after = take_at c.put.new.buckets (drop (length c.put.new.buckets) c.self.inside.buckets.items) c.self.inside.buckets.len (c.put.auto.buckets ∙ c.deref_mut.ensures.len) in
    subst (λ l. Adds c.args.self.now l (entry (mark_of c.args.hash) c.args.item)) (sym after)
    (subst (λ l. Adds l c.put.new.buckets (entry (mark_of c.args.hash) c.args.item)) (c.deref_mut.ensures.value ∙ c.self.view_is) c.put.ensures.adds)

pub returns-clause-count : goal.returns-clause-count
returns-clause-count g c =
    let after = take_at c.put.new.buckets (drop (length c.put.new.buckets) c.self.inside.buckets.items) c.self.inside.buckets.len (c.put.auto.buckets ∙ c.deref_mut.ensures.len) in
    ap count after ∙ c.put.ensures.count ∙ ap (λ l. count l + 1) (c.deref_mut.ensures.value ∙ c.self.view_is)

pub returns-clause-capacity : goal.returns-clause-capacity
returns-clause-capacity g c =
    let after = take_at c.put.new.buckets (drop (length c.put.new.buckets) c.self.inside.buckets.items) c.self.inside.buckets.len (c.put.auto.buckets ∙ c.deref_mut.ensures.len) in
    ap capacity after ∙ ap (λ n. n / 2) (c.put.auto.buckets ∙ ap length (c.deref_mut.ensures.value ∙ c.self.view_is))
