-- The item is taken out, and what follows it is moved back.
use Rattle.std.proofs.Common.{◌≡◌, ◌+◌, ◌-◌, ◌/◌, ◌∙◌, length, drop, sym, ap, subst, arith}
use Rattle.std.proofs.lemmas.List.{take_at}
use Rattle.concurrent_lru.specs.Probing.Entries.{Holds, Removes, count}
use Rattle.concurrent_lru.specs.Probing.OpenTable.{IsTable, capacity}
use Rattle.concurrent_lru.proofs.Probing.Tables.Changes.{reached_in, apart_in, table_fewer}
use Rattle.concurrent_lru.proofs.Probing.Tables.Views.{filled_at, within_at, empty_at}
use Rattle.concurrent_lru.proofs.node_table.open_table.OpenTable.remove.Goals as goal

pub take_out-item-requires-clause-within : goal.take_out-item-requires-clause-within
take_out-item-requires-clause-within g c = within_at c.self.inside.buckets.items c.deref_mut.result.now c.args.self.now c.deref_mut.ensures.value c.self.view_is c.cursor.inside.bucket c.args.cursor c.cursor.view_is c.requires

pub take_out-item-requires-clause-filled : goal.take_out-item-requires-clause-filled
take_out-item-requires-clause-filled g c = filled_at c.self.inside.buckets.items c.deref_mut.result.now c.args.self.now c.deref_mut.ensures.value c.self.view_is c.cursor.inside.bucket c.args.cursor c.cursor.view_is c.requires

pub take_out-item-requires-clause-ends : goal.take_out-item-requires-clause-ends
take_out-item-requires-clause-ends g c = empty_at c.self.inside.buckets.items c.deref_mut.result.now c.args.self.now c.deref_mut.ensures.value c.self.view_is c.cursor.inside.bucket c.args.cursor c.cursor.view_is c.requires c.self.inside.len c.self.invariant

pub take_out-item-requires-clause-reached : goal.take_out-item-requires-clause-reached
take_out-item-requires-clause-reached g c = reached_in c.self.inside.buckets.items c.deref_mut.result.now c.self.inside.len c.deref_mut.ensures.value c.self.invariant

pub take_out-item-requires-clause-apart : goal.take_out-item-requires-clause-apart
take_out-item-requires-clause-apart g c = apart_in c.self.inside.buckets.items c.deref_mut.result.now c.self.inside.len c.deref_mut.ensures.value c.self.invariant

pub overflow_sub-self : goal.overflow_sub-self
overflow_sub-self g c =
    let counted = c.self.invariant.counted in
    let same : count c.deref_mut.result.now ≡ count c.self.inside.buckets.items = ap count c.deref_mut.ensures.value in
    let fewer = c.take_out-item.ensures.count in
    omega arith

pub invariant_of-self : goal.invariant_of-self
invariant_of-self g c =
    let after = take_at c.take_out-item.new.buckets (drop (length c.take_out-item.new.buckets) c.self.inside.buckets.items) c.self.inside.buckets.len (c.take_out-item.auto.buckets ∙ c.deref_mut.ensures.len) in
    subst (λ l. IsTable l (c.self.inside.len - 1)) (sym after)
    (table_fewer c.self.inside.buckets.items c.deref_mut.result.now c.take_out-item.new.buckets c.self.inside.len c.deref_mut.ensures.value c.take_out-item.auto.buckets c.take_out-item.ensures.reached c.take_out-item.ensures.apart c.self.invariant c.take_out-item.ensures.count)

pub returns-clause-item : goal.returns-clause-item
returns-clause-item g c s h =
    c.take_out-item.ensures.item s (subst (λ j. Holds c.deref_mut.result.now j s) (sym c.cursor.view_is) (subst (λ l. Holds l c.args.cursor s) (sym (c.deref_mut.ensures.value ∙ c.self.view_is)) h))

pub returns-clause-removes : goal.returns-clause-removes
returns-clause-removes g c =
    let after = take_at c.take_out-item.new.buckets (drop (length c.take_out-item.new.buckets) c.self.inside.buckets.items) c.self.inside.buckets.len (c.take_out-item.auto.buckets ∙ c.deref_mut.ensures.len) in
    subst (λ l. Removes c.args.self.now l c.take_out-item.result) (sym after)
    (subst (λ l. Removes l c.take_out-item.new.buckets c.take_out-item.result) (c.deref_mut.ensures.value ∙ c.self.view_is) c.take_out-item.ensures.removes)

pub returns-clause-count : goal.returns-clause-count
returns-clause-count g c =
    let after = take_at c.take_out-item.new.buckets (drop (length c.take_out-item.new.buckets) c.self.inside.buckets.items) c.self.inside.buckets.len (c.take_out-item.auto.buckets ∙ c.deref_mut.ensures.len) in
    ap (λ l. count l + 1) after ∙ c.take_out-item.ensures.count ∙ ap count (c.deref_mut.ensures.value ∙ c.self.view_is)

pub returns-clause-capacity : goal.returns-clause-capacity
returns-clause-capacity g c =
    let after = take_at c.take_out-item.new.buckets (drop (length c.take_out-item.new.buckets) c.self.inside.buckets.items) c.self.inside.buckets.len (c.take_out-item.auto.buckets ∙ c.deref_mut.ensures.len) in
    ap capacity after ∙ ap (λ n. n / 2) (c.take_out-item.auto.buckets ∙ ap length (c.deref_mut.ensures.value ∙ c.self.view_is))
