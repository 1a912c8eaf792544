use Rattle.std.proofs.Common.{[], ap, ◌∙◌}
use Rattle.std.specs.List.{cons_option}
use Rattle.concurrent_lru.specs.NodeTable.{entry_of}
use Rattle.concurrent_lru.specs.Representation.{as_idle}
use Rattle.concurrent_lru.proofs.Entries.NodeAtPlace.{some_of}
use Rattle.concurrent_lru.proofs.table.Table.invalidate.Goals as goal

pub returns-clause-evicted : goal.returns-clause-evicted
returns-clause-evicted g c = λ _.
    let e = entry_of c.evict-node.result.value in
    let x = some_of (as_idle e) c.evict-node.ensures.ready in
    record {
      stamp = e.stamp;
      entry = x.0;
      at = c.evict-node.ensures.at;
      idle = c.evict-node.ensures.entry ∙ x.1;
      left = c.evict-node.ensures.idle;
      held = c.evict-node.ensures.held;
      one = c.one.ensures ∙ ap (λ o. cons_option o []) x.1;
    }
