use Rattle.std.proofs.Common.{sym, ap, ◌∙◌}
use Rattle.concurrent_lru.specs.Cache.{count_of}
use Rattle.concurrent_lru.specs.Entries.{cache_of}
use Rattle.concurrent_lru.proofs.Entries.CountOfEntries.{entries_of_nodes}
use Rattle.concurrent_lru.proofs.table.Table.len.Goals as goal

pub returns : goal.returns
returns g c = c.len.ensures ∙ sym (entries_of_nodes c.self.inside.nodes c.self.invariant.stored.represents) ∙ ap (λ t. count_of (cache_of t)) c.self.view_is
