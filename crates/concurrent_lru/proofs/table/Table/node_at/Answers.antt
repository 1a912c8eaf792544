use Rattle.std.proofs.Common.{◌≡◌, None, subst}
use Rattle.concurrent_lru.specs.NodeTable.{entry_of}
use Rattle.concurrent_lru.specs.ReadyEntries.{ready_in, ready_from_node}
use Rattle.concurrent_lru.proofs.Entries.ReadyByPlace.{node_ready, nothing_ready}
use Rattle.concurrent_lru.proofs.table.Table.node_at.Goals as goal

pub returns-then-contains : goal.returns-then-contains
returns-then-contains g c = subst (λ t. ready_in t c.args.place ≡ ready_from_node (entry_of c.node.result.now)) c.self.view_is (node_ready c.self.invariant.stored c.args.place (entry_of c.node.result.now) c.node.ensures.entry)

pub returns : goal.returns
returns g c = subst (λ t. ready_in t c.args.place ≡ None) c.self.view_is (nothing_ready c.self.invariant.stored c.args.place (c.contains.ensures.no c.if-contains.false))
