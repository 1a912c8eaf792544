use Rattle.std.proofs.Common.{subst, eqb}
use Rattle.std.specs.List.{IsDistinct}
use Rattle.concurrent_lru.specs.NodeTable.{ContainsIdle, ContainsNode}
use Rattle.concurrent_lru.proofs.Nodes.SlotViews.{idle_within, idle_distinct}
use Rattle.concurrent_lru.proofs.node_table.Nodes.oldest.Goals as goal

pub returns-in-Some-clause-within : goal.returns-in-Some-clause-within
returns-in-Some-clause-within g c = λ p. let i = c.self.inside in subst (λ v. ContainsIdle v p → ContainsNode v p) c.self.view_is (idle_within i.order i.work.count p c.self.invariant.linked)

pub returns-in-Some-clause-apart : goal.returns-in-Some-clause-apart
returns-in-Some-clause-apart g c = let i = c.self.inside in subst (λ v. IsDistinct eqb v.idle) c.self.view_is (idle_distinct i.order c.self.invariant.linked)

pub returns-in-None-clause-apart : goal.returns-in-None-clause-apart
returns-in-None-clause-apart g c = let i = c.self.inside in subst (λ v. IsDistinct eqb v.idle) c.self.view_is (idle_distinct i.order c.self.invariant.linked)
