use Rattle.std.proofs.Common.{refl, sym, subst}
use Rattle.concurrent_lru.specs.Relinks.{RightJoined}
use Rattle.concurrent_lru.specs.SlotPointers.{cells_of, with_node}
use Rattle.concurrent_lru.specs.SlotTable.{IsGood}
use Rattle.concurrent_lru.proofs.Nodes.NodeWrites.{relinked_before}
use Rattle.concurrent_lru.proofs.node_table.links.Order.join_right.Goals as goal

pub returns-in-Some-clause-joined : goal.returns-in-Some-clause-joined
returns-in-Some-clause-joined g c =
    let s = c.args.self.now.slots in let t = with_node s c.in-Some.link c.set_before.new.self in
    subst (λ a. RightJoined (cells_of s) (cells_of t) c.args.self.now.newest c.args.self.now.newest c.args.before a) (sym c.in-Some.is)
    (relinked_before (cells_of s) c.in-Some.link c.lend.result.now c.set_before.new.self c.lend.ensures.value (subst (IsGood (cells_of s)) c.in-Some.is c.requires) c.args.before c.set_before.ensures, refl)
