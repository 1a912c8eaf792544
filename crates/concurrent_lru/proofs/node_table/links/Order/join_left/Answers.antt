use Rattle.std.proofs.Common.{Some, refl, sym, ap, ◌∙◌, subst}
use Rattle.concurrent_lru.specs.Relinks.{LeftJoined, place_of, slot_in}
use Rattle.concurrent_lru.specs.SlotPointers.{cells_of, with_node}
use Rattle.concurrent_lru.specs.SlotTable.{IsGood}
use Rattle.concurrent_lru.proofs.Nodes.NodeWrites.{relinked_after}
use Rattle.concurrent_lru.proofs.Nodes.PointersTied.{own_slot}
use Rattle.concurrent_lru.proofs.node_table.links.Order.join_left.Goals as goal

pub returns-in-Some-clause-joined : goal.returns-in-Some-clause-joined
returns-in-Some-clause-joined g c =
    let s = c.args.self.now.slots in let t = with_node s c.in-Some.link c.set_after.new.self in
    subst (λ b. LeftJoined (cells_of s) (cells_of t) c.args.self.now.oldest c.args.self.now.oldest b c.args.after) (sym c.in-Some.is)
    (relinked_after (cells_of s) c.in-Some.link c.lend.result.now c.set_after.new.self c.lend.ensures.value (subst (IsGood (cells_of s)) c.in-Some.is c.requires.before) c.args.after c.set_after.ensures, refl)

pub returns-in-Some-after-clause-joined : goal.returns-in-Some-after-clause-joined
returns-in-Some-after-clause-joined g c =
    let s = c.args.self.now.slots in
    subst (λ b. LeftJoined (cells_of s) (cells_of s) c.args.self.now.oldest (Some (place_of c.get.result.now)) b c.args.after) (sym c.in-None.is)
    (refl, own_slot s c.in-Some-after.link c.get.result.now c.requires.tied (subst (IsGood (cells_of s)) c.in-Some-after.is c.requires.after) c.get.ensures ∙ sym (ap (slot_in (cells_of s)) c.in-Some-after.is))
