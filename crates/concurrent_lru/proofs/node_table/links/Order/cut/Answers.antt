use Rattle.std.proofs.Common.{None, refl, sym, ap, ◌∙◌, subst}
use Rattle.concurrent_lru.specs.Relinks.{LeftJoined, RightJoined, Unlinks}
use Rattle.concurrent_lru.specs.SlotPointers.{cells_of, with_node}
use Rattle.concurrent_lru.specs.SlotTable.{IsGood}
use Rattle.concurrent_lru.proofs.Memory.CellSlots.{of_found}
use Rattle.concurrent_lru.proofs.Nodes.NodeWrites.{only_wrote, then_writes, set_both, unlinked}
use Rattle.concurrent_lru.proofs.Order.Appending.{quiet, quiet_listings, good_kept, tied_kept}
use Rattle.concurrent_lru.proofs.Order.TakingOut.{Cuts, left_quiet, quiet_out, linked_out, nodes_out, idle_out, good_beside}
use Rattle.concurrent_lru.proofs.node_table.links.Order.cut.Goals as goal
use Rattle.concurrent_lru.proofs.node_table.links.Order.cut.Goals.{After-set_after, After-join_right}

-- the links of the node were cut
apart : (g : _) (c : After-set_after g) → Unlinks (cells_of c.args.self.now.slots) (cells_of (with_node c.args.self.now.slots c.args.pointer c.set_after.new.self)) c.requires.idle.0 c.links-before.result.0 c.links-before.result.1
apart g c = unlinked (cells_of c.args.self.now.slots) c.args.pointer c.lend-node.result.now c.set_after.new.self c.lend-node.ensures.value c.links-before.ensures.before c.links-before.ensures.after (set_both c.set_before.ensures c.set_after.ensures) c.requires.idle.0 c.requires.idle.1

pub join_left-requires-clause-tied : goal.join_left-requires-clause-tied
join_left-requires-clause-tied g c =
    let s = c.args.self.now.slots in let t = with_node c.args.self.now.slots c.args.pointer c.set_after.new.self in
    let u = apart g (goal.at.join_left-requires-clause-tied g c).After-set_after in
    tied_kept s t (refl) (quiet (cells_of s) (cells_of t) c.requires.idle.0 None None u.cut) c.requires.linked.tied

pub join_left-requires-clause-before : goal.join_left-requires-clause-before
join_left-requires-clause-before g c =
    let cs = cells_of (with_node c.args.self.now.slots c.args.pointer c.set_after.new.self) in
    let u = apart g (goal.at.join_left-requires-clause-before g c).After-set_after in
    subst (IsGood cs) (sym u.was_before) (good_beside c.args.self.now c.requires.idle.0 cs c.requires.linked c.requires.idle.2 u.cut).0

pub join_left-requires-clause-after : goal.join_left-requires-clause-after
join_left-requires-clause-after g c =
    let cs = cells_of (with_node c.args.self.now.slots c.args.pointer c.set_after.new.self) in
    let u = apart g (goal.at.join_left-requires-clause-after g c).After-set_after in
    subst (IsGood cs) (sym u.was_after) (good_beside c.args.self.now c.requires.idle.0 cs c.requires.linked c.requires.idle.2 u.cut).1

pub join_right-requires : goal.join_right-requires
join_right-requires g c =
    let cs = cells_of (with_node c.args.self.now.slots c.args.pointer c.set_after.new.self) in let ds = cells_of c.join_left.new.self.slots in
    let u = apart g (goal.at.join_right-requires g c).After-set_after in
    good_kept cs ds (left_quiet cs ds c.args.self.now.oldest c.join_left.new.self.oldest c.links-before.result.0 c.links-before.result.1 c.join_left.ensures.joined) c.links-before.result.1
    (subst (IsGood cs) (sym u.was_after) (good_beside c.args.self.now c.requires.idle.0 cs c.requires.linked c.requires.idle.2 u.cut).1)

cuts : (g : _) (c : After-join_right g) → Cuts c.args.self.now c.join_right.new.self c.requires.idle.0
cuts g c = record {
  unlinked = cells_of (with_node c.args.self.now.slots c.args.pointer c.set_after.new.self);
  joined = cells_of c.join_left.new.self.slots;
  before = c.links-before.result.0;
  after = c.links-before.result.1;
  pointers = ap (λ w. w.pointers) c.join_right.ensures.rest ∙ ap (λ w. w.pointers) c.join_left.ensures.rest;
  apart = unlinked (cells_of c.args.self.now.slots) c.args.pointer c.lend-node.result.now c.set_after.new.self c.lend-node.ensures.value c.links-before.ensures.before c.links-before.ensures.after (set_both c.set_before.ensures c.set_after.ensures) c.requires.idle.0 c.requires.idle.1;
  left = subst (λ p. LeftJoined (cells_of (with_node c.args.self.now.slots c.args.pointer c.set_after.new.self)) (cells_of c.join_left.new.self.slots) c.args.self.now.oldest p c.links-before.result.0 c.links-before.result.1) (sym c.join_right.ensures.oldest) c.join_left.ensures.joined;
  right = subst (λ n. RightJoined (cells_of c.join_left.new.self.slots) (cells_of c.join_right.new.self.slots) n c.join_right.new.self.newest c.links-before.result.0 c.links-before.result.1) c.join_left.ensures.newest c.join_right.ensures.joined;
}

pub returns-clause-linked : goal.returns-clause-linked
returns-clause-linked g c = linked_out c.requires.linked c.requires.idle.2 (cuts g c)

pub returns-clause-nodes : goal.returns-clause-nodes
returns-clause-nodes g c = nodes_out c.requires.linked c.requires.idle.2 (cuts g c)

pub returns-clause-idle : goal.returns-clause-idle
returns-clause-idle g c = of_found _ c.requires.idle.1 (idle_out c.requires.linked c.requires.idle.2 (cuts g c))

pub returns-clause-rest : goal.returns-clause-rest
returns-clause-rest g c =
    let s = c.args.self.now.slots in let t = with_node c.args.self.now.slots c.args.pointer c.set_after.new.self in let u = c.join_left.new.self.slots in let v = c.join_right.new.self.slots in
    then_writes s u v (then_writes s t u (only_wrote s t refl) (only_wrote t u c.join_left.ensures.rest)) (only_wrote u v c.join_right.ensures.rest)

pub returns-clause-listings : goal.returns-clause-listings
returns-clause-listings g c = quiet_listings (cells_of c.args.self.now.slots) (cells_of c.join_right.new.self.slots) (quiet_out c.requires.linked c.requires.idle.2 (cuts g c))
