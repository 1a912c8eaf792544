use Rattle.std.proofs.Common.{sym, ◌∙◌, subst}
use Rattle.concurrent_lru.specs.NodeTable.{entry_of, new_entry}
use Rattle.concurrent_lru.specs.Entries.{AddsOverHeld, ContainsFoundAt, ContainsNoStamp, GetsAt}
use Rattle.concurrent_lru.specs.Indexes.{entries_of}
use Rattle.concurrent_lru.specs.KeyHashes.{key_hash}
use Rattle.concurrent_lru.proofs.Entries.HashesOfNodes.{alike_hashes, hash_alike}
use Rattle.concurrent_lru.proofs.Entries.AddAndTake.{IsAdded, put_added, on_err}
use Rattle.concurrent_lru.proofs.Entries.NodeAtPlace.{has_node, node_is_at}
use Rattle.concurrent_lru.proofs.Entries.SoundTables.{adds_new, fresh_entry, grown, with_detached, with_new}
use Rattle.concurrent_lru.proofs.table.Table.add_over_held.Goals as goal
use Rattle.concurrent_lru.proofs.table.Table.add_over_held.Goals.{After-put}

pub node-requires : goal.node-requires
node-requires g c = let h = subst (λ t. ContainsFoundAt t c.args.place) (sym c.self.view_is) c.requires.held in has_node c.self.invariant.stored c.args.place (h.0, h.1)

pub invariant_of-self : goal.invariant_of-self
invariant_of-self g c = (grown c.self.inside.nodes c.make_room.new.nodes c.self.inside.by_stamp c.make_room.new.by_stamp c.self.invariant c.self.view_is c.make_room.ensures).sound

pub returns-in_err-make_room-clause-err : goal.returns-in_err-make_room-clause-err
returns-in_err-make_room-clause-err g c = on_err _ (grown c.self.inside.nodes c.make_room.new.nodes c.self.inside.by_stamp c.make_room.new.by_stamp c.self.invariant c.self.view_is c.make_room.ensures).same

pub set_detached-requires : goal.set_detached-requires
set_detached-requires g c =
    let room = grown c.self.inside.nodes c.make_room.new.nodes c.self.inside.by_stamp c.make_room.new.by_stamp c.self.invariant c.self.view_is c.make_room.ensures in
    let h = subst (λ t. ContainsFoundAt t c.args.place) (sym room.same) c.requires.held in
    has_node room.sound.stored c.args.place (h.0, h.1)

pub put-requires-clause-fresh : goal.put-requires-clause-fresh
put-requires-clause-fresh g c =
    let room = grown c.self.inside.nodes c.make_room.new.nodes c.self.inside.by_stamp c.make_room.new.by_stamp c.self.invariant c.self.view_is c.make_room.ensures in
    let over = with_detached c.make_room.new.nodes c.set_detached.new.self room.sound c.args.place (subst (λ t. ContainsFoundAt t c.args.place) (sym room.same) c.requires.held) c.set_detached.ensures in
    fresh_entry c.set_detached.new.self _ _ c.in_ok-node.ensures.entry (over.fresh c.args.stamp (subst (λ t. ContainsNoStamp t c.args.stamp) (sym room.same) c.requires.fresh))

-- the new node was added
added : (g : _) (c : After-put g) → IsAdded (key_hash c.self.inside.seed g.K.Hash.hash_input) c.set_detached.new.self c.put.new.nodes c.make_room.new.by_stamp c.put.new.by_stamp c.put.result (new_entry c.args.stamp (entry_of c.in_ok-node.node.value).key c.args.charge)
added g c =
    let room = grown c.self.inside.nodes c.make_room.new.nodes c.self.inside.by_stamp c.make_room.new.by_stamp c.self.invariant c.self.view_is c.make_room.ensures in
    let over = with_detached c.make_room.new.nodes c.set_detached.new.self room.sound c.args.place (subst (λ t. ContainsFoundAt t c.args.place) (sym room.same) c.requires.held) c.set_detached.ensures in
    let e = entry_of c.node.result.now in
    let here = subst (λ t. GetsAt t c.args.place e) c.self.view_is (node_is_at c.self.invariant.stored c.args.place e c.node.ensures.entry) in
    put_added (alike_hashes c.self.inside.seed g.K.Hash.hash_input g.met.K.Hash.respects_eq) over.sound.stored c.in_ok-node.ensures.own c.in_ok-node.ensures.entry (c.in_ok-node.ensures.hash ∙ (hash_alike _ _ (alike_hashes c.self.inside.seed g.K.Hash.hash_input g.met.K.Hash.respects_eq) c.self.invariant.stored.hashed c.args.place _ e c.args.key.now c.node.ensures.entry c.node.ensures.hash (c.requires.keyed e here))) (over.fresh c.args.stamp (subst (λ t. ContainsNoStamp t c.args.stamp) (sym room.same) c.requires.fresh)) c.put.ensures

pub invariant_of-self-2 : goal.invariant_of-self-2
invariant_of-self-2 g c =
    let room = grown c.self.inside.nodes c.make_room.new.nodes c.self.inside.by_stamp c.make_room.new.by_stamp c.self.invariant c.self.view_is c.make_room.ensures in
    let over = with_detached c.make_room.new.nodes c.set_detached.new.self room.sound c.args.place (subst (λ t. ContainsFoundAt t c.args.place) (sym room.same) c.requires.held) c.set_detached.ensures in
    with_new c.set_detached.new.self c.put.new.nodes c.make_room.new.by_stamp c.put.new.by_stamp over.sound (added g (goal.at.invariant_of-self-2 g c).After-put) (over.free c.args.stamp (subst (λ t. ContainsNoStamp t c.args.stamp) (sym room.same) c.requires.fresh)) c.in_ok-node.ensures.entry c.put.ensures.total

pub returns-clause-ok : goal.returns-clause-ok
returns-clause-ok g c =
    let room = grown c.self.inside.nodes c.make_room.new.nodes c.self.inside.by_stamp c.make_room.new.by_stamp c.self.invariant c.self.view_is c.make_room.ensures in
    let over = with_detached c.make_room.new.nodes c.set_detached.new.self room.sound c.args.place (subst (λ t. ContainsFoundAt t c.args.place) (sym room.same) c.requires.held) c.set_detached.ensures in
    subst (λ t. AddsOverHeld g.K.PartialEq.eq t c.args.place c.args.stamp c.args.key.now c.args.charge (entries_of c.put.new.nodes)) room.same
    (record { mid = entries_of c.set_detached.new.self; detached = over.detached; added = adds_new over.sound.stored (added g (goal.at.returns-clause-ok g c).After-put) c.in_ok-node.ensures.own c.put.ensures.work })
