use Rattle.std.proofs.Common.{sym, ap, ◌∙◌, subst}
use Rattle.std.specs.FinMap.{insert}
use Rattle.concurrent_lru.specs.NodeTable.{entry_of, new_entry}
use Rattle.concurrent_lru.specs.Entries.{ContainsNoStamp, new_held}
use Rattle.concurrent_lru.specs.KeyHashes.{key_hash}
use Rattle.concurrent_lru.proofs.Entries.HashesOfNodes.{alike_hashes}
use Rattle.concurrent_lru.proofs.Entries.FoundNodes.{fresh_among}
use Rattle.concurrent_lru.proofs.Entries.AddAndTake.{IsAdded, put_added, idle_with, held_with, on_err}
use Rattle.concurrent_lru.proofs.Entries.NodeAtPlace.{unheld}
use Rattle.concurrent_lru.proofs.Entries.SoundTables.{fresh_entry, grown, with_new}
use Rattle.concurrent_lru.proofs.table.Table.add.Goals as goal
use Rattle.concurrent_lru.proofs.table.Table.add.Goals.{After-put}

pub invariant_of-self : goal.invariant_of-self
invariant_of-self g c = (grown c.self.inside.nodes c.make_room.new.nodes c.self.inside.by_stamp c.make_room.new.by_stamp c.self.invariant c.self.view_is c.make_room.ensures).sound

pub returns-in_err-make_room-clause-err : goal.returns-in_err-make_room-clause-err
returns-in_err-make_room-clause-err g c = on_err _ (grown c.self.inside.nodes c.make_room.new.nodes c.self.inside.by_stamp c.make_room.new.by_stamp c.self.invariant c.self.view_is c.make_room.ensures).same

pub put-requires-clause-fresh : goal.put-requires-clause-fresh
put-requires-clause-fresh g c =
    let room = grown c.self.inside.nodes c.make_room.new.nodes c.self.inside.by_stamp c.make_room.new.by_stamp c.self.invariant c.self.view_is c.make_room.ensures in
    fresh_entry c.make_room.new.nodes _ _ c.in_ok-node.ensures.entry (fresh_among room.sound.stored c.args.stamp (subst (λ t. ContainsNoStamp t c.args.stamp) (sym room.same) c.requires.fresh))

-- the new node was added
added : (g : _) (c : After-put g) → IsAdded (key_hash c.self.inside.seed g.K.Hash.hash_input) c.make_room.new.nodes c.put.new.nodes c.make_room.new.by_stamp c.put.new.by_stamp c.put.result (new_entry c.args.stamp (entry_of c.in_ok-node.node.value).key c.args.charge)
added g c =
    let room = grown c.self.inside.nodes c.make_room.new.nodes c.self.inside.by_stamp c.make_room.new.by_stamp c.self.invariant c.self.view_is c.make_room.ensures in
    put_added (alike_hashes c.self.inside.seed g.K.Hash.hash_input g.met.K.Hash.respects_eq) room.sound.stored c.in_ok-node.ensures.own c.in_ok-node.ensures.entry (c.in_ok-node.ensures.hash ∙ c.under-hash.ensures) (fresh_among room.sound.stored c.args.stamp (subst (λ t. ContainsNoStamp t c.args.stamp) (sym room.same) c.requires.fresh)) c.put.ensures

pub invariant_of-self-2 : goal.invariant_of-self-2
invariant_of-self-2 g c =
    let room = grown c.self.inside.nodes c.make_room.new.nodes c.self.inside.by_stamp c.make_room.new.by_stamp c.self.invariant c.self.view_is c.make_room.ensures in
    with_new c.make_room.new.nodes c.put.new.nodes c.make_room.new.by_stamp c.put.new.by_stamp room.sound (added g (goal.at.invariant_of-self-2 g c).After-put) (unheld room.sound.stored c.args.stamp (subst (λ t. ContainsNoStamp t c.args.stamp) (sym room.same) c.requires.fresh)) c.in_ok-node.ensures.entry c.put.ensures.total

pub returns-clause-idle : goal.returns-clause-idle
returns-clause-idle g c =
    let room = grown c.self.inside.nodes c.make_room.new.nodes c.self.inside.by_stamp c.make_room.new.by_stamp c.self.invariant c.self.view_is c.make_room.ensures in
    idle_with room.sound.stored (added g (goal.at.returns-clause-idle g c).After-put) ∙ ap (λ t. t.idle) room.same

pub returns-clause-ok : goal.returns-clause-ok
returns-clause-ok g c =
    let room = grown c.self.inside.nodes c.make_room.new.nodes c.self.inside.by_stamp c.make_room.new.by_stamp c.self.invariant c.self.view_is c.make_room.ensures in
    let copy = (entry_of c.in_ok-node.node.value).key in
    (copy, c.self.invariant.stored.copies c.args.key.now copy c.in_ok-node.ensures.own, held_with room.sound.stored (added g (goal.at.returns-clause-ok g c).After-put) ∙ ap (λ t. insert t.held c.args.stamp (new_held copy c.args.charge)) room.same)
