use Rattle.std.proofs.Common.{◌≡◌, ◌+◌, ◌-◌, ◌<◌, ◌≤◌, ◌^◌, sym, ap, ◌∙◌, subst, eqb, arith}
use Rattle.std.specs.Prelude.{is_some}
use Rattle.std.specs.List.{list_any}
use Rattle.std.specs.FinMap.{get}
use Rattle.concurrent_lru.specs.NodeTable.{entry_of, new_entry}
use Rattle.concurrent_lru.specs.Entries.{AddsOverIdle, ContainsIdleAt, ContainsNoStamp, GetsAt, charges_of}
use Rattle.concurrent_lru.specs.Indexes.{entries_of}
use Rattle.concurrent_lru.specs.KeyHashes.{key_hash}
use Rattle.concurrent_lru.proofs.Entries.HashesOfNodes.{alike_hashes, hash_alike}
use Rattle.concurrent_lru.proofs.Lists.DistinctNumbers.{list_any-filter_self}
use Rattle.concurrent_lru.proofs.Lists.Members.{IsIn}
use Rattle.concurrent_lru.proofs.Entries.FoundNodes.{fresh_among}
use Rattle.concurrent_lru.proofs.Entries.AddAndTake.{IsAdded, IsTaken, put_added, stored_without, ready_without, held_same, idle_without, on_err}
use Rattle.concurrent_lru.proofs.Entries.AddOver.{fresh_taken}
use Rattle.concurrent_lru.proofs.Entries.NodeAtPlace.{has_node, idle_node, idle_found, node_is_at, place_at, unheld}
use Rattle.concurrent_lru.proofs.Entries.ChargesOfIdle.{kept_bound}
use Rattle.concurrent_lru.proofs.Entries.SoundTables.{adds_new, fresh_entry, grown, idle_counted, idle_taken, with_new, without_idle}
use Rattle.concurrent_lru.proofs.table.Table.add_over_idle.Goals as goal
use Rattle.concurrent_lru.proofs.table.Table.add_over_idle.Goals.{After-make_room, After-take_away-old, After-put-new}

pub node-requires : goal.node-requires
node-requires g c = let h = subst (λ t. ContainsIdleAt t c.args.place) (sym c.self.view_is) c.requires.idle in has_node c.self.invariant.stored c.args.place (h.0, h.1)

pub invariant_of-self : goal.invariant_of-self
invariant_of-self g c = (grown c.self.inside.nodes c.make_room.new.nodes c.self.inside.by_stamp c.make_room.new.by_stamp c.self.invariant c.self.view_is c.make_room.ensures).sound

pub returns-in_err-make_room-clause-err : goal.returns-in_err-make_room-clause-err
returns-in_err-make_room-clause-err g c = on_err _ (grown c.self.inside.nodes c.make_room.new.nodes c.self.inside.by_stamp c.make_room.new.by_stamp c.self.invariant c.self.view_is c.make_room.ensures).same

-- the entry at the place is still idle once room was made
idle : (g : _) (c : After-make_room g) → IsIn c.args.place c.make_room.new.nodes.idle
idle g c =
    let room = grown c.self.inside.nodes c.make_room.new.nodes c.self.inside.by_stamp c.make_room.new.by_stamp c.self.invariant c.self.view_is c.make_room.ensures in
    idle_node room.sound.stored c.args.place (subst (λ t. ContainsIdleAt t c.args.place) (sym room.same) c.requires.idle)

pub remove-requires : goal.remove-requires
remove-requires g c = idle g (goal.at.remove-requires g c).After-make_room

pub take_away-old-requires-clause-within : goal.take_away-old-requires-clause-within
take_away-old-requires-clause-within g c =
    let room = grown c.self.inside.nodes c.make_room.new.nodes c.self.inside.by_stamp c.make_room.new.by_stamp c.self.invariant c.self.view_is c.make_room.ensures in
    let h = subst (λ t. ContainsIdleAt t c.args.place) (sym room.same) c.requires.idle in
    ap (λ m. is_some (get m c.args.place)) c.remove.ensures.nodes ∙ has_node room.sound.stored c.args.place (h.0, h.1)

pub take_away-old-requires-clause-apart : goal.take_away-old-requires-clause-apart
take_away-old-requires-clause-apart g c = ap (list_any (eqb c.args.place)) c.remove.ensures.idle ∙ list_any-filter_self c.args.place c.make_room.new.nodes.idle

pub take_away-old-requires-clause-counted : goal.take_away-old-requires-clause-counted
take_away-old-requires-clause-counted g c = λ e at.
    let room = grown c.self.inside.nodes c.make_room.new.nodes c.self.inside.by_stamp c.make_room.new.by_stamp c.self.invariant c.self.view_is c.make_room.ensures in
    idle_counted room.sound c.args.place e (ap (λ m. get m c.args.place) (sym c.remove.ensures.nodes) ∙ at) (idle g (goal.at.take_away-old-requires-clause-counted g c).After-make_room)

-- and was taken out
taken : (g : _) (c : After-take_away-old g) → IsTaken c.make_room.new.nodes c.take_away-old.new.nodes c.make_room.new.by_stamp c.take_away-old.new.by_stamp c.args.place (entry_of c.take_away-old.result.value)
taken g c = idle_taken c.make_room.new.nodes c.remove.new.self c.take_away-old.new.nodes c.make_room.new.by_stamp c.take_away-old.new.by_stamp c.args.place (entry_of c.take_away-old.result.value) c.remove.ensures c.take_away-old.ensures

pub put-new-requires-clause-fresh : goal.put-new-requires-clause-fresh
put-new-requires-clause-fresh g c =
    let room = grown c.self.inside.nodes c.make_room.new.nodes c.self.inside.by_stamp c.make_room.new.by_stamp c.self.invariant c.self.view_is c.make_room.ensures in
    fresh_entry c.take_away-old.new.nodes _ _ c.in_ok-node.ensures.entry (fresh_taken c.make_room.new.nodes c.take_away-old.new.nodes c.args.place c.args.stamp (taken g (goal.at.put-new-requires-clause-fresh g c).After-take_away-old).nodes (fresh_among room.sound.stored c.args.stamp (subst (λ t. ContainsNoStamp t c.args.stamp) (sym room.same) c.requires.fresh)))

pub put-new-requires-clause-fits : goal.put-new-requires-clause-fits
put-new-requires-clause-fits g c =
    let room = grown c.self.inside.nodes c.make_room.new.nodes c.self.inside.by_stamp c.make_room.new.by_stamp c.self.invariant c.self.view_is c.make_room.ensures in
    let e = entry_of c.take_away-old.result.value in
    let here = subst (λ t. GetsAt t c.args.place e) room.same (node_is_at room.sound.stored c.args.place e (taken g (goal.at.put-new-requires-clause-fits g c).After-take_away-old).at) in
    let entry : entry_of c.in_ok-node.node.value ≡ new_entry c.args.stamp (entry_of c.in_ok-node.node.value).key c.args.charge = c.in_ok-node.ensures.entry in
    let fits : charges_of c.args.self.now + c.args.charge < 2 ^ 64 + e.charge = c.requires.fits e here in
    let all : c.self.inside.total ≡ charges_of c.args.self.now = c.self.invariant.sums ∙ ap charges_of c.self.view_is in
    let total = c.take_away-old.ensures.total in
    subst (λ n. c.take_away-old.new.total + n < 2 ^ 64) (sym (ap (λ x. x.charge) entry)) (omega (arith, fits, all, total))

pub put-new-requires-clause-stamp_room : goal.put-new-requires-clause-stamp_room
put-new-requires-clause-stamp_room g c = c.take_away-old.ensures.stamp_room c.in_ok-make_room.ensures.ok.1

-- the new node was added
added : (g : _) (c : After-put-new g) → IsAdded (key_hash c.self.inside.seed g.K.Hash.hash_input) c.take_away-old.new.nodes c.put-new.new.nodes c.take_away-old.new.by_stamp c.put-new.new.by_stamp c.put-new.result (new_entry c.args.stamp (entry_of c.in_ok-node.node.value).key c.args.charge)
added g c =
    let room = grown c.self.inside.nodes c.make_room.new.nodes c.self.inside.by_stamp c.make_room.new.by_stamp c.self.invariant c.self.view_is c.make_room.ensures in
    let took = idle_taken c.make_room.new.nodes c.remove.new.self c.take_away-old.new.nodes c.make_room.new.by_stamp c.take_away-old.new.by_stamp c.args.place (entry_of c.take_away-old.result.value) c.remove.ensures c.take_away-old.ensures in
    let e = entry_of c.node.result.now in
    let here = subst (λ t. GetsAt t c.args.place e) c.self.view_is (node_is_at c.self.invariant.stored c.args.place e c.node.ensures.entry) in
    put_added (alike_hashes c.self.inside.seed g.K.Hash.hash_input g.met.K.Hash.respects_eq) (stored_without room.sound.stored took) c.in_ok-node.ensures.own c.in_ok-node.ensures.entry (c.in_ok-node.ensures.hash ∙ (hash_alike _ _ (alike_hashes c.self.inside.seed g.K.Hash.hash_input g.met.K.Hash.respects_eq) c.self.invariant.stored.hashed c.args.place _ e c.args.key.now c.node.ensures.entry c.node.ensures.hash (c.requires.keyed e here))) (fresh_taken c.make_room.new.nodes c.take_away-old.new.nodes c.args.place c.args.stamp took.nodes (fresh_among room.sound.stored c.args.stamp (subst (λ t. ContainsNoStamp t c.args.stamp) (sym room.same) c.requires.fresh))) c.put-new.ensures

pub invariant_of-self-2 : goal.invariant_of-self-2
invariant_of-self-2 g c =
    let room = grown c.self.inside.nodes c.make_room.new.nodes c.self.inside.by_stamp c.make_room.new.by_stamp c.self.invariant c.self.view_is c.make_room.ensures in
    let took = taken g (goal.at.invariant_of-self-2 g c).After-take_away-old in
    let rests = idle g (goal.at.invariant_of-self-2 g c).After-make_room in
    let less = without_idle c.make_room.new.nodes c.take_away-old.new.nodes c.make_room.new.by_stamp c.take_away-old.new.by_stamp room.sound took rests c.take_away-old.ensures.total (ap (λ n. c.self.inside.idle_charge - (entry_of n).charge) c.deref.ensures) in
    let free = ap (λ h. get h c.args.stamp) (held_same room.sound.stored took rests) ∙ unheld room.sound.stored c.args.stamp (subst (λ t. ContainsNoStamp t c.args.stamp) (sym room.same) c.requires.fresh) in
    with_new c.take_away-old.new.nodes c.put-new.new.nodes c.take_away-old.new.by_stamp c.put-new.new.by_stamp less (added g (goal.at.invariant_of-self-2 g c).After-put-new) free c.in_ok-node.ensures.entry c.put-new.ensures.total

pub returns-clause-ready : goal.returns-clause-ready
returns-clause-ready g c =
    let room = grown c.self.inside.nodes c.make_room.new.nodes c.self.inside.by_stamp c.make_room.new.by_stamp c.self.invariant c.self.view_is c.make_room.ensures in
    ready_without room.sound.stored (taken g (goal.at.returns-clause-ready g c).After-take_away-old) (idle g (goal.at.returns-clause-ready g c).After-make_room)

pub returns-clause-ok : goal.returns-clause-ok
returns-clause-ok g c =
    let room = grown c.self.inside.nodes c.make_room.new.nodes c.self.inside.by_stamp c.make_room.new.by_stamp c.self.invariant c.self.view_is c.make_room.ensures in
    let r = room.sound.stored in
    let e = entry_of c.take_away-old.result.value in
    let took = taken g (goal.at.returns-clause-ok g c).After-take_away-old in
    let rests = idle g (goal.at.returns-clause-ok g c).After-make_room in
    subst (λ t. AddsOverIdle g.K.PartialEq.eq t c.args.place e c.args.stamp c.args.key.now c.args.charge (entries_of c.put-new.new.nodes)) room.same (record {
      mid = entries_of c.take_away-old.new.nodes;
      at = place_at r c.args.place e took.at;
      entry = (idle_found r c.args.place e took.at rests).1;
      idle = idle_without r took rests;
      held = held_same r took rests;
      work = c.take_away-old.ensures.work ∙ c.remove.ensures.work;
      added = adds_new (stored_without r took) (added g (goal.at.returns-clause-ok g c).After-put-new) c.in_ok-node.ensures.own c.put-new.ensures.work;
    })

pub overflow_sub-self : goal.overflow_sub-self
overflow_sub-self g c =
    let room = grown c.self.inside.nodes c.make_room.new.nodes c.self.inside.by_stamp c.make_room.new.by_stamp c.self.invariant c.self.view_is c.make_room.ensures in
    let at = ap (λ m. get m c.args.place) (sym c.remove.ensures.nodes) ∙ c.take_away-old.ensures.entry in
    subst (λ n. (entry_of n).charge ≤ c.self.inside.idle_charge) (sym c.deref.ensures) (kept_bound room.sound.stored c.args.place _ at (idle g (goal.at.overflow_sub-self g c).After-make_room) _ room.sound.rests)
