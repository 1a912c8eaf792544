use Rattle.concurrent_lru.proofs.Entries.SoundTables.{grown}
use Rattle.concurrent_lru.proofs.table.Table.reserve.Goals as goal

pub invariant_of-self : goal.invariant_of-self
invariant_of-self g c = (grown c.self.inside.nodes c.make_room.new.nodes c.self.inside.by_stamp c.make_room.new.by_stamp c.self.invariant c.self.view_is c.make_room.ensures).sound

pub returns-clause-same : goal.returns-clause-same
returns-clause-same g c = (grown c.self.inside.nodes c.make_room.new.nodes c.self.inside.by_stamp c.make_room.new.by_stamp c.self.invariant c.self.view_is c.make_room.ensures).same
