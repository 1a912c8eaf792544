use Rattle.std.proofs.Common.{refl, subst}
use Rattle.concurrent_lru.specs.Probing.Entries.{Removes}
use Rattle.concurrent_lru.proofs.Nodes.Listings.{fewer_but, same_but}
use Rattle.concurrent_lru.proofs.Probing.Contents.Slots.{holds_filled}
use Rattle.concurrent_lru.proofs.node_table.slots.Slots.unlist.Goals as goal

pub remove-at-requires : goal.remove-at-requires
remove-at-requires g c = let at = c.in-Some.ensures in holds_filled c.args.self.now.by_hash c.in-Some.cursor at.0 at.2

pub returns-in-Some-clause-others : goal.returns-in-Some-clause-others
returns-in-Some-clause-others g c =
    let s = c.args.self.now in let at = c.in-Some.ensures in
    fewer_but s (record s { by_hash = c.remove-at.new.self }) c.args.slot at.0 refl c.requires.tied at.1 (subst (Removes s.by_hash c.remove-at.new.self) (c.remove-at.ensures.item at.0 at.2) c.remove-at.ensures.removes) c.requires.listed

pub returns-in-None-clause-others : goal.returns-in-None-clause-others
returns-in-None-clause-others g c = same_but c.args.self.now c.args.slot c.in-None.ensures c.requires.listed
