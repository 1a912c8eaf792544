use Rattle.std.proofs.Common.{sym, subst}
use Rattle.concurrent_lru.specs.Entries.{ContainsFoundAt, Rewrites}
use Rattle.concurrent_lru.specs.Steps.{held_detached}
use Rattle.concurrent_lru.specs.Indexes.{entries_of}
use Rattle.concurrent_lru.proofs.Entries.NodeAtPlace.{has_node}
use Rattle.concurrent_lru.proofs.Entries.SoundTables.{with_detached}
use Rattle.concurrent_lru.proofs.table.Table.detach.Goals as goal

pub set_detached-requires : goal.set_detached-requires
set_detached-requires g c = let h = subst (λ t. ContainsFoundAt t c.args.place) (sym c.self.view_is) c.requires in has_node c.self.invariant.stored c.args.place (h.0, h.1)

pub invariant_of-self : goal.invariant_of-self
invariant_of-self g c = (with_detached c.self.inside.nodes c.set_detached.new.self c.self.invariant c.args.place (subst (λ t. ContainsFoundAt t c.args.place) (sym c.self.view_is) c.requires) c.set_detached.ensures).sound

pub returns : goal.returns
returns g c = subst (λ t. Rewrites held_detached t c.args.place (entries_of c.set_detached.new.self)) c.self.view_is (with_detached c.self.inside.nodes c.set_detached.new.self c.self.invariant c.args.place (subst (λ t. ContainsFoundAt t c.args.place) (sym c.self.view_is) c.requires) c.set_detached.ensures).detached
