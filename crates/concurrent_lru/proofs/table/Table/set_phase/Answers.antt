use Rattle.std.proofs.Common.{refl, sym, ap, ◌∙◌, subst}
use Rattle.concurrent_lru.specs.Cache.{charges}
use Rattle.concurrent_lru.specs.NodeTable.{phase_of}
use Rattle.concurrent_lru.specs.Entries.{ContainsHeldAt, LeadsAt, Rewrites}
use Rattle.concurrent_lru.specs.Steps.{held_in_phase}
use Rattle.concurrent_lru.specs.Indexes.{entries_of}
use Rattle.concurrent_lru.proofs.Entries.NodeAtPlace.{has_node, some_node, held_node, held_found, place_at}
use Rattle.concurrent_lru.proofs.Steps.ReadyAndPoll.{phase_writes}
use Rattle.concurrent_lru.proofs.Entries.SetPinsAndRest.{stored_written, entries_written}
use Rattle.concurrent_lru.proofs.Entries.SumsOfCharges.{sum_written}
use Rattle.concurrent_lru.proofs.table.Table.set_phase.Goals as goal

pub write_phase-requires-clause-within : goal.write_phase-requires-clause-within
write_phase-requires-clause-within g c = let h = subst (λ t. ContainsHeldAt t c.args.place) (sym c.self.view_is) c.requires.held in has_node c.self.invariant.stored c.args.place (h.0, h.1)

pub invariant_of-self : goal.invariant_of-self
invariant_of-self g c =
    let h = subst (λ t. ContainsHeldAt t c.args.place) (sym c.self.view_is) c.requires.held in
    let n = some_node c.self.invariant.stored c.args.place (h.0, h.1) in
    let changed = entries_written c.self.invariant.stored (phase_writes c.self.inside.nodes c.write_phase.new.self c.args.place (phase_of c.args.phase) n.0 n.1 c.write_phase.ensures.nodes) refl refl c.write_phase.ensures.links c.write_phase.ensures.idle (held_node c.self.invariant.stored c.args.place n.0 h n.1) (held_node c.self.invariant.stored c.args.place n.0 h n.1) c.write_phase.ensures.work in
    record {
      stored = stored_written c.self.invariant.stored (phase_writes c.self.inside.nodes c.write_phase.new.self c.args.place (phase_of c.args.phase) n.0 n.1 c.write_phase.ensures.nodes) refl refl c.write_phase.ensures.hashes c.write_phase.ensures.idle (held_node c.self.invariant.stored c.args.place n.0 h n.1) (held_node c.self.invariant.stored c.args.place n.0 h n.1);
      sums = c.self.invariant.sums ∙ sym (sum_written (entries_of c.self.inside.nodes) (entries_of c.write_phase.new.self) n.0.stamp _ _ (ap (λ t. t.idle) changed) (ap (λ t. t.held) changed) (held_found c.self.invariant.stored c.args.place n.0 n.1 (held_node c.self.invariant.stored c.args.place n.0 h n.1)) refl);
      rests = c.self.invariant.rests ∙ ap (λ t. charges t.idle) (sym changed);
    }

pub returns : goal.returns
returns g c =
    let h = subst (λ t. ContainsHeldAt t c.args.place) (sym c.self.view_is) c.requires.held in
    let n = some_node c.self.invariant.stored c.args.place (h.0, h.1) in
    subst (λ t. Rewrites (held_in_phase (phase_of c.args.phase)) t c.args.place (entries_of c.write_phase.new.self)) c.self.view_is (record {
      stamp = n.0.stamp;
      entry = _;
      at = place_at c.self.invariant.stored c.args.place n.0 n.1;
      held = held_found c.self.invariant.stored c.args.place n.0 n.1 (held_node c.self.invariant.stored c.args.place n.0 h n.1);
      changed = entries_written c.self.invariant.stored (phase_writes c.self.inside.nodes c.write_phase.new.self c.args.place (phase_of c.args.phase) n.0 n.1 c.write_phase.ensures.nodes) refl refl c.write_phase.ensures.links c.write_phase.ensures.idle (held_node c.self.invariant.stored c.args.place n.0 h n.1) (held_node c.self.invariant.stored c.args.place n.0 h n.1) c.write_phase.ensures.work;
    })

pub write_phase-requires-clause-link : goal.write_phase-requires-clause-link
write_phase-requires-clause-link g c = subst (λ t. LeadsAt t c.args.link c.args.place) (sym c.self.view_is) c.requires.link
