use Rattle.std.proofs.Common.{◌-◌, ◌≤◌, sym, ap, ◌∙◌, subst, eqb}
use Rattle.std.specs.Prelude.{is_some}
use Rattle.std.specs.List.{list_any}
use Rattle.std.specs.FinMap.{get, remove}
use Rattle.concurrent_lru.specs.Cache.{idle_at}
use Rattle.concurrent_lru.specs.Steps.{without}
use Rattle.concurrent_lru.specs.NodeTable.{entry_of}
use Rattle.concurrent_lru.specs.Entries.{ContainsIdleAt, cache_of}
use Rattle.concurrent_lru.proofs.Lists.Members.{IsIn}
use Rattle.concurrent_lru.proofs.Lists.DistinctNumbers.{list_any-filter_self}
use Rattle.concurrent_lru.proofs.Entries.NodeAtPlace.{has_node, idle_node, idle_found, place_at}
use Rattle.concurrent_lru.proofs.Entries.AddAndTake.{IsTaken, ready_without, held_same, idle_without}
use Rattle.concurrent_lru.proofs.Entries.SoundTables.{idle_counted, idle_taken, without_idle}
use Rattle.concurrent_lru.proofs.Entries.ChargesOfIdle.{kept_bound}
use Rattle.concurrent_lru.specs.Indexes.{stamps_of}
use Rattle.concurrent_lru.proofs.Entries.PlacesOfNodes.{stamps_cut}
use Rattle.concurrent_lru.proofs.table.Table.evict.Goals as goal

pub remove-requires : goal.remove-requires
remove-requires g c = idle_node c.self.invariant.stored c.args.place (subst (λ t. ContainsIdleAt t c.args.place) (sym c.self.view_is) c.requires)

pub take_away-node-requires-clause-within : goal.take_away-node-requires-clause-within
take_away-node-requires-clause-within g c =
    let h = subst (λ t. ContainsIdleAt t c.args.place) (sym c.self.view_is) c.requires in
    ap (λ m. is_some (get m c.args.place)) c.remove.ensures.nodes ∙ has_node c.self.invariant.stored c.args.place (h.0, h.1)

pub take_away-node-requires-clause-apart : goal.take_away-node-requires-clause-apart
take_away-node-requires-clause-apart g c = ap (list_any (eqb c.args.place)) c.remove.ensures.idle ∙ list_any-filter_self c.args.place c.self.inside.nodes.idle

rests : (g : _) (c : goal.After-self-1 g) → IsIn c.args.place c.self.inside.nodes.idle
rests g c = idle_node c.self.invariant.stored c.args.place (subst (λ t. ContainsIdleAt t c.args.place) (sym c.self.view_is) c.requires)

taken : (g : _) (c : goal.After-self-1 g) → IsTaken c.self.inside.nodes c.take_away-node.new.nodes c.self.inside.by_stamp c.take_away-node.new.by_stamp c.args.place (entry_of c.take_away-node.result.value)
taken g c = idle_taken c.self.inside.nodes c.remove.new.self c.take_away-node.new.nodes c.self.inside.by_stamp c.take_away-node.new.by_stamp c.args.place (entry_of c.take_away-node.result.value) c.remove.ensures c.take_away-node.ensures

pub invariant_of-self : goal.invariant_of-self
invariant_of-self g c = without_idle c.self.inside.nodes c.take_away-node.new.nodes c.self.inside.by_stamp c.take_away-node.new.by_stamp c.self.invariant (taken g c) (rests g c) c.take_away-node.ensures.total (ap (λ n. c.self.inside.idle_charge - (entry_of n).charge) c.deref.ensures)

pub take_away-node-requires-clause-counted : goal.take_away-node-requires-clause-counted
take_away-node-requires-clause-counted g c = λ e at.
    let idle = idle_node c.self.invariant.stored c.args.place (subst (λ t. ContainsIdleAt t c.args.place) (sym c.self.view_is) c.requires) in
    idle_counted c.self.invariant c.args.place e (ap (λ m. get m c.args.place) (sym c.remove.ensures.nodes) ∙ at) idle

pub returns-clause-at : goal.returns-clause-at
returns-clause-at g c = sym (ap (λ t. get t.stamps c.args.place) c.self.view_is) ∙ place_at c.self.invariant.stored c.args.place (entry_of c.take_away-node.result.value) (taken g c).at

pub returns-clause-ready : goal.returns-clause-ready
returns-clause-ready g c = ready_without c.self.invariant.stored (taken g c) (rests g c)

pub returns-clause-entry : goal.returns-clause-entry
returns-clause-entry g c = sym (ap (λ t. idle_at (cache_of t) (entry_of c.take_away-node.result.value).stamp) c.self.view_is) ∙ (idle_found c.self.invariant.stored c.args.place (entry_of c.take_away-node.result.value) (taken g c).at (rests g c)).1

pub returns-clause-idle : goal.returns-clause-idle
returns-clause-idle g c = idle_without c.self.invariant.stored (taken g c) (rests g c) ∙ ap (λ t. without (entry_of c.take_away-node.result.value).stamp t.idle) c.self.view_is

pub returns-clause-held : goal.returns-clause-held
returns-clause-held g c = held_same c.self.invariant.stored (taken g c) (rests g c) ∙ ap (λ t. t.held) c.self.view_is

pub returns-clause-stamps : goal.returns-clause-stamps
returns-clause-stamps g c = ap stamps_of (taken g c).nodes ∙ stamps_cut c.self.inside.nodes.nodes c.args.place ∙ ap (λ t. remove t.stamps c.args.place) c.self.view_is

pub overflow_sub-self : goal.overflow_sub-self
overflow_sub-self g c =
    let at = ap (λ m. get m c.args.place) (sym c.remove.ensures.nodes) ∙ c.take_away-node.ensures.entry in
    let idle = idle_node c.self.invariant.stored c.args.place (subst (λ t. ContainsIdleAt t c.args.place) (sym c.self.view_is) c.requires) in
    subst (λ n. (entry_of n).charge ≤ c.self.inside.idle_charge) (sym c.deref.ensures) (kept_bound c.self.invariant.stored c.args.place _ at idle _ c.self.invariant.rests)
