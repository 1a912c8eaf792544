use Rattle.std.proofs.Common.{◌≡◌, ◌≤◌, false, sym, ap, ◌∙◌, subst, ◌==◌}
use Rattle.std.specs.FinMap.{get, remove}
use Rattle.concurrent_lru.specs.Cache.{charges}
use Rattle.concurrent_lru.specs.NodeTable.{entry_of}
use Rattle.concurrent_lru.specs.Representation.{held_entry}
use Rattle.concurrent_lru.specs.Entries.{ContainsHeldAt}
use Rattle.concurrent_lru.specs.Indexes.{entries_of}
use Rattle.concurrent_lru.proofs.Lists.DistinctNumbers.{filter_absent}
use Rattle.concurrent_lru.proofs.Entries.NodeTaken.{held_not_idle}
use Rattle.concurrent_lru.proofs.Entries.NodeAtPlace.{has_node, some_node, held_node, held_found, place_at}
use Rattle.concurrent_lru.proofs.Entries.AddAndTake.{IsTaken, stored_without, held_without, idle_same}
use Rattle.concurrent_lru.proofs.Entries.SumsOfCharges.{sum_less, held_bound, less_alike}
use Rattle.concurrent_lru.specs.Indexes.{stamps_of}
use Rattle.concurrent_lru.proofs.Entries.PlacesOfNodes.{stamps_cut}
use Rattle.concurrent_lru.proofs.table.Table.take_held.Goals as goal
use Rattle.concurrent_lru.proofs.table.Table.take_held.Goals.{After-take_away}

pub take_away-requires-clause-within : goal.take_away-requires-clause-within
take_away-requires-clause-within g c = let h = subst (λ t. ContainsHeldAt t c.args.place) (sym c.self.view_is) c.requires in has_node c.self.invariant.stored c.args.place (h.0, h.1)

pub take_away-requires-clause-apart : goal.take_away-requires-clause-apart
take_away-requires-clause-apart g c =
    let h = subst (λ t. ContainsHeldAt t c.args.place) (sym c.self.view_is) c.requires in
    let n = some_node c.self.invariant.stored c.args.place (h.0, h.1) in
    held_not_idle c.self.inside.nodes _ c.args.place n.0 c.self.invariant.stored.represents n.1 (held_node c.self.invariant.stored c.args.place n.0 h n.1)

pinned : (g : _) (c : After-take_away g) → ((entry_of c.take_away.result.value).pins == 0) ≡ false
pinned g c = held_node c.self.invariant.stored c.args.place (entry_of c.take_away.result.value) (subst (λ t. ContainsHeldAt t c.args.place) (sym c.self.view_is) c.requires) c.take_away.ensures.entry

taken : (g : _) (c : After-take_away g) → IsTaken c.self.inside.nodes c.take_away.new.nodes c.self.inside.by_stamp c.take_away.new.by_stamp c.args.place (entry_of c.take_away.result.value)
taken g c = record {
  at = c.take_away.ensures.entry;
  nodes = c.take_away.ensures.nodes;
  hashes = c.take_away.ensures.hashes;
  idle = c.take_away.ensures.idle ∙ sym (filter_absent c.args.place c.self.inside.nodes.idle (held_not_idle c.self.inside.nodes _ c.args.place (entry_of c.take_away.result.value) c.self.invariant.stored.represents c.take_away.ensures.entry (pinned g c)));
  keeps = c.take_away.ensures.keeps;
  stamps_now = c.take_away.ensures.by_stamp;
}

pub invariant_of-self : goal.invariant_of-self
invariant_of-self g c =
    let e = entry_of c.take_away.result.value in
    let sum = sum_less (entries_of c.self.inside.nodes) (entries_of c.take_away.new.nodes) e.stamp (held_entry e) (idle_same c.self.invariant.stored (taken g c) (pinned g c)) (held_without c.self.invariant.stored (taken g c) (pinned g c)) (held_found c.self.invariant.stored c.args.place e c.take_away.ensures.entry (pinned g c)) in
    record {
      stored = stored_without c.self.invariant.stored (taken g c);
      sums = less_alike _ _ _ _ e.charge c.take_away.ensures.total sum c.self.invariant.sums;
      rests = c.self.invariant.rests ∙ ap charges (sym (idle_same c.self.invariant.stored (taken g c) (pinned g c)));
    }

pub take_away-requires-clause-counted : goal.take_away-requires-clause-counted
take_away-requires-clause-counted g c = λ e at.
    let h = subst (λ t. ContainsHeldAt t c.args.place) (sym c.self.view_is) c.requires in
    subst (λ n. e.charge ≤ n) (sym c.self.invariant.sums) (held_bound (entries_of c.self.inside.nodes) e.stamp (held_entry e) (held_found c.self.invariant.stored c.args.place e at (held_node c.self.invariant.stored c.args.place e h at)))

pub returns-clause-at : goal.returns-clause-at
returns-clause-at g c = sym (ap (λ t. get t.stamps c.args.place) c.self.view_is) ∙ place_at c.self.invariant.stored c.args.place (entry_of c.take_away.result.value) c.take_away.ensures.entry

pub returns-clause-entry : goal.returns-clause-entry
returns-clause-entry g c = sym (ap (λ t. get t.held (entry_of c.take_away.result.value).stamp) c.self.view_is) ∙ held_found c.self.invariant.stored c.args.place (entry_of c.take_away.result.value) c.take_away.ensures.entry (pinned g c)

pub returns-clause-idle : goal.returns-clause-idle
returns-clause-idle g c = idle_same c.self.invariant.stored (taken g c) (pinned g c) ∙ ap (λ t. t.idle) c.self.view_is

pub returns-clause-held : goal.returns-clause-held
returns-clause-held g c = held_without c.self.invariant.stored (taken g c) (pinned g c) ∙ ap (λ t. remove t.held (entry_of c.take_away.result.value).stamp) c.self.view_is

pub returns-clause-stamps : goal.returns-clause-stamps
returns-clause-stamps g c = ap stamps_of (taken g c).nodes ∙ stamps_cut c.self.inside.nodes.nodes c.args.place ∙ ap (λ t. remove t.stamps c.args.place) c.self.view_is
