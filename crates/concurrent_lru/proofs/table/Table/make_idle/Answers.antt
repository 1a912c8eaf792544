use Rattle.std.proofs.Common.{◌≡◌, ◌+◌, refl, sym, ap, ◌∙◌, subst, arith}
use Rattle.concurrent_lru.specs.Cache.{charges}
use Rattle.concurrent_lru.specs.Entries.{IsReadyAt, LeadsAt, RestsAt, charges_of}
use Rattle.concurrent_lru.specs.Indexes.{entries_of}
use Rattle.concurrent_lru.proofs.Entries.NodeTaken.{held_not_idle}
use Rattle.concurrent_lru.proofs.Entries.NodeAtPlace.{has_node, some_node, held_found, ready_like, ready_found, place_at}
use Rattle.concurrent_lru.proofs.Steps.Release.{pinned_writes}
use Rattle.concurrent_lru.proofs.Entries.SetPinsAndRest.{stored_rested, entries_rested}
use Rattle.concurrent_lru.proofs.Entries.ChargesOfIdle.{rest_bound}
use Rattle.concurrent_lru.proofs.Entries.SumsOfCharges.{idle_more, sum_rested}
use Rattle.concurrent_lru.proofs.table.Table.make_idle.Goals as goal

pub make_idle-charge-requires-clause-within : goal.make_idle-charge-requires-clause-within
make_idle-charge-requires-clause-within g c = let h = subst (λ t. IsReadyAt t c.args.place) (sym c.self.view_is) c.requires.ready in has_node c.self.invariant.stored c.args.place (h.stamp, h.at)

pub make_idle-charge-requires-clause-held : goal.make_idle-charge-requires-clause-held
make_idle-charge-requires-clause-held g c =
    let h = subst (λ t. IsReadyAt t c.args.place) (sym c.self.view_is) c.requires.ready in
    let n = some_node c.self.invariant.stored c.args.place (h.stamp, h.at) in
    held_not_idle c.self.inside.nodes _ c.args.place n.0 c.self.invariant.stored.represents n.1 (ready_like c.self.invariant.stored c.args.place n.0 h n.1).0

-- the charge of the entry joins those of the idle ones, and the sum of all stays
more_idle : (g : _) (c : goal.After-self-1 g) → c.self.inside.idle_charge + c.make_idle-charge.result ≡ charges (entries_of c.make_idle-charge.new.self).idle
more_idle g c =
    let h = subst (λ t. IsReadyAt t c.args.place) (sym c.self.view_is) c.requires.ready in
    let n = some_node c.self.invariant.stored c.args.place (h.stamp, h.at) in
    let l = ready_like c.self.invariant.stored c.args.place n.0 h n.1 in
    let nodes = pinned_writes c.self.inside.nodes c.make_idle-charge.new.self c.args.place 0 n.0 n.1 c.make_idle-charge.ensures.nodes in
    let own = c.make_idle-charge.ensures.charge n.0 n.1 in
    let changed = entries_rested c.self.invariant.stored nodes refl refl h.value c.make_idle-charge.ensures.links (c.make_idle-charge.ensures.idle) l.0 refl l.1 (c.make_idle-charge.ensures.work) in
    let more = idle_more (entries_of c.self.inside.nodes) (entries_of c.make_idle-charge.new.self) _ (ap (λ t. t.idle) changed) in
    let rests = c.self.invariant.rests in
    omega (arith, more, rests, own)

sum_same : (g : _) (c : goal.After-self-1 g) → charges_of (entries_of c.make_idle-charge.new.self) ≡ charges_of (entries_of c.self.inside.nodes)
sum_same g c =
    let h = subst (λ t. IsReadyAt t c.args.place) (sym c.self.view_is) c.requires.ready in
    let n = some_node c.self.invariant.stored c.args.place (h.stamp, h.at) in
    let l = ready_like c.self.invariant.stored c.args.place n.0 h n.1 in
    let nodes = pinned_writes c.self.inside.nodes c.make_idle-charge.new.self c.args.place 0 n.0 n.1 c.make_idle-charge.ensures.nodes in
    let changed = entries_rested c.self.invariant.stored nodes refl refl h.value c.make_idle-charge.ensures.links (c.make_idle-charge.ensures.idle) l.0 refl l.1 (c.make_idle-charge.ensures.work) in
    sum_rested (entries_of c.self.inside.nodes) (entries_of c.make_idle-charge.new.self) n.0.stamp _ _ (ap (λ t. t.idle) changed) (ap (λ t. t.held) changed) (held_found c.self.invariant.stored c.args.place n.0 n.1 l.0) refl

pub invariant_of-self : goal.invariant_of-self
invariant_of-self g c =
    let h = subst (λ t. IsReadyAt t c.args.place) (sym c.self.view_is) c.requires.ready in
    let n = some_node c.self.invariant.stored c.args.place (h.stamp, h.at) in
    let l = ready_like c.self.invariant.stored c.args.place n.0 h n.1 in
    let nodes = pinned_writes c.self.inside.nodes c.make_idle-charge.new.self c.args.place 0 n.0 n.1 c.make_idle-charge.ensures.nodes in
    record {
      stored = stored_rested c.self.invariant.stored nodes refl refl (c.make_idle-charge.ensures.hashes) h.value (c.make_idle-charge.ensures.idle) l.0 refl l.1 (ready_found c.self.invariant.stored c.args.place n.0 h n.1);
      sums = c.self.invariant.sums ∙ sym (sum_same g c);
      rests = more_idle g c;
    }

pub returns : goal.returns
returns g c =
    let h = subst (λ t. IsReadyAt t c.args.place) (sym c.self.view_is) c.requires.ready in
    let n = some_node c.self.invariant.stored c.args.place (h.stamp, h.at) in
    let l = ready_like c.self.invariant.stored c.args.place n.0 h n.1 in
    subst (λ t. RestsAt t c.args.place (entries_of c.make_idle-charge.new.self)) c.self.view_is (record {
      was = record {
        stamp = n.0.stamp;
        entry = _;
        value = h.value;
        at = place_at c.self.invariant.stored c.args.place n.0 n.1;
        held = held_found c.self.invariant.stored c.args.place n.0 n.1 l.0;
        phase = l.1;
        found = ready_found c.self.invariant.stored c.args.place n.0 h n.1;
      };
      changed = entries_rested c.self.invariant.stored (pinned_writes c.self.inside.nodes c.make_idle-charge.new.self c.args.place 0 n.0 n.1 c.make_idle-charge.ensures.nodes) refl refl h.value c.make_idle-charge.ensures.links (c.make_idle-charge.ensures.idle) l.0 refl l.1 (c.make_idle-charge.ensures.work);
    })

pub overflow_add-self : goal.overflow_add-self
overflow_add-self g c =
    let h = subst (λ t. IsReadyAt t c.args.place) (sym c.self.view_is) c.requires.ready in
    let n = some_node c.self.invariant.stored c.args.place (h.stamp, h.at) in
    let l = ready_like c.self.invariant.stored c.args.place n.0 h n.1 in
    let own = c.make_idle-charge.ensures.charge n.0 n.1 in
    let bound = rest_bound (entries_of c.self.inside.nodes) n.0.stamp _ _ _ c.self.invariant.rests c.self.invariant.sums (held_found c.self.invariant.stored c.args.place n.0 n.1 l.0) in
    let fits = c.self.ranges.1.1.1.0.1 in
    omega (arith, bound, fits, own)

pub make_idle-charge-requires-clause-link : goal.make_idle-charge-requires-clause-link
make_idle-charge-requires-clause-link g c = subst (λ t. LeadsAt t c.args.link c.args.place) (sym c.self.view_is) c.requires.link
