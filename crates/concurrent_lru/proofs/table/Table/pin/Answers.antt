use Rattle.std.proofs.Common.{◌≡◌, ◌≢◌, ◌≤◌, ◌<◌, ◌+◌, ◌-◌, ℕ, Some, refl, sym, ap, ◌∙◌, subst, arith}
use Rattle.std.specs.FinMap.{get}
use Rattle.std.proofs.lemmas.Bool.{ne_eqb}
use Rattle.concurrent_lru.specs.Cache.{charges}
use Rattle.concurrent_lru.specs.NodeTable.{update_at, entry_with_pins}
use Rattle.concurrent_lru.specs.Entries.{ContainsPlace, LeadsAt, Rewrites, RevivesAt, held_with_pins, pins_at}
use Rattle.concurrent_lru.specs.Indexes.{entries_of}
use Rattle.concurrent_lru.proofs.Steps.BeginOfAbsent.{as_idle-ready}
use Rattle.concurrent_lru.proofs.Steps.Release.{pinned_writes}
use Rattle.concurrent_lru.proofs.Entries.ChargesOfIdle.{kept_less, kept_bound}
use Rattle.concurrent_lru.proofs.Entries.NodeAtPlace.{has_node, some_node, held_found, idle_found, idle_like, place_at, node_pins, idle_unheld}
use Rattle.concurrent_lru.proofs.Entries.SetPinsAndRest.{stored_written, entries_written, stored_revived, entries_revived_by_one, not_zero}
use Rattle.concurrent_lru.proofs.Entries.SumsOfCharges.{sum_written, sum_revived, stamps_apart}
use Rattle.concurrent_lru.proofs.table.Table.pin.Goals as goal
use Rattle.concurrent_lru.proofs.table.Table.pin.Goals.{After-pin-charge}

no_pins : (n : ℕ) → n ≤ 0 → n ≡ 0
no_pins n few = omega arith

some_pins : (n : ℕ) → 0 < n → n ≢ 0
some_pins n some none = omega (arith, none, some)

one_more : (n : ℕ) → 0 < n + 1
one_more n = omega arith

pub pin-charge-requires-clause-within : goal.pin-charge-requires-clause-within
pin-charge-requires-clause-within g c = has_node c.self.invariant.stored c.args.place (subst (λ t. ContainsPlace t c.args.place) (sym c.self.view_is) c.requires.place)

pub pin-charge-requires-clause-idle : goal.pin-charge-requires-clause-idle
pin-charge-requires-clause-idle g c none =
    let n = some_node c.self.invariant.stored c.args.place (subst (λ t. ContainsPlace t c.args.place) (sym c.self.view_is) c.requires.place) in
    c.self.invariant.stored.represents.resting c.args.place n.0 n.1 (sym (node_pins c.self.invariant.stored c.args.place n.0 n.1) ∙ subst (λ t. pins_at t c.args.place ≡ c.args.pins) (sym c.self.view_is) c.requires.pins ∙ none)

-- the node at the place, and its pins
node : (g : _) (c : After-pin-charge g) → (e : _) × (get c.self.inside.nodes.nodes c.args.place ≡ Some e) × (e.pins ≡ c.args.pins)
node g c =
    let n = some_node c.self.invariant.stored c.args.place (subst (λ t. ContainsPlace t c.args.place) (sym c.self.view_is) c.requires.place) in
    (n.0, n.1, sym (node_pins c.self.invariant.stored c.args.place n.0 n.1) ∙ subst (λ t. pins_at t c.args.place ≡ c.args.pins) (sym c.self.view_is) c.requires.pins)

-- a node that had pins has one more
pub invariant_of-self : goal.invariant_of-self
invariant_of-self g c =
    let n = node g (goal.at.invariant_of-self g c).After-pin-charge in
    let some = some_pins c.args.pins c.if-pins-gt0.true in
    let held = ne_eqb n.0.pins 0 (λ none. some (sym n.2 ∙ none)) in
    let writes = pinned_writes c.self.inside.nodes c.pin-charge.new.self c.args.place (c.args.pins + 1) n.0 n.1 c.pin-charge.ensures.nodes in
    let left = c.pin-charge.ensures.held some in
    let changed = entries_written c.self.invariant.stored writes refl refl c.pin-charge.ensures.links left.0 held (not_zero (c.args.pins + 1) (one_more c.args.pins)) left.1 in
    record {
      stored = stored_written c.self.invariant.stored writes refl refl c.pin-charge.ensures.hashes left.0 held (not_zero (c.args.pins + 1) (one_more c.args.pins));
      sums = c.self.invariant.sums ∙ sym (sum_written (entries_of c.self.inside.nodes) (entries_of c.pin-charge.new.self) n.0.stamp _ _ (ap (λ t. t.idle) changed) (ap (λ t. t.held) changed) (held_found c.self.invariant.stored c.args.place n.0 n.1 held) refl);
      rests = c.self.invariant.rests ∙ ap (λ t. charges t.idle) (sym changed);
    }

pub returns-then-pins-gt0-clause-revived : goal.returns-then-pins-gt0-clause-revived
returns-then-pins-gt0-clause-revived g c none = absurd (some_pins c.args.pins c.if-pins-gt0.true none)

pub returns-then-pins-gt0-clause-held : goal.returns-then-pins-gt0-clause-held
returns-then-pins-gt0-clause-held g c some =
    let n = node g (goal.at.returns-then-pins-gt0-clause-held g c).After-pin-charge in
    let held = ne_eqb n.0.pins 0 (λ none. some (sym n.2 ∙ none)) in
    let writes = pinned_writes c.self.inside.nodes c.pin-charge.new.self c.args.place (c.args.pins + 1) n.0 n.1 c.pin-charge.ensures.nodes in
    let left = c.pin-charge.ensures.held some in
    subst (λ t. Rewrites (held_with_pins (c.args.pins + 1)) t c.args.place (entries_of c.pin-charge.new.self)) c.self.view_is (record {
      stamp = n.0.stamp;
      entry = _;
      at = place_at c.self.invariant.stored c.args.place n.0 n.1;
      held = held_found c.self.invariant.stored c.args.place n.0 n.1 held;
      changed = entries_written c.self.invariant.stored writes refl refl c.pin-charge.ensures.links left.0 held (not_zero (c.args.pins + 1) (one_more c.args.pins)) left.1;
    })

-- one that had none was idle, and is held by one pin
first : (g : _) (c : After-pin-charge g) → c.args.pins ≡ 0 → c.pin-charge.new.self.nodes ≡ update_at (entry_with_pins (c.args.pins + 1)) c.self.inside.nodes.nodes c.args.place → c.pin-charge.new.self.nodes ≡ update_at (entry_with_pins 1) c.self.inside.nodes.nodes c.args.place
first g c none nodes = subst (λ k. c.pin-charge.new.self.nodes ≡ update_at (entry_with_pins (k + 1)) c.self.inside.nodes.nodes c.args.place) none nodes

pub overflow_sub-self : goal.overflow_sub-self
overflow_sub-self g c =
    let n = node g (goal.at.overflow_sub-self g c).After-pin-charge in
    let m = c.self.invariant.stored.represents.resting c.args.place n.0 n.1 (n.2 ∙ no_pins c.args.pins c.if-pins-gt0.false) in
    subst (λ k. k ≤ c.self.inside.idle_charge) (sym (c.pin-charge.ensures.charge n.0 n.1)) (kept_bound c.self.invariant.stored c.args.place n.0 n.1 m _ c.self.invariant.rests)

pub invariant_of-self-2 : goal.invariant_of-self-2
invariant_of-self-2 g c =
    let a = (goal.at.invariant_of-self-2 g c).After-pin-charge in
    let n = node g a in
    let none = no_pins c.args.pins c.if-pins-gt0.false in
    let m = c.self.invariant.stored.represents.resting c.args.place n.0 n.1 (n.2 ∙ none) in
    let l = idle_like c.self.invariant.stored c.args.place n.0 n.1 m in
    let writes = pinned_writes c.self.inside.nodes c.pin-charge.new.self c.args.place 1 n.0 n.1 (first g a none c.pin-charge.ensures.nodes) in
    let left = c.pin-charge.ensures.revived none in
    let changed = entries_revived_by_one c.self.invariant.stored writes l.0 c.pin-charge.ensures.links left.0 l.1 l.2 left.1 in
    record {
      stored = stored_revived c.self.invariant.stored writes refl refl c.pin-charge.ensures.hashes left.0 refl;
      sums = c.self.invariant.sums ∙ sym (sum_revived (entries_of c.self.inside.nodes) (entries_of c.pin-charge.new.self) n.0.stamp (record { stamp = n.0.stamp; key = n.0.key; charge = n.0.charge; value = l.0 }) _
          (stamps_apart c.self.inside.nodes _ c.self.invariant.stored.represents) (ap (λ t. t.idle) changed) (ap (λ t. t.held) changed)
          ((idle_found c.self.invariant.stored c.args.place n.0 n.1 m).1 ∙ as_idle-ready n.0 l.0 l.2) (idle_unheld c.self.invariant.stored c.args.place n.0 n.1 m) refl);
      rests = ap (λ k. c.self.inside.idle_charge - k) (c.pin-charge.ensures.charge n.0 n.1) ∙ kept_less c.self.invariant.stored c.args.place n.0 n.1 m _ c.self.invariant.rests (entries_of c.pin-charge.new.self) (ap (λ t. t.idle) changed);
    }

pub returns-clause-revived : goal.returns-clause-revived
returns-clause-revived g c none =
    let a = (goal.at.returns-clause-revived g c).After-pin-charge in
    let n = node g a in
    let m = c.self.invariant.stored.represents.resting c.args.place n.0 n.1 (n.2 ∙ none) in
    let l = idle_like c.self.invariant.stored c.args.place n.0 n.1 m in
    let left = c.pin-charge.ensures.revived none in
    subst (λ t. RevivesAt t c.args.place (entries_of c.pin-charge.new.self)) c.self.view_is (record {
      stamp = n.0.stamp;
      entry = record { stamp = n.0.stamp; key = n.0.key; charge = n.0.charge; value = l.0 };
      at = place_at c.self.invariant.stored c.args.place n.0 n.1;
      idle = (idle_found c.self.invariant.stored c.args.place n.0 n.1 m).1 ∙ as_idle-ready n.0 l.0 l.2;
      changed = entries_revived_by_one c.self.invariant.stored (pinned_writes c.self.inside.nodes c.pin-charge.new.self c.args.place 1 n.0 n.1 (first g a none c.pin-charge.ensures.nodes)) l.0 c.pin-charge.ensures.links left.0 l.1 l.2 left.1;
    })

pub returns-clause-held : goal.returns-clause-held
returns-clause-held g c some = absurd (some (no_pins c.args.pins c.if-pins-gt0.false))

pub pin-charge-requires-clause-link : goal.pin-charge-requires-clause-link
pin-charge-requires-clause-link g c = subst (λ t. LeadsAt t c.args.link c.args.place) (sym c.self.view_is) c.requires.link
