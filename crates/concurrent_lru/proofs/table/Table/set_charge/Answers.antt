use Rattle.std.proofs.Common.{◌≡◌, ℕ, ◌+◌, ◌<◌, ◌≤◌, ◌^◌, refl, sym, ap, ◌∙◌, subst, arith}
use Rattle.concurrent_lru.specs.Cache.{charges}
use Rattle.concurrent_lru.specs.Entries.{ContainsHeldAt, FitsAt, LeadsAt, Rewrites, charges_of}
use Rattle.concurrent_lru.specs.Indexes.{entries_of}
use Rattle.concurrent_lru.specs.Steps.{held_with_charge}
use Rattle.concurrent_lru.proofs.Entries.NodeAtPlace.{has_node, some_node, held_node, held_found, place_at}
use Rattle.concurrent_lru.proofs.Entries.SetPinsAndRest.{stored_written, entries_written}
use Rattle.concurrent_lru.proofs.Entries.SumsOfCharges.{held_bound, sum_changed}
use Rattle.concurrent_lru.proofs.Steps.ChargeOfMaking.{charge_writes}
use Rattle.concurrent_lru.proofs.table.Table.set_charge.Goals as goal
use Rattle.concurrent_lru.proofs.table.Table.set_charge.Goals.{After-write_charge-was}

pub write_charge-was-requires-clause-within : goal.write_charge-was-requires-clause-within
write_charge-was-requires-clause-within g c = let h = subst (λ t. ContainsHeldAt t c.args.place) (sym c.self.view_is) c.requires.held in has_node c.self.invariant.stored c.args.place (h.0, h.1)

pub write_charge-was-requires-clause-link : goal.write_charge-was-requires-clause-link
write_charge-was-requires-clause-link g c = subst (λ t. LeadsAt t c.args.link c.args.place) (sym c.self.view_is) c.requires.link

-- the charge that the entry had is part of the total, and the other one fits in its place
record Fits (total was charge sum : ℕ) : Type 0 where
  part : was ≤ total
  room : total + charge < 2 ^ 64 + was
  whole : total ≡ sum

fits : (g : _) (c : After-write_charge-was g) → Fits c.self.inside.total c.write_charge-was.result c.args.charge (charges_of (entries_of c.self.inside.nodes))
fits g c =
    let h = subst (λ t. ContainsHeldAt t c.args.place) (sym c.self.view_is) c.requires.held in
    let r = c.self.invariant.stored in
    let n = some_node r c.args.place (h.0, h.1) in
    let own = c.write_charge-was.ensures.charge n.0 n.1 in
    let sums = c.self.invariant.sums in
    let there = held_found r c.args.place n.0 n.1 (held_node r c.args.place n.0 h n.1) in
    let part = held_bound (entries_of c.self.inside.nodes) n.0.stamp _ there in
    let room = subst (λ t. FitsAt t c.args.place c.args.charge) (sym c.self.view_is) c.requires.fits n.0.stamp _ (place_at r c.args.place n.0 n.1) there in
    record { part = omega (arith, own, sums, part); room = omega (arith, own, sums, room); whole = sums }

pub overflow_sub-self : goal.overflow_sub-self
overflow_sub-self g c = (fits g (goal.at.overflow_sub-self g c).After-write_charge-was).part

pub overflow_add-self : goal.overflow_add-self
overflow_add-self g c = let f = fits g (goal.at.overflow_add-self g c).After-write_charge-was in let room = f.room in let part = f.part in omega (arith, room, part)

pub invariant_of-self : goal.invariant_of-self
invariant_of-self g c =
    let h = subst (λ t. ContainsHeldAt t c.args.place) (sym c.self.view_is) c.requires.held in
    let r = c.self.invariant.stored in
    let n = some_node r c.args.place (h.0, h.1) in
    let pinned = held_node r c.args.place n.0 h n.1 in
    let writes = charge_writes c.self.inside.nodes c.write_charge-was.new.self c.args.place c.args.charge n.0 n.1 c.write_charge-was.ensures.nodes in
    let changed = entries_written r writes refl refl c.write_charge-was.ensures.links c.write_charge-was.ensures.idle pinned pinned c.write_charge-was.ensures.work in
    let sum = sum_changed (entries_of c.self.inside.nodes) (entries_of c.write_charge-was.new.self) n.0.stamp _ _ (ap (λ t. t.idle) changed) (ap (λ t. t.held) changed) (held_found r c.args.place n.0 n.1 pinned) in
    let own = c.write_charge-was.ensures.charge n.0 n.1 in
    let f = fits g (goal.at.invariant_of-self g c).After-write_charge-was in
    let part = f.part in
    let whole = f.whole in
    record {
      stored = stored_written r writes refl refl c.write_charge-was.ensures.hashes c.write_charge-was.ensures.idle pinned pinned;
      sums = omega (arith, sum, own, part, whole);
      rests = c.self.invariant.rests ∙ ap (λ t. charges t.idle) (sym changed);
    }

pub returns : goal.returns
returns g c =
    let h = subst (λ t. ContainsHeldAt t c.args.place) (sym c.self.view_is) c.requires.held in
    let r = c.self.invariant.stored in
    let n = some_node r c.args.place (h.0, h.1) in
    let pinned = held_node r c.args.place n.0 h n.1 in
    subst (λ t. Rewrites (held_with_charge c.args.charge) t c.args.place (entries_of c.write_charge-was.new.self)) c.self.view_is (record {
      stamp = n.0.stamp;
      entry = _;
      at = place_at r c.args.place n.0 n.1;
      held = held_found r c.args.place n.0 n.1 pinned;
      changed = entries_written r (charge_writes c.self.inside.nodes c.write_charge-was.new.self c.args.place c.args.charge n.0 n.1 c.write_charge-was.ensures.nodes) refl refl c.write_charge-was.ensures.links c.write_charge-was.ensures.idle pinned pinned c.write_charge-was.ensures.work;
    })
