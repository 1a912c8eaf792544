-- The laws of ready_with, by which a making becomes ready with another charge, and a write of the
-- charge of a node.
use Rattle.std.proofs.Common.{◌≡◌, ℕ, ◌+◌, ◌<◌, ◌≤◌, ◌^◌, inl, inr, Bool, List, Some, refl, ap, ◌∙◌, arith}
use Rattle.std.specs.FinMap.{get, insert}
use Rattle.concurrent_lru.specs.Cache.{Cache, Idle, Held, ready, IsLawful, IsWithinCapacity, HasCapacityToCharge, charges, held_at, pinned_of, sum_of}
use Rattle.concurrent_lru.specs.Representation.{held_charges}
use Rattle.concurrent_lru.specs.Steps.{with_held, held_in_phase, held_with_charge, Charges}
use Rattle.concurrent_lru.specs.NodeTable.{Entry, NodeTable, update_at, entry_with_charge}
use Rattle.concurrent_lru.proofs.Entries.NodesOfSetAndAdd.{WritesNode}
use Rattle.concurrent_lru.proofs.Entries.SumsOfHeld.{sum-change}
use Rattle.concurrent_lru.proofs.Steps.LawfulAfterChange.{orderly, orderly-with_held, settles_lawful}

module _ {K V : Type 0} where
  -- a write of the charge of a node
  pub charge_writes : (old new : NodeTable K V) (p n : ℕ) (e : Entry K V) → get old.nodes p ≡ Some e → new.nodes ≡ update_at (entry_with_charge n) old.nodes p → WritesNode old new p e (entry_with_charge n e)
  charge_writes old new p n e at nodes = record {
    at = at;
    nodes = nodes ∙ ap (λ o. Rattle.std.specs.Option.option_map_or (λ x. insert old.nodes p (entry_with_charge n x)) o old.nodes) at;
    stamp = refl;
  }

  -- the entry with its value and another charge
  abbrev pub given : V → ℕ → Held K V → Held K V
  given v charge e = held_in_phase (ready v) (held_with_charge charge e)

  pub sum-given : (c : Cache K V) (s : ℕ) (e : Held K V) (v : V) (charge : ℕ) → held_at c s ≡ Some e → sum_of (with_held c s (given v charge e)) + e.charge ≡ sum_of c + charge
  sum-given c s e v charge at =
      let a : held_charges (with_held c s (given v charge e)).held + e.charge ≡ held_charges c.held + charge = sum-change (λ x. x.charge) c.held s e (given v charge e) at in
      omega (arith, a)

  -- the charge of a held entry is part of theirs, and so of the sum
  pub pinned_within : (c : Cache K V) (s : ℕ) (e : Held K V) → held_at c s ≡ Some e → e.charge ≤ pinned_of c
  pinned_within c s e at =
      let a : held_charges (with_held c s (held_with_charge 0 e)).held + e.charge ≡ held_charges c.held + 0 = sum-change (λ x. x.charge) c.held s e (held_with_charge 0 e) at in
      omega (arith, a)

  pub held_within : (c : Cache K V) (s : ℕ) (e : Held K V) → held_at c s ≡ Some e → e.charge ≤ sum_of c
  held_within c s e at = let a : e.charge ≤ held_charges c.held = pinned_within c s e at in omega (arith, a)

  pub charges_lawful : (E : K → K → Bool) (old new : Cache K V) (s : ℕ) (v : V) (charge : ℕ) (out : List (Idle K V)) → IsLawful E old → 0 < charge → Charges E old s v charge out new → IsLawful E new
  charges_lawful E old new s v charge out l some h =
      let pins = l.pinned s h.entry h.holds.at in
      let sum : sum_of (with_held old s (given v charge h.entry)) + h.entry.charge ≡ sum_of old + charge = sum-given old s h.entry v charge h.holds.at in
      let fits : sum_of old + charge < 2 ^ 64 + h.entry.charge = h.fits in
      settles_lawful E (with_held old s (given v charge h.entry)) new out (orderly-with_held E old s h.entry (given v charge h.entry) (orderly l) h.holds.at refl some (λ x. x) pins.0 pins.1) (omega (arith, sum, fits)) h.settles

  -- where the capacity has room for the charge beside the held entries, the sum is within it
  pub charged_within : (E : K → K → Bool) (old new : Cache K V) (s : ℕ) (v : V) (charge : ℕ) (out : List (Idle K V)) → (h : Charges E old s v charge out new) → HasCapacityToCharge old h.entry.charge charge → IsWithinCapacity new
  charged_within E old new s v charge out h has =
      let mid = with_held old s (given v charge h.entry) in
      let cap : new.capacity ≡ old.capacity = ap (λ c. c.capacity) h.settles.others in
      let whole : sum_of new ≡ charges new.idle + held_charges mid.held = ap sum_of h.settles.others in
      let held : held_charges mid.held + h.entry.charge ≡ held_charges old.held + charge = sum-change (λ x. x.charge) old.held s h.entry (given v charge h.entry) h.holds.at in
      let room : held_charges old.held + charge ≤ old.capacity + h.entry.charge = has in
      let parts : charges old.idle ≡ charges out + charges new.idle = ap charges h.settles.front.parts ∙ Rattle.std.proofs.lemmas.List.Sums.sum_by-append (λ x. x.charge) out new.idle in
      elim h.settles.front.suffices [
        | inl low ↦ let fits : charges old.idle + held_charges mid.held ≤ old.capacity + charges out = low in omega (arith, cap, whole, parts, fits)
        | inr none ↦ let b : charges new.idle ≡ 0 = ap charges none in omega (arith, cap, whole, b, held, room)
      ]
