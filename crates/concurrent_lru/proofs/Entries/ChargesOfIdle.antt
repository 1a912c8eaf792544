-- The sum of the idle entries' charges, where one of them leaves and where a held one comes to
-- rest.
use Rattle.std.proofs.Common.{◌≡◌, ℕ, ◌+◌, ◌-◌, ◌≤◌, Bool, Some, refl, ◌∙◌, arith}
use Rattle.std.specs.FinMap.{get, remove}
use Rattle.concurrent_lru.specs.Cache.{Idle, Held, charges}
use Rattle.concurrent_lru.specs.Entries.{Entries, charges_of}
use Rattle.concurrent_lru.specs.Indexes.{IsStored, entries_of}
use Rattle.concurrent_lru.specs.NodeTable.{Entry, NodeTable}
use Rattle.concurrent_lru.specs.Representation.{held_charges}
use Rattle.concurrent_lru.specs.Steps.{without}
use Rattle.concurrent_lru.specs.declared.table.stamp_index.StampIndex.{StampIndex}
use Rattle.concurrent_lru.proofs.Entries.NodeAtPlace.{idle_found, idle_like}
use Rattle.concurrent_lru.proofs.Entries.SumsOfCharges.{idle_less, stamps_apart}
use Rattle.concurrent_lru.proofs.Entries.SumsOfHeld.{sum-remove}
use Rattle.concurrent_lru.proofs.Lists.Members.{IsIn}
use Rattle.concurrent_lru.proofs.Steps.BeginOfAbsent.{as_idle-ready}

module _ {K V : Type 0} {C : K → K → Type 0} {E : K → K → Bool} {H : K → ℕ} {t : NodeTable K V} {by_stamp : StampIndex} (r : IsStored C E H t by_stamp) (p : ℕ) (e : Entry K V) (at : get t.nodes p ≡ Some e) (idle : IsIn p t.idle) where
  -- what is left of the sum, and the charge that goes with it
  pub charges_left : (u : Entries K V) → u.idle ≡ without e.stamp (entries_of t).idle → charges u.idle + e.charge ≡ charges (entries_of t).idle
  charges_left u left =
      let like = idle_like r p e at idle in
      let x : Idle K V = record { stamp = e.stamp; key = e.key; charge = e.charge; value = like.0 } in
      idle_less (entries_of t) u e.stamp x (stamps_apart t _ r.represents) left ((idle_found r p e at idle).1 ∙ as_idle-ready e like.0 like.2)

  pub charge_bound : e.charge ≤ charges (entries_of t).idle
  charge_bound =
      let left = charges_left (record (entries_of t) { idle = without e.stamp (entries_of t).idle }) refl in
      omega (arith, left)

  -- a sum that is kept, where the entry's charge is taken off it
  pub kept_less : (kept : ℕ) → kept ≡ charges (entries_of t).idle → (u : Entries K V) → u.idle ≡ without e.stamp (entries_of t).idle → kept - e.charge ≡ charges u.idle
  kept_less kept is u left =
      let sum = charges_left u left in
      omega (arith, is, sum)

  pub kept_bound : (kept : ℕ) → kept ≡ charges (entries_of t).idle → e.charge ≤ kept
  kept_bound kept is =
      let bound = charge_bound in
      omega (arith, is, bound)

module _ {K V : Type 0} where
  -- a held entry's charge fits beside those of the idle ones
  pub rest_bound : (t : Entries K V) (s : ℕ) (h : Held K V) (kept total : ℕ) → kept ≡ charges t.idle → total ≡ charges_of t → get t.held s ≡ Some h → kept + h.charge ≤ total
  rest_bound t s h kept total is all at =
      let bound : held_charges (remove t.held s) + h.charge ≡ held_charges t.held = sum-remove (λ e. e.charge) t.held s h at in
      omega (arith, is, all, bound)
