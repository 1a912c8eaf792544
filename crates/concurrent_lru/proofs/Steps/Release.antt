-- The laws of release, a ready phase, and a write of the pins of a node.
use Rattle.std.proofs.Common.{◌≡◌, ℕ, ◌<◌, ◌^◌, Bool, List, [], Some, refl, sym, ap, ◌∙◌, subst, arith}
use Rattle.std.proofs.lemmas.Bool.{true≢false}
use Rattle.std.specs.FinMap.{get, insert}
use Rattle.concurrent_lru.specs.declared.node_table.Phase.{Phase as RustPhase}
use Rattle.concurrent_lru.specs.declared.node_table.Phase.TheVariants as rust
use Rattle.concurrent_lru.specs.Cache.{Cache, Idle, Phase, ready, IsLawful}
use Rattle.concurrent_lru.specs.Steps.{Leaves, Rests, Detaches, held_in_phase, held_detached, one_pin_less}
use Rattle.concurrent_lru.specs.NodeTable.{Entry, NodeTable, phase_of, update_at, entry_with_pins, entry_detached}
use Rattle.concurrent_lru.proofs.Entries.NodesOfSetAndAdd.{WritesNode}
use Rattle.concurrent_lru.proofs.Steps.LawfulAfterChange.{orderly, settles_lawful, lawful-with_held}
use Rattle.concurrent_lru.proofs.Steps.LawfulAfterRest.{rested, orderly-rested, sum-rested}

pub phase_ready : {V : Type 0} (p : RustPhase V) (v : V) → phase_of p ≡ ready v → (w : V) × (p ≡ rust.Ready w)
phase_ready rust.Making v h = absurd (cc)
phase_ready rust.Untaken v h = absurd (cc)
phase_ready (rust.Ready w) v h = (w, refl)

module _ {K V : Type 0} where
  pub pinned_writes : (old new : NodeTable K V) (p n : ℕ) (e : Entry K V) → get old.nodes p ≡ Some e → new.nodes ≡ update_at (entry_with_pins n) old.nodes p → WritesNode old new p e (entry_with_pins n e)
  pinned_writes old new p n e at nodes = record {
    at = at;
    nodes = nodes ∙ ap (λ o. Rattle.std.specs.Option.option_map_or (λ x. insert old.nodes p (entry_with_pins n x)) o old.nodes) at;
    stamp = refl;
  }

  pub detached_writes : (old new : NodeTable K V) (p : ℕ) (e : Entry K V) → get old.nodes p ≡ Some e → new.nodes ≡ update_at entry_detached old.nodes p → WritesNode old new p e (entry_detached e)
  detached_writes old new p e at nodes = record {
    at = at;
    nodes = nodes ∙ ap (λ o. Rattle.std.specs.Option.option_map_or (λ x. insert old.nodes p (entry_detached x)) o old.nodes) at;
    stamp = refl;
  }

  pub rests_lawful : (E : K → K → Bool) (old new : Cache K V) (s : ℕ) (out : List (Idle K V)) → IsLawful E old → Rests E old s out new → IsLawful E new
  rests_lawful E old new s out l r =
      settles_lawful E (rested old s r.entry r.value) new out (orderly-rested E old s r.entry r.value (orderly l) r.holds.at r.found)
      (subst (λ n. n < 2 ^ 64) (sym (sum-rested old s r.entry r.value r.holds.at)) l.sum_fits) r.settles

  pub leaves_lawful : (E : K → K → Bool) (old new : Cache K V) (s : ℕ) (f g : Phase V) (out : List (Idle K V)) → IsLawful E old → Leaves E old s f g out new → IsLawful E new
  leaves_lawful E old new s f g out l r =
      let pins = l.pinned s r.entry r.holds.at in
      let others = r.others in
      subst (IsLawful E) (sym r.changed) (lawful-with_held E old s r.entry (held_in_phase g (one_pin_less r.entry)) l r.holds.at refl refl (λ h. h) (omega (arith, pins.1, others)) (omega (arith, pins.1)))

  -- a pin left, where the cache is seen as another, and nothing was evicted
  pub left_seen : {E : K → K → Bool} {old seen new : Cache K V} {s : ℕ} {f g : Phase V} {out : List (Idle K V)} → old ≡ seen → out ≡ [] → Leaves E old s f g [] new → Leaves E seen s f g out new
  left_seen {E} {old} {new} {s} {f} {g} {out} is none h = subst (λ c. Leaves E c s f g out new) is (subst (λ xs. Leaves E old s f g xs new) (sym none) h)

  pub detaches_lawful : (E : K → K → Bool) (old new : Cache K V) (k : K) (out : List (Idle K V)) → IsLawful E old → Detaches E old k out new → IsLawful E new
  detaches_lawful E old new k out l r =
      let pins = l.pinned r.stamp r.entry r.at in
      subst (IsLawful E) (sym r.changed) (lawful-with_held E old r.stamp r.entry (held_detached r.entry) l r.at refl refl (λ h. absurd (true≢false h)) pins.0 pins.1)
