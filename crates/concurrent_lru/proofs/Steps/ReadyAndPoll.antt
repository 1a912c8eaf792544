-- The laws of ready and poll, a phase that is being made, and a write of the phase of a node.
use Rattle.std.proofs.Common.{◌≡◌, ℕ, Bool, List, [], Some, refl, sym, ap, ◌∙◌, subst}
use Rattle.std.specs.Ordering.{nat_cmp}
use Rattle.std.specs.FinMap.{FinMap, get, insert}
use Rattle.concurrent_lru.specs.declared.node_table.Phase.{Phase as RustPhase}
use Rattle.concurrent_lru.specs.declared.node_table.Phase.TheVariants as rust
use Rattle.concurrent_lru.specs.Cache.{Cache, Idle, Phase, making, ready, IsLawful}
use Rattle.concurrent_lru.specs.Steps.{Holds, ChangesPhase}
use Rattle.concurrent_lru.specs.Steps as steps
use Rattle.concurrent_lru.specs.NodeTable.{Entry, NodeTable, phase_of, update_at, entry_in_phase}
use Rattle.concurrent_lru.proofs.Entries.NodesOfSetAndAdd.{WritesNode}
use Rattle.concurrent_lru.proofs.Steps.LawfulAfterChange.{lawful-with_held}

pub phase_making : {V : Type 0} (p : RustPhase V) → phase_of p ≡ making → p ≡ rust.Making
phase_making rust.Making h = refl
phase_making rust.Untaken h = absurd (cc)
phase_making (rust.Ready a) h = absurd (cc)

module _ {K V : Type 0} where
  pub phase_writes : (old new : NodeTable K V) (p : ℕ) (q : Phase V) (e : Entry K V) → get old.nodes p ≡ Some e → new.nodes ≡ update_at (entry_in_phase q) old.nodes p → WritesNode old new p e (entry_in_phase q e)
  phase_writes old new p q e at nodes = record {
    at = at;
    nodes = nodes ∙ ap (λ o. Rattle.std.specs.Option.option_map_or (λ x. insert old.nodes p (entry_in_phase q x)) o old.nodes) at;
    stamp = refl;
  }

  pub changes_phase_lawful : (E : K → K → Bool) (old new : Cache K V) (s : ℕ) (f g : Phase V) (out : List (Idle K V)) → IsLawful E old → ChangesPhase E old s f g out new → IsLawful E new
  changes_phase_lawful E old new s f g out l t =
      let pins = l.pinned s t.entry t.holds.at in
      subst (IsLawful E) (sym t.changed) (lawful-with_held E old s t.entry (steps.held_in_phase g t.entry) l t.holds.at refl refl (λ h. h) pins.0 pins.1)

  -- a value stored, where the cache and the value are seen as others
  pub stored_seen : {E : K → K → Bool} {old seen new : Cache K V} {s : ℕ} {p : Phase V} {v w : V} → old ≡ seen → v ≡ w → ChangesPhase E old s p (ready v) [] new → ChangesPhase E seen s p (ready w) [] new
  stored_seen {E} {old} {new} {s} {p} {w} is same h = subst (λ c. ChangesPhase E c s p (ready w) [] new) is (subst (λ x. ChangesPhase E old s p (ready x) [] new) same h)
