-- The steps of poll that change nothing.
use Rattle.std.proofs.Common.{◌≡◌, ℕ, Bool, [], Option, Some, None, refl, ap, ◌∙◌}
use Rattle.std.specs.FinMap.{insert}
use Rattle.concurrent_lru.specs.Cache.{Cache, Held, Phase}
use Rattle.concurrent_lru.specs.Steps.{Holds, ChangesPhase}
use Rattle.concurrent_lru.specs.Steps as steps
use Rattle.concurrent_lru.proofs.Entries.SumsOfHeld.{insert_again}

-- an option that is no Some
pub none_if_no_some : {X : Type 0} (o : Option X) → ((x : X) → o ≡ Some x → ⊥) → o ≡ None
none_if_no_some None h = refl
none_if_no_some (Some x) h = absurd (h x refl)

module _ {K V : Type 0} where
  -- a held entry stays as it is
  pub changes_phase_same : (E : K → K → Bool) (c : Cache K V) (s : ℕ) (e : Held K V) (q : Phase V) → Holds c s e q → ChangesPhase E c s q q [] c
  changes_phase_same E c s e q holds =
      let h : c.held ≡ insert c.held s (steps.held_in_phase q e) = insert_again c.held s e holds.at ∙ ap (λ f. insert c.held s (steps.held_in_phase f e)) holds.phase in
      record { entry = e; holds = holds; changed = λ j. record c { held = h j }; none = refl }
