-- Where the node at a place is ready, its key has a value.
use Rattle.std.proofs.Common.{◌≡◌, ◌≢◌, ℕ, inl, inr, Bool, true, false, refl, sym, ◌∙◌, ◌==◌}
use Rattle.std.proofs.lemmas.Bool.{true≢false, eqb-true, eq-eqb}
use Rattle.concurrent_lru.specs.Cache.{Idle, ready}
use Rattle.concurrent_lru.specs.NodeTable.{Entry}
use Rattle.concurrent_lru.specs.Representation.{held_entry}
use Rattle.concurrent_lru.specs.Entries.{Entries, cache_with, GetsAt}
use Rattle.concurrent_lru.specs.Ready.{FindsReady, HasReadyKey}
use Rattle.concurrent_lru.proofs.Entries.EntryAtPlace.{idle_here}
use Rattle.concurrent_lru.proofs.Steps.ReadyValues.{contains_found}

module _ {K V : Type 0} (E : K → K → Bool) (capacity most next : ℕ) {t : Entries K V} {p : ℕ} {e : Entry K V} (here : GetsAt t p e) where
  pub has_ready_key : (k : K) (v : V) → (e.pins ≢ 0 → e.detached ≡ false) → E e.key k ≡ true → e.phase ≡ ready v → HasReadyKey E (cache_with capacity most next t) k
  has_ready_key k v found same phase = (
    e.key,
    v,
    same,
    elim (e.pins == 0) as (λ b. (e.pins == 0) ≡ b → FindsReady (cache_with capacity most next t) e.key v) [
      | true ↦ λ b.
          let x : Idle K V = record { stamp = e.stamp; key = e.key; charge = e.charge; value = v } in
          inl (x, contains_found _ t.idle x (idle_here here v phase (eqb-true e.pins 0 b)), refl, refl)
      | false ↦ λ b.
          let some : e.pins ≢ 0 = λ none. true≢false (sym (eq-eqb e.pins 0 none) ∙ b) in
          inr (e.stamp, held_entry e, here.held some, refl, phase, found some)
    ] refl,
  )
