-- Whether the value of the node at a place is being made.
use Rattle.std.proofs.Common.{◌≡◌, ℕ, Bool, true, Some, refl, sym, ap, ◌∙◌, inl, inr}
use Rattle.std.specs.Cmp.{IsEquivalence}
use Rattle.concurrent_lru.specs.Cache.{making, IsLawful}
use Rattle.concurrent_lru.specs.Entries.{Entries, cache_with, GetsAt, IsPlaceOfKey}
use Rattle.concurrent_lru.specs.Makings.{IsBeingMade}
use Rattle.concurrent_lru.specs.NodeTable.{Entry}
use Rattle.concurrent_lru.specs.Representation.{held_entry}
use Rattle.concurrent_lru.proofs.Entries.EntryAtPlace.{found_is, finds_entry, holds, key_is, not_in_phase, unready_pinned}
use Rattle.concurrent_lru.proofs.Steps.NotReady.{unready_not_ready}

module _ {K V : Type 0} {t : Entries K V} {p : ℕ} {e : Entry K V} (here : GetsAt t p e) {E : K → K → Bool} {capacity most next : ℕ} (l : IsLawful E (cache_with capacity most next t)) where
  pub is_made : (k : K) → IsPlaceOfKey E t p k → e.phase ≡ making → IsBeingMade E (cache_with capacity most next t) k
  is_made k w phase =
      let some = unready_pinned here (unready_not_ready _ (inl phase)) in
      (e.stamp, held_entry e, holds here capacity most next e.stamp making here.at some phase, found_is here l k w some, key_is here l k w)

  -- the key finds no other entry
  pub is_not_made : (k : K) → IsEquivalence E → IsPlaceOfKey E t p k → (e.phase ≡ making → ⊥) → IsBeingMade E (cache_with capacity most next t) k → ⊥
  is_not_made k laws w other made =
      let keys : E made.1.key e.key ≡ true = laws.congr made.1.key k e.key made.4 ∙ laws.symm k e.key ∙ key_is here l k w in
      let stamp : made.0 ≡ e.stamp = l.one_entry made.0 e.stamp made.1.key e.key made.1.charge e.charge (inr (made.1, made.2.at, refl, refl, made.3)) (finds_entry here (found_is here l k w)) keys in
      not_in_phase here l making refl made.0 (here.at ∙ ap Some (sym stamp)) other made.1 made.2
