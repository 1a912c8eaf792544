-- A call by the bytes of a key is the call on the key that was made of them.
use Rattle.std.proofs.Common.{◌≡◌, ℕ, Bool, true, false, List, refl, sym, subst, ◌==◌}
use Rattle.std.proofs.lemmas.Bool.{eqb-true}
use Rattle.std.specs.Prelude.{MatchBool}
use Rattle.concurrent_lru.specs.Cache.{Cache, Idle}
use Rattle.concurrent_lru.specs.Request.{Request}
use Rattle.lru_c.specs.Codes as code
use Rattle.lru_c.specs.Told.{told, Asks, AsksOf, IsSame}
use Rattle.lru_c.specs.declared.told.LruTold.{LruTold}

module _ {K : Type 0} (E : K → K → Bool) where
  -- where the core refused memory, nothing changed
  same_without_memory : (old new : Cache K ℕ) (r : Request K ℕ) (t : LruTold) (gone : List (Idle K ℕ)) → (t.code == code.memory) ≡ true → Asks E old r t gone new → IsSame old gone new
  same_without_memory old new r t gone is asked =
      subst (λ c. Asks E old r (told c t.pin t.value) gone new → IsSame old gone new) (sym (eqb-true t.code code.memory is)) (λ a. (a.0.1, a.1)) asked

  either : (IsKey : K → Type 0) (old new : Cache K ℕ) (r : K → Request K ℕ) (key : K) (t : LruTold) (gone : List (Idle K ℕ)) → IsKey key → Asks E old (r key) t gone new
      → (b : Bool) → (t.code == code.memory) ≡ b → MatchBool b (IsSame old gone new) ((k : K) × IsKey k × Asks E old (r k) t gone new)
  either IsKey old new r key t gone is asked true e = same_without_memory old new (r key) t gone e asked
  either IsKey old new r key t gone is asked false e = (key, is, asked)

  pub by_key : (IsKey : K → Type 0) (old mid new : Cache K ℕ) (r : K → Request K ℕ) (key : K) (t : LruTold) (gone : List (Idle K ℕ)) → mid ≡ old → IsKey key → Asks E mid (r key) t gone new → AsksOf E IsKey old r t gone new
  by_key IsKey old mid new r key t gone same is asked = either IsKey old new r key t gone is (subst (λ c. Asks E c (r key) t gone new) same asked) (t.code == code.memory) refl
