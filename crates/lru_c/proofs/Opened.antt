-- What was put into an empty chain by a call on a cache with keys of one kind is in it.
use Rattle.std.proofs.Common.{◌≡◌, ◌∙◌, ℕ, List, sym, ap, subst}
use Rattle.std.specs.Prelude.{Option, Some, Result, Ok, MatchOption, MatchResult}
use Rattle.concurrent_lru.specs.Cache.{Idle}
use Rattle.lru_c.specs.Calls.{Fills}
use Rattle.lru_c.specs.Chains.{chain_code, IsEmpty}
use Rattle.lru_c.specs.Codes as code
use Rattle.lru_c.specs.Lends.{written}
use Rattle.lru_c.specs.declared.any_cache.AnyCache.{AnyCache}
use Rattle.lru_c.specs.declared.cache.Cache.{Cache as Inner}
use Rattle.lru_c.specs.declared.chain.AnyChain.{AnyChain}
use Rattle.lru_c.specs.declared.told.LruTold.{LruTold}
use Rattle.lru_c.proofs.Cases.{where_is}

-- what a handle leads to was taken from x to y
leads_to : {A : Type 0} {was is : Option A} {x : A} (y : A) → was ≡ Some x → is ≡ written was y → is ≡ Some y
leads_to y w i = i ∙ ap (λ m. written m y) w

-- make: a cache of the kind, as one of either kind; entries: those of a chain, of the kind
module _ {K R : Type 0} (of_kind : Option AnyCache → Result (Inner K R) ℕ) (make : Inner K R → AnyCache) (made : (c : Inner K R) → of_kind (Some (make c)) ≡ Ok c) (entries : AnyChain → Option (List (Idle K ℕ))) (Step : LruTold → Inner K R → List (Idle K ℕ) → Inner K R → Type 0) where
  -- The chain went from b to c, and the cache from x to y.
  pub into_kind : {A : Type 0} {before after : Option AnyChain} {was is : Option AnyCache} {b : AnyChain} (c : AnyChain) {x : Inner K R} (y : Inner K R) {t a : LruTold} (old new : A) {out : List (Idle K ℕ)} (Closed : ℕ → Type 0) → before ≡ Some b → IsEmpty b → after ≡ written before c → was ≡ Some (make x) → is ≡ written was (make y) → entries c ≡ Some out → t ≡ a → Step a x out y
      → Fills before after t old new (MatchResult (of_kind was) (λ o. MatchResult (of_kind is) (λ n. MatchOption after ⊥ (λ c. MatchOption (entries c) ⊥ (λ out. Step t o out n))) (λ _. ⊥)) Closed)
  into_kind {before = before} {after} {was} {is} {b} c {x} y {t} {a} old new {out} Closed be empty ce xe ye has answered h =
      let InChain : Inner K R → Inner K R → Type 0 = λ o n. MatchOption after ⊥ (λ c. MatchOption (entries c) ⊥ (λ out. Step t o out n)) in
      where_is (chain_code before) code.done _ _ (ap chain_code be ∙ empty)
      (subst (λ (r : Result (Inner K R) ℕ). MatchResult r (λ o. MatchResult (of_kind is) (InChain o) (λ _. ⊥)) Closed) (sym (ap of_kind xe ∙ made x))
      (subst (λ (r : Result (Inner K R) ℕ). MatchResult r (InChain x) (λ _. ⊥)) (sym (ap of_kind (leads_to (make y) xe ye) ∙ made y))
      (subst (λ (m : Option AnyChain). MatchOption m ⊥ (λ c. MatchOption (entries c) ⊥ (λ out. Step t x out y))) (sym (leads_to c be ce))
      (subst (λ (m : Option (List (Idle K ℕ))). MatchOption m ⊥ (λ out. Step t x out y)) (sym has)
      (subst (λ (u : LruTold). Step u x out y) (sym answered) h)))))
