-- A cache without entries.
use Rattle.std.proofs.Common.{◌≡◌, ℕ, ◌<◌, ◌≤◌, Bool, true, false, List, [], Option, Some, None, refl, sym, ap, ◌∙◌, subst, arith, eqb, inl, inr}
use Rattle.std.specs.List.{IsDistinct, sum_by}
use Rattle.std.specs.Ordering.{nat_cmp}
use Rattle.std.specs.FinMap.{empty, get-empty, values, len-empty, len-entries, entries}
use Rattle.std.proofs.lemmas.Option.{none-some}
use Rattle.std.proofs.lemmas.List.{nil_from_length}
use Rattle.concurrent_lru.specs.Cache.{Held, IsEntry, IsLawful, empty_cache, sum_of}
use Rattle.concurrent_lru.proofs.Steps.FoundEntries.{found_entry}

pub no_entries : {X : Type 0} → entries (empty {X = X} {R = nat_cmp}) ≡ []
no_entries {X} = nil_from_length (entries (empty {X = X} {R = nat_cmp})) (sym (len-entries (empty {X = X} {R = nat_cmp})) ∙ len-empty nat_cmp X)

pub empty_sum : (K V : Type 0) (capacity most next : ℕ) → sum_of (empty_cache {K = K} {V = V} capacity most next) ≡ 0
empty_sum K V capacity most next =
    let a : sum_by (λ (e : Held K V). e.charge) (values (empty {X = Held K V} {R = nat_cmp})) ≡ 0 = ap (λ es. sum_by (λ (e : Held K V). e.charge) (Rattle.std.proofs.Common.map (λ e. e.1) es)) no_entries in
    omega (arith, a)

module _ {K V : Type 0} where
  no_entry : (capacity most next s : ℕ) (k : K) (m : ℕ) → IsEntry (empty_cache {K = K} {V = V} capacity most next) s k m → ⊥
  no_entry capacity most next s k m e = elim e [ inl i ↦ none-some i.0 i.1 | inr h ↦ none-some h.0 (sym (get-empty nat_cmp s) ∙ h.1) ]

  pub empty_lawful : (E : K → K → Bool) (capacity most next : ℕ) → IsLawful E (empty_cache {K = K} {V = V} capacity most next)
  unfolding IsDistinct
  empty_lawful E capacity most next = record {
    one_entry = λ s t k l m n a b e. absurd (no_entry capacity most next s k m (found_entry (empty_cache capacity most next) s k m a));
    idle_apart = tt;
    held_apart = λ s x h. absurd (none-some x h);
    below_next = λ s k m a. absurd (no_entry capacity most next s k m a);
    charged = λ s k m a. absurd (no_entry capacity most next s k m a);
    pinned = λ s e h. absurd (none-some e (sym (get-empty nat_cmp s) ∙ h));
    sum_fits = let z : sum_of (empty_cache {K = K} {V = V} capacity most next) ≡ 0 = empty_sum K V capacity most next in omega (arith, z);
    settled = λ _. refl;
  }
