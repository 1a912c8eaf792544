-- For callers: a loop over a walk comes to each item of a hash, and ends.
use Rattle.std.proofs.Common.{◌≡◌, ◌≢◌, ℕ, zero, suc, ◌<◌, List, ◌∷◌, length, refl, sym, ap, ◌∙◌, subst, arith, Contains}
use Rattle.concurrent_lru.specs.Probing.Probes.{marks_of, mark_at}
use Rattle.concurrent_lru.specs.Probing.OpenTable.{IsFilled, HasMark, walk}
use Rattle.concurrent_lru.specs.declared.node_table.probes.Bucket.{Bucket}
use Rattle.concurrent_lru.specs.declared.node_table.probes.Step.{Step}
use Rattle.concurrent_lru.specs.declared.node_table.probes.Step.TheVariants.{Item, End}

contains_rest : (p q : ℕ) (ps : List ℕ) → q ≢ p → Contains (p ∷ ps) q → Contains ps q
contains_rest p q ps ne (zero, within, is) = absurd (ne (sym is))
contains_rest p q ps ne (suc k, within, is) = (k, omega arith, is)

module _ {T : Type 0} (v : List (Bucket T)) (mark : ℕ) (filled : mark ≢ 0) where
  pub item_mark : (at : Step) (cursor : ℕ) → at ≡ Item cursor → HasMark v mark at → mark_at (marks_of v) cursor ≡ mark
  item_mark at cursor is h = subst (HasMark v mark) is h

  pub item_filled : (at : Step) (cursor : ℕ) → at ≡ Item cursor → HasMark v mark at → IsFilled v cursor
  item_filled at cursor is h none = filled (sym (item_mark at cursor is h) ∙ none)

  -- at the end of a walk nothing lies ahead
  pub none_past : (at : Step) (k : ℕ) → ((cursor : ℕ) → at ≡ Item cursor → ⊥) → Contains (walk v at) k → ⊥
  none_past (Item cursor) k ended h = ended cursor refl
  none_past End k ended h = omega (arith, h.1)

  module _ (at next : Step) (cursor : ℕ) (is : at ≡ Item cursor) (rest : walk v (Item cursor) ≡ cursor ∷ walk v next) where
    whole : walk v at ≡ cursor ∷ walk v next
    whole = ap (walk v) is ∙ rest

    -- the next step has fewer ahead of it
    pub fewer : length (walk v next) < length (walk v at)
    fewer = let long : length (walk v at) ≡ length (cursor ∷ walk v next) = ap length whole in omega (arith, long)

    -- and each of those that were ahead but this one
    pub past : (k : ℕ) → k ≢ cursor → Contains (walk v at) k → Contains (walk v next) k
    past k ne h = contains_rest cursor k (walk v next) ne (subst (λ l. Contains l k) whole h)
