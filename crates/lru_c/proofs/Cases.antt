-- The cases of a test for a number.
use Rattle.std.proofs.Common.{◌≡◌, ℕ, ◌==◌, sym, subst, ne_eqb, eq-eqb}
use Rattle.std.specs.Prelude.{MatchBool}

pub where_is : (n m : ℕ) (P Q : Type 0) → n ≡ m → P → MatchBool (n == m) P Q
where_is n m P Q is p = subst (λ b. MatchBool b P Q) (sym (eq-eqb n m is)) p

pub where_is_not : (n m : ℕ) (P Q : Type 0) → (n ≡ m → ⊥) → Q → MatchBool (n == m) P Q
where_is_not n m P Q is_not q = subst (λ b. MatchBool b P Q) (sym (ne_eqb n m is_not)) q
