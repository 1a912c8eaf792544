-- Copies of keys are equal.
use Rattle.std.proofs.Common.{◌≡◌, ◌∙◌, ◌&&◌, ℕ, true, ap, eq-eqb}
use Rattle.core.specs.List.{AllZip, each_same}
use Rattle.core.specs.Cmp.Lexicographic.{pointwise}
use Rattle.std.specs.Prelude.{nat_eq}
use Rattle.lru_c.specs.Keys.{bytes_eq}
use Rattle.lru_c.specs.declared.bytes.key.Bytes.{Bytes}
use lib.Pointwise.{bytes_decides}

pub copies : (x y : Bytes) → y.hash ≡ x.hash → AllZip (λ (a b : ℕ). b ≡ a) x.bytes.items y.bytes.items → bytes_eq y x ≡ true
copies x y hash same =
    ap (λ b. b && pointwise nat_eq y.bytes.items x.bytes.items) (eq-eqb y.hash x.hash hash) ∙ (bytes_decides y.bytes.items x.bytes.items).1 (each_same x.bytes.items y.bytes.items same)
