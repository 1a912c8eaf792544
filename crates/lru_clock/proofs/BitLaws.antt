-- The bit of a place changes alone.
use Rattle.std.proofs.Common.{◌≡◌, ◌≢◌, ℕ, zero, suc, ◌+◌, ◌/◌, ◌%◌, ◌^◌, ◌<◌, Bool, true, false, cond, List, length, refl, sym, ap, ◌∙◌, arith, inl, inr, get_or-set_same, get_or-set_other}
use Rattle.std.specs.Prelude.{◌==◌, max, not}
use Rattle.std.specs.Int.{bit_at}
use Rattle.std.specs.Int.Bits.{bit_or, bit_xor}
use Rattle.std.proofs.Math.ListN.{get_or, set}
use Rattle.std.proofs.lemmas.Nat.Bits.{bit_at-lt, bit_at_or, bit_at_xor, bit_at-pow_same, bit_at-pow_other}
use Rattle.std.proofs.lemmas.Bool.{cases_eq}
use Rattle.lru_clock.specs.Bits.{has_bit, with_bit, without_bit}

-- a bit of a sum of bits
or_same : (w k : ℕ) → bit_at (bit_or w (2 ^ k)) k ≡ 1
or_same w k = bit_at_or w (2 ^ k) k ∙ ap (λ n. max (bit_at w k) n) (bit_at-pow_same k) ∙ (let one : max (bit_at w k) 1 ≡ 1 = omega (arith, bit_at-lt w k) in one)

or_other : (w k j : ℕ) → j ≢ k → bit_at (bit_or w (2 ^ k)) j ≡ bit_at w j
or_other w k j other = bit_at_or w (2 ^ k) j ∙ ap (λ n. max (bit_at w j) n) (bit_at-pow_other k j other) ∙ (let same : max (bit_at w j) 0 ≡ bit_at w j = omega arith in same)

xor_same : (w k : ℕ) → bit_at (bit_xor w (2 ^ k)) k ≡ (bit_at w k + 1) % 2
xor_same w k = bit_at_xor w (2 ^ k) k ∙ ap (λ n. (bit_at w k + n) % 2) (bit_at-pow_same k)

xor_other : (w k j : ℕ) → j ≢ k → bit_at (bit_xor w (2 ^ k)) j ≡ bit_at w j
xor_other w k j other = bit_at_xor w (2 ^ k) j ∙ ap (λ n. (bit_at w j + n) % 2) (bit_at-pow_other k j other) ∙ (let same : (bit_at w j + 0) % 2 ≡ bit_at w j = omega (arith, bit_at-lt w j) in same)

flips : (n : ℕ) → n < 2 → ((n + 1) % 2 == 1) ≡ not (n == 1)
flips zero l = refl
flips (suc zero) l = refl
flips (suc (suc n)) l = absurd (omega (arith, l))

-- a word was replaced: the bits of the place, and of another one
pub at_same : (words : List ℕ) (p w : ℕ) → p / 64 < length words → has_bit (set words (p / 64) w) p ≡ (bit_at w (p % 64) == 1)
at_same words p w l = ap (λ x. bit_at x (p % 64) == 1) (get_or-set_same words (p / 64) w 0 l)

pub at_other : (words : List ℕ) (p q w : ℕ) → p / 64 < length words → q ≢ p → (q % 64 ≢ p % 64 → bit_at w (q % 64) ≡ bit_at (get_or words (p / 64) 0) (q % 64)) → has_bit (set words (p / 64) w) q ≡ has_bit words q
at_other words p q w l other kept =
    elim (cases_eq (q / 64) (p / 64)) [
      | inl same ↦
          let bit : q % 64 ≢ p % 64 = λ e. other (omega (arith, same, e)) in
          ap (λ i. bit_at (get_or (set words (p / 64) w) i 0) (q % 64) == 1) same
          ∙ ap (λ x. bit_at x (q % 64) == 1) (get_or-set_same words (p / 64) w 0 l)
          ∙ ap (λ n. n == 1) (kept bit)
          ∙ ap (λ i. bit_at (get_or words i 0) (q % 64) == 1) (sym same)
      | inr apart ↦ ap (λ x. bit_at x (q % 64) == 1) (get_or-set_other words (p / 64) (q / 64) w 0 apart)
    ]

pub with_same : (words : List ℕ) (p : ℕ) → p / 64 < length words → has_bit (with_bit words p) p ≡ true
with_same words p l = at_same words p (bit_or (get_or words (p / 64) 0) (2 ^ (p % 64))) l ∙ ap (λ n. n == 1) (or_same (get_or words (p / 64) 0) (p % 64))

pub with_other : (words : List ℕ) (p q : ℕ) → p / 64 < length words → q ≢ p → has_bit (with_bit words p) q ≡ has_bit words q
with_other words p q l other = at_other words p q (bit_or (get_or words (p / 64) 0) (2 ^ (p % 64))) l other (or_other (get_or words (p / 64) 0) (p % 64) (q % 64))

without_same_at : (b : Bool) (words : List ℕ) (p : ℕ) → p / 64 < length words → has_bit words p ≡ b
    → has_bit (cond b (set words (p / 64) (bit_xor (get_or words (p / 64) 0) (2 ^ (p % 64)))) words) p ≡ false
without_same_at true words p l is =
    let w = get_or words (p / 64) 0 in
    at_same words p (bit_xor w (2 ^ (p % 64))) l ∙ ap (λ n. n == 1) (xor_same w (p % 64)) ∙ flips (bit_at w (p % 64)) (bit_at-lt w (p % 64)) ∙ ap not is
without_same_at false words p l is = is

pub without_same : (words : List ℕ) (p : ℕ) → p / 64 < length words → has_bit (without_bit words p) p ≡ false
without_same words p l = without_same_at (has_bit words p) words p l refl

without_other_at : (b : Bool) (words : List ℕ) (p q : ℕ) → p / 64 < length words → q ≢ p
    → has_bit (cond b (set words (p / 64) (bit_xor (get_or words (p / 64) 0) (2 ^ (p % 64)))) words) q ≡ has_bit words q
without_other_at true words p q l other = at_other words p q (bit_xor (get_or words (p / 64) 0) (2 ^ (p % 64))) l other (xor_other (get_or words (p / 64) 0) (p % 64) (q % 64))
without_other_at false words p q l other = refl

pub without_other : (words : List ℕ) (p q : ℕ) → p / 64 < length words → q ≢ p → has_bit (without_bit words p) q ≡ has_bit words q
without_other words p q l other = without_other_at (has_bit words p) words p q l other
