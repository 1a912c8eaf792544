-- Words of one tag have one home.
use Rattle.std.proofs.Common.{◌≡◌, ℕ, ◌+◌, ◌-◌, ◌*◌, ◌%◌, ◌^◌, ◌<◌, ◌≤◌, sym, ap, ◌∙◌, subst, arith, mul_assoc, inl, inr}
use Rattle.std.proofs.lemmas.Bool.{cases_lt}
use Rattle.std.proofs.lemmas.Nat.{and_mask, pow_pos, pow-add}
use native.Mathlib.Nat.{mul-add-mod_self_right}
use Rattle.concurrent_lru.specs.Probing.Cycle.{home_of}
use Rattle.lru_clock.specs.Index.{IsSize, word_of}

pub size_pos : (n : ℕ) → IsSize n → 0 < n
size_pos n size = subst (λ t. 0 < t) (sym size.2) (pow_pos size.0)

-- twice as many words
pub wider_size : (n : ℕ) → IsSize n → n < 4294967296 → IsSize (n * 2)
wider_size n size less = (size.0 + 1, more, ap (λ t. t * 2) size.2 ∙ sym (pow-add 2 size.0 1))
  where
    more : size.0 + 1 ≤ 32
    more = elim (cases_lt size.0 32) [
      | inl lt ↦ omega arith
      | inr ge ↦ absurd (let top : size.0 ≡ 32 = (let most = size.1 in omega arith) in let all : n ≡ 4294967296 = size.2 ∙ ap (λ j. 2 ^ j) top in omega (arith, all, less))
    ]

pub home_is : (n tag p : ℕ) → IsSize n → home_of n (word_of tag p) ≡ home_of n tag
home_is n tag p size =
    let k : ℕ = size.0 in
    let exact : 32 - k + k ≡ 32 = omega (arith, size.1) in
    let whole : 2 ^ (32 - k) * 2 ^ k ≡ 4294967296 = sym (pow-add 2 (32 - k) k) ∙ ap (λ j. 2 ^ j) exact in
    let parts : word_of tag p ≡ (p + 1) * 2 ^ (32 - k) * 2 ^ k + tag = ap (λ t. (p + 1) * t + tag) (sym whole) ∙ ap (λ t. t + tag) (sym (mul_assoc (p + 1) (2 ^ (32 - k)) (2 ^ k))) in
    let low : word_of tag p % 2 ^ k ≡ tag % 2 ^ k = ap (λ t. t % 2 ^ k) parts ∙ mul-add-mod_self_right ((p + 1) * 2 ^ (32 - k)) (2 ^ k) tag in
    let at : home_of (2 ^ k) (word_of tag p) ≡ home_of (2 ^ k) tag = and_mask (word_of tag p) k ∙ low ∙ sym (and_mask tag k) in
    subst (λ m. home_of m (word_of tag p) ≡ home_of m tag) (sym size.2) at

-- a word tells its place and its tag
pub same_place : (s t p q : ℕ) → s < 4294967296 → t < 4294967296 → word_of s p ≡ word_of t q → p ≡ q
same_place s t p q a b e = omega (arith, a, b, e)

pub same_tag : (s t p q : ℕ) → s < 4294967296 → t < 4294967296 → word_of s p ≡ word_of t q → s ≡ t
same_tag s t p q a b e = let same : p ≡ q = same_place s t p q a b e in omega (arith, e, same)
