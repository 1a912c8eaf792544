-- The first bit that is set, word by word.
use Rattle.std.proofs.Common.{◌≡◌, ℕ, zero, suc, ◌+◌, ◌-◌, ◌*◌, ◌/◌, ◌%◌, ◌^◌, ◌<◌, ◌≤◌, Bool, true, false, cond, List, [], ◌∷◌, length, Some, refl, sym, ap, subst, ◌∙◌, arith, append-nil, inl, inr}
use Rattle.std.specs.Prelude.{◌==◌}
use Rattle.std.specs.Int.{bit_at, trailing_zeros, w64}
use Rattle.std.proofs.Math.ListN.{get_or}
use Rattle.std.proofs.lemmas.Nat.{shr-shr, shr_le}
use Rattle.std.proofs.lemmas.Nat.Bits.{bit_at-zero, bit_at-trailing_zeros, bit_at_above}
use Rattle.std.proofs.lemmas.Bool.{cases_lt}
use Rattle.lru_clock.specs.Orders.{OrderOf, IsWidened}
use Rattle.lru_clock.specs.Bits.{has_bit, first_bit, IsPadded, LacksFrom, IsLowest}

-- no zeros are added
pub same_padded : (words : List ℕ) → IsPadded words words
same_padded words = (0, sym (append-nil words))

pub same_widened : (o : OrderOf) → IsWidened o o
same_widened o = (same_padded o.trials, same_padded o.youngs, same_padded o.ghosts, refl)

-- a word of a list that was read
pub cell_of : (words : List ℕ) (i x : ℕ) → i < length words → x ≡ get_or words i x → get_or words i 0 ≡ x
cell_of [] i x l is = absurd (omega (arith, l))
cell_of (w ∷ words) zero x l is = sym is
cell_of (w ∷ words) (suc i) x l is = cell_of words i x (omega (arith, l)) is

-- at equal places, and among equally many
pub first_same : (words : List ℕ) (p q m n : ℕ) → p ≡ q → m ≡ n → first_bit words p m ≡ first_bit words q n
first_same words p q m n places counts = ap (λ r. first_bit words r m) places ∙ ap (λ k. first_bit words q k) counts

pub bit_same : (words : List ℕ) (p q : ℕ) (b : Bool) → p ≡ q → has_bit words p ≡ b → has_bit words q ≡ b
bit_same words p q b same has = subst (λ r. has_bit words r ≡ b) same has

-- places without their bits are passed
pub first_skips : (words : List ℕ) (p k n : ℕ) → ((i : ℕ) → i < k → has_bit words (p + i) ≡ false) → first_bit words p (k + n) ≡ first_bit words (p + k) n
first_skips words p zero n none = first_same words p (p + zero) (zero + n) n (omega arith) (omega arith)
first_skips words p (suc k) n none =
    first_same words p p (suc k + n) (suc (k + n)) refl (omega arith)
    ∙ ap (λ b. cond b (Some p) (first_bit words (p + 1) (k + n))) (bit_same words (p + 0) p false (omega arith) (none 0 (omega arith)))
    ∙ first_skips words (p + 1) k n (λ i l. bit_same words (p + (i + 1)) (p + 1 + i) false (omega arith) (none (i + 1) (omega (arith, l))))
    ∙ first_same words (p + 1 + k) (p + suc k) n n (omega arith) refl

-- a place with its bit is found
pub first_here : (words : List ℕ) (p n : ℕ) → 0 < n → has_bit words p ≡ true → first_bit words p n ≡ Some p
first_here words p zero some has = absurd (omega (arith, some))
first_here words p (suc n) some has = ap (λ b. cond b (Some p) (first_bit words (p + 1) n)) has

-- so is the first place after some without their bits
pub first_after : (words : List ℕ) (p k n : ℕ) → k < n → ((i : ℕ) → i < k → has_bit words (p + i) ≡ false) → has_bit words (p + k) ≡ true → first_bit words p n ≡ Some (p + k)
first_after words p k n l none has =
    first_same words p p n (k + (n - k)) refl (omega (arith, l)) ∙ first_skips words p k (n - k) none ∙ first_here words (p + k) (n - k) (omega (arith, l)) has

-- the bits of a word
pub bit_of_word : (words : List ℕ) (at i : ℕ) → i < 64 → has_bit words (64 * at + i) ≡ (bit_at (get_or words at 0) i == 1)
bit_of_word words at i l =
    let place : (64 * at + i) / 64 ≡ at = omega (arith, l) in
    let in_word : (64 * at + i) % 64 ≡ i = omega (arith, l) in
    ap (λ q. bit_at (get_or words q 0) ((64 * at + i) % 64) == 1) place ∙ ap (λ k. bit_at (get_or words at 0) k == 1) in_word

-- a word that lacks bits is passed
pub first_past : (words : List ℕ) (at bit count : ℕ) → at < count → bit < 64 → LacksFrom (get_or words at 0) bit
    → first_bit words (64 * at + bit) (64 * count - (64 * at + bit)) ≡ first_bit words (64 * (at + 1) + 0) (64 * count - (64 * (at + 1) + 0))
first_past words at bit count l fits lacks =
    first_same words (64 * at + bit) (64 * at + bit) (64 * count - (64 * at + bit)) ((64 - bit) + (64 * count - (64 * (at + 1) + 0))) refl (omega (arith, l, fits))
    ∙ first_skips words (64 * at + bit) (64 - bit) (64 * count - (64 * (at + 1) + 0)) (λ i m.
    bit_same words (64 * at + (bit + i)) (64 * at + bit + i) false (omega arith) (bit_of_word words at (bit + i) (omega (arith, m)) ∙ ap (λ b. b == 1) (lacks (bit + i) (omega arith) (omega (arith, m)))))
    ∙ first_same words (64 * at + bit + (64 - bit)) (64 * (at + 1) + 0) (64 * count - (64 * (at + 1) + 0)) (64 * count - (64 * (at + 1) + 0)) (omega (arith, fits)) refl

-- the lowest bit of a word is the first
pub first_found : (words : List ℕ) (at bit count found : ℕ) → at < count → IsLowest (get_or words at 0) bit found
    → first_bit words (64 * at + bit) (64 * count - (64 * at + bit)) ≡ Some (at * 64 + found)
first_found words at bit count found l low =
    let after : bit ≤ found = low.after in
    let within : found < 64 = low.within in
    first_after words (64 * at + bit) (found - bit) (64 * count - (64 * at + bit)) (omega (arith, l, after, within))
    (λ i m. bit_same words (64 * at + (bit + i)) (64 * at + bit + i) false (omega arith)
    (bit_of_word words at (bit + i) (omega (arith, m, within)) ∙ ap (λ b. b == 1) (low.below (bit + i) (omega arith) (omega (arith, m)))))
    (bit_same words (64 * at + found) (64 * at + bit + (found - bit)) true (omega (arith, after)) (bit_of_word words at found within ∙ ap (λ b. b == 1) low.set))
    ∙ ap (λ p. Some p) (let same : 64 * at + bit + (found - bit) ≡ at * 64 + found = omega (arith, after) in same)

-- the bits of a word after a shift are those from that bit on
shifted : (word bit i : ℕ) → bit ≤ i → bit_at (word / 2 ^ bit) (i - bit) ≡ bit_at word i
shifted word bit i l = ap (λ n. n % 2) (shr-shr word bit (i - bit)) ∙ ap (λ k. word / 2 ^ k % 2) (let same : bit + (i - bit) ≡ i = omega (arith, l) in same)

pub lacks_shifted : (word bit : ℕ) → word / 2 ^ bit ≡ 0 → LacksFrom word bit
lacks_shifted word bit none i l m = sym (shifted word bit i l) ∙ ap (λ w. bit_at w (i - bit)) none ∙ bit_at-zero (i - bit)

pub lowest_shifted : (word bit : ℕ) → word < 2 ^ 64 → 0 < word / 2 ^ bit → IsLowest word bit (bit + trailing_zeros w64 (word / 2 ^ bit))
lowest_shifted word bit fits some =
    let rest = word / 2 ^ bit in
    let zeros = trailing_zeros w64 rest in
    let low = bit_at-trailing_zeros w64 rest some (omega (arith, fits, shr_le word bit)) in
    let same : bit + zeros - bit ≡ zeros = omega arith in
    let set : bit_at word (bit + zeros) ≡ 1 = sym (shifted word bit (bit + zeros) (omega arith)) ∙ ap (λ k. bit_at rest k) same ∙ low.1 in
    record {
      after = omega arith;
      within = elim (cases_lt (bit + zeros) 64) [ inl l ↦ l | inr l ↦ absurd (omega (arith, sym set ∙ bit_at_above word 64 (bit + zeros) fits l)) ];
      set = set;
      below = λ i l m. sym (shifted word bit i l) ∙ low.2 (i - bit) (omega (arith, l, m));
    }
