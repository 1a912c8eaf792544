-- The page of a place, and its position there, by the steps of `page_of`.
use Rattle.std.proofs.Common.{◌≡◌, ℕ, ◌+◌, ◌-◌, ◌*◌, ◌/◌, ◌%◌, ◌^◌, ◌<◌, ◌≤◌, refl, sym, ap, subst, ◌∙◌, arith, pow_mono, pow_pos, pow-add, lt_of_not-le, div-add-mod'}
use Rattle.std.proofs.lemmas.Nat.{le-div, div_below, mod_below}
use Rattle.lru_clock.specs.Places.{length_of, place_of}

-- the highest bit of a number
bit_above : (n k : ℕ) → n < 2 * 2 ^ k → 512 ≤ n → 9 ≤ k
bit_above n k high h = lt_of_not-le (λ (le : k ≤ 8). let p : 2 ^ k ≤ 256 = pow_mono le in omega (arith, p, high, h))

bit_below : (n k : ℕ) → 2 ^ k ≤ n → n < 8589934592 → k < 33
bit_below n k low h = lt_of_not-le (λ (le : 33 ≤ k). let p : 8589934592 ≤ 2 ^ k = pow_mono le in omega (arith, p, low, h))

bit_of_64 : (k : ℕ) → 2 ^ k ≤ 64 → 64 < 2 * 2 ^ k → k ≡ 6
bit_of_64 k low high =
    let above : 5 < k = lt_of_not-le (λ (le : k ≤ 5). let p : 2 ^ k ≤ 32 = pow_mono le in omega (arith, p, high)) in
    let below : k < 7 = lt_of_not-le (λ (le : 7 ≤ k). let p : 128 ≤ 2 ^ k = pow_mono le in omega (arith, p, low)) in
    omega (arith, above, below)

eighth : (k : ℕ) → 9 ≤ k → 2 ^ k ≡ 8 * 2 ^ (k - 3)
eighth k h = let is : 3 + (k - 3) ≡ k = omega (arith, h) in ap (λ (j : ℕ). 2 ^ j) (sym is) ∙ pow-add 2 3 (k - 3)

-- no step wraps
page_is : (k m log six multiple page : ℕ) → 9 ≤ k → k < 33 → 8 ≤ m → m < 16 → log ≡ k - 3 → six ≡ 6 → multiple ≡ m
    → page ≡ ((((log + (4294967296 - six)) % 4294967296 * 8) % 18446744073709551616 + multiple) % 18446744073709551616 + 18446744073709551608) % 18446744073709551616
    → page ≡ (k - 9) * 8 + (m - 8)
page_is k m log six multiple page above below few more is_log is_six is_multiple is = omega (arith, above, below, few, more, is_log, is_six, is_multiple, is)

at_is : (n x back at : ℕ) → n < 8589934592 → x ≤ n → back ≡ x % 18446744073709551616 → at ≡ (n + (18446744073709551616 - back)) % 18446744073709551616 → at ≡ n - x
at_is n x back at h within is_back is = omega (arith, h, within, is_back, is)

-- a page begins at a multiple of its length
lies : (place k q m page at : ℕ) → q ≡ 2 ^ (k - 3) → 9 ≤ k → 8 ≤ m → m < 16 → m * q ≤ place + 512 → place + 512 < m * q + q
    → page ≡ (k - 9) * 8 + (m - 8) → at ≡ place + 512 - m * q → (place_of (page, at) ≡ place) × (at < length_of page)
lies place k q m page at is_q above few more begins ends is_page is_at =
    let size : page / 8 + 6 ≡ k - 3 = omega (arith, is_page, few, more, above) in
    let part : page % 8 + 8 ≡ m = omega (arith, is_page, few, more, above) in
    let long : length_of page ≡ q = ap (λ (j : ℕ). 2 ^ j) size ∙ sym is_q in
    let first : (page % 8 + 8) * length_of page ≡ m * q = λ i. part i * long i in
    let rest : at < q = omega (arith, is_at, begins, ends) in
    (omega (arith, first, is_at, begins), subst (λ (l : ℕ). at < l) (sym long) rest)

pub page_and_position : (place k log six multiple back page at : ℕ) → place < 4294967296 → 2 ^ k ≤ place + 512 → place + 512 < 2 * 2 ^ k → 2 ^ six ≤ 64 → 64 < 2 * 2 ^ six
    → log ≡ (k + 4294967293) % 4294967296
    → multiple ≡ (place + 512) / 2 ^ (log % 64)
    → back ≡ (multiple * 2 ^ (log % 64)) % 18446744073709551616
    → page ≡ ((((log + (4294967296 - six)) % 4294967296 * 8) % 18446744073709551616 + multiple) % 18446744073709551616 + 18446744073709551608) % 18446744073709551616
    → at ≡ (place + 512 + (18446744073709551616 - back)) % 18446744073709551616
    → (place_of (page, at) ≡ place) × (at < length_of page)
page_and_position place k log six multiple back page at fits low high six_low six_high is_log is_multiple is_back is_page is_at =
    let n = place + 512 in
    let q = 2 ^ (k - 3) in
    let m = n / q in
    let above : 9 ≤ k = bit_above n k high (omega arith) in
    let below : k < 33 = bit_below n k low (omega (arith, fits)) in
    let whole : 2 ^ k ≡ 8 * q = eighth k above in
    let some : 0 < q = pow_pos (k - 3) in
    let few : 8 ≤ m = le-div 8 n q some (omega (arith, whole, low)) in
    let more : m < 16 = div_below n q 16 some (omega (arith, whole, high)) in
    let parts : m * q + n % q ≡ n = div-add-mod' n q in
    let rest : n % q < q = mod_below n q some in
    let shift : log ≡ k - 3 = omega (arith, is_log, above, below) in
    let within : log % 64 ≡ k - 3 = omega (arith, shift, below) in
    let same : multiple ≡ m = is_multiple ∙ ap (λ (j : ℕ). n / 2 ^ j) within in
    let taken : back ≡ (m * q) % 18446744073709551616 = is_back ∙ (λ i. (same i * 2 ^ within i) % 18446744073709551616) in
    lies place k q m page at refl above few more (omega (arith, parts)) (omega (arith, parts, rest))
    (page_is k m log six multiple page above below few more shift (bit_of_64 six six_low six_high) same is_page)
    (at_is n (m * q) back at (omega (arith, fits)) (omega (arith, parts)) taken is_at)
