-- The `String` that a text stands for.
use Rattle.std.specs.Prelude.{◌≡◌, ℕ, ◌<◌, ◌^◌, Bool, true, false, cond, ◌&&◌, List, [], length, nat_lt, IsUtf8, String, chars}
use mathlib.Core.Path.{refl, sym}
use mathlib.Core.Bool.{true≢false}
use native.Mathlib.Nat.{le_refl}
use native.Mathlib.Omega.{arith}
use borrow.Author.Tests.{ltb-true}
use denote.RawPtr.{null_ptr}
use lib.Utf8.{scalars}
use Rattle.std.specs.Str.{is_utf8}
use Rattle.std.specs.Cmp.Lexicographic.{bytes_decides}
use Rattle.std.specs.declared.alloc.Global.{Global}

-- the bytes are those of a `String`
abbrev pub is_text : List ℕ → Bool
is_text bs = is_utf8 bs && nat_lt (length bs) (2 ^ 63)

-- bs, if they are the bytes of a `String`
abbrev pub text_of : List ℕ → List ℕ
text_of bs = cond (is_text bs) bs []

first_true : (a b : Bool) → a && b ≡ true → a ≡ true
first_true true b h = refl
first_true false b h = h

second_true : (a b : Bool) → a && b ≡ true → b ≡ true
second_true true b h = h
second_true false b h = absurd (true≢false (sym h))

utf8_if : (b : Bool) (bs : List ℕ) → (b ≡ true → IsUtf8 bs) → IsUtf8 (cond b bs [])
utf8_if true bs h = h refl
utf8_if false bs h = ([], (refl, refl))

short_if : (b : Bool) (bs : List ℕ) → (b ≡ true → length bs < 2 ^ 63) → length (cond b bs []) < 2 ^ 63
short_if true bs h = h refl
short_if false bs h = omega arith

pub utf8_text : (bs : List ℕ) → IsUtf8 (text_of bs)
unfolding is_utf8
utf8_text bs = utf8_if _ bs (λ t. let u = first_true _ (nat_lt (length bs) (2 ^ 63)) t in (chars bs, (first_true _ _ u, (bytes_decides _ bs).0 (second_true (scalars (chars bs)) _ u))))

pub short_text : (bs : List ℕ) → length (text_of bs) < 2 ^ 63
short_text bs = short_if _ bs (λ t. ltb-true (length bs) (2 ^ 63) (second_true (is_utf8 bs) _ t))

-- the one value of `Global`
abbrev pub heap : Global
heap = record { memory = record { seal = tt } }

-- the `String` with these bytes
unfoldable pub string_of : List ℕ → String Global
string_of bs = record {
  bytes = record { ptr = null_ptr; len = length (text_of bs); cap = length (text_of bs); alloc = heap; items = text_of bs; ok = (refl, le_refl (length (text_of bs))); small = short_text bs };
  ok = ∣ utf8_text bs ∣₁;
}
