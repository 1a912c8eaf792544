-- The two kinds of keys.
use Rattle.std.specs.Prelude.{ℕ, Bool, ◌&&◌, ◌||◌, ◌==◌, nat_eq}
use Rattle.lru_c.specs.declared.bytes.key.Bytes.{Bytes}
use Rattle.lru_c.specs.declared.words.key.Words.{Words}
use Rattle.core.specs.Cmp.Lexicographic.{pointwise}

-- whether two keys are equal: they have the same hash and the same bytes
abbrev pub bytes_eq : Bytes → Bytes → Bool
bytes_eq a b = nat_eq a.hash b.hash && pointwise nat_eq a.bytes.items b.bytes.items

-- whether two keys are equal: both their words are
abbrev pub words_eq : Words → Words → Bool
words_eq a b = nat_eq a.first b.first && nat_eq a.second b.second

-- how C names each kind, and whether a number names one
abbrev pub bytes_kind : ℕ
bytes_kind = 0

abbrev pub words_kind : ℕ
words_kind = 1

abbrev pub is_kind : ℕ → Bool
is_kind kind = (kind == bytes_kind) || (kind == words_kind)
