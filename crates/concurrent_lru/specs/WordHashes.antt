-- What a `WordHasher` computes.
use Rattle.std.specs.Prelude.{ℕ, zero, suc, ◌-◌, ◌*◌, ◌/◌, List, length, take, drop}
use Rattle.std.specs.Hash.FoldHasher as folding
use Rattle.std.specs.declared.hash.FoldHasher.{FoldHasher}
use Rattle.concurrent_lru.specs.declared.table.word_hasher.WordHasher.{WordHasher}

abbrev pub initial : WordHasher
initial = record { inner = folding.initial }

-- the state after the first n words of eight bytes
abbrev pub words : FoldHasher → List ℕ → ℕ → FoldHasher
words h bytes zero = h
words h bytes (suc n) = folding.write (words h bytes n) (take 8 (drop (8 * n) bytes))

-- the number of words before the last one, which may be shorter
abbrev pub words_before : List ℕ → ℕ
words_before bytes = (length bytes - 1) / 8

-- the state after `write(bytes)`
abbrev pub write : WordHasher → List ℕ → WordHasher
write h bytes = record { inner = folding.write (words h.inner bytes (words_before bytes)) (drop (8 * words_before bytes) bytes) }

-- what `finish` returns
abbrev pub finish : WordHasher → ℕ
finish h = folding.finish h.inner
