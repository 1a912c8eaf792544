-- The words of an index, and what a change does to them.
use Rattle.std.specs.Prelude.{◌≡◌, ◌≢◌, ℕ, ◌+◌, ◌*◌, ◌^◌, ◌<◌, ◌≤◌, List, map, length}
use Rattle.concurrent_lru.specs.Probing.Probes.{mark_at, IsReached}
use Rattle.concurrent_lru.specs.Probing.Entries.{entry, count, AreApart, IsSame, Adds, Removes}

-- a number of words that an index may have: a power of two, at most the number of tags
abbrev pub IsSize : ℕ → Type 0
IsSize n = (k : ℕ) × (k ≤ 32) × (n ≡ 2 ^ k)

-- the word of a tag that leads to a place
abbrev pub word_of : ℕ → ℕ → ℕ
word_of tag place = (place + 1) * 4294967296 + tag

-- no word is at two positions; the words are seen as the slots of a table, in which each word is
-- both the mark and the item of its slot, and 0 is an empty slot
abbrev pub AreOnce : List ℕ → Type 0
AreOnce ws = AreApart (map (λ w. entry w w) ws)

-- the word is at some position; the word is at no position
abbrev pub HasWord : List ℕ → ℕ → Type 0
HasWord ws w = (k : ℕ) × (k < length ws) × (mark_at ws k ≡ w)

abbrev pub LacksWord : List ℕ → ℕ → Type 0
LacksWord ws w = (k : ℕ) → k < length ws → mark_at ws k ≢ w

-- the words are the same, at other positions
pub record Rearranges (old new : List ℕ) : Type 0 where
  pub long : length new ≡ length old
  pub same : IsSame (map (λ w. entry w w) old) (map (λ w. entry w w) new)
  pub apart : AreApart (map (λ w. entry w w) old) → AreApart (map (λ w. entry w w) new)
  pub counted : count (map (λ w. entry w w) new) ≡ count (map (λ w. entry w w) old)

-- a word was removed, and a search still reaches each of the others
pub record TakesOut (old new : List ℕ) (w : ℕ) : Type 0 where
  pub long : length new ≡ length old
  pub reached : IsReached new
  pub apart : AreApart (map (λ w. entry w w) new)
  pub removes : Removes (map (λ w. entry w w) old) (map (λ w. entry w w) new) w
  pub counted : count (map (λ w. entry w w) new) + 1 ≡ count (map (λ w. entry w w) old)

-- a word was added, and a search reaches it and still each of the others
pub record PutsIn (old new : List ℕ) (w : ℕ) : Type 0 where
  pub long : length new ≡ length old
  pub reached : IsReached new
  pub apart : AreApart (map (λ w. entry w w) new)
  pub adds : Adds (map (λ w. entry w w) old) (map (λ w. entry w w) new) (entry w w)
  pub counted : count (map (λ w. entry w w) new) ≡ count (map (λ w. entry w w) old) + 1
