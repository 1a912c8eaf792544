-- What a handle leads to once a `&mut` that was lent from it has ended.
use Rattle.std.specs.Prelude.{◌≡◌, ℕ, Option, Some, None, Result, Err, MatchResult}
use Rattle.std.specs.Borrow.{Fml, LendsSo, LendsSoOk, MutBor, RattleType, unit}
use Rattle.lru_c.specs.declared.any_cache.AnyCache.{AnyCache}
use Rattle.lru_c.specs.declared.any_cache.AnyCache.TheVariants as cache
use Rattle.lru_c.specs.declared.chain.AnyChain.{AnyChain}
use Rattle.lru_c.specs.contracts.bytes.key.Bytes as Bytes
use Rattle.lru_c.specs.contracts.bytes.key.BytesClone.TheImpl as bytes_clone
use Rattle.lru_c.specs.contracts.bytes.key.BytesHash.TheImpl as bytes_hash
use Rattle.lru_c.specs.contracts.bytes.key.BytesPartialEq.TheImpl as bytes_equal
use Rattle.lru_c.specs.contracts.cache.Cache as Cache
use Rattle.lru_c.specs.contracts.chain.AnyChain.{the_row as chain_row}
use Rattle.lru_c.specs.contracts.words.key.Words as Words
use Rattle.core.specs.contracts.clone.Clone+copy.TheImpl as copied
use Rattle.lru_c.specs.contracts.words.key.WordsHash.TheImpl as words_hash
use Rattle.lru_c.specs.contracts.words.key.WordsPartialEq.TheImpl as words_equal

-- what a handle leads to once w was written there, or nothing if it is not open
abbrev pub written : {A : Type 0} → Option A → A → Option A
written None w = None
written (Some x) w = Some w

-- The handle leads to the last value behind r, or to what it led to before if r is `None`.
abbrev pub LendsHeld : (H T : RattleType) → (H.Denot → Option T.Denot) → MutBor H.Denot → Option (MutBor T.Denot) → Fml
LendsHeld H T held h r = LendsSo H T h r (λ n w. held n ≡ written (held h.now) w) (λ n. held n ≡ held h.now)

-- The same for a call that returns a chain, or a code.
abbrev pub LendsChain : (G : RattleType) → (G.Denot → Option AnyChain) → MutBor G.Denot → Result (MutBor AnyChain) ℕ → Fml
LendsChain G held g r = LendsSoOk G chain_row g r (λ n w. held n ≡ written (held g.now) w) (λ n. held n ≡ held g.now)

-- The same for a call that returns the cache of a handle, if its keys are of one kind, or a code.
-- make: the cache as one with keys of either kind.
abbrev pub LendsKind : (G T : RattleType) → (T.Denot → AnyCache) → (G.Denot → Option AnyCache) → MutBor G.Denot → Result (MutBor T.Denot) ℕ → Fml
LendsKind G T make held g r = LendsSoOk G T g r (λ n w. held n ≡ written (held g.now) (make w)) (λ n. held n ≡ held g.now)

-- What r leads to is that cache; or r is the code, which of_kind tells.
abbrev pub IsLent : {A : Type 0} → (A → AnyCache) → (Option AnyCache → Result A ℕ) → Option AnyCache → Result (MutBor A) ℕ → Type 0
IsLent make of_kind held r = MatchResult r (λ c. held ≡ Some (make c.now)) (λ code. of_kind held ≡ Err code)

-- the types of the caches of both kinds
abbrev pub bytes_row : RattleType
bytes_row = Cache.the_row Bytes.the_row Bytes.the_row bytes_hash.ghosts bytes_equal.ghosts bytes_clone.ghosts

abbrev pub words_row : RattleType
words_row = Cache.the_row Words.the_row unit words_hash.ghosts words_equal.ghosts (copied.ghosts Words.the_row)

-- LendsKind for each kind
abbrev pub LendsBytes : (G : RattleType) → (G.Denot → Option AnyCache) → MutBor G.Denot → Result (MutBor bytes_row.Denot) ℕ → Fml
LendsBytes G = LendsKind G bytes_row cache.Bytes

abbrev pub LendsWords : (G : RattleType) → (G.Denot → Option AnyCache) → MutBor G.Denot → Result (MutBor words_row.Denot) ℕ → Fml
LendsWords G = LendsKind G words_row cache.Words
