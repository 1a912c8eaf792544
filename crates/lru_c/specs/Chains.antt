-- The chains that C holds: their entries, and what calls on them return.
use Rattle.std.specs.Prelude.{◌≡◌, ◌++◌, ℕ, List, [], ◌∷◌, Option, Some, None, MatchOption}
use Rattle.concurrent_lru.specs.Cache.{Idle}
use Rattle.lru_c.specs.Codes as code
use Rattle.lru_c.specs.Handles.{OnOpen}
use Rattle.lru_c.specs.declared.bytes.key.Bytes.{Bytes}
use Rattle.lru_c.specs.declared.words.key.Words.{Words}
use Rattle.lru_c.specs.declared.chain.Chain.{Chain}
use Rattle.lru_c.specs.declared.chain.AnyChain.{AnyChain}
use Rattle.lru_c.specs.declared.chain.AnyChain.TheVariants as keys
use Rattle.lru_c.specs.declared.told.LruGone.{LruGone}

module _ {K : Type 0} where
  abbrev pub entries_of : Chain K → List (Idle K ℕ)
  entries_of c = c.first ++ c.rest

  -- a chain of these entries
  abbrev pub chain_of : List (Idle K ℕ) → Chain K
  chain_of out = record { first = []; rest = out }

  -- whether a chain of these entries takes more
  abbrev pub code_of_entries : List (Idle K ℕ) → ℕ
  code_of_entries [] = code.done
  code_of_entries (x ∷ xs) = code.not_empty

  -- the call returned the first entry, and these are left
  abbrev pub TellsFirst : List (Idle K ℕ) → LruGone → List (Idle K ℕ) → Type 0
  TellsFirst [] g rest = ⊥
  TellsFirst (x ∷ xs) g rest = (rest ≡ xs) × (g.stamp ≡ x.stamp) × (g.charge ≡ x.charge) × (g.value ≡ x.value)

  -- the call took out the first entry, if there was one, and returned it
  abbrev pub Pops : List (Idle K ℕ) → Option LruGone → List (Idle K ℕ) → Type 0
  Pops old told new = MatchOption told ((old ≡ []) × (new ≡ [])) (λ g. TellsFirst old g new)

-- entries as ones with keys of the other kind: there are none, or they cannot be
abbrev pub as_none : {K L : Type 0} → List (Idle K ℕ) → Option (List (Idle L ℕ))
as_none [] = Some []
as_none (x ∷ xs) = None

-- The entries of a chain, if they are entries with keys of bytes, or with keys of two words. A
-- chain of none has none of either kind.
abbrev pub bytes_in : AnyChain → Option (List (Idle Bytes ℕ))
bytes_in (keys.Bytes c) = Some (entries_of c)
bytes_in (keys.Words c) = as_none (entries_of c)

abbrev pub words_in : AnyChain → Option (List (Idle Words ℕ))
words_in (keys.Bytes c) = as_none (entries_of c)
words_in (keys.Words c) = Some (entries_of c)

-- `done` if the chain has no entries, otherwise `not_empty`
abbrev pub emptiness_code : AnyChain → ℕ
emptiness_code (keys.Bytes c) = code_of_entries (entries_of c)
emptiness_code (keys.Words c) = code_of_entries (entries_of c)

-- whether a chain takes entries: `done` if it is open and empty, or else the reason
abbrev pub chain_code : Option AnyChain → ℕ
chain_code None = code.closed
chain_code (Some c) = emptiness_code c

-- the call took out the first entry, if there was one, and returned it
abbrev pub PopsAny : AnyChain → Option LruGone → AnyChain → Type 0
PopsAny (keys.Bytes old) told (keys.Bytes new) = Pops (entries_of old) told (entries_of new)
PopsAny (keys.Words old) told (keys.Words new) = Pops (entries_of old) told (entries_of new)
PopsAny (keys.Bytes old) told (keys.Words new) = ⊥
PopsAny (keys.Words old) told (keys.Bytes new) = ⊥

-- the same for a chain behind a handle; if it is not open, nothing was returned
abbrev pub PopsOpen : Option AnyChain → Option LruGone → Option AnyChain → Type 0
PopsOpen old told new = OnOpen old new (λ o n. PopsAny o told n) (told ≡ None)

-- the chain has no entries
abbrev pub IsEmpty : AnyChain → Type 0
IsEmpty c = emptiness_code c ≡ code.done
