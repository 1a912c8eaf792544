-- The result of a search for a key in an index.
use Rattle.std.specs.Prelude.{◌≡◌, ℕ, Bool, true, false, List, Some, slice_get}
use Rattle.concurrent_lru.specs.Probing.Probes.{Ends}
use Rattle.lru_clock.specs.Index.{word_of}
use Rattle.lru_clock.specs.Seats.{Seat, HasKeyAt, LacksKey}
use Rattle.lru_clock.specs.declared.store.search.Search.{Search}
use Rattle.lru_clock.specs.declared.store.search.Search.TheVariants.{Found, Empty}

module _ {K : Type 0} (E : K → K → Bool) where
  -- the seat of a place has a copy of an equal key; it has none
  abbrev pub SeatHas : List (Seat K) → ℕ → K → Type 0
  SeatHas seats p k = (s : Seat K) × (l : K) × (slice_get seats p ≡ Some s) × (s.key ≡ Some l) × (E l k ≡ true)

  abbrev pub SeatLacks : List (Seat K) → ℕ → K → Type 0
  SeatLacks seats p k = (s : Seat K) (l : K) → slice_get seats p ≡ Some s → s.key ≡ Some l → E l k ≡ false

  -- the place of the key's entry, or the position where a new word of its tag would be put
  abbrev pub Searches : List (Seat K) → List ℕ → ℕ → K → Search → Type 0
  Searches seats words t k (Found p) = HasKeyAt E seats t k p
  Searches seats words t k (Empty at) = LacksKey E seats t k × ((p : ℕ) → Ends words (word_of t p) at)
