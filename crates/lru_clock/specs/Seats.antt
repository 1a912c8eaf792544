-- The seats of a shard, and what its index says of them.
use Rattle.std.specs.Prelude.{◌≡◌, ℕ, ◌<◌, Bool, true, false, List, Option, Some, map, length, slice_get, count_by, refl}
use Rattle.std.specs.Coded.{Coded, code_by, coded×, coded_ℕ, coded_bool, coded_option}
use Rattle.concurrent_lru.specs.Probing.Probes.{IsReached}
use Rattle.concurrent_lru.specs.Probing.Entries.{count, entry, Has, AreApart}
use Rattle.lru_clock.specs.Index.{IsSize, word_of}

-- the charge of the entry, the tag of the hash of its key, whether the index has the entry, and a
-- copy of its key
pub record Seat (K : Type 0) : Type 0 where
  pub charge : ℕ
  pub tag : ℕ
  pub is_listed : Bool
  pub key : Option K

module _ {K : Type 0} where
  abbrev pub seat_code : Coded K → Coded (Seat K)
  seat_code key = code_by (ℕ × (ℕ × (Bool × Option K))) (coded× coded_ℕ (coded× coded_ℕ (coded× coded_bool (coded_option key))))
      (λ s. (s.charge, (s.tag, (s.is_listed, s.key)))) (λ p. record { charge = p.0; tag = p.1.0; is_listed = p.1.1.0; key = p.1.1.1 }) (λ _. refl)

  -- the seat of a place without an entry, or of an entry that the index does not have
  abbrev pub seat : ℕ → ℕ → Option K → Seat K
  seat charge tag key = record { charge = charge; tag = tag; is_listed = false; key = key }

  -- the same seat, of an entry that the index has or does not have
  abbrev pub listed_as : Bool → Seat K → Seat K
  listed_as b s = record { charge = s.charge; tag = s.tag; is_listed = b; key = s.key }

  -- the index has the entry of this place, for a key under the tag of its hash
  pub record IsListed (seats : List (Seat K)) (p t : ℕ) (k : K) : Type 0 where
    pub seat : Seat K
    pub is : slice_get seats p ≡ Some seat
    pub listed : seat.is_listed ≡ true
    pub tag : seat.tag ≡ t
    pub key : seat.key ≡ Some k

  module _ (E : K → K → Bool) where
    -- the index has no entry of the key
    abbrev pub LacksKey : List (Seat K) → ℕ → K → Type 0
    LacksKey seats t k = (p : ℕ) (l : K) → IsListed seats p t l → E l k ≡ false

    -- the index has the key's entry, at this place
    abbrev pub HasKeyAt : List (Seat K) → ℕ → K → ℕ → Type 0
    HasKeyAt seats t k p = (l : K) × IsListed seats p t l × (E l k ≡ true)

    -- the index has at most one entry of each key
    abbrev pub HaveOneEach : List (Seat K) → Type 0
    HaveOneEach seats = (p q t : ℕ) (k l : K) → IsListed seats p t k → IsListed seats q t l → E k l ≡ true → p ≡ q

    -- the words lead to exactly those entries that the index has according to the seats
    pub record IsIndex (seats : List (Seat K)) (words : List ℕ) : Type 0 where
      pub reached : IsReached words
      pub apart : AreApart (map (λ w. entry w w) words)
      pub tags : (p : ℕ) (s : Seat K) → slice_get seats p ≡ Some s → s.tag < 4294967296
      pub leads : (p : ℕ) (s : Seat K) → slice_get seats p ≡ Some s → s.is_listed ≡ true
          → Has (map (λ w. entry w w) words) (entry (word_of s.tag p) (word_of s.tag p))
      pub from : (r : _) → Has (map (λ w. entry w w) words) r
          → (p : ℕ) × (s : Seat K) × (slice_get seats p ≡ Some s) × (s.is_listed ≡ true) × (r.item ≡ word_of s.tag p)
      pub counted : count (map (λ w. entry w w) words) ≡ count_by (λ s. s.is_listed) seats
      pub room : length seats < length words
      pub size : IsSize (length words)
      pub one_each : HaveOneEach seats
