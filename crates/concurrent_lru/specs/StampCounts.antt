-- How often a stamp occurs in a run and in the cache that it ends in, and the stamps that the run
-- gives out.
use Rattle.std.specs.Prelude.{◌≡◌, ℕ, ◌+◌, Bool, cond, List, [], ◌∷◌, sum_by, ◌==◌, nat_lt, Option, Some, None}
use Rattle.concurrent_lru.specs.Cache.{Cache, Idle, held_at}
use Rattle.concurrent_lru.specs.Request as ask
use Rattle.concurrent_lru.specs.Request.{Request}
use Rattle.concurrent_lru.specs.Reply as say
use Rattle.concurrent_lru.specs.Runs.{Outcome, accepted, refused}

abbrev pub one_if : Bool → ℕ
one_if b = cond b 1 0

abbrev pub one_if_some : {X : Type 0} → Option X → ℕ
one_if_some None = 0
one_if_some (Some x) = 1

-- the list is the numbers from m up to but not including n, in order
abbrev pub AreNumbersUpTo : ℕ → List ℕ → ℕ → Type 0
AreNumbersUpTo m [] n = n ≡ m
AreNumbersUpTo m (s ∷ ss) n = (s ≡ m) × AreNumbersUpTo (m + 1) ss n

module _ {K V : Type 0} where
  -- how often a stamp occurs in a list of entries
  abbrev pub stamp_count_in_list : ℕ → List (Idle K V) → ℕ
  stamp_count_in_list s xs = sum_by (λ x. one_if (x.stamp == s)) xs

  -- how often a stamp occurs in a cache, idle or held
  abbrev pub stamp_count_in_cache : Cache K V → ℕ → ℕ
  stamp_count_in_cache c s = stamp_count_in_list s c.idle + one_if_some (held_at c s)

  -- how often a stamp occurs in an outcome: as that of a failed making, or of an evicted entry
  abbrev pub stamp_count_in_outcome : ℕ → Request K V × Outcome K V → ℕ
  stamp_count_in_outcome s (ask.fail t, accepted (say.removed _) out) = one_if (t == s) + stamp_count_in_list s out
  stamp_count_in_outcome s (_, accepted _ out) = stamp_count_in_list s out
  stamp_count_in_outcome s (_, refused _) = 0

  -- how often a stamp occurs in a run that ends in this cache, and in the cache itself
  abbrev pub stamp_count : ℕ → List (Request K V × Outcome K V) → Cache K V → ℕ
  stamp_count s es c = sum_by (stamp_count_in_outcome s) es + stamp_count_in_cache c s

  -- The stamps given out, in order. A begin that is to make a value has a new stamp, from the next
  -- one on, or that of a making that failed. An insert has a new one.
  abbrev pub stamps_given : ℕ → List (Request K V × Outcome K V) → List ℕ
  stamps_given next [] = []
  stamps_given next ((ask.begin _ _, accepted (say.make s) _) ∷ es) = cond (nat_lt s next) (stamps_given next es) (s ∷ stamps_given (s + 1) es)
  stamps_given next ((ask.begin_strictly _ _, accepted (say.make s) _) ∷ es) = cond (nat_lt s next) (stamps_given next es) (s ∷ stamps_given (s + 1) es)
  stamps_given next ((ask.insert _ _ _, accepted (say.inserted s) _) ∷ es) = s ∷ stamps_given (s + 1) es
  stamps_given next ((ask.insert_strictly _ _ _, accepted (say.inserted s) _) ∷ es) = s ∷ stamps_given (s + 1) es
  stamps_given next (_ ∷ es) = stamps_given next es
