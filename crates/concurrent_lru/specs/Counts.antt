-- Counts of what the calls of a cache did: increments, sums, the hit ratio, and the printed line.
use Rattle.std.specs.Prelude.{ℕ, ◌+◌, ◌-◌, ◌^◌, cond, List, [], ◌∷◌, ◌++◌, min, ◌==◌, Option, Some, None, codes, decimal, refl, pos, get_or}
use Rattle.std.specs.Float.Ieee as float
use Rattle.std.specs.Float.Ieee.{Float, binary64}
use Rattle.std.specs.Coded.{Coded, code_by, coded_ℕ, coded_list}
use Rattle.concurrent_lru.specs.declared.counts.Counts.{Counts}

-- `u64::MAX` and `u128::MAX`
abbrev pub end_of_u64 : ℕ
end_of_u64 = 2 ^ 64 - 1

abbrev pub end_of_u128 : ℕ
end_of_u128 = 2 ^ 128 - 1

-- one more, saturating at the maximum
abbrev pub one_more : ℕ → ℕ
one_more n = min (n + 1) end_of_u64

abbrev pub one_hit : Counts → Counts
one_hit n = record n { hits = one_more n.hits }

abbrev pub one_miss : Counts → Counts
one_miss n = record n { misses = one_more n.misses }

abbrev pub one_wait : Counts → Counts
one_wait n = record n { waits = one_more n.waits }

abbrev pub one_refusal : Counts → Counts
one_refusal n = record n { refusals = one_more n.refusals }

abbrev pub one_making : Counts → Counts
one_making n = record n { makings = one_more n.makings }

abbrev pub one_failure : Counts → Counts
one_failure n = record n { failures = one_more n.failures }

-- the counts after an entry of this charge was inserted; after one was removed
abbrev pub inserted : ℕ → Counts → Counts
inserted charge n = record n { insertions = n.insertions + 1; inserted_charge = n.inserted_charge + charge }

abbrev pub removed : ℕ → Counts → Counts
removed charge n = record n { removals = n.removals + 1; removed_charge = n.removed_charge + charge }

-- The counts after the charge of an entry became another. It is that of an entry inserted since the
-- counting began, as far as those have so much.
abbrev pub recharged : ℕ → ℕ → Counts → Counts
recharged was charge n = record n { inserted_charge = n.inserted_charge + charge - was; charge_before = n.charge_before - (was - (n.inserted_charge + charge)) }

-- no calls yet, on a cache with this many entries of this total charge
abbrev pub counts_from : ℕ → ℕ → Counts
counts_from entries charge = record {
  hits = 0;
  misses = 0;
  waits = 0;
  refusals = 0;
  makings = 0;
  failures = 0;
  insertions = 0;
  evictions = 0;
  removals = 0;
  entries_before = entries;
  inserted_charge = 0;
  evicted_charge = 0;
  removed_charge = 0;
  charge_before = charge;
}

-- the entries present before counting began and those inserted since; their total charge
abbrev pub entries_in : Counts → ℕ
entries_in n = n.entries_before + n.insertions

abbrev pub charge_in : Counts → ℕ
charge_in n = n.charge_before + n.inserted_charge

-- the sums of two caches' counts, saturating at the maxima of their types
abbrev pub added : Counts → Counts → Counts
added n m = record {
  hits = min (n.hits + m.hits) end_of_u64;
  misses = min (n.misses + m.misses) end_of_u64;
  waits = min (n.waits + m.waits) end_of_u64;
  refusals = min (n.refusals + m.refusals) end_of_u64;
  makings = min (n.makings + m.makings) end_of_u64;
  failures = min (n.failures + m.failures) end_of_u64;
  insertions = min (n.insertions + m.insertions) end_of_u64;
  evictions = min (n.evictions + m.evictions) end_of_u64;
  removals = min (n.removals + m.removals) end_of_u64;
  entries_before = min (n.entries_before + m.entries_before) end_of_u64;
  inserted_charge = min (n.inserted_charge + m.inserted_charge) end_of_u128;
  evicted_charge = min (n.evicted_charge + m.evicted_charge) end_of_u128;
  removed_charge = min (n.removed_charge + m.removed_charge) end_of_u128;
  charge_before = min (n.charge_before + m.charge_before) end_of_u128;
}

-- the hit ratio of this many hits and lookups, if there were any lookups
abbrev pub part_of : ℕ → ℕ → Option Float
part_of hits asked = cond (asked == 0) None (Some (float.div binary64 (float.of_int binary64 (pos hits)) (float.of_int binary64 (pos asked))))

abbrev pub hit_ratio_of : Counts → Option Float
hit_ratio_of n = part_of n.hits (min (n.hits + n.misses) end_of_u64)

-- The line that `{}` prints: what calls found, what was refused and made, and for each kind of
-- entry their number and their total charge.
abbrev pub asked_text : Counts → List ℕ
asked_text n = codes "hits " ++ (decimal n.hits ++ (codes ", misses " ++ (decimal n.misses ++ (codes ", waits " ++ decimal n.waits))))

abbrev pub makings_text : Counts → List ℕ
makings_text n = codes ", refusals " ++ (decimal n.refusals ++ (codes ", makings " ++ (decimal n.makings ++ (codes ", failures " ++ decimal n.failures))))

abbrev pub entries_text : List ℕ → ℕ → ℕ → List ℕ
entries_text kind entries charge = codes ", " ++ (kind ++ (codes " " ++ (decimal entries ++ (codes " of charge " ++ decimal charge))))

abbrev pub counts_text : Counts → List ℕ
counts_text n =
    asked_text n
    ++ (makings_text n
    ++ (entries_text (codes "inserted") n.insertions n.inserted_charge
    ++ (entries_text (codes "evicted") n.evictions n.evicted_charge
    ++ (entries_text (codes "removed") n.removals n.removed_charge
    ++ entries_text (codes "before") n.entries_before n.charge_before))))

-- the counts as a list of numbers
abbrev numbers : Counts → List ℕ
numbers n =
    n.hits ∷ n.misses ∷ n.waits ∷ n.refusals ∷ n.makings ∷ n.failures ∷ n.insertions ∷ n.evictions ∷ n.removals ∷ n.entries_before ∷ n.inserted_charge ∷ n.evicted_charge ∷ n.removed_charge ∷ n.charge_before ∷ []

abbrev counts_of_numbers : List ℕ → Counts
counts_of_numbers xs = record {
  hits = get_or xs 0 0;
  misses = get_or xs 1 0;
  waits = get_or xs 2 0;
  refusals = get_or xs 3 0;
  makings = get_or xs 4 0;
  failures = get_or xs 5 0;
  insertions = get_or xs 6 0;
  evictions = get_or xs 7 0;
  removals = get_or xs 8 0;
  entries_before = get_or xs 9 0;
  inserted_charge = get_or xs 10 0;
  evicted_charge = get_or xs 11 0;
  removed_charge = get_or xs 12 0;
  charge_before = get_or xs 13 0;
}

abbrev pub counts_code : Coded Counts
counts_code = code_by (List ℕ) (coded_list coded_ℕ) numbers counts_of_numbers (λ _. refl)
