-- Counts of what the calls from C on a cache returned: how each answer changes them, and the
-- statistics that C can ask for.
use Rattle.std.specs.Prelude.{◌==◌, ◌+◌, ◌-◌, ◌^◌, ℕ, cond, min}
use Rattle.concurrent_lru.specs.Cache.{Cache, count_of, pinned_of, sum_of}
use Rattle.concurrent_lru.specs.Request as ask
use Rattle.concurrent_lru.specs.Request.{Request}
use Rattle.lru_c.specs.Codes as code
use Rattle.lru_c.specs.declared.counts.Counts.{Counts}
use Rattle.lru_c.specs.declared.told.LruStats.{LruStats}
use Rattle.lru_c.specs.declared.told.LruTold.{LruTold}

-- one more, saturating at the maximum
abbrev pub one_more : ℕ → ℕ
one_more n = min (n + 1) (2 ^ 64 - 1)

-- no calls yet, on a cache whose first entry gets this stamp
abbrev pub no_calls : ℕ → Counts
no_calls first_stamp = record { hits = 0; misses = 0; waits = 0; removals = 0; first_stamp = first_stamp; next_stamp = first_stamp }

-- the counts after an entry was inserted
abbrev pub one_insertion : Counts → Counts
one_insertion n = record n { next_stamp = one_more n.next_stamp }

-- The counts after a miss whose caller is to make the value under this stamp. The entry is new if
-- the stamp is the next one; otherwise the caller took over a making that had failed.
abbrev pub one_making : ℕ → Counts → Counts
one_making stamp n = cond (stamp == n.next_stamp) (one_insertion (record n { misses = one_more n.misses })) (record n { misses = one_more n.misses })

-- the counts after a begin, strict or not, a get or a fail with this answer
abbrev pub answered : LruTold → Counts → Counts
answered t n =
    cond (t.code == code.hit) (record n { hits = one_more n.hits }) (cond (t.code == code.make) (one_making t.pin.stamp n) (
    cond (t.code == code.missed) (record n { misses = one_more n.misses }) (cond (t.code == code.wait) (record n { waits = one_more n.waits }) (
    cond (t.code == code.removed) (record n { removals = one_more n.removals }) n))))

-- the counts after an insert, strict or not, with this answer
abbrev pub inserted : LruTold → Counts → Counts
inserted t n = cond (t.code == code.done) (one_insertion n) n

-- The counts after any call but an insert, with this request and answer. Only a begin, strict or
-- not, a get and a fail change them.
abbrev pub counted : {K : Type 0} → Request K ℕ → LruTold → Counts → Counts
counted (ask.begin k charge) t n = answered t n
counted (ask.begin_strictly k charge) t n = answered t n
counted (ask.get k) t n = answered t n
counted (ask.fail stamp) t n = answered t n
counted _ t n = n

-- The statistics of a cache and its counts. Each new entry took the next stamp, and an entry that
-- is neither present nor removed was evicted.
abbrev pub stats_of : {K : Type 0} → Cache K ℕ → Counts → LruStats
stats_of c n = record {
  hits = n.hits;
  misses = n.misses;
  waits = n.waits;
  insertions = n.next_stamp - n.first_stamp;
  evictions = n.next_stamp - n.first_stamp - n.removals - count_of c;
  removals = n.removals;
  entries = count_of c;
  charge = sum_of c;
  pinned_charge = pinned_of c;
  capacity = c.capacity;
}
