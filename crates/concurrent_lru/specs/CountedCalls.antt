-- How each call on a cache changes its counts, depending on its request and outcome, and that the
-- counts add up.
use Rattle.std.specs.Prelude.{◌≡◌, ℕ, ◌+◌, ◌*◌, ◌<◌, ◌≤◌, ◌^◌, Bool, cond, List, length, ◌==◌, Option, Some, None, Result, Ok, Err, refl}
use Rattle.std.specs.Option.{option_map_or}
use Rattle.std.specs.Coded.{Coded, code_by, coded×, coded_bool}
use Rattle.std.specs.declared.sync.Arc.{Arc}
use Rattle.std.specs.declared.alloc.Global.{Global}
use Rattle.concurrent_lru.specs.Cache.{Cache, Idle, charges, held_at, sum_of, count_of, cache_code, IsLawful}
use Rattle.concurrent_lru.specs.Ready.{ValuesFit}
use Rattle.concurrent_lru.specs.Counts.{counts_code, end_of_u64, inserted, recharged, one_failure, one_hit, one_making, one_miss, one_refusal, one_wait, removed, entries_in, charge_in}
use Rattle.concurrent_lru.specs.Request as ask
use Rattle.concurrent_lru.specs.Request.{Request}
use Rattle.concurrent_lru.specs.Reply as say
use Rattle.concurrent_lru.specs.Runs.{Outcome, accepted, refused}
use Rattle.concurrent_lru.specs.declared.counts.Counts.{Counts}
use Rattle.concurrent_lru.specs.declared.refusal.Refusal.{Refusal}
use Rattle.concurrent_lru.specs.declared.refusal.Refusal.TheVariants.{Memory, Overflow, Stale, Full}
use Rattle.concurrent_lru.specs.declared.step.Begun.{Begun}
use Rattle.concurrent_lru.specs.declared.step.Begun.TheVariants as begun

-- the state under the lock of a cache: the cache, the counts of its calls, and whether its limit is
-- strict
pub record LockedCache (K V : Type 0) : Type 0 where
  pub cache : Cache K V
  pub counts : Counts
  pub strict : Bool

module _ {V : Type 0} where
  -- the counts after a poll with this result
  abbrev pub counted_poll : Result (Begun (Arc V Global)) Refusal → Counts → Counts
  counted_poll (Ok (begun.Make s)) n = one_making n
  counted_poll (Ok (begun.Wait s)) n = n
  counted_poll (Ok (begun.Hit s a)) n = n
  counted_poll (Err Memory) n = one_refusal n
  counted_poll (Err Overflow) n = n
  counted_poll (Err Stale) n = n
  counted_poll (Err Full) n = n

  -- the counts after a repin with this result
  abbrev pub counted_repin : Result (Arc V Global) Refusal → Counts → Counts
  counted_repin (Ok a) n = n
  counted_repin (Err Memory) n = one_refusal n
  counted_repin (Err Overflow) n = one_refusal n
  counted_repin (Err Stale) n = n
  counted_repin (Err Full) n = n

module _ {K V : Type 0} where
  abbrev pub locked_cache_code : Coded K → Coded V → Coded (LockedCache K V)
  locked_cache_code k v =
      code_by (Cache K V × (Counts × Bool)) (coded× (cache_code k v) (coded× counts_code coded_bool))
      (λ c. (c.cache, (c.counts, c.strict))) (λ p. record { cache = p.0; counts = p.1.0; strict = p.1.1 }) (λ _. refl)

  -- the counts after these entries were evicted
  abbrev pub evicted : List (Idle K V) → Counts → Counts
  evicted out n = record n { evictions = n.evictions + length out; evicted_charge = n.evicted_charge + charges out }

  -- the counts after an insert that replaced the entries old, added one of this charge, and evicted
  -- the entries out to make room
  abbrev pub replaced : List (Idle K V) → List (Idle K V) → ℕ → Counts → Counts
  replaced old out charge n = evicted out (inserted charge (evicted old n))

  -- the charge of the held entry with this stamp, or 0 if there is none
  abbrev pub held_charge : Cache K V → ℕ → ℕ
  held_charge c s = option_map_or (λ e. e.charge) (held_at c s) 0

  -- The counts after a call on the cache c with this request and outcome. A begin that is to make
  -- the value under the next stamp inserted an entry; under another stamp it took over a making
  -- that failed.
  abbrev pub counted : Cache K V → Request K V → Outcome K V → Counts → Counts
  counted c (ask.begin k charge) (accepted (say.make s) out) n = cond (s == c.next) (evicted out (inserted charge (one_making (one_miss n)))) (one_making (one_miss n))
  counted c (ask.begin k charge) (accepted (say.wait s) out) n = one_wait n
  counted c (ask.begin k charge) (accepted (say.hit s v) out) n = one_hit n
  counted c (ask.begin k charge) (refused e) n = one_refusal n
  counted c (ask.begin_strictly k charge) (accepted (say.make s) out) n = cond (s == c.next) (evicted out (inserted charge (one_making (one_miss n)))) (one_making (one_miss n))
  counted c (ask.begin_strictly k charge) (accepted (say.wait s) out) n = one_wait n
  counted c (ask.begin_strictly k charge) (accepted (say.hit s v) out) n = one_hit n
  counted c (ask.begin_strictly k charge) (refused e) n = one_refusal n
  counted c (ask.poll s) (accepted (say.make t) out) n = one_making n
  counted c (ask.poll s) (refused Memory) n = one_refusal n
  counted c (ask.ready_with s v charge) (accepted p out) n = evicted out (recharged (held_charge c s) charge n)
  counted c (ask.ready_with s v charge) (refused Overflow) n = one_refusal n
  counted c (ask.ready_with_strictly s v charge) (accepted p out) n = evicted out (recharged (held_charge c s) charge n)
  counted c (ask.ready_with_strictly s v charge) (refused Overflow) n = one_refusal n
  counted c (ask.ready_with_strictly s v charge) (refused Full) n = one_refusal n
  counted c (ask.get k) (accepted (say.hit s v) out) n = one_hit n
  counted c (ask.get k) (accepted say.missed out) n = one_miss n
  counted c (ask.get k) (refused e) n = one_refusal n
  counted c (ask.fail s) (accepted say.left out) n = one_failure n
  counted c (ask.fail s) (accepted (say.removed k) out) n = removed (held_charge c s) (one_failure n)
  counted c (ask.release s) (accepted p out) n = evicted out n
  counted c (ask.release_and_evict s) (accepted p out) n = evicted out n
  counted c (ask.repin s) (refused Memory) n = one_refusal n
  counted c (ask.repin s) (refused Overflow) n = one_refusal n
  counted c (ask.advice_evict k) (accepted p out) n = evicted out n
  counted c (ask.invalidate k) (accepted p out) n = evicted out n
  counted c (ask.insert k charge v) (accepted p out) n = evicted out (inserted charge n)
  counted c (ask.insert k charge v) (refused e) n = one_refusal n
  counted c (ask.insert_strictly k charge v) (accepted p out) n = evicted out (inserted charge n)
  counted c (ask.insert_strictly k charge v) (refused e) n = one_refusal n
  counted c (ask.read k) (accepted (say.read s v) out) n = one_hit n
  counted c (ask.read k) (accepted say.missed out) n = one_miss n
  counted c (ask.read k) (refused e) n = one_refusal n
  counted c ask.prune (accepted p out) n = evicted out n
  counted c (ask.set_capacity m) (accepted p out) n = evicted out n
  counted c _ _ n = n

  -- What holds of the counts whenever the lock is acquired. The entries present are those before
  -- and those inserted, less those evicted and those removed; the same holds of the charges. None
  -- of these numbers overflows.
  pub record AddUp (c : Cache K V) (n : Counts) : Type 0 where
    pub entries : count_of c + n.evictions + n.removals ≡ entries_in n
    pub charge : sum_of c + n.evicted_charge + n.removed_charge ≡ charge_in n
    -- each entry took a stamp, and its charge fits a u64
    pub stamps : c.next < 2 ^ 64
    pub entries_fit : entries_in n ≤ c.next
    pub charge_fits : charge_in n ≤ c.next * end_of_u64
    -- each entry left with a charge that fits a u64
    pub gone_fits : n.evicted_charge + n.removed_charge ≤ (n.evictions + n.removals) * end_of_u64

  -- a lawful cache, and counts that add up to it
  pub record IsSoundlyCounted (E : K → K → Bool) (c : Cache K V) (n : Counts) : Type 0 where
    pub lawful : IsLawful E c
    pub adds_up : AddUp c n

  -- what holds of a cache and of its counts whenever the lock is acquired
  pub record IsSoundUnderLock (E : K → K → Bool) (fits : K → V → Type 0) (c : Cache K V) (n : Counts) : Type 0 where
    pub counted : IsSoundlyCounted E c n
    pub kept : ValuesFit fits c

-- the counts after a lookup with this result
abbrev pub counted_look : {T : Type 0} → Result (Option T) Refusal → Counts → Counts
counted_look (Ok (Some t)) n = one_hit n
counted_look (Ok None) n = one_miss n
counted_look (Err e) n = one_refusal n
