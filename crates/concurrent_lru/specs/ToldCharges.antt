-- A charge that is told with the value, and one that was known before. E is the equality of keys.
use Rattle.std.specs.Prelude.{◌≡◌, ℕ, ◌+◌, ◌<◌, ◌≤◌, ◌^◌, Bool, List, [], ◌++◌}
use Rattle.concurrent_lru.specs.Cache.{Cache, Idle, IsLawful, sum_of}
use Rattle.concurrent_lru.specs.Request as ask
use Rattle.concurrent_lru.specs.Reply as say
use Rattle.concurrent_lru.specs.Steps.{Step}

-- A new entry that is begun with some charge and then becomes ready with a greater or equal one
-- leaves the cache as if it had been begun with that charge: the same entries are evicted, in the
-- same order. The charge must fit beside the sum of before, as a begin with it would ask.
abbrev pub ToldIsAsKnown : (K V : Type 0) → (K → K → Bool) → Type 0
ToldIsAsKnown K V E =
    (old mid new : Cache K V) (k : K) (least charge s : ℕ) (v : V) (out away : List (Idle K V)) → IsLawful E old
    → s ≡ old.next → least ≤ charge → sum_of old + charge < 2 ^ 64
    → Step E old (ask.begin k least) (say.make s) out mid → Step E mid (ask.ready_with s v charge) say.done away new
    → (made : Cache K V) × Step E old (ask.begin k charge) (say.make s) (out ++ away) made × Step E made (ask.ready s v) say.done [] new
