-- What `take_all` takes out of a cache, and what it leaves.
use Rattle.std.specs.Prelude.{◌≡◌, ℕ, List, ◌++◌, ◌==◌, nat_eq, map, Option, Some}
use Rattle.std.specs.List.{IsDistinct, find}
use Rattle.std.specs.Option.{option_map, option_and_then}
use Rattle.std.specs.Ordering.{nat_cmp}
use Rattle.std.specs.FinMap as finmap
use Rattle.concurrent_lru.specs.Cache.{Cache, Idle, Held, empty_cache}
use Rattle.concurrent_lru.specs.Steps.{idle_again}
use Rattle.concurrent_lru.specs.NodeTable.{Entry, value_in}
use Rattle.concurrent_lru.specs.Representation.{held_entry}
use Rattle.concurrent_lru.specs.Entries.{Entries}

module _ {K V : Type 0} where
  -- a held entry as it is taken out, if it has a value
  abbrev pub leaves_as : ℕ → Held K V → Option (Idle K V)
  leaves_as s e = option_map (idle_again s e) (value_in e.phase)

  -- the held entry with the stamp s as it is taken out, if there is one and it has a value
  abbrev pub leaves_at : finmap.FinMap nat_cmp (Held K V) → ℕ → Option (Idle K V)
  leaves_at held s = option_and_then (leaves_as s) (finmap.get held s)

  -- the entry that was taken out under the stamp s, if there is one
  abbrev pub taken_at : List (Idle K V) → ℕ → Option (Idle K V)
  taken_at taken s = find (λ x. x.stamp == s) taken

  -- Each held entry that has a value was taken out, once, whether it is detached or not, and no
  -- other. Their order is not specified.
  pub record TakesHeld (held : finmap.FinMap nat_cmp (Held K V)) (taken : List (Idle K V)) : Type 0 where
    pub each : (s : ℕ) → taken_at taken s ≡ leaves_at held s
    pub once : IsDistinct nat_eq (map (λ x. x.stamp) taken)

  -- The idle entries were taken out, oldest first, and then the held ones that have a value.
  pub record TakesAll (cache : Cache K V) (taken : List (Idle K V)) : Type 0 where
    pub others : List (Idle K V)
    pub parts : taken ≡ cache.idle ++ others
    pub held : TakesHeld cache.held others

  -- the cache without its entries, at the same capacity, most pins and next stamp
  abbrev pub emptied : Cache K V → Cache K V
  emptied c = empty_cache c.capacity c.most_pins c.next

  -- the held entry e was taken out of the place p, and nothing else changed
  pub record TakesHeldAt (old : Entries K V) (p : ℕ) (e : Entry K V) (new : Entries K V) : Type 0 where
    pub at : finmap.get old.stamps p ≡ Some e.stamp
    pub entry : finmap.get old.held e.stamp ≡ Some (held_entry e)
    pub idle : new.idle ≡ old.idle
    pub held : new.held ≡ finmap.remove old.held e.stamp
    pub stamps : new.stamps ≡ finmap.remove old.stamps p
    pub work : new.work ≡ old.work
