-- The entries of a cache that have a value, as a walk over them shows them.
use Rattle.std.specs.Prelude.{◌≡◌, ℕ, zero, suc, ◌+◌, ◌==◌, nat_eq, Bool, false, List, [], map, slice_index_or, Option}
use Rattle.std.specs.List.{IsDistinct, find, cons_option}
use Rattle.std.specs.Option.{option_map, option_map_or, option_and_then}
use Rattle.std.specs.FinMap as finmap
use Rattle.concurrent_lru.specs.Cache.{Cache, Idle, Held, idle_at, held_at}
use Rattle.concurrent_lru.specs.NodeTable.{Entry, value_in}
use Rattle.concurrent_lru.specs.Entries.{Entries, cache_of}
use Rattle.concurrent_lru.specs.Sharded.{Sharded}
use Rattle.concurrent_lru.specs.declared.lru_core.entries.EntryRef.{EntryRef}

-- an entry that has a value; an idle one has no pins and is not detached
pub record ReadyEntry (K V : Type 0) : Type 0 where
  pub stamp : ℕ
  pub key : K
  pub charge : ℕ
  pub pins : ℕ
  pub detached : Bool
  pub value : V

module _ {K V : Type 0} where
  -- an idle entry
  abbrev pub ready_from_idle : Idle K V → ReadyEntry K V
  ready_from_idle x = record { stamp = x.stamp; key = x.key; charge = x.charge; pins = 0; detached = false; value = x.value }

  -- a held entry with the stamp s, if it has a value
  abbrev pub ready_from_held : ℕ → Held K V → Option (ReadyEntry K V)
  ready_from_held s e = option_map (λ v. record { stamp = s; key = e.key; charge = e.charge; pins = e.pins; detached = e.detached; value = v }) (value_in e.phase)

  -- the entry with the stamp s, if there is one and it has a value
  abbrev pub ready_at : Cache K V → ℕ → Option (ReadyEntry K V)
  ready_at c s = option_map_or (ready_from_held s) (held_at c s) (option_map ready_from_idle (idle_at c s))

  -- the entry of a list with the stamp s, if there is one
  abbrev pub listed_at : List (ReadyEntry K V) → ℕ → Option (ReadyEntry K V)
  listed_at listed s = find (λ x. x.stamp == s) listed

  -- Each entry that has a value is in the list once, held or idle, detached or not, and no other
  -- is. Their order is not specified.
  pub record ListsReady (c : Cache K V) (listed : List (ReadyEntry K V)) : Type 0 where
    pub each : (s : ℕ) → listed_at listed s ≡ ready_at c s
    pub once : IsDistinct nat_eq (map (λ x. x.stamp) listed)

  -- the same at the shard i
  abbrev pub ListsReadyAt : {S : Type 0} → Sharded K V S → ℕ → List (ReadyEntry K V) → Type 0
  ListsReadyAt c i listed = (d : Cache K V) → ListsReady (slice_index_or c.caches i d) listed

  -- what an `EntryRef` refers to
  abbrev pub entry_of_ref : EntryRef K V → ReadyEntry K V
  entry_of_ref r = record { stamp = r.stamp; key = r.key.now; charge = r.charge; pins = r.pins; detached = r.is_detached; value = r.value.now }

  -- the entry of a node, if it has a value
  abbrev pub ready_from_node : Entry K V → Option (ReadyEntry K V)
  ready_from_node e = option_map (λ v. record { stamp = e.stamp; key = e.key; charge = e.charge; pins = e.pins; detached = e.detached; value = v }) (value_in e.phase)

  -- the entry at the place p, if there is one and it has a value
  abbrev pub ready_in : Entries K V → ℕ → Option (ReadyEntry K V)
  ready_in t p = option_and_then (ready_at (cache_of t)) (finmap.get t.stamps p)

  -- the entries that have a value at n places, the first of which is p
  abbrev pub ready_between : Entries K V → ℕ → ℕ → List (ReadyEntry K V)
  ready_between t p zero = []
  ready_between t p (suc n) = cons_option (ready_in t p) (ready_between t (p + 1) n)
