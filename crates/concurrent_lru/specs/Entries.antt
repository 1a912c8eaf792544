-- The view of a `Table`: its idle and held entries, and the stamp of the entry at each place, with
-- the address of its node. What each of its calls changes.
use Rattle.std.specs.Prelude.{◌≡◌, ◌≢◌, ℕ, ◌+◌, ◌<◌, ◌^◌, ◌++◌, ◌∷◌, [], Bool, true, false, List, IsSome, Some, refl}
use Rattle.std.specs.Option.{option_map_or}
use Rattle.std.specs.Ordering.{nat_cmp}
use Rattle.std.specs.Coded.{Coded, code_by, coded×, coded_ℕ, coded_list}
use Rattle.std.specs.FinMap as finmap
use denote.RawPtr.{Ptr, coded_ptr}
use Rattle.concurrent_lru.specs.Cache.{Cache, Idle, Held, IsEntry, IsFound, idle_at, held_at, idle_code, held_code, charges, making, ready}
use Rattle.concurrent_lru.specs.Steps.{without, held_by_one, held_detached, idle_again}
use Rattle.concurrent_lru.specs.NodeTable.{Entry, entry_of, chain_of}
use Rattle.concurrent_lru.specs.Representation.{as_idle, held_entry, held_charges}
use Rattle.concurrent_lru.specs.declared.node_table.Node.{Node}
use Rattle.concurrent_lru.specs.declared.node_table.memory.At.{At}

-- the idle entries are oldest first; an entry keeps its place until it is taken out; work is the
-- number of writes to the idle order
pub record Entries (K V : Type 0) : Type 0 where
  pub idle : List (Idle K V)
  pub held : finmap.FinMap nat_cmp (Held K V)
  pub stamps : finmap.FinMap nat_cmp ℕ
  pub links : finmap.FinMap nat_cmp Ptr
  pub work : ℕ

module _ {K V : Type 0} where
  abbrev pub entries_code : Coded K → Coded V → Coded (Entries K V)
  entries_code k v =
      code_by (List (Idle K V) × (finmap.FinMap nat_cmp (Held K V) × (finmap.FinMap nat_cmp ℕ × (finmap.FinMap nat_cmp Ptr × ℕ)))) (coded× (coded_list (idle_code k v)) (coded× (finmap.code coded_ℕ (held_code k v)) (coded× (finmap.code coded_ℕ coded_ℕ) (coded× (finmap.code coded_ℕ coded_ptr) coded_ℕ))))
      (λ t. (t.idle, (t.held, (t.stamps, (t.links, t.work))))) (λ p. record { idle = p.0; held = p.1.0; stamps = p.1.1.0; links = p.1.1.1.0; work = p.1.1.1.1 }) (λ _. refl)

  -- the cache of these entries with these numbers; with zeros, where the numbers do not matter
  abbrev pub cache_with : ℕ → ℕ → ℕ → Entries K V → Cache K V
  cache_with capacity most_pins next t = record { capacity = capacity; most_pins = most_pins; next = next; idle = t.idle; held = t.held }

  abbrev pub cache_of : Entries K V → Cache K V
  cache_of t = cache_with 0 0 0 t

  -- the sum of the charges of all entries
  abbrev pub charges_of : Entries K V → ℕ
  charges_of t = charges t.idle + held_charges t.held

  -- an entry with the stamp s has the key k and the charge m
  abbrev pub ContainsEntry : Entries K V → ℕ → K → ℕ → Type 0
  ContainsEntry t s k m = IsEntry (cache_of t) s k m

  -- the same for an entry that is found by its key
  abbrev pub FindsEntry : Entries K V → ℕ → K → ℕ → Type 0
  FindsEntry t s k m = IsFound (cache_of t) s k m

  -- no entry has the stamp s; no entry is found by a key equal to k
  abbrev pub ContainsNoStamp : Entries K V → ℕ → Type 0
  ContainsNoStamp t s = (k : K) (m : ℕ) → ¬ (ContainsEntry t s k m)

  abbrev pub ContainsNoKey : (K → K → Bool) → Entries K V → K → Type 0
  ContainsNoKey E t k = (s : ℕ) (l : K) (m : ℕ) → FindsEntry t s l m → E l k ≡ false

  -- there is an entry at the place p, and a key equal to k finds it
  pub record IsPlaceOfKey (E : K → K → Bool) (t : Entries K V) (p : ℕ) (k : K) : Type 0 where
    pub stamp : ℕ
    pub key : K
    pub charge : ℕ
    pub at : finmap.get t.stamps p ≡ Some stamp
    pub entry : FindsEntry t stamp key charge
    pub same_key : E key k ≡ true

  -- there is an entry at the place; an idle entry; a held entry
  abbrev pub ContainsPlace : Entries K V → ℕ → Type 0
  ContainsPlace t p = (s : ℕ) × (finmap.get t.stamps p ≡ Some s)

  abbrev pub ContainsIdleAt : Entries K V → ℕ → Type 0
  ContainsIdleAt t p = (s : ℕ) × (finmap.get t.stamps p ≡ Some s) × IsSome (idle_at (cache_of t) s)

  abbrev pub ContainsHeldAt : Entries K V → ℕ → Type 0
  ContainsHeldAt t p = (s : ℕ) × (finmap.get t.stamps p ≡ Some s) × IsSome (held_at (cache_of t) s)

  -- there is a held entry at the place, and it is not detached
  abbrev pub ContainsFoundAt : Entries K V → ℕ → Type 0
  ContainsFoundAt t p = (s : ℕ) × (finmap.get t.stamps p ≡ Some s) × (e : Held K V) × (held_at (cache_of t) s ≡ Some e) × (e.detached ≡ false)

  -- the entry e is at the place: it is idle if it has no pins, and held otherwise
  pub record GetsAt (t : Entries K V) (p : ℕ) (e : Entry K V) : Type 0 where
    pub at : finmap.get t.stamps p ≡ Some e.stamp
    pub idle : e.pins ≡ 0 → IsSome (as_idle e) × (idle_at (cache_of t) e.stamp ≡ as_idle e)
    pub held : e.pins ≢ 0 → held_at (cache_of t) e.stamp ≡ Some (held_entry e)

  -- the number of pins of the entry at the place, or 0 if it is not held
  abbrev pub pins_at : Entries K V → ℕ → ℕ
  pins_at t p = option_map_or (λ s. option_map_or (λ e. e.pins) (finmap.get t.held s) 0) (finmap.get t.stamps p) 0

  -- the node n is that of the entry at the place, and no chain is behind it
  pub record GetsNodeAt (t : Entries K V) (p : ℕ) (n : Node K V) : Type 0 where
    pub entry : GetsAt t p (entry_of n)
    pub pins : pins_at t p ≡ (entry_of n).pins
    pub alone : chain_of n ≡ []

  -- the node of the entry at the place has this address
  abbrev pub LeadsAt : Entries K V → At (Node K V) → ℕ → Type 0
  LeadsAt t at p = finmap.get t.links p ≡ Some at.ptr

  -- a new held entry: it has one pin, and its value is being made
  abbrev pub new_held : K → ℕ → Held K V
  new_held k m = record { key = k; charge = m; pins = 1; detached = false; phase = making }

  -- the entry at the place is held, and is changed by f
  pub record Rewrites (f : Held K V → Held K V) (old : Entries K V) (p : ℕ) (new : Entries K V) : Type 0 where
    pub stamp : ℕ
    pub entry : Held K V
    pub at : finmap.get old.stamps p ≡ Some stamp
    pub held : held_at (cache_of old) stamp ≡ Some entry
    pub changed : new ≡ record old { held = finmap.insert old.held stamp (f entry) }

  -- if the held entry at the place had this charge, the sum would fit a u64
  abbrev pub FitsAt : Entries K V → ℕ → ℕ → Type 0
  FitsAt t p charge = (s : ℕ) (e : Held K V) → finmap.get t.stamps p ≡ Some s → held_at (cache_of t) s ≡ Some e → charges_of t + charge < 2 ^ 64 + e.charge

  abbrev pub held_with_pins : ℕ → Held K V → Held K V
  held_with_pins n e = record e { pins = n }

  -- the idle entry at the place becomes a held one with one pin
  pub record RevivesAt (old : Entries K V) (p : ℕ) (new : Entries K V) : Type 0 where
    pub stamp : ℕ
    pub entry : Idle K V
    pub at : finmap.get old.stamps p ≡ Some stamp
    pub idle : idle_at (cache_of old) stamp ≡ Some entry
    pub changed : new ≡ record old { idle = without stamp old.idle; held = finmap.insert old.held stamp (held_by_one entry); work = old.work + 1 }

  -- the entry at the place is held, ready and not detached
  pub record IsReadyAt (t : Entries K V) (p : ℕ) : Type 0 where
    pub stamp : ℕ
    pub entry : Held K V
    pub value : V
    pub at : finmap.get t.stamps p ≡ Some stamp
    pub held : held_at (cache_of t) stamp ≡ Some entry
    pub phase : entry.phase ≡ ready value
    pub found : entry.detached ≡ false

  -- such an entry becomes the newest idle one
  pub record RestsAt (old : Entries K V) (p : ℕ) (new : Entries K V) : Type 0 where
    pub was : IsReadyAt old p
    pub changed : new ≡ record old { idle = old.idle ++ idle_again was.stamp was.entry was.value ∷ []; held = finmap.remove old.held was.stamp; work = old.work + 1 }

  -- the idle entry at the place leaves
  pub record EvictsAt (old : Entries K V) (p : ℕ) (out : List (Idle K V)) (new : Entries K V) : Type 0 where
    pub stamp : ℕ
    pub entry : Idle K V
    pub at : finmap.get old.stamps p ≡ Some stamp
    pub idle : idle_at (cache_of old) stamp ≡ Some entry
    pub left : new.idle ≡ without stamp old.idle
    pub held : new.held ≡ old.held
    pub one : out ≡ entry ∷ []

  -- a new entry is added, under a copy of the key k
  pub record AddsNew (E : K → K → Bool) (old : Entries K V) (s : ℕ) (k : K) (m : ℕ) (new : Entries K V) : Type 0 where
    pub copy : K
    pub same_key : E copy k ≡ true
    pub idle : new.idle ≡ old.idle
    pub held : new.held ≡ finmap.insert old.held s (new_held copy m)
    pub work : new.work ≡ old.work

  -- the held entry at the place is detached, and a new entry is added
  pub record AddsOverHeld (E : K → K → Bool) (old : Entries K V) (p s : ℕ) (k : K) (m : ℕ) (new : Entries K V) : Type 0 where
    pub mid : Entries K V
    pub detached : Rewrites held_detached old p mid
    pub added : AddsNew E mid s k m new

  -- the idle entry e at the place is removed, and a new entry is added
  pub record AddsOverIdle (E : K → K → Bool) (old : Entries K V) (p : ℕ) (e : Entry K V) (s : ℕ) (k : K) (m : ℕ) (new : Entries K V) : Type 0 where
    pub mid : Entries K V
    pub at : finmap.get old.stamps p ≡ Some e.stamp
    pub entry : idle_at (cache_of old) e.stamp ≡ as_idle e
    pub idle : mid.idle ≡ without e.stamp old.idle
    pub held : mid.held ≡ old.held
    pub work : mid.work ≡ old.work + 1
    pub added : AddsNew E mid s k m new
