-- The invariant of a `Table`: its nodes represent entries, and the hashes of their keys and the map
-- from stamps to places, if there is one, agree with them.
use Rattle.std.specs.Prelude.{◌≡◌, ℕ, Bool, true, false, Some, map}
use Rattle.std.specs.Ordering.{nat_cmp}
use Rattle.std.specs.FinMap as finmap
use Rattle.concurrent_lru.specs.Cache.{charges, CopiesAreEqual}
use Rattle.concurrent_lru.specs.NodeTable.{Entry, NodeTable}
use Rattle.concurrent_lru.specs.Representation.{IsRepresentation, idle_in, held_in}
use Rattle.concurrent_lru.specs.Entries.{Entries, charges_of}
use Rattle.concurrent_lru.specs.StampIndex.{keeps_map, mapped_place}
use Rattle.concurrent_lru.specs.declared.table.stamp_index.StampIndex.{StampIndex}

module _ {K V : Type 0} where
  -- only nodes with pins are detached; a map of stamps, if there is one, finds each node by its
  -- stamp, and finds nothing else
  pub record IsIndexed (nodes : finmap.FinMap nat_cmp (Entry K V)) (by_stamp : StampIndex) : Type 0 where
    pub idle_kept : (p : ℕ) (e : Entry K V) → finmap.get nodes p ≡ Some e → e.pins ≡ 0 → e.detached ≡ false
    pub stamp_found : keeps_map by_stamp ≡ true → (p : ℕ) (e : Entry K V) → finmap.get nodes p ≡ Some e → mapped_place by_stamp e.stamp ≡ Some p
    pub stamp_kept : keeps_map by_stamp ≡ true → (s p : ℕ) → mapped_place by_stamp s ≡ Some p → (e : Entry K V) × (finmap.get nodes p ≡ Some e) × (e.stamp ≡ s)

  -- each node stores the hash of its key
  abbrev pub AreHashed : (K → ℕ) → finmap.FinMap nat_cmp (Entry K V) → finmap.FinMap nat_cmp ℕ → Type 0
  AreHashed hash nodes hashes = (p : ℕ) (e : Entry K V) → finmap.get nodes p ≡ Some e → finmap.get hashes p ≡ Some (hash e.key)

  -- the stamp of the node at each place
  abbrev pub stamps_of : finmap.FinMap nat_cmp (Entry K V) → finmap.FinMap nat_cmp ℕ
  stamps_of nodes = finmap.from_entries (map (λ e. (e.0, e.1.stamp)) (finmap.entries nodes))

  abbrev pub entries_of : NodeTable K V → Entries K V
  entries_of nodes = record { idle = idle_in nodes; held = held_in nodes (finmap.keys nodes.nodes); stamps = stamps_of nodes.nodes; links = nodes.links; work = nodes.work }

  -- the nodes represent entries, their hashes and the map of stamps agree with them, and copies of
  -- keys equal the keys
  pub record IsStored (is_clone : K → K → Type 0) (E : K → K → Bool) (hash : K → ℕ) (nodes : NodeTable K V) (by_stamp : StampIndex) : Type 0 where
    pub represents : IsRepresentation nodes (finmap.keys nodes.nodes)
    pub indexed : IsIndexed nodes.nodes by_stamp
    pub hashed : AreHashed hash nodes.nodes nodes.hashes
    pub copies : CopiesAreEqual is_clone E

  -- the same, and the total is the sum of the charges of all entries, and idle_charge that of the
  -- idle ones
  pub record IsSoundTable (is_clone : K → K → Type 0) (E : K → K → Bool) (hash : K → ℕ) (nodes : NodeTable K V) (by_stamp : StampIndex) (total idle_charge : ℕ) : Type 0 where
    pub stored : IsStored is_clone E hash nodes by_stamp
    pub sums : total ≡ charges_of (entries_of nodes)
    pub rests : idle_charge ≡ charges (idle_in nodes)
