-- What a table stores, and its entries: after a growth, with an entry more, with an entry less.
use Rattle.std.proofs.Common.{◌≡◌, ℕ, ◌++◌, ◌∷◌, [], Bool, true, false, cond, not, Some, None, Result, Ok, Err, refl, sym, ap, ◌∙◌, eqb, ◌==◌}
use Rattle.std.specs.Prelude.{IsSome, IsOk, OnOk, OnErr}
use Rattle.std.specs.List.{filter, filter_map}
use Rattle.std.specs.FinMap.{get, insert, remove, keys, from_entries}
use Rattle.std.proofs.lemmas.Bool.{true≢false}
use Rattle.concurrent_lru.specs.Steps.{without}
use Rattle.concurrent_lru.specs.NodeTable.{Entry, NodeTable, IsNewStamp, new_entry}
use Rattle.concurrent_lru.specs.StampIndex.{keeps_map, mapped_place}
use Rattle.concurrent_lru.specs.declared.table.stamp_index.StampIndex.{StampIndex}
use Rattle.concurrent_lru.specs.Representation.{IsRepresentation, CutsPlace, idle_in, held_in, idle_at_place, held_at_place, as_idle, held_entry}
use Rattle.concurrent_lru.specs.Indexes.{IsStored, entries_of, stamps_of}
use Rattle.concurrent_lru.proofs.Entries.NodesOfSetAndAdd.{around, represents_same, Adds, added_represents, added_idle, added_held}
use Rattle.concurrent_lru.proofs.Entries.NodeTaken.{Withdraws, withdrawn_represents, withdrawn_held, withdrawn_other_idle, withdrawn_ready, withdrawn_other_held, withdrawn_idle}
use Rattle.concurrent_lru.proofs.Lists.Members.{IsIn}
use Rattle.concurrent_lru.proofs.Entries.PlacesOfNodes.{represents_keys, held_alike}
use Rattle.concurrent_lru.proofs.Entries.IndexedByStamp.{indexed_same, indexed_added, indexed_removed}
use Rattle.concurrent_lru.proofs.Entries.HashesOfNodes.{hashed_same, hashed_added, hashed_removed}

-- what an Ok promises, of one
pub at_ok : {A B P : Type 0} (r : Result A B) → IsOk r → OnOk r P → P
at_ok (Ok x) h p = p
at_ok (Err e) h p = absurd (true≢false (sym h))

pub on_err : {A B P : Type 0} (r : Result A B) → P → OnErr r P
on_err (Ok x) p = tt
on_err (Err e) p = p

module _ {K V : Type 0} {C : K → K → Type 0} {E : K → K → Bool} {H : K → ℕ} {t t' : NodeTable K V} {by_stamp by_stamp' : StampIndex} (r : IsStored C E H t by_stamp) where
  -- the same nodes and order, and a map of stamps that answers alike
  pub stored_same : t'.nodes ≡ t.nodes → t'.hashes ≡ t.hashes → t'.idle ≡ t.idle → keeps_map by_stamp' ≡ keeps_map by_stamp → ((s : ℕ) → mapped_place by_stamp' s ≡ mapped_place by_stamp s) → IsStored C E H t' by_stamp'
  stored_same n hashes i kept b = record {
    represents = represents_same t t' (keys t.nodes) (keys t'.nodes) n i (ap keys n) r.represents;
    indexed = indexed_same n kept b r.indexed;
    hashed = hashed_same H t.nodes t'.nodes t.hashes t'.hashes n hashes r.hashed;
    copies = r.copies;
  }

module _ {K V : Type 0} where
  pub entries_same : (t t' : NodeTable K V) → t'.nodes ≡ t.nodes → t'.links ≡ t.links → t'.idle ≡ t.idle → t'.work ≡ t.work → entries_of t' ≡ entries_of t
  entries_same t t' n l i w = λ j. record { idle = filter_map (idle_at_place (n j)) (i j); held = from_entries (filter_map (held_at_place (n j)) (keys (n j))); stamps = stamps_of (n j); links = l j; work = w j }

module _ {K V : Type 0} (H : K → ℕ) where
  -- an entry more, at a place that was free
  pub record IsAdded (t t' : NodeTable K V) (by_stamp by_stamp' : StampIndex) (p : ℕ) (e : Entry K V) : Type 0 where
    pub free : get t.nodes p ≡ None
    pub nodes : t'.nodes ≡ insert t.nodes p e
    pub hashes : t'.hashes ≡ insert t.hashes p (H e.key)
    pub idle : t'.idle ≡ t.idle
    pub pins : e.pins ≡ 1
    pub found : e.detached ≡ false
    pub fresh : IsNewStamp t e.stamp
    pub keeps : keeps_map by_stamp' ≡ keeps_map by_stamp
    pub stamps_now : keeps_map by_stamp ≡ true → (s : ℕ) → mapped_place by_stamp' s ≡ cond (eqb e.stamp s) (Some p) (mapped_place by_stamp s)

module _ {K V : Type 0} where
  -- an entry less
  pub record IsTaken (t t' : NodeTable K V) (by_stamp by_stamp' : StampIndex) (p : ℕ) (e : Entry K V) : Type 0 where
    pub at : get t.nodes p ≡ Some e
    pub nodes : t'.nodes ≡ remove t.nodes p
    pub hashes : t'.hashes ≡ remove t.hashes p
    pub idle : t'.idle ≡ filter (λ q. not (eqb q p)) t.idle
    pub keeps : keeps_map by_stamp' ≡ keeps_map by_stamp
    pub stamps_now : keeps_map by_stamp ≡ true → (s : ℕ) → mapped_place by_stamp' s ≡ cond (eqb e.stamp s) None (mapped_place by_stamp s)

module _ {K V : Type 0} {C : K → K → Type 0} {E : K → K → Bool} {H : K → ℕ} (alike : (k l : K) → E k l ≡ true → H k ≡ H l) {t t' : NodeTable K V} {by_stamp by_stamp' : StampIndex} {p s h m : ℕ} {own k : K} (r : IsStored C E H t by_stamp) (is_own : C k own) where
  -- the node of a new entry, whose key is a copy of k
  pub put_added : {W T : Type 0} {e : Entry K V} → e ≡ new_entry s own m → h ≡ H k → IsNewStamp t s
      → record { free : get t.nodes p ≡ None; nodes : t'.nodes ≡ insert t.nodes p e; hashes : t'.hashes ≡ insert t.hashes p h; idle : t'.idle ≡ t.idle; work : W; keeps : keeps_map by_stamp' ≡ keeps_map by_stamp; by_stamp : keeps_map by_stamp ≡ true → (q : ℕ) → mapped_place by_stamp' q ≡ cond (eqb e.stamp q) (Some p) (mapped_place by_stamp q); total : T }
      → IsAdded H t t' by_stamp by_stamp' p (new_entry s own m)
  put_added is hash fresh put = record {
    free = put.free;
    nodes = put.nodes ∙ ap (insert t.nodes p) is;
    hashes = put.hashes ∙ ap (insert t.hashes p) (hash ∙ sym (alike own k (r.copies k own is_own)));
    idle = put.idle;
    pins = refl;
    found = refl;
    fresh = fresh;
    keeps = put.keeps;
    stamps_now = λ kept q. put.by_stamp kept q ∙ ap (λ n. cond (eqb n q) (Some p) (mapped_place by_stamp q)) (ap (λ x. x.stamp) is);
  }

module _ {K V : Type 0} {C : K → K → Type 0} {E : K → K → Bool} {H : K → ℕ} where
  module _ {t t' : NodeTable K V} {by_stamp by_stamp' : StampIndex} {p : ℕ} {e : Entry K V} (r : IsStored C E H t by_stamp) (a : IsAdded H t t' by_stamp by_stamp' p e) where
    adds : Adds t t' (keys t.nodes) (keys t.nodes ++ p ∷ []) p e
    adds = record {
      free = a.free;
      nodes = a.nodes;
      idle = a.idle;
      more = refl;
      pins = a.pins;
      fresh = a.fresh;
    }

    pub stored_with : IsStored C E H t' by_stamp'
    stored_with = record {
      represents = represents_keys t' (keys t.nodes ++ p ∷ []) (added_represents r.represents adds);
      indexed = indexed_added r.indexed p e a.nodes a.free a.found a.fresh a.keeps a.stamps_now;
      hashed = hashed_added H t.nodes t'.nodes t.hashes t'.hashes p e a.nodes a.hashes r.hashed;
      copies = r.copies;
    }

    pub idle_with : idle_in t' ≡ idle_in t
    idle_with = added_idle r.represents adds

    pub held_with : held_in t' (keys t'.nodes) ≡ insert (held_in t (keys t.nodes)) e.stamp (held_entry e)
    held_with =
        let there = added_represents r.represents adds in
        held_alike t' (keys t'.nodes) (keys t.nodes ++ p ∷ []) (represents_keys t' (keys t.nodes ++ p ∷ []) there) there
        ∙ added_held r.represents adds

  module _ {t t' : NodeTable K V} {by_stamp by_stamp' : StampIndex} {p : ℕ} {e : Entry K V} (r : IsStored C E H t by_stamp) (a : IsTaken t t' by_stamp by_stamp' p e) where
    listed : IsIn p (keys t.nodes)
    listed = r.represents.all_places p e a.at

    cuts : CutsPlace (keys t.nodes) ((around (keys t.nodes) p listed).front ++ (around (keys t.nodes) p listed).back) p
    cuts = let w = around (keys t.nodes) p listed in record { front = w.front; back = w.back; old = w.whole; new = refl }

    withdraws : Withdraws t t' (keys t.nodes) ((around (keys t.nodes) p listed).front ++ (around (keys t.nodes) p listed).back) p e
    withdraws = record { at = a.at; nodes = a.nodes; idle = a.idle; cuts = cuts }

    there : IsRepresentation t' ((around (keys t.nodes) p listed).front ++ (around (keys t.nodes) p listed).back)
    there = withdrawn_represents r.represents withdraws

    pub stored_without : IsStored C E H t' by_stamp'
    stored_without = record {
      represents = represents_keys t' _ there;
      indexed = indexed_removed r.indexed r.represents.stamps p e a.nodes a.at a.keeps a.stamps_now;
      hashed = hashed_removed H t.nodes t'.nodes t.hashes t'.hashes p a.nodes a.hashes r.hashed;
      copies = r.copies;
    }

    alike : held_in t' (keys t'.nodes) ≡ held_in t' ((around (keys t.nodes) p listed).front ++ (around (keys t.nodes) p listed).back)
    alike = held_alike t' _ _ (represents_keys t' _ there) there

    -- of a held one
    pub held_without : (e.pins == 0) ≡ false → held_in t' (keys t'.nodes) ≡ remove (held_in t (keys t.nodes)) e.stamp
    held_without h = alike ∙ withdrawn_held r.represents withdraws h

    pub idle_same : (e.pins == 0) ≡ false → idle_in t' ≡ idle_in t
    idle_same h = withdrawn_other_idle r.represents withdraws h

    -- of an idle one
    pub ready_without : IsIn p t.idle → IsSome (as_idle e)
    ready_without m = withdrawn_ready r.represents withdraws m

    pub held_same : IsIn p t.idle → held_in t' (keys t'.nodes) ≡ held_in t (keys t.nodes)
    held_same m = alike ∙ withdrawn_other_held r.represents withdraws m

    pub idle_without : IsIn p t.idle → idle_in t' ≡ without e.stamp (idle_in t)
    idle_without m = withdrawn_idle r.represents withdraws m
