-- What a look by a key, by the map of stamps, or at every node finds, in words of the entries.
use Rattle.std.proofs.Common.{◌≡◌, ℕ, Bool, true, false, Option, Some, None, refl, sym, ap, ◌∙◌, subst}
use Rattle.std.specs.Prelude.{IfSome, MatchOption}
use Rattle.std.specs.Option.{option_map}
use Rattle.std.specs.FinMap.{get, keys}
use Rattle.std.proofs.lemmas.Bool.{true≢false, false_from_ne_true}
use Rattle.std.proofs.lemmas.Option.{none-some}
use Rattle.concurrent_lru.specs.NodeTable.{Entry, NodeTable, entry_of, GetsNode, HasStampAt, IsNewStamp, HasKey, IsNewKey}
use Rattle.concurrent_lru.specs.Entries.{ContainsEntry, FindsEntry, ContainsNoStamp, ContainsNoKey, IsPlaceOfKey}
use Rattle.concurrent_lru.specs.StampIndex.{keeps_map, mapped_place}
use Rattle.concurrent_lru.specs.declared.node_table.Found.{Found}
use Rattle.concurrent_lru.specs.declared.table.stamp_index.StampIndex.{StampIndex}
use Rattle.concurrent_lru.specs.Indexes.{IsStored, entries_of}
use Rattle.concurrent_lru.proofs.Steps.BeginOfAbsent.{entry_node, node_entry, node_found, found_node_of}
use Rattle.concurrent_lru.proofs.Entries.PlacesOfNodes.{get_stamps}

module _ {K V : Type 0} {C : K → K → Type 0} {E : K → K → Bool} {H : K → ℕ} {t : NodeTable K V} {by_stamp : StampIndex} (r : IsStored C E H t by_stamp) where
  -- a node is an entry
  pub entry_at : (p : ℕ) (e : Entry K V) → get t.nodes p ≡ Some e → ContainsEntry (entries_of t) e.stamp e.key e.charge
  entry_at p e h = node_entry 0 0 0 t (keys t.nodes) p e r.represents h

  -- and found by its key where it is not detached
  pub found_at : (p : ℕ) (e : Entry K V) → get t.nodes p ≡ Some e → e.detached ≡ false → FindsEntry (entries_of t) e.stamp e.key e.charge
  found_at p e h found = node_found 0 0 0 t (keys t.nodes) p e r.represents h found

  pub stamp_at : (s p : ℕ) → HasStampAt t p s → get (entries_of t).stamps p ≡ Some s
  stamp_at s p n = get_stamps t.nodes p ∙ ap (option_map (λ x. x.stamp)) n.1 ∙ ap Some n.2

  -- by a look at every node
  pub seen_stamp : (s : ℕ) (o : Option ℕ) → MatchOption o (IsNewStamp t s) (λ p. HasStampAt t p s) → MatchOption o (ContainsNoStamp (entries_of t) s) (λ p. get (entries_of t).stamps p ≡ Some s)
  seen_stamp s None h = λ k m e. let n = entry_node 0 0 0 t (keys t.nodes) s k m r.represents e in h n.place n.entry n.at n.stamp
  seen_stamp s (Some p) h = stamp_at s p h

  -- by the map
  mapped_stamp : keeps_map by_stamp ≡ true → (s : ℕ) (o : Option ℕ) → o ≡ mapped_place by_stamp s → MatchOption o (IsNewStamp t s) (λ p. HasStampAt t p s)
  mapped_stamp kept s None h = λ p e at same. none-some p (h ∙ ap (mapped_place by_stamp) (sym same) ∙ r.indexed.stamp_found kept p e at)
  mapped_stamp kept s (Some p) h = r.indexed.stamp_kept kept s p (sym h)

  pub found_stamp : (s : ℕ) (o : Option ℕ) → (keeps_map by_stamp ≡ true → o ≡ mapped_place by_stamp s) → (keeps_map by_stamp ≡ false → MatchOption o (IsNewStamp t s) (λ p. HasStampAt t p s))
      → MatchOption o (ContainsNoStamp (entries_of t) s) (λ p. get (entries_of t).stamps p ≡ Some s)
  found_stamp s o mapped seen = elim (keeps_map by_stamp) as (λ b. keeps_map by_stamp ≡ b → MatchOption o (ContainsNoStamp (entries_of t) s) (λ p. get (entries_of t).stamps p ≡ Some s)) [
    | true ↦ λ kept. seen_stamp s o (mapped_stamp kept s o (mapped kept))
    | false ↦ λ none. seen_stamp s o (seen none)
  ] refl

  -- by the hash of a key, where equal keys have the same hash
  pub found_key : ((k l : K) → E k l ≡ true → H k ≡ H l) → (h : ℕ) (k : K) (o : Option (Found K V)) → h ≡ H k → MatchOption o (IsNewKey E t h k) (λ f. HasKey E f.node.now k) → IfSome o (λ f. GetsNode t f.place f.node.now)
      → MatchOption o (ContainsNoKey E (entries_of t) k) (λ f. IsPlaceOfKey E (entries_of t) f.place k)
  found_key alike h k None hash none _ = λ s l m e.
      let w = found_node_of 0 0 0 t (keys t.nodes) s l m r.represents r.indexed.idle_kept e in
      let n = w.node in
      false_from_ne_true (E l k) (λ b.
      let equal : E n.entry.key k ≡ true = ap (λ x. E x k) n.key_is ∙ b in
      let hashed : get t.hashes n.place ≡ Some h = r.hashed n.place n.entry n.at ∙ ap Some (alike n.entry.key k equal ∙ sym hash) in
      true≢false (sym equal ∙ none n.place n.entry n.at w.found hashed))
  found_key alike h k (Some f) hash has got =
      let e = entry_of f.node.now in
      record { stamp = e.stamp; key = e.key; charge = e.charge; at = get_stamps t.nodes f.place ∙ ap (option_map (λ x. x.stamp)) got.entry; entry = found_at f.place e got.entry has.0; same_key = has.1 }

  -- no node has a stamp that no entry has
  pub fresh_among : (s : ℕ) → ContainsNoStamp (entries_of t) s → IsNewStamp t s
  fresh_among s none p e h is = none e.key e.charge (subst (λ u. ContainsEntry (entries_of t) u e.key e.charge) is (entry_at p e h))
