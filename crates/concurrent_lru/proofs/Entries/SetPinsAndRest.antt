-- What a table stores, and its entries, where one node is written: a held one, one that is revived,
-- one that comes to rest.
use Rattle.std.proofs.Common.{◌≡◌, ℕ, Bool, ◌<◌, ◌+◌, ◌++◌, ◌∷◌, [], false, not, refl, sym, ap, ◌∙◌, eqb, ◌==◌, arith}
use Rattle.std.specs.List.{filter}
use Rattle.std.specs.FinMap.{insert, remove, keys}
use Rattle.std.proofs.lemmas.Bool.{true≢false, eq-eqb, ne_eqb}
use Rattle.concurrent_lru.specs.Cache.{ready}
use Rattle.concurrent_lru.specs.Steps.{without}
use Rattle.concurrent_lru.specs.NodeTable.{Entry, NodeTable, entry_with_pins, entry_detached}
use Rattle.concurrent_lru.specs.Representation.{IsRepresentation, idle_in, held_in, held_entry}
use Rattle.concurrent_lru.specs.declared.table.stamp_index.StampIndex.{StampIndex}
use Rattle.concurrent_lru.specs.Indexes.{IsStored, entries_of, stamps_of}
use Rattle.concurrent_lru.proofs.Entries.NodesOfSetAndAdd.{WritesNode, written_represents, written_held, written_idle, revived_represents, revived_held, rested_represents, rested_held, rested_idle}
use Rattle.concurrent_lru.proofs.Steps.BeginOfHeld.{revived_idle}
use Rattle.concurrent_lru.proofs.Entries.PlacesOfNodes.{represents_keys, held_alike, stamps_same}
use Rattle.concurrent_lru.proofs.Entries.IndexedByStamp.{indexed_written}
use Rattle.concurrent_lru.proofs.Entries.HashesOfNodes.{hashed_written}

pub not_zero : (n : ℕ) → 0 < n → (n == 0) ≡ false
not_zero n h = ne_eqb n 0 (λ z. absurd (omega arith))

module _ {K V : Type 0} {C : K → K → Type 0} {E : K → K → Bool} {H : K → ℕ} {t t' : NodeTable K V} {by_stamp : StampIndex} {p : ℕ} {e f : Entry K V} (r : IsStored C E H t by_stamp) (w : WritesNode t t' p e f) (same_key : f.key ≡ e.key) (same_found : f.detached ≡ e.detached) where
  stored_over : t'.hashes ≡ t.hashes → (f.pins ≡ 0 → e.detached ≡ false) → IsRepresentation t' (keys t.nodes) → IsStored C E H t' by_stamp
  stored_over hashes idle there = record {
    represents = represents_keys t' (keys t.nodes) there;
    indexed = indexed_written p e f r.indexed w.nodes w.at w.stamp (λ none. same_found ∙ idle none);
    hashed = hashed_written H t.nodes t'.nodes t.hashes t'.hashes p e f w.nodes w.at same_key hashes r.hashed;
    copies = r.copies;
  }

  held_over : IsRepresentation t' (keys t.nodes) → held_in t' (keys t'.nodes) ≡ held_in t' (keys t.nodes)
  held_over there = held_alike t' (keys t'.nodes) (keys t.nodes) (represents_keys t' (keys t.nodes) there) there

  stamps_over : stamps_of t'.nodes ≡ stamps_of t.nodes
  stamps_over = ap stamps_of w.nodes ∙ stamps_same t.nodes p e f w.at w.stamp

  -- held before and after
  pub stored_written : t'.hashes ≡ t.hashes → t'.idle ≡ t.idle → (e.pins == 0) ≡ false → (f.pins == 0) ≡ false → IsStored C E H t' by_stamp
  stored_written hashes i h k = stored_over hashes (λ none. absurd (true≢false (sym (eq-eqb f.pins 0 none) ∙ k))) (written_represents r.represents w i h k)

  pub entries_written : t'.links ≡ t.links → t'.idle ≡ t.idle → (e.pins == 0) ≡ false → (f.pins == 0) ≡ false → t'.work ≡ t.work → entries_of t' ≡ record (entries_of t) { held = insert (held_in t (keys t.nodes)) e.stamp (held_entry f) }
  entries_written addresses i h k work =
      let held = held_over (written_represents r.represents w i h k) ∙ written_held r.represents w h k in
      let idle = written_idle r.represents w i h in
      let same = stamps_over in
      λ j. record { idle = idle j; held = held j; stamps = same j; links = addresses j; work = work j }

  -- idle before, held after
  pub stored_revived : t'.hashes ≡ t.hashes → t'.idle ≡ filter (λ q. not (eqb q p)) t.idle → (f.pins == 0) ≡ false → IsStored C E H t' by_stamp
  stored_revived hashes i k = stored_over hashes (λ none. absurd (true≢false (sym (eq-eqb f.pins 0 none) ∙ k))) (revived_represents r.represents w i k)

  pub entries_revived : (v : V) → t'.links ≡ t.links → t'.idle ≡ filter (λ q. not (eqb q p)) t.idle → e.pins ≡ 0 → e.phase ≡ ready v → (f.pins == 0) ≡ false → t'.work ≡ t.work + 1 → entries_of t' ≡ record (entries_of t) { idle = without e.stamp (idle_in t); held = insert (held_in t (keys t.nodes)) e.stamp (held_entry f); work = t.work + 1 }
  entries_revived v addresses i z ph k work =
      let held = held_over (revived_represents r.represents w i k) ∙ revived_held r.represents w (eq-eqb e.pins 0 z) k in
      let idle = revived_idle v r.represents w i z ph in
      let same = stamps_over in
      λ j. record { idle = idle j; held = held j; stamps = same j; links = addresses j; work = work j }

  -- held before, idle after
  pub stored_rested : t'.hashes ≡ t.hashes → (v : V) → t'.idle ≡ t.idle ++ p ∷ [] → (e.pins == 0) ≡ false → f.pins ≡ 0 → f.phase ≡ ready v → e.detached ≡ false → IsStored C E H t' by_stamp
  stored_rested hashes v i h z ph found = stored_over hashes (λ _. found) (rested_represents r.represents w v i h z ph)

  pub entries_rested : (v : V) → t'.links ≡ t.links → t'.idle ≡ t.idle ++ p ∷ [] → (e.pins == 0) ≡ false → f.pins ≡ 0 → f.phase ≡ ready v → t'.work ≡ t.work + 1
      → entries_of t' ≡ record (entries_of t) { idle = idle_in t ++ record { stamp = f.stamp; key = f.key; charge = f.charge; value = v } ∷ []; held = remove (held_in t (keys t.nodes)) e.stamp; work = t.work + 1 }
  entries_rested v addresses i h z ph work =
      let held = held_over (rested_represents r.represents w v i h z ph) ∙ rested_held r.represents w h (eq-eqb f.pins 0 z) in
      let idle = rested_idle r.represents w v i h ph in
      let same = stamps_over in
      λ j. record { idle = idle j; held = held j; stamps = same j; links = addresses j; work = work j }

module _ {K V : Type 0} {C : K → K → Type 0} {E : K → K → Bool} {H : K → ℕ} {t t' : NodeTable K V} {by_stamp : StampIndex} {p : ℕ} {e : Entry K V} (r : IsStored C E H t by_stamp) (w : WritesNode t t' p e (entry_with_pins 1 e)) where
  pub entries_revived_by_one : (v : V) → t'.links ≡ t.links → t'.idle ≡ filter (λ q. not (eqb q p)) t.idle → e.pins ≡ 0 → e.phase ≡ ready v → t'.work ≡ t.work + 1
      → entries_of t' ≡ record (entries_of t) { idle = without e.stamp (idle_in t); held = insert (held_in t (keys t.nodes)) e.stamp (record { key = e.key; charge = e.charge; pins = 1; detached = false; phase = ready v }); work = t.work + 1 }
  entries_revived_by_one v addresses i z ph work = let found = r.indexed.idle_kept p e w.at z in entries_revived r w refl refl v addresses i z ph refl work
      ∙ (λ j. record (entries_of t) { idle = without e.stamp (idle_in t); held = insert (held_in t (keys t.nodes)) e.stamp (record { key = e.key; charge = e.charge; pins = 1; detached = found j; phase = ph j }); work = t.work + 1 })

module _ {K V : Type 0} {C : K → K → Type 0} {E : K → K → Bool} {H : K → ℕ} {t t' : NodeTable K V} {by_stamp : StampIndex} {p : ℕ} {e : Entry K V} (r : IsStored C E H t by_stamp) (w : WritesNode t t' p e (entry_detached e)) where
  -- held before and after, and detached from its key
  pub stored_detached : t'.hashes ≡ t.hashes → t'.idle ≡ t.idle → (e.pins == 0) ≡ false → IsStored C E H t' by_stamp
  stored_detached hashes i h = record {
    represents = represents_keys t' (keys t.nodes) (written_represents r.represents w i h h);
    indexed = indexed_written p e (entry_detached e) r.indexed w.nodes w.at w.stamp (λ none. absurd (true≢false (sym (eq-eqb e.pins 0 none) ∙ h)));
    hashed = hashed_written H t.nodes t'.nodes t.hashes t'.hashes p e (entry_detached e) w.nodes w.at refl hashes r.hashed;
    copies = r.copies;
  }

module _ {K V : Type 0} {C : K → K → Type 0} {E : K → K → Bool} {H : K → ℕ} {t t' : NodeTable K V} {by_stamp : StampIndex} {p : ℕ} {e : Entry K V} (r : IsStored C E H t by_stamp) (w : WritesNode t t' p e (entry_detached e)) where
  pub entries_detached : t'.links ≡ t.links → t'.idle ≡ t.idle → (e.pins == 0) ≡ false → t'.work ≡ t.work → entries_of t' ≡ record (entries_of t) { held = insert (held_in t (keys t.nodes)) e.stamp (held_entry (entry_detached e)) }
  entries_detached addresses i h work =
      let there = written_represents r.represents w i h h in
      let held = held_alike t' (keys t'.nodes) (keys t.nodes) (represents_keys t' (keys t.nodes) there) there ∙ written_held r.represents w h h in
      let idle = written_idle r.represents w i h in
      let same = ap stamps_of w.nodes ∙ stamps_same t.nodes p e (entry_detached e) w.at w.stamp in
      λ j. record { idle = idle j; held = held j; stamps = same j; links = addresses j; work = work j }
