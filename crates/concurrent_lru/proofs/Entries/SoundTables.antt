-- A sound table stays sound: after a growth, with a new entry, with a held one detached, and with
-- an idle one taken out.
use Rattle.std.proofs.Common.{◌≡◌, ℕ, ◌+◌, ◌-◌, ◌≤◌, ◌==◌, Bool, true, cond, not, filter, Some, None, refl, sym, ap, ◌∙◌, subst, eqb}
use Rattle.std.specs.FinMap.{get, remove}
use Rattle.concurrent_lru.specs.Cache.{charges}
use Rattle.concurrent_lru.specs.Entries.{AddsNew, ContainsFoundAt, ContainsNoStamp, Entries, Rewrites, charges_of, new_held}
use Rattle.concurrent_lru.specs.Indexes.{IsSoundTable, IsStored, entries_of}
use Rattle.concurrent_lru.specs.NodeTable.{Entry, NodeTable, IsNewStamp, entry_detached, new_entry, update_at}
use Rattle.concurrent_lru.specs.Representation.{held_entry}
use Rattle.concurrent_lru.specs.StampIndex.{keeps_map, mapped_place}
use Rattle.concurrent_lru.specs.Steps.{held_detached}
use Rattle.concurrent_lru.specs.declared.table.stamp_index.StampIndex.{StampIndex}
use Rattle.concurrent_lru.proofs.Entries.AddAndTake.{IsAdded, IsTaken, entries_same, held_same, held_with, idle_with, idle_without, stored_same, stored_with, stored_without}
use Rattle.concurrent_lru.proofs.Entries.AddOver.{fresh_written, unheld_written}
use Rattle.concurrent_lru.proofs.Entries.ChargesOfIdle.{kept_less}
use Rattle.concurrent_lru.proofs.Entries.FoundNodes.{fresh_among}
use Rattle.concurrent_lru.proofs.Entries.NodeAtPlace.{found_place, held_found, held_node, idle_found, idle_like, place_at, some_node}
use Rattle.concurrent_lru.proofs.Entries.SetPinsAndRest.{entries_detached, stored_detached}
use Rattle.concurrent_lru.proofs.Entries.SumsOfCharges.{idle_bound, less_alike, stamps_apart, sum_evicted, sum_with, sum_written}
use Rattle.concurrent_lru.proofs.Lists.Members.{IsIn}
use Rattle.concurrent_lru.proofs.Steps.BeginOfAbsent.{as_idle-ready}
use Rattle.concurrent_lru.proofs.Steps.Release.{detached_writes}

module _ {K V : Type 0} where
  -- a stamp that is new is new as that of an entry
  pub fresh_entry : (t : NodeTable K V) (e f : Entry K V) → e ≡ f → IsNewStamp t f.stamp → IsNewStamp t e.stamp
  fresh_entry t e f is fresh = subst (IsNewStamp t) (sym (ap (λ x. x.stamp) is)) fresh

module _ {K V : Type 0} {C : K → K → Type 0} {E : K → K → Bool} {H : K → ℕ} (t t' : NodeTable K V) (by_stamp by_stamp' : StampIndex) {total idle_charge : ℕ} (sound : IsSoundTable C E H t by_stamp total idle_charge) where
  -- room was made for more entries, which are the ones that were seen
  pub grown : {A B : Type 0} {seen : Entries K V} → entries_of t ≡ seen
      → record { ok : A; refusal : B; nodes : t'.nodes ≡ t.nodes; hashes : t'.hashes ≡ t.hashes; links : t'.links ≡ t.links; idle : t'.idle ≡ t.idle; work : t'.work ≡ t.work; keeps : keeps_map by_stamp' ≡ keeps_map by_stamp; by_stamp : (s : ℕ) → mapped_place by_stamp' s ≡ mapped_place by_stamp s }
      → record { sound : IsSoundTable C E H t' by_stamp' total idle_charge; same : entries_of t' ≡ seen }
  grown is g =
      let same = entries_same t t' g.nodes g.links g.idle g.work in
      record { sound = record { stored = stored_same sound.stored g.nodes g.hashes g.idle g.keeps g.by_stamp; sums = sound.sums ∙ ap charges_of (sym same); rests = sound.rests ∙ ap (λ x. charges x.idle) (sym same) }; same = same ∙ is }

  -- a new entry was added
  pub with_new : {p s m total' : ℕ} {own : K} {e : Entry K V} → IsAdded H t t' by_stamp by_stamp' p (new_entry s own m) → get (entries_of t).held s ≡ None → e ≡ new_entry s own m → total' ≡ total + e.charge → IsSoundTable C E H t' by_stamp' total' idle_charge
  with_new {s} {m} {own} a free is more = record {
    stored = stored_with sound.stored a;
    sums = more ∙ ap (λ x. total + x.charge) is ∙ ap (λ n. n + m) sound.sums ∙ sym (sum_with (entries_of t) (entries_of t') s (new_held own m) (idle_with sound.stored a) (held_with sound.stored a) free);
    rests = sound.rests ∙ ap charges (sym (idle_with sound.stored a));
  }

  -- an idle entry was taken out
  pub without_idle : {p total' idle' : ℕ} {e : Entry K V} → IsTaken t t' by_stamp by_stamp' p e → IsIn p t.idle → total' + e.charge ≡ total → idle' ≡ idle_charge - e.charge → IsSoundTable C E H t' by_stamp' total' idle'
  without_idle {p} {e} taken idle left rest =
      let r = sound.stored in
      let like = idle_like r p e taken.at idle in
      let less = sum_evicted (entries_of t) (entries_of t') e.stamp (record { stamp = e.stamp; key = e.key; charge = e.charge; value = like.0 }) (stamps_apart t _ r.represents) (idle_without r taken idle) (held_same r taken idle) ((idle_found r p e taken.at idle).1 ∙ as_idle-ready e like.0 like.2) in
      record { stored = stored_without r taken; sums = less_alike _ _ _ _ e.charge left less sound.sums; rests = rest ∙ kept_less r p e taken.at idle _ sound.rests (entries_of t') (idle_without r taken idle) }

module _ {K V : Type 0} {C : K → K → Type 0} {E : K → K → Bool} {H : K → ℕ} (t t' : NodeTable K V) {by_stamp : StampIndex} {total idle_charge : ℕ} (sound : IsSoundTable C E H t by_stamp total idle_charge) where
  -- a held entry was detached, and a stamp that was new is still new
  pub with_detached : {S : Type 0} (p : ℕ) → ContainsFoundAt (entries_of t) p → record { nodes : t'.nodes ≡ update_at entry_detached t.nodes p; hashes : t'.hashes ≡ t.hashes; links : t'.links ≡ t.links; idle : t'.idle ≡ t.idle; spare : S; work : t'.work ≡ t.work }
      → record { sound : IsSoundTable C E H t' by_stamp total idle_charge; fresh : (s : ℕ) → ContainsNoStamp (entries_of t) s → IsNewStamp t' s; free : (s : ℕ) → ContainsNoStamp (entries_of t) s → get (entries_of t').held s ≡ None; detached : Rewrites held_detached (entries_of t) p (entries_of t') }
  with_detached p h d =
      let r = sound.stored in
      let n = some_node r p (h.0, h.1) in
      let writes = detached_writes t t' p n.0 n.1 d.nodes in
      let pinned = held_node r p n.0 (found_place r p h) n.1 in
      let changed = entries_detached r writes d.links d.idle pinned d.work in
      let there = held_found r p n.0 n.1 pinned in
      record {
        sound = record {
          stored = stored_detached r writes d.hashes d.idle pinned;
          sums = sound.sums ∙ sym (sum_written (entries_of t) (entries_of t') n.0.stamp (held_entry n.0) (held_entry (entry_detached n.0)) (ap (λ x. x.idle) changed) (ap (λ x. x.held) changed) there refl);
          rests = sound.rests ∙ ap charges (sym (ap (λ x. x.idle) changed));
        };
        fresh = λ s lacks. fresh_written s writes (fresh_among r s lacks);
        free = λ s lacks. unheld_written r (entries_of t') (held_entry (entry_detached n.0)) p n.0 n.1 s lacks changed;
        detached = record { stamp = n.0.stamp; entry = held_entry n.0; at = place_at r p n.0 n.1; held = there; changed = changed };
      }

module _ {K V : Type 0} {C : K → K → Type 0} {E : K → K → Bool} {H : K → ℕ} {t : NodeTable K V} {by_stamp : StampIndex} {total idle_charge : ℕ} (sound : IsSoundTable C E H t by_stamp total idle_charge) where
  -- an idle entry's charge is part of the total
  pub idle_counted : (p : ℕ) (e : Entry K V) → get t.nodes p ≡ Some e → IsIn p t.idle → e.charge ≤ total
  idle_counted p e at idle =
      let r = sound.stored in
      let like = idle_like r p e at idle in
      subst (λ n. e.charge ≤ n) (sym sound.sums)
      (idle_bound (entries_of t) e.stamp (record { stamp = e.stamp; key = e.key; charge = e.charge; value = like.0 }) (stamps_apart t _ r.represents) ((idle_found r p e at idle).1 ∙ as_idle-ready e like.0 like.2))

module _ {K V : Type 0} (t mid t' : NodeTable K V) (by_stamp by_stamp' : StampIndex) (p : ℕ) (e : Entry K V) where
  -- what a removal from the order, and then from the nodes, takes out
  pub idle_taken : {N S L A R Q T : Type 0} → record { nodes : mid.nodes ≡ t.nodes; hashes : mid.hashes ≡ t.hashes; links : N; idle : mid.idle ≡ filter (λ q. not (q == p)) t.idle; spare : S; work : mid.work ≡ t.work + 1; looks : L }
      → record { entry : get mid.nodes p ≡ Some e; alone : A; nodes : t'.nodes ≡ remove mid.nodes p; hashes : t'.hashes ≡ remove mid.hashes p; idle : t'.idle ≡ mid.idle; work : t'.work ≡ mid.work; keeps : keeps_map by_stamp' ≡ keeps_map by_stamp; by_stamp : keeps_map by_stamp ≡ true → (s : ℕ) → mapped_place by_stamp' s ≡ cond (eqb e.stamp s) None (mapped_place by_stamp s); room : R; stamp_room : Q; total : T }
      → IsTaken t t' by_stamp by_stamp' p e
  idle_taken removed took = record {
    at = ap (λ m. get m p) (sym removed.nodes) ∙ took.entry;
    nodes = took.nodes ∙ ap (λ m. remove m p) removed.nodes;
    hashes = took.hashes ∙ ap (λ m. remove m p) removed.hashes;
    idle = took.idle ∙ removed.idle;
    keeps = took.keeps;
    stamps_now = took.by_stamp;
  }

module _ {K V : Type 0} {C : K → K → Type 0} {E : K → K → Bool} {H : K → ℕ} {t t' : NodeTable K V} {by_stamp by_stamp' : StampIndex} {p s m : ℕ} {own : K} (r : IsStored C E H t by_stamp) (a : IsAdded H t t' by_stamp by_stamp' p (new_entry s own m)) where
  -- a new entry was added under a copy of a key
  pub adds_new : {k : K} → C k own → t'.work ≡ t.work → AddsNew E (entries_of t) s k m (entries_of t')
  adds_new {k} is_own work = record { copy = own; same_key = r.copies k own is_own; idle = idle_with r a; held = held_with r a; work = work }
