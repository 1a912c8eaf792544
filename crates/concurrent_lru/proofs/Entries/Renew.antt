-- An idle node becomes the newest idle one: the table and its entries are then as after a pin and
-- the release of it.
use Rattle.std.proofs.Common.{◌≡◌, ℕ, Bool, true, false, cond, ◌+◌, ◌++◌, ◌∷◌, [], not, Option, Some, refl, sym, ap, ◌∙◌, eqb, arith}
use Rattle.std.specs.List.{filter}
use Rattle.std.specs.Ordering.{nat_cmp}
use Rattle.std.specs.Cmp.{nat_cmp_total}
use Rattle.std.specs.FinMap.{FinMap, get, insert, get-insert, same_map, nat_cmp-IsAntisymmetric}
use Rattle.concurrent_lru.specs.Cache.{Idle, charges}
use Rattle.concurrent_lru.specs.Entries.{charges_of}
use Rattle.concurrent_lru.specs.NodeTable.{Entry, NodeTable, entry_with_pins}
use Rattle.concurrent_lru.specs.Reads.{RenewsAt}
use Rattle.concurrent_lru.specs.Representation.{held_entry}
use Rattle.concurrent_lru.specs.declared.table.stamp_index.StampIndex.{StampIndex}
use Rattle.concurrent_lru.specs.Indexes.{IsStored, entries_of}
use Rattle.concurrent_lru.proofs.Entries.NodesOfSetAndAdd.{WritesNode, inserted_at}
use Rattle.concurrent_lru.proofs.Entries.SetPinsAndRest.{stored_revived, entries_revived_by_one, stored_rested, entries_rested}
use Rattle.concurrent_lru.proofs.Entries.NodeAtPlace.{idle_like, idle_found, idle_unheld, held_found, place_at}
use Rattle.concurrent_lru.proofs.Entries.SumsOfCharges.{idle_less, idle_more, sum_revived, sum_rested, stamps_apart}
use Rattle.concurrent_lru.proofs.Lists.DistinctEntries.{same, same-true}
use Rattle.concurrent_lru.proofs.Lists.Members.{IsIn}
use Rattle.concurrent_lru.proofs.Steps.BeginOfAbsent.{as_idle-ready}

module _ {X : Type 0} where
  put_back : (b : Bool) (v w : X) (o : Option X) → (b ≡ true → o ≡ Some w) → cond b (Some w) (cond b (Some v) o) ≡ o
  put_back true v w o was = sym (was refl)
  put_back false v w o was = refl

  -- what was there is put back
  pub insert_back : (m : FinMap nat_cmp X) (s : ℕ) (v w : X) → get m s ≡ Some w → insert (insert m s v) s w ≡ m
  insert_back m s v w at = same_map nat_cmp_total nat_cmp-IsAntisymmetric _ _ (λ q.
      get-insert nat_cmp_total (insert m s v) s w q ∙ ap (cond (same q s) (Some w)) (get-insert nat_cmp_total m s v q)
      ∙ put_back (same q s) v w (get m q) (λ b. ap (get m) (same-true q s b) ∙ at))

module _ {K V : Type 0} where
  -- the node at a place goes to the end of the idle order, and none is written otherwise
  pub record Renews (t t' : NodeTable K V) (p : ℕ) (e : Entry K V) : Type 0 where
    pub at : get t.nodes p ≡ Some e
    pub there : IsIn p t.idle
    pub nodes : t'.nodes ≡ t.nodes
    pub hashes : t'.hashes ≡ t.hashes
    pub links : t'.links ≡ t.links
    pub idle : t'.idle ≡ filter (λ q. not (eqb q p)) t.idle ++ p ∷ []
    pub work : t'.work ≡ t.work + 2

  -- the nodes between the pin and the release
  abbrev between : NodeTable K V → ℕ → Entry K V → NodeTable K V
  between t p e = record { nodes = insert t.nodes p (entry_with_pins 1 e); hashes = t.hashes; links = t.links; idle = filter (λ q. not (eqb q p)) t.idle; spare = 0; work = t.work + 1; looks = 0 }

module _ {K V : Type 0} {C : K → K → Type 0} {E : K → K → Bool} {H : K → ℕ} {t t' : NodeTable K V} {by_stamp : StampIndex} {p : ℕ} {e : Entry K V} (r : IsStored C E H t by_stamp) (w : Renews t t' p e) where
  pins : WritesNode t (between t p e) p e (entry_with_pins 1 e)
  pins = record { at = w.at; nodes = refl; stamp = refl }

  releases : WritesNode (between t p e) t' p (entry_with_pins 1 e) e
  releases = record { at = inserted_at t.nodes p (entry_with_pins 1 e); nodes = w.nodes ∙ sym (insert_back t.nodes p (entry_with_pins 1 e) e w.at); stamp = refl }

  stored_between : IsStored C E H (between t p e) by_stamp
  stored_between = stored_revived r pins refl refl refl refl refl

  pub stored_renewed : IsStored C E H t' by_stamp
  stored_renewed = let l = idle_like r p e w.at w.there in stored_rested stored_between releases refl refl w.hashes l.0 w.idle refl l.1 l.2 (r.indexed.idle_kept p e w.at l.1)

  pub entries_renewed : RenewsAt (entries_of t) p (entries_of t')
  entries_renewed =
      let l = idle_like r p e w.at w.there in
      let work = w.work in
      record {
        mid = entries_of (between t p e);
        revived = record {
          stamp = e.stamp;
          entry = record { stamp = e.stamp; key = e.key; charge = e.charge; value = l.0 };
          at = place_at r p e w.at;
          idle = (idle_found r p e w.at w.there).1 ∙ as_idle-ready e l.0 l.2;
          changed = entries_revived_by_one r pins l.0 refl refl l.1 l.2 refl;
        };
        rested = record {
          was = record {
            stamp = e.stamp;
            entry = held_entry (entry_with_pins 1 e);
            value = l.0;
            at = place_at stored_between p (entry_with_pins 1 e) (inserted_at t.nodes p (entry_with_pins 1 e));
            held = held_found stored_between p (entry_with_pins 1 e) (inserted_at t.nodes p (entry_with_pins 1 e)) refl;
            phase = l.2;
            found = r.indexed.idle_kept p e w.at l.1;
          };
          changed = entries_rested stored_between releases refl refl l.0 w.links w.idle refl l.1 l.2 (omega (arith, work));
        };
      }

  pub sum_renewed : charges_of (entries_of t') ≡ charges_of (entries_of t)
  unfolding entries_renewed
  sum_renewed =
      let l = idle_like r p e w.at w.there in
      let x : Idle K V = record { stamp = e.stamp; key = e.key; charge = e.charge; value = l.0 } in
      let there = entries_renewed in
      sum_rested (entries_of (between t p e)) (entries_of t') e.stamp (held_entry (entry_with_pins 1 e)) x (ap (λ u. u.idle) there.rested.changed) (ap (λ u. u.held) there.rested.changed) there.rested.was.held refl
      ∙ sum_revived (entries_of t) (entries_of (between t p e)) e.stamp x _ (stamps_apart t _ r.represents) (ap (λ u. u.idle) there.revived.changed) (ap (λ u. u.held) there.revived.changed) there.revived.idle (idle_unheld r p e w.at w.there) refl

  pub rests_renewed : charges (entries_of t').idle ≡ charges (entries_of t).idle
  unfolding entries_renewed
  rests_renewed =
      let l = idle_like r p e w.at w.there in
      let x : Idle K V = record { stamp = e.stamp; key = e.key; charge = e.charge; value = l.0 } in
      let there = entries_renewed in
      idle_more (entries_of (between t p e)) (entries_of t') x (ap (λ u. u.idle) there.rested.changed)
      ∙ idle_less (entries_of t) (entries_of (between t p e)) e.stamp x (stamps_apart t _ r.represents) (ap (λ u. u.idle) there.revived.changed) there.revived.idle
