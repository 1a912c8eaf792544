-- A node is taken away, a held one or an idle one: what the nodes stand for.
use Rattle.std.proofs.Common.{◌≡◌, ℕ, false, not, List, ◌∷◌, ◌++◌, Some, None, refl, sym, ap, ◌∙◌, subst, eqb, ◌==◌}
use Rattle.std.specs.List.{list_any, filter, filter_map, cons_option, find, IsDistinct}
use Rattle.std.specs.Option.{option_and_then}
use Rattle.std.specs.Prelude.{IsSome, is_some}
use Rattle.std.specs.FinMap.{get, remove, from_entries}
use Rattle.std.proofs.lemmas.Bool.{eq-eqb, true≢false, false_from_ne_true}
use Rattle.std.proofs.lemmas.Option.{same_Some}
use Rattle.std.proofs.lemmas.List.Elements.{filter_map-append}
use Rattle.concurrent_lru.specs.Cache.{Idle, ready}
use Rattle.concurrent_lru.specs.Steps.{without}
use Rattle.concurrent_lru.specs.NodeTable.{Entry, NodeTable}
use Rattle.concurrent_lru.specs.Representation.{CutsPlace, IsRepresentation, idle_in, held_in, idle_at_place, held_at_place, held_entry, as_idle, as_held}
use Rattle.concurrent_lru.proofs.Steps.BeginOfAbsent.{as_idle-ready, lacks}
use Rattle.concurrent_lru.proofs.Entries.NodesOfSetAndAdd.{around, parts_lack, as_held-some, as_held-none}
use Rattle.concurrent_lru.proofs.Lists.DistinctEntries.{from_entries-cut}
use Rattle.concurrent_lru.proofs.Lists.Removals.{removed_other, removed_some}
use Rattle.concurrent_lru.proofs.Lists.DistinctNumbers.{distinct_parts, distinct_cut, filter_mid, filter_absent, list_any-filter_self, list_any-from_filter, IsDistinct-filter}
use Rattle.concurrent_lru.proofs.Steps.BeginOfHeld.{without_mid}
use Rattle.concurrent_lru.proofs.Lists.Members.{IsIn, in_wider, in_narrower, in_left, in_right, in_tail, in_filter, not_self, free_beside, filter_map-same, filter_map-mid}

module _ {K V : Type 0} where
  -- a held node is in no idle order
  pub held_not_idle : (table : NodeTable K V) (places : List ℕ) (p : ℕ) (e : Entry K V) → IsRepresentation table places → get table.nodes p ≡ Some e → (e.pins == 0) ≡ false → list_any (eqb p) table.idle ≡ false
  held_not_idle table places p e r at h = false_from_ne_true (list_any (eqb p) table.idle) (λ m.
      let i = r.idle_ready p m in
      true≢false (sym (eq-eqb i.0.pins 0 i.3) ∙ ap (λ y. y.pins == 0) (same_Some _ _ (sym i.2 ∙ at)) ∙ h))

  -- a node is taken out of the nodes, the idle order and the list of places
  pub record Withdraws (old new : NodeTable K V) (places rest : List ℕ) (p : ℕ) (e : Entry K V) : Type 0 where
    pub at : get old.nodes p ≡ Some e
    pub nodes : new.nodes ≡ remove old.nodes p
    pub idle : new.idle ≡ filter (λ q. not (eqb q p)) old.idle
    pub cuts : CutsPlace places rest p

  module _ {old new : NodeTable K V} {places rest : List ℕ} {p : ℕ} {e : Entry K V} (r : IsRepresentation old places) (d : Withdraws old new places rest p e) where
    apart_places : IsDistinct eqb (d.cuts.front ++ p ∷ d.cuts.back)
    apart_places = subst (IsDistinct eqb) d.cuts.old r.places_apart

    no_longer_idle : list_any (eqb p) new.idle ≡ false
    no_longer_idle = ap (list_any (eqb p)) d.idle ∙ list_any-filter_self p old.idle

    at_new : (q : ℕ) → get new.nodes q ≡ get (remove old.nodes p) q
    at_new q = ap (λ m. get m q) d.nodes

    at_other : (q : ℕ) → eqb q p ≡ false → get new.nodes q ≡ get old.nodes q
    at_other q ne = at_new q ∙ removed_other old.nodes p q ne

    was : (q : ℕ) (x : Entry K V) → get new.nodes q ≡ Some x → (eqb q p ≡ false) × (get old.nodes q ≡ Some x)
    was q x h = removed_some old.nodes p q x (sym (at_new q) ∙ h)

    was_idle : (q : ℕ) → IsIn q new.idle → IsIn q old.idle
    was_idle q h = list_any-from_filter p q old.idle (ap (list_any (eqb q)) (sym d.idle) ∙ h)

    pub withdrawn_represents : IsRepresentation new rest
    withdrawn_represents = record {
      places_apart = subst (IsDistinct eqb) (sym d.cuts.new) (distinct_cut p d.cuts.front d.cuts.back apart_places);
      places_kept = λ q h.
          let h' : IsIn q (d.cuts.front ++ d.cuts.back) = ap (list_any (eqb q)) (sym d.cuts.new) ∙ h in
          let ne = not_self q p (d.cuts.front ++ d.cuts.back) (free_beside p d.cuts.front d.cuts.back apart_places) h' in
          ap is_some (at_other q ne) ∙ r.places_kept q (ap (list_any (eqb q)) d.cuts.old ∙ in_wider q p d.cuts.front d.cuts.back h');
      all_places = λ q x h.
          let s = was q x h in
          ap (list_any (eqb q)) d.cuts.new ∙ in_narrower q p d.cuts.front d.cuts.back (ap (list_any (eqb q)) (sym d.cuts.old) ∙ r.all_places q x s.1) s.0;
      idle_apart = subst (IsDistinct eqb) (sym d.idle) (IsDistinct-filter p old.idle r.idle_apart);
      idle_ready = λ q h.
          let w = r.idle_ready q (was_idle q h) in
          (w.0, w.1, at_other q (not_self q p new.idle no_longer_idle h) ∙ w.2, w.3, w.4);
      resting = λ q x h z.
          let s = was q x h in
          ap (list_any (eqb q)) d.idle ∙ in_filter q p old.idle (r.resting q x s.1 z) s.0;
      stamps = λ q t x y h k. r.stamps q t x y (was q x h).1 (was t y k).1;
    }

    -- the other places stand for what they stood for
    other_held : filter_map (held_at_place new.nodes) rest ≡ filter_map (held_at_place old.nodes) d.cuts.front ++ filter_map (held_at_place old.nodes) d.cuts.back
    other_held =
        ap (filter_map (held_at_place new.nodes)) d.cuts.new
        ∙ filter_map-same (held_at_place new.nodes) (held_at_place old.nodes) (d.cuts.front ++ d.cuts.back) (λ q h.
        ap (option_and_then as_held) (at_other q (not_self q p (d.cuts.front ++ d.cuts.back) (free_beside p d.cuts.front d.cuts.back apart_places) h)))
        ∙ filter_map-append (held_at_place old.nodes) d.cuts.front d.cuts.back

    old_held : filter_map (held_at_place old.nodes) places ≡ filter_map (held_at_place old.nodes) d.cuts.front ++ cons_option (as_held e) (filter_map (held_at_place old.nodes) d.cuts.back)
    old_held =
        ap (filter_map (held_at_place old.nodes)) d.cuts.old ∙ filter_map-mid (held_at_place old.nodes) p d.cuts.front d.cuts.back
        ∙ ap (λ o. filter_map (held_at_place old.nodes) d.cuts.front ++ cons_option (option_and_then as_held o) (filter_map (held_at_place old.nodes) d.cuts.back)) d.at

    -- a held node is taken away
    pub withdrawn_held : (e.pins == 0) ≡ false → held_in new rest ≡ remove (held_in old places) e.stamp
    withdrawn_held h =
        let a = filter_map (held_at_place old.nodes) d.cuts.front in
        let b = filter_map (held_at_place old.nodes) d.cuts.back in
        let lack = parts_lack old places p e r d.at (record { front = d.cuts.front; back = d.cuts.back; whole = d.cuts.old }) in
        ap from_entries other_held
        ∙ from_entries-cut e.stamp (held_entry e) a b lack.0 lack.1
        ∙ ap (λ es. remove (from_entries es) e.stamp) (sym (old_held ∙ ap (λ o. a ++ cons_option o b) (as_held-some e h)))

    pub withdrawn_other_idle : (e.pins == 0) ≡ false → idle_in new ≡ idle_in old
    withdrawn_other_idle h =
        let free = held_not_idle old places p e r d.at h in
        ap (filter_map (idle_at_place new.nodes)) (d.idle ∙ filter_absent p old.idle free)
        ∙ filter_map-same (idle_at_place new.nodes) (idle_at_place old.nodes) old.idle (λ q m. ap (option_and_then as_idle) (at_other q (not_self q p old.idle free m)))

    -- an idle node is taken away
    idle_entry : IsIn p old.idle → (v : V) × (e.pins ≡ 0) × (e.phase ≡ ready v)
    idle_entry m =
        let w = r.idle_ready p m in
        let is : w.0 ≡ e = same_Some _ _ (sym w.2 ∙ d.at) in
        (w.1, ap (λ x. x.pins) (sym is) ∙ w.3, ap (λ x. x.phase) (sym is) ∙ w.4)

    pub withdrawn_ready : IsIn p old.idle → IsSome (as_idle e)
    withdrawn_ready m = let w = idle_entry m in ap is_some (as_idle-ready e w.0 w.2)

    pub withdrawn_other_held : IsIn p old.idle → held_in new rest ≡ held_in old places
    withdrawn_other_held m =
        let w = idle_entry m in
        ap from_entries (other_held
        ∙ sym (old_held ∙ ap (λ o. filter_map (held_at_place old.nodes) d.cuts.front ++ cons_option o (filter_map (held_at_place old.nodes) d.cuts.back)) (as_held-none e (eq-eqb e.pins 0 w.1))))

    pub withdrawn_idle : IsIn p old.idle → idle_in new ≡ without e.stamp (idle_in old)
    withdrawn_idle m =
        let w = idle_entry m in
        let x : Idle K V = record { stamp = e.stamp; key = e.key; charge = e.charge; value = w.0 } in
        let a = around old.idle p m in
        let apart = subst (IsDistinct eqb) a.whole r.idle_apart in
        let parts = distinct_parts p a.front a.back apart in
        let here : (xs : List ℕ) → list_any (eqb p) xs ≡ false → filter_map (idle_at_place new.nodes) xs ≡ filter_map (idle_at_place old.nodes) xs =
        λ xs free. filter_map-same (idle_at_place new.nodes) (idle_at_place old.nodes) xs (λ q h. ap (option_and_then as_idle) (at_other q (not_self q p xs free h))) in
        let lack : (xs : List ℕ) → ((q : ℕ) → IsIn q xs → IsIn q old.idle) → list_any (eqb p) xs ≡ false → find (λ y. y.stamp == e.stamp) (filter_map (idle_at_place old.nodes) xs) ≡ None =
        λ xs all free. lacks old e.stamp xs all (λ q y k h s. true≢false (sym (eq-eqb q p (r.stamps q p y e h d.at s)) ∙ not_self q p xs free k)) places r in
        let old_is : idle_in old ≡ filter_map (idle_at_place old.nodes) a.front ++ x ∷ filter_map (idle_at_place old.nodes) a.back =
        ap (filter_map (idle_at_place old.nodes)) a.whole ∙ filter_map-mid (idle_at_place old.nodes) p a.front a.back
        ∙ ap (λ o. filter_map (idle_at_place old.nodes) a.front ++ cons_option o (filter_map (idle_at_place old.nodes) a.back)) (ap (option_and_then as_idle) d.at ∙ as_idle-ready e w.0 w.2) in
        ap (filter_map (idle_at_place new.nodes)) (d.idle ∙ ap (filter (λ q. not (eqb q p))) a.whole ∙ filter_mid p a.front a.back apart)
        ∙ filter_map-append (idle_at_place new.nodes) a.front a.back
        ∙ ap (λ ys. ys ++ filter_map (idle_at_place new.nodes) a.back) (here a.front parts.0)
        ∙ ap (λ zs. filter_map (idle_at_place old.nodes) a.front ++ zs) (here a.back parts.1)
        ∙ sym (ap (without e.stamp) old_is ∙ without_mid e.stamp x (filter_map (idle_at_place old.nodes) a.front) (filter_map (idle_at_place old.nodes) a.back)
        (lack a.front (λ q k. ap (list_any (eqb q)) a.whole ∙ in_left q a.front (p ∷ a.back) k) parts.0) (eq-eqb e.stamp e.stamp refl)
        (lack a.back (λ q k. ap (list_any (eqb q)) a.whole ∙ in_right q a.front (p ∷ a.back) (in_tail q p a.back k)) parts.1))
