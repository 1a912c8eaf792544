-- One node is written, or one is added: what the nodes stand for.
use Rattle.std.proofs.Common.{◌≡◌, ℕ, ◌⊎◌, inl, inr, Bool, true, false, cond, not, List, [], ◌∷◌, ◌++◌, Option, Some, None, refl, sym, ap, ◌∙◌, subst, eqb, ◌||◌, ◌==◌}
use Rattle.std.specs.List.{list_any, filter, filter_map, cons_option, IsDistinct}
use Rattle.std.specs.Option.{option_and_then}
use Rattle.std.specs.Prelude.{IsSome, is_some}
use Rattle.std.specs.Ordering.{nat_cmp}
use Rattle.std.specs.Cmp.{nat_cmp_total, unsigned_tied, nat_eq_equiv}
use Rattle.std.specs.FinMap.{FinMap, get, insert, remove, from_entries, get-insert, get-from_entries, same_map, nat_cmp-IsAntisymmetric}
use Rattle.std.specs.FinMap.Entries.{find}
use Rattle.std.proofs.lemmas.Bool.{eqb-true, eq-eqb, ne_eqb, true≢false, or_cases}
use Rattle.std.proofs.lemmas.Option.{none-some, same_Some}
use Rattle.std.proofs.lemmas.List.Folds.{list_any-append}
use Rattle.std.proofs.lemmas.List.Elements.{filter_map-append}
use Rattle.std.proofs.lemmas.Map.Keys.{IsDistinct-push}
use Rattle.concurrent_lru.specs.Cache.{Held, ready}
use Rattle.concurrent_lru.specs.NodeTable.{Entry, NodeTable}
use Rattle.concurrent_lru.specs.Representation.{IsRepresentation, idle_in, held_in, idle_at_place, held_at_place, as_idle, as_held}
use Rattle.concurrent_lru.proofs.Lists.DistinctEntries.{same, same-refl, same-true, find-mid, find-cut, from_entries-changed, from_entries-cut, from_entries-push}
use Rattle.concurrent_lru.proofs.Lists.DistinctNumbers.{distinct_parts, distinct_cut, filter_mid, filter_absent}
use Rattle.concurrent_lru.proofs.Lists.Members.{IsIn, in_self, in_tail, in_rest, in_left, in_right, in_filter, not_self, filter_map-same, filter_map-mid}

-- a list around a member
pub record Around (xs : List ℕ) (p : ℕ) : Type 0 where
  pub front : List ℕ
  pub back : List ℕ
  pub whole : xs ≡ front ++ p ∷ back

pub around : (xs : List ℕ) (p : ℕ) → IsIn p xs → Around xs p
around [] p h = absurd (true≢false (sym h))
around (x ∷ xs) p h =
    elim (eqb p x) as (λ t. eqb p x ≡ t → (t || list_any (eqb p) xs) ≡ true → Around (x ∷ xs) p) [
      | true ↦ λ e _. record { front = []; back = xs; whole = ap (λ y. y ∷ xs) (sym (eqb-true p x e)) }
      | false ↦ λ e k. let r = around xs p k in record { front = x ∷ r.front; back = r.back; whole = ap (λ ys. x ∷ ys) r.whole }
    ] refl h

module _ {X : Type 0} where
  pub inserted_at : (m : FinMap nat_cmp X) (p : ℕ) (x : X) → get (insert m p x) p ≡ Some x
  inserted_at m p x = get-insert nat_cmp_total m p x p ∙ ap (λ t. cond t (Some x) (get m p)) (same-refl p)

  pub inserted_other : (m : FinMap nat_cmp X) (p q : ℕ) (x : X) → eqb q p ≡ false → get (insert m p x) q ≡ get m q
  inserted_other m p q x ne = get-insert nat_cmp_total m p x q ∙ ap (λ t. cond t (Some x) (get m q)) (unsigned_tied q p ∙ ne)

  -- what is there then was put there, or was there
  pub inserted_cases : (m : FinMap nat_cmp X) (p q : ℕ) (x y : X) → get (insert m p x) q ≡ Some y → ((q ≡ p) × (y ≡ x)) ⊎ (get m q ≡ Some y)
  inserted_cases m p q x y h = elim (eqb q p) as (λ b. eqb q p ≡ b → ((q ≡ p) × (y ≡ x)) ⊎ (get m q ≡ Some y)) [
    | true ↦ λ b. let here : q ≡ p = eqb-true q p b in inl (here, same_Some _ _ (sym h ∙ ap (get (insert m p x)) here ∙ inserted_at m p x))
    | false ↦ λ b. inr (sym (inserted_other m p q x b) ∙ h)
  ] refl

  merged : (t : Bool) (h : X) (u v : Option X) → (t ≡ true → u ≡ Some h) → v ≡ cond t None u → u ≡ cond t (Some h) v
  merged true h u v is e = is refl
  merged false h u v is e = sym e

  -- one entry more, at a key that is in neither part
  pub from_entries-inserted : (s : ℕ) (x : X) (a b : List (ℕ × X)) → find nat_cmp s a ≡ None → find nat_cmp s b ≡ None → from_entries {R = nat_cmp} (a ++ (s, x) ∷ b) ≡ insert (from_entries {R = nat_cmp} (a ++ b)) s x
  from_entries-inserted s x a b h k = same_map nat_cmp_total nat_cmp-IsAntisymmetric _ _ (λ q.
      get-from_entries nat_cmp_total (a ++ (s, x) ∷ b) q
      ∙ merged (same q s) x (find nat_cmp q (a ++ (s, x) ∷ b)) (find nat_cmp q (a ++ b)) (λ t. subst (λ u. find nat_cmp u (a ++ (s, x) ∷ b) ≡ Some x) (sym (same-true q s t)) (find-mid s x a b h)) (find-cut q s x a b h k)
      ∙ ap (cond (same q s) (Some x)) (sym (get-from_entries nat_cmp_total (a ++ b) q))
      ∙ sym (get-insert nat_cmp_total (from_entries {R = nat_cmp} (a ++ b)) s x q))

module _ {K V : Type 0} where
  -- no held entry of these places has the stamp
  pub absent_stamp : (m : FinMap nat_cmp (Entry K V)) (s : ℕ) (xs : List ℕ) → ((q : ℕ) (x : Entry K V) → IsIn q xs → get m q ≡ Some x → x.stamp ≡ s → ⊥) → find nat_cmp s (filter_map (held_at_place m) xs) ≡ None
  absent_stamp m s [] h = refl
  absent_stamp m s (q ∷ xs) h =
      let rest = absent_stamp m s xs (λ t x k. h t x (in_tail t q xs k)) in
      elim (get m q) as (λ o. get m q ≡ o → find nat_cmp s (cons_option (option_and_then as_held o) (filter_map (held_at_place m) xs)) ≡ None) [
        | None ↦ λ e. rest
        | Some x ↦ λ e. elim (x.pins == 0) as (λ t. find nat_cmp s (cons_option (cond t None (Some (x.stamp, record { key = x.key; charge = x.charge; pins = x.pins; detached = x.detached; phase = x.phase }))) (filter_map (held_at_place m) xs)) ≡ None) [
          | true ↦ rest
          | false ↦ elim (same s x.stamp) as (λ u. same s x.stamp ≡ u → cond u (Some (record { key = x.key; charge = x.charge; pins = x.pins; detached = x.detached; phase = x.phase })) (find nat_cmp s (filter_map (held_at_place m) xs)) ≡ None) [
            | true ↦ λ u. absurd (h q x (in_self q xs) e (sym (same-true s x.stamp u)))
            | false ↦ λ u. rest
          ] refl
        ]
      ] refl

  pub as_held-some : (e : Entry K V) → (e.pins == 0) ≡ false → as_held e ≡ Some (e.stamp, record { key = e.key; charge = e.charge; pins = e.pins; detached = e.detached; phase = e.phase })
  as_held-some e h = ap (λ t. cond t None (Some (e.stamp, record { key = e.key; charge = e.charge; pins = e.pins; detached = e.detached; phase = e.phase }))) h

  pub as_held-none : (e : Entry K V) → (e.pins == 0) ≡ true → as_held e ≡ None
  as_held-none e h = ap (λ t. cond t None (Some (e.stamp, record { key = e.key; charge = e.charge; pins = e.pins; detached = e.detached; phase = e.phase }))) h

  -- the parts beside a place lack its stamp
  pub parts_lack : (table : NodeTable K V) (places : List ℕ) (p : ℕ) (e : Entry K V) → IsRepresentation table places → get table.nodes p ≡ Some e → (r : Around places p) → (find nat_cmp e.stamp (filter_map (held_at_place table.nodes) r.front) ≡ None) × (find nat_cmp e.stamp (filter_map (held_at_place table.nodes) r.back) ≡ None)
  parts_lack table places p e represents at r =
      let parts = distinct_parts p r.front r.back (subst (IsDistinct eqb) r.whole represents.places_apart) in
      let lack : (xs : List ℕ) → list_any (eqb p) xs ≡ false → find nat_cmp e.stamp (filter_map (held_at_place table.nodes) xs) ≡ None =
      λ xs free. absent_stamp table.nodes e.stamp xs (λ q x k h s. true≢false (sym (eq-eqb q p (represents.stamps q p x e h at s)) ∙ not_self q p xs free k)) in
      (lack r.front parts.0, lack r.back parts.1)

  -- a held node is found under its stamp
  pub held_in-get : (table : NodeTable K V) (places : List ℕ) (p : ℕ) (e : Entry K V) → IsRepresentation table places → get table.nodes p ≡ Some e → (e.pins == 0) ≡ false → get (held_in table places) e.stamp ≡ Some (record { key = e.key; charge = e.charge; pins = e.pins; detached = e.detached; phase = e.phase })
  held_in-get table places p e represents at pinned =
      let r = around places p (represents.all_places p e at) in
      let lack = parts_lack table places p e represents at r in
      get-from_entries nat_cmp_total (filter_map (held_at_place table.nodes) places) e.stamp
      ∙ ap (find nat_cmp e.stamp) (ap (filter_map (held_at_place table.nodes)) r.whole ∙ filter_map-mid (held_at_place table.nodes) p r.front r.back
      ∙ ap (λ o. filter_map (held_at_place table.nodes) r.front ++ cons_option o (filter_map (held_at_place table.nodes) r.back)) (ap (option_and_then as_held) at ∙ as_held-some e pinned))
      ∙ find-mid e.stamp (record { key = e.key; charge = e.charge; pins = e.pins; detached = e.detached; phase = e.phase }) (filter_map (held_at_place table.nodes) r.front) (filter_map (held_at_place table.nodes) r.back) lack.0

  -- what is found under a stamp is a held node
  pub record IsNode (table : NodeTable K V) (s : ℕ) (h : Held K V) : Type 0 where
    pub place : ℕ
    pub entry : Entry K V
    pub at : get table.nodes place ≡ Some entry
    pub stamp : entry.stamp ≡ s
    pub pinned : (entry.pins == 0) ≡ false
    pub held : h ≡ record { key = entry.key; charge = entry.charge; pins = entry.pins; detached = entry.detached; phase = entry.phase }

  found_node : (table : NodeTable K V) (xs : List ℕ) (s : ℕ) (h : Held K V) → find nat_cmp s (filter_map (held_at_place table.nodes) xs) ≡ Some h → IsNode table s h
  found_node table [] s h e = absurd (none-some h e)
  found_node table (q ∷ xs) s h e =
      elim (get table.nodes q) as (λ o. get table.nodes q ≡ o → find nat_cmp s (cons_option (option_and_then as_held o) (filter_map (held_at_place table.nodes) xs)) ≡ Some h → IsNode table s h) [
        | None ↦ λ o k. found_node table xs s h k
        | Some x ↦ λ o. elim (x.pins == 0) as (λ t. (x.pins == 0) ≡ t → find nat_cmp s (cons_option (cond t None (Some (x.stamp, record { key = x.key; charge = x.charge; pins = x.pins; detached = x.detached; phase = x.phase }))) (filter_map (held_at_place table.nodes) xs)) ≡ Some h → IsNode table s h) [
          | true ↦ λ t k. found_node table xs s h k
          | false ↦ λ t. elim (same s x.stamp) as (λ u. same s x.stamp ≡ u → cond u (Some (record { key = x.key; charge = x.charge; pins = x.pins; detached = x.detached; phase = x.phase })) (find nat_cmp s (filter_map (held_at_place table.nodes) xs)) ≡ Some h → IsNode table s h) [
            | true ↦ λ u k. record { place = q; entry = x; at = o; stamp = sym (same-true s x.stamp u); pinned = t; held = sym (same_Some _ _ k) }
            | false ↦ λ u k. found_node table xs s h k
          ] refl
        ] refl
      ] refl e

  pub held_in-found : (table : NodeTable K V) (places : List ℕ) (s : ℕ) (h : Held K V) → get (held_in table places) s ≡ Some h → IsNode table s h
  held_in-found table places s h e = found_node table places s h (sym (get-from_entries nat_cmp_total (filter_map (held_at_place table.nodes) places) s) ∙ e)

  -- one node is written, and keeps its stamp
  pub record WritesNode (old new : NodeTable K V) (p : ℕ) (e f : Entry K V) : Type 0 where
    pub at : get old.nodes p ≡ Some e
    pub nodes : new.nodes ≡ insert old.nodes p f
    pub stamp : f.stamp ≡ e.stamp

  module _ {old new : NodeTable K V} {places : List ℕ} {p : ℕ} {e f : Entry K V} (r : IsRepresentation old places) (w : WritesNode old new p e f) where
    at_written : get new.nodes p ≡ Some f
    at_written = ap (λ m. get m p) w.nodes ∙ inserted_at old.nodes p f

    at_other : (q : ℕ) → eqb q p ≡ false → get new.nodes q ≡ get old.nodes q
    at_other q ne = ap (λ m. get m q) w.nodes ∙ inserted_other old.nodes p q f ne

    -- what stood where something stands now
    record Was (q : ℕ) (x : Entry K V) : Type 0 where
      entry : Entry K V
      at : get old.nodes q ≡ Some entry
      stamp : x.stamp ≡ entry.stamp
      which : ((q ≡ p) × (x ≡ f)) ⊎ ((eqb q p ≡ false) × (x ≡ entry))

    was : (q : ℕ) (x : Entry K V) → get new.nodes q ≡ Some x → Was q x
    was q x h = elim (eqb q p) as (λ t. eqb q p ≡ t → Was q x) [
      | true ↦ λ t.
          let here : q ≡ p = eqb-true q p t in
          let is : x ≡ f = same_Some _ _ (sym h ∙ ap (get new.nodes) here ∙ at_written) in
          record { entry = e; at = ap (get old.nodes) here ∙ w.at; stamp = ap (λ y. y.stamp) is ∙ w.stamp; which = inl (here, is) }
      | false ↦ λ t. record { entry = x; at = sym (at_other q t) ∙ h; stamp = refl; which = inr (t, refl) }
    ] refl

    still : (q : ℕ) → IsSome (get old.nodes q) → IsSome (get new.nodes q)
    still q h = elim (eqb q p) as (λ t. eqb q p ≡ t → IsSome (get new.nodes q)) [
      | true ↦ λ t. ap is_some (ap (get new.nodes) (eqb-true q p t) ∙ at_written)
      | false ↦ λ t. ap is_some (at_other q t) ∙ h
    ] refl

    injective : (q t : ℕ) (x y : Entry K V) → get new.nodes q ≡ Some x → get new.nodes t ≡ Some y → x.stamp ≡ y.stamp → q ≡ t
    injective q t x y h k s = let a = was q x h in let b = was t y k in r.stamps q t a.entry b.entry a.at b.at (sym a.stamp ∙ s ∙ b.stamp)

    everywhere : (q : ℕ) (x : Entry K V) → get new.nodes q ≡ Some x → IsIn q places
    everywhere q x h = let a = was q x h in r.all_places q a.entry a.at

    -- the places, around the one
    place_around : Around places p
    place_around = around places p (r.all_places p e w.at)

    same_beside : (xs : List ℕ) → list_any (eqb p) xs ≡ false → filter_map (held_at_place new.nodes) xs ≡ filter_map (held_at_place old.nodes) xs
    same_beside xs free = filter_map-same (held_at_place new.nodes) (held_at_place old.nodes) xs (λ q h. ap (option_and_then as_held) (at_other q (not_self q p xs free h)))

    old_pairs : filter_map (held_at_place old.nodes) places ≡ filter_map (held_at_place old.nodes) place_around.front ++ cons_option (as_held e) (filter_map (held_at_place old.nodes) place_around.back)
    old_pairs =
        ap (filter_map (held_at_place old.nodes)) place_around.whole ∙ filter_map-mid (held_at_place old.nodes) p place_around.front place_around.back
        ∙ ap (λ o. filter_map (held_at_place old.nodes) place_around.front ++ cons_option (option_and_then as_held o) (filter_map (held_at_place old.nodes) place_around.back)) w.at

    new_pairs : filter_map (held_at_place new.nodes) places ≡ filter_map (held_at_place old.nodes) place_around.front ++ cons_option (as_held f) (filter_map (held_at_place old.nodes) place_around.back)
    new_pairs =
        let parts = distinct_parts p place_around.front place_around.back (subst (IsDistinct eqb) place_around.whole r.places_apart) in
        ap (filter_map (held_at_place new.nodes)) place_around.whole ∙ filter_map-mid (held_at_place new.nodes) p place_around.front place_around.back
        ∙ ap (λ o. filter_map (held_at_place new.nodes) place_around.front ++ cons_option (option_and_then as_held o) (filter_map (held_at_place new.nodes) place_around.back)) at_written
        ∙ ap (λ xs. xs ++ cons_option (as_held f) (filter_map (held_at_place new.nodes) place_around.back)) (same_beside place_around.front parts.0)
        ∙ ap (λ ys. filter_map (held_at_place old.nodes) place_around.front ++ cons_option (as_held f) ys) (same_beside place_around.back parts.1)

    lack : (find nat_cmp e.stamp (filter_map (held_at_place old.nodes) place_around.front) ≡ None) × (find nat_cmp e.stamp (filter_map (held_at_place old.nodes) place_around.back) ≡ None)
    lack = parts_lack old places p e r w.at place_around

    -- held before and after
    pub written_held : (e.pins == 0) ≡ false → (f.pins == 0) ≡ false → held_in new places ≡ insert (held_in old places) e.stamp (record { key = f.key; charge = f.charge; pins = f.pins; detached = f.detached; phase = f.phase })
    written_held h k =
        let a = filter_map (held_at_place old.nodes) place_around.front in
        let b = filter_map (held_at_place old.nodes) place_around.back in
        ap from_entries (new_pairs ∙ ap (λ o. a ++ cons_option o b) (as_held-some f k) ∙ ap (λ s. a ++ (s, record { key = f.key; charge = f.charge; pins = f.pins; detached = f.detached; phase = f.phase }) ∷ b) w.stamp)
        ∙ from_entries-changed e.stamp (record { key = e.key; charge = e.charge; pins = e.pins; detached = e.detached; phase = e.phase }) (record { key = f.key; charge = f.charge; pins = f.pins; detached = f.detached; phase = f.phase }) a b lack.0
        ∙ ap (λ es. insert (from_entries es) e.stamp (record { key = f.key; charge = f.charge; pins = f.pins; detached = f.detached; phase = f.phase })) (sym (old_pairs ∙ ap (λ o. a ++ cons_option o b) (as_held-some e h)))

    -- idle before, held after
    pub revived_held : (e.pins == 0) ≡ true → (f.pins == 0) ≡ false → held_in new places ≡ insert (held_in old places) e.stamp (record { key = f.key; charge = f.charge; pins = f.pins; detached = f.detached; phase = f.phase })
    revived_held h k =
        let a = filter_map (held_at_place old.nodes) place_around.front in
        let b = filter_map (held_at_place old.nodes) place_around.back in
        ap from_entries (new_pairs ∙ ap (λ o. a ++ cons_option o b) (as_held-some f k) ∙ ap (λ s. a ++ (s, record { key = f.key; charge = f.charge; pins = f.pins; detached = f.detached; phase = f.phase }) ∷ b) w.stamp)
        ∙ from_entries-inserted e.stamp (record { key = f.key; charge = f.charge; pins = f.pins; detached = f.detached; phase = f.phase }) a b lack.0 lack.1
        ∙ ap (λ es. insert (from_entries es) e.stamp (record { key = f.key; charge = f.charge; pins = f.pins; detached = f.detached; phase = f.phase })) (sym (old_pairs ∙ ap (λ o. a ++ cons_option o b) (as_held-none e h)))

    -- held before, idle after
    pub rested_held : (e.pins == 0) ≡ false → (f.pins == 0) ≡ true → held_in new places ≡ remove (held_in old places) e.stamp
    rested_held h k =
        let a = filter_map (held_at_place old.nodes) place_around.front in
        let b = filter_map (held_at_place old.nodes) place_around.back in
        ap from_entries (new_pairs ∙ ap (λ o. a ++ cons_option o b) (as_held-none f k))
        ∙ from_entries-cut e.stamp (record { key = e.key; charge = e.charge; pins = e.pins; detached = e.detached; phase = e.phase }) a b lack.0 lack.1
        ∙ ap (λ es. remove (from_entries es) e.stamp) (sym (old_pairs ∙ ap (λ o. a ++ cons_option o b) (as_held-some e h)))

    -- a held node is written and stays held
    pub written_represents : new.idle ≡ old.idle → (e.pins == 0) ≡ false → (f.pins == 0) ≡ false → IsRepresentation new places
    written_represents same_idle h k = record {
      places_apart = r.places_apart;
      places_kept = λ q m. still q (r.places_kept q m);
      all_places = everywhere;
      idle_apart = subst (IsDistinct eqb) (sym same_idle) r.idle_apart;
      idle_ready = λ q m.
          let i = r.idle_ready q (ap (list_any (eqb q)) (sym same_idle) ∙ m) in
          let ne : eqb q p ≡ false = ne_eqb q p (λ is. true≢false (sym (eq-eqb i.0.pins 0 i.3) ∙ ap (λ y. y.pins == 0) (same_Some _ _ (sym i.2 ∙ ap (get old.nodes) is ∙ w.at)) ∙ h)) in
          (i.0, i.1, at_other q ne ∙ i.2, i.3, i.4);
      resting = λ q x m z.
          let a = was q x m in
          elim a.which [
            | inl s ↦ absurd (true≢false (sym (eq-eqb x.pins 0 z) ∙ ap (λ y. y.pins == 0) s.1 ∙ k))
            | inr s ↦ ap (list_any (eqb q)) same_idle ∙ r.resting q a.entry a.at (ap (λ y. y.pins) (sym s.1) ∙ z)
          ];
      stamps = injective;
    }

    pub written_idle : new.idle ≡ old.idle → (e.pins == 0) ≡ false → idle_in new ≡ idle_in old
    written_idle same_idle h =
        ap (filter_map (idle_at_place new.nodes)) same_idle
        ∙ filter_map-same (idle_at_place new.nodes) (idle_at_place old.nodes) old.idle (λ q m.
        let i = r.idle_ready q m in
        ap (option_and_then as_idle) (at_other q (ne_eqb q p (λ is. true≢false (sym (eq-eqb i.0.pins 0 i.3) ∙ ap (λ y. y.pins == 0) (same_Some _ _ (sym i.2 ∙ ap (get old.nodes) is ∙ w.at)) ∙ h)))))

    -- a held node comes to rest, as the newest idle one
    pub rested_represents : (v : V) → new.idle ≡ old.idle ++ p ∷ [] → (e.pins == 0) ≡ false → f.pins ≡ 0 → f.phase ≡ ready v → IsRepresentation new places
    rested_represents v more h z ph = record {
      places_apart = r.places_apart;
      places_kept = λ q m. still q (r.places_kept q m);
      all_places = everywhere;
      idle_apart = subst (IsDistinct eqb) (sym more) (IsDistinct-push nat_eq_equiv old.idle p r.idle_apart not_yet_idle);
      idle_ready = λ q m.
          elim (eqb q p) as (λ t. eqb q p ≡ t → (x : Entry K V) × (u : V) × (get new.nodes q ≡ Some x) × (x.pins ≡ 0) × (x.phase ≡ ready u)) [
            | true ↦ λ t. (f, v, ap (get new.nodes) (eqb-true q p t) ∙ at_written, z, ph)
            | false ↦ λ t.
                let i = r.idle_ready q (elim (or_cases (list_any (eqb q) old.idle) (list_any (eqb q) (p ∷ [])) (sym (list_any-append (eqb q) old.idle (p ∷ [])) ∙ ap (list_any (eqb q)) (sym more) ∙ m)) [
                  | inl a ↦ a
                  | inr b ↦ absurd (true≢false (sym (in_rest q p [] b t)))
                ]) in
                (i.0, i.1, at_other q t ∙ i.2, i.3, i.4)
          ] refl;
      resting = λ q x m n.
          let a = was q x m in
          ap (list_any (eqb q)) more ∙ elim a.which [
            | inl s ↦ in_right q old.idle (p ∷ []) (subst (λ t. IsIn t (p ∷ [])) (sym s.0) (in_self p []))
            | inr s ↦ in_left q old.idle (p ∷ []) (r.resting q a.entry a.at (ap (λ y. y.pins) (sym s.1) ∙ n))
          ];
      stamps = injective;
    }
      where
        not_yet_idle : list_any (eqb p) old.idle ≡ false
        not_yet_idle = Rattle.std.proofs.lemmas.Bool.false_from_ne_true (list_any (eqb p) old.idle) (λ m.
            let i = r.idle_ready p m in
            true≢false (sym (eq-eqb i.0.pins 0 i.3) ∙ ap (λ y. y.pins == 0) (same_Some _ _ (sym i.2 ∙ w.at)) ∙ h))

    pub rested_idle : (v : V) → new.idle ≡ old.idle ++ p ∷ [] → (e.pins == 0) ≡ false → f.phase ≡ ready v → idle_in new ≡ idle_in old ++ record { stamp = f.stamp; key = f.key; charge = f.charge; value = v } ∷ []
    rested_idle v more h ph =
        ap (filter_map (idle_at_place new.nodes)) more ∙ filter_map-append (idle_at_place new.nodes) old.idle (p ∷ [])
        ∙ ap (λ xs. xs ++ cons_option (idle_at_place new.nodes p) []) (filter_map-same (idle_at_place new.nodes) (idle_at_place old.nodes) old.idle (λ q m.
        let i = r.idle_ready q m in
        ap (option_and_then as_idle) (at_other q (ne_eqb q p (λ is. true≢false (sym (eq-eqb i.0.pins 0 i.3) ∙ ap (λ y. y.pins == 0) (same_Some _ _ (sym i.2 ∙ ap (get old.nodes) is ∙ w.at)) ∙ h))))))
        ∙ ap (λ o. idle_in old ++ cons_option (option_and_then as_idle o) []) at_written
        ∙ ap (λ g. idle_in old ++ cons_option (as_idle (record f { phase = g })) []) ph

module _ {K V : Type 0} where
  -- the same nodes and idle places, whatever the room and the work
  pub represents_same : (old new : NodeTable K V) (places places' : List ℕ) → new.nodes ≡ old.nodes → new.idle ≡ old.idle → places' ≡ places → IsRepresentation old places → IsRepresentation new places'
  represents_same old new places places' m i p r =
      let here : IsRepresentation (record { nodes = new.nodes; hashes = new.hashes; links = new.links; idle = old.idle; spare = new.spare; work = new.work; looks = new.looks }) places = subst (λ (n : FinMap nat_cmp (Entry K V)). IsRepresentation (record { nodes = n; hashes = new.hashes; links = new.links; idle = old.idle; spare = new.spare; work = new.work; looks = new.looks }) places) (sym m) (represents_spare r) in
      let there : IsRepresentation new places = subst (λ (n : List ℕ). IsRepresentation (record { nodes = new.nodes; hashes = new.hashes; links = new.links; idle = n; spare = new.spare; work = new.work; looks = new.looks }) places) (sym i) here in
      subst (IsRepresentation new) (sym p) there
    where
      represents_spare : IsRepresentation old places → IsRepresentation (record { nodes = old.nodes; hashes = new.hashes; links = new.links; idle = old.idle; spare = new.spare; work = new.work; looks = new.looks }) places
      represents_spare r = record { places_apart = r.places_apart; places_kept = r.places_kept; all_places = r.all_places; idle_apart = r.idle_apart; idle_ready = r.idle_ready; resting = r.resting; stamps = r.stamps }

  pub record Adds (old new : NodeTable K V) (places rest : List ℕ) (p : ℕ) (e : Entry K V) : Type 0 where
    pub free : get old.nodes p ≡ None
    pub nodes : new.nodes ≡ insert old.nodes p e
    pub idle : new.idle ≡ old.idle
    pub more : rest ≡ places ++ p ∷ []
    pub pins : e.pins ≡ 1
    pub fresh : (q : ℕ) (x : Entry K V) → get old.nodes q ≡ Some x → x.stamp ≡ e.stamp → ⊥

  module _ {old new : NodeTable K V} {places rest : List ℕ} {p : ℕ} {e : Entry K V} (r : IsRepresentation old places) (a : Adds old new places rest p e) where
    place_free : list_any (eqb p) places ≡ false
    place_free = Rattle.std.proofs.lemmas.Bool.false_from_ne_true (list_any (eqb p) places) (λ m. true≢false (sym (r.places_kept p m) ∙ ap is_some a.free))

    idle_free' : list_any (eqb p) old.idle ≡ false
    idle_free' = Rattle.std.proofs.lemmas.Bool.false_from_ne_true (list_any (eqb p) old.idle) (λ m. let i = r.idle_ready p m in none-some i.0 (sym a.free ∙ i.2))

    added_at : get new.nodes p ≡ Some e
    added_at = ap (λ m. get m p) a.nodes ∙ inserted_at old.nodes p e

    added_other : (q : ℕ) → eqb q p ≡ false → get new.nodes q ≡ get old.nodes q
    added_other q ne = ap (λ m. get m q) a.nodes ∙ inserted_other old.nodes p q e ne

    pinned' : (e.pins == 0) ≡ false
    pinned' = ap (λ n. n == 0) a.pins

    which' : (q : ℕ) (x : Entry K V) → get new.nodes q ≡ Some x → ((q ≡ p) × (x ≡ e)) ⊎ ((eqb q p ≡ false) × (get old.nodes q ≡ Some x))
    which' q x h = elim (eqb q p) as (λ t. eqb q p ≡ t → ((q ≡ p) × (x ≡ e)) ⊎ ((eqb q p ≡ false) × (get old.nodes q ≡ Some x))) [
      | true ↦ λ t. let here : q ≡ p = eqb-true q p t in inl (here, same_Some _ _ (sym h ∙ ap (get new.nodes) here ∙ added_at))
      | false ↦ λ t. inr (t, sym (added_other q t) ∙ h)
    ] refl

    pub added_represents : IsRepresentation new rest
    added_represents = record {
      places_apart = subst (IsDistinct eqb) (sym a.more) (IsDistinct-push nat_eq_equiv places p r.places_apart place_free);
      places_kept = λ q m. elim (eqb q p) as (λ t. eqb q p ≡ t → IsSome (get new.nodes q)) [
        | true ↦ λ t. ap is_some (ap (get new.nodes) (eqb-true q p t) ∙ added_at)
        | false ↦ λ t. ap is_some (added_other q t) ∙ r.places_kept q (elim (or_cases (list_any (eqb q) places) (list_any (eqb q) (p ∷ [])) (sym (list_any-append (eqb q) places (p ∷ [])) ∙ ap (list_any (eqb q)) (sym a.more) ∙ m)) [
          | inl k ↦ k
          | inr k ↦ absurd (true≢false (sym (in_rest q p [] k t)))
        ])
      ] refl;
      all_places = λ q x h. ap (list_any (eqb q)) a.more ∙ elim (which' q x h) [
        | inl s ↦ in_right q places (p ∷ []) (subst (λ t. IsIn t (p ∷ [])) (sym s.0) (in_self p []))
        | inr s ↦ in_left q places (p ∷ []) (r.all_places q x s.1)
      ];
      idle_apart = subst (IsDistinct eqb) (sym a.idle) r.idle_apart;
      idle_ready = λ q m.
          let m' : IsIn q old.idle = ap (list_any (eqb q)) (sym a.idle) ∙ m in
          let i = r.idle_ready q m' in
          (i.0, i.1, added_other q (not_self q p old.idle idle_free' m') ∙ i.2, i.3, i.4);
      resting = λ q x h z. ap (list_any (eqb q)) a.idle ∙ elim (which' q x h) [
        | inl s ↦ absurd (true≢false (sym (eq-eqb x.pins 0 z) ∙ ap (λ y. y.pins == 0) s.1 ∙ pinned'))
        | inr s ↦ r.resting q x s.1 z
      ];
      stamps = λ q t x y h k s. elim (which' q x h) [
        | inl u ↦ elim (which' t y k) [
          | inl v ↦ u.0 ∙ sym v.0
          | inr v ↦ absurd (a.fresh t y v.1 (sym s ∙ ap (λ z. z.stamp) u.1))
        ]
        | inr u ↦ elim (which' t y k) [
          | inl v ↦ absurd (a.fresh q x u.1 (s ∙ ap (λ z. z.stamp) v.1))
          | inr v ↦ r.stamps q t x y u.1 v.1 s
        ]
      ];
    }

    pub added_idle : idle_in new ≡ idle_in old
    added_idle =
        ap (filter_map (idle_at_place new.nodes)) a.idle
        ∙ filter_map-same (idle_at_place new.nodes) (idle_at_place old.nodes) old.idle (λ q m. ap (option_and_then as_idle) (added_other q (not_self q p old.idle idle_free' m)))

    pub added_held : held_in new rest ≡ insert (held_in old places) e.stamp (record { key = e.key; charge = e.charge; pins = e.pins; detached = e.detached; phase = e.phase })
    added_held =
        let pairs = filter_map (held_at_place old.nodes) places in
        let here : filter_map (held_at_place new.nodes) rest ≡ pairs ++ (e.stamp, record { key = e.key; charge = e.charge; pins = e.pins; detached = e.detached; phase = e.phase }) ∷ [] =
        ap (filter_map (held_at_place new.nodes)) a.more ∙ filter_map-append (held_at_place new.nodes) places (p ∷ [])
        ∙ ap (λ xs. xs ++ cons_option (held_at_place new.nodes p) []) (filter_map-same (held_at_place new.nodes) (held_at_place old.nodes) places (λ q m. ap (option_and_then as_held) (added_other q (not_self q p places place_free m))))
        ∙ ap (λ o. pairs ++ cons_option (option_and_then as_held o) []) added_at
        ∙ ap (λ o. pairs ++ cons_option o []) (as_held-some e pinned') in
        ap from_entries here ∙ from_entries-push e.stamp (record { key = e.key; charge = e.charge; pins = e.pins; detached = e.detached; phase = e.phase }) pairs (absent_stamp old.nodes e.stamp places (λ q x m h s. a.fresh q x h s))

module _ {K V : Type 0} {old new : NodeTable K V} {places : List ℕ} {p : ℕ} {e f : Entry K V} (r : IsRepresentation old places) (w : WritesNode old new p e f) where
  -- an idle node is held again
  pub revived_represents : new.idle ≡ filter (λ q. not (eqb q p)) old.idle → (f.pins == 0) ≡ false → IsRepresentation new places
  revived_represents less k = record {
    places_apart = r.places_apart;
    places_kept = λ q m. still r w q (r.places_kept q m);
    all_places = everywhere r w;
    idle_apart = subst (IsDistinct eqb) (sym less) (Rattle.concurrent_lru.proofs.Lists.DistinctNumbers.IsDistinct-filter p old.idle r.idle_apart);
    idle_ready = λ q m.
        let m' : IsIn q (filter (λ t. not (eqb t p)) old.idle) = ap (list_any (eqb q)) (sym less) ∙ m in
        let i = r.idle_ready q (Rattle.concurrent_lru.proofs.Lists.DistinctNumbers.list_any-from_filter p q old.idle m') in
        (i.0, i.1, at_other r w q (not_self q p (filter (λ t. not (eqb t p)) old.idle) (Rattle.concurrent_lru.proofs.Lists.DistinctNumbers.list_any-filter_self p old.idle) m') ∙ i.2, i.3, i.4);
    resting = λ q x m z.
        let a = was r w q x m in
        elim a.which [
          | inl s ↦ absurd (true≢false (sym (eq-eqb x.pins 0 z) ∙ ap (λ y. y.pins == 0) s.1 ∙ k))
          | inr s ↦ ap (list_any (eqb q)) less ∙ in_filter q p old.idle (r.resting q a.entry a.at (ap (λ y. y.pins) (sym s.1) ∙ z)) s.0
        ];
    stamps = injective r w;
  }

  pub other_idle : (xs : List ℕ) → list_any (eqb p) xs ≡ false → filter_map (idle_at_place new.nodes) xs ≡ filter_map (idle_at_place old.nodes) xs
  other_idle xs free = filter_map-same (idle_at_place new.nodes) (idle_at_place old.nodes) xs (λ q h. ap (option_and_then as_idle) (at_other r w q (not_self q p xs free h)))
