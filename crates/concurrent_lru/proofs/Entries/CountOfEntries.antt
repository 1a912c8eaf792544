-- A table has as many entries as nodes: each node is idle or held.
use Rattle.std.proofs.Common.{◌≡◌, ℕ, suc, ◌+◌, Bool, true, false, cond, not, List, [], ◌∷◌, length, Option, Some, None, refl, sym, ap, ◌∙◌, eqb, ◌==◌, ◌&&◌, arith}
use Rattle.std.specs.Prelude.{is_some, IsSome}
use Rattle.std.specs.List.{list_any, IsDistinct, AllByRecursion, filter, filter_map, cons_option}
use Rattle.std.specs.Option.{option_and_then}
use Rattle.std.specs.Ordering.{nat_cmp}
use Rattle.std.specs.Cmp.{nat_cmp_total, nat_eq_equiv}
use Rattle.std.specs.FinMap.{get, insert, keys, values, entries, len, from_entries, get-from_entries, len-empty, len-entries, len-insert}
use Rattle.std.proofs.lemmas.Bool.{eqb-true, eq-eqb, true≢false}
use Rattle.std.proofs.lemmas.List.{length-map}
use Rattle.std.proofs.lemmas.List.Filters.{length-filter_both}
use Rattle.std.proofs.lemmas.Map.Made.{length-from_same_keys}
use Rattle.std.proofs.lemmas.Map.Views.{any-filter_same}
use Rattle.concurrent_lru.specs.Cache.{Held}
use Rattle.concurrent_lru.specs.NodeTable.{Entry, NodeTable}
use Rattle.concurrent_lru.specs.Representation.{IsRepresentation, idle_in, held_in, idle_at_place, held_at_place, as_idle, as_held, held_entry}
use Rattle.concurrent_lru.proofs.Entries.NodesOfSetAndAdd.{absent_stamp, as_held-some, as_held-none}
use Rattle.concurrent_lru.proofs.Entries.SumsOfCharges.{absent_in}
use Rattle.concurrent_lru.proofs.Lists.Members.{IsIn, in_self, in_tail}
use Rattle.concurrent_lru.proofs.Steps.BeginOfAbsent.{as_idle-ready}

both_alike : (a b : Bool) → (a ≡ true → b ≡ true) → (b ≡ true → a ≡ true) → a ≡ b
both_alike true b h k = sym (h refl)
both_alike false true h k = k refl
both_alike false false h k = refl

-- what a filter leaves of distinct numbers
filter_apart : (f : ℕ → Bool) (x : ℕ) (xs : List ℕ) → AllByRecursion (λ y. eqb x y ≡ false) xs → AllByRecursion (λ y. eqb x y ≡ false) (filter f xs)
filter_apart f x [] h = tt
filter_apart f x (y ∷ ys) h =
    elim (f y) as (λ b. AllByRecursion (λ z. eqb x z ≡ false) (cond b (y ∷ filter f ys) (filter f ys))) [ true ↦ (h.0, filter_apart f x ys h.1) | false ↦ filter_apart f x ys h.1 ]

filter_distinct : (f : ℕ → Bool) (xs : List ℕ) → IsDistinct eqb xs → IsDistinct eqb (filter f xs)
unfolding IsDistinct
filter_distinct f [] h = tt
filter_distinct f (x ∷ xs) h =
    elim (f x) as (λ b. IsDistinct eqb (cond b (x ∷ filter f xs) (filter f xs))) [ true ↦ (filter_apart f x xs h.0, filter_distinct f xs h.1) | false ↦ filter_distinct f xs h.1 ]

module _ {K V : Type 0} (t : NodeTable K V) where
  -- an entry as a held one under its stamp, by whether it has no pin
  abbrev held_unless : Bool → Entry K V → Option (ℕ × Held K V)
  held_unless none x = cond none None (Some (x.stamp, held_entry x))

  -- the node at the place has a pin; it has none
  abbrev is_pinned : ℕ → Bool
  is_pinned q = is_some (held_at_place t.nodes q)

  abbrev is_unpinned : ℕ → Bool
  is_unpinned q = not (is_pinned q)

  module _ {places : List ℕ} (r : IsRepresentation t places) where
    -- the held entries are those of the places with a pin
    held_along : (xs : List ℕ) → IsDistinct eqb xs → len (from_entries {R = nat_cmp} (filter_map (held_at_place t.nodes) xs)) ≡ length (filter is_pinned xs)
    unfolding IsDistinct
    held_along [] d = len-empty nat_cmp (Held K V)
    held_along (q ∷ xs) d =
        let pairs = filter_map (held_at_place t.nodes) xs in
        let rest = held_along xs d.1 in
        elim (get t.nodes q) as (λ o. get t.nodes q ≡ o → len (from_entries {R = nat_cmp} (cons_option (option_and_then as_held o) pairs)) ≡ length (cond (is_some (option_and_then as_held o)) (q ∷ filter is_pinned xs) (filter is_pinned xs))) [
          | None ↦ λ e. rest
          | Some x ↦ λ e. elim (x.pins == 0) as (λ b. len (from_entries {R = nat_cmp} (cons_option (held_unless b x) pairs)) ≡ length (cond (is_some (held_unless b x)) (q ∷ filter is_pinned xs) (filter is_pinned xs))) [
            | true ↦ rest
            | false ↦
                let free : get (from_entries {R = nat_cmp} pairs) x.stamp ≡ None =
                get-from_entries nat_cmp_total pairs x.stamp ∙ absent_stamp t.nodes x.stamp xs (λ p y m h s. absent_in q xs d.0 (ap (λ k. list_any (eqb k) xs) (r.stamps q p x y e h (sym s)) ∙ m)) in
                let more : len (insert (from_entries {R = nat_cmp} pairs) x.stamp (held_entry x)) ≡ len (from_entries {R = nat_cmp} pairs) + 1 = len-insert nat_cmp_total (from_entries {R = nat_cmp} pairs) x.stamp (held_entry x) ∙ ap (λ o. cond (is_some o) (len (from_entries {R = nat_cmp} pairs)) (len (from_entries {R = nat_cmp} pairs) + 1)) free in
                omega (arith, more, rest)
          ]
        ] refl

    -- an idle place has an idle entry
    idle_along : (xs : List ℕ) → ((q : ℕ) → IsIn q xs → IsIn q t.idle) → length (filter_map (idle_at_place t.nodes) xs) ≡ length xs
    idle_along [] all = refl
    idle_along (q ∷ xs) all =
        let w = r.idle_ready q (all q (in_self q xs)) in
        ap (λ o. length (cons_option o (filter_map (idle_at_place t.nodes) xs))) (ap (option_and_then as_idle) w.2 ∙ as_idle-ready w.0 w.1 w.4)
        ∙ ap suc (idle_along xs (λ p m. all p (in_tail p q xs m)))

    -- the idle places are those of the nodes without a pin
    unpinned_at : (q : ℕ) → IsIn q t.idle → (list_any (eqb q) places ≡ true) × (is_unpinned q ≡ true)
    unpinned_at q m =
        let w = r.idle_ready q m in
        (r.all_places q w.0 w.2, ap (λ o. not (is_some o)) (ap (option_and_then as_held) w.2 ∙ as_held-none w.0 (eq-eqb w.0.pins 0 w.3)))

    idle_at_unpinned : (q : ℕ) (o : Option (Entry K V)) → get t.nodes q ≡ o → IsSome o → not (is_some (option_and_then as_held o)) ≡ true → IsIn q t.idle
    idle_at_unpinned q None e there h = absurd (true≢false (sym there))
    idle_at_unpinned q (Some x) e there h = elim (x.pins == 0) as (λ b. (x.pins == 0) ≡ b → IsIn q t.idle) [
      | true ↦ λ b. r.resting q x e (eqb-true x.pins 0 b)
      | false ↦ λ b. absurd (true≢false (sym h ∙ ap (λ o. not (is_some o)) (as_held-some x b)))
    ] refl

    same_places : (q : ℕ) → list_any (eqb q) t.idle ≡ list_any (eqb q) (filter is_unpinned places)
    same_places q = both_alike (list_any (eqb q) t.idle) (is_unpinned q && list_any (eqb q) places)
        (λ m. let u = unpinned_at q m in (λ i. u.1 i && u.0 i))
        (λ m. let u = Rattle.std.proofs.lemmas.Bool.and_parts (is_unpinned q) (list_any (eqb q) places) m in idle_at_unpinned q (get t.nodes q) refl (r.places_kept q u.1) u.0)
        ∙ sym (any-filter_same (eqb q) is_unpinned (is_unpinned q) (λ k e. ap is_unpinned (sym (eqb-true q k e))) places)

    -- as many entries as places
    pub entries_at_places : length (idle_in t) + length (values (held_in t places)) ≡ length places
    entries_at_places =
        let idle = idle_along t.idle (λ q m. m) in
        let unpinned = length-from_same_keys nat_eq_equiv t.idle (filter is_unpinned places) r.idle_apart (filter_distinct is_unpinned places r.places_apart) same_places in
        let held = length-map (entries (held_in t places)) (λ e. e.1) ∙ sym (len-entries (held_in t places)) ∙ held_along places r.places_apart in
        let both = length-filter_both is_pinned is_unpinned (λ _. refl) places in
        omega (arith, idle, unpinned, held, both)

  -- as many entries as nodes
  pub entries_of_nodes : IsRepresentation t (keys t.nodes) → length (idle_in t) + length (values (held_in t (keys t.nodes))) ≡ len t.nodes
  entries_of_nodes r = entries_at_places r ∙ length-map (entries t.nodes) (λ e. e.0) ∙ sym (len-entries t.nodes)
