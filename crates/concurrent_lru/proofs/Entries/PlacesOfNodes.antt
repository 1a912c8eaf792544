-- The keys of a map of nodes as its places, and the held entries and stamps, which are the same
-- whatever the order of the places.
use Rattle.std.proofs.Common.{◌≡◌, ℕ, Bool, true, false, ◌&&◌, cond, List, [], ◌∷◌, map, Option, Some, None, refl, sym, ap, ◌∙◌, subst, eqb, length, arith}
use Rattle.std.specs.Prelude.{T, is_some}
use Rattle.std.specs.List.{list_any, IsDistinct, AllByRecursion, filter_map}
use Rattle.std.proofs.Common.{Ordering, Less, Equal, Greater}
use Rattle.std.specs.Ordering.{nat_cmp, is_lt, is_eq, eq_by_cmp}
use Rattle.std.specs.Cmp.{nat_cmp_total, unsigned_tied}
use Rattle.std.specs.FinMap.{FinMap, get, insert, remove, get-insert, get-remove, get-entries, get-empty, empty, keys, entries, entries_sorted, len-entries, len-empty, contains_key-keys, same_map, nat_cmp-IsAntisymmetric, from_entries, get-from_entries}
use Rattle.std.specs.FinMap.Entries.{find, is_sorted, below_all}
use Rattle.std.proofs.lemmas.Option.{none-some}
use Rattle.std.proofs.lemmas.Bool.{true≢false}
use Rattle.concurrent_lru.specs.Cache.{Held}
use Rattle.concurrent_lru.specs.NodeTable.{Entry, NodeTable}
use Rattle.concurrent_lru.specs.Representation.{IsRepresentation, held_in, held_at_place}
use Rattle.std.specs.Option.{option_map}
use Rattle.concurrent_lru.specs.Indexes.{stamps_of}
use Rattle.concurrent_lru.proofs.Entries.SumsOfHeld.{insert_again}
use Rattle.concurrent_lru.proofs.Entries.NodesOfSetAndAdd.{held_in-get, held_in-found}
use Rattle.concurrent_lru.proofs.Lists.Members.{IsIn}

first : (a b : Bool) → T (a && b) → T a
first true b p = tt
first false b p = p

second : (a b : Bool) → T (a && b) → T b
second true b p = p
second false b p = absurd p

less_apart : (o : Ordering) → T (is_lt o) → is_eq o ≡ false
less_apart Less h = refl
less_apart Equal h = absurd h
less_apart Greater h = refl

nothing_apart : IsDistinct eqb []
unfolding IsDistinct
nothing_apart = tt

pub empty_by_length : {X : Type 0} (es : List X) → length es ≡ 0 → es ≡ []
empty_by_length [] h = refl
empty_by_length (e ∷ es) h = absurd (omega (arith, h))

module _ {X : Type 0} where
  all_apart : (x : ℕ) (es : List (ℕ × X)) → T (below_all nat_cmp x es) → AllByRecursion (λ y. eqb x y ≡ false) (map (λ e. e.0) es)
  all_apart x [] h = tt
  all_apart x (e ∷ es) h = (sym (unsigned_tied x e.0) ∙ less_apart (nat_cmp x e.0) (first (is_lt (nat_cmp x e.0)) (below_all nat_cmp x es) h), all_apart x es (second (is_lt (nat_cmp x e.0)) (below_all nat_cmp x es) h))

  distinct_sorted : (es : List (ℕ × X)) → T (is_sorted nat_cmp es) → IsDistinct eqb (map (λ e. e.0) es)
  unfolding IsDistinct
  distinct_sorted [] h = tt
  distinct_sorted (e ∷ es) h = (all_apart e.0 es (first (below_all nat_cmp e.0 es) (is_sorted nat_cmp es) h), distinct_sorted es (second (below_all nat_cmp e.0 es) (is_sorted nat_cmp es) h))

  pub distinct_keys : (m : FinMap nat_cmp X) → IsDistinct eqb (keys m)
  distinct_keys m = distinct_sorted (entries m) (entries_sorted m)

  pub in_keys : (m : FinMap nat_cmp X) (q : ℕ) → is_some (get m q) ≡ list_any (eqb q) (keys m)
  in_keys m q = contains_key-keys m q ∙ (λ i. list_any (λ y. unsigned_tied q y i) (keys m))

module _ {K V : Type 0} where
  find_stamp : (q : ℕ) (es : List (ℕ × Entry K V)) → find nat_cmp q (map (λ e. (e.0, e.1.stamp)) es) ≡ option_map (λ x. x.stamp) (find nat_cmp q es)
  find_stamp q [] = refl
  find_stamp q (e ∷ es) = elim (eq_by_cmp nat_cmp q e.0) as (λ b. cond b (Some e.1.stamp) (find nat_cmp q (map (λ e. (e.0, e.1.stamp)) es)) ≡ option_map (λ x. x.stamp) (cond b (Some e.1) (find nat_cmp q es))) [ true ↦ refl | false ↦ find_stamp q es ]

  -- the stamp at a place is its node's
  pub get_stamps : (m : FinMap nat_cmp (Entry K V)) (q : ℕ) → get (stamps_of m) q ≡ option_map (λ x. x.stamp) (get m q)
  get_stamps m q = get-from_entries nat_cmp_total (map (λ e. (e.0, e.1.stamp)) (entries m)) q ∙ find_stamp q (entries m) ∙ ap (option_map (λ x. x.stamp)) (sym (get-entries m q))

  stamp_cond : (b : Bool) (x : Entry K V) (o : Option (Entry K V)) → option_map (λ x. x.stamp) (cond b (Some x) o) ≡ cond b (Some x.stamp) (option_map (λ x. x.stamp) o)
  stamp_cond true x o = refl
  stamp_cond false x o = refl

  none_cond : (b : Bool) (o : Option (Entry K V)) → option_map (λ x. x.stamp) (cond b None o) ≡ cond b None (option_map (λ x. x.stamp) o)
  none_cond true o = refl
  none_cond false o = refl

  pub stamps_set : (m : FinMap nat_cmp (Entry K V)) (p : ℕ) (e : Entry K V) → stamps_of (insert m p e) ≡ insert (stamps_of m) p e.stamp
  stamps_set m p e = same_map nat_cmp_total nat_cmp-IsAntisymmetric _ _ (λ q.
      get_stamps (insert m p e) q ∙ ap (option_map (λ x. x.stamp)) (get-insert nat_cmp_total m p e q) ∙ stamp_cond (eq_by_cmp nat_cmp q p) e (get m q)
      ∙ ap (cond (eq_by_cmp nat_cmp q p) (Some e.stamp)) (sym (get_stamps m q)) ∙ sym (get-insert nat_cmp_total (stamps_of m) p e.stamp q))

  pub stamps_cut : (m : FinMap nat_cmp (Entry K V)) (p : ℕ) → stamps_of (remove m p) ≡ remove (stamps_of m) p
  stamps_cut m p = same_map nat_cmp_total nat_cmp-IsAntisymmetric _ _ (λ q.
      get_stamps (remove m p) q ∙ ap (option_map (λ x. x.stamp)) (get-remove nat_cmp_total m p q) ∙ none_cond (eq_by_cmp nat_cmp q p) (get m q)
      ∙ ap (cond (eq_by_cmp nat_cmp q p) None) (sym (get_stamps m q)) ∙ sym (get-remove nat_cmp_total (stamps_of m) p q))

  -- a write that keeps the stamp
  pub stamps_same : (m : FinMap nat_cmp (Entry K V)) (p : ℕ) (e f : Entry K V) → get m p ≡ Some e → f.stamp ≡ e.stamp → stamps_of (insert m p f) ≡ stamps_of m
  stamps_same m p e f at same = stamps_set m p f ∙ ap (insert (stamps_of m) p) same
      ∙ sym (insert_again (stamps_of m) p e.stamp (get_stamps m p ∙ ap (option_map (λ x. x.stamp)) at))

  pub no_stamps : (m : FinMap nat_cmp (Entry K V)) → m ≡ empty → stamps_of m ≡ empty
  no_stamps m h = same_map nat_cmp_total nat_cmp-IsAntisymmetric _ _ (λ q. get_stamps m q ∙ ap (λ n. option_map (λ x. x.stamp) (get n q)) h ∙ ap (option_map (λ (x : Entry K V). x.stamp)) (get-empty nat_cmp q) ∙ sym (get-empty nat_cmp q))

module _ {K V : Type 0} where
  pub represents_keys : (t : NodeTable K V) (xs : List ℕ) → IsRepresentation t xs → IsRepresentation t (keys t.nodes)
  represents_keys t xs r = record {
    places_apart = distinct_keys t.nodes;
    places_kept = λ p h. in_keys t.nodes p ∙ h;
    all_places = λ p e h. sym (in_keys t.nodes p) ∙ ap is_some h;
    idle_apart = r.idle_apart;
    idle_ready = r.idle_ready;
    resting = r.resting;
    stamps = r.stamps;
  }

  same_held : (t : NodeTable K V) (xs ys : List ℕ) → IsRepresentation t ys → (q : ℕ) (h : Held K V) → get (held_in t xs) q ≡ Some h → get (held_in t ys) q ≡ Some h
  same_held t xs ys r q h e =
      let n = held_in-found t xs q h e in
      subst (λ s. get (held_in t ys) s ≡ Some h) n.stamp (held_in-get t ys n.place n.entry r n.at n.pinned ∙ ap Some (sym n.held))

  -- the held entries are the same
  pub held_alike : (t : NodeTable K V) (xs ys : List ℕ) → IsRepresentation t xs → IsRepresentation t ys → held_in t xs ≡ held_in t ys
  held_alike t xs ys a b = same_map nat_cmp_total nat_cmp-IsAntisymmetric _ _ (λ q.
      elim (get (held_in t xs) q) as (λ o. get (held_in t xs) q ≡ o → o ≡ get (held_in t ys) q) [
        | Some h ↦ λ e. sym (same_held t xs ys b q h e)
        | None ↦ λ e. elim (get (held_in t ys) q) as (λ o. get (held_in t ys) q ≡ o → None ≡ o) [
          | Some h ↦ λ f. absurd (none-some h (sym e ∙ same_held t ys xs a q h f))
          | None ↦ λ f. refl
        ] refl
      ] refl)

  -- no nodes
  no_keys : (t : NodeTable K V) → t.nodes ≡ empty → keys t.nodes ≡ []
  no_keys t h = ap keys h ∙ ap (map (λ (e : ℕ × Entry K V). e.0)) (empty_by_length (entries empty) (sym (len-entries empty) ∙ len-empty nat_cmp (Entry K V)))

  pub empty_represents : (t : NodeTable K V) → t.nodes ≡ empty → t.idle ≡ [] → IsRepresentation t (keys t.nodes)
  empty_represents t n i =
      let free : (p : ℕ) (e : Entry K V) → get t.nodes p ≡ Some e → ⊥ = λ p e h. none-some e (sym (get-empty nat_cmp p) ∙ sym (ap (λ m. get m p) n) ∙ h) in
      let none : (p : ℕ) → IsIn p t.idle → ⊥ = λ p h. true≢false (sym h ∙ ap (list_any (eqb p)) i) in
      record {
        places_apart = distinct_keys t.nodes;
        places_kept = λ p h. in_keys t.nodes p ∙ h;
        all_places = λ p e h. sym (in_keys t.nodes p) ∙ ap is_some h;
        idle_apart = subst (IsDistinct eqb) (sym i) nothing_apart;
        idle_ready = λ p h. absurd (none p h);
        resting = λ p e h z. absurd (free p e h);
        stamps = λ p q e f h k s. absurd (free p e h);
      }

  pub empty_held : (t : NodeTable K V) → t.nodes ≡ empty → held_in t (keys t.nodes) ≡ empty
  empty_held t n = ap (λ xs. from_entries (filter_map (held_at_place t.nodes) xs)) (no_keys t n)
