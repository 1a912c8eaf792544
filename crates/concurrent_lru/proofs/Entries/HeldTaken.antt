-- Held entries are taken one by one, until none is left.
use Rattle.std.proofs.Common.{◌≡◌, ℕ, ◌+◌, ◌<◌, ◌≤◌, ◌⊎◌, inl, inr, Bool, true, false, cond, List, [], ◌∷◌, ◌++◌, map, Option, Some, None, refl, sym, ap, ◌∙◌, subst, eqb, ◌==◌, arith}
use Rattle.std.specs.Prelude.{is_some}
use Rattle.std.specs.List.{IsDistinct, filter_map, cons_option, find}
use Rattle.std.specs.Option.{option_and_then}
use Rattle.std.specs.Ordering.{nat_cmp}
use Rattle.std.specs.Cmp.{nat_cmp_total, nat_eq_equiv}
use Rattle.std.specs.FinMap.{FinMap, get, remove, empty, keys, get-empty, same_map, nat_cmp-IsAntisymmetric}
use Rattle.std.proofs.lemmas.Bool.{eqb-true, eq-eqb, ne_eqb, true≢false}
use Rattle.std.proofs.lemmas.Option.{none-some, same_Some}
use Rattle.concurrent_lru.specs.Cache.{Idle, Held, Phase, making, untaken, ready}
use Rattle.concurrent_lru.specs.NodeTable.{Entry, NodeTable}
use Rattle.concurrent_lru.specs.Representation.{as_idle, held_entry, idle_in}
use Rattle.concurrent_lru.specs.Entries.{Entries, ContainsHeldAt}
use Rattle.concurrent_lru.specs.Indexes.{IsStored, entries_of}
use Rattle.concurrent_lru.specs.TakeAll.{TakesHeld, leaves_as, leaves_at, taken_at}
use Rattle.concurrent_lru.specs.declared.table.stamp_index.StampIndex.{StampIndex}
use Rattle.concurrent_lru.proofs.Lists.DistinctEntries.{none_has}
use Rattle.concurrent_lru.proofs.Lists.Removals.{removed_other, removed_some}
use Rattle.concurrent_lru.proofs.Entries.SumsOfHeld.{removed_at}
use Rattle.concurrent_lru.proofs.Entries.NodesOfSetAndAdd.{held_in-found}
use Rattle.concurrent_lru.proofs.Entries.NodeAtPlace.{place_at, node_is_at}
use Rattle.concurrent_lru.proofs.Entries.EntryAtPlace.{held_place}

module _ {K V : Type 0} where
  -- a node's entry as it leaves
  leaves_in : (e : Entry K V) (q : Phase V) → as_idle (record e { phase = q }) ≡ leaves_as e.stamp (held_entry (record e { phase = q }))
  leaves_in e making = refl
  leaves_in e untaken = refl
  leaves_in e (ready v) = refl

  stamp_in : (e : Entry K V) (q : Phase V) (x : Idle K V) → as_idle (record e { phase = q }) ≡ Some x → x.stamp ≡ e.stamp
  stamp_in e making x h = absurd (none-some x h)
  stamp_in e untaken x h = absurd (none-some x h)
  stamp_in e (ready v) x h = ap (λ y. y.stamp) (sym (same_Some _ x h))

  -- what is taken under the stamp of one more, and under others
  found_first : (s : ℕ) (o : Option (Idle K V)) (xs : List (Idle K V)) → ((x : Idle K V) → o ≡ Some x → x.stamp ≡ s) → taken_at xs s ≡ None → taken_at (cons_option o [] ++ xs) s ≡ o
  found_first s None xs stamp none = none
  found_first s (Some x) xs stamp none = ap (λ b. cond b (Some x) (taken_at xs s)) (eq-eqb x.stamp s (stamp x refl))

  found_past : (s q : ℕ) (o : Option (Idle K V)) (xs : List (Idle K V)) → ((x : Idle K V) → o ≡ Some x → x.stamp ≡ s) → eqb q s ≡ false → taken_at (cons_option o [] ++ xs) q ≡ taken_at xs q
  found_past s q None xs stamp ne = refl
  found_past s q (Some x) xs stamp ne = ap (λ b. cond b (Some x) (taken_at xs q)) (ap (λ n. n == q) (stamp x refl) ∙ nat_eq_equiv.symm s q ∙ ne)

  apart_first : (s : ℕ) (o : Option (Idle K V)) (xs : List (Idle K V)) → ((x : Idle K V) → o ≡ Some x → x.stamp ≡ s) → taken_at xs s ≡ None → IsDistinct eqb (map (λ (x : Idle K V). x.stamp) xs) → IsDistinct eqb (map (λ (x : Idle K V). x.stamp) (cons_option o [] ++ xs))
  unfolding IsDistinct
  apart_first s None xs stamp none d = d
  apart_first s (Some x) xs stamp none d = (none_has (λ (y : Idle K V). y.stamp) x.stamp xs (subst (λ n. taken_at xs n ≡ None) (sym (stamp x refl)) none), d)

  -- the entry of the stamp has left, and was taken where it had a value; or it is as it was
  abbrev pub HasLeft : FinMap nat_cmp (Held K V) → FinMap nat_cmp (Held K V) → List (Idle K V) → ℕ → Type 0
  HasLeft old now taken s = (taken_at taken s ≡ leaves_at old s) × (get now s ≡ None)

  abbrev pub IsUntouched : FinMap nat_cmp (Held K V) → FinMap nat_cmp (Held K V) → List (Idle K V) → ℕ → Type 0
  IsUntouched old now taken s = (taken_at taken s ≡ None) × (get now s ≡ get old s)

  -- of the old held entries some have left
  pub record TakesSome (old now : FinMap nat_cmp (Held K V)) (taken : List (Idle K V)) : Type 0 where
    pub each : (s : ℕ) → HasLeft old now taken s ⊎ IsUntouched old now taken s
    pub once : IsDistinct eqb (map (λ (x : Idle K V). x.stamp) taken)

  pub takes_none : (old : FinMap nat_cmp (Held K V)) → TakesSome old old []
  unfolding IsDistinct
  takes_none old = record { each = λ s. inr (refl, refl); once = tt }

  -- what is held still was not taken
  still_there : (old now : FinMap nat_cmp (Held K V)) (taken : List (Idle K V)) (s : ℕ) (h : Held K V) → TakesSome old now taken → get now s ≡ Some h → (taken_at taken s ≡ None) × (get old s ≡ Some h)
  still_there old now taken s h t at = elim (t.each s) [
    | inl left ↦ absurd (none-some h (sym left.1 ∙ at))
    | inr same ↦ (same.0, sym same.1 ∙ at)
  ]

  -- one more leaves
  pub takes_more : (old now new : FinMap nat_cmp (Held K V)) (taken : List (Idle K V)) (e : Entry K V) → TakesSome old now taken → get now e.stamp ≡ Some (held_entry e) → new ≡ remove now e.stamp → TakesSome old new (filter_map as_idle (e ∷ []) ++ taken)
  takes_more old now new taken e t at cut =
      let there = still_there old now taken e.stamp (held_entry e) t at in
      let all = filter_map as_idle (e ∷ []) ++ taken in
      record {
        each = λ q. elim (eqb q e.stamp) as (λ b. eqb q e.stamp ≡ b → HasLeft old new all q ⊎ IsUntouched old new all q) [
          | true ↦ λ b.
              let is : q ≡ e.stamp = eqb-true q e.stamp b in
              inl (
                subst (λ u. taken_at all u ≡ leaves_at old u) (sym is) (found_first e.stamp (as_idle e) taken (stamp_in e e.phase) there.0 ∙ leaves_in e e.phase ∙ sym (ap (option_and_then (leaves_as e.stamp)) there.1)),
                subst (λ u. get new u ≡ None) (sym is) (ap (λ m. get m e.stamp) cut ∙ removed_at now e.stamp),
              )
          | false ↦ λ b.
              let past = found_past e.stamp q (as_idle e) taken (stamp_in e e.phase) b in
              let kept = ap (λ m. get m q) cut ∙ removed_other now e.stamp q b in
              elim (t.each q) as (λ _. HasLeft old new all q ⊎ IsUntouched old new all q) [
                | inl left ↦ inl (past ∙ left.0, kept ∙ left.1)
                | inr same ↦ inr (past ∙ same.0, kept ∙ same.1)
              ]
        ] refl;
        once = apart_first e.stamp (as_idle e) taken (stamp_in e e.phase) there.0 t.once;
      }

  -- all have left
  pub takes_each : (old now : FinMap nat_cmp (Held K V)) (taken : List (Idle K V)) → TakesSome old now taken → ((s : ℕ) → get now s ≡ None) → TakesHeld old taken
  takes_each old now taken t none = record {
    each = λ s. elim (t.each s) as (λ _. taken_at taken s ≡ leaves_at old s) [
      | inl left ↦ left.0
      | inr same ↦ same.0 ∙ sym (ap (option_and_then (leaves_as s)) (sym same.1 ∙ none s))
    ];
    once = t.once;
  }

  pub nothing_held : (m : FinMap nat_cmp (Held K V)) → ((s : ℕ) → get m s ≡ None) → m ≡ empty
  nothing_held m none = same_map nat_cmp_total nat_cmp-IsAntisymmetric _ _ (λ s. none s ∙ sym (get-empty nat_cmp s))

after : (a p : ℕ) → a ≤ p → (a ≡ p → ⊥) → a + 1 ≤ p
after a p low apart = omega arith

below : (b p : ℕ) → (b ≤ p → ⊥) → p < b
below b p far = omega arith

module _ {K V : Type 0} where
  -- each held entry lies at a place from a on and below b
  abbrev pub AreHeldBetween : Entries K V → ℕ → ℕ → Type 0
  AreHeldBetween t a b = (s : ℕ) (h : Held K V) → get t.held s ≡ Some h → (p : ℕ) × (a ≤ p) × (p < b) × (get t.stamps p ≡ Some s)

  -- no entry is at the place a
  pub none_at : (t : Entries K V) (a b : ℕ) → AreHeldBetween t a b → get t.stamps a ≡ None → AreHeldBetween t (a + 1) b
  none_at t a b w none = λ s h at.
      let l = w s h at in
      (l.0, after a l.0 l.1 (λ is. none-some s (sym none ∙ ap (get t.stamps) is ∙ l.3)), l.2, l.3)

  -- the one that was there has left
  pub left_at : (t u : Entries K V) (a b s : ℕ) → AreHeldBetween t a b → get t.stamps a ≡ Some s → u.held ≡ remove t.held s → u.stamps ≡ remove t.stamps a → AreHeldBetween u (a + 1) b
  left_at t u a b s w here held stamps = λ q h at.
      let was = removed_some t.held s q h (ap (λ m. get m q) (sym held) ∙ at) in
      let l = w q h was.1 in
      let apart : a ≡ l.0 → ⊥ = λ is. true≢false (sym (eq-eqb q s (same_Some q s (sym l.3 ∙ ap (get t.stamps) (sym is) ∙ here))) ∙ was.0) in
      (l.0, after a l.0 l.1 apart, l.2, ap (λ m. get m l.0) stamps ∙ removed_other t.stamps a l.0 (ne_eqb l.0 a (λ is. apart (sym is))) ∙ l.3)

  pub none_between : (t : Entries K V) (a b : ℕ) → b ≤ a → AreHeldBetween t a b → (s : ℕ) → get t.held s ≡ None
  none_between t a b end w s = elim (get t.held s) as (λ o. get t.held s ≡ o → o ≡ None) [
    | None ↦ λ _. refl
    | Some h ↦ λ at.
        let l = w s h at in
        let low = l.1 in
        let high = l.2 in
        absurd (omega (arith, end, low, high))
  ] refl

module _ {K V : Type 0} {C : K → K → Type 0} {E : K → K → Bool} {H : K → ℕ} {t : NodeTable K V} {by_stamp : StampIndex} (r : IsStored C E H t by_stamp) where
  -- all held entries lie at places with a node
  pub held_between : (b : ℕ) → ((p : ℕ) → b ≤ p → get t.nodes p ≡ None) → AreHeldBetween (entries_of t) 0 b
  held_between b past = λ s h at.
      let n = held_in-found t (keys t.nodes) s h at in
      let low : 0 ≤ n.place = omega arith in
      (n.place, low, below b n.place (λ far. none-some n.entry (sym (past n.place far) ∙ n.at)), place_at r n.place n.entry n.at ∙ ap Some n.stamp)

  -- where no entry is idle, each node is that of a held one
  pub held_if_none_idle : (p : ℕ) (e : Entry K V) → idle_in t ≡ [] → get t.nodes p ≡ Some e → ContainsHeldAt (entries_of t) p
  held_if_none_idle p e none at =
      let here = node_is_at r p e at in
      held_place here (λ zero_pins.
      let i = here.idle zero_pins in
      true≢false (sym i.0 ∙ ap is_some (sym i.1 ∙ ap (find (λ x. x.stamp == e.stamp)) none)))
