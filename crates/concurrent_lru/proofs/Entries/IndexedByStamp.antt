-- The nodes and the map of stamps that indexes them: at a start, after a growth, an insert, a write
-- and a removal.
use Rattle.std.proofs.Common.{◌≡◌, ◌≢◌, ℕ, ◌⊎◌, inl, inr, Bool, true, false, cond, Option, Some, None, refl, sym, ap, ◌∙◌, eqb}
use Rattle.std.specs.Ordering.{nat_cmp}
use Rattle.std.specs.FinMap.{FinMap, get, insert, remove, empty, get-empty}
use Rattle.std.proofs.lemmas.Bool.{eqb-true, eq-eqb, true≢false}
use Rattle.std.proofs.lemmas.Option.{none-some, same_Some}
use Rattle.concurrent_lru.specs.NodeTable.{Entry}
use Rattle.concurrent_lru.specs.StampIndex.{keeps_map, mapped_place}
use Rattle.concurrent_lru.specs.declared.table.stamp_index.StampIndex.{StampIndex}
use Rattle.concurrent_lru.specs.Indexes.{IsIndexed}
use Rattle.concurrent_lru.proofs.Entries.NodesOfSetAndAdd.{inserted_at, inserted_other}
use Rattle.concurrent_lru.proofs.Lists.Removals.{removed_other, removed_some}

set_cases : {A : Type 0} (t : Bool) (w o : Option A) (x : A) → cond t w o ≡ Some x → ((t ≡ true) × (w ≡ Some x)) ⊎ ((t ≡ false) × (o ≡ Some x))
set_cases true w o x h = inl (refl, h)
set_cases false w o x h = inr (refl, h)

module _ {K V : Type 0} where
  pub indexed_empty : (g : StampIndex) (m : FinMap nat_cmp (Entry K V)) → m ≡ empty → ((s : ℕ) → mapped_place g s ≡ None) → IsIndexed m g
  indexed_empty g m none b =
      let free : (p : ℕ) (e : Entry K V) → get m p ≡ Some e → ⊥ = λ p e h. none-some e (sym (get-empty nat_cmp p) ∙ sym (ap (λ n. get n p) none) ∙ h) in
      record {
        idle_kept = λ p e h _. absurd (free p e h);
        stamp_found = λ _ p e h. absurd (free p e h);
        stamp_kept = λ _ s p h. absurd (none-some p (sym (b s) ∙ h));
      }

  -- a map that answers alike, over the same nodes
  pub indexed_same : {m n : FinMap nat_cmp (Entry K V)} {g g' : StampIndex} → n ≡ m → keeps_map g' ≡ keeps_map g → ((s : ℕ) → mapped_place g' s ≡ mapped_place g s) → IsIndexed m g → IsIndexed n g'
  indexed_same {m} {n} is kept b t = record {
    idle_kept = λ p e h. t.idle_kept p e (ap (λ x. get x p) (sym is) ∙ h);
    stamp_found = λ map p e h. b e.stamp ∙ t.stamp_found (sym kept ∙ map) p e (ap (λ x. get x p) (sym is) ∙ h);
    stamp_kept = λ map s p h. let r = t.stamp_kept (sym kept ∙ map) s p (sym (b s) ∙ h) in (r.0, ap (λ x. get x p) is ∙ r.1, r.2);
  }

  module _ {m n : FinMap nat_cmp (Entry K V)} {g g' : StampIndex} (t : IsIndexed m g) where
    -- a node more, whose stamp no other has
    pub indexed_added : (p : ℕ) (e : Entry K V) → n ≡ insert m p e → get m p ≡ None → e.detached ≡ false → ((q : ℕ) (x : Entry K V) → get m q ≡ Some x → x.stamp ≢ e.stamp)
        → keeps_map g' ≡ keeps_map g → (keeps_map g ≡ true → (s : ℕ) → mapped_place g' s ≡ cond (eqb e.stamp s) (Some p) (mapped_place g s)) → IsIndexed n g'
    indexed_added p e is free found new_stamp kept b =
        let here : get n p ≡ Some e = ap (λ x. get x p) is ∙ inserted_at m p e in
        let other : (q : ℕ) → eqb q p ≡ false → get n q ≡ get m q = λ q ne. ap (λ x. get x q) is ∙ inserted_other m p q e ne in
        let old : (q : ℕ) (x : Entry K V) → get m q ≡ Some x → get n q ≡ Some x =
        λ q x h. elim (eqb q p) as (λ b. eqb q p ≡ b → get n q ≡ Some x) [
          | true ↦ λ b. absurd (none-some x (sym free ∙ sym (ap (get m) (eqb-true q p b)) ∙ h))
          | false ↦ λ b. other q b ∙ h
        ] refl in
        let was : (q : ℕ) (x : Entry K V) → get n q ≡ Some x → ((q ≡ p) × (x ≡ e)) ⊎ (get m q ≡ Some x) =
        λ q x h. elim (eqb q p) as (λ b. eqb q p ≡ b → ((q ≡ p) × (x ≡ e)) ⊎ (get m q ≡ Some x)) [
          | true ↦ λ b. let w = eqb-true q p b in inl (w, same_Some _ _ (sym h ∙ ap (get n) w ∙ here))
          | false ↦ λ b. inr (sym (other q b) ∙ h)
        ] refl in
        record {
          idle_kept = λ q x h none. elim (was q x h) [
            | inl w ↦ ap (λ y. y.detached) w.1 ∙ found
            | inr w ↦ t.idle_kept q x w none
          ];
          stamp_found = λ map q x h.
              let had = sym kept ∙ map in
              elim (was q x h) [
                | inl w ↦ b had x.stamp ∙ ap (λ c. cond c (Some p) (mapped_place g x.stamp)) (eq-eqb e.stamp x.stamp (ap (λ y. y.stamp) (sym w.1))) ∙ ap Some (sym w.0)
                | inr w ↦ b had x.stamp ∙ elim (eqb e.stamp x.stamp) as (λ c. eqb e.stamp x.stamp ≡ c → cond c (Some p) (mapped_place g x.stamp) ≡ Some q) [
                  | true ↦ λ c. absurd (new_stamp q x w (sym (eqb-true e.stamp x.stamp c)))
                  | false ↦ λ c. t.stamp_found had q x w
                ] refl
              ];
          stamp_kept = λ map s q h.
              let had = sym kept ∙ map in
              elim (set_cases (eqb e.stamp s) (Some p) (mapped_place g s) q (sym (b had s) ∙ h)) [
                | inl w ↦ (e, ap (get n) (sym (same_Some _ _ w.1)) ∙ here, eqb-true e.stamp s w.0)
                | inr w ↦ let r = t.stamp_kept had s q w.1 in (r.0, old q r.0 r.1, r.2)
              ];
        }

    -- a node less, and its stamp
    pub indexed_removed : ((p q : ℕ) (x y : Entry K V) → get m p ≡ Some x → get m q ≡ Some y → x.stamp ≡ y.stamp → p ≡ q) → (p : ℕ) (e : Entry K V) → n ≡ remove m p → get m p ≡ Some e
        → keeps_map g' ≡ keeps_map g → (keeps_map g ≡ true → (s : ℕ) → mapped_place g' s ≡ cond (eqb e.stamp s) None (mapped_place g s)) → IsIndexed n g'
    indexed_removed one p e is at kept b =
        let other : (q : ℕ) → eqb q p ≡ false → get n q ≡ get m q = λ q ne. ap (λ x. get x q) is ∙ removed_other m p q ne in
        let was : (q : ℕ) (x : Entry K V) → get n q ≡ Some x → (eqb q p ≡ false) × (get m q ≡ Some x) = λ q x h. removed_some m p q x (sym (ap (λ y. get y q) is) ∙ h) in
        let still : (q : ℕ) (x : Entry K V) → get m q ≡ Some x → (x ≡ e → ⊥) → get n q ≡ Some x =
        λ q x h ne. elim (eqb q p) as (λ c. eqb q p ≡ c → get n q ≡ Some x) [
          | true ↦ λ c. absurd (ne (same_Some _ _ (sym h ∙ ap (get m) (eqb-true q p c) ∙ at)))
          | false ↦ λ c. other q c ∙ h
        ] refl in
        record {
          idle_kept = λ q x h. t.idle_kept q x (was q x h).1;
          stamp_found = λ map q x h.
              let w = was q x h in
              b (sym kept ∙ map) x.stamp ∙ elim (eqb e.stamp x.stamp) as (λ c. eqb e.stamp x.stamp ≡ c → cond c None (mapped_place g x.stamp) ≡ Some q) [
                | true ↦ λ c. absurd (true≢false (sym (eq-eqb q p (one q p x e w.1 at (sym (eqb-true e.stamp x.stamp c)))) ∙ w.0))
                | false ↦ λ c. t.stamp_found (sym kept ∙ map) q x w.1
              ] refl;
          stamp_kept = λ map s q h. elim (set_cases (eqb e.stamp s) None (mapped_place g s) q (sym (b (sym kept ∙ map) s) ∙ h)) [
            | inl w ↦ absurd (none-some q w.1)
            | inr w ↦ let r = t.stamp_kept (sym kept ∙ map) s q w.1 in (r.0, still q r.0 r.1 (λ same. true≢false (sym (eq-eqb e.stamp s (ap (λ y. y.stamp) (sym same) ∙ r.2)) ∙ w.0)), r.2)
          ];
        }

  -- a node is written and keeps its stamp; one without pins is not detached
  pub indexed_written : {m n : FinMap nat_cmp (Entry K V)} {g : StampIndex} (p : ℕ) (e d : Entry K V) → IsIndexed m g → n ≡ insert m p d → get m p ≡ Some e → d.stamp ≡ e.stamp → (d.pins ≡ 0 → d.detached ≡ false) → IsIndexed n g
  indexed_written {m} {n} {g} p e d t is at same_stamp idle =
      let here : get n p ≡ Some d = ap (λ x. get x p) is ∙ inserted_at m p d in
      let other : (q : ℕ) → eqb q p ≡ false → get n q ≡ get m q = λ q ne. ap (λ x. get x q) is ∙ inserted_other m p q d ne in
      let was : (q : ℕ) (x : Entry K V) → get n q ≡ Some x → (y : Entry K V) × (get m q ≡ Some y) × (x.stamp ≡ y.stamp) × (x.pins ≡ 0 → x.detached ≡ false) =
      λ q x h. elim (eqb q p) as (λ c. eqb q p ≡ c → (y : Entry K V) × (get m q ≡ Some y) × (x.stamp ≡ y.stamp) × (x.pins ≡ 0 → x.detached ≡ false)) [
        | true ↦ λ c.
            let w = eqb-true q p c in
            let is_d : x ≡ d = same_Some _ _ (sym h ∙ ap (get n) w ∙ here) in
            (e, ap (get m) w ∙ at, ap (λ y. y.stamp) is_d ∙ same_stamp, λ none. ap (λ y. y.detached) is_d ∙ idle (ap (λ y. y.pins) (sym is_d) ∙ none))
        | false ↦ λ c. (x, sym (other q c) ∙ h, refl, λ none. t.idle_kept q x (sym (other q c) ∙ h) none)
      ] refl in
      let now : (q : ℕ) (y : Entry K V) → get m q ≡ Some y → (x : Entry K V) × (get n q ≡ Some x) × (x.stamp ≡ y.stamp) =
      λ q y h. elim (eqb q p) as (λ c. eqb q p ≡ c → (x : Entry K V) × (get n q ≡ Some x) × (x.stamp ≡ y.stamp)) [
        | true ↦ λ c.
            let w = eqb-true q p c in
            let is_e : e ≡ y = same_Some _ _ (sym at ∙ sym (ap (get m) w) ∙ h) in
            (d, ap (get n) w ∙ here, same_stamp ∙ ap (λ z. z.stamp) is_e)
        | false ↦ λ c. (y, other q c ∙ h, refl)
      ] refl in
      record {
        idle_kept = λ q x h none. let w = was q x h in w.3 none;
        stamp_found = λ map q x h. let w = was q x h in ap (mapped_place g) w.2 ∙ t.stamp_found map q w.0 w.1;
        stamp_kept = λ map s q h. let r = t.stamp_kept map s q h in let x = now q r.0 r.1 in (x.0, x.1, x.2 ∙ r.2);
      }
