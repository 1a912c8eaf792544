-- Where a node is written or taken away, no node gets a stamp that was new.
use Rattle.std.proofs.Common.{◌≡◌, ◌≢◌, ℕ, Bool, true, false, Some, None, refl, sym, ap, ◌∙◌, eqb}
use Rattle.std.specs.FinMap.{get, insert, remove, keys}
use Rattle.std.proofs.lemmas.Bool.{eqb-true, ne_eqb}
use Rattle.std.proofs.lemmas.Option.{none-some, same_Some}
use Rattle.concurrent_lru.specs.Cache.{Held}
use Rattle.concurrent_lru.specs.NodeTable.{Entry, NodeTable, IsNewStamp}
use Rattle.concurrent_lru.specs.Entries.{Entries, ContainsNoStamp}
use Rattle.concurrent_lru.specs.Indexes.{IsStored, entries_of}
use Rattle.concurrent_lru.specs.Representation.{held_in}
use Rattle.concurrent_lru.specs.declared.table.stamp_index.StampIndex.{StampIndex}
use Rattle.concurrent_lru.proofs.Entries.FoundNodes.{fresh_among}
use Rattle.concurrent_lru.proofs.Entries.NodeAtPlace.{unheld}
use Rattle.concurrent_lru.proofs.Entries.NodesOfSetAndAdd.{WritesNode, inserted_at, inserted_other}
use Rattle.concurrent_lru.proofs.Entries.SumsOfHeld.{removed_at}
use Rattle.concurrent_lru.proofs.Lists.Removals.{removed_other}

module _ {K V : Type 0} {t t' : NodeTable K V} {p : ℕ} {e f : Entry K V} where
  pub fresh_written : (s : ℕ) → WritesNode t t' p e f → IsNewStamp t s → IsNewStamp t' s
  fresh_written s w fresh q x at = elim (eqb q p) as (λ b. eqb q p ≡ b → x.stamp ≢ s) [
    | true ↦ λ b.
        let is : x ≡ f = same_Some _ _ (sym at ∙ ap (λ m. get m q) w.nodes ∙ ap (get (insert t.nodes p f)) (eqb-true q p b) ∙ inserted_at t.nodes p f) in
        λ same. fresh p e w.at (sym (ap (λ y. y.stamp) is ∙ w.stamp) ∙ same)
    | false ↦ λ b. fresh q x (sym (ap (λ m. get m q) w.nodes ∙ inserted_other t.nodes p q f b) ∙ at)
  ] refl

module _ {K V : Type 0} where
  pub fresh_taken : (t t' : NodeTable K V) (p s : ℕ) → t'.nodes ≡ remove t.nodes p → IsNewStamp t s → IsNewStamp t' s
  fresh_taken t t' p s nodes fresh q x at = elim (eqb q p) as (λ b. eqb q p ≡ b → x.stamp ≢ s) [
    | true ↦ λ b. absurd (none-some x (sym (ap (λ m. get m q) nodes ∙ ap (get (remove t.nodes p)) (eqb-true q p b) ∙ removed_at t.nodes p) ∙ at))
    | false ↦ λ b. fresh q x (sym (ap (λ m. get m q) nodes ∙ removed_other t.nodes p q b) ∙ at)
  ] refl

module _ {K V : Type 0} {C : K → K → Type 0} {E : K → K → Bool} {H : K → ℕ} {t : NodeTable K V} {by_stamp : StampIndex} (r : IsStored C E H t by_stamp) where
  -- no held entry gets a stamp that was new, where one of them is written
  pub unheld_written : (u : Entries K V) (h : Held K V) (p : ℕ) (e : Entry K V) → get t.nodes p ≡ Some e → (s : ℕ) → ContainsNoStamp (entries_of t) s → u ≡ record (entries_of t) { held = insert (held_in t (keys t.nodes)) e.stamp h } → get u.held s ≡ None
  unheld_written u h p e at s lacks changed =
      let other : eqb s e.stamp ≡ false = ne_eqb s e.stamp (λ same. fresh_among r s lacks p e at (sym same)) in
      ap (λ x. get x.held s) changed ∙ inserted_other (held_in t (keys t.nodes)) e.stamp s h other ∙ unheld r s lacks
