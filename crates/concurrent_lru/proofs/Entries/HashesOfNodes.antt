-- The hashes that nodes store: at a start, after an insert, a write and a removal.
use Rattle.std.proofs.Common.{◌≡◌, ℕ, Bool, true, false, List, Some, refl, sym, ap, ◌∙◌, eqb}
use Rattle.std.specs.Ordering.{nat_cmp}
use Rattle.std.specs.List.{fold}
use Rattle.std.specs.Int.{w64, rotate_left}
use Rattle.std.specs.Hash as fed
use Rattle.concurrent_lru.specs.WordHashes.{initial, write, finish}
use Rattle.std.specs.FinMap.{FinMap, get, insert, remove, empty, get-empty}
use Rattle.std.proofs.lemmas.Bool.{eqb-true}
use Rattle.std.proofs.lemmas.Option.{none-some, same_Some}
use Rattle.concurrent_lru.specs.NodeTable.{Entry}
use Rattle.concurrent_lru.specs.Indexes.{AreHashed}
use Rattle.concurrent_lru.specs.KeyHashes.{key_hash}
use Rattle.concurrent_lru.proofs.Entries.NodesOfSetAndAdd.{inserted_at, inserted_other}
use Rattle.concurrent_lru.proofs.Lists.Removals.{removed_other, removed_some}

-- equal keys have the same hash, where they make the same writes
pub alike_hashes : {K : Type 0} {E : K → K → Bool} (seed : ℕ) (bytes : K → List (List ℕ)) → ((k l : K) → E k l ≡ true → bytes k ≡ bytes l) → (k l : K) → E k l ≡ true → key_hash seed bytes k ≡ key_hash seed bytes l
alike_hashes seed bytes alike k l same = ap (λ ws. rotate_left w64 (finish (fold write (fold write initial (fed.u64 seed)) ws)) 40) (alike k l same)

-- the hash in a node is that of every key equal to its own
pub hash_alike : {K V : Type 0} {E : K → K → Bool} {H : K → ℕ} (m : FinMap nat_cmp (Entry K V)) (h : FinMap nat_cmp ℕ) → ((k l : K) → E k l ≡ true → H k ≡ H l) → AreHashed H m h → (p hash : ℕ) (e : Entry K V) (k : K) → get m p ≡ Some e → get h p ≡ Some hash → E e.key k ≡ true → hash ≡ H k
hash_alike m h alike hashed p hash e k at is equal = same_Some _ _ (sym is ∙ hashed p e at) ∙ alike e.key k equal

module _ {K V : Type 0} (H : K → ℕ) where
  pub hashed_empty : (m : FinMap nat_cmp (Entry K V)) (h : FinMap nat_cmp ℕ) → m ≡ empty → AreHashed H m h
  hashed_empty m h none p e at = absurd (none-some e (sym (get-empty nat_cmp p) ∙ sym (ap (λ n. get n p) none) ∙ at))

module _ {K V : Type 0} (H : K → ℕ) (m n : FinMap nat_cmp (Entry K V)) (h g : FinMap nat_cmp ℕ) where
  pub hashed_same : n ≡ m → g ≡ h → AreHashed H m h → AreHashed H n g
  hashed_same nodes hashes t p e at = ap (λ f. get f p) hashes ∙ t p e (ap (λ x. get x p) (sym nodes) ∙ at)

  -- a node more
  pub hashed_added : (p : ℕ) (e : Entry K V) → n ≡ insert m p e → g ≡ insert h p (H e.key) → AreHashed H m h → AreHashed H n g
  hashed_added p e nodes hashes t q x at = elim (eqb q p) as (λ b. eqb q p ≡ b → get g q ≡ Some (H x.key)) [
    | true ↦ λ b.
        let w = eqb-true q p b in
        let is : e ≡ x = same_Some _ _ (sym (inserted_at m p e) ∙ sym (ap (λ y. get y p) nodes) ∙ sym (ap (get n) w) ∙ at) in
        ap (get g) w ∙ ap (λ f. get f p) hashes ∙ inserted_at h p (H e.key) ∙ ap (λ y. Some (H y.key)) is
    | false ↦ λ b.
        ap (λ f. get f q) hashes ∙ inserted_other h p q (H e.key) b
        ∙ t q x (sym (inserted_other m p q e b) ∙ sym (ap (λ y. get y q) nodes) ∙ at)
  ] refl

  -- a node is written, and keeps its key
  pub hashed_written : (p : ℕ) (e d : Entry K V) → n ≡ insert m p d → get m p ≡ Some e → d.key ≡ e.key → g ≡ h → AreHashed H m h → AreHashed H n g
  hashed_written p e d nodes was same_key hashes t q x at = elim (eqb q p) as (λ b. eqb q p ≡ b → get g q ≡ Some (H x.key)) [
    | true ↦ λ b.
        let w = eqb-true q p b in
        let is : d ≡ x = same_Some _ _ (sym (inserted_at m p d) ∙ sym (ap (λ y. get y p) nodes) ∙ sym (ap (get n) w) ∙ at) in
        ap (get g) w ∙ ap (λ f. get f p) hashes ∙ t p e was ∙ ap (λ k. Some (H k)) (sym same_key ∙ ap (λ y. y.key) is)
    | false ↦ λ b. ap (λ f. get f q) hashes ∙ t q x (sym (inserted_other m p q d b) ∙ sym (ap (λ y. get y q) nodes) ∙ at)
  ] refl

  -- a node less
  pub hashed_removed : (p : ℕ) → n ≡ remove m p → g ≡ remove h p → AreHashed H m h → AreHashed H n g
  hashed_removed p nodes hashes t q x at =
      let w = removed_some m p q x (sym (ap (λ y. get y q) nodes) ∙ at) in
      ap (λ f. get f q) hashes ∙ removed_other h p q w.0 ∙ t q x w.1
