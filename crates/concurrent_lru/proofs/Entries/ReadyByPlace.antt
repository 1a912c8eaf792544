-- The entries that have a value, by place: each has one place, below the end of all places.
use Rattle.std.proofs.Common.{◌≡◌, ◌≢◌, ℕ, zero, suc, ◌+◌, ◌-◌, ◌<◌, ◌≤◌, Bool, true, false, cond, List, [], ◌∷◌, map, Option, Some, None, refl, sym, ap, ◌∙◌, inl, inr, eqb, ◌==◌, arith}
use Rattle.std.specs.List.{IsDistinct, cons_option, find}
use Rattle.std.specs.Option.{option_map, option_map_or, option_and_then}
use Rattle.std.specs.FinMap.{get, keys}
use Rattle.std.proofs.lemmas.Bool.{eqb-true, eq-eqb, true≢false}
use Rattle.std.proofs.lemmas.Option.{none-some, same_Some}
use Rattle.concurrent_lru.specs.Cache.{Cache, Idle, Held, Phase, making, untaken, ready, idle_at, held_at, LacksStamp}
use Rattle.concurrent_lru.specs.NodeTable.{Entry, NodeTable}
use Rattle.concurrent_lru.specs.Representation.{as_idle}
use Rattle.concurrent_lru.specs.Entries.{Entries, cache_of}
use Rattle.concurrent_lru.specs.Indexes.{IsStored, entries_of}
use Rattle.concurrent_lru.specs.ReadyEntries.{ReadyEntry, ListsReady, ready_from_idle, ready_from_held, ready_at, ready_in, ready_between, ready_from_node, listed_at}
use Rattle.concurrent_lru.specs.declared.table.stamp_index.StampIndex.{StampIndex}
use Rattle.concurrent_lru.proofs.Lists.DistinctEntries.{none_has}
use Rattle.concurrent_lru.proofs.Entries.NodesOfSetAndAdd.{held_in-found}
use Rattle.concurrent_lru.proofs.Entries.NodeAtPlace.{place_at, idle_unheld, idle_found, idle_like, held_found}
use Rattle.concurrent_lru.proofs.Entries.PlacesOfNodes.{get_stamps}
use Rattle.concurrent_lru.proofs.Steps.BeginOfAbsent.{found_idle, as_idle-ready}

later : (p q : ℕ) → p + 1 ≤ q → p ≤ q
later p q low = omega arith

at_least : (p : ℕ) → p ≤ p
at_least p = omega arith

none_within : (p q : ℕ) → p ≤ q → q < p + 0 → ⊥
none_within p q low high = omega arith

after : (p q : ℕ) → p ≤ q → q ≢ p → p + 1 ≤ q
after p q low other = omega arith

within : (p q n : ℕ) → q < p + suc n → q < (p + 1) + n
within p q n high = omega arith

past_itself : (p q : ℕ) → p + 1 ≤ q → p ≡ q → ⊥
past_itself p q low same = omega arith

nothing_apart : IsDistinct eqb []
unfolding IsDistinct
nothing_apart = tt

module _ {K V : Type 0} where
  -- an idle entry that is found under a stamp has it
  idle_stamp : (s : ℕ) (xs : List (Idle K V)) (x : Idle K V) → find (λ y. y.stamp == s) xs ≡ Some x → x.stamp ≡ s
  idle_stamp s [] x h = absurd (none-some x h)
  idle_stamp s (y ∷ ys) x h = elim (y.stamp == s) as (λ b. (y.stamp == s) ≡ b → cond b (Some y) (find (λ z. z.stamp == s) ys) ≡ Some x → x.stamp ≡ s) [
    | true ↦ λ b k. ap (λ z. z.stamp) (sym (same_Some y x k)) ∙ eqb-true y.stamp s b
    | false ↦ λ b k. idle_stamp s ys x k
  ] refl h

  held_stamp : (s : ℕ) (e : Held K V) (q : Phase V) (r : ReadyEntry K V) → ready_from_held s (record e { phase = q }) ≡ Some r → r.stamp ≡ s
  held_stamp s e making r h = absurd (none-some r h)
  held_stamp s e untaken r h = absurd (none-some r h)
  held_stamp s e (ready v) r h = ap (λ z. z.stamp) (sym (same_Some _ r h))

  -- and so has what is ready under it
  under_stamp : (s : ℕ) (xs : List (Idle K V)) (h : Option (Held K V)) (o : Option (Idle K V)) (r : ReadyEntry K V) → find (λ y. y.stamp == s) xs ≡ o → option_map_or (ready_from_held s) h (option_map ready_from_idle o) ≡ Some r → r.stamp ≡ s
  under_stamp s xs (Some e) o r f h = held_stamp s e e.phase r h
  under_stamp s xs None None r f h = absurd (none-some r h)
  under_stamp s xs None (Some x) r f h = ap (λ z. z.stamp) (sym (same_Some _ r h)) ∙ idle_stamp s xs x f

  ready_stamp : (t : Entries K V) (s : ℕ) (r : ReadyEntry K V) → ready_at (cache_of t) s ≡ Some r → r.stamp ≡ s
  ready_stamp t s r h = under_stamp s t.idle (get t.held s) (idle_at (cache_of t) s) r refl h

  -- what is ready at a place is what is ready under the place's stamp
  pub record IsReadyIn (t : Entries K V) (p : ℕ) (r : ReadyEntry K V) : Type 0 where
    pub at : get t.stamps p ≡ Some r.stamp
    pub «is» : ready_at (cache_of t) r.stamp ≡ Some r

  pub place_stamp : (t : Entries K V) (p : ℕ) (r : ReadyEntry K V) → ready_in t p ≡ Some r → IsReadyIn t p r
  place_stamp t p r h = elim (get t.stamps p) as (λ o. get t.stamps p ≡ o → option_and_then (ready_at (cache_of t)) o ≡ Some r → IsReadyIn t p r) [
    | None ↦ λ at k. absurd (none-some r k)
    | Some s ↦ λ at k.
        let stamp : r.stamp ≡ s = ready_stamp t s r k in
        record { at = at ∙ ap Some (sym stamp); «is» = ap (ready_at (cache_of t)) stamp ∙ k }
  ] refl h

  -- an entry of the list lies at one of its places
  pub record IsListedFrom (t : Entries K V) (p s : ℕ) (r : ReadyEntry K V) : Type 0 where
    pub place : ℕ
    pub low : p ≤ place
    pub at : get t.stamps place ≡ Some s
    pub «is» : ready_at (cache_of t) s ≡ Some r

  listed_place : (t : Entries K V) (n p s : ℕ) (r : ReadyEntry K V) → listed_at (ready_between t p n) s ≡ Some r → IsListedFrom t p s r
  listed_place t zero p s r h = absurd (none-some r h)
  listed_place t (suc n) p s r h =
      let rest : listed_at (ready_between t (p + 1) n) s ≡ Some r → IsListedFrom t p s r = λ k.
      let l = listed_place t n (p + 1) s r k in
      record { place = l.place; low = later p l.place l.low; at = l.at; «is» = l.«is» } in
      elim (ready_in t p) as (λ o. ready_in t p ≡ o → listed_at (cons_option o (ready_between t (p + 1) n)) s ≡ Some r → IsListedFrom t p s r) [
        | None ↦ λ o k. rest k
        | Some x ↦ λ o. elim (x.stamp == s) as (λ b. (x.stamp == s) ≡ b → cond b (Some x) (listed_at (ready_between t (p + 1) n) s) ≡ Some r → IsListedFrom t p s r) [
          | true ↦ λ b k.
              let w = place_stamp t p x o in
              let stamp : x.stamp ≡ s = eqb-true x.stamp s b in
              record { place = p; low = at_least p; at = w.at ∙ ap Some stamp; «is» = ap (ready_at (cache_of t)) (sym stamp) ∙ w.«is» ∙ k }
          | false ↦ λ b k. rest k
        ] refl
      ] refl h

  -- an entry at one of the places is in the list
  is_listed : (t : Entries K V) (n p s q : ℕ) (r : ReadyEntry K V) → get t.stamps q ≡ Some s → ready_at (cache_of t) s ≡ Some r → p ≤ q → q < p + n → listed_at (ready_between t p n) s ≡ Some r
  is_listed t zero p s q r at is low high = absurd (none_within p q low high)
  is_listed t (suc n) p s q r at is low high =
      elim (ready_in t p) as (λ o. ready_in t p ≡ o → listed_at (cons_option o (ready_between t (p + 1) n)) s ≡ Some r) [
        | None ↦ λ o.
            let other : q ≢ p = λ same. none-some r (sym o ∙ ap (ready_in t) (sym same) ∙ ap (option_and_then (ready_at (cache_of t))) at ∙ is) in
            is_listed t n (p + 1) s q r at is (after p q low other) (within p q n high)
        | Some x ↦ λ o. elim (x.stamp == s) as (λ b. (x.stamp == s) ≡ b → cond b (Some x) (listed_at (ready_between t (p + 1) n) s) ≡ Some r) [
          | true ↦ λ b.
              let w = place_stamp t p x o in
              sym w.«is» ∙ ap (ready_at (cache_of t)) (eqb-true x.stamp s b) ∙ is
          | false ↦ λ b.
              let w = place_stamp t p x o in
              let other : q ≢ p = λ same. true≢false (sym (eq-eqb x.stamp s (same_Some _ _ (sym w.at ∙ ap (get t.stamps) (sym same) ∙ at))) ∙ b) in
              is_listed t n (p + 1) s q r at is (after p q low other) (within p q n high)
        ] refl
      ] refl

  apart_first : (o : Option (ReadyEntry K V)) (xs : List (ReadyEntry K V)) → ((x : ReadyEntry K V) → o ≡ Some x → listed_at xs x.stamp ≡ None) → IsDistinct eqb (map (λ (x : ReadyEntry K V). x.stamp) xs) → IsDistinct eqb (map (λ (x : ReadyEntry K V). x.stamp) (cons_option o xs))
  unfolding IsDistinct
  apart_first None xs none d = d
  apart_first (Some x) xs none d = (none_has (λ (y : ReadyEntry K V). y.stamp) x.stamp xs (none x refl), d)

  -- where no two places have one stamp, no two of the list have one
  abbrev pub HaveOwnStamps : Entries K V → Type 0
  HaveOwnStamps t = (p q s : ℕ) → get t.stamps p ≡ Some s → get t.stamps q ≡ Some s → p ≡ q

  listed_once : (t : Entries K V) (n p : ℕ) → HaveOwnStamps t → IsDistinct eqb (map (λ (x : ReadyEntry K V). x.stamp) (ready_between t p n))
  listed_once t zero p own = nothing_apart
  listed_once t (suc n) p own = apart_first (ready_in t p) (ready_between t (p + 1) n) (λ x o.
      let w = place_stamp t p x o in
      elim (listed_at (ready_between t (p + 1) n) x.stamp) as (λ l. listed_at (ready_between t (p + 1) n) x.stamp ≡ l → l ≡ None) [
        | None ↦ λ _. refl
        | Some r ↦ λ l.
            let f = listed_place t n (p + 1) x.stamp r l in
            absurd (past_itself p f.place f.low (own p f.place x.stamp w.at f.at))
      ] refl) (listed_once t n (p + 1) own)

one_less : (p b : ℕ) → p < b → b - p ≡ suc (b - (p + 1))
one_less p b low = omega arith

module _ {K V : Type 0} where
  -- the first of the places, and the others
  pub first_place : (t : Entries K V) (p b : ℕ) → p < b → ready_between t p (b - p) ≡ cons_option (ready_in t p) (ready_between t (p + 1) (b - (p + 1)))
  first_place t p b low = ap (ready_between t p) (one_less p b low)

  pub passed_over : (t : Entries K V) (p b : ℕ) → p < b → ready_in t p ≡ None → ready_between t (p + 1) (b - (p + 1)) ≡ ready_between t p (b - p)
  passed_over t p b low none = sym (first_place t p b low ∙ ap (λ o. cons_option o (ready_between t (p + 1) (b - (p + 1)))) none)

  pub shown_first : (t : Entries K V) (p b : ℕ) (r : ReadyEntry K V) → p < b → ready_in t p ≡ Some r → ready_between t p (b - p) ≡ r ∷ ready_between t (p + 1) (b - (p + 1))
  shown_first t p b r low some = first_place t p b low ∙ ap (λ o. cons_option o (ready_between t (p + 1) (b - (p + 1)))) some

module _ {K V : Type 0} where
  -- what is ready at the place of a stamp is what is ready under the stamp
  pub ready_by_stamp : (t : Entries K V) (p s : ℕ) → get t.stamps p ≡ Some s → ready_in t p ≡ ready_at (cache_of t) s
  ready_by_stamp t p s at = ap (option_and_then (ready_at (cache_of t))) at

  -- nothing is ready under a stamp that no entry has
  pub unready : (c : Cache K V) (s : ℕ) → LacksStamp c s → ready_at c s ≡ None
  unready c s lacks = elim (held_at c s) as (λ o. held_at c s ≡ o → option_map_or (ready_from_held s) o (option_map ready_from_idle (idle_at c s)) ≡ None) [
    | Some e ↦ λ at. absurd (lacks e.key e.charge (inr (e, at, refl, refl)))
    | None ↦ λ _. elim (idle_at c s) as (λ i. idle_at c s ≡ i → option_map ready_from_idle i ≡ None) [
      | None ↦ λ _. refl
      | Some x ↦ λ at. absurd (lacks x.key x.charge (inl (x, at, refl, refl)))
    ] refl
  ] refl

below_end : (p b : ℕ) → (b ≤ p → ⊥) → p < 0 + b
below_end p b far = omega arith

from_start : (p : ℕ) → 0 ≤ p
from_start p = omega arith

module _ {K V : Type 0} {C : K → K → Type 0} {E : K → K → Bool} {H : K → ℕ} {t : NodeTable K V} {by_stamp : StampIndex} (r : IsStored C E H t by_stamp) where
  -- the entry of a node, by its phase and its pins
  idle_ready : (e : Entry K V) (v : V) → e.phase ≡ ready v → e.pins ≡ 0 → e.detached ≡ false → option_map ready_from_idle (as_idle e) ≡ ready_from_node e
  idle_ready e v phase none found =
      ap (option_map ready_from_idle) (as_idle-ready e v phase)
      ∙ (λ j. Some (record { stamp = e.stamp; key = e.key; charge = e.charge; pins = sym none j; detached = sym found j; value = v }))
      ∙ ap (λ q. ready_from_node (record e { phase = q })) (sym phase)

  -- what is ready at a place is its node's entry
  pub node_ready : (p : ℕ) (e : Entry K V) → get t.nodes p ≡ Some e → ready_in (entries_of t) p ≡ ready_from_node e
  node_ready p e at =
      ap (option_and_then (ready_at (cache_of (entries_of t)))) (place_at r p e at)
      ∙ elim (e.pins == 0) as (λ b. (e.pins == 0) ≡ b → ready_at (cache_of (entries_of t)) e.stamp ≡ ready_from_node e) [
        | true ↦ λ b.
            let none : e.pins ≡ 0 = eqb-true e.pins 0 b in
            let m = r.represents.resting p e at none in
            let l = idle_like r p e at m in
            ap (λ h. option_map_or (ready_from_held e.stamp) h (option_map ready_from_idle (idle_at (cache_of (entries_of t)) e.stamp))) (idle_unheld r p e at m)
            ∙ ap (option_map ready_from_idle) (idle_found r p e at m).1
            ∙ idle_ready e l.0 l.2 none (r.indexed.idle_kept p e at none)
        | false ↦ λ b.
            ap (λ h. option_map_or (ready_from_held e.stamp) h (option_map ready_from_idle (idle_at (cache_of (entries_of t)) e.stamp))) (held_found r p e at b)
      ] refl

  -- nothing is ready at a place without a node
  pub nothing_ready : (p : ℕ) → get t.nodes p ≡ None → ready_in (entries_of t) p ≡ None
  nothing_ready p none = ap (option_and_then (ready_at (cache_of (entries_of t)))) (get_stamps t.nodes p ∙ ap (option_map (λ x. x.stamp)) none)

  -- no two places have one stamp
  record IsStampOf (p s : ℕ) : Type 0 where
    pub entry : Entry K V
    pub at : get t.nodes p ≡ Some entry
    pub stamp : entry.stamp ≡ s

  stamp_of : (p s : ℕ) → get (entries_of t).stamps p ≡ Some s → IsStampOf p s
  stamp_of p s h = elim (get t.nodes p) as (λ o. get t.nodes p ≡ o → option_map (λ x. x.stamp) o ≡ Some s → IsStampOf p s) [
    | None ↦ λ at k. absurd (none-some s k)
    | Some e ↦ λ at k. record { entry = e; at = at; stamp = same_Some _ _ k }
  ] refl (sym (get_stamps t.nodes p) ∙ h)

  own_stamps : HaveOwnStamps (entries_of t)
  own_stamps p q s at other =
      let m = stamp_of p s at in
      let n = stamp_of q s other in
      r.represents.stamps p q m.entry n.entry m.at n.at (m.stamp ∙ sym n.stamp)

  -- what is ready under a stamp has a place
  record HasPlace (s : ℕ) : Type 0 where
    pub place : ℕ
    pub entry : Entry K V
    pub at : get t.nodes place ≡ Some entry
    pub stamp : entry.stamp ≡ s

  has_place : (s : ℕ) (x : ReadyEntry K V) → ready_at (cache_of (entries_of t)) s ≡ Some x → HasPlace s
  has_place s x h = elim (held_at (cache_of (entries_of t)) s) as (λ o. held_at (cache_of (entries_of t)) s ≡ o → option_map_or (ready_from_held s) o (option_map ready_from_idle (idle_at (cache_of (entries_of t)) s)) ≡ Some x → HasPlace s) [
    | Some e ↦ λ o k. let n = held_in-found t (keys t.nodes) s e o in record { place = n.place; entry = n.entry; at = n.at; stamp = n.stamp }
    | None ↦ λ o k. elim (idle_at (cache_of (entries_of t)) s) as (λ i. idle_at (cache_of (entries_of t)) s ≡ i → option_map ready_from_idle i ≡ Some x → HasPlace s) [
      | None ↦ λ i m. absurd (none-some x m)
      | Some y ↦ λ i m.
          let n = found_idle t s y t.idle (λ q m. m) i in
          let l = idle_like r n.place n.entry n.at n.«in» in
          let same = same_Some _ _ (sym (as_idle-ready n.entry l.0 l.2) ∙ n.idle) in
          record { place = n.place; entry = n.entry; at = n.at; stamp = ap (λ z. z.stamp) same ∙ eqb-true y.stamp s n.stamp }
    ] refl k
  ] refl h

  -- the list of the entries at all places has each entry that has a value, once
  pub lists_ready : (b : ℕ) → ((p : ℕ) → b ≤ p → get t.nodes p ≡ None) → ListsReady (cache_of (entries_of t)) (ready_between (entries_of t) 0 b)
  lists_ready b past = record {
    each = λ s. elim (ready_at (cache_of (entries_of t)) s) as (λ o. ready_at (cache_of (entries_of t)) s ≡ o → listed_at (ready_between (entries_of t) 0 b) s ≡ o) [
      | Some x ↦ λ h.
          let n = has_place s x h in
          is_listed (entries_of t) b 0 s n.place x (place_at r n.place n.entry n.at ∙ ap Some n.stamp) h (from_start n.place) (below_end n.place b (λ far. none-some n.entry (sym (past n.place far) ∙ n.at)))
      | None ↦ λ h. elim (listed_at (ready_between (entries_of t) 0 b) s) as (λ l. listed_at (ready_between (entries_of t) 0 b) s ≡ l → l ≡ None) [
        | None ↦ λ _. refl
        | Some x ↦ λ l. absurd (none-some x (sym h ∙ (listed_place (entries_of t) b 0 s x l).«is»))
      ] refl
    ] refl;
    once = listed_once (entries_of t) b 0 own_stamps;
  }
