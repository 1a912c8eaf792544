-- What nodes are entries of the cache, and the law of begin on an absent key.
use Rattle.std.proofs.Common.{◌≡◌, ℕ, ◌+◌, ◌<◌, ◌≤◌, ◌^◌, ◌⊎◌, inl, inr, Bool, true, false, cond, List, [], ◌∷◌, ◌++◌, Some, None, refl, sym, ap, ◌∙◌, subst, arith, eqb, ◌==◌}
use Rattle.std.specs.List.{filter_map, cons_option, find, IsDistinct, list_any}
use Rattle.std.specs.Option.{option_and_then}
use Rattle.std.specs.Cmp.{IsEquivalence}
use Rattle.std.specs.FinMap as finmap
use Rattle.std.proofs.lemmas.Bool.{eqb-true, eq-eqb, ne_eqb, true≢false}
use Rattle.std.proofs.lemmas.Option.{none-some, same_Some}
use Rattle.concurrent_lru.specs.Cache.{Cache, Idle, making, ready, IsEntry, IsFound, IsLawful, Settles, idle_at, held_at, sum_of}
use Rattle.concurrent_lru.specs.Steps.{IsAbsent, Makes, with_held}
use Rattle.concurrent_lru.specs.NodeTable.{Entry, NodeTable}
use Rattle.concurrent_lru.specs.Representation.{IsRepresentation, held_entry, held_charges, cache_in, as_idle, idle_at_place}
use Rattle.concurrent_lru.proofs.Lists.Members.{IsIn, in_self, in_tail, not_self, filter_map-mid}
use Rattle.concurrent_lru.proofs.Lists.DistinctNumbers.{distinct_parts}
use Rattle.concurrent_lru.proofs.Entries.NodesOfSetAndAdd.{around, held_in-get, held_in-found, inserted_at, inserted_cases, inserted_other}
use Rattle.concurrent_lru.proofs.Steps.LawfulAfterChange.{IsOrderly, orderly, settles_lawful}
use Rattle.concurrent_lru.proofs.Entries.SumsOfHeld.{sum-insert}

module _ {K V : Type 0} where
  pub as_idle-ready : (e : Entry K V) (v : V) → e.phase ≡ ready v → as_idle e ≡ Some (record { stamp = e.stamp; key = e.key; charge = e.charge; value = v })
  as_idle-ready e v h = ap (λ f. as_idle (record e { phase = f })) h

  -- an idle entry found under a stamp is a node's
  pub record IsIdleNode (table : NodeTable K V) (s : ℕ) (x : Idle K V) : Type 0 where
    pub place : ℕ
    pub entry : Entry K V
    pub «in» : IsIn place table.idle
    pub at : finmap.get table.nodes place ≡ Some entry
    pub idle : as_idle entry ≡ Some x
    pub stamp : (x.stamp == s) ≡ true

  pub found_idle : (table : NodeTable K V) (s : ℕ) (x : Idle K V) (xs : List ℕ) → ((q : ℕ) → IsIn q xs → IsIn q table.idle) → find (λ z. z.stamp == s) (filter_map (idle_at_place table.nodes) xs) ≡ Some x → IsIdleNode table s x
  found_idle table s x [] all h = absurd (none-some x h)
  found_idle table s x (q ∷ xs) all h =
      let rest : find (λ z. z.stamp == s) (filter_map (idle_at_place table.nodes) xs) ≡ Some x → IsIdleNode table s x = found_idle table s x xs (λ t m. all t (in_tail t q xs m)) in
      elim (finmap.get table.nodes q) as (λ o. finmap.get table.nodes q ≡ o → find (λ z. z.stamp == s) (cons_option (option_and_then as_idle o) (filter_map (idle_at_place table.nodes) xs)) ≡ Some x → IsIdleNode table s x) [
        | None ↦ λ o k. rest k
        | Some e ↦ λ o. elim (as_idle e) as (λ w. as_idle e ≡ w → find (λ z. z.stamp == s) (cons_option w (filter_map (idle_at_place table.nodes) xs)) ≡ Some x → IsIdleNode table s x) [
          | None ↦ λ w k. rest k
          | Some y ↦ λ w. elim (y.stamp == s) as (λ b. (y.stamp == s) ≡ b → cond b (Some y) (find (λ z. z.stamp == s) (filter_map (idle_at_place table.nodes) xs)) ≡ Some x → IsIdleNode table s x) [
            | true ↦ λ b k. let is : y ≡ x = same_Some _ _ k in record { place = q; entry = e; «in» = all q (in_self q xs); at = o; idle = w ∙ ap Some is; stamp = ap (λ z. z.stamp == s) (sym is) ∙ b }
            | false ↦ λ b k. rest k
          ] refl
        ] refl
      ] refl h

  -- an entry of the cache is a node's
  pub record IsNodeOf (table : NodeTable K V) (s : ℕ) (key : K) (charge : ℕ) : Type 0 where
    pub place : ℕ
    pub entry : Entry K V
    pub at : finmap.get table.nodes place ≡ Some entry
    pub stamp : entry.stamp ≡ s
    pub key_is : entry.key ≡ key
    pub charge_is : entry.charge ≡ charge

  idle_parts : (e : Entry K V) (v : V) (x : Idle K V) → e.phase ≡ ready v → as_idle e ≡ Some x → (e.stamp ≡ x.stamp) × (e.key ≡ x.key) × (e.charge ≡ x.charge)
  idle_parts e v x ph h =
      let is = same_Some _ _ (sym (as_idle-ready e v ph) ∙ h) in
      (ap (λ y. y.stamp) is, ap (λ y. y.key) is, ap (λ y. y.charge) is)

  pub entry_node : (capacity most next : ℕ) (table : NodeTable K V) (places : List ℕ) (s : ℕ) (key : K) (charge : ℕ) → IsRepresentation table places → IsEntry (cache_in capacity most next table places) s key charge → IsNodeOf table s key charge
  entry_node capacity most next table places s key charge r e = elim e [
    | inl i ↦
        let n = found_idle table s i.0 table.idle (λ q m. m) i.1 in
        let w = r.idle_ready n.place n.«in» in
        let same : w.0 ≡ n.entry = same_Some _ _ (sym w.2 ∙ n.at) in
        let p = idle_parts n.entry w.1 i.0 (ap (λ y. y.phase) (sym same) ∙ w.4) n.idle in
        record { place = n.place; entry = n.entry; at = n.at; stamp = p.0 ∙ eqb-true i.0.stamp s n.stamp; key_is = p.1 ∙ i.2; charge_is = p.2 ∙ i.3 }
    | inr h ↦
        let n = held_in-found table places s h.0 h.1 in
        record { place = n.place; entry = n.entry; at = n.at; stamp = n.stamp; key_is = ap (λ y. y.key) (sym n.held) ∙ h.2; charge_is = ap (λ y. y.charge) (sym n.held) ∙ h.3 }
  ]

  -- an entry that is found by its key is a node's, which is not detached, where idle nodes are not
  pub record IsFoundNodeOf (table : NodeTable K V) (s : ℕ) (key : K) (charge : ℕ) : Type 0 where
    pub node : IsNodeOf table s key charge
    pub found : node.entry.detached ≡ false

  pub found_node_of : (capacity most next : ℕ) (table : NodeTable K V) (places : List ℕ) (s : ℕ) (key : K) (charge : ℕ) → IsRepresentation table places → ((p : ℕ) (e : Entry K V) → finmap.get table.nodes p ≡ Some e → e.pins ≡ 0 → e.detached ≡ false) → IsFound (cache_in capacity most next table places) s key charge → IsFoundNodeOf table s key charge
  found_node_of capacity most next table places s key charge r rests e = elim e [
    | inl i ↦
        let n = found_idle table s i.0 table.idle (λ q m. m) i.1 in
        let w = r.idle_ready n.place n.«in» in
        let same : w.0 ≡ n.entry = same_Some _ _ (sym w.2 ∙ n.at) in
        let p = idle_parts n.entry w.1 i.0 (ap (λ y. y.phase) (sym same) ∙ w.4) n.idle in
        record {
          node = record { place = n.place; entry = n.entry; at = n.at; stamp = p.0 ∙ eqb-true i.0.stamp s n.stamp; key_is = p.1 ∙ i.2; charge_is = p.2 ∙ i.3 };
          found = rests n.place n.entry n.at (ap (λ y. y.pins) (sym same) ∙ w.3);
        }
    | inr h ↦
        let n = held_in-found table places s h.0 h.1 in
        record {
          node = record { place = n.place; entry = n.entry; at = n.at; stamp = n.stamp; key_is = ap (λ y. y.key) (sym n.held) ∙ h.2; charge_is = ap (λ y. y.charge) (sym n.held) ∙ h.3 };
          found = ap (λ y. y.detached) (sym n.held) ∙ h.4;
        }
  ]

  -- no idle entry of these places has the stamp
  pub lacks : (table : NodeTable K V) (s : ℕ) (xs : List ℕ) → ((q : ℕ) → IsIn q xs → IsIn q table.idle) → ((q : ℕ) (x : Entry K V) → IsIn q xs → finmap.get table.nodes q ≡ Some x → x.stamp ≡ s → ⊥) → (places : List ℕ) → IsRepresentation table places → find (λ z. z.stamp == s) (filter_map (idle_at_place table.nodes) xs) ≡ None
  lacks table s [] all none places r = refl
  lacks table s (q ∷ xs) all none places r =
      let w = r.idle_ready q (all q (in_self q xs)) in
      let at : idle_at_place table.nodes q ≡ Some (record { stamp = w.0.stamp; key = w.0.key; charge = w.0.charge; value = w.1 }) = ap (option_and_then as_idle) w.2 ∙ as_idle-ready w.0 w.1 w.4 in
      ap (λ o. find (λ z. z.stamp == s) (cons_option o (filter_map (idle_at_place table.nodes) xs))) at
      ∙ ap (λ b. cond b (Some (record { stamp = w.0.stamp; key = w.0.key; charge = w.0.charge; value = w.1 })) (find (λ z. z.stamp == s) (filter_map (idle_at_place table.nodes) xs))) (ne_eqb w.0.stamp s (λ e. none q w.0 (in_self q xs) w.2 e))
      ∙ lacks table s xs (λ t m. all t (in_tail t q xs m)) (λ t x m. none t x (in_tail t q xs m)) places r

  find_after : (s : ℕ) (x : Idle K V) (a b : List (Idle K V)) → find (λ z. z.stamp == s) a ≡ None → (x.stamp == s) ≡ true → find (λ z. z.stamp == s) (a ++ x ∷ b) ≡ Some x
  find_after s x [] b h k = ap (λ t. cond t (Some x) (find (λ z. z.stamp == s) b)) k
  find_after s x (y ∷ a) b h k =
      let p = Rattle.concurrent_lru.proofs.Lists.DistinctEntries.head_none (y.stamp == s) y (find (λ z. z.stamp == s) a) h in
      ap (λ t. cond t (Some y) (find (λ z. z.stamp == s) (a ++ x ∷ b))) p.0 ∙ find_after s x a b p.1 k

  -- an idle node is found under its stamp
  pub idle_in-get : (capacity most next : ℕ) (table : NodeTable K V) (places : List ℕ) (p : ℕ) (e : Entry K V) (v : V) → IsRepresentation table places → finmap.get table.nodes p ≡ Some e → IsIn p table.idle → e.phase ≡ ready v → idle_at (cache_in capacity most next table places) e.stamp ≡ Some (record { stamp = e.stamp; key = e.key; charge = e.charge; value = v })
  idle_in-get capacity most next table places p e v r at m ph =
      let x : Idle K V = record { stamp = e.stamp; key = e.key; charge = e.charge; value = v } in
      let w = around table.idle p m in
      let parts = distinct_parts p w.front w.back (subst (IsDistinct eqb) w.whole r.idle_apart) in
      ap (find (λ z. z.stamp == e.stamp)) (ap (filter_map (idle_at_place table.nodes)) w.whole ∙ filter_map-mid (idle_at_place table.nodes) p w.front w.back
      ∙ ap (λ o. filter_map (idle_at_place table.nodes) w.front ++ cons_option o (filter_map (idle_at_place table.nodes) w.back)) (ap (option_and_then as_idle) at ∙ as_idle-ready e v ph))
      ∙ find_after e.stamp x (filter_map (idle_at_place table.nodes) w.front) (filter_map (idle_at_place table.nodes) w.back)
      (lacks table e.stamp w.front (λ q k. ap (list_any (eqb q)) w.whole ∙ Rattle.concurrent_lru.proofs.Lists.Members.in_left q w.front (p ∷ w.back) k) (λ q y k h s. true≢false (sym (eq-eqb q p (r.stamps q p y e h at s)) ∙ not_self q p w.front parts.0 k)) places r)
      (eq-eqb e.stamp e.stamp refl)

  -- and it is idle if it has no pins
  resting_idle : (capacity most next : ℕ) (table : NodeTable K V) (places : List ℕ) (p : ℕ) (e : Entry K V) → IsRepresentation table places → finmap.get table.nodes p ≡ Some e → e.pins ≡ 0 → (v : V) × (idle_at (cache_in capacity most next table places) e.stamp ≡ Some (record { stamp = e.stamp; key = e.key; charge = e.charge; value = v }))
  resting_idle capacity most next table places p e r at none =
      let m = r.resting p e at none in
      let w = r.idle_ready p m in
      let same : w.0 ≡ e = same_Some _ _ (sym w.2 ∙ at) in
      (w.1, idle_in-get capacity most next table places p e w.1 r at m (ap (λ y. y.phase) (sym same) ∙ w.4))

  -- a node is an entry of the cache
  pub node_entry : (capacity most next : ℕ) (table : NodeTable K V) (places : List ℕ) (p : ℕ) (e : Entry K V) → IsRepresentation table places → finmap.get table.nodes p ≡ Some e → IsEntry (cache_in capacity most next table places) e.stamp e.key e.charge
  node_entry capacity most next table places p e r at =
      elim (e.pins == 0) as (λ b. (e.pins == 0) ≡ b → IsEntry (cache_in capacity most next table places) e.stamp e.key e.charge) [
        | true ↦ λ b. let i = resting_idle capacity most next table places p e r at (eqb-true e.pins 0 b) in inl (record { stamp = e.stamp; key = e.key; charge = e.charge; value = i.0 }, i.1, refl, refl)
        | false ↦ λ b. inr (held_entry e, held_in-get table places p e r at b, refl, refl)
      ] refl

  -- and found by its key where it is not detached
  pub node_found : (capacity most next : ℕ) (table : NodeTable K V) (places : List ℕ) (p : ℕ) (e : Entry K V) → IsRepresentation table places → finmap.get table.nodes p ≡ Some e → e.detached ≡ false → IsFound (cache_in capacity most next table places) e.stamp e.key e.charge
  node_found capacity most next table places p e r at found =
      elim (e.pins == 0) as (λ b. (e.pins == 0) ≡ b → IsFound (cache_in capacity most next table places) e.stamp e.key e.charge) [
        | true ↦ λ b. let i = resting_idle capacity most next table places p e r at (eqb-true e.pins 0 b) in inl (record { stamp = e.stamp; key = e.key; charge = e.charge; value = i.0 }, i.1, refl, refl)
        | false ↦ λ b. inr (held_entry e, held_in-get table places p e r at b, refl, refl, found)
      ] refl

  -- one entry more
  abbrev pub with_new_entry : Cache K V → K → ℕ → Cache K V
  with_new_entry c copy charge = record (with_held c c.next (record { key = copy; charge = charge; pins = 1; detached = false; phase = making })) { next = c.next + 1 }

  pub next_free : (E : K → K → Bool) (c : Cache K V) → IsOrderly E c → held_at c c.next ≡ None
  next_free E c o = elim (held_at c c.next) as (λ q. held_at c c.next ≡ q → q ≡ None) [
    | None ↦ λ _. refl
    | Some e ↦ λ h. let low : c.next < c.next = o.below_next c.next e.key e.charge (inr (e, h, refl, refl)) in absurd (omega (arith, low))
  ] refl

  made_entry : (c : Cache K V) (copy : K) (charge s : ℕ) (k : K) (m : ℕ) → IsEntry (with_new_entry c copy charge) s k m → (IsEntry c s k m) ⊎ ((s ≡ c.next) × (copy ≡ k) × (charge ≡ m))
  made_entry c copy charge s k m e = elim e [
    | inl i ↦ inl (inl i)
    | inr h ↦ elim (inserted_cases c.held c.next s _ h.0 h.1) [
      | inl w ↦ inr (w.0, sym (ap (λ x. x.key) w.1) ∙ h.2, sym (ap (λ x. x.charge) w.1) ∙ h.3)
      | inr was ↦ inl (inr (h.0, was, h.2, h.3))
    ]
  ]

  made_found : (c : Cache K V) (copy : K) (charge s : ℕ) (k : K) (m : ℕ) → IsFound (with_new_entry c copy charge) s k m → (IsFound c s k m) ⊎ ((s ≡ c.next) × (copy ≡ k) × (charge ≡ m))
  made_found c copy charge s k m e = elim e [
    | inl i ↦ inl (inl i)
    | inr h ↦ elim (inserted_cases c.held c.next s _ h.0 h.1) [
      | inl w ↦ inr (w.0, sym (ap (λ x. x.key) w.1) ∙ h.2, sym (ap (λ x. x.charge) w.1) ∙ h.3)
      | inr was ↦ inl (inr (h.0, was, h.2, h.3, h.4))
    ]
  ]

  pub orderly-made : (E : K → K → Bool) (c : Cache K V) (k copy : K) (charge : ℕ) → IsEquivalence E → IsOrderly E c → IsAbsent E c k → E copy k ≡ true → 0 < charge → 0 < c.most_pins → IsOrderly E (with_new_entry c copy charge)
  orderly-made E c k copy charge eq o absent same some pins = record {
    one_entry = λ s t a b m n x y e. elim (made_found c copy charge s a m x) [
      | inl u ↦ elim (made_found c copy charge t b n y) [
        | inl v ↦ o.one_entry s t a b m n u v e
        | inr v ↦ absurd (true≢false (sym (eq.congr a copy k (ap (E a) v.1 ∙ e) ∙ same) ∙ absent s a m u))
      ]
      | inr u ↦ elim (made_found c copy charge t b n y) [
        | inl v ↦ absurd (true≢false (sym (sym (eq.congr copy b k (ap (λ z. E z b) u.1 ∙ e)) ∙ same) ∙ absent t b n v))
        | inr v ↦ u.0 ∙ sym v.0
      ]
    ];
    idle_apart = o.idle_apart;
    held_apart = λ s x i. elim (eqb s c.next) as (λ b. eqb s c.next ≡ b → held_at (with_new_entry c copy charge) s ≡ None) [
      | true ↦ λ b.
          let low : s < c.next = o.below_next s x.key x.charge (inl (x, i, refl, refl)) in
          let here : s ≡ c.next = eqb-true s c.next b in
          absurd (omega (arith, low, here))
      | false ↦ λ b. inserted_other c.held c.next s (record { key = copy; charge = charge; pins = 1; detached = false; phase = making }) b ∙ o.held_apart s x i
    ] refl;
    below_next = λ s a m x. elim (made_entry c copy charge s a m x) [
      | inl u ↦ let low : s < c.next = o.below_next s a m u in omega (arith, low)
      | inr u ↦ omega (arith, u.0)
    ];
    charged = λ s a m x. elim (made_entry c copy charge s a m x) [
      | inl u ↦ o.charged s a m u
      | inr u ↦ subst (λ n. 0 < n) u.2 some
    ];
    pinned = λ s e h. elim (eqb s c.next) as (λ b. eqb s c.next ≡ b → (0 < e.pins) × (e.pins ≤ c.most_pins)) [
      | true ↦ λ b.
          let is = same_Some _ _ (sym h ∙ ap (finmap.get (finmap.insert c.held c.next (record { key = copy; charge = charge; pins = 1; detached = false; phase = making }))) (eqb-true s c.next b) ∙ inserted_at c.held c.next (record { key = copy; charge = charge; pins = 1; detached = false; phase = making })) in
          let one : e.pins ≡ 1 = ap (λ x. x.pins) is in
          (omega (arith, one), omega (arith, one))
      | false ↦ λ b. o.pinned s e (sym (inserted_other c.held c.next s (record { key = copy; charge = charge; pins = 1; detached = false; phase = making }) b) ∙ h)
    ] refl;
  }

  pub sum-made : (E : K → K → Bool) (c : Cache K V) (copy : K) (charge : ℕ) → IsOrderly E c → sum_of (with_new_entry c copy charge) ≡ sum_of c + charge
  sum-made E c copy charge o =
      let a : held_charges (finmap.insert c.held c.next (record { key = copy; charge = charge; pins = 1; detached = false; phase = making })) ≡ held_charges c.held + charge = sum-insert (λ e. e.charge) c.held c.next (record { key = copy; charge = charge; pins = 1; detached = false; phase = making }) (next_free E c o) in
      omega (arith, a)

  pub makes_lawful : (E : K → K → Bool) (old new : Cache K V) (k : K) (charge s : ℕ) (out : List (Idle K V)) → IsEquivalence E → IsLawful E old → 0 < charge → 0 < old.most_pins → Makes E old k charge s out new → IsLawful E new
  makes_lawful E old new k charge s out eq l some pins m =
      let o = orderly l in
      settles_lawful E (with_new_entry old m.copy charge) new out (orderly-made E old k m.copy charge eq o m.absent m.same_key some pins)
      (subst (λ n. n < 2 ^ 64) (sym (sum-made E old m.copy charge o)) m.fits.0)
      (subst (λ t. Settles (record (with_held old t (record { key = m.copy; charge = charge; pins = 1; detached = false; phase = making })) { next = old.next + 1 }) out new) m.stamp m.settles)
