-- Nodes of which one is taken out of the order: its links are cut, and its neighbours joined.
use Rattle.std.proofs.Common.{◌≡◌, ◌≢◌, ◌⊎◌, ℕ, List, [], ◌∷◌, ◌++◌, cond, Option, Some, None, refl, sym, ap, ◌∙◌, subst, inl, inr, eqb, filter, not, IsSome}
use Rattle.std.proofs.lemmas.Bool.{cases_eq, eq-eqb, ne_eqb}
use denote.RawPtr.{Ptr}
use Rattle.concurrent_lru.specs.declared.node_table.links.Order.{Order}
use Rattle.concurrent_lru.specs.declared.node_table.slots.Slots.{Slots}
use Rattle.concurrent_lru.specs.Cells.{cell_at, slot_at}
use Rattle.concurrent_lru.specs.Order.{Link, link, first_or, last_or, Absent, Distinct, IsOrder}
use Rattle.concurrent_lru.specs.Relinks.{NodeCell, NodeCells, Relinks, Unlinks, LeftJoined, RightJoined, slot_in, before_at, after_at}
use Rattle.concurrent_lru.specs.SlotPointers.{cells_of, HasNode, IsTied, LeadsTo}
use Rattle.concurrent_lru.specs.SlotTable.{link_of, link_at, nodes_of, idle_of, idle_without, IsGood, IsGoodAt, AreGood, IsWellLinked, Lists, ListsLink, LosesLink}
use Rattle.concurrent_lru.proofs.Entries.NodesOfSetAndAdd.{around}
use Rattle.concurrent_lru.proofs.Lists.Members.{IsIn}
use Rattle.concurrent_lru.proofs.Order.Links.{absent_both, order_cut, oldest_without, newest_without, linked_at, apart_middle}
use Rattle.concurrent_lru.proofs.Order.Appending.{table_looked, Quiet, quiet, quiet_trans, link_there, link_else, before_there, before_else, after_there, after_else, good_kept, are_good, read, link_told_at, link_kept, quiet_same, tied_kept, entries_kept}

cut_at : (ks : List ℕ) (k : ℕ) → IsIn k ks → (xs : List ℕ) × (ys : List ℕ) × (ks ≡ xs ++ k ∷ ys)
cut_at ks k m = let w = around ks k m in (w.front, w.back, w.whole)

left_of : (k : ℕ) (ys : List ℕ) → Absent k ys → filter (λ q. not (eqb q k)) ys ≡ ys
left_of k [] a = refl
left_of k (y ∷ ys) a = ap (λ b. cond (not b) (y ∷ filter (λ q. not (eqb q k)) ys) (filter (λ q. not (eqb q k)) ys)) (ne_eqb y k (λ e. a.0 (sym e))) ∙ ap (λ l. y ∷ l) (left_of k ys a.1)

left_beside : (k : ℕ) (xs ys : List ℕ) → Absent k xs → Absent k ys → filter (λ q. not (eqb q k)) (xs ++ k ∷ ys) ≡ xs ++ ys
left_beside k [] ys a b = ap (λ v. cond (not v) (k ∷ filter (λ q. not (eqb q k)) ys) (filter (λ q. not (eqb q k)) ys)) (eq-eqb k k refl) ∙ left_of k ys b
left_beside k (x ∷ xs) ys a b = ap (λ v. cond (not v) (x ∷ filter (λ q. not (eqb q k)) (xs ++ k ∷ ys)) (filter (λ q. not (eqb q k)) (xs ++ k ∷ ys))) (ne_eqb x k (λ e. a.0 (sym e))) ∙ ap (λ l. x ∷ l) (left_beside k xs ys a.1 b)

-- the last of xs and the first of ys
last_in : (b : Option ℕ) (xs : List ℕ) (p q : ℕ) → Absent q xs → (b ≡ Some p → p ≢ q) → last_or b xs ≡ Some p → p ≢ q
last_in b [] p q a f e = f e
last_in b (x ∷ xs) p q a f e = last_in (Some x) xs p q a.1 (λ is eq. let same : x ≡ p = cc in a.0 (sym eq ∙ sym same)) e

first_in : (ys : List ℕ) (s q : ℕ) → Absent q ys → first_or ys None ≡ Some s → s ≢ q
first_in [] s q a e = cc
first_in (y ∷ ys) s q a e = λ is. let same : y ≡ s = cc in a.0 (sym is ∙ sym same)

last_apart : (xs ys : List ℕ) (p s : ℕ) → Distinct (xs ++ ys) → last_or None xs ≡ Some p → first_or ys None ≡ Some s → p ≢ s
last_apart xs [] p s d e f = cc
last_apart xs (y ∷ ys) p s d e f = let same : y ≡ s = cc in last_in None xs p s (subst (λ q. Absent q xs) same (apart_middle xs y ys d).0) (λ z. cc) e

-- whether the slot is the one of this link
is_slot : (w : Option ℕ) (q : ℕ) → (w ≡ Some q) ⊎ (w ≡ Some q → ⊥)
is_slot None q = inr (λ e. cc)
is_slot (Some l) q = elim (cases_eq l q) [ inl e ↦ inl (ap Some e) | inr ne ↦ inr (λ e. let same : l ≡ q = cc in ne same) ]

module _ {K V : Type 0} where
  module _ (cs ds : NodeCells K V) (o p : Option ℕ) where
    pub left_quiet : (b a : Option Ptr) → LeftJoined cs ds o p b a → Quiet cs ds
    left_quiet None a j = quiet_same cs ds j.0
    left_quiet (Some l) a j = quiet cs ds j.0.0 (before_at cs j.0.0) a j.0.2

    left_before : (b a : Option Ptr) → LeftJoined cs ds o p b a → (q : ℕ) → before_at ds q ≡ before_at cs q
    left_before None a j q = ap (λ l. before_at l q) j.0
    left_before (Some l) a j q = let k = j.0.0 in elim (cases_eq q k) [
      | inl is ↦ ap (before_at ds) is ∙ before_there cs ds k (before_at cs k) a j.0.2 ∙ sym (ap (before_at cs) is)
      | inr ne ↦ before_else cs ds k (before_at cs k) a j.0.2 q ne
    ]

    left_there : (b a : Option Ptr) → LeftJoined cs ds o p b a → (q : ℕ) → slot_in cs b ≡ Some q → (after_at ds q ≡ a) × (link_at ds q ≡ Some (link (slot_in cs (before_at cs q)) (slot_in cs a)))
    left_there None a j q e = cc
    left_there (Some l) a j q e = let k = j.0.0 in let both : Some k ≡ Some q = sym j.0.1 ∙ e in let is : k ≡ q = cc in
        subst (λ z. (after_at ds z ≡ a) × (link_at ds z ≡ Some (link (slot_in cs (before_at cs z)) (slot_in cs a)))) is (after_there cs ds k (before_at cs k) a j.0.2, link_there cs ds k (before_at cs k) a j.0.2)

    left_else : (b a : Option Ptr) → LeftJoined cs ds o p b a → (q : ℕ) → (slot_in cs b ≡ Some q → ⊥) → (after_at ds q ≡ after_at cs q) × (link_at ds q ≡ link_at cs q)
    left_else None a j q ne = (ap (λ l. after_at l q) j.0, ap (λ l. link_at l q) j.0)
    left_else (Some l) a j q ne = let k = j.0.0 in
        (after_else cs ds k (before_at cs k) a j.0.2 q (λ e. ne (j.0.1 ∙ ap Some (sym e))), link_else cs ds k (before_at cs k) a j.0.2 q (λ e. ne (j.0.1 ∙ ap Some (sym e))))

    left_oldest : (b a : Option Ptr) → LeftJoined cs ds o p b a → p ≡ oldest_without o (slot_in cs b) (slot_in cs a)
    left_oldest None a j = j.1
    left_oldest (Some l) a j = j.1 ∙ sym (ap (λ w. oldest_without o w (slot_in cs a)) j.0.1)

  module _ (cs ds : NodeCells K V) (n m : Option Ptr) where
    right_quiet : (b a : Option Ptr) → RightJoined cs ds n m b a → Quiet cs ds
    right_quiet b None j = quiet_same cs ds j.0
    right_quiet b (Some l) j = quiet cs ds j.0.0 b (after_at cs j.0.0) j.0.2

    right_after : (b a : Option Ptr) → RightJoined cs ds n m b a → (q : ℕ) → after_at ds q ≡ after_at cs q
    right_after b None j q = ap (λ l. after_at l q) j.0
    right_after b (Some l) j q = let k = j.0.0 in elim (cases_eq q k) [
      | inl is ↦ ap (after_at ds) is ∙ after_there cs ds k b (after_at cs k) j.0.2 ∙ sym (ap (after_at cs) is)
      | inr ne ↦ after_else cs ds k b (after_at cs k) j.0.2 q ne
    ]

    right_there : (b a : Option Ptr) → RightJoined cs ds n m b a → (q : ℕ) → slot_in cs a ≡ Some q → (before_at ds q ≡ b) × (link_at ds q ≡ Some (link (slot_in cs b) (slot_in cs (after_at cs q))))
    right_there b None j q e = cc
    right_there b (Some l) j q e = let k = j.0.0 in let both : Some k ≡ Some q = sym j.0.1 ∙ e in let is : k ≡ q = cc in
        subst (λ z. (before_at ds z ≡ b) × (link_at ds z ≡ Some (link (slot_in cs b) (slot_in cs (after_at cs z))))) is (before_there cs ds k b (after_at cs k) j.0.2, link_there cs ds k b (after_at cs k) j.0.2)

    right_else : (b a : Option Ptr) → RightJoined cs ds n m b a → (q : ℕ) → (slot_in cs a ≡ Some q → ⊥) → (before_at ds q ≡ before_at cs q) × (link_at ds q ≡ link_at cs q)
    right_else b None j q ne = (ap (λ l. before_at l q) j.0, ap (λ l. link_at l q) j.0)
    right_else b (Some l) j q ne = let k = j.0.0 in
        (before_else cs ds k b (after_at cs k) j.0.2 q (λ e. ne (j.0.1 ∙ ap Some (sym e))), link_else cs ds k b (after_at cs k) j.0.2 q (λ e. ne (j.0.1 ∙ ap Some (sym e))))

    right_newest : (b a : Option Ptr) → RightJoined cs ds n m b a → slot_in ds m ≡ newest_without (slot_in cs n) (slot_in cs b) (slot_in cs a)
    right_newest b None j = λ i. slot_in (j.0 i) (j.1 i)
    right_newest b (Some l) j = link_kept cs ds (quiet cs ds j.0.0 b (after_at cs j.0.0) j.0.2) m ∙ ap (slot_in cs) j.1 ∙ sym (ap (newest_without (slot_in cs n) (slot_in cs b)) j.0.1)

    right_good : (b a : Option Ptr) → RightJoined cs ds n m b a → IsGood ds b → IsGood ds n → IsGood ds m
    right_good b None j gb gn = subst (IsGood ds) (sym j.1) gb
    right_good b (Some l) j gb gn = subst (IsGood ds) (sym j.1) gn

  good_parts : (cs : NodeCells K V) (xs : List ℕ) (k : ℕ) (ys : List ℕ) → AreGood cs (xs ++ k ∷ ys) → IsGoodAt cs k × AreGood cs (xs ++ ys)
  good_parts cs [] k ys g = g
  good_parts cs (x ∷ xs) k ys g = let on = good_parts cs xs k ys g.1 in (on.0, (g.0, on.1))

  good_at : (cs : NodeCells K V) (ks xs : List ℕ) (k : ℕ) (ys : List ℕ) → ks ≡ xs ++ k ∷ ys → AreGood cs ks → IsGoodAt cs k
  good_at cs ks xs k ys e g = (good_parts cs xs k ys (subst (AreGood cs) e g)).0

  module _ (cs cs1 cs2 cs3 : NodeCells K V) (o p : Option ℕ) (n m b a : Option Ptr) (k : ℕ) (ks xs ys : List ℕ)
      (cut : ks ≡ xs ++ k ∷ ys) (i : IsOrder (link_at cs) o (slot_in cs n) ks) (g : AreGood cs ks) (gn : IsGood cs n) (r : Relinks cs cs1 k None None)
      (eb : b ≡ before_at cs k) (ea : a ≡ after_at cs k) (l : LeftJoined cs1 cs2 o p b a) (j : RightJoined cs2 cs3 n m b a) where
    q1 : Quiet cs cs1
    q1 = quiet cs cs1 k None None r

    quiet2 : Quiet cs cs2
    quiet2 = quiet_trans cs cs1 cs2 q1 (left_quiet cs1 cs2 o p b a l)

    quiet3 : Quiet cs cs3
    quiet3 = quiet_trans cs cs2 cs3 quiet2 (right_quiet cs2 cs3 n m b a j)

    -- the links lead where they led
    k1 : (w : Option Ptr) → slot_in cs1 w ≡ slot_in cs w
    k1 = link_kept cs cs1 q1

    k2 : (w : Option Ptr) → slot_in cs2 w ≡ slot_in cs w
    k2 = link_kept cs cs2 quiet2

    ii : IsOrder (link_at cs) o (slot_in cs n) (xs ++ k ∷ ys)
    ii = subst (IsOrder (link_at cs) o (slot_in cs n)) cut i

    here : link_at cs k ≡ Some (link (last_or None xs) (first_or ys None))
    here = linked_at (link_at cs) None (xs ++ k ∷ ys) None k xs ys refl ii.linked

    kb : slot_in cs b ≡ last_or None xs
    kb = ap (slot_in cs) eb ∙ (link_told_at cs k (link (last_or None xs) (first_or ys None)) here).0

    ka : slot_in cs a ≡ first_or ys None
    ka = ap (slot_in cs) ea ∙ (link_told_at cs k (link (last_or None xs) (first_or ys None)) here).1

    d : Absent k xs × Absent k ys × Distinct (xs ++ ys)
    d = apart_middle xs k ys ii.distinct

    ordered3 : IsOrder (link_at cs3) p (slot_in cs3 m) (xs ++ ys)
    ordered3 =
        subst (λ (w : Option ℕ × Option ℕ). IsOrder (link_at cs3) w.0 w.1 (xs ++ ys))
        (λ t. (
          (sym (left_oldest cs1 cs2 o p b a l ∙ (λ u. oldest_without o ((k1 b ∙ kb) u) ((k1 a ∙ ka) u)))) t,
          (sym (right_newest cs2 cs3 n m b a j ∙ (λ u. newest_without (k2 n u) ((k2 b ∙ kb) u) ((k2 a ∙ ka) u)))) t,
        ))
        (order_cut (link_at cs) (link_at cs3) o (slot_in cs n) k xs ys ii
        (λ q b' a' e was.
        let nk : q ≢ k = last_in None xs q k d.0 (λ z. cc) e in
        (right_else cs2 cs3 n m b a j q (λ f. last_apart xs ys q q d.2 e (sym (k2 a ∙ ka) ∙ f) refl)).1 ∙ (left_there cs1 cs2 o p b a l q (k1 b ∙ kb ∙ e)).1
        ∙ (λ t. Some (link ((k1 (before_at cs1 q) ∙ ap (slot_in cs) (before_else cs cs1 k None None r q nk) ∙ (link_told_at cs q (link b' a') was).0) t) ((k1 a ∙ ka) t))))
        (λ q b' a' e was.
        let nk : q ≢ k = first_in ys q k d.1 e in
        (right_there cs2 cs3 n m b a j q (k2 a ∙ ka ∙ e)).1
        ∙ (λ t. Some (link ((k2 b ∙ kb) t)
        ((k2 (after_at cs2 q) ∙ ap (slot_in cs) ((left_else cs1 cs2 o p b a l q (λ f. last_apart xs ys q q d.2 (sym (k1 b ∙ kb) ∙ f) e refl)).0 ∙ after_else cs cs1 k None None r q nk) ∙ (link_told_at cs q (link b' a') was).1) t))))
        (λ q nk nl nf. (right_else cs2 cs3 n m b a j q (λ f. nf (sym (k2 a ∙ ka) ∙ f))).1 ∙ (left_else cs1 cs2 o p b a l q (λ f. nl (sym (k1 b ∙ kb) ∙ f))).1 ∙ link_else cs cs1 k None None r q nk))

    parts : IsGoodAt cs k × AreGood cs (xs ++ ys)
    parts = good_parts cs xs k ys (subst (AreGood cs) cut g)

    gb : IsGood cs3 b
    gb = good_kept cs cs3 quiet3 b (subst (IsGood cs) (sym eb) parts.0.0)

    ga : IsGood cs3 a
    ga = good_kept cs cs3 quiet3 a (subst (IsGood cs) (sym ea) parts.0.1)

    stays : (q : ℕ) → q ≢ k → IsGoodAt cs q → IsGoodAt cs3 q
    stays q ne h = (
      elim (is_slot (slot_in cs2 a) q) [
        | inl e ↦ subst (IsGood cs3) (sym (right_there cs2 cs3 n m b a j q e).0) gb
        | inr other ↦ subst (IsGood cs3) (sym ((right_else cs2 cs3 n m b a j q other).0 ∙ left_before cs1 cs2 o p b a l q ∙ before_else cs cs1 k None None r q ne)) (good_kept cs cs3 quiet3 _ h.0)
      ],
      elim (is_slot (slot_in cs1 b) q) [
        | inl e ↦ subst (IsGood cs3) (sym (right_after cs2 cs3 n m b a j q ∙ (left_there cs1 cs2 o p b a l q e).0)) ga
        | inr other ↦ subst (IsGood cs3) (sym (right_after cs2 cs3 n m b a j q ∙ (left_else cs1 cs2 o p b a l q other).0 ∙ after_else cs cs1 k None None r q ne)) (good_kept cs cs3 quiet3 _ h.1)
      ],
    )

    good3 : AreGood cs3 (xs ++ ys)
    good3 = are_good cs cs3 k stays (xs ++ ys) (absent_both k xs ys d.0 d.1) parts.1

    last_good3 : IsGood cs3 m
    last_good3 = right_good cs2 cs3 n m b a j gb (good_kept cs cs3 quiet3 n gn)

  linked_present : (cs : NodeCells K V) (k : ℕ) (l : Link) → link_at cs k ≡ Some l → IsSome (cell_at cs k)
  linked_present cs k l e = present (cell_at cs k) l e
    where
      present : (x : Option (NodeCell K V)) (l : Link) → link_of cs x ≡ Some l → IsSome x
      present None l e = cc
      present (Some c) l e = refl

  table_removed : (o q : Order K V) (ks : List ℕ) → IsWellLinked o → q.slots.pointers ≡ o.slots.pointers → Quiet (cells_of o.slots) (cells_of q.slots) → IsOrder (link_at (cells_of q.slots)) q.oldest (slot_in (cells_of q.slots) q.newest) ks
      → AreGood (cells_of q.slots) ks → IsGood (cells_of q.slots) q.newest → IsWellLinked q
  table_removed o q ks kept same u i g gm =
      let ds = cells_of q.slots in let e = read ds q.oldest (slot_in ds q.newest) ks i in
      record {
        tied = tied_kept o.slots q.slots same u kept.tied;
        ordered = subst (IsOrder (link_at ds) q.oldest (slot_in ds q.newest)) (sym e) i;
        good = subst (AreGood ds) (sym e) g;
        last_good = gm;
        ends = λ k. u.ends k (kept.ends k);
      }

  -- the steps of taking a slot out: its links cut, and its neighbours before and after joined
  pub record Cuts (old new : Order K V) (k : ℕ) : Type 0 where
    pub unlinked : NodeCells K V
    pub joined : NodeCells K V
    pub before : Option Ptr
    pub after : Option Ptr
    pub pointers : new.slots.pointers ≡ old.slots.pointers
    pub apart : Unlinks (cells_of old.slots) unlinked k before after
    pub left : LeftJoined unlinked joined old.oldest new.oldest before after
    pub right : RightJoined joined (cells_of new.slots) old.newest new.newest before after

  module _ {o q : Order K V} {k : ℕ} (kept : IsWellLinked o) (there : Lists o k) (c : Cuts o q k) where
    parts_at : (xs : List ℕ) × (ys : List ℕ) × (idle_of o ≡ xs ++ k ∷ ys)
    parts_at = cut_at (idle_of o) k there

    pub quiet_out : Quiet (cells_of o.slots) (cells_of q.slots)
    quiet_out = quiet3 (cells_of o.slots) c.unlinked c.joined (cells_of q.slots) o.oldest q.oldest o.newest q.newest c.before c.after k (idle_of o) parts_at.0 parts_at.1 parts_at.2 kept.ordered kept.good kept.last_good c.apart.cut c.apart.was_before c.apart.was_after c.left c.right

    order_out : IsOrder (link_at (cells_of q.slots)) q.oldest (slot_in (cells_of q.slots) q.newest) (parts_at.0 ++ parts_at.1)
    order_out = ordered3 (cells_of o.slots) c.unlinked c.joined (cells_of q.slots) o.oldest q.oldest o.newest q.newest c.before c.after k (idle_of o) parts_at.0 parts_at.1 parts_at.2 kept.ordered kept.good kept.last_good c.apart.cut c.apart.was_before c.apart.was_after c.left c.right

    pub linked_out : IsWellLinked q
    linked_out = table_removed o q (parts_at.0 ++ parts_at.1) kept c.pointers quiet_out order_out
        (good3 (cells_of o.slots) c.unlinked c.joined (cells_of q.slots) o.oldest q.oldest o.newest q.newest c.before c.after k (idle_of o) parts_at.0 parts_at.1 parts_at.2 kept.ordered kept.good kept.last_good c.apart.cut c.apart.was_before c.apart.was_after c.left c.right)
        (last_good3 (cells_of o.slots) c.unlinked c.joined (cells_of q.slots) o.oldest q.oldest o.newest q.newest c.before c.after k (idle_of o) parts_at.0 parts_at.1 parts_at.2 kept.ordered kept.good kept.last_good c.apart.cut c.apart.was_before c.apart.was_after c.left c.right)

    pub nodes_out : nodes_of q ≡ nodes_of o
    nodes_out = entries_kept (cells_of o.slots) (cells_of q.slots) quiet_out

    pub idle_out : idle_of q ≡ idle_without o k
    idle_out =
        let apart = apart_middle parts_at.0 k parts_at.1 (subst Distinct parts_at.2 kept.ordered.distinct) in
        read (cells_of q.slots) q.oldest (slot_in (cells_of q.slots) q.newest) (parts_at.0 ++ parts_at.1) order_out ∙ sym (ap (filter (λ q. not (eqb q k))) parts_at.2 ∙ left_beside k parts_at.0 parts_at.1 apart.0 apart.1)

  -- the neighbours of a slot in the order are there, before and after its links are cut
  pub good_beside : (o : Order K V) (k : ℕ) (ds : NodeCells K V) → IsWellLinked o → Lists o k → Relinks (cells_of o.slots) ds k None None → IsGood ds (before_at (cells_of o.slots) k) × IsGood ds (after_at (cells_of o.slots) k)
  good_beside o k ds kept there r =
      let cs = cells_of o.slots in
      let w = cut_at (idle_of o) k there in
      let g = good_at cs (idle_of o) w.0 k w.1 w.2 kept.good in
      let q = quiet cs ds k None None r in
      (good_kept cs ds q (before_at cs k) g.0, good_kept cs ds q (after_at cs k) g.1)

  pub present_in : (o : Order K V) (k : ℕ) → IsWellLinked o → Lists o k → HasNode o.slots k
  present_in o k kept there =
      let cs = cells_of o.slots in let w = cut_at (idle_of o) k there in
      linked_present cs k _ (linked_at (link_at cs) None (idle_of o) None k w.0 w.1 w.2 kept.ordered.linked)

  -- what is idle and looked up may be cut, and what is left then
  pub looked_up : (o : Order K V) (t : Slots K V) (p : Ptr) {k : ℕ} → t ≡ record o.slots { looks = t.looks } → IsTied t → IsWellLinked o → LeadsTo o.slots p k → Lists o k → record { linked : IsWellLinked (record o { slots = t }); idle : ListsLink (record o { slots = t }) p }
  looked_up o t p {k} rest tied kept link there = record { linked = table_looked o t rest tied kept; idle = (k, ap (λ l. slot_at l p) (ap cells_of rest) ∙ link, subst (λ s. Lists (record o { slots = s }) k) (sym rest) there) }

  pub left_idle : (o : Order K V) (t : Slots K V) (q : Order K V) (p : Ptr) {k : ℕ} → t ≡ record o.slots { looks = t.looks } → LeadsTo o.slots p k → LosesLink (record o { slots = t }) q p → idle_of q ≡ idle_without o k
  left_idle o t q p {k} rest link loses = loses k (ap (λ l. slot_at l p) (ap cells_of rest) ∙ link) ∙ ap (λ s. idle_without (record o { slots = s }) k) rest
