-- Nodes whose links change: what stays, and the order with a slot appended.
use Rattle.std.proofs.Common.{IsSome, is_some, ◌≡◌, ◌≢◌, ℕ, zero, suc, ◌<◌, List, [], ◌∷◌, ◌++◌, map, length, get_or, true, false, Option, Some, None, refl, sym, ap, ◌∙◌, subst, arith, inl, inr, eqb, ◌||◌}
use Rattle.std.specs.List.{AllByRecursion, IsDistinct, list_any}
use Rattle.std.proofs.lemmas.Bool.{cases_eq, eq-eqb, ne_eqb, true≢false}
use Rattle.std.proofs.lemmas.Map.Steps.{length-le_from_distinct_below}
use denote.RawPtr.{Ptr}
use Rattle.slab.specs.Slab.{get}
use Rattle.concurrent_lru.specs.declared.node_table.links.Order.{Order}
use Rattle.concurrent_lru.specs.declared.node_table.slots.Slots.{Slots}
use Rattle.concurrent_lru.specs.Cells.{cell_at, ptr_in, slot_at, AtSlot}
use Rattle.concurrent_lru.specs.SlotPointers.{IsTied, ptr_of, place_in, cells_of, LeadsTo}
use Rattle.concurrent_lru.specs.Order.{Link, link, last_or, Absent, Distinct, Linked, IsOrder, order}
use Rattle.concurrent_lru.specs.Slots.{map_of_slots}
use Rattle.concurrent_lru.specs.Relinks.{NodeCell, NodeCells, Relinks, slot_in, before_link, after_link, before_in, after_in, before_at, after_at}
use Rattle.concurrent_lru.specs.SlotTable.{link_of, link_at, entry_in, idle_places, nodes_of, idle_of, IsGood, IsGoodAt, AreGood, IsEnd, IsWellLinked, Omits, order_with}
use Rattle.concurrent_lru.specs.SlotWrites.{SetsLinks, SetsAfter}
use Rattle.concurrent_lru.specs.Listing.{hash_in, KeepsListings}
use Rattle.concurrent_lru.proofs.Memory.CellSlots.{slots_kept}
use Rattle.concurrent_lru.proofs.Lists.SlotsAsMaps.{made_same}
use Rattle.concurrent_lru.proofs.Nodes.Listings.{listed_alike}
use Rattle.concurrent_lru.proofs.Order.Links.{order_read, order_push, first_of}

-- ---- lists of places
pub get_or-map_option : {X Y : Type 0} (f : Option X → Option Y) → f None ≡ None → (xs : List (Option X)) (k : ℕ) → get_or (map f xs) k None ≡ f (get_or xs k None)
get_or-map_option f e [] k = sym e
get_or-map_option f e (x ∷ xs) zero = refl
get_or-map_option f e (x ∷ xs) (suc k) = get_or-map_option f e xs k

pub absent_from : (k : ℕ) (ks : List ℕ) → list_any (eqb k) ks ≡ false → Absent k ks
absent_from k [] h = tt
absent_from k (x ∷ xs) h = elim (eqb k x) as (λ b. eqb k x ≡ b → (b || list_any (eqb k) xs) ≡ false → (k ≢ x) × Absent k xs) [
  | true ↦ λ e g. absurd (true≢false g)
  | false ↦ λ e g. ((λ is. true≢false (sym (eq-eqb k x is) ∙ e)), absent_from k xs g)
] refl h

pub distinct : (ks : List ℕ) → Distinct ks → IsDistinct eqb ks
unfolding IsDistinct
distinct [] d = tt
distinct (x ∷ xs) d = (all x xs d.0, distinct xs d.1)
  where
    all : (x : ℕ) (ys : List ℕ) → Absent x ys → AllByRecursion (λ y. eqb x y ≡ false) ys
    all x [] a = tt
    all x (y ∷ ys) a = (ne_eqb x y a.0, all x ys a.1)

module _ {K V : Type 0} where
  linked_within : (all cs : NodeCells K V) (k : ℕ) (l : Link) → link_of all (cell_at cs k) ≡ Some l → k < length cs
  linked_within all [] zero l e = cc
  linked_within all [] (suc k) l e = cc
  linked_within all (c ∷ cs) zero l e = omega arith
  linked_within all (c ∷ cs) (suc k) l e = omega (arith, linked_within all cs k l e)

  all_within : (cs : NodeCells K V) (b : Option ℕ) (ks : List ℕ) (e : Option ℕ) → Linked (link_at cs) b ks e → (q : ℕ) → list_any (eqb q) ks ≡ true → q < length cs
  all_within cs b [] e l q h = cc
  all_within cs b (k ∷ ks) e l q h = (elim (eqb q k) as (λ v. eqb q k ≡ v → q < length cs) [
    | true ↦ λ s. let is : q ≡ k = grind arith in subst (λ x. x < length cs) (sym is) (linked_within cs cs k _ l.0)
    | false ↦ λ s. all_within cs (Some k) ks e l.1 q (rw s at h)
  ]) refl

  -- the list that the links make is the one that is read
  pub read : (cs : NodeCells K V) (o n : Option ℕ) (ks : List ℕ) → IsOrder (link_at cs) o n ks → idle_places cs o ≡ ks
  read cs o n ks i =
      ap (order (length cs) (link_at cs)) i.first
      ∙ order_read (link_at cs) (length cs) None ks i.linked (length-le_from_distinct_below ks (length cs) (distinct ks i.distinct) (all_within cs None ks None i.linked))

  -- what no change of links changes
  pub record Quiet (cs ds : NodeCells K V) : Type 0 where
    pub entries : (q : ℕ) → entry_in (cell_at ds q) ≡ entry_in (cell_at cs q)
    pub pointers : (q : ℕ) → ptr_in (cell_at ds q) ≡ ptr_in (cell_at cs q)
    pub places : (q : ℕ) → place_in (cell_at ds q) ≡ place_in (cell_at cs q)
    pub ends : (q : ℕ) → IsEnd (cell_at cs q) → IsEnd (cell_at ds q)
    pub hashes : (q : ℕ) → hash_in (cell_at ds q) ≡ hash_in (cell_at cs q)

  pub quiet_same : (cs ds : NodeCells K V) → ds ≡ cs → Quiet cs ds
  quiet_same cs ds e = subst (Quiet cs) (sym e) (record { entries = λ q. refl; pointers = λ q. refl; places = λ q. refl; ends = λ q h. h; hashes = λ q. refl })

  pub quiet_trans : (cs ds es : NodeCells K V) → Quiet cs ds → Quiet ds es → Quiet cs es
  quiet_trans cs ds es a b = record {
    entries = λ q. b.entries q ∙ a.entries q;
    pointers = λ q. b.pointers q ∙ a.pointers q;
    places = λ q. b.places q ∙ a.places q;
    ends = λ q h. b.ends q (a.ends q h);
    hashes = λ q. b.hashes q ∙ a.hashes q;
  }

  pub quiet_listings : (cs ds : NodeCells K V) → Quiet cs ds → KeepsListings cs ds
  quiet_listings cs ds u k = (u.hashes k, listed_alike (cell_at ds k) (cell_at cs k) (u.entries k) (u.pointers k) (u.hashes k))

  -- each link leads where it led
  pub link_kept : (cs ds : NodeCells K V) → Quiet cs ds → (w : Option Ptr) → slot_in ds w ≡ slot_in cs w
  link_kept cs ds u None = refl
  link_kept cs ds u (Some p) = slots_kept cs ds u.pointers p

  pub tied_kept : (s t : Slots K V) → t.pointers ≡ s.pointers → Quiet s.memory.cells t.memory.cells → IsTied s → IsTied t
  tied_kept s t same u tied = record {
    pointers = λ q. u.pointers q ∙ tied.pointers q ∙ ap (λ l. ptr_of (get l q)) (sym same);
    apart = λ q p e. slots_kept s.memory.cells t.memory.cells u.pointers p ∙ tied.apart q p (sym (u.pointers q) ∙ e);
    placed = λ q place e. tied.placed q place (sym (u.places q) ∙ e);
  }

  -- the links of a cell lead to the same slots
  pub links_same : (cs ds : NodeCells K V) (x : Option (NodeCell K V)) → slot_in ds (before_in x) ≡ slot_in cs (before_in x) → slot_in ds (after_in x) ≡ slot_in cs (after_in x) → link_of ds x ≡ link_of cs x
  links_same cs ds None e f = refl
  links_same cs ds (Some c) e f = λ i. Some (link (e i) (f i))

  module _ (cs ds : NodeCells K V) (k : ℕ) (b a : Option Ptr) (r : Relinks cs ds k b a) where
    pub quiet : Quiet cs ds
    quiet = record {
      entries = λ q. elim (cases_eq q k) [
        | inl is ↦ ap (λ j. entry_in (cell_at ds j)) is ∙ ap entry_in r.now ∙ ap Some r.node.entry ∙ sym (ap entry_in r.was) ∙ sym (ap (λ j. entry_in (cell_at cs j)) is)
        | inr ne ↦ ap entry_in (r.others q ne)
      ];
      pointers = λ q. elim (cases_eq q k) [
        | inl is ↦ ap (λ j. ptr_in (cell_at ds j)) is ∙ ap ptr_in r.now ∙ ap Some r.at ∙ sym (ap ptr_in r.was) ∙ sym (ap (λ j. ptr_in (cell_at cs j)) is)
        | inr ne ↦ ap ptr_in (r.others q ne)
      ];
      places = λ q. elim (cases_eq q k) [
        | inl is ↦ ap (λ j. place_in (cell_at ds j)) is ∙ ap place_in r.now ∙ ap Some r.node.place ∙ sym (ap place_in r.was) ∙ sym (ap (λ j. place_in (cell_at cs j)) is)
        | inr ne ↦ ap place_in (r.others q ne)
      ];
      ends = λ q h. elim (cases_eq q k) [
        | inl is ↦ subst IsEnd (sym (ap (cell_at ds) is ∙ r.now)) (r.node.chain ∙ subst IsEnd (ap (cell_at cs) is ∙ r.was) h)
        | inr ne ↦ subst IsEnd (sym (r.others q ne)) h
      ];
      hashes = λ q. elim (cases_eq q k) [
        | inl is ↦ ap (λ j. hash_in (cell_at ds j)) is ∙ ap hash_in r.now ∙ ap Some r.node.hash ∙ sym (ap hash_in r.was) ∙ sym (ap (λ j. hash_in (cell_at cs j)) is)
        | inr ne ↦ ap hash_in (r.others q ne)
      ];
    }

    pub link_there : link_at ds k ≡ Some (link (slot_in cs b) (slot_in cs a))
    link_there = ap (link_of ds) r.now ∙ (λ i. Some (link (slot_in ds (r.node.before i)) (slot_in ds (r.node.after i)))) ∙ (λ i. Some (link (link_kept cs ds quiet b i) (link_kept cs ds quiet a i)))

    pub link_else : (q : ℕ) → q ≢ k → link_at ds q ≡ link_at cs q
    link_else q ne = ap (link_of ds) (r.others q ne) ∙ links_same cs ds (cell_at cs q) (link_kept cs ds quiet (before_at cs q)) (link_kept cs ds quiet (after_at cs q))

    pub before_there : before_at ds k ≡ b
    before_there = ap before_in r.now ∙ r.node.before

    pub after_there : after_at ds k ≡ a
    after_there = ap after_in r.now ∙ r.node.after

    pub before_else : (q : ℕ) → q ≢ k → before_at ds q ≡ before_at cs q
    before_else q ne = ap before_in (r.others q ne)

    pub after_else : (q : ℕ) → q ≢ k → after_at ds q ≡ after_at cs q
    after_else q ne = ap after_in (r.others q ne)

  pub good_kept : (cs ds : NodeCells K V) → Quiet cs ds → (w : Option Ptr) → IsGood cs w → IsGood ds w
  good_kept cs ds u None g = tt
  good_kept cs ds u (Some p) g = subst IsSome (sym (slots_kept cs ds u.pointers p)) g

  pub are_good : (cs ds : NodeCells K V) (k : ℕ) → ((q : ℕ) → q ≢ k → IsGoodAt cs q → IsGoodAt ds q) → (ks : List ℕ) → Absent k ks → AreGood cs ks → AreGood ds ks
  are_good cs ds k h [] a g = tt
  are_good cs ds k h (q ∷ qs) a g = (h q (λ e. a.0 (sym e)) g.0, are_good cs ds k h qs a.1 g.1)

  pub good_push : (cs : NodeCells K V) (ks : List ℕ) (k : ℕ) → AreGood cs ks → IsGoodAt cs k → AreGood cs (ks ++ k ∷ [])
  good_push cs [] k g h = (h, tt)
  good_push cs (q ∷ qs) k g h = (g.0, good_push cs qs k g.1 h)

  pub entries_kept : (cs ds : NodeCells K V) → Quiet cs ds → map_of_slots (map entry_in ds) ≡ map_of_slots (map entry_in cs)
  entries_kept cs ds u = made_same (map entry_in cs) (map entry_in ds) (λ q. get_or-map_option entry_in refl ds q ∙ u.entries q ∙ sym (get_or-map_option entry_in refl cs q))

  pub link_told_at : (cs : NodeCells K V) (k : ℕ) (l : Link) → link_at cs k ≡ Some l → (slot_in cs (before_at cs k) ≡ l.before) × (slot_in cs (after_at cs k) ≡ l.after)
  link_told_at cs k l e = told (cell_at cs k) l e
    where
      told : (x : Option (NodeCell K V)) (l : Link) → link_of cs x ≡ Some l → (slot_in cs (before_in x) ≡ l.before) × (slot_in cs (after_in x) ≡ l.after)
      told None l e = cc
      told (Some c) l e = let same : link (slot_in cs (before_link c.value)) (slot_in cs (after_link c.value)) ≡ l = cc in (ap (λ (m : Link). m.before) same, ap (λ (m : Link). m.after) same)

  -- what is known once a slot was linked in as the newest
  pub record Pushed (cs ds : NodeCells K V) (o : Option ℕ) (ks : List ℕ) (own : ℕ) : Type 0 where
    pub quiet : Quiet cs ds
    pub ordered : IsOrder (link_at ds) o (Some own) (ks ++ own ∷ [])
    pub good : AreGood ds (ks ++ own ∷ [])

  -- p is the pointer of the slot own
  table_pushed : (o : Order K V) (t : Slots K V) (q : Option ℕ) (own : ℕ) (p : Ptr) → IsWellLinked o → t.pointers ≡ o.slots.pointers → LeadsTo o.slots p own → Pushed (cells_of o.slots) (cells_of t) q (idle_of o) own → IsWellLinked (order_with t q (Some p))
  table_pushed o t q own p kept same at u =
      let cs = cells_of o.slots in let ds = cells_of t in
      let e = read ds q (Some own) (idle_of o ++ own ∷ []) u.ordered in
      let there : slot_at ds p ≡ Some own = slots_kept cs ds u.quiet.pointers p ∙ at in
      record {
        tied = tied_kept o.slots t same u.quiet kept.tied;
        ordered = subst (λ w. IsOrder (link_at ds) q w (idle_places ds q)) (sym there) (subst (IsOrder (link_at ds) q (Some own)) (sym e) u.ordered);
        good = subst (AreGood ds) (sym e) u.good;
        last_good = ap is_some there;
        ends = λ k. u.quiet.ends k (kept.ends k);
      }

  module _ (cs cs1 : NodeCells K V) (o : Option ℕ) (n : Option Ptr) (ks : List ℕ) (own : ℕ) (p : Ptr) (at : slot_at cs p ≡ Some own)
      (i : IsOrder (link_at cs) o (slot_in cs n) ks) (g : AreGood cs ks) (gn : IsGood cs n) (out : Absent own ks) (r : Relinks cs cs1 own n None) where
    q1 : Quiet cs cs1
    q1 = quiet cs cs1 own n None r

    stays1 : (q : ℕ) → q ≢ own → IsGoodAt cs q → IsGoodAt cs1 q
    stays1 q ne h =
        (subst (IsGood cs1) (sym (before_else cs cs1 own n None r q ne)) (good_kept cs cs1 q1 _ h.0), subst (IsGood cs1) (sym (after_else cs cs1 own n None r q ne)) (good_kept cs cs1 q1 _ h.1))

    good1 : IsGoodAt cs1 own
    good1 = (subst (IsGood cs1) (sym (before_there cs cs1 own n None r)) (good_kept cs cs1 q1 n gn), subst (IsGood cs1) (sym (after_there cs cs1 own n None r)) tt)

    -- into an empty list
    pushed_first : n ≡ None → Pushed cs cs1 (Some own) ks own
    pushed_first e = record {
      quiet = q1;
      ordered = subst (λ v. IsOrder (link_at cs1) v (Some own) (ks ++ own ∷ [])) (ap (first_of (link_at cs) (link_at cs1) o (slot_in cs n) own) (ap (slot_in cs) e))
          (order_push (link_at cs) (link_at cs1) o (slot_in cs n) own ks i out (link_there cs cs1 own n None r) (λ m b a s was. absurd (none_some m (sym (ap (slot_in cs) e) ∙ s))) (λ q ne no. link_else cs cs1 own n None r q ne));
      good = good_push cs1 ks own (are_good cs cs1 own stays1 ks out g) good1;
    }
      where
        none_some : (m : ℕ) → None ≡ Some m → ⊥
        none_some m e = cc

    not_last : (b : Option ℕ) (qs : List ℕ) (m : ℕ) → Absent own qs → (b ≡ Some m → own ≢ m) → last_or b qs ≡ Some m → own ≢ m
    not_last b [] m a f e = f e
    not_last b (q ∷ qs) m a f e = not_last (Some q) qs m a.1 (λ is e'. let same : q ≡ m = cc in a.0 (e' ∙ sym same)) e

    -- after the newest, whose slot is m
    module _ (cs2 : NodeCells K V) (m : ℕ) (some : slot_in cs n ≡ Some m) (r2 : Relinks cs1 cs2 m (before_at cs1 m) (Some p)) where
      apart : own ≢ m
      apart = not_last None ks m out (λ e. cc) (sym i.last ∙ some)

      q2 : Quiet cs cs2
      q2 = quiet_trans cs cs1 cs2 q1 (quiet cs1 cs2 m (before_at cs1 m) (Some p) r2)

      same_before : before_at cs2 m ≡ before_at cs m
      same_before = before_there cs1 cs2 m (before_at cs1 m) (Some p) r2 ∙ before_else cs cs1 own n None r m (λ e. apart (sym e))

      stays2 : (q : ℕ) → q ≢ own → IsGoodAt cs q → IsGoodAt cs2 q
      stays2 q ne h = elim (cases_eq q m) [
        | inl is ↦ (
          subst (IsGood cs2) (sym (ap (before_at cs2) is ∙ same_before ∙ sym (ap (before_at cs) is))) (good_kept cs cs2 q2 _ h.0),
          subst (IsGood cs2) (sym (ap (after_at cs2) is ∙ after_there cs1 cs2 m (before_at cs1 m) (Some p) r2)) (good_kept cs cs2 q2 (Some p) (ap is_some at)),
        )
        | inr nm ↦ (
          subst (IsGood cs2) (sym (before_else cs1 cs2 m (before_at cs1 m) (Some p) r2 q nm ∙ before_else cs cs1 own n None r q ne)) (good_kept cs cs2 q2 _ h.0),
          subst (IsGood cs2) (sym (after_else cs1 cs2 m (before_at cs1 m) (Some p) r2 q nm ∙ after_else cs cs1 own n None r q ne)) (good_kept cs cs2 q2 _ h.1),
        )
      ]

      good2 : IsGoodAt cs2 own
      good2 = (
        subst (IsGood cs2) (sym (before_else cs1 cs2 m (before_at cs1 m) (Some p) r2 own apart ∙ before_there cs cs1 own n None r)) (good_kept cs cs2 q2 n gn),
        subst (IsGood cs2) (sym (after_else cs1 cs2 m (before_at cs1 m) (Some p) r2 own apart ∙ after_there cs cs1 own n None r)) tt,
      )

      pushed_after : Pushed cs cs2 o ks own
      pushed_after = record {
        quiet = q2;
        ordered = subst (λ v. IsOrder (link_at cs2) v (Some own) (ks ++ own ∷ [])) (ap (first_of (link_at cs) (link_at cs2) o (slot_in cs n) own) some)
            (order_push (link_at cs) (link_at cs2) o (slot_in cs n) own ks i out
            (link_else cs1 cs2 m (before_at cs1 m) (Some p) r2 own apart ∙ link_there cs cs1 own n None r)
            (λ l b a s was.
            let at_last : Some l ≡ Some m = sym s ∙ some in let is : l ≡ m = cc in
            ap (link_at cs2) is ∙ link_there cs1 cs2 m (before_at cs1 m) (Some p) r2
            ∙ (λ j. Some (link
            ((link_kept cs cs1 q1 (before_at cs1 m) ∙ ap (slot_in cs) (before_else cs cs1 own n None r m (λ e. apart (sym e))) ∙ (link_told_at cs m (link b a) (sym (ap (link_at cs) is) ∙ was)).0) j)
            ((link_kept cs cs1 q1 (Some p) ∙ at) j))))
            (λ q ne no. link_else cs1 cs2 m (before_at cs1 m) (Some p) r2 q (λ e. no (some ∙ ap Some (sym e))) ∙ link_else cs cs1 own n None r q ne));
        good = good_push cs2 ks own (are_good cs cs2 own stays2 ks out g) good2;
      }

  pub some_cell : (x : Option (NodeCell K V)) → IsSome x → (c : NodeCell K V) × (x ≡ Some c)
  some_cell None h = cc
  some_cell (Some c) h = (c, refl)

  -- a slot appended to the order
  pub record IsAppended (old new : Order K V) (k : ℕ) : Type 0 where
    pub linked : IsWellLinked new
    pub quiet : Quiet (cells_of old.slots) (cells_of new.slots)
    pub nodes : nodes_of new ≡ nodes_of old
    pub idle : idle_of new ≡ idle_of old ++ k ∷ []

  appended : (o : Order K V) (t : Slots K V) (q : Option ℕ) (k : ℕ) (p : Ptr) → IsWellLinked o → t.pointers ≡ o.slots.pointers → LeadsTo o.slots p k → Pushed (cells_of o.slots) (cells_of t) q (idle_of o) k → IsAppended o (order_with t q (Some p)) k
  appended o t q k p kept same at u = record { linked = table_pushed o t q k p kept same at u; quiet = u.quiet; nodes = entries_kept (cells_of o.slots) (cells_of t) u.quiet; idle = read (cells_of t) q (Some k) (idle_of o ++ k ∷ []) u.ordered }

  -- a look changes no node
  pub table_looked : (o : Order K V) (t : Slots K V) → t ≡ record o.slots { looks = t.looks } → IsTied t → IsWellLinked o → IsWellLinked (record o { slots = t })
  table_looked o t rest tied kept = subst (λ u. IsTied u → IsWellLinked (record o { slots = u })) (sym rest) (λ u. record { tied = u; ordered = kept.ordered; good = kept.good; last_good = kept.last_good; ends = kept.ends }) tied

  -- what holds of the slot of a pointer
  told_at : (cs : NodeCells K V) (F : ℕ → Type 0) (p : Ptr) (k : ℕ) → slot_at cs p ≡ Some k → AtSlot cs p F → F k
  told_at cs F p k at x = let both : Some x.0 ≡ Some k = sym x.1 ∙ at in let is : x.0 ≡ k = cc in subst F is x.2

  module _ (o : Order K V) (k : ℕ) (p : Ptr) (kept : IsWellLinked o) (at : LeadsTo o.slots p k) where
    abbrev cells : NodeCells K V
    cells = cells_of o.slots

    relinked : (ds : NodeCells K V) → AtSlot cells p (λ j. Relinks cells ds j o.newest None) → Relinks cells ds k o.newest None
    relinked ds x = told_at cells (λ j. Relinks cells ds j o.newest None) p k at x

    -- the newest is there once the slot is linked to it
    pub last_held : (ds : NodeCells K V) (last : Ptr) → AtSlot cells p (λ j. Relinks cells ds j o.newest None) → o.newest ≡ Some last → IsSome (slot_at ds last)
    last_held ds last x is = good_kept cells ds (quiet cells ds k o.newest None (relinked ds x)) (Some last) (subst (IsGood cells) is kept.last_good)

    -- to an empty one, and after the newest
    pub appended_first : (t : Slots K V) → t.pointers ≡ o.slots.pointers → Omits o k → SetsLinks o.slots t p o.newest None → o.newest ≡ None → IsAppended o (order_with t (Some k) (Some p)) k
    appended_first t same held x none =
        appended o t (Some k) k p kept same at (pushed_first cells (cells_of t) o.oldest o.newest (idle_of o) k p at kept.ordered kept.good kept.last_good (absent_from k (idle_of o) held) (relinked (cells_of t) x) none)

    pub appended_after : (s t : Slots K V) (last : Ptr) → t.pointers ≡ o.slots.pointers → Omits o k → SetsLinks o.slots s p o.newest None → o.newest ≡ Some last → SetsAfter s t last (Some p) → IsAppended o (order_with t o.oldest (Some p)) k
    appended_after s t last same held x is after =
        let ds = cells_of s in let r = relinked ds x in
        let newest : slot_in cells o.newest ≡ Some after.0 = ap (slot_in cells) is ∙ sym (link_kept cells ds (quiet cells ds k o.newest None r) (Some last)) ∙ after.1 in
        appended o t o.oldest k p kept same at
        (pushed_after cells ds o.oldest o.newest (idle_of o) k p at kept.ordered kept.good kept.last_good (absent_from k (idle_of o) held) r (cells_of t) after.0 newest after.2)
