-- The groups of a plain run.
use Rattle.std.proofs.Common.{◌≡◌, ℕ, ◌+◌, inl, inr, Bool, true, false, cond, not, List, [], ◌∷◌, ◌++◌, map, Option, Some, None, refl, sym, ap, ◌∙◌, subst, arith, eqb, ◌==◌}
use Rattle.std.specs.List.{sum_by, find, IsDistinct, AllByRecursion}
use Rattle.std.specs.Ordering.{nat_cmp}
use Rattle.std.specs.Cmp.{IsEquivalence, nat_cmp_total}
use Rattle.std.specs.FinMap as finmap
use Rattle.std.specs.FinMap.{same_map, nat_cmp-IsAntisymmetric, get-empty, get-insert, get-remove}
use Rattle.std.proofs.lemmas.Bool.{eqb-true, eq-eqb, true≢false}
use Rattle.std.proofs.lemmas.Option.{none-some, same_Some}
use Rattle.std.proofs.lemmas.List.Sums.{sum_by-cons}
use Rattle.concurrent_lru.specs.Cache.{Cache, Idle, Held, making, ready, IsLawful, idle_at, held_at, charges}
use Rattle.concurrent_lru.specs.Steps.{Makes, ChangesPhase, Rests, Revives, without, held_in_phase, idle_again, held_by_one}
use Rattle.concurrent_lru.specs.Uses.{AreSame}
use Rattle.concurrent_lru.specs.Representation.{held_charges}
use Rattle.concurrent_lru.proofs.Entries.NodesOfSetAndAdd.{inserted_at}
use Rattle.concurrent_lru.proofs.Lists.DistinctEntries.{same}
use Rattle.concurrent_lru.proofs.Entries.SumsOfHeld.{sum-insert}
use Rattle.concurrent_lru.proofs.Runs.LongestEnds.{Fitting, fitting_front, fitting_twice, others, AgreesOnEqual}
use Rattle.concurrent_lru.proofs.Steps.EmptyCache.{no_entries}

module _ {X : Type 0} where
  -- what was put into the empty map, and changed, is gone again
  pub put_gone : (s : ℕ) (x : X) → finmap.remove (finmap.insert (finmap.empty {R = nat_cmp}) s x) s ≡ finmap.empty
  put_gone s x = same_map nat_cmp_total nat_cmp-IsAntisymmetric _ _ (λ q.
      get-remove nat_cmp_total (finmap.insert finmap.empty s x) s q ∙ ap (cond (same q s) None) (get-insert nat_cmp_total finmap.empty s x q) ∙ twice (same q s) (finmap.get (finmap.empty {X = X} {R = nat_cmp}) q) (get-empty nat_cmp q))
    where
      twice : (t : Bool) (o : Option X) → o ≡ None → cond t None (cond t (Some x) o) ≡ o
      twice true o h = sym h
      twice false o h = refl

  pub put_again : (m : finmap.FinMap nat_cmp X) (s : ℕ) (x y : X) → finmap.insert (finmap.insert m s x) s y ≡ finmap.insert m s y
  put_again m s x y = same_map nat_cmp_total nat_cmp-IsAntisymmetric _ _ (λ q.
      get-insert nat_cmp_total (finmap.insert m s x) s y q ∙ ap (cond (same q s) (Some y)) (get-insert nat_cmp_total m s x q) ∙ twice (same q s) (finmap.get m q) ∙ sym (get-insert nat_cmp_total m s y q))
    where
      twice : (t : Bool) (o : Option X) → cond t (Some y) (cond t (Some x) o) ≡ cond t (Some y) o
      twice true o = refl
      twice false o = refl

module _ {K V : Type 0} (E : K → K → Bool) (price : K → ℕ) where
  -- idle entries, one by one, have these keys and their charges
  abbrev pub Paired : List (Idle K V) → List K → Type 0
  Paired [] [] = Unit {0}
  Paired (x ∷ xs) (k ∷ ks) = (E x.key k ≡ true) × (x.charge ≡ price k) × Paired xs ks
  Paired [] (k ∷ ks) = ⊥
  Paired (x ∷ xs) [] = ⊥

  pub paired_same : (xs : List (Idle K V)) (ks : List K) → Paired xs ks → AreSame E (map (λ x. x.key) xs) ks
  paired_same [] [] h = tt
  paired_same (x ∷ xs) (k ∷ ks) h = (h.0, paired_same xs ks h.2)
  paired_same [] (k ∷ ks) h = absurd h
  paired_same (x ∷ xs) [] h = absurd h

  pub paired_sum : (xs : List (Idle K V)) (ks : List K) → Paired xs ks → charges xs ≡ sum_by price ks
  paired_sum [] [] h = refl
  paired_sum (x ∷ xs) (k ∷ ks) h =
      let i : charges xs ≡ sum_by price ks = paired_sum xs ks h.2 in
      let a : charges (x ∷ xs) ≡ x.charge + charges xs = sum_by-cons (λ z. z.charge) x xs in
      let b : sum_by price (k ∷ ks) ≡ price k + sum_by price ks = sum_by-cons price k ks in
      omega (arith, i, a, b, h.1)
  paired_sum [] (k ∷ ks) h = absurd h
  paired_sum (x ∷ xs) [] h = absurd h

  pub paired_push : (xs : List (Idle K V)) (ks : List K) (x : Idle K V) (k : K) → Paired xs ks → E x.key k ≡ true → x.charge ≡ price k → Paired (xs ++ x ∷ []) (ks ++ k ∷ [])
  paired_push [] [] x k h e c = (e, c, tt)
  paired_push (y ∷ xs) (l ∷ ks) x k h e c = (h.0, h.1, paired_push xs ks x k h.2 e c)
  paired_push [] (l ∷ ks) x k h e c = absurd h
  paired_push (y ∷ xs) [] x k h e c = absurd h

  -- what fits of the entries pairs with what fits of the keys
  pub paired_fitting : (c : ℕ) (xs : List (Idle K V)) (ks : List K) (r : List (Idle K V)) (t : List K) → Paired xs ks → Fitting (λ x. x.charge) 0 c xs r → Fitting price 0 c ks t → Paired r t
  paired_fitting c [] [] r t h a b = subst (λ zs. Paired zs t) (sym a) (subst (Paired []) (sym b) tt)
  paired_fitting c (x ∷ xs) (k ∷ ks) r t h a b =
      let s : charges (x ∷ xs) ≡ sum_by price (k ∷ ks) = paired_sum (x ∷ xs) (k ∷ ks) h in
      elim a [
        | inl a ↦ elim b [
          | inl b ↦ subst (λ zs. Paired zs t) (sym a.1) (subst (Paired (x ∷ xs)) (sym b.1) h)
          | inr b ↦ absurd (omega (arith, s, a.0, b.0))
        ]
        | inr a ↦ elim b [
          | inl b ↦ absurd (omega (arith, s, a.0, b.0))
          | inr b ↦ paired_fitting c xs ks r t h.2 a.1 b.1
        ]
      ]
  paired_fitting c [] (k ∷ ks) r t h a b = absurd h
  paired_fitting c (x ∷ xs) [] r t h a b = absurd h

  -- what is left after one use more of the key k, for a cache with nothing held
  pub record IsUsed (old new : Cache K V) (k : K) (ks : List K) : Type 0 where
    pub held : new.held ≡ finmap.empty
    pub capacity : new.capacity ≡ old.capacity
    pub most_pins : new.most_pins ≡ old.most_pins
    pub before : List (Idle K V)
    pub paired : Paired before (others E k ks ++ k ∷ [])
    pub fits : Fitting (λ x. x.charge) 0 old.capacity before new.idle

module _ {K V : Type 0} where
  -- nothing held weighs nothing
  pub none_held_sum : (m : finmap.FinMap nat_cmp (Held K V)) → m ≡ finmap.empty → held_charges m ≡ 0
  none_held_sum m h = ap held_charges h ∙ ap (λ es. sum_by (λ (e : Held K V). e.charge) (map (λ e. e.1) es)) no_entries

  -- the last release of what alone is held
  pub record Rested (mid new : Cache K V) (e : Held K V) : Type 0 where
    pub entry : Idle K V
    pub key : entry.key ≡ e.key
    pub charge : entry.charge ≡ e.charge
    pub held : new.held ≡ finmap.empty
    pub capacity : new.capacity ≡ mid.capacity
    pub most_pins : new.most_pins ≡ mid.most_pins
    pub fits : Fitting (λ x. x.charge) 0 mid.capacity (mid.idle ++ entry ∷ []) new.idle

  pub rest_alone : (E : K → K → Bool) (mid new : Cache K V) (s : ℕ) (e : Held K V) (out : List (Idle K V)) → held_at mid s ≡ Some e → finmap.remove mid.held s ≡ finmap.empty → Rests E mid s out new → Rested mid new e
  rest_alone E mid new s e out at alone r =
      let is : r.entry ≡ e = same_Some _ _ (sym r.holds.at ∙ at) in
      let zero : held_charges (finmap.remove mid.held s) ≡ 0 = none_held_sum (finmap.remove mid.held s) alone in
      record {
        entry = idle_again s r.entry r.value;
        key = ap (λ x. x.key) is;
        charge = ap (λ x. x.charge) is;
        held = ap (λ c. c.held) r.settles.others ∙ alone;
        capacity = ap (λ c. c.capacity) r.settles.others;
        most_pins = ap (λ c. c.most_pins) r.settles.others;
        fits = fitting_front 0 mid.capacity (charges (mid.idle ++ idle_again s r.entry r.value ∷ []) + held_charges (finmap.remove mid.held s)) (mid.idle ++ idle_again s r.entry r.value ∷ []) out new.idle (omega (arith, zero)) r.settles.front;
      }

  -- each idle entry is found under its stamp
  abbrev pub AreFound : List (Idle K V) → List (Idle K V) → Type 0
  AreFound xs ys = AllByRecursion (λ y. find (λ z. z.stamp == y.stamp) xs ≡ Some y) ys

  pub each_is_found : (xs : List (Idle K V)) → IsDistinct eqb (map (λ x. x.stamp) xs) → AreFound xs xs
  unfolding IsDistinct
  each_is_found [] d = tt
  each_is_found (x ∷ xs) d = (ap (λ b. cond b (Some x) (find (λ z. z.stamp == x.stamp) xs)) (eq-eqb x.stamp x.stamp refl), behind x xs xs d.0 (each_is_found xs d.1))
    where
      behind : (x : Idle K V) (xs ys : List (Idle K V)) → AllByRecursion (λ z. eqb x.stamp z ≡ false) (map (λ y. y.stamp) ys) → AreFound xs ys → AreFound (x ∷ xs) ys
      behind x xs [] d h = tt
      behind x xs (y ∷ ys) d h = (ap (λ b. cond b (Some x) (find (λ z. z.stamp == y.stamp) xs)) d.0 ∙ h.0, behind x xs ys d.1 h.1)

module _ {K V : Type 0} (E : K → K → Bool) (eq : IsEquivalence E) where
  -- the stamp of an idle entry tells the entry of its key
  pub stamp_of_key : (c : Cache K V) (s : ℕ) (x : Idle K V) (k : K) → IsLawful E c → idle_at c s ≡ Some x → E x.key k ≡ true → AllByRecursion (λ y. (y.stamp == s) ≡ E y.key k) c.idle
  stamp_of_key c s x k l at key = alike c.idle (each_is_found c.idle l.idle_apart)
    where
      same_stamp : (y : Idle K V) → idle_at c y.stamp ≡ Some y → (y.stamp == s) ≡ E y.key k
      same_stamp y here = elim (y.stamp == s) as (λ b. (y.stamp == s) ≡ b → b ≡ E y.key k) [
        | true ↦ λ b.
            let is : y ≡ x = same_Some _ _ (sym here ∙ ap (idle_at c) (eqb-true y.stamp s b) ∙ at) in
            sym (ap (λ z. E z.key k) is ∙ key)
        | false ↦ λ b. elim (E y.key k) as (λ t. E y.key k ≡ t → false ≡ t) [
          | true ↦ λ t.
              let same : E y.key x.key ≡ true = eq.congr y.key k x.key t ∙ eq.symm k x.key ∙ key in
              absurd (true≢false (sym (eq-eqb y.stamp s (l.one_entry y.stamp s y.key x.key y.charge x.charge (inl (y, here, refl, refl)) (inl (x, at, refl, refl)) same)) ∙ b))
          | false ↦ λ t. refl
        ] refl
      ] refl

      alike : (ys : List (Idle K V)) → AreFound c.idle ys → AllByRecursion (λ y. (y.stamp == s) ≡ E y.key k) ys
      alike [] h = tt
      alike (y ∷ ys) h = (same_stamp y h.0, alike ys h.1)

module _ {K V : Type 0} (E : K → K → Bool) (price : K → ℕ) (eq : IsEquivalence E) (p : AgreesOnEqual E price) where
  -- the keys of a cache that lacks k are others
  pub others_absent : (k : K) (xs : List (Idle K V)) (ks : List K) → AllByRecursion (λ y. E y.key k ≡ false) xs → Paired E price xs ks → others E k ks ≡ ks
  others_absent k [] [] a h = refl
  others_absent k (x ∷ xs) (l ∷ ks) a h =
      ap (λ t. cond (not t) (l ∷ others E k ks) (others E k ks)) (sym (eq.congr x.key l k h.0) ∙ a.0) ∙ ap (λ zs. l ∷ zs) (others_absent k xs ks a.1 h.2)
  others_absent k [] (l ∷ ks) a h = absurd h
  others_absent k (x ∷ xs) [] a h = absurd h

  -- without the entry of a stamp, where that stamp is the key's
  pub paired_without : (s : ℕ) (k : K) (xs : List (Idle K V)) (ks : List K) → AllByRecursion (λ y. (y.stamp == s) ≡ E y.key k) xs → Paired E price xs ks → Paired E price (without s xs) (others E k ks)
  paired_without s k [] [] a h = tt
  paired_without s k (x ∷ xs) (l ∷ ks) a h =
      let r = paired_without s k xs ks a.1 h.2 in
      let same : (x.stamp == s) ≡ E l k = a.0 ∙ eq.congr x.key l k h.0 in
      subst (λ t. Paired E price (cond (not t) (x ∷ without s xs) (without s xs)) (cond (not (E l k)) (l ∷ others E k ks) (others E k ks))) (sym same)
      (elim (E l k) as (λ t. Paired E price (cond (not t) (x ∷ without s xs) (without s xs)) (cond (not t) (l ∷ others E k ks) (others E k ks))) [
        | true ↦ r
        | false ↦ (h.0, h.1, r)
      ])
  paired_without s k [] (l ∷ ks) a h = absurd h
  paired_without s k (x ∷ xs) [] a h = absurd h

  -- an idle entry has its key's charge
  pub paired_charge : (s : ℕ) (e : Idle K V) (xs : List (Idle K V)) (ks : List K) → find (λ z. z.stamp == s) xs ≡ Some e → Paired E price xs ks → e.charge ≡ price e.key
  paired_charge s e [] [] f h = absurd (none-some e f)
  paired_charge s e (x ∷ xs) (l ∷ ks) f h = elim (x.stamp == s) as (λ b. cond b (Some x) (find (λ z. z.stamp == s) xs) ≡ Some e → e.charge ≡ price e.key) [
    | true ↦ λ f. let is : x ≡ e = same_Some _ _ f in subst (λ y. y.charge ≡ price y.key) is (h.1 ∙ sym (p x.key l h.0))
    | false ↦ λ f. paired_charge s e xs ks f h.2
  ] f
  paired_charge s e [] (l ∷ ks) f h = absurd h
  paired_charge s e (x ∷ xs) [] f h = absurd h

  -- the three steps of a making
  pub made_used : (old one two new : Cache K V) (k : K) (c s : ℕ) (v : V) (out1 out2 out3 : List (Idle K V)) (ks : List K) → IsLawful E old → old.held ≡ finmap.empty → Paired E price old.idle ks → c ≡ price k
      → Makes E old k c s out1 one → ChangesPhase E one s making (ready v) out2 two → Rests E two s out3 new → IsUsed E price old new k ks
  made_used old one two new k c s v out1 out2 out3 ks l alone pairs charged m t r =
      let e : Held K V = record { key = m.copy; charge = c; pins = 1; detached = false; phase = making } in
      let f : Held K V = record { key = m.copy; charge = c; pins = 1; detached = false; phase = ready v } in
      let held1 : one.held ≡ finmap.insert finmap.empty s e = ap (λ z. z.held) m.settles.others ∙ ap (λ n. finmap.insert n s e) alone in
      let is : t.entry ≡ e = same_Some _ _ (sym t.holds.at ∙ ap (λ n. finmap.get n s) held1 ∙ inserted_at finmap.empty s e) in
      let held2 : two.held ≡ finmap.insert finmap.empty s f = ap (λ z. z.held) t.changed ∙ ap (λ n. finmap.insert n s (held_in_phase (ready v) t.entry)) held1 ∙ put_again finmap.empty s e (held_in_phase (ready v) t.entry) ∙ ap (λ x. finmap.insert finmap.empty s (held_in_phase (ready v) x)) is in
      let at2 : held_at two s ≡ Some f = ap (λ n. finmap.get n s) held2 ∙ inserted_at finmap.empty s f in
      let gone : finmap.remove two.held s ≡ finmap.empty = ap (λ n. finmap.remove n s) held2 ∙ put_gone s f in
      let rest = rest_alone E two new s f out3 at2 gone r in
      let idle2 : two.idle ≡ one.idle = ap (λ z. z.idle) t.changed in
      let cap2 : two.capacity ≡ old.capacity = ap (λ z. z.capacity) t.changed ∙ ap (λ z. z.capacity) m.settles.others in
      let weighs : held_charges (finmap.insert old.held s e) ≡ held_charges old.held + c = sum-insert (λ y. y.charge) old.held s e (ap (λ n. finmap.get n s) alone ∙ get-empty nat_cmp s) in
      let zero : held_charges old.held ≡ 0 = none_held_sum old.held alone in
      let first : Fitting (λ x. x.charge) c old.capacity old.idle one.idle = fitting_front c old.capacity (charges old.idle + held_charges (finmap.insert old.held s e)) old.idle out1 one.idle (omega (arith, weighs, zero)) m.settles.front in
      let first' : Fitting (λ x. x.charge) rest.entry.charge old.capacity old.idle one.idle = subst (λ n. Fitting (λ x. x.charge) n old.capacity old.idle one.idle) (sym rest.charge) first in
      let last : Fitting (λ x. x.charge) 0 old.capacity (one.idle ++ rest.entry ∷ []) new.idle = subst (λ n. Fitting (λ x. x.charge) 0 n (one.idle ++ rest.entry ∷ []) new.idle) cap2 (subst (λ zs. Fitting (λ x. x.charge) 0 two.capacity (zs ++ rest.entry ∷ []) new.idle) idle2 rest.fits) in
      record {
        held = rest.held;
        capacity = rest.capacity ∙ cap2;
        most_pins = rest.most_pins ∙ ap (λ z. z.most_pins) t.changed ∙ ap (λ z. z.most_pins) m.settles.others;
        before = old.idle ++ rest.entry ∷ [];
        paired = subst (λ ls. Paired E price (old.idle ++ rest.entry ∷ []) (ls ++ k ∷ [])) (sym (others_absent k old.idle ks (lacks old.idle (each_is_found old.idle l.idle_apart)) pairs))
            (paired_push E price old.idle ks rest.entry k pairs (ap (λ x. E x k) rest.key ∙ m.same_key) (rest.charge ∙ charged));
        fits = fitting_twice (λ x. x.charge) rest.entry old.capacity old.idle one.idle new.idle first' last;
      }
    where
      lacks : (ys : List (Idle K V)) → AreFound old.idle ys → AllByRecursion (λ y. E y.key k ≡ false) ys
      lacks [] h = tt
      lacks (y ∷ ys) h = (m.absent y.stamp y.key y.charge (inl (y, h.0, refl, refl)), lacks ys h.1)

  -- the two steps of a hit
  pub hit_used : (old one new : Cache K V) (k : K) (s : ℕ) (v : V) (out1 out2 : List (Idle K V)) (ks : List K) → IsLawful E old → old.held ≡ finmap.empty → Paired E price old.idle ks
      → Revives E old k s v out1 one → Rests E one s out2 new → IsUsed E price old new k ks
  hit_used old one new k s v out1 out2 ks l alone pairs h r =
      let f : Held K V = held_by_one h.entry in
      let held1 : one.held ≡ finmap.insert finmap.empty s f = ap (λ z. z.held) h.changed ∙ ap (λ n. finmap.insert n s f) alone in
      let at1 : held_at one s ≡ Some f = ap (λ n. finmap.get n s) held1 ∙ inserted_at finmap.empty s f in
      let gone : finmap.remove one.held s ≡ finmap.empty = ap (λ n. finmap.remove n s) held1 ∙ put_gone s f in
      let rest = rest_alone E one new s f out2 at1 gone r in
      let idle1 : one.idle ≡ without s old.idle = ap (λ z. z.idle) h.changed in
      let cap1 : one.capacity ≡ old.capacity = ap (λ z. z.capacity) h.changed in
      record {
        held = rest.held;
        capacity = rest.capacity ∙ cap1;
        most_pins = rest.most_pins ∙ ap (λ z. z.most_pins) h.changed;
        before = without s old.idle ++ rest.entry ∷ [];
        paired = paired_push E price (without s old.idle) (others E k ks) rest.entry k (paired_without s k old.idle ks (stamp_of_key E eq old s h.entry k l h.at h.same_key) pairs)
            (ap (λ x. E x k) rest.key ∙ h.same_key) (rest.charge ∙ paired_charge s h.entry old.idle ks h.at pairs ∙ p h.entry.key k h.same_key);
        fits = subst (λ n. Fitting (λ x. x.charge) 0 n (without s old.idle ++ rest.entry ∷ []) new.idle) cap1 (subst (λ zs. Fitting (λ x. x.charge) 0 one.capacity (zs ++ rest.entry ∷ []) new.idle) idle1 rest.fits);
      }
