-- Steps do not look at values: with other values in their place they stand as before.
use Rattle.std.proofs.Common.{◌≡◌, ℕ, ◌+◌, ◌<◌, ◌≤◌, ◌==◌, ◌^◌, ◌⊎◌, ◌&&◌, not, Bool, true, false, cond, T, List, [], ◌∷◌, ◌++◌, map, length, take, drop, Option, Some, None, refl, sym, ap, ◌∙◌, subst, arith, inl, inr}
use Rattle.std.specs.List.{find, sum_by}
use Rattle.std.specs.Option.{option_map}
use Rattle.std.specs.Ordering.{nat_cmp, eq_by_cmp}
use Rattle.std.specs.Cmp.{nat_cmp_total}
use Rattle.std.proofs.lemmas.List.Sums.{sum_by-cons}
use Rattle.std.specs.FinMap.{FinMap, get, insert, remove, entries, entries_sorted, from_sorted, get-entries, entries-from_sorted, get-from_sorted, get-insert, get-remove, same_map, nat_cmp-IsAntisymmetric, empty, get-empty}
use Rattle.std.specs.FinMap.Entries.{is_sorted, below_all}
use Rattle.std.specs.FinMap.Entries.{find as find_entry}
use Rattle.std.proofs.lemmas.Option.{same_Some, none-some}
use Rattle.concurrent_lru.specs.Cache.{Cache, Idle, Held, Phase, making, untaken, ready, charges, pinned_of, sum_of, HasCapacityFor, IsFront, Suffices, Settles, held_at, idle_at, IsFound}
use Rattle.concurrent_lru.specs.Steps.{IsAbsent, Holds, Makes, Joins, Revives, Hits, ChangesPhase, Charges, Leaves, Removes, Rests, Stays, Drops, Ends, Departs, PinsAgain, ReleasesAndEvicts, Repins, Detaches, IsUnready, IsNotIdle, Releases, Invalidates, Stores, Renews, Step, with_held, held_in_phase, held_with_charge, without, without_held}
use Rattle.concurrent_lru.specs.Request as ask
use Rattle.concurrent_lru.specs.Request.{Request}
use Rattle.concurrent_lru.specs.Reply as say
use Rattle.concurrent_lru.specs.Reply.{Reply}
use Rattle.lru_journal.specs.Values.{phase_by, idle_by, held_by, pair_by, helds_by, cache_by, request_by, reply_by}

map-cond : {X Y : Type 0} (f : X → Y) (b : Bool) (x : X) (o : Option X) → option_map f (cond b (Some x) o) ≡ cond b (Some (f x)) (option_map f o)
map-cond f true x o = refl
map-cond f false x o = refl

map-none : {X Y : Type 0} (f : X → Y) (b : Bool) (o : Option X) → option_map f (cond b None o) ≡ cond b None (option_map f o)
map-none f true o = refl
map-none f false o = refl

-- what is Some after a map was Some before it
some_before : {X Y : Type 0} (f : X → Y) (o : Option X) (y : Y) → option_map f o ≡ Some y → (x : X) × (o ≡ Some x) × (f x ≡ y)
some_before f None y h = absurd (none-some y h)
some_before f (Some x) y h = (x, refl, same_Some _ _ h)

map-append : {X Y : Type 0} (f : X → Y) (xs ys : List X) → map f (xs ++ ys) ≡ map f xs ++ map f ys
map-append f [] ys = refl
map-append f (x ∷ xs) ys = ap (λ l. f x ∷ l) (map-append f xs ys)

-- a mapped list in two parts comes from a list in two parts
parts_before : {X Y : Type 0} (f : X → Y) (xs : List X) (a b : List Y) → map f xs ≡ a ++ b → (p : List X) × (q : List X) × (xs ≡ p ++ q) × (map f p ≡ a) × (map f q ≡ b)
parts_before f xs [] b h = ([], xs, refl, refl, h)
parts_before f [] (y ∷ a) b h = let n = ap length h in absurd (omega (arith, n))
parts_before f (x ∷ xs) (y ∷ a) b h =
    let r = parts_before f xs a b (ap (λ l. drop 1 l) h) in
    (x ∷ r.0, r.1, ap (λ l. x ∷ l) r.2, ap (λ l. take 1 l ++ map f r.0) h ∙ ap (λ l. y ∷ l) r.3, r.4)

same_length : {X Y : Type 0} (f : X → Y) (xs : List X) → length (map f xs) ≡ length xs
same_length f [] = refl
same_length f (x ∷ xs) = let h = same_length f xs in omega (arith, h)

kept : {X Y : Type 0} (f : X → Y) (b : Bool) (x : X) (xs : List X) → map f (cond b (x ∷ xs) xs) ≡ cond b (f x ∷ map f xs) (map f xs)
kept f true x xs = refl
kept f false x xs = refl

module _ {K V W : Type 0} (f : V → W) where
  below_by : (k : ℕ) (es : List (ℕ × Held K V)) → below_all nat_cmp k (map (pair_by f) es) ≡ below_all nat_cmp k es
  below_by k [] = refl
  below_by k (e ∷ es) = ap (λ b. Rattle.std.specs.Ordering.is_lt (nat_cmp k e.0) && b) (below_by k es)

  sorted_by : (es : List (ℕ × Held K V)) → is_sorted nat_cmp (map (pair_by f) es) ≡ is_sorted nat_cmp es
  sorted_by [] = refl
  sorted_by (e ∷ es) = ap (λ b. b && is_sorted nat_cmp (map (pair_by f) es)) (below_by e.0 es) ∙ ap (λ b. below_all nat_cmp e.0 es && b) (sorted_by es)

  find_by : (s : ℕ) (es : List (ℕ × Held K V)) → find_entry nat_cmp s (map (pair_by f) es) ≡ option_map (held_by f) (find_entry nat_cmp s es)
  find_by s [] = refl
  find_by s (e ∷ es) = ap (cond (eq_by_cmp nat_cmp s e.0) (Some (held_by f e.1))) (find_by s es) ∙ sym (map-cond (held_by f) (eq_by_cmp nat_cmp s e.0) e.1 (find_entry nat_cmp s es))

  sorted_helds : (m : FinMap nat_cmp (Held K V)) → T (is_sorted nat_cmp (map (pair_by f) (entries m)))
  sorted_helds m = subst T (sym (sorted_by (entries m))) (entries_sorted m)

  pub get_by : (m : FinMap nat_cmp (Held K V)) (s : ℕ) → get (helds_by f m) s ≡ option_map (held_by f) (get m s)
  get_by m s = get-from_sorted nat_cmp _ s (sorted_helds m) ∙ find_by s (entries m) ∙ ap (option_map (held_by f)) (sym (get-entries m s))

  pub insert_by : (m : FinMap nat_cmp (Held K V)) (s : ℕ) (e : Held K V) → helds_by f (insert m s e) ≡ insert (helds_by f m) s (held_by f e)
  insert_by m s e = same_map nat_cmp_total nat_cmp-IsAntisymmetric _ _ (λ q.
      get_by (insert m s e) q ∙ ap (option_map (held_by f)) (get-insert nat_cmp_total m s e q) ∙ map-cond (held_by f) (eq_by_cmp nat_cmp q s) e (get m q)
      ∙ ap (cond (eq_by_cmp nat_cmp q s) (Some (held_by f e))) (sym (get_by m q)) ∙ sym (get-insert nat_cmp_total (helds_by f m) s (held_by f e) q))

  pub remove_by : (m : FinMap nat_cmp (Held K V)) (s : ℕ) → helds_by f (remove m s) ≡ remove (helds_by f m) s
  remove_by m s = same_map nat_cmp_total nat_cmp-IsAntisymmetric _ _ (λ q.
      get_by (remove m s) q ∙ ap (option_map (held_by f)) (get-remove nat_cmp_total m s q) ∙ map-none (held_by f) (eq_by_cmp nat_cmp q s) (get m q)
      ∙ ap (cond (eq_by_cmp nat_cmp q s) None) (sym (get_by m q)) ∙ sym (get-remove nat_cmp_total (helds_by f m) s q))

  pub empty_by : helds_by f (empty {X = Held K V} {R = nat_cmp}) ≡ empty {X = Held K W} {R = nat_cmp}
  empty_by = same_map nat_cmp_total nat_cmp-IsAntisymmetric _ _ (λ q. get_by (empty {X = Held K V} {R = nat_cmp}) q ∙ ap (option_map (held_by f)) (get-empty nat_cmp q) ∙ sym (get-empty nat_cmp q))

  idle_by-at : (s : ℕ) (xs : List (Idle K V)) → find (λ x. x.stamp == s) (map (idle_by f) xs) ≡ option_map (idle_by f) (find (λ x. x.stamp == s) xs)
  idle_by-at s [] = refl
  idle_by-at s (x ∷ xs) = ap (cond (x.stamp == s) (Some (idle_by f x))) (idle_by-at s xs) ∙ sym (map-cond (idle_by f) (x.stamp == s) x (find (λ x. x.stamp == s) xs))

  pub charges_by : (xs : List (Idle K V)) → charges (map (idle_by f) xs) ≡ charges xs
  charges_by [] = refl
  charges_by (x ∷ xs) =
      let a : charges (map (idle_by f) (x ∷ xs)) ≡ x.charge + charges (map (idle_by f) xs) = sum_by-cons (λ y. y.charge) (idle_by f x) (map (idle_by f) xs) in
      let b : charges (x ∷ xs) ≡ x.charge + charges xs = sum_by-cons (λ y. y.charge) x xs in
      a ∙ ap (λ n. x.charge + n) (charges_by xs) ∙ sym b

  held_sums : (es : List (ℕ × Held K V)) → sum_by (λ e. e.charge) (map (λ e. e.1) (map (pair_by f) es)) ≡ sum_by (λ e. e.charge) (map (λ e. e.1) es)
  held_sums [] = refl
  held_sums (e ∷ es) =
      let a : sum_by (λ h. h.charge) (map (λ e. e.1) (map (pair_by f) (e ∷ es))) ≡ e.1.charge + sum_by (λ h. h.charge) (map (λ e. e.1) (map (pair_by f) es)) = sum_by-cons (λ h. h.charge) (held_by f e.1) (map (λ e. e.1) (map (pair_by f) es)) in
      let b : sum_by (λ h. h.charge) (map (λ e. e.1) (e ∷ es)) ≡ e.1.charge + sum_by (λ h. h.charge) (map (λ e. e.1) es) = sum_by-cons (λ h. h.charge) e.1 (map (λ e. e.1) es) in
      a ∙ ap (λ n. e.1.charge + n) (held_sums es) ∙ sym b

  pub sum_by_same : (c : Cache K V) → sum_of (cache_by f c) ≡ sum_of c
  sum_by_same c = ap (λ n. n + sum_by (λ e. e.charge) (map (λ e. e.1) (entries (helds_by f c.held)))) (charges_by c.idle)
      ∙ ap (λ es. charges c.idle + sum_by (λ e. e.charge) (map (λ e. e.1) es)) (entries-from_sorted nat_cmp _ (sorted_helds c.held))
      ∙ ap (λ n. charges c.idle + n) (held_sums (entries c.held))

  pinned_by_same : (c : Cache K V) → pinned_of (cache_by f c) ≡ pinned_of c
  pinned_by_same c = ap (λ es. sum_by (λ e. e.charge) (map (λ e. e.1) es)) (entries-from_sorted nat_cmp _ (sorted_helds c.held)) ∙ held_sums (entries c.held)

  capacity_by : (c : Cache K V) (charge : ℕ) → HasCapacityFor c charge → HasCapacityFor (cache_by f c) charge
  capacity_by c charge h = subst (λ n. n + charge ≤ c.capacity) (sym (pinned_by_same c)) h

  -- entries that their keys find, with other values, are those entries
  found_before : (c : Cache K V) (s : ℕ) (k : K) (m : ℕ) → IsFound (cache_by f c) s k m → IsFound c s k m
  found_before c s k m (inl x) =
      let r = some_before (idle_by f) (idle_at c s) x.0 (sym (idle_by-at s c.idle) ∙ x.1) in
      inl (r.0, r.1, ap (λ y. y.key) r.2 ∙ x.2, ap (λ y. y.charge) r.2 ∙ x.3)
  found_before c s k m (inr e) =
      let r = some_before (held_by f) (held_at c s) e.0 (sym (get_by c.held s) ∙ e.1) in
      inr (r.0, r.1, ap (λ y. y.key) r.2 ∙ e.2, ap (λ y. y.charge) r.2 ∙ e.3, ap (λ y. y.detached) r.2 ∙ e.4)

  holds_by : (c : Cache K V) (s : ℕ) (e : Held K V) (p : Phase V) → Holds c s e p → Holds (cache_by f c) s (held_by f e) (phase_by f p)
  holds_by c s e p h = record { at = get_by c.held s ∙ ap (option_map (held_by f)) h.at; phase = ap (phase_by f) h.phase }

  suffices_by : (m capacity : ℕ) (a b : List (Idle K V)) → Suffices m capacity a b → Suffices m capacity (map (idle_by f) a) (map (idle_by f) b)
  suffices_by m capacity a b (inl h) = inl (subst (λ n. m ≤ capacity + n) (sym (charges_by a)) h)
  suffices_by m capacity a b (inr h) = inr (ap (map (idle_by f)) h)

  no_items : (xs : List (Idle K V)) → map (idle_by f) xs ≡ [] → xs ≡ []
  no_items [] h = refl
  no_items (x ∷ xs) h = let n = ap length h in absurd (omega (arith, n))

  suffices_before : (m capacity : ℕ) (a b : List (Idle K V)) → Suffices m capacity (map (idle_by f) a) (map (idle_by f) b) → Suffices m capacity a b
  suffices_before m capacity a b (inl h) = inl (subst (λ n. m ≤ capacity + n) (charges_by a) h)
  suffices_before m capacity a b (inr h) = inr (no_items b h)

  front_by : (m capacity : ℕ) (xs front rest : List (Idle K V)) → IsFront m capacity xs front rest → IsFront m capacity (map (idle_by f) xs) (map (idle_by f) front) (map (idle_by f) rest)
  front_by m capacity xs front rest h = record {
    parts = ap (map (idle_by f)) h.parts ∙ map-append (idle_by f) front rest;
    suffices = suffices_by m capacity front rest h.suffices;
    shortest = λ a b parts less enough.
        let r = parts_before (idle_by f) xs a b parts in
        let n : length r.0 ≡ length a = sym (same_length (idle_by f) r.0) ∙ ap length r.3 in
        let m' : length (map (idle_by f) front) ≡ length front = same_length (idle_by f) front in
        h.shortest r.0 r.1 r.2 (omega (arith, n, m', less)) (suffices_before m capacity r.0 r.1 (subst (λ x. Suffices m capacity x (map (idle_by f) r.1)) (sym r.3) (subst (λ y. Suffices m capacity a y) (sym r.4) enough)));
  }

  pub settles_by : (old : Cache K V) (out : List (Idle K V)) (new : Cache K V) → Settles old out new → Settles (cache_by f old) (map (idle_by f) out) (cache_by f new)
  settles_by old out new h = record {
    front = subst (λ m. IsFront m old.capacity (map (idle_by f) old.idle) (map (idle_by f) out) (map (idle_by f) new.idle)) (sym (sum_by_same old)) (front_by (sum_of old) old.capacity old.idle out new.idle h.front);
    others = ap (cache_by f) h.others;
  }

  make_on : (old : Cache K V) (s : ℕ) (k : K) (charge : ℕ) → cache_by f (record (with_held old s (record { key = k; charge = charge; pins = 1; detached = false; phase = making })) { next = old.next + 1 }) ≡ record (with_held (cache_by f old) s (record { key = k; charge = charge; pins = 1; detached = false; phase = making })) { next = old.next + 1 }
  make_on old s k charge = ap (λ m. record { capacity = old.capacity; most_pins = old.most_pins; next = old.next + 1; idle = map (idle_by f) old.idle; held = m }) (insert_by old.held s (record { key = k; charge = charge; pins = 1; detached = false; phase = making }))

  held_on : {new : Cache K V} (old : Cache K V) (s : ℕ) (e : Held K V) → new ≡ with_held old s e → cache_by f new ≡ with_held (cache_by f old) s (held_by f e)
  held_on old s e h = ap (cache_by f) h ∙ ap (λ m. record (cache_by f old) { held = m }) (insert_by old.held s e)

  removed_on : {new : Cache K V} (old : Cache K V) (s : ℕ) → new ≡ without_held old s → cache_by f new ≡ without_held (cache_by f old) s
  removed_on old s h = ap (cache_by f) h ∙ ap (λ m. record (cache_by f old) { held = m }) (remove_by old.held s)

  without_by : (s : ℕ) (xs : List (Idle K V)) → map (idle_by f) (without s xs) ≡ without s (map (idle_by f) xs)
  without_by s [] = refl
  without_by s (x ∷ xs) = kept (idle_by f) (not (x.stamp == s)) x _ ∙ ap (λ l. cond (not (x.stamp == s)) (idle_by f x ∷ l) l) (without_by s xs)

  module _ (E : K → K → Bool) where
    absent_by : (c : Cache K V) (k : K) → IsAbsent E c k → IsAbsent E (cache_by f c) k
    absent_by c k h = λ s l m e. h s l m (found_before c s l m e)

    makes_by : (old : Cache K V) (k : K) (charge s : ℕ) (out : List (Idle K V)) (new : Cache K V) → Makes E old k charge s out new → Makes E (cache_by f old) k charge s (map (idle_by f) out) (cache_by f new)
    makes_by old k charge s out new h = record {
      absent = absent_by old k h.absent;
      fits = (subst (λ n. n + charge < 2 ^ 64) (sym (sum_by_same old)) h.fits.0, h.fits.1);
      stamp = h.stamp;
      copy = h.copy;
      same_key = h.same_key;
      settles = subst (λ c. Settles c (map (idle_by f) out) (cache_by f new)) (make_on old s h.copy charge) (settles_by _ out new h.settles);
    }

    joins_by : (old : Cache K V) (k : K) (s : ℕ) (p q : Phase V) (out : List (Idle K V)) (new : Cache K V) → Joins E old k s p q out new → Joins E (cache_by f old) k s (phase_by f p) (phase_by f q) (map (idle_by f) out) (cache_by f new)
    joins_by old k s p q out new h = record {
      entry = held_by f h.entry;
      holds = holds_by old s h.entry p h.holds;
      found = h.found;
      same_key = h.same_key;
      room = h.room;
      changed = held_on old s _ h.changed;
      none = ap (map (idle_by f)) h.none;
    }

    revives_by : (old : Cache K V) (k : K) (s : ℕ) (v : V) (out : List (Idle K V)) (new : Cache K V) → Revives E old k s v out new → Revives E (cache_by f old) k s (f v) (map (idle_by f) out) (cache_by f new)
    revives_by old k s v out new h = record {
      entry = idle_by f h.entry;
      at = idle_by-at s old.idle ∙ ap (option_map (idle_by f)) h.at;
      same_key = h.same_key;
      value = ap f h.value;
      changed = ap (cache_by f) h.changed ∙ ap (λ m. record { capacity = old.capacity; most_pins = old.most_pins; next = old.next; idle = map (idle_by f) (without s old.idle); held = m }) (insert_by old.held s _)
          ∙ ap (λ xs. record { capacity = old.capacity; most_pins = old.most_pins; next = old.next; idle = xs; held = insert (helds_by f old.held) s (held_by f (record { key = h.entry.key; charge = h.entry.charge; pins = 1; detached = false; phase = ready h.entry.value })) }) (without_by s old.idle);
      none = ap (map (idle_by f)) h.none;
    }

    changes_phase_by : (old : Cache K V) (s : ℕ) (p q : Phase V) (out : List (Idle K V)) (new : Cache K V) → ChangesPhase E old s p q out new → ChangesPhase E (cache_by f old) s (phase_by f p) (phase_by f q) (map (idle_by f) out) (cache_by f new)
    changes_phase_by old s p q out new h = record {
      entry = held_by f h.entry;
      holds = holds_by old s h.entry p h.holds;
      changed = held_on old s _ h.changed;
      none = ap (map (idle_by f)) h.none;
    }

    charges_of_making_by : (old : Cache K V) (s : ℕ) (v : V) (charge : ℕ) (out : List (Idle K V)) (new : Cache K V) → Charges E old s v charge out new → Charges E (cache_by f old) s (f v) charge (map (idle_by f) out) (cache_by f new)
    charges_of_making_by old s v charge out new h = record {
      entry = held_by f h.entry;
      holds = holds_by old s h.entry making h.holds;
      fits = subst (λ n. n + charge < 2 ^ 64 + h.entry.charge) (sym (sum_by_same old)) h.fits;
      settles = subst (λ c. Settles c (map (idle_by f) out) (cache_by f new)) (held_on old s (held_in_phase (ready v) (held_with_charge charge h.entry)) refl) (settles_by _ out new h.settles);
    }

    leaves_by : (old : Cache K V) (s : ℕ) (p q : Phase V) (out : List (Idle K V)) (new : Cache K V) → Leaves E old s p q out new → Leaves E (cache_by f old) s (phase_by f p) (phase_by f q) (map (idle_by f) out) (cache_by f new)
    leaves_by old s p q out new h = record {
      entry = held_by f h.entry;
      holds = holds_by old s h.entry p h.holds;
      others = h.others;
      changed = held_on old s _ h.changed;
      none = ap (map (idle_by f)) h.none;
    }

    removes_by : (old : Cache K V) (s : ℕ) (k : K) (out : List (Idle K V)) (new : Cache K V) → Removes E old s k out new → Removes E (cache_by f old) s k (map (idle_by f) out) (cache_by f new)
    removes_by old s k out new h = record { entry = held_by f h.entry; holds = holds_by old s h.entry making h.holds; last = h.last; key = h.key; changed = removed_on old s h.changed; none = ap (map (idle_by f)) h.none }

    rests_by : (old : Cache K V) (s : ℕ) (out : List (Idle K V)) (new : Cache K V) → Rests E old s out new → Rests E (cache_by f old) s (map (idle_by f) out) (cache_by f new)
    rests_by old s out new h = record {
      entry = held_by f h.entry;
      value = f h.value;
      holds = holds_by old s h.entry (ready h.value) h.holds;
      found = h.found;
      last = h.last;
      settles = subst (λ c. Settles c (map (idle_by f) out) (cache_by f new))
          (ap (λ m. record { capacity = old.capacity; most_pins = old.most_pins; next = old.next; idle = map (idle_by f) (old.idle ++ record { stamp = s; key = h.entry.key; charge = h.entry.charge; value = h.value } ∷ []); held = m }) (remove_by old.held s)
          ∙ ap (λ xs. record { capacity = old.capacity; most_pins = old.most_pins; next = old.next; idle = xs; held = remove (helds_by f old.held) s }) (map-append (idle_by f) old.idle _))
          (settles_by _ out new h.settles);
    }

    ends_by : (old : Cache K V) (s : ℕ) (out : List (Idle K V)) (new : Cache K V) → Ends E old s out new → Ends E (cache_by f old) s (map (idle_by f) out) (cache_by f new)
    ends_by old s out new h = record { entry = held_by f h.entry; value = f h.value; holds = holds_by old s h.entry (ready h.value) h.holds; lost = h.lost; last = h.last; changed = removed_on old s h.changed; one = ap (map (idle_by f)) h.one }

    departs_by : (old : Cache K V) (s : ℕ) (out : List (Idle K V)) (new : Cache K V) → Departs E old s out new → Departs E (cache_by f old) s (map (idle_by f) out) (cache_by f new)
    departs_by old s out new h = record { entry = held_by f h.entry; value = f h.value; holds = holds_by old s h.entry (ready h.value) h.holds; last = h.last; changed = removed_on old s h.changed; one = ap (map (idle_by f)) h.one }

    pins_again_by : (old : Cache K V) (s : ℕ) (v : V) (out : List (Idle K V)) (new : Cache K V) → PinsAgain E old s v out new → PinsAgain E (cache_by f old) s (f v) (map (idle_by f) out) (cache_by f new)
    pins_again_by old s v out new h = record {
      entry = held_by f h.entry;
      holds = holds_by old s h.entry (ready v) h.holds;
      room = h.room;
      changed = held_on old s _ h.changed;
      none = ap (map (idle_by f)) h.none;
    }

    detaches_by : (old : Cache K V) (k : K) (out : List (Idle K V)) (new : Cache K V) → Detaches E old k out new → Detaches E (cache_by f old) k (map (idle_by f) out) (cache_by f new)
    detaches_by old k out new h = record {
      stamp = h.stamp;
      entry = held_by f h.entry;
      at = get_by old.held h.stamp ∙ ap (option_map (held_by f)) h.at;
      found = h.found;
      same_key = h.same_key;
      changed = held_on old h.stamp _ h.changed;
      none = ap (map (idle_by f)) h.none;
    }

    stays_by : (old : Cache K V) (out : List (Idle K V)) (new : Cache K V) → Stays E old out new → Stays E (cache_by f old) (map (idle_by f) out) (cache_by f new)
    stays_by old out new h = record { same = ap (cache_by f) h.same; none = ap (map (idle_by f)) h.none }

    not_idle_by : (c : Cache K V) (k : K) → IsNotIdle E c k → IsNotIdle E (cache_by f c) k
    not_idle_by c k h = λ s x at.
        let r = some_before (idle_by f) (idle_at c s) x (sym (idle_by-at s c.idle) ∙ at) in
        ap (λ y. E y.key k) (sym r.2) ∙ h s r.0 r.1

    drops_by : (old : Cache K V) (k : K) (out : List (Idle K V)) (new : Cache K V) → Drops E old k out new → Drops E (cache_by f old) k (map (idle_by f) out) (cache_by f new)
    drops_by old k out new h = record {
      stamp = h.stamp;
      entry = idle_by f h.entry;
      at = idle_by-at h.stamp old.idle ∙ ap (option_map (idle_by f)) h.at;
      same_key = h.same_key;
      changed = ap (cache_by f) h.changed ∙ ap (λ xs. record (cache_by f old) { idle = xs }) (without_by h.stamp old.idle);
      one = ap (map (idle_by f)) h.one;
    }

    not_ready : (p : Phase V) → (p ≡ making) ⊎ (p ≡ untaken) → (phase_by f p ≡ making) ⊎ (phase_by f p ≡ untaken)
    not_ready p (inl h) = inl (ap (phase_by f) h)
    not_ready p (inr h) = inr (ap (phase_by f) h)

    unready_by : (c : Cache K V) (k : K) → IsUnready E c k → IsUnready E (cache_by f c) k
    unready_by c k h = λ s l m e same.
        let r = h s l m (found_before c s l m e) same in
        (held_by f r.0, get_by c.held s ∙ ap (option_map (held_by f)) r.1, not_ready r.0.phase r.2)

    hits_by : (old : Cache K V) (k : K) (s : ℕ) (v : V) (out : List (Idle K V)) (new : Cache K V) → Hits E old k s v out new → Hits E (cache_by f old) k s (f v) (map (idle_by f) out) (cache_by f new)
    hits_by old k s v out new (inl h) = inl (joins_by old k s (ready v) (ready v) out new h)
    hits_by old k s v out new (inr h) = inr (revives_by old k s v out new h)

    releases_by : (old : Cache K V) (s : ℕ) (out : List (Idle K V)) (new : Cache K V) → Releases E old s out new → Releases E (cache_by f old) s (map (idle_by f) out) (cache_by f new)
    releases_by old s out new (inl h) = inl (f h.0, leaves_by old s (ready h.0) (ready h.0) out new h.1)
    releases_by old s out new (inr (inl h)) = inr (inl (rests_by old s out new h))
    releases_by old s out new (inr (inr h)) = inr (inr (ends_by old s out new h))

    releases_and_evicts_by : (old : Cache K V) (s : ℕ) (out : List (Idle K V)) (new : Cache K V) → ReleasesAndEvicts E old s out new → ReleasesAndEvicts E (cache_by f old) s (map (idle_by f) out) (cache_by f new)
    releases_and_evicts_by old s out new (inl h) = inl (f h.0, leaves_by old s (ready h.0) (ready h.0) out new h.1)
    releases_and_evicts_by old s out new (inr h) = inr (departs_by old s out new h)

    repins_by : (old : Cache K V) (s : ℕ) (v : V) (out : List (Idle K V)) (new : Cache K V) → Repins E old s v out new → Repins E (cache_by f old) s (f v) (map (idle_by f) out) (cache_by f new)
    repins_by old s v out new (inl h) = inl (pins_again_by old s v out new h)
    repins_by old s v out new (inr h) = inr (h.0, revives_by old h.0 s v out new h.1)

    invalidates_by : (old : Cache K V) (k : K) (out : List (Idle K V)) (new : Cache K V) → Invalidates E old k out new → Invalidates E (cache_by f old) k (map (idle_by f) out) (cache_by f new)
    invalidates_by old k out new (inl h) = inl (drops_by old k out new h)
    invalidates_by old k out new (inr (inl h)) = inr (inl (detaches_by old k out new h))
    invalidates_by old k out new (inr (inr h)) = inr (inr (absent_by old k h.0, stays_by old out new h.1))

    stores_by : (old : Cache K V) (k : K) (charge : ℕ) (v : V) (s : ℕ) (out : List (Idle K V)) (new : Cache K V) → Stores E old k charge v s out new → Stores E (cache_by f old) k charge (f v) s (map (idle_by f) out) (cache_by f new)
    stores_by old k charge v s out new h = record {
      replaced = map (idle_by f) h.replaced;
      evicted = map (idle_by f) h.evicted;
      mid = cache_by f h.mid;
      made = cache_by f h.made;
      invalidated = invalidates_by old k h.replaced h.mid h.invalidated;
      begun = makes_by h.mid k charge s h.evicted h.made h.begun;
      given = changes_phase_by h.made s making (ready v) [] new h.given;
      both = ap (map (idle_by f)) h.both ∙ map-append (idle_by f) h.replaced h.evicted;
    }

    renews_by : (old : Cache K V) (k : K) (s : ℕ) (v : V) (out : List (Idle K V)) (new : Cache K V) → Renews E old k s v out new → Renews E (cache_by f old) k s (f v) (map (idle_by f) out) (cache_by f new)
    renews_by old k s v out new h = record {
      mid = cache_by f h.mid;
      found = hits_by old k s v [] h.mid h.found;
      released = releases_by h.mid s [] new h.released;
      none = ap (map (idle_by f)) h.none;
    }

    pub step_by : (old : Cache K V) (r : Request K V) (p : Reply K V) (out : List (Idle K V)) (new : Cache K V) → Step E old r p out new → Step E (cache_by f old) (request_by f r) (reply_by f p) (map (idle_by f) out) (cache_by f new)
    unfolding charges_of_making_by
    step_by old (ask.begin k c) (say.make s) out new (inl h) = inl (makes_by old k c s out new h)
    step_by old (ask.begin k c) (say.make s) out new (inr h) = inr (joins_by old k s untaken making out new h)
    step_by old (ask.begin k c) (say.wait s) out new h = joins_by old k s making making out new h
    step_by old (ask.begin k c) (say.hit s v) out new h = hits_by old k s v out new h
    step_by old (ask.begin_strictly k c) (say.make s) out new (inl h) = inl (capacity_by old c h.0, makes_by old k c s out new h.1)
    step_by old (ask.begin_strictly k c) (say.make s) out new (inr h) = inr (joins_by old k s untaken making out new h)
    step_by old (ask.begin_strictly k c) (say.wait s) out new h = joins_by old k s making making out new h
    step_by old (ask.begin_strictly k c) (say.hit s v) out new h = hits_by old k s v out new h
    step_by old (ask.poll s) (say.wait t) out new h = (h.0, changes_phase_by old s making making out new h.1)
    step_by old (ask.poll s) (say.make t) out new h = (h.0, changes_phase_by old s untaken making out new h.1)
    step_by old (ask.poll s) (say.hit t v) out new h = (h.0, changes_phase_by old s (ready v) (ready v) out new h.1)
    step_by old (ask.ready s v) say.done out new h = changes_phase_by old s making (ready v) out new h
    step_by old (ask.ready_with s v c) say.done out new h = charges_of_making_by old s v c out new h
    step_by old (ask.ready_with_strictly s v c) say.done out new h = (charges_of_making_by old s v c out new h.0, subst (λ n. n + c ≤ old.capacity + h.0.entry.charge) (sym (pinned_by_same old)) h.1)
    step_by old (ask.fail s) say.left out new h = leaves_by old s making untaken out new h
    step_by old (ask.fail s) (say.removed k) out new h = removes_by old s k out new h
    step_by old (ask.get k) (say.hit s v) out new h = hits_by old k s v out new h
    step_by old (ask.get k) say.missed out new h = (unready_by old k h.0, stays_by old out new h.1)
    step_by old (ask.release s) say.done out new h = releases_by old s out new h
    step_by old (ask.release_and_evict s) say.done out new h = releases_and_evicts_by old s out new h
    step_by old (ask.repin s) (say.pinned v) out new h = repins_by old s v out new h
    step_by old (ask.advice_evict k) say.done out new (inl h) = inl (drops_by old k out new h)
    step_by old (ask.advice_evict k) say.done out new (inr h) = inr (not_idle_by old k h.0, stays_by old out new h.1)
    step_by old (ask.invalidate k) say.done out new h = invalidates_by old k out new h
    step_by old (ask.insert k c v) (say.inserted s) out new h = stores_by old k c v s out new h
    step_by old (ask.insert_strictly k c v) (say.inserted s) out new h = (capacity_by old c h.0, stores_by old k c v s out new h.1)
    step_by old (ask.read k) (say.read s v) out new h = renews_by old k s v out new h
    step_by old (ask.read k) say.missed out new h = (unready_by old k h.0, stays_by old out new h.1)
    step_by old ask.prune say.done out new h = (ap (map (idle_by f)) h.0, ap (cache_by f) h.1)
    step_by old (ask.set_capacity c) say.done out new h = settles_by _ out new h
    step_by old ask.total (say.sum n) out new h = (h.0 ∙ sym (sum_by_same old), stays_by old out new h.1)
    step_by old _ _ out new h = absurd h
