-- At every moment of a plain run a key is idle exactly where a use of it would have a reuse weight
-- of at most the capacity.
use Rattle.std.proofs.Common.{◌≡◌, ℕ, ◌+◌, ◌<◌, ◌≤◌, ◌↔◌, inl, inr, Bool, true, false, cond, List, [], ◌∷◌, ◌++◌, map, Some, None, refl, sym, ap, ◌∙◌, subst, leb, ◌||◌, ◌==◌}
use Rattle.std.specs.Cmp.{IsEquivalence}
use Rattle.std.specs.FinMap as finmap
use Rattle.std.specs.List.{AllByRecursion, count_by, find, list_any, sum_by, zip}
use Rattle.std.specs.Ordering.{nat_cmp}
use Rattle.std.proofs.Math.Bool.{or-true}
use Rattle.std.proofs.lemmas.Bool.{cases_lt, le-leb, lt-leb, true≢false}
use Rattle.std.proofs.lemmas.List.{append_assoc}
use Rattle.std.proofs.lemmas.List.Sums.{sum_by-cons}
use Rattle.std.proofs.lemmas.Option.{none-some, same_Some}
use Rattle.std.proofs.lemmas.Slice.Zip.{firsts-zip, seconds-zip}
use Rattle.concurrent_lru.specs.Cache.{Cache, Idle, Phase, IsLawful, empty_cache}
use Rattle.concurrent_lru.specs.Request as ask
use Rattle.concurrent_lru.specs.Request.{Request}
use Rattle.concurrent_lru.specs.Reply as say
use Rattle.concurrent_lru.specs.Runs.{Outcome, accepted, Run}
use Rattle.concurrent_lru.specs.Steps.{IsAbsent, Joins}
use Rattle.concurrent_lru.specs.Uses.{IsPlain, last_uses, uses, begins, HaveNoGet, charge_in}
use Rattle.concurrent_lru.specs.Removals.{HaveNoRemoval, remaining_uses}
use Rattle.concurrent_lru.specs.Weights.{weight}
use Rattle.concurrent_lru.specs.WholeRuns.{IsEmpty, idle_keys}
use Rattle.concurrent_lru.proofs.Runs.ChangingRuns.{IsNow, changing_run}
use Rattle.concurrent_lru.proofs.Runs.ChargeOfKey.{charge_agrees, begins_charged, priced}
use Rattle.concurrent_lru.proofs.Runs.GroupsOfPlainRun.{Paired, AreFound, each_is_found}
use Rattle.concurrent_lru.proofs.Runs.LargerCapacity.{paired_any}
use Rattle.concurrent_lru.proofs.Runs.LongestEnds.{any_last}
use Rattle.concurrent_lru.proofs.Runs.Moments.{uses-append, none_parts}
use Rattle.concurrent_lru.proofs.Runs.PlainRuns.{IsPriced}
use Rattle.concurrent_lru.proofs.Runs.PromisesOfRuns.{run_length, uses_begun}
use Rattle.concurrent_lru.proofs.Runs.RemainingUses.{all_remain, no_removal_parts, none_since}
use Rattle.concurrent_lru.proofs.Runs.SteadyCapacity.{old_changes_are_forgotten, plain_has_no_change}
use Rattle.concurrent_lru.proofs.Steps.EmptyCache.{empty_lawful}
use Rattle.lru_sizing.specs.ReuseWeights.{used_since, reuse_weight, reuse_weights_after, reuse_weights}
use Rattle.lru_sizing.specs.HitsByWeight.{fits, begun_hits, EveryUseHitsByWeight, HitsAreCounted}
use Rattle.lru_sizing.proofs.UsesSince.{weight_since}

-- a test that says what an order says is that order's test
same_test : (t : Bool) (w c : ℕ) → (t ≡ true) ↔ (w ≤ c) → t ≡ leb w c
same_test true w c h = sym (le-leb w c (h.0 refl))
same_test false w c h = elim (cases_lt c w) [
  | inl l ↦ sym (lt-leb w c l)
  | inr l ↦ absurd (true≢false (sym (h.1 l)))
]

-- nobody joins an entry where nothing is held
module _ {K V : Type 0} (E : K → K → Bool) where
  pub none_joins : (old new : Cache K V) (k : K) (s : ℕ) (p q : Phase V) (out : List (Idle K V)) → old.held ≡ finmap.empty → Joins E old k s p q out new → ⊥
  none_joins old new k s p q out none j = none-some j.entry (sym (ap (λ m. finmap.get m s) none ∙ finmap.get-empty nat_cmp s) ∙ j.holds.at)

module _ {K V : Type 0} (E : K → K → Bool) (eq : IsEquivalence E) where
  -- no idle entry has a key that is absent
  absent_idle : (c : Cache K V) (k : K) → IsLawful E c → IsAbsent E c k → list_any (E k) (idle_keys c) ≡ false
  absent_idle c k l a = go c.idle (each_is_found c.idle l.idle_apart)
    where
      go : (ys : List (Idle K V)) → AreFound c.idle ys → list_any (E k) (map (λ y. y.key) ys) ≡ false
      go [] h = refl
      go (y ∷ ys) h =
          ap (λ t. t || list_any (E k) (map (λ z. z.key) ys)) (eq.symm k y.key ∙ a y.stamp y.key y.charge (inl (y, h.0, refl, refl))) ∙ go ys h.1

  -- the key of an entry that is found among the idle ones is
  found_idle : (s : ℕ) (k : K) (e : Idle K V) (xs : List (Idle K V)) → find (λ x. x.stamp == s) xs ≡ Some e → E e.key k ≡ true → list_any (E k) (map (λ x. x.key) xs) ≡ true
  found_idle s k e [] f h = absurd (none-some e f)
  found_idle s k e (x ∷ xs) f h = elim (x.stamp == s) as (λ t. cond t (Some x) (find (λ x. x.stamp == s) xs) ≡ Some e → list_any (E k) (map (λ x. x.key) (x ∷ xs)) ≡ true) [
    | true ↦ λ f. ap (λ t. t || list_any (E k) (map (λ x. x.key) xs)) (eq.symm k x.key ∙ ap (λ y. E y.key k) (same_Some _ _ f) ∙ h)
    | false ↦ λ f. ap (λ t. E k x.key || t) (found_idle s k e xs f h) ∙ or-true (E k x.key)
  ] f

  module _ (begun : List (K × ℕ)) (first : ℕ) where
    -- after these steps of a plain run
    abbrev IsThen : List (Request K V × Outcome K V) → Cache K V → Type 0
    IsThen done c = IsNow E (charge_in E begun) eq (charge_agrees E eq begun) first done c

    -- a key is idle exactly where a use of it would have a reuse weight of at most the capacity
    idle_by_weight : (all done es : List (Request K V × Outcome K V)) (c : Cache K V) (k : K) → IsPlain all → all ≡ done ++ es → (i : IsThen done c) → list_any (E k) (idle_keys c) ≡ fits first (reuse_weight E (charge_in E begun) (uses done) k)
    idle_by_weight all done es c k plain parts i =
        let changes = plain_has_no_change K V first all plain in
        let remain : remaining_uses E done ≡ uses done = all_remain E all changes.2 done es parts in
        paired_any E (charge_in E begun) eq k c.idle i.kept i.paired ∙ elim (list_any (E k) (uses done)) as (λ t. list_any (E k) (uses done) ≡ t → list_any (E k) i.kept ≡ fits first (cond t (Some (sum_by (charge_in E begun) (last_uses E (used_since E k (uses done))))) None)) [
          | true ↦ λ u.
              let f = i.fitted k (ap (list_any (E k)) remain ∙ u) in
              let w = old_changes_are_forgotten K V E eq begun first first done k (λ a b p _. changes.1 a (b ++ es) (parts ∙ ap (λ zs. zs ++ es) p ∙ append_assoc a b es)) (none_since E done (no_removal_parts E done es (subst (λ zs. HaveNoRemoval (map (λ e. e.0) zs)) parts changes.2)).0 k) in
              same_test (list_any (E k) i.kept) (weight E (charge_in E begun) (uses done) k) first (λ h. w.0 (f.0 h), λ h. f.1 (w.1 h)) ∙ ap (λ n. leb n first) (weight_since E eq (charge_in E begun) k (uses done) u)
          | false ↦ λ u. (none_parts (E k) i.gone i.kept (ap (list_any (E k)) (sym i.in_order ∙ ap (last_uses E) remain) ∙ any_last E k (uses done) u)).1
        ] refl

    -- the begins of the steps that are left hit by the weights after those that are done
    answered : (all done es : List (Request K V × Outcome K V)) (old new : Cache K V) → IsPlain all → all ≡ done ++ es → IsThen done old → AllByRecursion (IsPriced (charge_in E begun)) (map (λ e. e.0) es) → HaveNoGet (map (λ e. e.0) es)
        → IsPlain es → Run E old (map (λ e. e.0) es) (map (λ e. e.1) es) new → begun_hits es ≡ map (fits first) (reuse_weights_after E (charge_in E begun) (uses done) (uses es))
    answered all done [] old new plain parts i q g h r = refl
    answered all done ((ask.begin k c, accepted (say.make s) out1) ∷ (ask.ready t v, accepted say.done out2) ∷ (ask.release u, accepted say.done out3) ∷ es) old new plain parts i q g h r =
        let group : List (Request K V × Outcome K V) = (ask.begin k c, accepted (say.make s) out1) ∷ (ask.ready t v, accepted say.done out2) ∷ (ask.release u, accepted say.done out3) ∷ [] in
        let absent : list_any (E k) (idle_keys old) ≡ false = elim r.1 [
          | inl m ↦ absent_idle old k i.lawful m.absent
          | inr j ↦ absurd (none_joins E old r.0 k s _ _ out1 i.held j)
        ] in
        let then = changing_run E (charge_in E begun) eq (charge_agrees E eq begun) first done group old r.2.2.0 i (q.0, (q.1.0, (q.1.1.0, tt))) (h.0, h.1, tt) (r.0, r.1, (r.2.0, r.2.1, (r.2.2.0, r.2.2.1, refl))) in
        let rest = answered all (done ++ group) es r.2.2.0 new plain (parts ∙ sym (append_assoc done group es)) then q.1.1.1 g h.2 r.2.2.2 in
        ap (λ b. b ∷ begun_hits es) (sym absent ∙ idle_by_weight all done _ old k plain parts i)
        ∙ ap (λ bs. fits first (reuse_weight E (charge_in E begun) (uses done) k) ∷ bs) (rest ∙ ap (λ ks. map (fits first) (reuse_weights_after E (charge_in E begun) ks (uses es))) (uses-append done group))
    answered all done ((ask.begin k c, accepted (say.hit s v) out1) ∷ (ask.release u, accepted say.done out2) ∷ es) old new plain parts i q g h r =
        let group : List (Request K V × Outcome K V) = (ask.begin k c, accepted (say.hit s v) out1) ∷ (ask.release u, accepted say.done out2) ∷ [] in
        let there : list_any (E k) (idle_keys old) ≡ true = elim r.1 [
          | inl j ↦ absurd (none_joins E old r.0 k s _ _ out1 i.held j)
          | inr w ↦ found_idle s k w.entry old.idle w.at w.same_key
        ] in
        let then = changing_run E (charge_in E begun) eq (charge_agrees E eq begun) first done group old r.2.0 i (q.0, (q.1.0, tt)) (h.0, tt) (r.0, r.1, (r.2.0, r.2.1, refl)) in
        let rest = answered all (done ++ group) es r.2.0 new plain (parts ∙ sym (append_assoc done group es)) then q.1.1 g h.1 r.2.2 in
        ap (λ b. b ∷ begun_hits es) (sym there ∙ idle_by_weight all done _ old k plain parts i)
        ∙ ap (λ bs. fits first (reuse_weight E (charge_in E begun) (uses done) k) ∷ bs) (rest ∙ ap (λ ks. map (fits first) (reuse_weights_after E (charge_in E begun) ks (uses es))) (uses-append done group))
    answered all done ((ask.get k, accepted (say.hit s v) out1) ∷ (ask.release u, accepted say.done out2) ∷ es) old new plain parts i q g h r = absurd g
    answered all done ((ask.get k, accepted say.missed out) ∷ es) old new plain parts i q g h r = absurd g
    answered all done ((ask.read k, accepted (say.read s v) out) ∷ es) old new plain parts i q g h r = absurd g
    answered all done ((ask.read k, accepted say.missed out) ∷ es) old new plain parts i q g h r = absurd g
    answered all done (e ∷ es) old new plain parts i q g h r = absurd h

module _ {K V : Type 0} where
  -- a cache without entries is the empty one of its limits, so it is lawful
  lawful_from_empty : (E : K → K → Bool) (c : Cache K V) → IsEmpty c → IsLawful E c
  lawful_from_empty E c e =
      let is : c ≡ empty_cache c.capacity c.most_pins c.next = ap (λ xs. record c { idle = xs }) e.0 ∙ ap (λ m. record c { idle = []; held = m }) e.1 in
      subst (IsLawful E) (sym is) (empty_lawful E c.capacity c.most_pins c.next)

-- an empty cache, before the first use
pub at_the_start : {K V : Type 0} (E : K → K → Bool) (eq : IsEquivalence E) (begun : List (K × ℕ)) (c : Cache K V) → IsEmpty c → 0 < c.most_pins → IsNow E (charge_in E begun) eq (charge_agrees E eq begun) c.capacity [] c
at_the_start E eq begun c empty pins = record {
  held = empty.1;
  capacity = refl;
  pins = pins;
  lawful = lawful_from_empty E c empty;
  gone = [];
  kept = [];
  in_order = refl;
  paired = subst (λ xs. Paired E (charge_in E begun) xs []) (sym empty.0) tt;
  fitted = λ q h. absurd (true≢false (sym h));
  charged = tt;
}

pub every_use_hits_by_weight : (K V : Type 0) (E : K → K → Bool) → IsEquivalence E → EveryUseHitsByWeight K V E
every_use_hits_by_weight K V E eq old new rs os empty high charged run plain no_get one =
    let es = zip rs os in
    let price = charge_in E (begins rs) in
    let n = run_length E old new rs os run in
    let requests = firsts-zip rs os n in
    let start = at_the_start E eq (begins rs) old empty high in
    answered E eq (begins rs) old.capacity es [] es old new plain refl start
    (subst (AllByRecursion (IsPriced price)) (sym requests) (priced price rs (begins_charged E eq (begins rs) one) charged))
    (subst HaveNoGet (sym requests) no_get) plain
    (subst (λ qs. Run E old qs (map (λ e. e.1) es) new) (sym requests) (subst (λ ps. Run E old rs ps new) (sym (seconds-zip rs os n)) run))
    ∙ ap (λ ks. map (fits old.capacity) (reuse_weights_after E price [] ks)) (uses_begun rs os n no_get)

-- a list of tests counts as what it was made by
count_mapped : {X : Type 0} (f : X → Bool) (xs : List X) → count_by (λ b. b) (map f xs) ≡ count_by f xs
count_mapped f [] = refl
count_mapped f (x ∷ xs) =
    let i : count_by (λ b. b) (map f xs) ≡ count_by f xs = count_mapped f xs in
    let a : count_by (λ b. b) (map f (x ∷ xs)) ≡ cond (f x) 1 0 + count_by (λ b. b) (map f xs) = sum_by-cons (λ b. cond b 1 0) (f x) (map f xs) in
    let b : count_by f (x ∷ xs) ≡ cond (f x) 1 0 + count_by f xs = sum_by-cons (λ y. cond (f y) 1 0) x xs in
    a ∙ ap (λ n. cond (f x) 1 0 + n) i ∙ sym b

pub hits_are_counted : (K V : Type 0) (E : K → K → Bool) → IsEquivalence E → HitsAreCounted K V E
hits_are_counted K V E eq old new rs os empty high charged run plain no_get one =
    ap (count_by (λ b. b)) (every_use_hits_by_weight K V E eq old new rs os empty high charged run plain no_get one) ∙ count_mapped (fits old.capacity) (reuse_weights E (begins rs))
