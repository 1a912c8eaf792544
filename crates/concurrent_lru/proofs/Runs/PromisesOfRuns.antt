-- What every run promises: what plain runs leave, with and without changes of capacity and
-- removals, and that each stamp stands once.
use Rattle.std.proofs.Common.{◌≡◌, ℕ, ◌<◌, ◌≤◌, ◌↔◌, inl, inr, Bool, true, false, List, [], ◌∷◌, ◌++◌, length, map, refl, sym, ap, ◌∙◌, subst, arith}
use Rattle.std.specs.List.{zip, sum_by, list_any, AllByRecursion}
use Rattle.std.specs.Cmp.{IsEquivalence}
use Rattle.std.proofs.lemmas.Bool.{true≢false}
use Rattle.std.proofs.lemmas.List.{append-nil}
use Rattle.std.proofs.lemmas.Slice.Zip.{firsts-zip, seconds-zip}
use Rattle.concurrent_lru.specs.Cache.{Cache, IsLawful}
use Rattle.concurrent_lru.specs.Results.{IsCharged}
use Rattle.concurrent_lru.specs.Request as ask
use Rattle.concurrent_lru.specs.Request.{Request}
use Rattle.concurrent_lru.specs.Runs.{Outcome, Run}
use Rattle.concurrent_lru.specs.Uses.{IsPlain, uses, begins, HaveNoGet, HaveOneCharge, last_uses, charge_in, AreAmong, IsTail}
use Rattle.concurrent_lru.specs.Removals.{HaveNoRemoval, remaining_uses}
use Rattle.concurrent_lru.specs.Weights.{IsPlainWithChanges, end_from}
use Rattle.concurrent_lru.specs.StampCounts.{stamp_count, stamp_count_in_cache}
use Rattle.concurrent_lru.specs.WholeRuns.{IsEmpty, EveryRunLeavesTail, EveryRunLeavesFitted, EveryRunKeepsStamps, LargerHolds, idle_keys, begun_keys, IsTailOfRun}
use Rattle.concurrent_lru.proofs.Runs.SteadyCapacity.{old_changes_are_forgotten, plain_has_no_change}
use Rattle.concurrent_lru.proofs.Runs.Moments.{none_parts}
use Rattle.concurrent_lru.proofs.Runs.RemainingUses.{all_remain, none_since}
use Rattle.concurrent_lru.proofs.Runs.LongestEnds.{Fitting, AreDistinctKeys, any_last, fitting_tail, last_uses-apart}
use Rattle.concurrent_lru.proofs.Runs.WeightOfKey.{light_end}
use Rattle.concurrent_lru.proofs.Runs.GroupsOfPlainRun.{paired_same}
use Rattle.concurrent_lru.proofs.Runs.PlainRuns.{IsPriced}
use Rattle.concurrent_lru.proofs.Runs.ChangingRuns.{IsNow, changing_run}
use Rattle.concurrent_lru.proofs.Runs.LargerCapacity.{tail_fitting, fitting_smaller, paired_any, among_self, among_through, same_among}
use Rattle.concurrent_lru.proofs.Runs.ChargeOfKey.{charge_agrees, charged_begun, begins_charged, priced}
use Rattle.concurrent_lru.proofs.Runs.StampCounts.{run_stamp_count}
use Rattle.concurrent_lru.proofs.Runs.StampsOnce.{lawful_stamps, run_given}

module _ {K V : Type 0} where
  -- a run has one outcome a request, so the pairs give both lists back
  pub run_length : (E : K → K → Bool) (old new : Cache K V) (rs : List (Request K V)) (os : List (Outcome K V)) → Run E old rs os new → length os ≡ length rs
  run_length E old new [] [] h = refl
  run_length E old new (r ∷ rs) (o ∷ os) h = let n : length os ≡ length rs = run_length E h.0 new rs os h.2 in omega (arith, n)
  run_length E old new [] (o ∷ os) h = absurd h
  run_length E old new (r ∷ rs) [] h = absurd h

  abbrev RunOf : (K → K → Bool) → Cache K V → List (Request K V × Outcome K V) → Cache K V → Type 0
  RunOf E old es new = Run E old (map (λ e. e.0) es) (map (λ e. e.1) es) new

  pub zipped_run : (E : K → K → Bool) (old new : Cache K V) (rs : List (Request K V)) (os : List (Outcome K V)) → Run E old rs os new → RunOf E old (zip rs os) new
  zipped_run E old new rs os h =
      let n = run_length E old new rs os h in
      subst (λ qs. Run E old qs (map (λ e. e.1) (zip rs os)) new) (sym (firsts-zip rs os n)) (subst (λ ps. Run E old rs ps new) (sym (seconds-zip rs os n)) h)

  pub uses_begun : (rs : List (Request K V)) (os : List (Outcome K V)) → length os ≡ length rs → HaveNoGet rs → uses (zip rs os) ≡ begun_keys rs
  uses_begun [] os n h = refl
  uses_begun (r ∷ rs) [] n h = absurd (omega (arith, n))
  uses_begun (ask.begin k c ∷ rs) (o ∷ os) n h = ap (λ ks. k ∷ ks) (uses_begun rs os (omega (arith, n)) h)
  uses_begun (ask.get k ∷ rs) (o ∷ os) n h = absurd h
  uses_begun (ask.read k ∷ rs) (o ∷ os) n h = absurd h
  uses_begun (_ ∷ rs) (o ∷ os) n h = uses_begun rs os (omega (arith, n)) h

pub keeps_stamps : (K V : Type 0) (E : K → K → Bool) → EveryRunKeepsStamps K V E
keeps_stamps K V E old new rs os lawful run =
    let pairs = zipped_run E old new rs os run in
    let stamped = lawful_stamps E old lawful in
    let r = run_stamp_count E old new (zip rs os) stamped pairs in
    record {
      there = λ s h. elim (Rattle.std.proofs.lemmas.Bool.cases_lt s old.next) [
        | inl l ↦
            let a : stamp_count s (zip rs os) new ≡ stamp_count_in_cache old s = r.2 s l in
            let b : stamp_count_in_cache old s ≤ 1 = stamped.once s in
            omega (arith, a, b, h)
        | inr l ↦ let z : stamp_count_in_cache old s ≡ 0 = stamped.fresh s l in absurd (omega (arith, z, h))
      ];
      given_out = λ s l h. r.3 s l h;
      gone = λ s l z. r.2 s l ∙ z;
      in_order = run_given E old new (zip rs os) stamped pairs;
    }

module _ {K : Type 0} (E : K → K → Bool) (eq : IsEquivalence E) where
  -- the keys used were begun
  used_begun : (bs : List (K × ℕ)) (us : List K) → AllByRecursion (λ k. 0 < charge_in E bs k) us → AreAmong E us (map (λ b. b.0) bs)
  used_begun bs [] h = tt
  used_begun bs (u ∷ us) h = (charged_begun E eq bs u h.0, used_begun bs us h.1)

module _ {K V : Type 0} (E : K → K → Bool) (eq : IsEquivalence E) where
  -- what holds after a run is that after its last step
  abbrev IsLeft : Cache K V → List (Request K V) → List (Outcome K V) → Cache K V → Type 0
  IsLeft old rs os new = IsNow E (charge_in E (begins rs)) eq (charge_agrees E eq (begins rs)) old.capacity (zip rs os) new

  left : (old new : Cache K V) (rs : List (Request K V)) (os : List (Outcome K V)) → IsLawful E old → 0 < old.most_pins → AllByRecursion IsCharged rs → Run E old rs os new → IsEmpty old → IsPlainWithChanges (zip rs os) → HaveOneCharge E (begins rs) → IsLeft old rs os new
  left old new rs os lawful high charged run empty plain one =
      let n = run_length E old new rs os run in
      let price = charge_in E (begins rs) in
      let start : IsNow E price eq (charge_agrees E eq (begins rs)) old.capacity [] old = record {
        held = empty.1;
        capacity = refl;
        pins = high;
        lawful = lawful;
        gone = [];
        kept = [];
        in_order = refl;
        paired = subst (λ xs. Rattle.concurrent_lru.proofs.Runs.GroupsOfPlainRun.Paired E price xs []) (sym empty.0) tt;
        fitted = λ q h. absurd (true≢false (sym h));
        charged = tt;
      } in
      changing_run E price eq (charge_agrees E eq (begins rs)) old.capacity [] (zip rs os) old new start
      (subst (AllByRecursion (IsPriced price)) (sym (firsts-zip rs os n)) (priced price rs (begins_charged E eq (begins rs) one) charged)) plain (zipped_run E old new rs os run)

  -- where the capacity stays and nothing is removed, the keys that always fitted are the longest
  -- end that fits
  steady_tail : (old new : Cache K V) (rs : List (Request K V)) (os : List (Outcome K V)) → IsPlain (zip rs os) → (i : IsLeft old rs os new) → Fitting (charge_in E (begins rs)) 0 old.capacity (last_uses E (uses (zip rs os))) i.kept
  steady_tail old new rs os plain i =
      let price = charge_in E (begins rs) in
      let es = zip rs os in
      let us = uses es in
      let changes = plain_has_no_change K V old.capacity es plain in
      let order : last_uses E us ≡ i.gone ++ i.kept = ap (last_uses E) (sym (remain es changes.2)) ∙ i.in_order in
      let apart = subst (AreDistinctKeys E) order (last_uses-apart E us) in
      subst (λ ks. Fitting price 0 old.capacity ks i.kept) (sym order) (light_end E price eq old.capacity i.gone i.kept apart (λ q m.
      let f = i.fitted q (ap (list_any (E q)) (remain es changes.2) ∙ used q us (ap (list_any (E q)) order ∙ m)) in
      let w = old_changes_are_forgotten K V E eq (begins rs) old.capacity old.capacity es q (λ a b p _. changes.1 a b p) (none_since E es changes.2 q) in
      subst (λ ks. (list_any (E q) i.kept ≡ true) ↔ (sum_by price (end_from E q ks) ≤ old.capacity)) order (λ h. w.0 (f.0 h), λ h. f.1 (w.1 h))))
    where
      remain : (es : List (Request K V × Outcome K V)) → HaveNoRemoval (map (λ e. e.0) es) → remaining_uses E es ≡ uses es
      remain es h = all_remain E es h es [] (sym (append-nil es))

      used : (q : K) (us : List K) → list_any (E q) (last_uses E us) ≡ true → list_any (E q) us ≡ true
      used q us h = elim (list_any (E q) us) as (λ t. list_any (E q) us ≡ t → t ≡ true) [ true ↦ λ _. refl | false ↦ λ n. sym (any_last E q us n) ∙ h ] refl

pub leaves_fitted : (K V : Type 0) (E : K → K → Bool) → IsEquivalence E → EveryRunLeavesFitted K V E
leaves_fitted K V E eq old new rs os lawful high charged run empty plain one =
    let i = left E eq old new rs os lawful high charged run empty plain one in
    let price = charge_in E (begins rs) in
    record {
      none_held = i.held;
      capacity_is = i.capacity;
      gone = i.gone;
      kept = i.kept;
      in_order = i.in_order;
      idle_same = paired_same E price new.idle i.kept i.paired;
      fitted = λ q h. (
        λ m. (i.fitted q h).0 (sym (paired_any E price eq q new.idle i.kept i.paired) ∙ m),
        λ m. paired_any E price eq q new.idle i.kept i.paired ∙ (i.fitted q h).1 m,
      );
      removed = λ q h. paired_any E price eq q new.idle i.kept i.paired ∙ (none_parts (E q) i.gone i.kept (ap (list_any (E q)) (sym i.in_order) ∙ any_last E q (remaining_uses E (zip rs os)) h)).1;
      begun = used_begun E eq (begins rs) (uses (zip rs os)) i.charged;
      without_removals = λ h. all_remain E (zip rs os) (subst HaveNoRemoval (sym (firsts-zip rs os (run_length E old new rs os run))) h);
    }

pub leaves_tail : (K V : Type 0) (E : K → K → Bool) → IsEquivalence E → EveryRunLeavesTail K V E
leaves_tail K V E eq old new rs os lawful high charged run empty plain one =
    let i = left E eq old new rs os lawful high charged run empty (plain_has_no_change K V old.capacity (zip rs os) plain).0 one in
    let price = charge_in E (begins rs) in
    let last = last_uses E (uses (zip rs os)) in
    let fits = steady_tail E eq old new rs os plain i in
    record {
      none_held = i.held;
      tail = i.kept;
      is_tail = tail_fitting price old.capacity last i.kept fits;
      idle_same = paired_same E price new.idle i.kept i.paired;
      smaller = λ small keys le t. among_through E keys keys (idle_keys new) (among_self E eq keys) (λ k h.
          paired_any E price eq k new.idle i.kept i.paired ∙ fitting_smaller price small old.capacity (E k) last keys i.kept le (fitting_tail price small last keys t) fits h);
      begun = used_begun E eq (begins rs) (uses (zip rs os)) i.charged;
      without_gets = uses_begun rs os (run_length E old new rs os run);
    }

pub larger_holds : (K V : Type 0) (E : K → K → Bool) → IsEquivalence E → LargerHolds K V E
larger_holds K V E eq small large less more rs qs os ps a b le first second same =
    let used : uses (zip rs os) ≡ uses (zip qs ps) = a.without_gets first ∙ ap (map (λ d. d.0)) same ∙ sym (b.without_gets second) in
    let lesser : IsTail (charge_in E (begins qs)) small (last_uses E (uses (zip rs os))) a.tail = subst (λ bs. IsTail (charge_in E bs) small (last_uses E (uses (zip rs os))) a.tail) same a.is_tail in
    let both : IsTailOfRun E small qs ps a.tail = subst (λ us. IsTail (charge_in E (begins qs)) small (last_uses E us) a.tail) used lesser in
    same_among E eq (idle_keys less) a.tail (idle_keys more) a.idle_same (b.smaller small a.tail le both)
