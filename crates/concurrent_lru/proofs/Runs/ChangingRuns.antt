-- Whole runs that are plain but for changes of capacity and removals.
use Rattle.std.proofs.Common.{◌≡◌, ℕ, ◌+◌, ◌<◌, ◌≤◌, ◌↔◌, Bool, true, false, List, [], ◌∷◌, ◌++◌, map, refl, sym, ap, ◌∙◌, subst, arith, ◌||◌}
use Rattle.std.specs.FinMap as finmap
use Rattle.std.specs.Cmp.{IsEquivalence}
use Rattle.std.specs.List.{AllByRecursion, sum_by, list_any}
use Rattle.std.proofs.Math.Bool.{or-false}
use Rattle.std.proofs.lemmas.Bool.{true≢false}
use Rattle.std.proofs.lemmas.List.{append-nil, append_assoc}
use Rattle.std.proofs.lemmas.List.Elements.{filter-append}
use Rattle.std.proofs.lemmas.List.Folds.{list_any-append}
use Rattle.concurrent_lru.specs.Cache.{Cache, Idle, IsLawful, Settles, charges}
use Rattle.concurrent_lru.specs.Removals.{removes, remaining_uses}
use Rattle.concurrent_lru.specs.Representation.{held_charges}
use Rattle.concurrent_lru.specs.Request as ask
use Rattle.concurrent_lru.specs.Request.{Request}
use Rattle.concurrent_lru.specs.Reply as say
use Rattle.concurrent_lru.specs.Runs.{Outcome, accepted, Run}
use Rattle.concurrent_lru.specs.Steps.{with_capacity}
use Rattle.concurrent_lru.specs.Uses.{uses, last_uses}
use Rattle.concurrent_lru.specs.Weights.{IsPlainWithChanges, capacity_after, end_from, weight, AlwaysFitted}
use Rattle.concurrent_lru.proofs.Runs.GroupsOfPlainRun.{Paired, paired_fitting, none_held_sum}
use Rattle.concurrent_lru.proofs.Runs.LargerCapacity.{tail_fitting, fitting_any}
use Rattle.concurrent_lru.proofs.Steps.LawfulAfterChange.{sets_lawful}
use Rattle.concurrent_lru.proofs.Steps.LawfulAfterLeaving.{prunes_lawful}
use Rattle.concurrent_lru.proofs.Runs.Moments.{uses-append, capacity-append, fitted_now, fitted_before, fitted_push}
use Rattle.concurrent_lru.proofs.Runs.PlainRuns.{IsAlone, IsGroup, IsPriced, made_group, hit_group, all_push}
use Rattle.concurrent_lru.proofs.Runs.LongestEnds.{Fitting, fitting, fitting_front, last_uses-push, last_uses-apart, others, AgreesOnEqual, AreDistinctKeys}
use Rattle.concurrent_lru.proofs.Runs.RemainingUses.{remaining_uses-push, remaining_uses-more, remaining_uses-none}
use Rattle.concurrent_lru.proofs.Runs.RemovedKeys.{IsWithoutKey, advised, invalidated, among_others, last_uses-others}
use Rattle.concurrent_lru.proofs.Runs.RoomOfRemovals.{weight_without}
use Rattle.concurrent_lru.proofs.Runs.WeightOfKey.{any_right, apart_end, any_others, end_behind, fits_light, light_fits}

module _ {K V : Type 0} (E : K → K → Bool) where
  module _ (price : K → ℕ) (eq : IsEquivalence E) (p : AgreesOnEqual E price) (first : ℕ) where
    -- after these steps nothing is held, and the idle entries are those of the keys whose uses
    -- remain and that always fitted
    pub record IsNow (es : List (Request K V × Outcome K V)) (c : Cache K V) : Type 0 where
      pub held : c.held ≡ finmap.empty
      pub capacity : c.capacity ≡ capacity_after first es
      pub pins : 0 < c.most_pins
      pub lawful : IsLawful E c
      pub gone : List K
      pub kept : List K
      pub in_order : last_uses E (remaining_uses E es) ≡ gone ++ kept
      pub paired : Paired E price c.idle kept
      pub fitted : (q : K) → list_any (E q) (remaining_uses E es) ≡ true → (list_any (E q) kept ≡ true) ↔ AlwaysFitted E price first es q
      pub charged : AllByRecursion (λ k. 0 < price k) (uses es)

    -- The last uses end in these keys, and all of them that fit are idle.
    record IsCut (es : List (Request K V × Outcome K V)) (e : Request K V × Outcome K V) (new : Cache K V) : Type 0 where
      pub lost : List K
      pub left : List K
      pub before : List (Idle K V)
      pub order : last_uses E (remaining_uses E (es ++ e ∷ [])) ≡ lost ++ left
      pub pairs : Paired E price before left
      pub fits : Fitting (λ x. x.charge) 0 (capacity_after first (es ++ e ∷ [])) before new.idle
      -- these keys are those that fitted until now, and those of this use
      pub members : (q : K) → list_any (E q) (remaining_uses E (es ++ e ∷ [])) ≡ true → (list_any (E q) left ≡ true) ↔ (list_any (E q) (uses (e ∷ [])) ≡ false → AlwaysFitted E price first es q)

    now_cut : (es : List (Request K V × Outcome K V)) (e : Request K V × Outcome K V) (new : Cache K V) → IsCut es e new → new.held ≡ finmap.empty → new.capacity ≡ capacity_after first (es ++ e ∷ []) → 0 < new.most_pins → IsLawful E new
        → AllByRecursion (λ k. 0 < price k) (uses (es ++ e ∷ [])) → IsNow (es ++ e ∷ []) new
    now_cut es e new i none limit pins l above =
        let c = capacity_after first (es ++ e ∷ []) in
        let t = fitting price 0 c i.left in
        let tail = tail_fitting price c i.left t.0 t.1 in
        let apart : AreDistinctKeys E (i.lost ++ i.left) = subst (AreDistinctKeys E) i.order (last_uses-apart E (remaining_uses E (es ++ e ∷ []))) in
        let weighs : (q : K) → list_any (E q) i.left ≡ true → sum_by price (end_from E q (last_uses E (remaining_uses E (es ++ e ∷ [])))) ≡ sum_by price (end_from E q i.left) = λ q h.
        ap (λ ks. sum_by price (end_from E q ks)) i.order ∙ ap (sum_by price) (end_behind E price eq q i.lost i.left apart h) in
        record {
          held = none;
          capacity = limit;
          pins = pins;
          lawful = l;
          gone = i.lost ++ tail.front;
          kept = t.0;
          in_order = i.order ∙ ap (λ ks. i.lost ++ ks) tail.parts ∙ sym (append_assoc i.lost tail.front t.0);
          paired = paired_fitting E price c i.before i.left new.idle t.0 i.pairs i.fits t.1;
          fitted = λ q used. (
            λ h.
                let here : list_any (E q) i.left ≡ true = fitting_any price c (E q) i.left t.0 t.1 h in
                fitted_push E price first es e q (subst (λ n. n ≤ c) (sym (weighs q here)) (fits_light E price eq c q i.left t.0 (apart_end E i.lost i.left apart) t.1 h)) ((i.members q used).0 here),
            λ h.
                let here : list_any (E q) i.left ≡ true = (i.members q used).1 (fitted_before E price first es e q h) in
                light_fits E price eq c q i.left t.0 t.1 here (subst (λ n. n ≤ c) (weighs q here) (fitted_now E price first (es ++ e ∷ []) q h)),
          );
          charged = above;
        }

    alone : (es : List (Request K V × Outcome K V)) (c : Cache K V) (i : IsNow es c) → IsAlone E price eq p c i.kept
    alone es c i = record { held = i.held; pins = i.pins; lawful = i.lawful; paired = i.paired }

    -- one use more
    now_used : (es : List (Request K V × Outcome K V)) (e : Request K V × Outcome K V) (k : K) (old new : Cache K V) (i : IsNow es old) → uses (e ∷ []) ≡ k ∷ [] → ((l : K) → removes E l e.0 ≡ false) → capacity_after (capacity_after first es) (e ∷ []) ≡ capacity_after first es → IsGroup E price eq p old new k i.kept → IsNow (es ++ e ∷ []) new
    now_used es e k old new i one stays same g =
        let u = g.used in
        let used : uses (es ++ e ∷ []) ≡ uses es ++ k ∷ [] = uses-append es (e ∷ []) ∙ ap (λ ks. uses es ++ ks) one in
        let remain : remaining_uses E (es ++ e ∷ []) ≡ remaining_uses E es ++ k ∷ [] = remaining_uses-more E es e stays ∙ ap (λ ks. remaining_uses E es ++ ks) one in
        let limit : capacity_after first (es ++ e ∷ []) ≡ old.capacity = capacity-append first es (e ∷ []) ∙ same ∙ sym i.capacity in
        now_cut es e new (record {
          lost = others E k i.gone;
          left = others E k i.kept ++ k ∷ [];
          before = u.before;
          order = ap (last_uses E) remain ∙ last_uses-push E (remaining_uses E es) k ∙ ap (λ ks. others E k ks ++ k ∷ []) i.in_order ∙ ap (λ ks. ks ++ k ∷ []) (filter-append _ i.gone i.kept) ∙ append_assoc (others E k i.gone) (others E k i.kept) (k ∷ []);
          pairs = u.paired;
          fits = subst (λ n. Fitting (λ x. x.charge) 0 n u.before new.idle) (sym limit) u.fits;
          members = λ q h. (
            λ m n.
                let far : E q k ≡ false = sym (or-false (E q k)) ∙ ap (list_any (E q)) (sym one) ∙ n in
                let was : list_any (E q) (remaining_uses E es) ≡ true = sym (behind q (remaining_uses E es) far) ∙ ap (list_any (E q)) (sym remain) ∙ h in
                (i.fitted q was).0 (sym (any_others E eq q k i.kept far) ∙ sym (behind q (others E k i.kept) far) ∙ m),
            λ m. elim (E q k) as (λ t. E q k ≡ t → list_any (E q) (others E k i.kept ++ k ∷ []) ≡ true) [
              | true ↦ λ t. any_right (E q) (others E k i.kept) (k ∷ []) (ap (λ s. s || false) t)
              | false ↦ λ far.
                  let was : list_any (E q) (remaining_uses E es) ≡ true = sym (behind q (remaining_uses E es) far) ∙ ap (list_any (E q)) (sym remain) ∙ h in
                  behind q (others E k i.kept) far ∙ any_others E eq q k i.kept far ∙ (i.fitted q was).1 (m (ap (list_any (E q)) one ∙ or-false (E q k) ∙ far))
            ] refl,
          );
        }) u.held (u.capacity ∙ sym limit) (subst (λ n. 0 < n) (sym u.most_pins) i.pins) g.lawful (subst (AllByRecursion (λ k. 0 < price k)) (sym used) (all_push (λ l. 0 < price l) (uses es) k i.charged g.above))
      where
        -- a key that is not k is among the others alone
        behind : (q : K) (ks : List K) → E q k ≡ false → list_any (E q) (ks ++ k ∷ []) ≡ list_any (E q) ks
        behind q ks n = list_any-append (E q) ks (k ∷ []) ∙ ap (λ t. list_any (E q) ks || t) (or-false (E q k) ∙ n) ∙ or-false (list_any (E q) ks)

    -- a step that neither uses nor removes a key, and does not set the capacity
    now_quiet : (es : List (Request K V × Outcome K V)) (e : Request K V × Outcome K V) (c : Cache K V) → IsNow es c → uses (e ∷ []) ≡ [] → ((l : K) → removes E l e.0 ≡ false) → capacity_after (capacity_after first es) (e ∷ []) ≡ capacity_after first es → IsNow (es ++ e ∷ []) c
    now_quiet es e c i none stays same =
        let used : uses (es ++ e ∷ []) ≡ uses es = uses-append es (e ∷ []) ∙ ap (λ ks. uses es ++ ks) none ∙ append-nil (uses es) in
        let remain : remaining_uses E (es ++ e ∷ []) ≡ remaining_uses E es = remaining_uses-more E es e stays ∙ ap (λ ks. remaining_uses E es ++ ks) none ∙ append-nil (remaining_uses E es) in
        let limit : capacity_after first (es ++ e ∷ []) ≡ capacity_after first es = capacity-append first es (e ∷ []) ∙ same in
        record {
          held = i.held;
          capacity = i.capacity ∙ sym limit;
          pins = i.pins;
          lawful = i.lawful;
          gone = i.gone;
          kept = i.kept;
          in_order = ap (last_uses E) remain ∙ i.in_order;
          paired = i.paired;
          fitted = λ q h.
              let was : list_any (E q) (remaining_uses E es) ≡ true = ap (list_any (E q)) (sym remain) ∙ h in (
                λ m.
                    let f = (i.fitted q was).0 m in
                    fitted_push E price first es e q (subst (λ n. weight E price (remaining_uses E (es ++ e ∷ [])) q ≤ n) (sym limit) (subst (λ us. weight E price us q ≤ capacity_after first es) (sym remain) (fitted_now E price first es q f))) (λ _. f),
                λ m. (i.fitted q was).1 (fitted_before E price first es e q m (ap (list_any (E q)) none)),
              );
          charged = subst (AllByRecursion (λ k. 0 < price k)) (sym used) i.charged;
        }

    -- a key is removed
    now_removed : (es : List (Request K V × Outcome K V)) (e : Request K V × Outcome K V) (k : K) (old new : Cache K V) (i : IsNow es old) → uses (e ∷ []) ≡ [] → remaining_uses E (es ++ e ∷ []) ≡ others E k (remaining_uses E es) → capacity_after (capacity_after first es) (e ∷ []) ≡ capacity_after first es
        → IsWithoutKey E price eq p old new k i.kept → IsNow (es ++ e ∷ []) new
    now_removed es e k old new i none remain same r =
        let used : uses (es ++ e ∷ []) ≡ uses es = uses-append es (e ∷ []) ∙ ap (λ ks. uses es ++ ks) none ∙ append-nil (uses es) in
        let limit : capacity_after first (es ++ e ∷ []) ≡ capacity_after first es = capacity-append first es (e ∷ []) ∙ same in
        record {
          held = r.held;
          capacity = r.capacity ∙ i.capacity ∙ sym limit;
          pins = subst (λ n. 0 < n) (sym r.most_pins) i.pins;
          lawful = r.lawful;
          gone = others E k i.gone;
          kept = others E k i.kept;
          in_order = ap (last_uses E) remain ∙ last_uses-others E eq k (remaining_uses E es) ∙ ap (others E k) i.in_order ∙ filter-append _ i.gone i.kept;
          paired = r.paired;
          fitted = λ q h.
              let left : list_any (E q) (others E k (remaining_uses E es)) ≡ true = ap (list_any (E q)) (sym remain) ∙ h in
              let far : E q k ≡ false = among_others E eq q k (remaining_uses E es) left in
              let was : list_any (E q) (remaining_uses E es) ≡ true = sym (any_others E eq q k (remaining_uses E es) far) ∙ left in
              let stays : list_any (E q) (others E k i.kept) ≡ list_any (E q) i.kept = any_others E eq q k i.kept far in (
                λ m.
                    let f = (i.fitted q was).0 (sym stays ∙ m) in
                    let less : weight E price (others E k (remaining_uses E es)) q ≤ weight E price (remaining_uses E es) q = weight_without E price eq q k (remaining_uses E es) in
                    let before : weight E price (remaining_uses E es) q ≤ capacity_after first es = fitted_now E price first es q f in
                    let now : weight E price (remaining_uses E (es ++ e ∷ [])) q ≡ weight E price (others E k (remaining_uses E es)) q = ap (λ us. weight E price us q) remain in
                    fitted_push E price first es e q (omega (arith, less, before, now, limit)) (λ _. f),
                λ m. stays ∙ (i.fitted q was).1 (fitted_before E price first es e q m (ap (list_any (E q)) none)),
              );
          charged = subst (AllByRecursion (λ k. 0 < price k)) (sym used) i.charged;
        }

    -- all keys are removed
    now_pruned : (es : List (Request K V × Outcome K V)) (out : List (Idle K V)) (old new : Cache K V) → IsNow es old → new ≡ record old { idle = [] } → IsNow (es ++ (ask.prune, accepted say.done out) ∷ []) new
    now_pruned es out old new i h =
        let e : Request K V × Outcome K V = (ask.prune, accepted say.done out) in
        let used : uses (es ++ e ∷ []) ≡ uses es = uses-append es (e ∷ []) ∙ append-nil (uses es) in
        let remain : remaining_uses E (es ++ e ∷ []) ≡ [] = remaining_uses-none E es e (λ _. refl) refl in
        record {
          held = ap (λ c. c.held) h ∙ i.held;
          capacity = ap (λ c. c.capacity) h ∙ i.capacity ∙ sym (capacity-append first es (e ∷ []));
          pins = subst (λ n. 0 < n) (sym (ap (λ c. c.most_pins) h)) i.pins;
          lawful = prunes_lawful E old new i.lawful h;
          gone = [];
          kept = [];
          in_order = ap (last_uses E) remain;
          paired = subst (λ xs. Paired E price xs []) (sym (ap (λ c. c.idle) h)) tt;
          fitted = λ q m. absurd (true≢false (sym m ∙ ap (list_any (E q)) remain));
          charged = subst (AllByRecursion (λ k. 0 < price k)) (sym used) i.charged;
        }

    -- a change of capacity
    now_set : (es : List (Request K V × Outcome K V)) (n : ℕ) (out : List (Idle K V)) (old new : Cache K V) → IsNow es old → Settles (with_capacity old n) out new → IsNow (es ++ (ask.set_capacity n, accepted say.done out) ∷ []) new
    now_set es n out old new i s =
        let e : Request K V × Outcome K V = (ask.set_capacity n, accepted say.done out) in
        let used : uses (es ++ e ∷ []) ≡ uses es = uses-append es (e ∷ []) ∙ append-nil (uses es) in
        let remain : remaining_uses E (es ++ e ∷ []) ≡ remaining_uses E es = remaining_uses-more E es e (λ _. refl) ∙ append-nil (remaining_uses E es) in
        let limit : capacity_after first (es ++ e ∷ []) ≡ n = capacity-append first es (e ∷ []) in
        let zero : held_charges old.held ≡ 0 = none_held_sum old.held i.held in
        now_cut es e new (record {
          lost = i.gone;
          left = i.kept;
          before = old.idle;
          order = ap (last_uses E) remain ∙ i.in_order;
          pairs = i.paired;
          fits = subst (λ c. Fitting (λ x. x.charge) 0 c old.idle new.idle) (sym limit) (fitting_front 0 n (charges old.idle + held_charges old.held) old.idle out new.idle (omega (arith, zero)) s.front);
          members = λ q h.
              let was : list_any (E q) (remaining_uses E es) ≡ true = ap (list_any (E q)) (sym remain) ∙ h in
              (λ m _. (i.fitted q was).0 m, λ m. (i.fitted q was).1 (m refl));
        }) (ap (λ c. c.held) s.others ∙ i.held) (ap (λ c. c.capacity) s.others ∙ sym limit) (subst (λ m. 0 < m) (sym (ap (λ c. c.most_pins) s.others)) i.pins) (sets_lawful E old new n out i.lawful s)
        (subst (AllByRecursion (λ k. 0 < price k)) (sym used) i.charged)

    pub changing_run : (done es : List (Request K V × Outcome K V)) (old new : Cache K V) → IsNow done old → AllByRecursion (IsPriced price) (map (λ e. e.0) es) → IsPlainWithChanges es → Run E old (map (λ e. e.0) es) (map (λ e. e.1) es) new → IsNow (done ++ es) new
    changing_run done [] old new i c h r = subst (λ ds. IsNow ds new) (sym (append-nil done)) (subst (IsNow done) (sym r) i)
    changing_run done ((ask.begin k c, accepted (say.make s) out1) ∷ (ask.ready t v, accepted say.done out2) ∷ (ask.release u, accepted say.done out3) ∷ es) old new i q h r =
        let e1 : Request K V × Outcome K V = (ask.begin k c, accepted (say.make s) out1) in
        let e2 : Request K V × Outcome K V = (ask.ready t v, accepted say.done out2) in
        let e3 : Request K V × Outcome K V = (ask.release u, accepted say.done out3) in
        let j = now_used done e1 k old r.2.2.0 i refl (λ _. refl) refl (made_group E price eq p old r.0 r.2.0 r.2.2.0 k c s t u v out1 out2 out3 i.kept (alone done old i) q.0.0 q.0.1 h.0 h.1 r.1 r.2.1 r.2.2.1) in
        let l = now_quiet ((done ++ e1 ∷ []) ++ e2 ∷ []) e3 r.2.2.0 (now_quiet (done ++ e1 ∷ []) e2 r.2.2.0 j refl (λ _. refl) refl) refl (λ _. refl) refl in
        subst (λ ds. IsNow ds new) (append_assoc ((done ++ e1 ∷ []) ++ e2 ∷ []) (e3 ∷ []) es ∙ append_assoc (done ++ e1 ∷ []) (e2 ∷ []) (e3 ∷ es) ∙ append_assoc done (e1 ∷ []) (e2 ∷ e3 ∷ es))
        (changing_run (((done ++ e1 ∷ []) ++ e2 ∷ []) ++ e3 ∷ []) es r.2.2.0 new l q.1.1.1 h.2 r.2.2.2)
    changing_run done ((ask.begin k c, accepted (say.hit s v) out1) ∷ (ask.release u, accepted say.done out2) ∷ es) old new i q h r =
        let e1 : Request K V × Outcome K V = (ask.begin k c, accepted (say.hit s v) out1) in
        let e2 : Request K V × Outcome K V = (ask.release u, accepted say.done out2) in
        let j = now_used done e1 k old r.2.0 i refl (λ _. refl) refl (hit_group E price eq p old r.0 r.2.0 k s u v out1 out2 i.kept (alone done old i) h.0 r.1 r.2.1) in
        subst (λ ds. IsNow ds new) (append_assoc (done ++ e1 ∷ []) (e2 ∷ []) es ∙ append_assoc done (e1 ∷ []) (e2 ∷ es))
        (changing_run ((done ++ e1 ∷ []) ++ e2 ∷ []) es r.2.0 new (now_quiet (done ++ e1 ∷ []) e2 r.2.0 j refl (λ _. refl) refl) q.1.1 h.1 r.2.2)
    changing_run done ((ask.get k, accepted (say.hit s v) out1) ∷ (ask.release u, accepted say.done out2) ∷ es) old new i q h r =
        let e1 : Request K V × Outcome K V = (ask.get k, accepted (say.hit s v) out1) in
        let e2 : Request K V × Outcome K V = (ask.release u, accepted say.done out2) in
        let j = now_used done e1 k old r.2.0 i refl (λ _. refl) refl (hit_group E price eq p old r.0 r.2.0 k s u v out1 out2 i.kept (alone done old i) h.0 r.1 r.2.1) in
        subst (λ ds. IsNow ds new) (append_assoc (done ++ e1 ∷ []) (e2 ∷ []) es ∙ append_assoc done (e1 ∷ []) (e2 ∷ es))
        (changing_run ((done ++ e1 ∷ []) ++ e2 ∷ []) es r.2.0 new (now_quiet (done ++ e1 ∷ []) e2 r.2.0 j refl (λ _. refl) refl) q.1.1 h.1 r.2.2)
    changing_run done ((ask.get k, accepted say.missed out) ∷ es) old new i q h r =
        let e : Request K V × Outcome K V = (ask.get k, accepted say.missed out) in
        subst (λ ds. IsNow ds new) (append_assoc done (e ∷ []) es)
        (changing_run (done ++ e ∷ []) es r.0 new (now_quiet done e r.0 (subst (IsNow done) (sym r.1.1.same) i) refl (λ _. refl) refl) q.1 h r.2)
    changing_run done ((ask.read k, accepted (say.read s v) out) ∷ es) old new i q h r =
        let e : Request K V × Outcome K V = (ask.read k, accepted (say.read s v) out) in
        let j = now_used done e k old r.0 i refl (λ _. refl) refl (hit_group E price eq p old r.1.mid r.0 k s s v [] [] i.kept (alone done old i) refl r.1.found r.1.released) in
        subst (λ ds. IsNow ds new) (append_assoc done (e ∷ []) es) (changing_run (done ++ e ∷ []) es r.0 new j q.1 h r.2)
    changing_run done ((ask.read k, accepted say.missed out) ∷ es) old new i q h r =
        let e : Request K V × Outcome K V = (ask.read k, accepted say.missed out) in
        subst (λ ds. IsNow ds new) (append_assoc done (e ∷ []) es)
        (changing_run (done ++ e ∷ []) es r.0 new (now_quiet done e r.0 (subst (IsNow done) (sym r.1.1.same) i) refl (λ _. refl) refl) q.1 h r.2)
    changing_run done ((ask.set_capacity n, accepted say.done out) ∷ es) old new i q h r =
        subst (λ ds. IsNow ds new) (append_assoc done ((ask.set_capacity n, accepted say.done out) ∷ []) es)
        (changing_run (done ++ (ask.set_capacity n, accepted say.done out) ∷ []) es r.0 new (now_set done n out old r.0 i r.1) q.1 h r.2)
    changing_run done ((ask.advice_evict k, accepted say.done out) ∷ es) old new i q h r =
        let e : Request K V × Outcome K V = (ask.advice_evict k, accepted say.done out) in
        let j = now_removed done e k old r.0 i refl (remaining_uses-push E done e ∙ append-nil (others E k (remaining_uses E done))) refl (advised E price eq p old r.0 k out i.kept (alone done old i) r.1) in
        subst (λ ds. IsNow ds new) (append_assoc done (e ∷ []) es) (changing_run (done ++ e ∷ []) es r.0 new j q.1 h r.2)
    changing_run done ((ask.invalidate k, accepted say.done out) ∷ es) old new i q h r =
        let e : Request K V × Outcome K V = (ask.invalidate k, accepted say.done out) in
        let j = now_removed done e k old r.0 i refl (remaining_uses-push E done e ∙ append-nil (others E k (remaining_uses E done))) refl (invalidated E price eq p old r.0 k out i.kept (alone done old i) r.1) in
        subst (λ ds. IsNow ds new) (append_assoc done (e ∷ []) es) (changing_run (done ++ e ∷ []) es r.0 new j q.1 h r.2)
    changing_run done ((ask.prune, accepted say.done out) ∷ es) old new i q h r =
        subst (λ ds. IsNow ds new) (append_assoc done ((ask.prune, accepted say.done out) ∷ []) es)
        (changing_run (done ++ (ask.prune, accepted say.done out) ∷ []) es r.0 new (now_pruned done out old r.0 i r.1.1) q.1 h r.2)
    changing_run done (e ∷ es) old new i q h r = absurd h
