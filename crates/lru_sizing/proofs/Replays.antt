-- A replay, use by use: it goes on by one use, and answers as the reuse weights tell.
use Rattle.std.proofs.Common.{◌≡◌, ℕ, zero, suc, ◌+◌, ◌<◌, ◌≤◌, ◌^◌, inl, inr, Bool, true, false, List, [], ◌∷◌, ◌++◌, length, map, get_or, take, refl, sym, ap, ◌∙◌, subst, arith}
use Rattle.std.specs.Cmp.{IsEquivalence}
use Rattle.std.specs.FinMap as finmap
use Rattle.std.specs.List.{AllByRecursion, sum_by, zip}
use Rattle.std.specs.Ordering.{nat_cmp}
use Rattle.std.proofs.lemmas.List.{append-nil}
use Rattle.std.proofs.lemmas.List.Elements.{filter-append}
use Rattle.std.proofs.lemmas.List.Sums.{sum_by-append, sum_by_push}
use Rattle.std.proofs.lemmas.Option.{none-some}
use Rattle.concurrent_lru.specs.Cache.{Cache, Idle, Held, making, ready, sum_of, charges}
use Rattle.concurrent_lru.specs.Representation.{held_charges}
use Rattle.concurrent_lru.specs.Request as ask
use Rattle.concurrent_lru.specs.Request.{Request}
use Rattle.concurrent_lru.specs.Reply as say
use Rattle.concurrent_lru.specs.Results.{IsCharged}
use Rattle.concurrent_lru.specs.Runs.{Outcome, accepted, Run, Overflows}
use Rattle.concurrent_lru.specs.Steps.{IsAbsent, Holds, Step, held_in_phase, held_by_one}
use Rattle.concurrent_lru.specs.Removals.{remaining_uses}
use Rattle.concurrent_lru.specs.Uses.{IsPlain, uses, begins, HaveNoGet, HaveOneCharge, charge_in, last_uses}
use Rattle.concurrent_lru.specs.WholeRuns.{IsEmpty}
use Rattle.concurrent_lru.proofs.Entries.NodesOfSetAndAdd.{inserted_at}
use Rattle.concurrent_lru.proofs.Runs.ChangingRuns.{IsNow, changing_run}
use Rattle.concurrent_lru.proofs.Runs.ChargeOfKey.{charge_agrees, begins_charged, priced}
use Rattle.concurrent_lru.proofs.Runs.CutAndJoined.{Run-join}
use Rattle.concurrent_lru.proofs.Runs.GroupsOfPlainRun.{AreFound, each_is_found, none_held_sum, others_absent, paired_sum}
use Rattle.concurrent_lru.proofs.Runs.LongestEnds.{last_uses-push, others}
use Rattle.concurrent_lru.proofs.Runs.PromisesOfRuns.{uses_begun}
use Rattle.concurrent_lru.proofs.Runs.RemainingUses.{all_remain}
use Rattle.concurrent_lru.proofs.Runs.SteadyCapacity.{plain_has_no_change}
use Rattle.lru_sizing.specs.HitsByWeight.{fits, begun_hits}
use Rattle.lru_sizing.specs.Replays.{IsReplay, IsUsedOnce}
use Rattle.lru_sizing.specs.ReuseWeights.{used_keys, reuse_weights}
use Rattle.lru_sizing.proofs.HitsByWeight.{at_the_start, every_use_hits_by_weight, none_joins}
use Rattle.lru_sizing.proofs.Marks.{used_push}
use Rattle.lru_sizing.proofs.Passes.{charged_at}

module _ {K V : Type 0} where
  -- the requests of steps, and their outcomes
  abbrev requests_of : List (Request K V × Outcome K V) → List (Request K V)
  requests_of es = map (λ e. e.0) es

  abbrev outcomes_of : List (Request K V × Outcome K V) → List (Outcome K V)
  outcomes_of es = map (λ e. e.1) es

  zip_parts : (es : List (Request K V × Outcome K V)) → zip (requests_of es) (outcomes_of es) ≡ es
  zip_parts [] = refl
  zip_parts (e ∷ es) = ap (λ fs. e ∷ fs) (zip_parts es)

  parts_long : (es : List (Request K V × Outcome K V)) → length (outcomes_of es) ≡ length (requests_of es)
  parts_long [] = refl
  parts_long (e ∷ es) = let n : length (outcomes_of es) ≡ length (requests_of es) = parts_long es in omega (arith, n)

  requests-append : (es fs : List (Request K V × Outcome K V)) → requests_of (es ++ fs) ≡ requests_of es ++ requests_of fs
  requests-append [] fs = refl
  requests-append (e ∷ es) fs = ap (λ rs. e.0 ∷ rs) (requests-append es fs)

  outcomes-append : (es fs : List (Request K V × Outcome K V)) → outcomes_of (es ++ fs) ≡ outcomes_of es ++ outcomes_of fs
  outcomes-append [] fs = refl
  outcomes-append (e ∷ es) fs = ap (λ os. e.1 ∷ os) (outcomes-append es fs)

  begins-append : (rs qs : List (Request K V)) → begins (rs ++ qs) ≡ begins rs ++ begins qs
  begins-append [] qs = refl
  begins-append (ask.begin k c ∷ rs) qs = ap (λ bs. (k, c) ∷ bs) (begins-append rs qs)
  begins-append (_ ∷ rs) qs = begins-append rs qs

  no_get-append : (rs qs : List (Request K V)) → HaveNoGet rs → HaveNoGet qs → HaveNoGet (rs ++ qs)
  no_get-append [] qs g h = h
  no_get-append (ask.get k ∷ rs) qs g h = absurd g
  no_get-append (ask.read k ∷ rs) qs g h = absurd g
  no_get-append (_ ∷ rs) qs g h = no_get-append rs qs g h

  plain-append : (es fs : List (Request K V × Outcome K V)) → IsPlain es → IsPlain fs → IsPlain (es ++ fs)
  plain-append [] fs p q = q
  plain-append ((ask.begin k c, accepted (say.make s) out1) ∷ (ask.ready t v, accepted say.done out2) ∷ (ask.release u, accepted say.done out3) ∷ es) fs p q = (p.0, p.1, plain-append es fs p.2 q)
  plain-append ((ask.begin k c, accepted (say.hit s v) out1) ∷ (ask.release u, accepted say.done out2) ∷ es) fs p q = (p.0, plain-append es fs p.1 q)
  plain-append ((ask.get k, accepted (say.hit s v) out1) ∷ (ask.release u, accepted say.done out2) ∷ es) fs p q = (p.0, plain-append es fs p.1 q)
  plain-append ((ask.get k, accepted say.missed out) ∷ es) fs p q = plain-append es fs p q
  plain-append ((ask.read k, accepted (say.read s v) out) ∷ es) fs p q = plain-append es fs p q
  plain-append ((ask.read k, accepted say.missed out) ∷ es) fs p q = plain-append es fs p q
  plain-append (e ∷ es) fs p q = absurd p

  begun_hits-append : (es fs : List (Request K V × Outcome K V)) → begun_hits (es ++ fs) ≡ begun_hits es ++ begun_hits fs
  begun_hits-append [] fs = refl
  begun_hits-append ((ask.begin k c, accepted (say.hit s v) out) ∷ es) fs = ap (λ bs. true ∷ bs) (begun_hits-append es fs)
  begun_hits-append ((ask.begin k c, o) ∷ es) fs = ap (λ bs. false ∷ bs) (begun_hits-append es fs)
  begun_hits-append (_ ∷ es) fs = begun_hits-append es fs

  -- a plain run whose begins have charges above 0 is charged
  charged_begins : (es : List (Request K V × Outcome K V)) → IsPlain es → AllByRecursion (λ u. 0 < u.1) (begins (requests_of es)) → AllByRecursion IsCharged (requests_of es)
  charged_begins [] p h = tt
  charged_begins ((ask.begin k c, accepted (say.make s) out1) ∷ (ask.ready t v, accepted say.done out2) ∷ (ask.release u, accepted say.done out3) ∷ es) p h = (h.0, (tt, (tt, charged_begins es p.2 h.1)))
  charged_begins ((ask.begin k c, accepted (say.hit s v) out1) ∷ (ask.release u, accepted say.done out2) ∷ es) p h = (h.0, (tt, charged_begins es p.1 h.1))
  charged_begins ((ask.get k, accepted (say.hit s v) out1) ∷ (ask.release u, accepted say.done out2) ∷ es) p h = (tt, (tt, charged_begins es p.1 h))
  charged_begins ((ask.get k, accepted say.missed out) ∷ es) p h = (tt, charged_begins es p h)
  charged_begins ((ask.read k, accepted (say.read s v) out) ∷ es) p h = (tt, charged_begins es p h)
  charged_begins ((ask.read k, accepted say.missed out) ∷ es) p h = (tt, charged_begins es p h)
  charged_begins (e ∷ es) p h = absurd p

module _ {X : Type 0} (P : X → Type 0) where
  all_take : (n : ℕ) (xs : List X) → AllByRecursion P xs → AllByRecursion P (take n xs)
  all_take zero xs h = tt
  all_take (suc n) [] h = tt
  all_take (suc n) (x ∷ xs) h = (h.0, all_take n xs h.1)

module _ {K : Type 0} (E : K → K → Bool) (eq : IsEquivalence E) (trace : List (K × ℕ)) (one : HaveOneCharge E trace) where
  -- each use has its key's charge
  pub use_charge : (place : ℕ) (u : K × ℕ) → place < length trace → get_or trace place u ≡ u → u.1 ≡ charge_in E trace u.0
  use_charge place u more at = subst (λ v. v.1 ≡ charge_in E trace v.0) at (charged_at E eq (charge_in E trace) trace place u (begins_charged E eq trace one) more)

module _ {K V : Type 0} (E : K → K → Bool) where
  -- nothing was used
  pub replay_none : (c : Cache K V) → IsReplay E c [] [] c
  replay_none c = record { steps = []; run = refl; plain = tt; no_get = tt; begun = refl; answered = refl }

  -- a replay goes on by another
  pub replay_on : (old mid new : Cache K V) (trace more : List (K × ℕ)) (hits others : List Bool) → IsReplay E old trace hits mid → IsReplay E mid more others new → IsReplay E old (trace ++ more) (hits ++ others) new
  replay_on old mid new trace more hits others a b = record {
    steps = a.steps ++ b.steps;
    run =
        subst (λ rs. Run E old rs (outcomes_of (a.steps ++ b.steps)) new) (sym (requests-append a.steps b.steps))
        (subst (λ os. Run E old (requests_of a.steps ++ requests_of b.steps) os new) (sym (outcomes-append a.steps b.steps))
        (Run-join E old mid new (requests_of a.steps) (requests_of b.steps) (outcomes_of a.steps) (outcomes_of b.steps) a.run b.run));
    plain = plain-append a.steps b.steps a.plain b.plain;
    no_get = subst HaveNoGet (sym (requests-append a.steps b.steps)) (no_get-append (requests_of a.steps) (requests_of b.steps) a.no_get b.no_get);
    begun = ap begins (requests-append a.steps b.steps) ∙ begins-append (requests_of a.steps) (requests_of b.steps) ∙ ap (λ us. us ++ begins (requests_of b.steps)) a.begun ∙ ap (λ us. trace ++ us) b.begun;
    answered = begun_hits-append a.steps b.steps ∙ ap (λ bs. bs ++ begun_hits b.steps) a.answered ∙ ap (λ bs. hits ++ bs) b.answered;
  }

  -- a use that is made
  pub made_once : (old one two new : Cache K V) (k : K) (c s : ℕ) (v : V) (out1 out2 out3 : List (Idle K V)) → Step E old (ask.begin k c) (say.make s) out1 one → Step E one (ask.ready s v) say.done out2 two → Step E two (ask.release s) say.done out3 new → IsUsedOnce E old k c false new
  made_once old one two new k c s v out1 out2 out3 a b d = record {
    steps = (ask.begin k c, accepted (say.make s) out1) ∷ (ask.ready s v, accepted say.done out2) ∷ (ask.release s, accepted say.done out3) ∷ [];
    run = (one, a, (two, b, (new, d, refl)));
    plain = (refl, refl, tt);
    no_get = tt;
    begun = refl;
    answered = refl;
  }

  -- a use that hits
  pub hit_once : (old one new : Cache K V) (k : K) (c s : ℕ) (v : V) (out1 out2 : List (Idle K V)) → Step E old (ask.begin k c) (say.hit s v) out1 one → Step E one (ask.release s) say.done out2 new → IsUsedOnce E old k c true new
  hit_once old one new k c s v out1 out2 a b = record {
    steps = (ask.begin k c, accepted (say.hit s v) out1) ∷ (ask.release s, accepted say.done out2) ∷ [];
    run = (one, a, (new, b, refl));
    plain = (refl, tt);
    no_get = tt;
    begun = refl;
    answered = refl;
  }

  -- what is being made is held so, where nothing was held before
  pub held_making : (old one : Cache K V) (k : K) (c s : ℕ) (out : List (Idle K V)) → old.held ≡ finmap.empty → Step E old (ask.begin k c) (say.make s) out one → (e : Held K V) × Holds one s e making
  held_making old one k c s out none step = elim step [
    | inl m ↦
        let e : Held K V = record { key = m.copy; charge = c; pins = 1; detached = false; phase = making } in
        (e, record { at = ap (λ z. finmap.get z.held s) m.settles.others ∙ inserted_at old.held s e; phase = refl })
    | inr j ↦ absurd (none_joins E old one k s _ _ out none j)
  ]

  -- what was given its value is held so
  pub held_given : (one two : Cache K V) (s : ℕ) (v : V) (out : List (Idle K V)) → Step E one (ask.ready s v) say.done out two → (e : Held K V) × (w : V) × Holds two s e (ready w)
  held_given one two s v out t =
      let e : Held K V = held_in_phase (ready v) t.entry in
      (e, v, record { at = ap (λ z. finmap.get z.held s) t.changed ∙ inserted_at one.held s e; phase = refl })

  -- what hit is held so
  pub held_hit : (old one : Cache K V) (k : K) (c s : ℕ) (v : V) (out : List (Idle K V)) → old.held ≡ finmap.empty → Step E old (ask.begin k c) (say.hit s v) out one → (e : Held K V) × (w : V) × Holds one s e (ready w)
  held_hit old one k c s v out none step = elim step [
    | inl j ↦ absurd (none_joins E old one k s _ _ out none j)
    | inr r ↦
        let e : Held K V = held_by_one r.entry in
        (e, r.entry.value, record { at = ap (λ z. finmap.get z.held s) r.changed ∙ inserted_at old.held s e; phase = refl })
  ]

  -- nobody else makes it, where nothing was held before
  pub none_waits : (old one : Cache K V) (k : K) (c s : ℕ) (out : List (Idle K V)) → old.held ≡ finmap.empty → Step E old (ask.begin k c) (say.wait s) out one → ⊥
  none_waits old one k c s out none j = none_joins E old one k s _ _ out none j

  -- how far the stamps go
  pub made_stamp : (old one : Cache K V) (k : K) (c s : ℕ) (out : List (Idle K V)) → old.held ≡ finmap.empty → Step E old (ask.begin k c) (say.make s) out one → one.next ≡ old.next + 1
  made_stamp old one k c s out none step = elim step [
    | inl m ↦ ap (λ z. z.next) m.settles.others
    | inr j ↦ absurd (none_joins E old one k s _ _ out none j)
  ]

  pub hit_stamp : (old one : Cache K V) (k : K) (c s : ℕ) (v : V) (out : List (Idle K V)) → Step E old (ask.begin k c) (say.hit s v) out one → one.next ≡ old.next
  hit_stamp old one k c s v out step = elim step [ inl j ↦ ap (λ z. z.next) j.changed | inr r ↦ ap (λ z. z.next) r.changed ]

  pub given_stamp : (one two : Cache K V) (s : ℕ) (v : V) (out : List (Idle K V)) → Step E one (ask.ready s v) say.done out two → two.next ≡ one.next
  given_stamp one two s v out t = ap (λ z. z.next) t.changed

  pub released_stamp : (two new : Cache K V) (s : ℕ) (out : List (Idle K V)) → Step E two (ask.release s) say.done out new → new.next ≡ two.next
  released_stamp two new s out step = elim step [
    | inl l ↦ ap (λ z. z.next) l.1.changed
    | inr last ↦ elim last [ inl r ↦ ap (λ z. z.next) r.settles.others | inr e ↦ ap (λ z. z.next) e.changed ]
  ]

  module _ (eq : IsEquivalence E) (trace : List (K × ℕ)) (one : HaveOneCharge E trace) (above : AllByRecursion (λ u. 0 < u.1) trace) where
    -- how a replay of a beginning of the trace leaves the cache
    pub after_uses : (start c : Cache K V) (place : ℕ) (hits : List Bool) → IsEmpty start → 0 < start.most_pins → (r : IsReplay E start (take place trace) hits c)
        → IsNow E (charge_in E trace) eq (charge_agrees E eq trace) start.capacity r.steps c
    after_uses start c place hits empty pins r =
        let rs = requests_of r.steps in
        let charged : AllByRecursion (λ b. b.1 ≡ charge_in E trace b.0) (begins rs) = subst (AllByRecursion (λ b. b.1 ≡ charge_in E trace b.0)) (sym r.begun) (all_take (λ b. b.1 ≡ charge_in E trace b.0) place trace (begins_charged E eq trace one)) in
        let high : AllByRecursion IsCharged rs = charged_begins r.steps r.plain (subst (AllByRecursion (λ u. 0 < u.1)) (sym r.begun) (all_take (λ u. 0 < u.1) place trace above)) in
        changing_run E (charge_in E trace) eq (charge_agrees E eq trace) start.capacity [] r.steps start c (at_the_start E eq trace start empty pins) (priced (charge_in E trace) rs charged high) (plain_has_no_change K V start.capacity r.steps r.plain).0 r.run

    -- the keys that it used
    used_then : (start c : Cache K V) (place : ℕ) (hits : List Bool) (r : IsReplay E start (take place trace) hits c) → uses r.steps ≡ used_keys (take place trace)
    used_then start c place hits r =
        ap uses (sym (zip_parts r.steps)) ∙ uses_begun (requests_of r.steps) (outcomes_of r.steps) (parts_long r.steps) r.no_get ∙ ap used_keys r.begun

    -- all of which remain
    remain_then : (start c : Cache K V) (place : ℕ) (hits : List Bool) (r : IsReplay E start (take place trace) hits c) → remaining_uses E r.steps ≡ used_keys (take place trace)
    remain_then start c place hits r =
        all_remain E r.steps (plain_has_no_change K V start.capacity r.steps r.plain).2 r.steps [] (sym (append-nil r.steps)) ∙ used_then start c place hits r

    -- where a begin overflows then, the charges of the distinct keys up to it do
    pub overflows_then : (start c : Cache K V) (place : ℕ) (hits : List Bool) (u : K × ℕ) → IsEmpty start → 0 < start.most_pins → (r : IsReplay E start (take place trace) hits c)
        → c.next ≤ place → place < length trace → length trace < 2 ^ 64 → take (place + 1) trace ≡ take place trace ++ u ∷ [] → u.1 ≡ charge_in E trace u.0
        → Overflows E c (ask.begin u.0 u.1) → 2 ^ 64 ≤ sum_by (charge_in E trace) (last_uses E (used_keys (take (place + 1) trace)))
    overflows_then start c place hits u empty pins r stamps more long next charge over =
        let price = charge_in E trace in
        let i = after_uses start c place hits empty pins r in
        elim over [
          | inl a ↦ elim a.1 [
            | inl sum ↦
                let past = used_keys (take place trace) in
                let used : used_keys (take (place + 1) trace) ≡ used_keys (take place trace) ++ u.0 ∷ [] = ap used_keys next ∙ used_push (take place trace) u in
                let order : last_uses E (used_keys (take (place + 1) trace)) ≡ (others E u.0 i.gone ++ others E u.0 i.kept) ++ u.0 ∷ [] =
                ap (last_uses E) used ∙ last_uses-push E (used_keys (take place trace)) u.0
                ∙ ap (λ ks. others E u.0 ks ++ u.0 ∷ []) (ap (last_uses E) (sym (remain_then start c place hits r)) ∙ i.in_order)
                ∙ ap (λ ks. ks ++ u.0 ∷ []) (filter-append _ i.gone i.kept) in
                let same : others E u.0 i.kept ≡ i.kept = others_absent E (charge_in E trace) eq (charge_agrees E eq trace) u.0 c.idle i.kept (lacks c u.0 a.0 c.idle (each_is_found c.idle i.lawful.idle_apart)) i.paired in
                let all : sum_by (charge_in E trace) (last_uses E (used_keys (take (place + 1) trace))) ≡ sum_by (charge_in E trace) (others E u.0 i.gone) + sum_by (charge_in E trace) (others E u.0 i.kept) + charge_in E trace u.0 =
                ap (sum_by (charge_in E trace)) order ∙ sum_by_push (charge_in E trace) (others E u.0 i.gone ++ others E u.0 i.kept) u.0
                ∙ ap (λ n. n + charge_in E trace u.0) (sum_by-append (charge_in E trace) (others E u.0 i.gone) (others E u.0 i.kept)) in
                let kept : sum_by (charge_in E trace) (others E u.0 i.kept) ≡ charges c.idle = ap (sum_by (charge_in E trace)) same ∙ sym (paired_sum E (charge_in E trace) c.idle i.kept i.paired) in
                let none : held_charges c.held ≡ 0 = none_held_sum c.held i.held in
                let whole : sum_of c ≡ charges c.idle + held_charges c.held = refl in
                omega (arith, all, kept, none, whole, charge, sum)
            | inr stamp ↦ absurd (omega (arith, stamp, stamps, more, long))
          ]
          | inr full ↦ absurd (none-some full.entry (sym (ap (λ m. finmap.get m full.stamp) i.held ∙ finmap.get-empty nat_cmp full.stamp) ∙ full.at))
        ]
      where
        lacks : (c : Cache K V) (k : K) → IsAbsent E c k → (ys : List (Idle K V)) → AreFound c.idle ys → AllByRecursion (λ y. E y.key k ≡ false) ys
        lacks c k absent [] h = tt
        lacks c k absent (y ∷ ys) h = (absent y.stamp y.key y.charge (inl (y, h.0, refl, refl)), lacks c k absent ys h.1)

    -- a replay of the whole trace answers as the reuse weights tell
    pub answers_by_weight : (start c : Cache K V) (hits : List Bool) → IsEmpty start → 0 < start.most_pins → IsReplay E start trace hits c → hits ≡ map (fits start.capacity) (reuse_weights E trace)
    answers_by_weight start c hits empty pins r =
        let rs = requests_of r.steps in
        let zipped = zip_parts r.steps in
        let charged : AllByRecursion IsCharged rs = charged_begins r.steps r.plain (subst (AllByRecursion (λ u. 0 < u.1)) (sym r.begun) above) in
        sym r.answered ∙ ap begun_hits (sym zipped)
        ∙ every_use_hits_by_weight K V E eq start c rs (outcomes_of r.steps) empty pins charged r.run (subst IsPlain (sym zipped) r.plain) r.no_get (subst (HaveOneCharge E) (sym r.begun) one)
        ∙ ap (λ us. map (fits start.capacity) (reuse_weights E us)) r.begun
