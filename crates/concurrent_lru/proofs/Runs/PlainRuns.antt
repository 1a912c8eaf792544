-- Each group of a plain run is one use of its key.
use Rattle.std.proofs.Common.{◌≡◌, ℕ, ◌<◌, ◌⊎◌, inl, inr, Bool, false, List, [], ◌∷◌, ◌++◌, Some, refl, sym, ap, ◌∙◌, subst, arith}
use Rattle.std.specs.Ordering.{nat_cmp}
use Rattle.std.specs.Cmp.{IsEquivalence}
use Rattle.std.specs.FinMap as finmap
use Rattle.std.specs.List.{AllByRecursion}
use Rattle.std.proofs.lemmas.Bool.{true≢false}
use Rattle.std.proofs.lemmas.Option.{none-some, same_Some}
use Rattle.concurrent_lru.specs.Cache.{Cache, Idle, Held, making, untaken, ready, IsLawful, held_at}
use Rattle.concurrent_lru.specs.Cache.{Phase}
use Rattle.concurrent_lru.specs.Steps.{Makes, ChangesPhase, Leaves, Rests, Joins, Revives, held_in_phase, held_by_one, Ends}
use Rattle.concurrent_lru.specs.Request as ask
use Rattle.concurrent_lru.specs.Request.{Request}
use Rattle.concurrent_lru.proofs.Entries.NodesOfSetAndAdd.{inserted_at}
use Rattle.concurrent_lru.proofs.Steps.BeginOfAbsent.{makes_lawful}
use Rattle.concurrent_lru.proofs.Steps.ReadyAndPoll.{changes_phase_lawful}
use Rattle.concurrent_lru.proofs.Steps.Release.{rests_lawful}
use Rattle.concurrent_lru.proofs.Steps.LawfulAfterRevival.{revives_lawful}
use Rattle.concurrent_lru.proofs.Runs.LongestEnds.{AgreesOnEqual}
use Rattle.concurrent_lru.proofs.Runs.GroupsOfPlainRun.{Paired, paired_charge, IsUsed, made_used, hit_used}

pub all_push : {X : Type 0} (P : X → Type 0) (xs : List X) (x : X) → AllByRecursion P xs → P x → AllByRecursion P (xs ++ x ∷ [])
all_push P [] x h p = (p, tt)
all_push P (y ∷ xs) x h p = (h.0, all_push P xs x h.1 p)

module _ {K V : Type 0} where
  -- what a begin is charged is the price of its key, and is above 0
  abbrev pub IsPriced : (K → ℕ) → Request K V → Type 0
  IsPriced price (ask.begin k c) = (c ≡ price k) × (0 < c)
  IsPriced price _ = Unit {0}

module _ {K V : Type 0} (E : K → K → Bool) where
  -- nothing is held where the map is empty
  no_join : (old new : Cache K V) (k : K) (s : ℕ) (a b : Phase V) (out : List (Idle K V)) → old.held ≡ finmap.empty → Joins E old k s a b out new → ⊥
  no_join old new k s a b out alone j = none-some j.entry (sym (ap (λ n. finmap.get n s) alone ∙ finmap.get-empty nat_cmp s) ∙ j.holds.at)

  -- one pin alone is the last
  no_other : (old new : Cache K V) (s : ℕ) (e : Held K V) (a b : Phase V) (out : List (Idle K V)) → held_at old s ≡ Some e → e.pins ≡ 1 → Leaves E old s a b out new → ⊥
  no_other old new s e a b out at one l =
      let is : e.pins ≡ l.entry.pins = ap (λ x. x.pins) (same_Some _ _ (sym at ∙ l.holds.at)) in
      let more = l.others in
      absurd (omega (arith, is, one, more))

  -- an entry that is not detached rests
  no_end : (old new : Cache K V) (s : ℕ) (e : Held K V) (out : List (Idle K V)) → held_at old s ≡ Some e → e.detached ≡ false → Ends E old s out new → ⊥
  no_end old new s e out at found l = true≢false (sym l.lost ∙ ap (λ x. x.detached) (same_Some _ _ (sym l.holds.at ∙ at)) ∙ found)

  made_at : (old one two : Cache K V) (k : K) (c s : ℕ) (v : V) (out1 out2 : List (Idle K V)) (m : Makes E old k c s out1 one) (t : ChangesPhase E one s making (ready v) out2 two) → held_at two s ≡ Some (record { key = m.copy; charge = c; pins = 1; detached = false; phase = ready v })
  made_at old one two k c s v out1 out2 m t =
      let e : Held K V = record { key = m.copy; charge = c; pins = 1; detached = false; phase = making } in
      let is : t.entry ≡ e = same_Some _ _ (sym t.holds.at ∙ ap (λ z. finmap.get z.held s) m.settles.others ∙ inserted_at old.held s e) in
      ap (λ z. finmap.get z.held s) t.changed ∙ inserted_at one.held s (held_in_phase (ready v) t.entry) ∙ ap (λ x. Some (held_in_phase (ready v) x)) is

  hit_at : (old one : Cache K V) (k : K) (s : ℕ) (v : V) (out : List (Idle K V)) (r : Revives E old k s v out one) → held_at one s ≡ Some (held_by_one r.entry)
  hit_at old one k s v out r = ap (λ z. finmap.get z.held s) r.changed ∙ inserted_at old.held s (held_by_one r.entry)

  module _ (price : K → ℕ) (eq : IsEquivalence E) (p : AgreesOnEqual E price) where
    -- nothing is held, and the idle entries are those of these keys
    pub record IsAlone (c : Cache K V) (ks : List K) : Type 0 where
      pub held : c.held ≡ finmap.empty
      pub pins : 0 < c.most_pins
      pub lawful : IsLawful E c
      pub paired : Paired E price c.idle ks

    -- a group is one use of its key
    pub record IsGroup (old new : Cache K V) (k : K) (ks : List K) : Type 0 where
      pub used : IsUsed E price old new k ks
      pub above : 0 < price k
      pub lawful : IsLawful E new

    pub made_group : (old one two new : Cache K V) (k : K) (c s t u : ℕ) (v : V) (out1 out2 out3 : List (Idle K V)) (ks : List K) → IsAlone old ks → c ≡ price k → 0 < c → t ≡ s → u ≡ s
        → Makes E old k c s out1 one ⊎ Joins E old k s untaken making out1 one → ChangesPhase E one t making (ready v) out2 two → ((w : V) × Leaves E two u (ready w) (ready w) out3 new) ⊎ (Rests E two u out3 new ⊎ Ends E two u out3 new) → IsGroup old new k ks
    made_group old one two new k c s t u v out1 out2 out3 ks i charged above ts us' b r l =
        let turns : ChangesPhase E one s making (ready v) out2 two = subst (λ n. ChangesPhase E one n making (ready v) out2 two) ts r in
        elim b [
          | inl m ↦ elim l [
            | inl w ↦ absurd (no_other two new s (record { key = m.copy; charge = c; pins = 1; detached = false; phase = ready v }) (ready w.0) (ready w.0) out3 (made_at old one two k c s v out1 out2 m turns) refl (subst (λ n. Leaves E two n (ready w.0) (ready w.0) out3 new) us' w.1))
            | inr o ↦ elim o [
              | inr gone ↦ absurd (no_end two new u (record { key = m.copy; charge = c; pins = 1; detached = false; phase = ready v }) out3 (ap (held_at two) us' ∙ made_at old one two k c s v out1 out2 m turns) refl gone)
              | inl rest ↦
                  let rests : Rests E two s out3 new = subst (λ n. Rests E two n out3 new) us' rest in
                  let l1 = makes_lawful E old one k c s out1 eq i.lawful above i.pins m in
                  record {
                    used = made_used E price eq p old one two new k c s v out1 out2 out3 ks i.lawful i.held i.paired charged m turns rests;
                    above = subst (λ n. 0 < n) charged above;
                    lawful = rests_lawful E two new s out3 (changes_phase_lawful E one two s making (ready v) out2 l1 turns) rests;
                  }
            ]
          ]
          | inr j ↦ absurd (no_join old one k s untaken making out1 i.held j)
        ]

    pub hit_group : (old one new : Cache K V) (k : K) (s u : ℕ) (v : V) (out1 out2 : List (Idle K V)) (ks : List K) → IsAlone old ks → u ≡ s
        → Joins E old k s (ready v) (ready v) out1 one ⊎ Revives E old k s v out1 one → ((w : V) × Leaves E one u (ready w) (ready w) out2 new) ⊎ (Rests E one u out2 new ⊎ Ends E one u out2 new) → IsGroup old new k ks
    hit_group old one new k s u v out1 out2 ks i us' b l = elim b [
      | inl j ↦ absurd (no_join old one k s (ready v) (ready v) out1 i.held j)
      | inr h ↦ elim l [
        | inl w ↦ absurd (no_other one new s (held_by_one h.entry) (ready w.0) (ready w.0) out2 (hit_at old one k s v out1 h) refl (subst (λ n. Leaves E one n (ready w.0) (ready w.0) out2 new) us' w.1))
        | inr o ↦ elim o [
          | inr gone ↦ absurd (no_end one new u (held_by_one h.entry) out2 (ap (held_at one) us' ∙ hit_at old one k s v out1 h) refl gone)
          | inl rest ↦
              let rests : Rests E one s out2 new = subst (λ n. Rests E one n out2 new) us' rest in
              record {
                used = hit_used E price eq p old one new k s v out1 out2 ks i.lawful i.held i.paired h rests;
                above = subst (λ n. 0 < n) (paired_charge E price eq p s h.entry old.idle ks h.at i.paired ∙ p h.entry.key k h.same_key) (i.lawful.charged s h.entry.key h.entry.charge (inl (h.entry, h.at, refl, refl)));
                lawful = rests_lawful E one new s out2 (revives_lawful E old one k s v out1 i.lawful i.pins h) rests;
              }
        ]
      ]
    ]
