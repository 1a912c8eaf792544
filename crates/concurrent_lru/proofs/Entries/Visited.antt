-- A walk over the entries that have a value: their values fit their keys, and a closure that is
-- called with each that its key finds is called with no other.
use Rattle.std.proofs.Common.{◌≡◌, ℕ, Bool, true, false, cond, not, List, [], ◌∷◌, map, Option, Some, None, refl, sym, ap, ◌∙◌, subst, eqb, ◌==◌, inl, inr}
use Rattle.std.specs.List.{IsDistinct, AllByRecursion, FoldsTo}
use Rattle.std.specs.Fn.{Mut, Called, always_mut}
use denote.Ref.{Bor}
use denote.Param.Always.{mut_next}
use Rattle.std.specs.Option.{option_map, option_map_or}
use Rattle.std.specs.Cmp.{nat_eq_equiv}
use Rattle.std.proofs.lemmas.Bool.{eqb-true}
use Rattle.std.proofs.lemmas.Option.{none-some, same_Some}
use Rattle.concurrent_lru.specs.Cache.{Cache, Idle, Held, Phase, making, untaken, ready, idle_at, held_at}
use Rattle.concurrent_lru.specs.Ready.{HasReady, ValuesFit}
use Rattle.concurrent_lru.specs.ReadyEntries.{ReadyEntry, ListsReady, ready_from_idle, ready_from_held, ready_at, listed_at, entry_of_ref}
use Rattle.concurrent_lru.specs.declared.lru_core.entries.EntryRef.{EntryRef}
use Rattle.concurrent_lru.specs.Visits.{Judged, Visit, Visits, CanJudge, CanVisit, found}
use Rattle.concurrent_lru.proofs.Steps.ReadyValues.{contains_found}

module _ {K V : Type 0} where
  held_has : (c : Cache K V) (s : ℕ) (h : Held K V) (q : Phase V) (r : ReadyEntry K V) → held_at c s ≡ Some h → h.phase ≡ q → ready_from_held s (record h { phase = q }) ≡ Some r → HasReady c r.key r.value
  held_has c s h making r at phase k = absurd (none-some r k)
  held_has c s h untaken r at phase k = absurd (none-some r k)
  held_has c s h (ready v) r at phase k = subst (λ x. HasReady c x.key x.value) (same_Some _ r k) (inr (s, h, at, refl, phase))

  either_has : (c : Cache K V) (s : ℕ) (h : Option (Held K V)) (i : Option (Idle K V)) (r : ReadyEntry K V) → held_at c s ≡ h → idle_at c s ≡ i → option_map_or (ready_from_held s) h (option_map ready_from_idle i) ≡ Some r → HasReady c r.key r.value
  either_has c s (Some h) i r at _ k = held_has c s h h.phase r at refl k
  either_has c s None None r _ _ k = absurd (none-some r k)
  either_has c s None (Some x) r _ at k = subst (λ y. HasReady c y.key y.value) (same_Some _ r k) (inl (x, contains_found _ c.idle x at, refl, refl))

  -- an entry that is ready under a stamp has its value under its key
  ready_has : (c : Cache K V) (s : ℕ) (r : ReadyEntry K V) → ready_at c s ≡ Some r → HasReady c r.key r.value
  ready_has c s r k = either_has c s (held_at c s) (idle_at c s) r refl refl k

  apart : (s t : ℕ) (ys : List (ReadyEntry K V)) (e : ReadyEntry K V) → AllByRecursion (λ z. eqb t z ≡ false) (map (λ x. x.stamp) ys) → listed_at ys s ≡ Some e → eqb t s ≡ false
  apart s t [] e a h = absurd (none-some e h)
  apart s t (y ∷ ys) e a h = elim (y.stamp == s) as (λ b. (y.stamp == s) ≡ b → cond b (Some y) (listed_at ys s) ≡ Some e → eqb t s ≡ false) [
    | true ↦ λ b k. subst (λ u. eqb t u ≡ false) (eqb-true y.stamp s b) a.0
    | false ↦ λ b k. apart s t ys e a.1 k
  ] refl h

  all_fit : (fits : K → V → Type 0) (c : Cache K V) (ys : List (ReadyEntry K V)) → ValuesFit fits c → ((s : ℕ) (e : ReadyEntry K V) → listed_at ys s ≡ Some e → ready_at c s ≡ Some e) → IsDistinct eqb (map (λ x. x.stamp) ys) → AllByRecursion (λ e. fits e.key e.value) ys
  unfolding IsDistinct
  all_fit fits c [] kept at d = tt
  all_fit fits c (y ∷ ys) kept at d = (
    kept y.key y.value (ready_has c y.stamp y (at y.stamp y (ap (λ b. cond b (Some y) (listed_at ys y.stamp)) (nat_eq_equiv.refl y.stamp)))),
    all_fit fits c ys kept (λ s e is. at s e (ap (λ b. cond b (Some y) (listed_at ys s)) (apart s y.stamp ys e d.0 is) ∙ is)) d.1,
  )

  -- the values of the entries that are listed fit their keys
  pub listed_fit : (fits : K → V → Type 0) (c : Cache K V) (listed : List (ReadyEntry K V)) → ValuesFit fits c → ListsReady c listed → AllByRecursion (λ e. fits e.key e.value) listed
  listed_fit fits c listed kept l = all_fit fits c listed kept (λ s e at. sym (l.each s) ∙ at) l.once

module _ {K V G : Type 0} (fits : K → V → Type 0) (g : Mut G (Visit K V) (Unit {0})) where
  -- the closure may be called with a value that fits its key, and again after that
  pub can_visit : (f : G) (k : Bor K) (v : Bor V) (charge pins : ℕ) → CanVisit fits g f → fits k.now v.now → g.pre f (k, (v, (charge, (pins, tt))))
  can_visit f k v charge pins can fit = can f k v charge pins ([], tt, refl) fit

  pub can_go_on : (f : G) (a : Visit K V) (h : G) → CanVisit fits g f → fits a.0.now a.1.0.now → Called g f a tt h → CanVisit fits g h
  can_go_on f a h can fit called = λ s k v charge pins r. can s k v charge pins (a ∷ r.0, (fit, r.1), (h, called, r.2))

  always_after : (xs : List (Visit K V)) (p q : G) → FoldsTo (λ a x b. Called g a x tt b) p xs q → always_mut g p → always_mut g q
  always_after [] p q to always = subst (always_mut g) to always
  always_after (x ∷ xs) p q to always = always_after xs to.0 q to.2 (mut_next g p x tt to.0 to.0 to.1 refl always)

  -- for callers that know only that a closure may always be called
  pub can_visit_always : (f : G) → always_mut g f → CanVisit fits g f
  can_visit_always f always = λ s k v charge pins r fit. ((always_after r.0 f s r.2 always).at ((k, (v, (charge, (pins, tt)))) ∷ [])).0

module _ {K V G : Type 0} (fits : K → V → Type 0) (g : Mut G (Judged K V) Bool) (cache : Cache K V) (kept : ValuesFit fits cache) (e : EntryRef K V) (at : ready_at cache e.stamp ≡ Some (entry_of_ref e)) where
  fit : fits e.key.now e.value.now
  fit = kept e.key.now e.value.now (ready_has cache e.stamp (entry_of_ref e) at)

  -- the predicate may be called with an entry, and again after that
  pub can_judge : (f : G) → CanJudge fits g f → g.pre f (e.key, (e.value, (e.charge, tt)))
  can_judge f can = can f e.key e.value e.charge ([], tt, refl) fit

  pub can_judge_on : (f h : G) (stays : Bool) → CanJudge fits g f → Called g f (e.key, (e.value, (e.charge, tt))) stays h → CanJudge fits g h
  can_judge_on f h stays can called = λ s k v charge r. can s k v charge ((e.key, (e.value, (e.charge, tt))) ∷ r.0, (fit, r.1), (h, (stays, called), r.2))

module _ {K V G : Type 0} (g : Mut G (Visit K V) (Unit {0})) (Done : G → Type 0) (e : ReadyEntry K V) (rest all : List (ReadyEntry K V)) (parts : all ≡ e ∷ rest) where
  -- the calls that are left, once the first entry was passed over; once it was shown
  pub passed : (p : G) → e.detached ≡ true → ((last : G) → FoldsTo (Visits g) p (found all) last → Done last) → (last : G) → FoldsTo (Visits g) p (found rest) last → Done last
  passed p lost to last h = to last (subst (λ xs. FoldsTo (Visits g) p (found xs) last) (sym parts) (subst (λ b. FoldsTo (Visits g) p (cond (not b) (e ∷ found rest) (found rest)) last) (sym lost) h))

  pub shown : (p q : G) → e.detached ≡ false → Visits g p e q → ((last : G) → FoldsTo (Visits g) p (found all) last → Done last) → (last : G) → FoldsTo (Visits g) q (found rest) last → Done last
  shown p q there v to last h = to last (subst (λ xs. FoldsTo (Visits g) p (found xs) last) (sym parts) (subst (λ b. FoldsTo (Visits g) p (cond (not b) (e ∷ found rest) (found rest)) last) (sym there) (q, v, h)))
