-- After an insert of a value that fits its key, every ready value fits its key.
use Rattle.std.proofs.Common.{ℕ, ◌<◌, inl, inr, Bool, List, [], Ok, refl, sym, ap, ◌∙◌, subst, arith}
use Rattle.std.specs.Cmp.{IsEquivalence}
use Rattle.std.specs.FinMap as finmap
use Rattle.concurrent_lru.specs.Cache.{Cache, Idle, making, ready, IsLawful}
use Rattle.concurrent_lru.specs.Steps.{Step, ChangesPhase, held_in_phase, one_more_pin}
use Rattle.concurrent_lru.specs.Request as ask
use Rattle.concurrent_lru.specs.Reply as say
use Rattle.concurrent_lru.specs.Runs.{accepted, Stands}
use Rattle.concurrent_lru.specs.Ready.{EqualKeysFit, HasEqualKeyAt, ValuesFit}
use Rattle.concurrent_lru.specs.Inserts.{Replaces, RefusesToReplace}
use Rattle.concurrent_lru.specs.declared.refusal.Refusal.TheVariants.{Stale}
use Rattle.concurrent_lru.proofs.Entries.NodesOfSetAndAdd.{inserted_at}
use Rattle.concurrent_lru.proofs.Steps.InsertOfKey.{made, made_holds}
use Rattle.concurrent_lru.proofs.Steps.StaysLawful.{keeps_limits, outcome_lawful}
use Rattle.concurrent_lru.proofs.Steps.ReadyValues.{invalidate_kept, begin_kept, keyed_kept}

module _ {K V : Type 0} (E : K → K → Bool) where
  -- what a begin makes has the key that was asked
  begun_key : (c new : Cache K V) (k : K) (charge s : ℕ) (out : List (Idle K V)) → Step E c (ask.begin k charge) (say.make s) out new → HasEqualKeyAt E new s k
  begun_key c new k charge s out (inl m) = (m.copy, (charge, inr (made E m, (made_holds E m).at, refl, refl)), m.same_key)
  begun_key c new k charge s out (inr j) =
      let own = held_in_phase making (one_more_pin j.entry) in
      (j.entry.key, (j.entry.charge, inr (own, ap (λ x. finmap.get x.held s) j.changed ∙ inserted_at c.held s own, refl, refl)), j.same_key)

  -- a lawful cache that has a held entry allows a pin
  some_pins : (c new : Cache K V) (s : ℕ) (v : V) (out : List (Idle K V)) → IsLawful E new → ChangesPhase E c s making (ready v) out new → 0 < new.most_pins
  some_pins c new s v out l h =
      let own = held_in_phase (ready v) h.entry in
      let pins = l.pinned s own (ap (λ x. finmap.get x.held s) h.changed ∙ inserted_at c.held s own) in
      omega (arith, pins.0, pins.1)

  -- the cache between an insert's invalidate and its begin is lawful
  pub invalidated_lawful : (old new : Cache K V) (k : K) (charge : ℕ) (v : V) (s : ℕ) (replaced evicted : List (Idle K V)) → IsEquivalence E → IsLawful E old → IsLawful E new → (r : Replaces E old k charge v s replaced evicted new) → IsLawful E r.0
  invalidated_lawful old new k charge v s replaced evicted laws l last r =
      let mid = r.0 in
      let begun = r.2.0 in
      let stores : Stands E begun (ask.ready s v) (accepted say.done []) new = subst (λ c. Stands E begun (ask.ready s v) (accepted say.done []) c) (sym r.2.2.2) r.2.2.1 in
      let a = (keeps_limits K V E old mid (ask.invalidate k) (accepted say.done replaced) r.1).1 in
      let b = (keeps_limits K V E mid begun (ask.begin k charge) (accepted (say.make s) evicted) r.2.1).1 in
      let c = (keeps_limits K V E begun new (ask.ready s v) (accepted say.done []) stores).1 in
      let pins : 0 < new.most_pins = some_pins begun new s v [] last stores in
      outcome_lawful E laws old l (omega (arith, a, b, c, pins)) mid (ask.invalidate k) (accepted say.done replaced) tt r.1

  pub insert_kept : (fits : K → V → Type 0) (old new : Cache K V) (k : K) (charge : ℕ) (v : V) (s : ℕ) (replaced evicted : List (Idle K V)) → IsEquivalence E → EqualKeysFit E fits → IsLawful E old → IsLawful E new → 0 < charge → fits k v
      → Replaces E old k charge v s replaced evicted new → ValuesFit fits old → ValuesFit fits new
  insert_kept fits old new k charge v s replaced evicted laws law l last some fit r kept =
      let mid = r.0 in
      let gone : Stands E old (ask.invalidate k) (accepted say.done replaced) mid = r.1 in
      let begun = r.2.0 in
      let makes : Stands E mid (ask.begin k charge) (accepted (say.make s) evicted) begun = r.2.1 in
      let stores : Stands E begun (ask.ready s v) (accepted say.done []) new = subst (λ c. Stands E begun (ask.ready s v) (accepted say.done []) c) (sym r.2.2.2) r.2.2.1 in
      let b = (keeps_limits K V E mid begun (ask.begin k charge) (accepted (say.make s) evicted) makes).1 in
      let c = (keeps_limits K V E begun new (ask.ready s v) (accepted say.done []) stores).1 in
      let pins : 0 < new.most_pins = some_pins begun new s v [] last stores in
      let lawful : IsLawful E mid = invalidated_lawful old new k charge v s replaced evicted laws l last r in
      let begun_lawful : IsLawful E begun = outcome_lawful E laws mid lawful (omega (arith, b, c, pins)) begun (ask.begin k charge) (accepted (say.make s) evicted) some makes in
      keyed_kept E fits begun new s k v (Ok tt) laws law begun_lawful fit (begun_key mid begun k charge s evicted makes) tt (λ _. stores)
      (begin_kept E fits mid begun k charge (accepted (say.make s) evicted) makes (invalidate_kept E fits old mid k replaced gone kept))

  -- no insert is refused as stale
  pub insert_never_stale : (old new : Cache K V) (k : K) (charge : ℕ) → RefusesToReplace E old k charge Stale new → ⊥
  insert_never_stale old new k charge r = r.refuses.0
