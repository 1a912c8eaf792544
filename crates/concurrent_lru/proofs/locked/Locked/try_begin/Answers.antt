use Rattle.std.proofs.Common.{ℕ, Bool, true, false, refl, subst}
use Rattle.concurrent_lru.specs.Cache.{Cache}
use Rattle.concurrent_lru.specs.Debts.{outcome_of_entered, begin_under, NeedsNoWait}
use Rattle.concurrent_lru.specs.Makings.{IsBeingMade}
use Rattle.concurrent_lru.specs.Runs.{Stands}
use Rattle.concurrent_lru.specs.declared.locked.pins.Entered.{Entered}
use Rattle.concurrent_lru.specs.declared.locked.pins.Entered.TheVariants as enter
use Rattle.concurrent_lru.proofs.locked.Locked.try_begin.Goals as goal

module _ {K V F : Type 0} (E : K → K → Bool) (old new : Cache K V) (k : K) (charge : ℕ) where
  -- a begin waits only for a value that is being made
  at_once : (strict : Bool) (e : Entered K V F) → Stands E old (begin_under strict k charge) (outcome_of_entered e) new → (IsBeingMade E old k → ⊥) → NeedsNoWait e
  at_once strict (enter.Make m out) h free = tt
  at_once true (enter.Wait w) h free = free (w.stamp, h.entry, h.holds, h.found, h.same_key)
  at_once false (enter.Wait w) h free = free (w.stamp, h.entry, h.holds, h.found, h.same_key)
  at_once strict (enter.Hit p) h free = tt

pub returns-then-is_being_made-clause-step : goal.returns-then-is_being_made-clause-step
returns-then-is_being_made-clause-step g c = λ free. absurd (free (subst (λ x. IsBeingMade g.K.PartialEq.eq x.cache c.args.key.now) c.self.view_is (c.if-is_being_made.ensures.yes refl)))

pub returns-then-is_being_made-clause-counted : goal.returns-then-is_being_made-clause-counted
returns-then-is_being_made-clause-counted g c = λ free. absurd (free (subst (λ x. IsBeingMade g.K.PartialEq.eq x.cache c.args.key.now) c.self.view_is (c.if-is_being_made.ensures.yes refl)))

pub returns-in_err-entered-clause-busy : goal.returns-in_err-entered-clause-busy
returns-in_err-entered-clause-busy g c = λ made. absurd (subst (λ x. IsBeingMade g.K.PartialEq.eq x.cache c.args.key.now → ⊥) c.self.view_is (c.if-is_being_made.ensures.no refl) made)

pub returns-clause-busy : goal.returns-clause-busy
returns-clause-busy g c = λ made. absurd (subst (λ x. IsBeingMade g.K.PartialEq.eq x.cache c.args.key.now → ⊥) c.self.view_is (c.if-is_being_made.ensures.no refl) made)

pub returns-clause-at_once : goal.returns-clause-at_once
returns-clause-at_once g c =
    at_once g.K.PartialEq.eq c.args.self.now.cache c.begin.new.self.cache c.args.key.now c.args.charge c.args.self.now.strict c.in_ok-entered.entered c.in_ok-entered.ensures.step
    (subst (λ x. IsBeingMade g.K.PartialEq.eq x.cache c.args.key.now → ⊥) c.self.view_is (c.if-is_being_made.ensures.no refl))
