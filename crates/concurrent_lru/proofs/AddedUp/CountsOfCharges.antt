-- Counts that add up go on adding up where a making becomes ready with another charge.
use Rattle.std.proofs.Common.{◌≡◌, ℕ, ◌+◌, ◌≤◌, Bool, true, false, List, length, Some, refl, sym, ap, ◌∙◌, arith}
use Rattle.std.specs.Option.{option_map_or}
use Rattle.concurrent_lru.specs.Cache.{Cache, Idle, Held, making, charges, held_at, sum_of, HasCapacityToCharge}
use Rattle.concurrent_lru.specs.CountedCalls.{AddUp, counted, evicted, held_charge}
use Rattle.concurrent_lru.specs.Counts.{charge_in, recharged}
use Rattle.concurrent_lru.specs.Debts.{counted_refusal, ready_with_under}
use Rattle.concurrent_lru.specs.Request as ask
use Rattle.concurrent_lru.specs.Reply as say
use Rattle.concurrent_lru.specs.Runs.{Outcome, accepted, refused, Refuses, Stands}
use Rattle.concurrent_lru.specs.Steps.{Charges, Holds}
use Rattle.concurrent_lru.specs.declared.counts.Counts.{Counts}
use Rattle.concurrent_lru.specs.declared.refusal.Refusal.{Refusal}
use Rattle.concurrent_lru.specs.declared.refusal.Refusal.TheVariants.{Memory, Overflow, Stale, Full}
use Rattle.concurrent_lru.proofs.AddedUp.CountsOfSteps.{Owes, charge_owes}
use Rattle.concurrent_lru.proofs.Steps.ChargeOfMaking.{held_within}
use Rattle.concurrent_lru.proofs.Steps.StrictSteps.{strictly_charged}

module _ {K V : Type 0} where
  -- whether the limit is strict or not, it is counted in the same way
  pub counted_charge : (strict : Bool) (c : Cache K V) (s : ℕ) (v : V) (charge : ℕ) (out : List (Idle K V)) (n : Counts) → counted c (ready_with_under strict s v charge) (accepted say.done out) n ≡ evicted out (recharged (held_charge c s) charge n)
  counted_charge true c s v charge out n = refl
  counted_charge false c s v charge out n = refl

module _ {K V : Type 0} (E : K → K → Bool) (old new : Cache K V) (s : ℕ) (v : V) (charge : ℕ) where
  -- and where a strict limit leaves room, it does the same
  pub stands_under : (strict : Bool) (o : Outcome K V) → (strict ≡ true → (e : Held K V) → Holds old s e making → HasCapacityToCharge old e.charge charge) → Stands E old (ask.ready_with s v charge) o new → Stands E old (ready_with_under strict s v charge) o new
  stands_under true o has h = strictly_charged E old new s v charge o (has refl) h
  stands_under false o has h = h

  -- a refusal that does not come of the limit is counted as it says
  pub refusal_counted : (strict : Bool) (e : Refusal) (n : Counts) → Refuses E old (ask.ready_with s v charge) e → counted_refusal e n ≡ counted old (ready_with_under strict s v charge) (refused e) n
  refusal_counted true Memory n h = absurd h
  refusal_counted true Overflow n h = refl
  refusal_counted true Stale n h = refl
  refusal_counted true Full n h = absurd h
  refusal_counted false Memory n h = absurd h
  refusal_counted false Overflow n h = refl
  refusal_counted false Stale n h = refl
  refusal_counted false Full n h = absurd h

  module _ (out : List (Idle K V)) (h : Charges E old s v charge out new) (was : ℕ) (known : (e : Held K V) → held_at old s ≡ Some e → was ≡ e.charge) (n : Counts) (a : AddUp old n) where
    was_held : was ≡ held_charge old s
    was_held = known h.entry h.holds.at ∙ sym (ap (λ e. option_map_or (λ x. x.charge) e 0) h.holds.at)

    -- the charge that the entry had is part of what was counted
    pub was_counted : was ≤ charge_in n
    was_counted =
        let own : was ≡ h.entry.charge = known h.entry h.holds.at in
        let part : h.entry.charge ≤ sum_of old = held_within old s h.entry h.holds.at in
        let sum : sum_of old + n.evicted_charge + n.removed_charge ≡ n.charge_before + n.inserted_charge = a.charge in
        omega (arith, own, part, sum)

    -- what the counts owe once the new charge is counted, and that it is counted so
    pub owes_charge : Owes new (recharged (held_charge old s) charge n) (length out) (charges out)
    owes_charge = charge_owes {E = E} old new n s v charge out a h

    pub recharged_held : (m : Counts) → m ≡ recharged was charge n → m ≡ recharged (held_charge old s) charge n
    recharged_held m is = is ∙ ap (λ w. recharged w charge n) was_held
