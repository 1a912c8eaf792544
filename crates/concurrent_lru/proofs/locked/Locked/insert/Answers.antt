use Rattle.std.proofs.Common.{◌≡◌, ap, refl, subst, sym}
use Rattle.std.specs.Arc.{arc_value}
use Rattle.concurrent_lru.specs.CountedCalls.{replaced}
use Rattle.concurrent_lru.specs.Inserts.{Replaces}
use Rattle.concurrent_lru.specs.Ready.{ValuesFit}
use Rattle.concurrent_lru.proofs.AddedUp.CountsOfSteps.{can_evict}
use Rattle.concurrent_lru.proofs.AddedUp.CountsOfInserts.{CanInsert, can_insert, soundly_refused, soundly_replaced, told_replaced}
use Rattle.concurrent_lru.proofs.Steps.ValuesInserted.{insert_kept}
use Rattle.concurrent_lru.proofs.locked.Locked.insert.Goals.{In-Ok}
use Rattle.concurrent_lru.proofs.locked.Locked.insert.Goals as goal

pub invariant_of-self : goal.invariant_of-self
invariant_of-self g c = record {
  counted = soundly_refused {E = g.K.PartialEq.eq} c.self.inside.state.cache c.self.inside.state.cache c.self.inside.counts c.refuse.new.self c.self.invariant.counted refl c.refuse.ensures;
  kept = c.self.invariant.kept;
}

pub invariant_of-self-in-Err : goal.invariant_of-self-in-Err
invariant_of-self-in-Err g c =
    let same = ap (λ x. x.cache) c.in-Err.ensures.same in
    record {
      counted = soundly_refused {E = g.K.PartialEq.eq} c.self.inside.state.cache c.insert_at.new.self.cache c.self.inside.counts c.refuse-in-Err.new.self c.self.invariant.counted same c.refuse-in-Err.ensures;
      kept = subst (ValuesFit g.F.Fit.fits) (sym same) c.self.invariant.kept;
    }

-- what the counts allow before the code counts the insertion, and what they owe after it
can : (g : _) (c : In-Ok g) → CanInsert c.self.inside.state.cache c.self.inside.counts c.args.charge c.in-Ok.inserted.0.replaced c.in-Ok.inserted.0.evicted c.insert_at.new.self.cache
can g c =
    let i = c.in-Ok.inserted.0 in
    can_insert {E = g.K.PartialEq.eq} c.self.inside.state.cache c.insert_at.new.self.cache c.self.inside.counts c.args.key.now c.args.charge (arc_value c.args.stored) i.stamp i.replaced i.evicted g.met.K.Eq.laws c.self.invariant.counted c.insert_at.ensures.lawful c.in-Ok.ensures.step

pub insert-requires : goal.insert-requires
insert-requires g c = let can = can g (goal.at.insert-requires g c).In-Ok in record { entries = can.entries; charge = can.charge_fits }

pub evict-requires : goal.evict-requires
evict-requires g c = can_evict (can g (goal.at.evict-requires g c).In-Ok).owes c.insert.ensures c.len.ensures c.total.ensures.step.0

pub invariant_of-self-2 : goal.invariant_of-self-2
invariant_of-self-2 g c =
    let i = c.in-Ok.inserted.0 in
    let owes = (can g (goal.at.invariant_of-self-2 g c).In-Ok).owes in
    record {
      counted = soundly_replaced {E = g.K.PartialEq.eq} c.insert_at.new.self.cache c.self.inside.counts c.evict.new.self c.args.charge i.replaced i.evicted c.insert_at.ensures.lawful owes
          (told_replaced c.self.inside.counts c.args.charge i.replaced i.evicted owes c.insert.ensures c.evict.ensures c.len.ensures c.total.ensures.step.0);
      kept = insert_kept g.K.PartialEq.eq g.F.Fit.fits c.self.inside.state.cache c.insert_at.new.self.cache c.args.key.now c.args.charge (arc_value c.args.stored) _ _ _ g.met.K.Eq.laws g.met.F.Fit.equal_keys c.self.invariant.counted.lawful c.insert_at.ensures.lawful c.requires.charged c.requires.fits c.in-Ok.ensures.step c.self.invariant.kept;
    }

pub returns-clause-step : goal.returns-clause-step
returns-clause-step g c = rw (c.of-2.ensures, c.of-pin.ensures) (subst (λ x. Replaces g.K.PartialEq.eq x.cache c.args.key.now c.args.charge (arc_value c.args.stored) c.in-Ok.inserted.0.stamp c.in-Ok.inserted.0.replaced c.in-Ok.inserted.0.evicted c.insert_at.new.self.cache) c.self.view_is c.in-Ok.ensures.step)

pub returns-clause-inserted : goal.returns-clause-inserted
returns-clause-inserted g c =
    let i = c.in-Ok.inserted.0 in
    let owes = (can g (goal.at.returns-clause-inserted g c).In-Ok).owes in
    rw c.of-2.ensures (subst (λ x. c.evict.new.self ≡ replaced i.replaced i.evicted c.args.charge x.counts) c.self.view_is
    (told_replaced c.self.inside.counts c.args.charge i.replaced i.evicted owes c.insert.ensures c.evict.ensures c.len.ensures c.total.ensures.step.0))
