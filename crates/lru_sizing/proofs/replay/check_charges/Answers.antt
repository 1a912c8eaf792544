use Rattle.std.proofs.Common.{◌≡◌, ◌<◌, inl, inr, take, sym, ap, ◌∙◌, subst, arith}
use Rattle.std.specs.Borrow.{Bor}
use Rattle.std.specs.Option.{option_copied}
use Rattle.std.proofs.lemmas.List.{take_all}
use Rattle.concurrent_lru.specs.Uses.{charge_in}
use Rattle.concurrent_lru.proofs.Runs.ChargeOfKey.{charge_agrees}
use Rattle.lru_sizing.proofs.Marks.{AreCharged}
use Rattle.lru_sizing.proofs.Passes.{one_charge, seen_early, seen_two, seen_on}
use Rattle.lru_sizing.proofs.replay.check_charges.Goals as goal
use Rattle.lru_sizing.proofs.replay.check_charges.Goals.{in-Some+else-trace-last, in_default}

-- the key's last use is at the place that was found
pub offset_bounds-trace-last : goal.offset_bounds-trace-last
offset_bounds-trace-last g c =
    let q : Bor g.row.K.Denot = record { ref_ptr = c.args.trace.ref_ptr; now = c.index-trace-place.result.0 } in
    let early : c.in-Some.field-0.now < c.loop-place.place = seen_early g.K.PartialEq.eq g.met.K.Eq.laws c.args.trace.now c.loop-place.place c.index-trace-place.result c.loop-place-test.true (sym c.index-trace-place.is) _ c.loop-place.invariant _ (sym (c.loop-place.invariant.places q) ∙ sym c.in-Some.ensures.value) in
    omega (arith, early, c.loop-place-test.true)

pub bounds-trace-last : goal.bounds-trace-last
bounds-trace-last g c =
    let q : Bor g.row.K.Denot = record { ref_ptr = c.args.trace.ref_ptr; now = c.index-trace-place.result.0 } in
    let early : c.in-Some.field-0.now < c.loop-place.place = seen_early g.K.PartialEq.eq g.met.K.Eq.laws c.args.trace.now c.loop-place.place c.index-trace-place.result c.loop-place-test.true (sym c.index-trace-place.is) _ c.loop-place.invariant _ (sym (c.loop-place.invariant.places q) ∙ sym c.in-Some.ensures.value) in
    omega (arith, early, c.loop-place-test.true)

pub bounds-trace-last-in-Some : goal.bounds-trace-last-in-Some
bounds-trace-last-in-Some g c =
    let q : Bor g.row.K.Denot = record { ref_ptr = c.args.trace.ref_ptr; now = c.index-trace-place.result.0 } in
    let early : c.in-Some.field-0.now < c.loop-place.place = seen_early g.K.PartialEq.eq g.met.K.Eq.laws c.args.trace.now c.loop-place.place c.index-trace-place.result c.loop-place-test.true (sym c.index-trace-place.is) _ c.loop-place.invariant _ (sym (c.loop-place.invariant.places q) ∙ sym c.in-Some.ensures.value) in
    omega (arith, early, c.loop-place-test.true)

pub returns-then-trace-last-clause-err : goal.returns-then-trace-last-clause-err
returns-then-trace-last-clause-err g c =
    let q : Bor g.row.K.Denot = record { ref_ptr = c.args.trace.ref_ptr; now = c.index-trace-place.result.0 } in
    seen_two g.K.PartialEq.eq g.met.K.Eq.laws c.args.trace.now c.loop-place.place c.index-trace-place.result c.loop-place-test.true (sym c.index-trace-place.is) _ c.loop-place.invariant _ (sym (c.loop-place.invariant.places q) ∙ sym c.in-Some.ensures.value)
    c.index-trace-last.result (sym c.index-trace-last.is) (λ e. c.if-trace-last.true (ap (λ w. w.1) (sym c.index-trace-last.is) ∙ e))

pub loop-place-preserved : goal.loop-place-preserved
loop-place-preserved g c =
    let q : Bor g.row.K.Denot = record { ref_ptr = c.args.trace.ref_ptr; now = c.index-trace-place.result.0 } in
    seen_on g.K.PartialEq.eq g.met.K.Eq.laws c.args.trace.now c.loop-place.place c.index-trace-place.result c.loop-place-test.true (sym c.index-trace-place.is) _ _ c.loop-place.invariant (λ r. c.in_ok-insert.ensures.updates.0 r)
    (elim c.match-get.branch [
      | in-Some+else-trace-last w ↦ inl (w.in-Some.field-0.now, w.index-trace-last.result, sym (c.loop-place.invariant.places q) ∙ sym w.in-Some.ensures.value, sym w.index-trace-last.is, ap (λ v. v.1) w.index-trace-last.is ∙ w.if-trace-last.false)
      | in_default w ↦ inr (sym (c.loop-place.invariant.places q) ∙ sym c.get.ensures.value ∙ ap option_copied w.in_default.is)
    ])

pub returns-clause-ok : goal.returns-clause-ok
returns-clause-ok g c =
    let whole : take c.loop-place.place c.args.trace.now ≡ c.args.trace.now = take_all c.loop-place.place c.args.trace.now c.loop-place-test.false in
    one_charge g.K.PartialEq.eq g.met.K.Eq.laws (charge_in g.K.PartialEq.eq c.args.trace.now) (charge_agrees g.K.PartialEq.eq g.met.K.Eq.laws c.args.trace.now) c.args.trace.now
    (subst (AreCharged g.K.PartialEq.eq g.met.K.Eq.laws (charge_in g.K.PartialEq.eq c.args.trace.now)) whole c.loop-place.invariant.charged)
