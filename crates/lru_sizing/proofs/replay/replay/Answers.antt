use Rattle.std.proofs.Common.{◌≡◌, ◌+◌, ◌<◌, ◌≤◌, ◌^◌, [], ◌∷◌, ◌++◌, length, take, refl, sym, ap, ◌∙◌, subst, arith}
use Rattle.std.proofs.lemmas.List.{take_all, take_more}
use Rattle.concurrent_lru.specs.Cache.{empty_cache, most_pins_by_default}
use Rattle.concurrent_lru.specs.Request as ask
use Rattle.concurrent_lru.specs.Runs.{Refuses}
use Rattle.lru_sizing.specs.Replays.{IsReplay}
use Rattle.lru_sizing.proofs.Replays.{replay_on, after_uses, use_charge, overflows_then, answers_by_weight}
use Rattle.lru_sizing.proofs.replay.replay.Goals as goal

pub use_once-requires-clause-none_held : goal.use_once-requires-clause-none_held
use_once-requires-clause-none_held g c =
    (after_uses g.K.PartialEq.eq g.met.K.Eq.laws c.args.trace.now c.in_ok-check_charges.ensures.ok c.requires.charged (empty_cache c.args.capacity most_pins_by_default 0) c.loop-place.cache.cache c.loop-place.place c.loop-place.hits.items (refl, refl) (omega arith) c.loop-place.invariant.0).held

pub returns-in-Err-Overflow-clause-err : goal.returns-in-Err-Overflow-clause-err
returns-in-Err-Overflow-clause-err g c =
    let at = sym c.index-trace-place.is in
    let long : length c.args.trace.now < 2 ^ 64 = omega arith in
    let next : take (c.loop-place.place + 1) c.args.trace.now ≡ take c.loop-place.place c.args.trace.now ++ c.index-trace-place.result ∷ [] =
    take_more c.args.trace.now c.loop-place.place c.index-trace-place.result c.loop-place-test.true ∙ ap (λ v. take c.loop-place.place c.args.trace.now ++ v ∷ []) at in (
      c.loop-place-test.true,
      overflows_then g.K.PartialEq.eq g.met.K.Eq.laws c.args.trace.now c.in_ok-check_charges.ensures.ok c.requires.charged (empty_cache c.args.capacity most_pins_by_default 0) c.loop-place.cache.cache c.loop-place.place c.loop-place.hits.items c.index-trace-place.result (refl, refl) (omega arith)
          c.loop-place.invariant.0 c.loop-place.invariant.1 c.loop-place-test.true long next
          (use_charge g.K.PartialEq.eq g.met.K.Eq.laws c.args.trace.now c.in_ok-check_charges.ensures.ok c.loop-place.place c.index-trace-place.result c.loop-place-test.true at)
          (subst (λ e. Refuses g.K.PartialEq.eq c.loop-place.cache.cache (ask.begin c.index-trace-place.result.0 c.index-trace-place.result.1) e) c.in-Err-Overflow.field-0-is c.in-Err-Overflow.ensures.err),
    )

pub loop-place-preserved : goal.loop-place-preserved
loop-place-preserved g c =
    let at = sym c.index-trace-place.is in
    let next : take (c.loop-place.place + 1) c.args.trace.now ≡ take c.loop-place.place c.args.trace.now ++ c.index-trace-place.result ∷ [] =
    take_more c.args.trace.now c.loop-place.place c.index-trace-place.result c.loop-place-test.true ∙ ap (λ v. take c.loop-place.place c.args.trace.now ++ v ∷ []) at in
    let on = replay_on g.K.PartialEq.eq (empty_cache c.args.capacity most_pins_by_default 0) c.loop-place.cache.cache c.use_once.new.cache.cache (take c.loop-place.place c.args.trace.now) (c.index-trace-place.result ∷ []) c.loop-place.hits.items (c.in-Ok.hit ∷ []) c.loop-place.invariant.0 c.in-Ok.ensures.used in
    let stamps : c.loop-place.cache.cache.next ≤ c.loop-place.place = c.loop-place.invariant.1 in
    let step : c.use_once.new.cache.cache.next ≤ c.loop-place.cache.cache.next + 1 = c.use_once.ensures.stamps in (
      subst (λ us. IsReplay g.K.PartialEq.eq (empty_cache c.args.capacity most_pins_by_default 0) us c.push.new.self.items c.use_once.new.cache.cache) (sym next)
          (subst (λ bs. IsReplay g.K.PartialEq.eq (empty_cache c.args.capacity most_pins_by_default 0) (take c.loop-place.place c.args.trace.now ++ c.index-trace-place.result ∷ []) bs c.use_once.new.cache.cache) (sym c.in_ok-push-in-Ok.ensures.items) on),
      omega (arith, stamps, step),
    )

pub returns-clause-hits : goal.returns-clause-hits
returns-clause-hits g c =
    let whole : take c.loop-place.place c.args.trace.now ≡ c.args.trace.now = take_all c.loop-place.place c.args.trace.now c.loop-place-test.false in
    answers_by_weight g.K.PartialEq.eq g.met.K.Eq.laws c.args.trace.now c.in_ok-check_charges.ensures.ok c.requires.charged (empty_cache c.args.capacity most_pins_by_default 0) c.loop-place.cache.cache c.loop-place.hits.items (refl, refl) (omega arith)
    (subst (λ us. IsReplay g.K.PartialEq.eq (empty_cache c.args.capacity most_pins_by_default 0) us c.loop-place.hits.items c.loop-place.cache.cache) whole c.loop-place.invariant.0)
