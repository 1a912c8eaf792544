use Rattle.std.proofs.Common.{◌≡◌, [], ◌∷◌, ◌++◌, length, map, get_or, take, None, rules, sym, ap, ◌∙◌, arith}
use Rattle.lru_sizing.specs.Estimates.{scaled_weight, scaled}
use Rattle.lru_sizing.proofs.Estimates.{mapped, scaled_long, scaled_more, scaled_all}
use Rattle.lru_sizing.proofs.estimate.scale_weights.Goals as goal

pub loop-place-preserved : goal.loop-place-preserved
loop-place-preserved g c =
    let one = mapped (λ w. scaled_weight c.args.sample.one_in (get_or c.args.sampled.now c.loop-place.place c.index-sampled-place.result).1 w) (get_or c.args.weights.now c.loop-place.place None) c.map.result _ (λ x y k. search rules) c.map.ensures.cases in
    c.in_ok-push.ensures.items ∙ ap (λ os. os ++ c.map.result ∷ []) c.loop-place.invariant ∙ ap (λ o. take c.loop-place.place (scaled c.args.sample.one_in (map (λ u. u.1) c.args.sampled.now) c.args.weights.now) ++ o ∷ []) one
    ∙ sym (scaled_more c.args.sample.one_in c.args.sampled.now c.args.weights.now c.requires c.loop-place.place c.index-sampled-place.result c.loop-place-test.true)

pub returns-clause-scaled : goal.returns-clause-scaled
returns-clause-scaled g c = c.loop-place.invariant ∙ scaled_all c.args.sample.one_in c.args.sampled.now c.args.weights.now c.requires c.loop-place.place c.loop-place-test.false

pub returns-clause-len : goal.returns-clause-len
returns-clause-len g c =
    let long : length c.loop-place.scaled.items ≡ length c.args.weights.now =
    ap length (c.loop-place.invariant ∙ scaled_all c.args.sample.one_in c.args.sampled.now c.args.weights.now c.requires c.loop-place.place c.loop-place-test.false) ∙ scaled_long c.args.sample.one_in c.args.sampled.now c.args.weights.now c.requires in
    omega (arith, long)
