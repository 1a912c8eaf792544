use Rattle.std.proofs.Common.{rules, ◌≡◌, ◌+◌, ◌%◌, ◌<◌, List, [], ◌∷◌, ◌++◌, map, length, cond, sym, ap, ◌∙◌, subst, arith, vec_len, vec_capacity, append_assoc, append-nil}
use Rattle.std.proofs.lemmas.List.{map_push, length_push, nil_from_length}
use Rattle.std.specs.List.{AllByRecursion, AllZip}
use Rattle.std.specs.Vec.Iter.{into_iter_items}
use Rattle.concurrent_lru.specs.Results.{IsCharged, request_of, outcome_of}
use Rattle.concurrent_lru.specs.Sharded.{AreLawful, key_number, shard_of}
use Rattle.concurrent_lru.specs.Parts.{StandsAt, RunsApart}
use Rattle.concurrent_lru.specs.ShardSteps.{request_at_shard, shard_of_step, step_at_shard, outcome_at_shard, IsShardAnswerTo}
use Rattle.concurrent_lru.proofs.Runs.CutAndJoined.{room_for}
use Rattle.concurrent_lru.proofs.SideBySide.OneOfMany.{AllZip-push, apart-nothing, apart-push}
use Rattle.concurrent_lru.proofs.shards.Shards.run.Goals as goal

-- where no step is left, all were taken
all_taken : {X : Type 0} (taken left all : List X) → taken ++ left ≡ all → length left ≡ 0 → taken ≡ all
all_taken taken left all parts none = sym (append-nil taken) ∙ subst (λ ys. taken ++ ys ≡ all) (nil_from_length left none) parts

pub loop-step-init : goal.loop-step-init
loop-step-init g c =
    let told-none : c.reserve.new.self.items ≡ [] = search rules in
    record {
      parts = search rules;
      left = search rules;
      charged = search rules;
      run = subst (λ xs. RunsApart g.K.PartialEq.eq c.args.self.now [] (map outcome_at_shard xs) c.args.self.now) (sym told-none) (apart-nothing g.K.PartialEq.eq c.args.self.now);
      kinds = subst (λ xs. AllZip IsShardAnswerTo [] xs) (sym told-none) tt;
      lawful = subst (AreLawful g.K.PartialEq.eq) c.self.view_is c.self.invariant.1;
      told = search rules;
      room = search rules;
    }

pub loop-step-preserved : goal.loop-step-preserved
loop-step-preserved g c =
    let at = c.loop-step in
    let x = c.in-Some.step in
    let rest = into_iter_items c.next.new.self in
    let all = at.answers.items ++ c.step-answer.result ∷ [] in
    let number = key_number g.S.BuildHasher g.S.Hasher.Hasher g.K.Hash.hash_input in
    let route = shard_of {V = g.row.V.Denot} number c.args.self.now in
    let ask = request_at_shard {K = g.row.K.Denot} {V = g.row.V.Denot} route in
    let tell = outcome_at_shard {K = g.row.K.Denot} {V = g.row.V.Denot} in
    let steps : into_iter_items at.step-iterator ≡ x ∷ rest = c.in-Some.ensures.steps.0 in
    let parts : at.yielded ++ x ∷ rest ≡ c.args.steps.items = subst (λ ys. at.yielded ++ ys ≡ c.args.steps.items) steps at.invariant.parts in
    let fits : vec_len at.answers < vec_capacity at.answers = room_for (vec_len at.answers) (vec_capacity at.answers) at.yielded rest c.args.steps.items x parts at.invariant.told at.invariant.room in
    let ok = c.push-kept.ensures.succeeds fits in
    let items : c.push-kept.new.self.items ≡ all = c.push-kept.ensures.items ∙ ap (λ b. cond b all at.answers.items) ok in
    let charged : AllByRecursion IsCharged (map request_of (map step_at_shard (x ∷ rest))) = subst (λ ys. AllByRecursion IsCharged (map request_of (map step_at_shard ys))) steps at.invariant.charged in
    -- the hasher and the number of shards are still those of the start, so the route is too
    let counted : c.step-answer.result.0 ≡ shard_of_step (λ k. number at.self.hasher k % length c.args.self.now.caches) x =
    subst (λ n. c.step-answer.result.0 ≡ shard_of_step (λ k. number at.self.hasher k % n) x) at.invariant.run.count c.step-answer.ensures.shard in
    let here : c.step-answer.result.0 ≡ (ask x).0 =
    subst (λ h. c.step-answer.result.0 ≡ shard_of_step (λ k. number h k % length c.args.self.now.caches) x) at.invariant.run.hasher counted in
    let stands : StandsAt g.K.PartialEq.eq at.self (ask x).0 (ask x).1 (outcome_of c.step-answer.result.1) c.step-answer.new.self =
    subst (λ i. StandsAt g.K.PartialEq.eq at.self i (request_of (step_at_shard x)) (outcome_of c.step-answer.result.1) c.step-answer.new.self) here c.step-answer.ensures.step in
    let rs = map_push ask at.yielded x in
    let os = ap (map tell) items ∙ map_push tell at.answers.items c.step-answer.result in
    record {
      parts = append_assoc at.yielded (x ∷ []) _ ∙ parts;
      left = let was = at.invariant.left in let gone = c.in-Some.ensures.steps.1 in let short = ap length steps in omega arith;
      charged = charged.1;
      run = rw (rs, os) (apart-push g.K.PartialEq.eq c.args.self.now at.self c.step-answer.new.self (map ask at.yielded) (map tell at.answers.items) (ask x) (tell c.step-answer.result) at.invariant.run here stands);
      kinds = subst (AllZip IsShardAnswerTo (at.yielded ++ x ∷ [])) (sym items) (AllZip-push IsShardAnswerTo at.yielded at.answers.items x c.step-answer.result at.invariant.kinds c.step-answer.ensures.kind);
      lawful = c.step-answer.ensures.lawful;
      told = c.push-kept.ensures.len ∙ ap (λ b. cond b (vec_len at.answers + 1) (vec_len at.answers)) ok ∙ ap (λ n. n + 1) at.invariant.told ∙ sym (length_push at.yielded x);
      room = omega (arith, at.invariant.room, c.push-kept.ensures.capacity);
    }

pub returns-clause-run : goal.returns-clause-run
returns-clause-run g c =
    let at = c.loop-step in
    let ask = request_at_shard {K = g.row.K.Denot} {V = g.row.V.Denot} (shard_of (key_number g.S.BuildHasher g.S.Hasher.Hasher g.K.Hash.hash_input) c.args.self.now) in
    subst (λ ss. RunsApart g.K.PartialEq.eq c.args.self.now (map ask ss) (map outcome_at_shard at.answers.items) at.self)
    (all_taken at.yielded (into_iter_items at.step-iterator) c.args.steps.items at.invariant.parts (sym at.invariant.left ∙ c.in-None.ensures.steps.0)) at.invariant.run

pub returns-clause-kinds : goal.returns-clause-kinds
returns-clause-kinds g c =
    let at = c.loop-step in
    subst (λ ss. AllZip IsShardAnswerTo ss at.answers.items)
    (all_taken at.yielded (into_iter_items at.step-iterator) c.args.steps.items at.invariant.parts (sym at.invariant.left ∙ c.in-None.ensures.steps.0)) at.invariant.kinds
