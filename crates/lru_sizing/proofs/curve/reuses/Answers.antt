use Rattle.std.proofs.Common.{ℕ, [], ◌∷◌, ◌++◌, get_or, ap, sym, ◌∙◌, rules}
use Rattle.std.proofs.lemmas.List.Sorted.{IsNonDecreasingBy-from_sort_by_key}
use Rattle.lru_sizing.proofs.Curves.{reused_first, reused_again}
use Rattle.lru_sizing.proofs.curve.reuses.Goals as goal
use Rattle.lru_sizing.proofs.curve.reuses.Goals.{in-Some+in_ok-push, in_default}

pub loop-place-preserved : goal.loop-place-preserved
loop-place-preserved g c =
    elim c.match-weight.branch [
      | in-Some+in_ok-push w ↦
          ap (λ v. v.items) w.reused-is ∙ w.in_ok-push.ensures.items ∙ ap (λ ps. ps ++ (w.in-Some.weight, (get_or c.args.trace.now c.loop-place.place w.index-trace-place.result).1) ∷ []) c.loop-place.invariant
          ∙ sym (reused_again c.args.trace.now c.args.weights.now c.loop-place.place c.requires c.loop-place-test.true w.index-trace-place.result w.in-Some.weight w.in-Some.is)
      | in_default w ↦
          ap (λ v. v.items) w.reused-is ∙ c.loop-place.invariant
          ∙ sym (reused_first c.args.trace.now c.args.weights.now c.loop-place.place c.requires c.loop-place-test.true w.in_default.is)
    ]

pub returns-clause-rising : goal.returns-clause-rising
returns-clause-rising g c = IsNonDecreasingBy-from_sort_by_key (λ (p : ℕ × ℕ). p.0) _ c.sort_unstable_by_key.ensures.sorted (λ a r q k. search rules)
