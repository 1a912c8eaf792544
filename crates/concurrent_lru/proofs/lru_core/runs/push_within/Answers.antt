use Rattle.std.proofs.Common.{◌+◌, [], ◌∷◌, ◌++◌, cond, ap, ◌∙◌, vec_len}
use Rattle.concurrent_lru.proofs.lru_core.runs.push_within.Goals as goal

pub returns-clause-items : goal.returns-clause-items
returns-clause-items g c = c.push-pushed.ensures.items ∙ ap (λ b. cond b (c.args.items.now.items ++ c.args.item ∷ []) c.args.items.now.items) (c.push-pushed.ensures.succeeds c.requires)

pub returns-clause-len : goal.returns-clause-len
returns-clause-len g c = c.push-pushed.ensures.len ∙ ap (λ b. cond b (vec_len c.args.items.now + 1) (vec_len c.args.items.now)) (c.push-pushed.ensures.succeeds c.requires)
