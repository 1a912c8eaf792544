use Rattle.std.proofs.Common.{ap, subst, sym, ◌∙◌}
use Rattle.std.proofs.lemmas.Bool.{true≢false}
use Rattle.concurrent_lru.specs.Steps.{IsAbsent}
use Rattle.concurrent_lru.proofs.lru_core.State.lacks_entry.Goals as goal

pub returns-in-Ok-clause-no : goal.returns-in-Ok-clause-no
returns-in-Ok-clause-no g c = λ _ absent.
    let found = c.in-Ok.ensures.found in
    true≢false (sym found.same_key ∙ subst (λ k. IsAbsent g.K.PartialEq.eq k c.args.key.now) (sym (ap (λ x. x.cache) c.self.view_is)) absent found.stamp found.key found.charge found.entry)

pub returns-in-Err-clause-yes : goal.returns-in-Err-clause-yes
returns-in-Err-clause-yes g c = λ _. subst (λ k. IsAbsent g.K.PartialEq.eq k c.args.key.now) (ap (λ x. x.cache) c.self.view_is) c.in-Err.ensures.absent
