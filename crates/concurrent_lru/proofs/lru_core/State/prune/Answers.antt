use Rattle.std.proofs.Common.{◌≡◌, [], ap, subst, ◌+◌, length, ◌∙◌}
use Rattle.concurrent_lru.specs.Entries.{cache_with}
use Rattle.concurrent_lru.proofs.Steps.LawfulAfterLeaving.{prunes_lawful}
use Rattle.concurrent_lru.proofs.Steps.Prune.{prunes}
use Rattle.concurrent_lru.proofs.lru_core.State.prune.Goals as goal

pub invariant_of-self : goal.invariant_of-self
invariant_of-self g c = record {
  lawful = prunes_lawful _ _ _ c.self.invariant.lawful (prunes c.self.inside.table c.settle.new.self c.settle.result c.self.invariant.lawful c.settle.ensures.held c.settle.ensures.front).1;
  pins_above = c.self.invariant.pins_above;
}

pub returns : goal.returns
returns g c =
    let step = prunes c.self.inside.table c.settle.new.self c.settle.result c.self.invariant.lawful c.settle.ensures.held c.settle.ensures.front in
    record {
      step = subst (λ old. (c.settle.result ≡ old.idle) × (cache_with c.self.inside.capacity c.self.inside.most_pins c.self.inside.next c.settle.new.self ≡ record old { idle = [] })) (ap (λ x. x.cache) c.self.view_is) step;
      work = c.settle.ensures.work ∙ ap (λ x. x.work + length c.settle.result) c.self.view_is;
      lawful = prunes_lawful _ _ _ c.self.invariant.lawful step.1;
    }
