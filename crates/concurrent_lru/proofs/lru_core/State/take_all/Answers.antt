use Rattle.std.proofs.Common.{◌≡◌, [], ◌++◌, ◌+◌, length, sym, ap, ◌∙◌, subst}
use Rattle.concurrent_lru.specs.Cache.{IsLawful}
use Rattle.concurrent_lru.specs.Entries.{cache_with}
use Rattle.concurrent_lru.specs.TakeAll.{TakesHeld, emptied}
use Rattle.concurrent_lru.proofs.Steps.Prune.{prunes}
use Rattle.concurrent_lru.proofs.Steps.EmptyCache.{empty_lawful}
use Rattle.concurrent_lru.proofs.lru_core.State.take_all.Goals as goal
use Rattle.concurrent_lru.proofs.lru_core.State.take_all.Goals.{After-settle-idle, After-take_each_held-held}

-- the idle entries left, and the held ones are as they were
idle_left : (g : _) (c : After-settle-idle g) → (c.settle-idle.result ≡ c.self.inside.table.idle) × (cache_with c.self.inside.capacity c.self.inside.most_pins c.self.inside.next c.settle-idle.new.self ≡ record (cache_with c.self.inside.capacity c.self.inside.most_pins c.self.inside.next c.self.inside.table) { idle = [] })
idle_left g c = prunes c.self.inside.table c.settle-idle.new.self c.settle-idle.result c.self.invariant.lawful c.settle-idle.ensures.held c.settle-idle.ensures.front

pub take_each_held-held-requires : goal.take_each_held-held-requires
take_each_held-held-requires g c = ap (λ x. x.idle) (idle_left g (goal.at.take_each_held-held-requires g c).After-settle-idle).1

-- and the held ones left
all_left : (g : _) (c : After-take_each_held-held g) → cache_with c.self.inside.capacity c.self.inside.most_pins c.self.inside.next c.take_each_held-held.new.self ≡ emptied (cache_with c.self.inside.capacity c.self.inside.most_pins c.self.inside.next c.self.inside.table)
all_left g c = λ j. record { capacity = c.self.inside.capacity; most_pins = c.self.inside.most_pins; next = c.self.inside.next; idle = c.take_each_held-held.ensures.idle j; held = c.take_each_held-held.ensures.held j }

is_lawful : (g : _) (c : After-take_each_held-held g) → IsLawful g.K.PartialEq.eq (cache_with c.self.inside.capacity c.self.inside.most_pins c.self.inside.next c.take_each_held-held.new.self)
is_lawful g c = subst (IsLawful g.K.PartialEq.eq) (sym (all_left g c)) (empty_lawful g.K.PartialEq.eq c.self.inside.capacity c.self.inside.most_pins c.self.inside.next)

pub invariant_of-self : goal.invariant_of-self
invariant_of-self g c = record { lawful = is_lawful g (goal.at.invariant_of-self g c).After-take_each_held-held; pins_above = c.self.invariant.pins_above }

pub returns : goal.returns
returns g c = record {
  taken = record {
    others = c.take_each_held-held.result;
    parts = c.followed_by.ensures ∙ ap (λ xs. xs ++ c.take_each_held-held.result) ((idle_left g (goal.at.returns g c).After-settle-idle).0 ∙ ap (λ x. x.cache.idle) c.self.view_is);
    held = subst (λ m. TakesHeld m c.take_each_held-held.result) (c.settle-idle.ensures.held ∙ ap (λ x. x.cache.held) c.self.view_is) c.take_each_held-held.ensures.taken;
  };
  left = all_left g (goal.at.returns g c).After-take_each_held-held ∙ ap (λ x. emptied x.cache) c.self.view_is;
  work = c.take_each_held-held.ensures.work ∙ c.settle-idle.ensures.work ∙ ap (λ xs. c.self.inside.table.work + length xs) (idle_left g (goal.at.returns g c).After-settle-idle).0 ∙ ap (λ x. x.work + length x.cache.idle) c.self.view_is;
  lawful = is_lawful g (goal.at.returns g c).After-take_each_held-held;
}
