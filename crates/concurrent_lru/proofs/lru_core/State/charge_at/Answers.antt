use Rattle.std.proofs.Common.{refl, sym, ap, ◌∙◌, inr}
use Rattle.concurrent_lru.specs.Cache.{held_at}
use Rattle.concurrent_lru.proofs.Entries.EntryAtPlace.{held_is}
use Rattle.concurrent_lru.proofs.lru_core.State.charge_at.Goals as goal

pub returns-in-Some : goal.returns-in-Some
returns-in-Some g c = λ e at. ap (λ h. h.charge) (sym (held_is c.in-Some.ensures.node.entry c.self.invariant.lawful c.args.spot.now.stamp e c.in-Some.ensures.found (ap (λ k. held_at k.cache c.args.spot.now.stamp) c.self.view_is ∙ at)).1)

pub returns-in-None : goal.returns-in-None
returns-in-None g c = λ e at. absurd (c.in-None.ensures.found e.key e.charge (inr (e, ap (λ k. held_at k.cache c.args.spot.now.stamp) c.self.view_is ∙ at, refl, refl)))
