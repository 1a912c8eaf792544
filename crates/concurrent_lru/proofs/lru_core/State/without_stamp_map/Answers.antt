use Rattle.std.proofs.Common.{sym, subst}
use Rattle.concurrent_lru.specs.Cache.{IsLawful}
use Rattle.concurrent_lru.proofs.Steps.EmptyCache.{empty_lawful}
use Rattle.concurrent_lru.proofs.lru_core.State.without_stamp_map.Goals as goal

pub invariant_of-result : goal.invariant_of-result
invariant_of-result g c = record {
  lawful = subst (IsLawful g.K.PartialEq.eq) (λ j. record { capacity = c.args.capacity; most_pins = c.args.most_pins; next = c.args.first_stamp; idle = sym c.without_stamp_map.ensures.idle j; held = sym c.without_stamp_map.ensures.held j }) (empty_lawful g.K.PartialEq.eq c.args.capacity c.args.most_pins c.args.first_stamp);
  pins_above = c.requires.pinned;
}
