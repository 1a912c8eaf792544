use Rattle.std.proofs.Common.{inr, refl, subst}
use Rattle.concurrent_lru.specs.Cache.{LacksStamp}
use Rattle.lru_c.proofs.words.cache.write_key.Goals as goal

pub returns-in-None-clause-told : goal.returns-in-None-clause-told
returns-in-None-clause-told c = inr (refl, subst (λ s. LacksStamp c.args.state.now.cache s) c.spot.ensures c.in-None.ensures)
