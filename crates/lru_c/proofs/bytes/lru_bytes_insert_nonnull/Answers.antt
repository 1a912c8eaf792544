use Rattle.std.proofs.Common.{ap, is_ok, refl}
use Rattle.lru_c.specs.BytesCalls.{bytes_cache, Inserts}
use Rattle.lru_c.specs.Chains.{bytes_in}
use Rattle.lru_c.specs.declared.any_cache.AnyCache.TheVariants as cache
use Rattle.lru_c.proofs.Opened.{into_kind}
use Rattle.lru_c.proofs.bytes.lru_bytes_insert_nonnull.Goals as goal

pub returns-in-Ok-bytes_cache : goal.returns-in-Ok-bytes_cache
returns-in-Ok-bytes_cache c =
    into_kind bytes_cache cache.Bytes (λ _. refl) bytes_in (Inserts c.args.strict c.args.key.now c.args.hash c.args.charge c.args.value) _ _ _ _ _ c.in-Ok.ensures.chain.0 c.in-Ok.ensures.chain.1 (c.empty_chain.follows.holds _ (ap is_ok c.in-Ok.is))
    c.in-Ok-bytes_cache.ensures.cache (c.bytes_cache.follows.holds _ (ap is_ok c.in-Ok-bytes_cache.is)) c.take_both_bytes.ensures.chain c.take_both_bytes.ensures.answer (c.insert.result.1.0, c.insert.result.1.1, refl, c.insert.ensures.tells, c.insert.ensures.counts)
