use Rattle.std.proofs.Common.{ap, is_ok, refl}
use Rattle.lru_c.specs.WordsCalls.{words, words_cache, Inserts}
use Rattle.lru_c.specs.Chains.{words_in}
use Rattle.lru_c.specs.declared.any_cache.AnyCache.TheVariants as cache
use Rattle.lru_c.proofs.Opened.{into_kind}
use Rattle.lru_c.proofs.words.lru_words_insert.Goals as goal

pub returns-in-Ok-words_cache : goal.returns-in-Ok-words_cache
returns-in-Ok-words_cache c =
    into_kind words_cache cache.Words (λ _. refl) words_in (Inserts c.args.strict (words c.args.first c.args.second) c.args.charge c.args.value) _ _ _ _ _ c.in-Ok.ensures.chain.0 c.in-Ok.ensures.chain.1 (c.empty_chain.follows.holds _ (ap is_ok c.in-Ok.is))
    c.in-Ok-words_cache.ensures.cache (c.words_cache.follows.holds _ (ap is_ok c.in-Ok-words_cache.is)) c.take_both_words.ensures.chain c.take_both_words.ensures.answer (c.insert.result.1.0, c.insert.result.1.1, refl, c.insert.ensures.tells, c.insert.ensures.counts)
