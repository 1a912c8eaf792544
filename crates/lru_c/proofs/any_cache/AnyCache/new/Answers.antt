use Rattle.lru_c.proofs.BytesCopies.{copies}
use Rattle.lru_c.proofs.any_cache.AnyCache.new.Goals as goal

pub new-cache-requires-clause-copies : goal.new-cache-requires-clause-copies
new-cache-requires-clause-copies c x y same = copies x y same.0 same.1.0
