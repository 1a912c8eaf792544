use Rattle.std.proofs.Common.{ap, refl}
use Rattle.lru_c.specs.BytesCalls.{IsKeyOf}
use Rattle.lru_c.specs.Keys.{bytes_eq}
use Rattle.lru_c.specs.Told.{bare, evict_by}
use Rattle.lru_c.proofs.ByKey.{by_key}
use Rattle.lru_c.proofs.bytes.cache.Cache+Bytes+Bytes.evict.Goals as goal

pub returns-clause-asks : goal.returns-clause-asks
returns-clause-asks c =
    by_key bytes_eq (IsKeyOf c.args.key.now c.args.hash) c.args.self.now.state.cache c.keep.new.self.state.cache c.evict.new.state.cache (λ k. evict_by c.args.even_held k) c.keep.new.self.room (bare c.evict.result.0) c.evict.result.1
    (ap (λ s. s.cache) c.keep.ensures.state) (c.if-not-keep.ensures.kept refl) c.evict.ensures
