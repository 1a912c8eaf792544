use Rattle.std.proofs.Common.{[], ap, refl}
use Rattle.concurrent_lru.specs.Request as ask
use Rattle.lru_c.specs.BytesCalls.{IsKeyOf}
use Rattle.lru_c.specs.Keys.{bytes_eq}
use Rattle.lru_c.proofs.ByKey.{by_key}
use Rattle.lru_c.proofs.bytes.cache.Cache+Bytes+Bytes.get.Goals as goal

pub returns-clause-asks : goal.returns-clause-asks
returns-clause-asks c =
    by_key bytes_eq (IsKeyOf c.args.key.now c.args.hash) c.args.self.now.state.cache c.keep.new.self.state.cache c.get-told.new.state.cache (λ k. ask.get k) c.keep.new.self.room c.get-told.result []
    (ap (λ s. s.cache) c.keep.ensures.state) (c.if-not-keep.ensures.kept refl) c.get-told.ensures
