use Rattle.std.proofs.Common.{◌%◌, length, ap}
use Rattle.std.specs.List.{fold}
use Rattle.concurrent_lru.proofs.shard_laws.one_shard.Goals as goal

pub returns : goal.returns
returns g c = record { law = λ shards k l same. ap (λ bytes. g.S.Hasher.Hasher.finish (fold g.S.Hasher.Hasher.write (g.S.BuildHasher.build_hasher shards.hasher) bytes) % length shards.caches) (g.met.K.Hash.respects_eq k l same) }
