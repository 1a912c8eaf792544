use Rattle.concurrent_lru.proofs.SideBySide.OneOfMany.{refused-same}
use Rattle.concurrent_lru.proofs.shard_laws.refusals_change_nothing.Goals as goal

pub returns : goal.returns
returns g c = record { law = refused-same g.K.PartialEq.eq }
