use Rattle.std.proofs.Common.{eqb, ap}
use Rattle.std.specs.Map.{lookup}
use Rattle.concurrent_lru.proofs.table.Table.new.Goals as goal

pub with_stamp_index-requires-clause-unmapped : goal.with_stamp_index-requires-clause-unmapped
with_stamp_index-requires-clause-unmapped g c s = ap (lookup (eqb s)) c.new.ensures.empty
