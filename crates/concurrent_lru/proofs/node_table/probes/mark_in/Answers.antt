use Rattle.std.proofs.Common.{sym}
use Rattle.concurrent_lru.proofs.Probing.Marks.{mark_read}
use Rattle.concurrent_lru.proofs.node_table.probes.mark_in.Goals as goal

pub returns : goal.returns
returns g c = sym (mark_read c.args.buckets.now c.args.at c.index-buckets-at.result c.requires)
