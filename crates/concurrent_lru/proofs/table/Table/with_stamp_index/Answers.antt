use Rattle.std.proofs.Common.{sym, ap}
use Rattle.concurrent_lru.specs.Cache.{charges}
use Rattle.concurrent_lru.proofs.Entries.PlacesOfNodes.{empty_represents, empty_held, no_stamps}
use Rattle.concurrent_lru.proofs.Entries.IndexedByStamp.{indexed_empty}
use Rattle.concurrent_lru.specs.KeyHashes.{key_hash}
use Rattle.concurrent_lru.proofs.Entries.HashesOfNodes.{hashed_empty}
use Rattle.std.specs.List.{filter_map}
use Rattle.concurrent_lru.specs.Indexes.{entries_of}
use Rattle.concurrent_lru.specs.Representation.{idle_at_place}
use Rattle.concurrent_lru.proofs.Entries.SumsOfCharges.{sum_none}
use Rattle.concurrent_lru.proofs.table.Table.with_stamp_index.Goals as goal

pub invariant_of-result : goal.invariant_of-result
invariant_of-result g c = record {
  sums = sym (sum_none (entries_of c.new.result) (ap (filter_map (idle_at_place c.new.result.nodes)) c.new.ensures.idle) (empty_held c.new.result c.new.ensures.nodes));
  rests = sym (ap charges (ap (filter_map (idle_at_place c.new.result.nodes)) c.new.ensures.idle));
  stored = record {
    represents = empty_represents c.new.result c.new.ensures.nodes c.new.ensures.idle;
    indexed = indexed_empty _ _ c.new.ensures.nodes c.requires.unmapped;
    hashed = hashed_empty (key_hash c.args.seed g.K.Hash.hash_input) c.new.result.nodes c.new.result.hashes c.new.ensures.nodes;
    copies = c.requires.copies;
  };
}

pub returns-clause-held : goal.returns-clause-held
returns-clause-held g c = empty_held c.new.result c.new.ensures.nodes

pub returns-clause-stamps : goal.returns-clause-stamps
returns-clause-stamps g c = no_stamps c.new.result.nodes c.new.ensures.nodes
