-- What the pointers of C to caches and chains lead to, and own.
use Rattle.std.specs.Prelude.{Option}
use Rattle.std.specs.Coded.{coded_option}
use base.Fml.{Fml}
use base.Stored.{Coded}
use denote.RattleType.{RattleType}
use denote.RawPtr.{Ptr}
use Rattle.std.specs.Global.{Global}
use Rattle.std_heap.specs.contracts.GlobalAllocator.TheImpl.{ghosts}
use Rattle.lru_c.specs.Held.{held_owns}
use Rattle.lru_c.specs.contracts.any_cache.AnyCache as Cache
use Rattle.lru_c.specs.contracts.chain.AnyChain as Chain

abbrev pub cache_row : RattleType
cache_row = Cache.the_row

abbrev pub chain_row : RattleType
chain_row = Chain.the_row

abbrev pub HeldCache : Type 0
HeldCache = cache_row.Denot

abbrev pub HeldChain : Type 0
HeldChain = chain_row.Denot

abbrev pub cache_owns : Global → Ptr → Option HeldCache → Fml
cache_owns alloc = held_owns (ghosts.dealloc_token alloc) cache_row

abbrev pub chain_owns : Global → Ptr → Option HeldChain → Fml
chain_owns alloc = held_owns (ghosts.dealloc_token alloc) chain_row

abbrev pub cache_coded : Coded (Option HeldCache)
cache_coded = coded_option cache_row.coded

abbrev pub chain_coded : Coded (Option HeldChain)
chain_coded = coded_option chain_row.coded
