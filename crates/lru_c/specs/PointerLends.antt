-- What the pointers of C to caches and chains lead to once a `&mut` that was lent from them has
-- ended.
use Rattle.std.specs.Prelude.{Some}
use Rattle.std.specs.Borrow.{Fml, Lends, MutBor}
use Rattle.lru_c.specs.Pointers.{HeldCache, HeldChain, cache_row, chain_row}
use Rattle.lru_c.specs.declared.handles.CacheAt.{CacheAt}
use Rattle.lru_c.specs.declared.handles.ChainAt.{ChainAt}
use Rattle.lru_c.specs.contracts.handles.CacheAt as CacheAt
use Rattle.lru_c.specs.contracts.handles.ChainAt as ChainAt

-- the pointer leads to the last value behind the reference that was lent
abbrev pub lends_cache : MutBor CacheAt → MutBor HeldCache → Fml
lends_cache p r = Lends CacheAt.the_row cache_row p r (λ w. record p.now { held = Some w })

abbrev pub lends_chain : MutBor ChainAt → MutBor HeldChain → Fml
lends_chain p r = Lends ChainAt.the_row chain_row p r (λ w. record p.now { held = Some w })
