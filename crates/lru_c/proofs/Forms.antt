-- The pointers of C to caches and chains, and the ones that boxes are made of.
use mathlib.Core.Path.{refl}
use Rattle.std.specs.Prelude.{Option}
use Rattle.lru_c.specs.Pointers.{HeldCache, HeldChain, cache_owns, chain_owns, cache_row, chain_row}
use Rattle.lru_c.specs.contracts.handles.CacheAt as CacheAt
use Rattle.lru_c.specs.contracts.handles.ChainAt as ChainAt
use Rattle.lru_c.proofs.Moved.{Form, at_form}

abbrev pub cache_handle : Form (Option HeldCache) cache_owns
cache_handle = record { row = CacheAt.the_row; name = CacheAt.the_type.name; at = λ d. d.at; alloc = λ d. d.alloc; held = λ d. d.held; make = λ p a h. record { at = p; alloc = a; held = h }; opens = λ d us. refl; shuts = λ p a h us. refl; tells = λ p a h. refl; last = λ x. tt; silent = λ x f. refl }

abbrev pub chain_handle : Form (Option HeldChain) chain_owns
chain_handle = record { row = ChainAt.the_row; name = ChainAt.the_type.name; at = λ d. d.at; alloc = λ d. d.alloc; held = λ d. d.held; make = λ p a h. record { at = p; alloc = a; held = h }; opens = λ d us. refl; shuts = λ p a h us. refl; tells = λ p a h. refl; last = λ x. tt; silent = λ x f. refl }

abbrev pub cache_pointer : Form (Option HeldCache) cache_owns
cache_pointer = at_form cache_row

abbrev pub chain_pointer : Form (Option HeldChain) chain_owns
chain_pointer = at_form chain_row
