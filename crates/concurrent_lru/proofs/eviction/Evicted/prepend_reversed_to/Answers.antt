use Rattle.std.proofs.Common.{◌++◌, reverse, sym, ap, ◌∙◌}
use Rattle.std.specs.List.{filter_map}
use Rattle.std.proofs.lemmas.List.Elements.{filter_map-append}
use Rattle.concurrent_lru.specs.Representation.{as_idle}
use Rattle.concurrent_lru.specs.Chain.{chain_from}
use Rattle.concurrent_lru.proofs.Entries.ChainsOfEvicted.{filter_map-reverse}
use Rattle.concurrent_lru.proofs.eviction.Evicted.prepend_reversed_to.Goals as goal

pub returns : goal.returns
returns g c =
    let own = chain_from c.self.inside.first in
    let rest = chain_from c.rest.inside.first in
    ap (filter_map as_idle) (ap (λ o. reverse (chain_from o) ++ chain_from c.loop-chain.first) (sym c.in_default.is) ∙ c.loop-chain.invariant.turned)
    ∙ filter_map-append as_idle (reverse own) rest
    ∙ ap (λ es. es ++ filter_map as_idle rest) (filter_map-reverse as_idle own)
    ∙ ap (λ es. reverse es ++ filter_map as_idle rest) c.self.view_is
    ∙ ap (λ es. reverse c.args.self ++ es) c.rest.view_is
