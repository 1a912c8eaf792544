use Rattle.std.proofs.Common.{◌≡◌, [], ◌++◌, sym, ap, ◌∙◌, subst}
use Rattle.std.specs.List.{filter_map, cons_option}
use Rattle.std.specs.FinMap.{get}
use Rattle.concurrent_lru.specs.Cache.{idle_at}
use Rattle.concurrent_lru.specs.Steps.{without}
use Rattle.concurrent_lru.specs.NodeTable.{entry_of}
use Rattle.concurrent_lru.specs.Representation.{as_idle, idle_at_place}
use Rattle.concurrent_lru.specs.Entries.{ContainsIdleAt, cache_of}
use Rattle.concurrent_lru.proofs.Entries.NodeAtPlace.{no_first, oldest_idle, oldest_out}
use Rattle.concurrent_lru.proofs.table.Table.evict_oldest.Goals as goal

pub returns-in_err-place-clause-idle : goal.returns-in_err-place-clause-idle
returns-in_err-place-clause-idle g c =
    let none = sym (ap (λ t. t.idle) c.self.view_is) ∙ ap (filter_map (idle_at_place c.self.inside.nodes.nodes)) (no_first c.self.inside.nodes.idle (sym c.oldest.ensures.first ∙ c.in_err-place.was)) in
    rw c.from_residual.ensures (none, none)

pub evict-requires : goal.evict-requires
evict-requires g c = subst (λ t. ContainsIdleAt t c.in_ok-place.place) c.self.view_is (oldest_idle c.self.invariant.stored c.in_ok-place.place (sym c.oldest.ensures.first ∙ c.in_ok-place.was))

pub returns-clause-idle : goal.returns-clause-idle
returns-clause-idle g c =
    let e = entry_of c.evict.result.value in
    let here = oldest_out c.self.invariant.stored c.in_ok-place.place e.stamp (as_idle e) (sym c.oldest.ensures.first ∙ c.in_ok-place.was)
    (ap (λ t. get t.stamps c.in_ok-place.place) c.self.view_is ∙ c.evict.ensures.at) (ap (λ t. idle_at (cache_of t) e.stamp) c.self.view_is ∙ c.evict.ensures.entry) in
    subst (λ t. t.idle ≡ cons_option (as_idle e) [] ++ without e.stamp t.idle) c.self.view_is here ∙ ap (λ xs. cons_option (as_idle e) [] ++ xs) (sym c.evict.ensures.idle)
