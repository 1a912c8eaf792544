use Rattle.std.proofs.Common.{refl, sym, ap, ◌∙◌, subst}
use Rattle.std.specs.Option.{option_map}
use Rattle.std.specs.FinMap.{get}
use Rattle.concurrent_lru.specs.Entries.{ContainsHeldAt}
use Rattle.concurrent_lru.proofs.Entries.NodeAtPlace.{some_of}
use Rattle.concurrent_lru.proofs.Entries.PlacesOfNodes.{get_stamps}
use Rattle.concurrent_lru.proofs.Entries.HeldTaken.{held_if_none_idle}
use Rattle.concurrent_lru.proofs.table.Table.take_held_at.Goals as goal

pub take_held-requires : goal.take_held-requires
take_held-requires g c =
    let n = some_of (get c.self.inside.nodes.nodes c.args.place) (c.contains.ensures.yes c.if-contains.true) in
    subst (λ t. ContainsHeldAt t c.args.place) c.self.view_is (held_if_none_idle c.self.invariant.stored c.args.place n.0 (ap (λ t. t.idle) c.self.view_is ∙ c.requires) n.1)

pub returns-clause-taken : goal.returns-clause-taken
returns-clause-taken g c = (
  sym (ap (λ t. get t.stamps c.args.place) c.self.view_is) ∙ get_stamps c.self.inside.nodes.nodes c.args.place ∙ ap (option_map (λ x. x.stamp)) (c.contains.ensures.no c.if-contains.false),
  refl,
)
