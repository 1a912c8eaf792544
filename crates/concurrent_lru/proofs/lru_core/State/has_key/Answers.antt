use Rattle.std.proofs.Common.{refl, sym, ap, ◌∙◌, inr, subst}
use Rattle.concurrent_lru.specs.Cache.{HasKeyAt, held_at}
use Rattle.concurrent_lru.specs.Entries.{ContainsEntry, cache_with}
use Rattle.concurrent_lru.specs.NodeTable.{entry_of}
use Rattle.concurrent_lru.proofs.Entries.EntryAtPlace.{stamp_is, has_entry}
use Rattle.concurrent_lru.proofs.Steps.ReadyValues.{equal_key_at, other_key_at, no_key_at}
use Rattle.concurrent_lru.proofs.lru_core.State.has_key.Goals as goal
use Rattle.concurrent_lru.proofs.lru_core.State.has_key.Goals.{After-eq}

-- the key of the entry that was found
own : (g : _) (c : After-eq g) → HasKeyAt (cache_with c.self.inside.capacity c.self.inside.most_pins c.self.inside.next c.self.inside.table) c.args.spot.now.stamp (entry_of c.in-Some.found.node.now).key
own g c =
    let e = entry_of c.in-Some.found.node.now in
    let here = c.in-Some.ensures.node.entry in
    (e.charge, subst (λ s. ContainsEntry c.self.inside.table s e.key e.charge) (stamp_is here c.args.spot.now.stamp c.in-Some.ensures.found) (has_entry here))

pub returns-in-Some-clause-yes : goal.returns-in-Some-clause-yes
returns-in-Some-clause-yes g c = λ yes. equal_key_at g.K.PartialEq.eq _ c.args.self.now.cache c.args.spot.now.stamp _ c.args.key.now (ap (λ x. x.cache) c.self.view_is) (own g (goal.at.returns-in-Some-clause-yes g c).After-eq) (sym c.eq.ensures ∙ yes)

pub returns-in-Some-clause-no : goal.returns-in-Some-clause-no
returns-in-Some-clause-no g c = λ no. other_key_at g.K.PartialEq.eq _ c.args.self.now.cache c.args.spot.now.stamp _ c.args.key.now (ap (λ x. x.cache) c.self.view_is) c.self.invariant.lawful (own g (goal.at.returns-in-Some-clause-no g c).After-eq) (sym c.eq.ensures ∙ no)

pub returns-in-None-clause-no : goal.returns-in-None-clause-no
returns-in-None-clause-no g c = λ _. no_key_at g.K.PartialEq.eq _ c.args.self.now.cache c.args.spot.now.stamp c.args.key.now (ap (λ x. x.cache) c.self.view_is) c.in-None.ensures.found

pub returns-in-None-clause-quiet : goal.returns-in-None-clause-quiet
returns-in-None-clause-quiet g c = λ _ e at. absurd (c.in-None.ensures.found e.key e.charge (inr (e, ap (λ k. held_at k.cache c.args.spot.now.stamp) c.self.view_is ∙ at, refl, refl)))
