use Rattle.std.proofs.Common.{ap, subst}
use Rattle.concurrent_lru.specs.Entries.{cache_with}
use Rattle.concurrent_lru.specs.NodeTable.{phase_of}
use Rattle.concurrent_lru.specs.Ready.{HasReadyKey}
use Rattle.concurrent_lru.specs.Steps.{IsUnready}
use Rattle.concurrent_lru.proofs.Entries.EntryAtPlace.{key_is, found_is, unready_pinned, is_unready}
use Rattle.concurrent_lru.proofs.Entries.ReadyAtPlace.{has_ready_key}
use Rattle.concurrent_lru.proofs.Steps.NotReady.{absent_unready, unready_phase, unready_not_ready}
use Rattle.concurrent_lru.proofs.lru_core.State.contains.Goals as goal

pub returns-in_default-clause-no : goal.returns-in_default-clause-no
returns-in_default-clause-no g c = λ _.
    let unready = absent_unready g.K.PartialEq.eq (cache_with c.self.inside.capacity c.self.inside.most_pins c.self.inside.next c.self.inside.table) (g.Q.AsKey.owned c.args.key) c.in_default.ensures.absent in
    subst (λ k. IsUnready g.K.PartialEq.eq k (g.Q.AsKey.owned c.args.key)) (ap (λ x. x.cache) c.self.view_is) unready

pub returns-in_default-phase-clause-no : goal.returns-in_default-phase-clause-no
returns-in_default-phase-clause-no g c = λ _.
    let here = c.in-Ok.ensures.node.entry in
    let phase = unready_phase _ c.in_default-phase.not-Ready in
    let unready = is_unready here c.self.invariant.lawful (g.Q.AsKey.owned c.args.key) g.met.K.Eq.laws (key_is here c.self.invariant.lawful (g.Q.AsKey.owned c.args.key) c.in-Ok.ensures.found) phase (unready_pinned here (unready_not_ready _ phase)) (found_is here c.self.invariant.lawful (g.Q.AsKey.owned c.args.key) c.in-Ok.ensures.found) in
    subst (λ k. IsUnready g.K.PartialEq.eq k (g.Q.AsKey.owned c.args.key)) (ap (λ x. x.cache) c.self.view_is) unready

pub returns-clause-yes : goal.returns-clause-yes
returns-clause-yes g c = λ _.
    let here = c.in-Ok.ensures.node.entry in
    let found = has_ready_key g.K.PartialEq.eq c.self.inside.capacity c.self.inside.most_pins c.self.inside.next here (g.Q.AsKey.owned c.args.key) c.in-Ready.field-0 (found_is here c.self.invariant.lawful (g.Q.AsKey.owned c.args.key) c.in-Ok.ensures.found)
    (key_is here c.self.invariant.lawful (g.Q.AsKey.owned c.args.key) c.in-Ok.ensures.found) (ap phase_of c.in-Ready.is) in
    subst (λ k. HasReadyKey g.K.PartialEq.eq k (g.Q.AsKey.owned c.args.key)) (ap (λ x. x.cache) c.self.view_is) found
