use Rattle.std.proofs.Common.{refl, sym, ap, ◌∙◌, inr, subst}
use Rattle.std.proofs.lemmas.Bool.{true≢false}
use Rattle.concurrent_lru.specs.Makings.{IsBeingMade}
use Rattle.concurrent_lru.specs.NodeTable.{phase_of}
use Rattle.concurrent_lru.proofs.Entries.MadeAtPlace.{is_made, is_not_made}
use Rattle.concurrent_lru.proofs.Steps.ReadyAndPoll.{phase_making}
use Rattle.concurrent_lru.proofs.lru_core.State.is_being_made.Goals as goal

pub returns-in_default-clause-no : goal.returns-in_default-clause-no
returns-in_default-clause-no g c = λ _ made.
    let here = subst (λ k. IsBeingMade g.K.PartialEq.eq k c.args.key.now) (sym (ap (λ x. x.cache) c.self.view_is)) made in
    true≢false (sym here.4 ∙ c.in_default.ensures.absent here.0 here.1.key here.1.charge (inr (here.1, here.2.at, refl, refl, here.3)))

pub returns-in_default-phase-clause-no : goal.returns-in_default-phase-clause-no
returns-in_default-phase-clause-no g c = λ _ made.
    is_not_made c.in-Ok.ensures.node.entry c.self.invariant.lawful c.args.key.now g.met.K.Eq.laws c.in-Ok.ensures.found (λ e. c.in_default-phase.not-Making (phase_making _ e))
    (subst (λ k. IsBeingMade g.K.PartialEq.eq k c.args.key.now) (sym (ap (λ x. x.cache) c.self.view_is)) made)

pub returns-clause-yes : goal.returns-clause-yes
returns-clause-yes g c = λ _.
    subst (λ k. IsBeingMade g.K.PartialEq.eq k c.args.key.now) (ap (λ x. x.cache) c.self.view_is)
    (is_made c.in-Ok.ensures.node.entry c.self.invariant.lawful c.args.key.now c.in-Ok.ensures.found (ap phase_of c.in-Making.is))
