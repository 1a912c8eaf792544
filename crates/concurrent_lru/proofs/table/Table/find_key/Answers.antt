use Rattle.std.proofs.Common.{Some, None, ◌∙◌, ap, subst}
use Rattle.concurrent_lru.specs.Entries.{ContainsNoKey, GetsNodeAt, LeadsAt, IsPlaceOfKey}
use Rattle.concurrent_lru.specs.KeyHashes.{key_hash}
use Rattle.concurrent_lru.proofs.Entries.FoundNodes.{found_key}
use Rattle.concurrent_lru.proofs.Entries.HashesOfNodes.{alike_hashes}
use Rattle.concurrent_lru.proofs.Entries.NodeAtPlace.{node_got}
use Rattle.concurrent_lru.proofs.table.Table.find_key.Goals as goal

pub returns-in-Some-clause-found : goal.returns-in-Some-clause-found
returns-in-Some-clause-found g c = subst (λ t. IsPlaceOfKey g.K.PartialEq.eq t c.in-Some.found.place (g.Q.AsKey.owned c.args.key)) c.self.view_is
    (found_key c.self.invariant.stored (alike_hashes c.self.inside.seed g.K.Hash.hash_input g.met.K.Hash.respects_eq) c.of-hash.result.number (g.Q.AsKey.owned c.args.key) (Some c.in-Some.found)
    (c.of-hash.ensures.hash ∙ ap (λ s. key_hash s g.K.Hash.hash_input (g.Q.AsKey.owned c.args.key)) c.of-hash.ensures.seed) c.in-Some.ensures.found c.in-Some.ensures.node)

pub returns-in-Some-clause-node : goal.returns-in-Some-clause-node
returns-in-Some-clause-node g c = let f = c.in-Some.found in subst (λ t. GetsNodeAt t f.place f.node.now) c.self.view_is (node_got c.self.invariant.stored f.place f.node.now c.in-Some.ensures.node)

pub returns-in-None-clause-absent : goal.returns-in-None-clause-absent
returns-in-None-clause-absent g c = subst (λ t. ContainsNoKey g.K.PartialEq.eq t (g.Q.AsKey.owned c.args.key)) c.self.view_is
    (found_key c.self.invariant.stored (alike_hashes c.self.inside.seed g.K.Hash.hash_input g.met.K.Hash.respects_eq) c.of-hash.result.number (g.Q.AsKey.owned c.args.key) None
    (c.of-hash.ensures.hash ∙ ap (λ s. key_hash s g.K.Hash.hash_input (g.Q.AsKey.owned c.args.key)) c.of-hash.ensures.seed) c.in-None.ensures.found tt)

pub returns-in-Some-clause-link : goal.returns-in-Some-clause-link
returns-in-Some-clause-link g c = let f = c.in-Some.found in subst (λ t. LeadsAt t f.link f.place) c.self.view_is c.in-Some.ensures.link
