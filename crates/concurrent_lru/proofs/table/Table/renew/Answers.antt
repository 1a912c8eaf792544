use Rattle.std.proofs.Common.{sym, ◌∙◌, subst}
use Rattle.concurrent_lru.specs.Entries.{ContainsIdleAt, LeadsAt}
use Rattle.concurrent_lru.specs.Indexes.{entries_of}
use Rattle.concurrent_lru.specs.Reads.{RenewsAt}
use Rattle.concurrent_lru.proofs.Entries.NodeAtPlace.{some_node, idle_node}
use Rattle.concurrent_lru.proofs.Entries.Renew.{Renews, stored_renewed, entries_renewed, rests_renewed, sum_renewed}
use Rattle.concurrent_lru.proofs.table.Table.renew.Goals as goal
use Rattle.concurrent_lru.proofs.table.Table.renew.Goals.{After-renew}

pub renew-requires-clause-idle : goal.renew-requires-clause-idle
renew-requires-clause-idle g c = idle_node c.self.invariant.stored c.args.place (subst (λ t. ContainsIdleAt t c.args.place) (sym c.self.view_is) c.requires.idle)

moved : (g : _) (c : After-renew g) → (e : _) × Renews c.self.inside.nodes c.renew.new.self c.args.place e
moved g c =
    let h = subst (λ t. ContainsIdleAt t c.args.place) (sym c.self.view_is) c.requires.idle in
    let n = some_node c.self.invariant.stored c.args.place (h.0, h.1) in
    (n.0, record { at = n.1; there = idle_node c.self.invariant.stored c.args.place h; nodes = c.renew.ensures.nodes; hashes = c.renew.ensures.hashes; links = c.renew.ensures.links; idle = c.renew.ensures.idle; work = c.renew.ensures.work })

pub invariant_of-self : goal.invariant_of-self
invariant_of-self g c = record {
  stored = stored_renewed c.self.invariant.stored (moved g c).1;
  sums = c.self.invariant.sums ∙ sym (sum_renewed c.self.invariant.stored (moved g c).1);
  rests = c.self.invariant.rests ∙ sym (rests_renewed c.self.invariant.stored (moved g c).1);
}

pub returns : goal.returns
returns g c = subst (λ t. RenewsAt t c.args.place (entries_of c.renew.new.self)) c.self.view_is (entries_renewed c.self.invariant.stored (moved g c).1)

pub renew-requires-clause-link : goal.renew-requires-clause-link
renew-requires-clause-link g c = subst (λ t. LeadsAt t c.args.link c.args.place) (sym c.self.view_is) c.requires.link
