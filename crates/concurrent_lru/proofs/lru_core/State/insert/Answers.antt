use Rattle.std.proofs.Common.{Ok, sym, subst}
use Rattle.concurrent_lru.specs.Inserts.{Inserts}
use Rattle.concurrent_lru.proofs.lru_core.State.insert.Goals as goal

pub returns-clause-step : goal.returns-clause-step
returns-clause-step g c =
    subst (λ new. Inserts g.K.PartialEq.eq c.args.self.now.cache c.args.key.now c.args.charge (g.M.Sharing.seen c.args.value) (Ok c.in_ok-inserted.inserted) new.cache) (sym c.self.view_is) c.in_ok-inserted.ensures.step
