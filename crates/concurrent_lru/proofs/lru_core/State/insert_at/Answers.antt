use Rattle.std.proofs.Common.{Ok, Err}
use Rattle.concurrent_lru.proofs.Steps.InOneGo.{insert_stands}
use Rattle.concurrent_lru.proofs.Steps.InsertOfKey.{replaces}
use Rattle.concurrent_lru.proofs.lru_core.State.insert_at.Goals as goal

pub returns-clause-step : goal.returns-clause-step
returns-clause-step g c = replaces g.K.PartialEq.eq g.M.Sharing.seen c.args.self.now.cache c.remake.new.self.cache c.ready_at-stored.new.self.cache c.args.key.now c.args.charge (g.M.Sharing.seen c.args.value) c.in-Ok.made c.ready_at-stored.result c.in-Ok.ensures.step c.ready_at-stored.ensures.step

pub returns-clause-request : goal.returns-clause-request
returns-clause-request g c =
    insert_stands g.K.PartialEq.eq g.met.K.Eq.laws c.args.self.now.cache c.remake.ensures.before c.args.key.now {M = g.row.M.Denot} g.M.Sharing.seen c.ready_at-stored.new.self.cache c.args.charge (g.M.Sharing.seen c.args.value) (Ok (record { stamp = c.in-Ok.made.0.stamp; replaced = c.in-Ok.made.1; evicted = c.in-Ok.made.2 })) (returns-clause-step g c)

pub returns-in-Err-clause-request : goal.returns-in-Err-clause-request
returns-in-Err-clause-request g c =
    insert_stands g.K.PartialEq.eq g.met.K.Eq.laws c.args.self.now.cache c.remake.ensures.before c.args.key.now {M = g.row.M.Denot} g.M.Sharing.seen c.remake.new.self.cache c.args.charge (g.M.Sharing.seen c.args.value) (Err (c.in-Err.refusal, c.args.value)) c.in-Err.ensures.step
