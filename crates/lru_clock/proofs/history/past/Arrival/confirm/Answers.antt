-- Without a past, the entry comes at the end of what is shown.
use Rattle.std.proofs.Common.{ap}
use Rattle.lru_clock.proofs.Pasts.{comes_last}
use Rattle.lru_clock.proofs.history.past.Arrival.confirm.Goals as goal

pub returns-in-None-clause-comes : goal.returns-in-None-clause-comes
returns-in-None-clause-comes g c = λ e at.
    comes_last c.args.track.now.word c.args.self.now c.args.age e c.again.result.log (ap (λ s. s.log) c.again.ensures) at
