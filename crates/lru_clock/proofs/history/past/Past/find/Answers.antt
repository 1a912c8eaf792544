use Rattle.std.proofs.Common.{◌≡◌, ◌<◌, ap, sym, subst, arith}
use mathlib.Core.List.{IsPrefix}
use Rattle.lru_clock.specs.History.{turns, HasCome}
use Rattle.lru_clock.proofs.Pasts.{has_come, prefix_trans}
use Rattle.lru_clock.proofs.history.past.Past.find.Goals as goal

-- All histories begin one.
pub returns-clause-came : goal.returns-clause-came
returns-clause-came g c = λ e at.
    let w = c.args.track.now.word in
    let a = c.args.arrival.now in
    let past = c.self.inside in
    let seen = c.look-number.result.1.log in
    let all = c.learn.new.self.log in
    let passed : past.number < at.ticket = omega (arith, c.if-ticket-self.false, c.in_ok-ticket.ensures w e at) in
    let count : turns w.key seen ≡ a.number = omega (arith, c.look-number.ensures.found, c.if-number-arrival.false) in
    let now : IsPrefix seen all = rw (sym (ap (λ s. s.log) c.again-both.ensures)) c.learn.ensures.2 in
    let since = prefix_trans past.since.log past.seen.log all c.self.invariant.1 (prefix_trans past.seen.log seen all c.look-number.ensures.later now) in
    subst (λ l. HasCome w.key l e seen) (ap (λ p. p.since) c.self.view_is) (has_come w a c.args.age e past.since.log seen all past.number at c.self.invariant.2 passed count since now c.learn.ensures.3)

pub returns-clause-comes : goal.returns-clause-comes
returns-clause-comes g c = λ e at.
    let came = returns-clause-came g c e at in
    (came.before, came.skipped, came.ticket, came.came)
