use Rattle.std.proofs.Common.{ap, sym}
use Rattle.std.proofs.lemmas.Map.Views.{exact_unsigned_eq}
use mathlib.Core.List.{IsPrefix}
use Rattle.lru_clock.proofs.Pasts.{one_arrival}
use Rattle.lru_clock.proofs.history.past.Arrival.is.Goals as goal

-- Both begin one history.
pub returns : goal.returns
returns g c = λ is w n m e f at bt.
    let a = c.args.self.now in
    let b = c.args.other.now in
    let all = c.learn.new.self.log in
    let one : IsPrefix a.log.log all = rw (sym (ap (λ s. s.log) c.again-both.ensures)) c.learn.ensures.2 in
    one_arrival w a b n m e f all at bt (exact_unsigned_eq a.number b.number is) one c.learn.ensures.3
