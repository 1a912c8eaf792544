use Rattle.std.proofs.Common.{ap}
use Rattle.lru_clock.proofs.Words.HolderKnowsWords.{looks, steps_on}
use Rattle.lru_clock.proofs.index.words.Words.get.Goals as goal

pub load-requires : goal.load-requires
load-requires c =
    let inv = c.self.invariant in
    let seat = c.self.inside.seat in
    steps_on _ _ _ _ _ c.args.at _ inv.0 (ap (λ i. i.table.shared.table_id) c.deref.ensures) inv.2 c.self.view_is c.requires.within (looks _ seat.id c.args.at seat.me)
