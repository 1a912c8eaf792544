use Rattle.std.proofs.Common.{ap}
use Rattle.lru_clock.proofs.Words.HolderKnowsWords.{steps_on, writes}
use Rattle.lru_clock.proofs.index.words.Words.set.Goals as goal

pub store-requires : goal.store-requires
store-requires c =
    let inv = c.self.invariant in
    let seat = c.self.inside.seat in
    steps_on _ _ _ _ _ c.args.at _ inv.0 (ap (λ i. i.table.shared.table_id) c.deref.ensures) inv.2 c.self.view_is c.requires.within (writes _ seat.id c.args.at seat.me c.args.word)
