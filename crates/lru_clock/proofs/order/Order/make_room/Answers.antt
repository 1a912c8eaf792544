use Rattle.std.proofs.Common.{refl, subst}
use Rattle.lru_clock.specs.Orders.{OrderOf, IsWidened}
use Rattle.lru_clock.proofs.FirstBits.{same_padded}
use Rattle.lru_clock.proofs.order.Order.make_room.Goals as goal

pub returns-in_err-grow : goal.returns-in_err-grow
returns-in_err-grow c =
    let inside = c.self.inside in
    let new : OrderOf = record { trials = c.grow.new.self; youngs = inside.youngs; ghosts = inside.ghosts; border = inside.border; trial = inside.trial; sweep = inside.sweep; hand = inside.hand } in
    subst (λ o. IsWidened o new) c.self.view_is (c.grow.ensures, same_padded inside.youngs, same_padded inside.ghosts, refl)
