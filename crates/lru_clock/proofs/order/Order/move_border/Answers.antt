use Rattle.std.proofs.Common.{◌<◌, subst, sym}
use Rattle.lru_clock.specs.Ghosts.{ghosts_of}
use Rattle.lru_clock.specs.declared.order.Part.TheVariants.{Trial, Main}
use Rattle.lru_clock.proofs.order.Order.move_border.Goals as goal

pub ratio-requires-clause-own : goal.ratio-requires-clause-own
ratio-requires-clause-own c =
    let some = subst (λ part. 0 < ghosts_of part c.args.self.now.ghosts) c.in-Trial.is c.requires in
    (subst (λ n. 0 < n) (sym c.count-of_trial.ensures.count) (subst (λ o. 0 < ghosts_of Trial o.ghosts) (sym c.self.view_is) some), c.count-of_trial.ensures.few)

pub ratio-requires-in-Main-clause-own : goal.ratio-requires-in-Main-clause-own
ratio-requires-in-Main-clause-own c =
    let some = subst (λ part. 0 < ghosts_of part c.args.self.now.ghosts) c.in-Main.is c.requires in
    (subst (λ n. 0 < n) (sym c.count-of_main.ensures.count) (subst (λ o. 0 < ghosts_of Main o.ghosts) (sym c.self.view_is) some), c.count-of_main.ensures.few)
