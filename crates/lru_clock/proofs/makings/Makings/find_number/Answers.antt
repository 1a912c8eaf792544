use Rattle.std.proofs.Common.{◌≡◌, ◌<◌, Some, length, arith, true, nat_eq, subst}
use Rattle.std.specs.Prelude.{slice_get}
use Rattle.std.proofs.lemmas.Option.{slice_get_read}
use Rattle.lru_clock.proofs.makings.Makings.find_number.Goals as goal

pub returns-then-index-number : goal.returns-then-index-number
returns-then-index-number g c =
    let items = c.self.inside.makings.items in
    let m = c.index.result.now in
    let within : c.loop-at.at < length items = omega (arith, c.loop-at-test.true, c.len-at-end.ensures, c.self.inside.makings.ok.0) in
    let read : slice_get items c.loop-at.at ≡ Some m = slice_get_read items (length items) c.loop-at.at m (λ i. length items) within c.index.ensures in
    let same : nat_eq m.number c.args.number ≡ true = grind (arith, c.if-index-number.true) in
    (m, subst (λ ms. slice_get ms c.loop-at.at ≡ Some m) c.self.view_is read, same)
