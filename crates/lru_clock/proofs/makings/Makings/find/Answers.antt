use Rattle.std.proofs.Common.{◌≡◌, ◌<◌, Some, length, arith, sym, subst, not, ◌&&◌, ap, ◌∙◌}
use Rattle.std.specs.Prelude.{slice_get}
use Rattle.std.proofs.lemmas.Option.{slice_get_read}
use Rattle.lru_clock.proofs.makings.Makings.find.Goals as goal

pub returns-then-eq : goal.returns-then-eq
returns-then-eq g c =
    let items = c.self.inside.makings.items in
    let m = c.index-making.result.now in
    let within : c.loop-at.at < length items = omega (arith, c.loop-at-test.true, c.len-at-end.ensures, c.self.inside.makings.ok.0) in
    let read : slice_get items c.loop-at.at ≡ Some m = slice_get_read items (length items) c.loop-at.at m (λ i. length items) within c.index-making.ensures in (
      m,
      subst (λ ms. slice_get ms c.loop-at.at ≡ Some m) c.self.view_is read,
      ap (λ b. not b && g.K.PartialEq.eq m.key c.args.key.now) c.if-not-making.true ∙ sym (c.if-eq.ensures),
    )
