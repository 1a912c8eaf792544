-- The entry comes at the end of what the pin shows.
use Rattle.std.proofs.Common.{ap, sym, subst, ◌∙◌}
use Rattle.lru_clock.specs.Hits.{HasArrived}
use Rattle.lru_clock.proofs.Pasts.{arrived_with, comes_last}
use Rattle.lru_clock.proofs.store.slot.claimed.Claimed.fill.Goals as goal
use Rattle.lru_clock.proofs.store.slot.claimed.Claimed.fill.Goals.{then-is_invalidated, else-is_invalidated}

pub invariant_of-pin : goal.invariant_of-pin
invariant_of-pin g c =
    let E = g.K.PartialEq.eq in
    let w = c.self.inside.slot.now.track.word in
    let log = c.again-log.result.log in
    let came = comes_last w c.in-Ok.came.0 c.in-Ok.came.1 _ log (ap (λ s. s.log) c.again-log.ensures) c.in-Ok.ensures.arrives in
    let found : HasArrived E log c.args.key.now c.of-shown.result.value = arrived_with E w.key c.args.key.now c.args.kept.key c.of-shown.result.value c.args.kept.value log came c.of-shown.ensures c.requires.equal in
    let arrived : HasArrived E log c.of.result.value c.of-shown.result.value = subst (λ k. HasArrived E log k c.of-shown.result.value) (sym c.of.ensures) found in
    elim c.if-is_invalidated.branch [
      | then-is_invalidated w ↦ (rw w.old-is w.put_pinned.ensures.read, rw w.old-is (w.put_pinned.ensures.slot ∙ c.self.invariant.1), rw (w.old-is, w.put_pinned.ensures.value) (sym c.of-shown.ensures), rw (c.of.ensures, c.of-shown.ensures) c.requires.asked, arrived)
      | else-is_invalidated w ↦ (rw w.old-is w.put_pinned-else-is_invalidated.ensures.read, rw w.old-is (w.put_pinned-else-is_invalidated.ensures.slot ∙ c.self.invariant.1), rw (w.old-is, w.put_pinned-else-is_invalidated.ensures.value) (sym c.of-shown.ensures), rw (c.of.ensures, c.of-shown.ensures) c.requires.asked, arrived)
    ]
