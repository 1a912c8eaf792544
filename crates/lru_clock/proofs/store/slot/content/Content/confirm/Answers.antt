use Rattle.std.proofs.Common.{◌≡◌, true, sym, ◌∙◌}
use Rattle.lru_clock.specs.Arrivals.{Arrives}
use Rattle.lru_clock.specs.History.{entry}
use Rattle.lru_clock.proofs.Pasts.{arrived_with, sees_if}
use Rattle.lru_clock.proofs.store.slot.content.Content.confirm.Goals as goal

pub returns-then-eq-clause-since : goal.returns-then-eq-clause-since
returns-then-eq-clause-since g c =
    let E = g.K.PartialEq.eq in
    let held = c.in-Entry in
    let at : Arrives c.args.track.now.word held.arrival held.age (entry held.kept.key held.kept.value) = (rw held.is at c.requires.content).1 in
    let equal : E held.kept.key c.args.key.now ≡ true = sym c.eq.ensures ∙ c.if-eq.true in
    let found = c.in_ok-seen.ensures in
    sees_if E c.args.track.now.word held.arrival held.age c.args.past.now c.args.key.now held.kept.key c.of.result.value held.kept.value c.in_ok-seen.seen.book c.in_ok-seen.seen.log at c.of.ensures equal
    found.book found.later found.came

pub returns-then-eq-clause-arrived : goal.returns-then-eq-clause-arrived
returns-then-eq-clause-arrived g c =
    let E = g.K.PartialEq.eq in
    let held = c.in-Entry in
    let at : Arrives c.args.track.now.word held.arrival held.age (entry held.kept.key held.kept.value) = (rw held.is at c.requires.content).1 in
    let equal : E held.kept.key c.args.key.now ≡ true = sym c.eq.ensures ∙ c.if-eq.true in
    arrived_with E c.args.track.now.word.key c.args.key.now held.kept.key c.of.result.value held.kept.value c.in_ok-seen.seen.log (c.in_ok-seen.ensures.comes _ at) c.of.ensures equal
