-- The making has ended before the entry is stored.
use Rattle.std.proofs.Common.{sym, subst}
use Rattle.lru_clock.specs.Makings.{HasEnded}
use Rattle.lru_clock.proofs.ApartMakings.{ended_current, ended_invalidated}
use Rattle.lru_clock.proofs.clock_core.Core.hold_made.Goals as goal
use Rattle.lru_clock.proofs.clock_core.Core.hold_made.Goals.{in-Current, in-Invalidated}

pub returns-in-Ok-clause-made : goal.returns-in-Ok-clause-made
returns-in-Ok-clause-made g c =
    let n = c.args.number in
    let old = c.args.state.now.makings in
    let new = c.end_number.new.self in
    let has_ended : HasEnded n old new = elim c.match-end_number.branch [
      | in-Current w ↦ ended_current n old new c.end_number.result w.in-Current.key w.in-Current.is c.end_number.ensures
      | in-Invalidated w ↦ ended_invalidated n old new c.end_number.result w.in-Invalidated.key w.in-Invalidated.is c.end_number.ensures
    ] in
    (subst (HasEnded n old) (sym c.hold_entry.ensures.makings) has_ended, c.in-Ok.ensures.charged)

pub returns-clause-refused : goal.returns-clause-refused
returns-clause-refused g c =
    let n = c.args.number in
    let old = c.args.state.now.makings in
    let new = c.end_number.new.self in
    let has_ended : HasEnded n old new = elim c.match-end_number.branch [
      | in-Current w ↦ ended_current n old new c.end_number.result w.in-Current.key w.in-Current.is c.end_number.ensures
      | in-Invalidated w ↦ ended_invalidated n old new c.end_number.result w.in-Invalidated.key w.in-Invalidated.is c.end_number.ensures
    ] in
    (c.in-Err.ensures.never_stale, subst (HasEnded n old) (sym c.hold_entry.ensures.makings) has_ended)
