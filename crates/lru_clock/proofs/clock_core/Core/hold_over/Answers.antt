-- What left to make way counts as well.
use Rattle.std.proofs.Common.{◌≢◌, MatchOption, subst, sym}
use Rattle.std.specs.Prelude.{IfErr, IfNone, IfOk}
use Rattle.concurrent_lru.specs.declared.refusal.Refusal.TheVariants.{Stale}
use Rattle.lru_clock.specs.SeatChanges.{AddsVacant, Charges, ChargesOver, VacatesAny}
use Rattle.lru_clock.specs.Ways.{left_by}
use Rattle.lru_clock.proofs.Seating.Replaced.{over_way, refused_over}
use Rattle.lru_clock.proofs.clock_core.Core.hold_over.Goals as goal

pub returns-in-Ok-clause-charged : goal.returns-in-Ok-clause-charged
returns-in-Ok-clause-charged g c =
    let old = c.args.state.now.seats in
    let mid = c.make_way.new.state.seats in
    let new = c.store_over-stored.new.state.seats in
    let left = c.store_over-stored.result.1 in
    let made = subst (λ way. VacatesAny old mid (left_by way)) c.in-Clear.is c.in_ok-evicted.ensures.seats in
    let charged = subst (λ r. IfOk r (λ found. MatchOption c.in-Clear.evicted (ChargesOver c.args.charge found.place mid new left) (λ _. Charges c.args.charge found.place mid new))) c.in-Ok.is c.store_over-stored.ensures.charged in
    let over = over_way c.args.charge c.in-Ok.found.place old mid new c.in-Clear.evicted left made charged c.store_over-stored.ensures.left in
    subst (λ place. ChargesOver c.args.charge place old new left) (sym c.into_hold.ensures) over

pub returns-in-None-clause-refused : goal.returns-in-None-clause-refused
returns-in-None-clause-refused g c =
    let old = c.args.state.now.seats in
    let mid = c.make_way.new.state.seats in
    let new = c.store_over-stored.new.state.seats in
    let left = c.store_over-stored.result.1 in
    let made = subst (λ way. VacatesAny old mid (left_by way)) c.in-Clear.is c.in_ok-evicted.ensures.seats in
    let same = subst (λ r. IfErr r (λ _. IfNone left (AddsVacant mid new))) c.in-Err.is c.store_over-stored.ensures.refused in (
      subst (λ r. IfErr r (λ e. e.0 ≢ Stale)) c.in-Err.is c.store_over-stored.ensures.never_stale,
      subst (λ l. IfNone l (AddsVacant old new)) c.in-None.is (refused_over old mid new c.in-Clear.evicted left made c.store_over-stored.ensures.left same),
    )
