-- The second hand goes on by one place.
use Rattle.std.proofs.Common.{◌≡◌, ◌+◌, ◌-◌, ◌*◌, suc, true, false, ◌∷◌, None, IfSome, sym, ap, ◌∙◌, subst, arith}
use Rattle.std.proofs.Math.ListN.{set}
use Rattle.lru_clock.specs.Seats.{seat}
use Rattle.lru_clock.specs.Orders.{is_due, second, swept}
use Rattle.lru_clock.specs.Looks.{looked, LooksOnce}
use Rattle.lru_clock.specs.Evictions.{none_left, one_left, evicted, passed, tried, by_second, places_of}
use Rattle.lru_clock.specs.declared.order.Cost.TheVariants.{AllChances}
use Rattle.lru_clock.specs.declared.order.Look.TheVariants.{Unused}
use Rattle.lru_clock.specs.declared.order.Second.TheVariants.{Nowhere, Young, Old}
use Rattle.lru_clock.proofs.Evicting.{Leads, leads_on, leads_at, leads_nowhere, leads_out, next_is, second_rests, second_steps, tried_stays}
use Rattle.lru_clock.proofs.clock_core.Core.evict_by_second.Goals as goal
use Rattle.lru_clock.proofs.clock_core.Core.evict_by_second.Goals.{in-Young, in-Old+in_default}

pub returns-then-not-is_due-clause-run : goal.returns-then-not-is_due-clause-run
returns-then-not-is_due-clause-run g c =
    let S = c.args.state.now.seats in
    let rounds = 2 * places_of S in
    let left = rounds - (c.loop.counter + 1) in
    let o = c.loop.state.order in
    let was = c.args.looks.now.made in
    let now = c.loop.looks.made in
    let more : rounds - c.loop.counter ≡ suc left = omega (arith, c.loop-test.true, c.places.ensures) in
    let had = subst (λ n. Leads (by_second S rounds) (by_second S n) c.args.state.now.order o was now) more c.loop.invariant.ran in
    let due : is_due o ≡ false = sym c.is_due.ensures ∙ c.if-not-is_due.true in
    leads_nowhere (by_second S rounds) c.args.state.now.order o was now S c.loop.state.seats
    (leads_on (by_second S rounds) (by_second S (suc left)) none_left c.args.state.now.order o o was now had (λ looks. second_rests S left o looks due)) c.loop.invariant.seats

pub returns-in-Nowhere-clause-run : goal.returns-in-Nowhere-clause-run
returns-in-Nowhere-clause-run g c =
    let S = c.args.state.now.seats in
    let rounds = 2 * places_of S in
    let left = rounds - (c.loop.counter + 1) in
    let o = c.loop.state.order in
    let was = c.args.looks.now.made in
    let now = c.loop.looks.made in
    let p = c.move_second.new.self in
    let more : rounds - c.loop.counter ≡ suc left = omega (arith, c.loop-test.true, c.places.ensures) in
    let had = subst (λ n. Leads (by_second S rounds) (by_second S n) c.args.state.now.order o was now) more c.loop.invariant.ran in
    let due : is_due o ≡ true = sym c.is_due.ensures ∙ c.if-not-is_due.false in
    let at : second o ≡ Nowhere = sym c.move_second.ensures.second ∙ c.in-Nowhere.is in
    leads_nowhere (by_second S rounds) c.args.state.now.order p was now S c.loop.state.seats
    (leads_on (by_second S rounds) (by_second S (suc left)) none_left c.args.state.now.order o p was now had
    (λ looks. second_steps S left o looks Nowhere due at ∙ ap (λ q. none_left q looks) (sym c.move_second.ensures.moved))) c.loop.invariant.seats

pub returns-in-Some-clause-run : goal.returns-in-Some-clause-run
returns-in-Some-clause-run g c =
    let S = c.args.state.now.seats in
    let rounds = 2 * places_of S in
    let left = rounds - (c.loop.counter + 1) in
    let o = c.loop.state.order in
    let was = c.args.looks.now.made in
    let now = c.loop.looks.made in
    let p = c.vacate.new.self.order in
    let t = c.in-Some.taken.place in
    let more : rounds - c.loop.counter ≡ suc left = omega (arith, c.loop-test.true, c.places.ensures) in
    let had = subst (λ n. Leads (by_second S rounds) (by_second S n) c.args.state.now.order o was now) more c.loop.invariant.ran in
    let due : is_due o ≡ true = sym c.is_due.ensures ∙ c.if-not-is_due.false in
    let at : second o ≡ Old c.in-Old.place = sym c.move_second.ensures.second ∙ c.in-Old.is in
    let place : c.in-Old.place ≡ t = sym (subst (λ taken. IfSome taken (λ it. it.place ≡ c.in-Old.place)) c.in-Some.is c.look.ensures.place) in
    let look = subst (λ taken. LooksOnce c.in-Old.place AllChances now c.look.new.looks.made taken) c.in-Some.is c.look.ensures.look in
    let after : p ≡ evicted S t (swept o) = c.vacate.ensures.order ∙ ap (λ s. evicted s t c.move_second.new.self) c.loop.invariant.seats ∙ ap (evicted S t) c.move_second.ensures.moved in
    leads_out (by_second S rounds) (by_second S (suc left)) c.args.state.now.order o p was now c.look.new.looks.made (looked c.in-Old.place AllChances Unused) t S c.vacate.new.self.seats c.vacate.result had look
    (λ looks. second_steps S left o (looked c.in-Old.place AllChances Unused ∷ looks) (Old c.in-Old.place) due at
    ∙ next_is c.in-Old.place AllChances (tried S c.in-Old.place (swept o) (by_second S left)) Unused looks
    ∙ ap (λ q. one_left q (evicted S q (swept o)) looks) place ∙ ap (λ q. one_left t q looks) (sym after))
    (c.vacate.ensures.seats ∙ ap (λ s. set s t (seat 0 0 None)) c.loop.invariant.seats)

pub loop-preserved : goal.loop-preserved
loop-preserved g c =
    let S = c.args.state.now.seats in
    let rounds = 2 * places_of S in
    let left = rounds - (c.loop.counter + 1) in
    let o = c.loop.state.order in
    let was = c.args.looks.now.made in
    let now = c.loop.looks.made in
    let more : rounds - c.loop.counter ≡ suc left = omega (arith, c.loop-test.true, c.places.ensures) in
    let had = subst (λ n. Leads (by_second S rounds) (by_second S n) c.args.state.now.order o was now) more c.loop.invariant.ran in
    let due : is_due o ≡ true = sym c.is_due.ensures ∙ c.if-not-is_due.false in
    elim c.match-move_second.branch [
      | in-Young w ↦
          let at : second o ≡ Young = sym c.move_second.ensures.second ∙ w.in-Young.is in
          record {
            seats = ap (λ state. state.seats) w.state-is ∙ c.loop.invariant.seats;
            ran = subst (λ l. Leads (by_second S rounds) (by_second S left) c.args.state.now.order c.match-move_second.state.order was l) (sym (ap (λ l. l.made) w.looks-is))
                (leads_on (by_second S rounds) (by_second S (suc left)) (by_second S left) c.args.state.now.order o c.match-move_second.state.order was now had
                (λ looks. second_steps S left o looks Young due at ∙ ap (λ q. by_second S left q looks) (sym (ap (λ state. state.order) w.state-is ∙ c.move_second.ensures.moved))));
          }
      | in-Old+in_default w ↦
          let at : second o ≡ Old w.in-Old.place = sym c.move_second.ensures.second ∙ w.in-Old.is in
          let look = subst (λ taken. LooksOnce w.in-Old.place AllChances now w.look.new.looks.made taken) w.in_default.is w.look.ensures.look in
          let after : c.match-move_second.state.order ≡ passed S w.in-Old.place (swept o) =
          ap (λ state. state.order) (w.state-is ∙ w.end_trial.ensures) ∙ ap (λ s. passed s w.in-Old.place c.move_second.new.self) c.loop.invariant.seats ∙ ap (passed S w.in-Old.place) c.move_second.ensures.moved in
          record {
            seats = ap (λ state. state.seats) (w.state-is ∙ w.end_trial.ensures) ∙ c.loop.invariant.seats;
            ran = leads_at (by_second S rounds) (by_second S (suc left)) (by_second S left) c.args.state.now.order o c.match-move_second.state.order was now c.match-move_second.looks.made (looked w.in-Old.place AllChances look.0) had
                (ap (λ l. l.made) w.looks-is ∙ look.2)
                (λ looks. second_steps S left o (looked w.in-Old.place AllChances look.0 ∷ looks) (Old w.in-Old.place) due at
                ∙ next_is w.in-Old.place AllChances (tried S w.in-Old.place (swept o) (by_second S left)) look.0 looks
                ∙ tried_stays S w.in-Old.place (swept o) look.0 looks (by_second S left) look.1 ∙ ap (λ q. by_second S left q looks) (sym after));
          }
    ]
