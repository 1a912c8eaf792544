-- The hand goes on by one place.
use Rattle.std.proofs.Common.{◌≡◌, ◌≢◌, ◌+◌, ◌-◌, ◌*◌, suc, true, false, [], ◌∷◌, ◌++◌, None, IfSome, refl, sym, ap, ◌∙◌, subst, arith}
use Rattle.std.proofs.Math.ListN.{set}
use Rattle.lru_clock.specs.Seats.{seat}
use Rattle.lru_clock.specs.Orders.{skips, hand_moved}
use Rattle.lru_clock.specs.Looks.{looked, LooksOnce}
use Rattle.lru_clock.specs.Evictions.{one_left, evicted, by_hand, reached, places_of}
use Rattle.lru_clock.specs.declared.order.Cost.TheVariants.{OneChance}
use Rattle.lru_clock.specs.declared.order.Look.{Look}
use Rattle.lru_clock.specs.declared.order.Look.TheVariants.{Unused}
use Rattle.lru_clock.proofs.Evicting.{Leads, leads_none, leads_on, leads_at, leads_out, next_is, hand_skips, hand_looks, reached_stays}
use Rattle.lru_clock.proofs.clock_core.Core.evict_by_hand.Goals as goal
use Rattle.lru_clock.proofs.clock_core.Core.evict_by_hand.Goals.{then-not-is_skipped+in_default, else-not-is_skipped}

pub loop-init : goal.loop-init
loop-init g c =
    let S = c.args.state.now.seats in
    let run = by_hand S c.args.is_main in
    let rounds = 4 * places_of S in
    let o = c.args.state.now.order in
    let looks = c.args.looks.now.made in
    let all : rounds ≡ rounds - 0 = omega arith in
    record { seats = refl; ran = subst (λ n. Leads (run rounds) (run n) o o looks looks) all (leads_none (run rounds) o looks) }

pub returns-in-Some-clause-run : goal.returns-in-Some-clause-run
returns-in-Some-clause-run g c =
    let S = c.args.state.now.seats in
    let m = c.args.is_main in
    let rounds = 4 * places_of S in
    let left = rounds - (c.loop.counter + 1) in
    let o = c.loop.state.order in
    let was = c.args.looks.now.made in
    let now = c.loop.looks.made in
    let p = c.vacate.new.self.order in
    let t = c.in-Some.taken.place in
    let more : rounds - c.loop.counter ≡ suc left = omega (arith, c.loop-test.true, c.places-places.ensures) in
    let had = subst (λ n. Leads (by_hand S m rounds) (by_hand S m n) c.args.state.now.order o was now) more c.loop.invariant.ran in
    let stands : skips m o ≡ false = sym c.skips-is_skipped.ensures ∙ c.if-not-is_skipped.true in
    let moved : c.move_hand-place.new.self ≡ hand_moved (places_of S) o = c.move_hand-place.ensures.moved ∙ ap (λ n. hand_moved n o) c.places-places.ensures in
    let at : c.move_hand-place.result ≡ t = sym (subst (λ taken. IfSome taken (λ it. it.place ≡ c.move_hand-place.result)) c.in-Some.is c.look.ensures.place) in
    let look = subst (λ q. c.look.new.looks.made ≡ now ++ looked q OneChance Unused ∷ []) c.move_hand-place.ensures.hand
    (subst (λ taken. LooksOnce c.move_hand-place.result OneChance now c.look.new.looks.made taken) c.in-Some.is c.look.ensures.look) in
    let place : o.hand ≡ t = sym c.move_hand-place.ensures.hand ∙ at in
    let after : p ≡ evicted S t (hand_moved (places_of S) o) = c.vacate.ensures.order ∙ ap (λ s. evicted s t c.move_hand-place.new.self) c.loop.invariant.seats ∙ ap (evicted S t) moved in
    leads_out (by_hand S m rounds) (by_hand S m (suc left)) c.args.state.now.order o p was now c.look.new.looks.made (looked o.hand OneChance Unused) t S c.vacate.new.self.seats c.vacate.result had look
    (λ looks. hand_looks S m left o (looked o.hand OneChance Unused ∷ looks) stands
    ∙ next_is o.hand OneChance (reached S o.hand (hand_moved (places_of S) o) (by_hand S m left)) Unused looks
    ∙ ap (λ q. one_left q (evicted S q (hand_moved (places_of S) o)) looks) place ∙ ap (λ q. one_left t q looks) (sym after))
    (c.vacate.ensures.seats ∙ ap (λ s. set s t (seat 0 0 None)) c.loop.invariant.seats)

pub loop-preserved : goal.loop-preserved
loop-preserved g c =
    let S = c.args.state.now.seats in
    let m = c.args.is_main in
    let rounds = 4 * places_of S in
    let left = rounds - (c.loop.counter + 1) in
    let o = c.loop.state.order in
    let was = c.args.looks.now.made in
    let now = c.loop.looks.made in
    let p = c.move_hand-place.new.self in
    let more : rounds - c.loop.counter ≡ suc left = omega (arith, c.loop-test.true, c.places-places.ensures) in
    let had = subst (λ n. Leads (by_hand S m rounds) (by_hand S m n) c.args.state.now.order o was now) more c.loop.invariant.ran in
    let moved : p ≡ hand_moved (places_of S) o = c.move_hand-place.ensures.moved ∙ ap (λ n. hand_moved n o) c.places-places.ensures in
    record {
      seats = c.loop.invariant.seats;
      ran = elim c.if-not-is_skipped.branch [
        | then-not-is_skipped+in_default w ↦
            let stands : skips m o ≡ false = sym c.skips-is_skipped.ensures ∙ w.if-not-is_skipped.true in
            let look = subst (λ q. (found : Look) × (found ≢ Unused) × (w.look.new.looks.made ≡ now ++ looked q OneChance found ∷ [])) c.move_hand-place.ensures.hand
            (subst (λ taken. LooksOnce c.move_hand-place.result OneChance now w.look.new.looks.made taken) w.in_default.is w.look.ensures.look) in
            leads_at (by_hand S m rounds) (by_hand S m (suc left)) (by_hand S m left) c.args.state.now.order o p was now c.if-not-is_skipped.looks.made (looked o.hand OneChance look.0) had
            (ap (λ l. l.made) w.looks-is ∙ look.2)
            (λ looks. hand_looks S m left o (looked o.hand OneChance look.0 ∷ looks) stands
            ∙ next_is o.hand OneChance (reached S o.hand (hand_moved (places_of S) o) (by_hand S m left)) look.0 looks
            ∙ reached_stays S o.hand (hand_moved (places_of S) o) look.0 looks (by_hand S m left) look.1
            ∙ ap (λ q. by_hand S m left q looks) (sym moved))
        | else-not-is_skipped w ↦
            let skipped : skips m o ≡ true = sym c.skips-is_skipped.ensures ∙ w.if-not-is_skipped.false in
            subst (λ l. Leads (by_hand S m rounds) (by_hand S m left) c.args.state.now.order p was l) (sym (ap (λ l. l.made) w.looks-is))
            (leads_on (by_hand S m rounds) (by_hand S m (suc left)) (by_hand S m left) c.args.state.now.order o p was now had
            (λ looks. hand_skips S m left o looks skipped ∙ ap (λ q. by_hand S m left q looks) (sym moved)))
      ];
    }
