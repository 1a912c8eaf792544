use Rattle.std.proofs.Common.{◌≡◌, ℕ, sym, subst, IfSome, MatchOption}
use Rattle.lru_clock.specs.Seats.{HasKeyAt, LacksKey}
use Rattle.lru_clock.proofs.Seating.Keys.{only_one}
use Rattle.lru_clock.proofs.store.seats.Seats.find.Goals as goal
use Rattle.lru_clock.proofs.store.seats.Seats.find.Goals.{in-Found, in-Empty}

pub returns-clause-found : goal.returns-clause-found
returns-clause-found g c =
    let E = g.K.PartialEq.eq in
    let items = c.self.inside.seats.items in
    elim c.match-find_key.branch [
      | in-Found w ↦ subst (λ r. MatchOption r (LacksKey E items c.args.tag c.args.key.now) (λ p. HasKeyAt E items c.args.tag c.args.key.now p)) (sym w.result-is)
          (subst (λ l. HasKeyAt E l c.args.tag c.args.key.now w.in-Found.place) c.deref.ensures.value w.in-Found.ensures.found)
      | in-Empty w ↦ subst (λ r. MatchOption r (LacksKey E items c.args.tag c.args.key.now) (λ p. HasKeyAt E items c.args.tag c.args.key.now p)) (sym w.result-is)
          (subst (λ l. LacksKey E l c.args.tag c.args.key.now) c.deref.ensures.value w.in-Empty.ensures.found.0)
    ]

pub returns-clause-one : goal.returns-clause-one
returns-clause-one g c =
    let E = g.K.PartialEq.eq in
    let items = c.self.inside.seats.items in
    elim c.match-find_key.branch [
      | in-Found w ↦ subst (λ r. IfSome r (λ place. (p : ℕ) → HasKeyAt E items c.args.tag c.args.key.now p → p ≡ place)) (sym w.result-is)
          (λ p h. only_one E items c.self.inside.words c.self.invariant.1 g.met.K.Eq.laws c.args.tag c.args.key.now p w.in-Found.place h
          (subst (λ l. HasKeyAt E l c.args.tag c.args.key.now w.in-Found.place) c.deref.ensures.value w.in-Found.ensures.found))
      | in-Empty w ↦ subst (λ r. IfSome r (λ place. (p : ℕ) → HasKeyAt E items c.args.tag c.args.key.now p → p ≡ place)) (sym w.result-is) tt
    ]
