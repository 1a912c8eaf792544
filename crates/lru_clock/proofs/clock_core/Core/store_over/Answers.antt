-- The makings are as they were until the entry is stored.
use Rattle.std.proofs.Common.{◌≡◌, true, false, is_ok, Ok, Err, IfOk, sym, ap, subst, ◌∙◌}
use Rattle.std.specs.Prelude.{Result}
use Rattle.lru_clock.specs.Makings.{Marks}
use Rattle.lru_clock.proofs.clock_core.Core.store_over.Goals as goal
use Rattle.lru_clock.proofs.clock_core.Core.store_over.Goals.{in-Some, in-None, then-is_ok, else-is_ok}

module _ {X Y : Type 0} (A : Type 0) where
  if_stored : (r : Result X Y) → A → IfOk r (λ _. A)
  if_stored (Ok x) a = a
  if_stored (Err e) a = tt

  if_refused : (r : Result X Y) → is_ok r ≡ false → IfOk r (λ _. A)
  if_refused (Ok x) is = absurd (cc is)
  if_refused (Err e) is = tt

pub returns-clause-marked : goal.returns-clause-marked
returns-clause-marked g c =
    let marks = Marks g.K.PartialEq.eq c.args.key.now in
    let old = c.args.state.now.makings in
    let new = c.if-is_ok.state.makings in
    let same : c.match-evicted.state.makings ≡ old = elim c.match-evicted.branch [
      | in-Some w ↦ ap (λ s. s.makings) w.state-is ∙ w.put-stored.ensures.makings
      | in-None w ↦ ap (λ s. s.makings) w.state-is ∙ w.replace.ensures.makings
    ] in
    elim c.if-is_ok.branch [
      | then-is_ok w ↦ if_stored (marks old new) c.match-evicted.stored.0
          (subst (marks old) (sym (ap (λ s. s.makings) w.state-is)) (subst (λ m. marks m w.invalidate.new.self) same w.invalidate.ensures.marks))
      | else-is_ok w ↦ if_refused (marks old new) c.match-evicted.stored.0 (sym c.is_ok.ensures.value ∙ w.if-is_ok.false)
    ]
