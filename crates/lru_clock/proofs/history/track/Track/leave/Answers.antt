-- The slot has no entry after the event that was added.
use Rattle.std.proofs.Common.{◌≡◌, ◌++◌, None, ap, sym, subst, ◌∙◌}
use Rattle.lru_clock.specs.History.{entry_at}
use Rattle.lru_clock.proofs.Pasts.{comes}
use Rattle.lru_clock.proofs.history.track.Track.leave.Goals as goal

pub end-requires-clause-gone : goal.end-requires-clause-gone
end-requires-clause-gone g c =
    let w = c.args.self.now.word in
    let added = c.add.ensures.added c.if-add.true in
    let event = c.plain-ask.ensures.1 in
    subst (λ v. entry_at v.key c.add.new.seen.log ≡ None) (sym c.requires)
    (ap (entry_at w.key) added.1 ∙ comes w.key (c.look-last.result.1.log ++ added.0) c.plain-ask.result.ask (ap (λ e. e.place) event) ∙ ap (λ e. e.entry) event)
