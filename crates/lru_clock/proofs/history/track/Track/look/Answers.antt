use Rattle.std.proofs.Common.{ap, ◌∙◌}
use Rattle.lru_clock.proofs.Pasts.{looks_moves, still_begun}
use Rattle.lru_clock.proofs.history.track.Track.look.Goals as goal

pub load-found-requires : goal.load-found-requires
load-found-requires g c =
    let track = c.args.self.now in
    let learn = c.learn.ensures in
    let ask = c.plain-ask.ensures in (
      track.tracked,
      learn.0 ∙ (ap (λ s. s.book) c.again-seen.ensures ∙ c.requires.book),
      ask.0,
      rw (ask.3) (looks_moves c.learn.new.self.log c.plain-ask.result.ask track.word.key (still_begun track.word.key track.begun.log c.learn.new.self.log learn.3 track.begins)),
    )
