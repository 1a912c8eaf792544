use Rattle.std.proofs.Common.{◌∙◌}
use Rattle.lru_clock.proofs.Pasts.{adds_moves}
use Rattle.lru_clock.proofs.history.track.Track.add.Goals as goal

pub compare_exchange-found-requires : goal.compare_exchange-found-requires
compare_exchange-found-requires g c =
    let ask = c.requires.ask in
    let pen = c.no_pen-pen.ensures in (
      c.args.self.now.tracked,
      c.requires.book,
      pen.0 ∙ c.requires.book,
      ask.0,
      rw (pen.1, ask.1) (adds_moves c.args.seen.now.log c.args.ask.ask c.args.self.now.word.key c.args.last c.args.next c.requires.begun ask.2 c.requires.next),
    )
