use Rattle.std.proofs.Common.{◌≡◌, sym, ap, ◌∙◌}
use Rattle.logbook.specs.Pages.{nib, may_write, left_with}
use Rattle.lru_clock.proofs.Pasts.{widens_moves, begins_moves}
use Rattle.lru_clock.proofs.history.Chronicle.begin.Goals as goal

pub compare_exchange-requires : goal.compare_exchange-requires
compare_exchange-requires g c =
    let head = c.args.self.now.head_is in
    let book = ap (λ s. s.book) c.again-seen.ensures ∙ sym (ap (λ w. w.book) head) in
    let pen = c.no_pen-pen.ensures in
    let ask = c.plain-ask.ensures in (
      ap (λ w. w.tracked) head,
      book,
      pen.0 ∙ book,
      ask.0,
      rw (ap (λ w. w.key) head, pen.1, ask.3) (widens_moves c.again-seen.result.log c.plain-ask.result.ask),
    )

pub compare_exchange-requires-2 : goal.compare_exchange-requires-2
compare_exchange-requires-2 g c =
    let head = c.args.self.now.head_is in
    let book = ap (λ s. s.book) c.again-seen.ensures ∙ sym (ap (λ w. w.book) head) in
    let widen = c.compare_exchange.ensures in
    let word = c.tracked-word.ensures in
    let ask = c.plain-ask-2.ensures in
    let q = c.compare_exchange.new.pen.nib.key in
    let pen : c.tracked-word.new.pen.nib ≡ nib may_write q 1 = word.2 ∙ ap (λ r. nib (left_with r) q 1) widen.7 in (
      ap (λ w. w.tracked) head,
      widen.0 ∙ book,
      word.1 ∙ (widen.5 ∙ (c.no_pen-pen.ensures.0 ∙ book)),
      ask.0,
      rw (ap (λ w. w.key) head, pen, ask.3) (begins_moves c.compare_exchange.new.seen.log c.plain-ask-2.result.ask q (ap (λ e. e.place) ask.1 ∙ ap (λ w. w.key) word.0) (ap (λ e. e.skipped) ask.1)),
    )
