use Rattle.std.proofs.Common.{◌≡◌, length, arith, sym, subst, ◌∙◌}
use Rattle.lru_clock.specs.Books.{EachAt}
use Rattle.lru_clock.proofs.Pasts.{each_push}
use Rattle.lru_clock.proofs.store.new_page.Goals as goal

pub loop-preserved : goal.loop-preserved
loop-preserved g c =
    let book = c.args.chronicle.now.first.book in
    let at : c.len.result ≡ length c.loop.slots.items = omega (arith, c.len.ensures, c.loop.slots.ok.0) in
    subst (EachAt (λ k slot. (slot.spot.value ≡ (c.args.page, k)) × (slot.track.word.book ≡ book))) (sym c.in_ok-push.ensures.items)
    (each_push (λ k slot. (slot.spot.value ≡ (c.args.page, k)) × (slot.track.word.book ≡ book)) c.loop.slots.items c.new.result c.loop.invariant (c.new.ensures.spot ∙ (λ i. (c.args.page, at i)), c.new.ensures.book))
