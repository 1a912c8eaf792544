use Rattle.std.proofs.Common.{◌≡◌, ◌∷◌, length, arith, sym, subst, ◌∙◌}
use Rattle.lru_clock.specs.Books.{EachAt, numbers}
use Rattle.lru_clock.proofs.Pasts.{each_push}
use Rattle.lru_clock.proofs.store.new_pages.Goals as goal

pub loop-preserved : goal.loop-preserved
loop-preserved g c =
    let b = c.args.log.now.book in
    let at : c.len.result ≡ length c.loop.pages.items = omega (arith, c.len.ensures, c.loop.pages.ok.0) in
    let named : c.new.result.tag ≡ c.len.result ∷ numbers c.again.result.book = c.new.ensures ∙ c.of-tag.ensures in
    subst (EachAt (λ k page. page.tag ≡ k ∷ numbers b)) (sym c.in_ok-push.ensures.items)
    (each_push (λ k page. page.tag ≡ k ∷ numbers b) c.loop.pages.items c.new.result c.loop.invariant (named ∙ (λ i. at i ∷ numbers (c.again.ensures i).book)))
