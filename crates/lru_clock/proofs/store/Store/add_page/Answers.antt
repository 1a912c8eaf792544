use Rattle.std.proofs.Common.{◌≡◌, ◌∷◌, sym, ap, subst, ◌∙◌}
use Rattle.lru_clock.specs.Books.{EachAt, numbers}
use Rattle.lru_clock.proofs.Pasts.{read_at}
use Rattle.lru_clock.proofs.store.Store.add_page.Goals as goal

-- The page has the tag of its number and the history.
pub set_written-requires : goal.set_written-requires
set_written-requires g c =
    let b = c.args.self.now.chronicle.first.book in
    let page = c.in-Some.slots.now in
    let look = c.in-Some.ensures.lookup in
    let pages = subst (EachAt (λ k page. page.tag ≡ k ∷ numbers b)) (sym c.deref.ensures.value) c.args.self.now.tags in
    let tag = pages c.page_of-page.result.0 page (read_at c.deref.result.now c.page_of-page.result.0 page look.3.0 look.1) in
    λ k x is.
    let made = c.in_ok-new_page.ensures k x is in
    (ap (λ s. s.1) made.0, (λ i. (made.0 i).0 ∷ numbers (made.1 i)) ∙ sym tag)
