use Rattle.std.proofs.Common.{◌≡◌, ◌∷◌, sym, subst}
use Rattle.lru_clock.specs.Books.{EachAt, numbers}
use Rattle.lru_clock.specs.Places.{place_of}
use Rattle.lru_clock.proofs.Pasts.{at_spot, of_page, read_at}
use Rattle.lru_clock.proofs.store.Store.slot.Goals as goal

-- The page has the tag of its number and the history, and its slots have the spots of the page and
-- are of the history that its tag names.
pub returns : goal.returns
returns g c =
    let b = c.args.self.now.chronicle.first.book in
    let page = c.in_ok-get.field-0.now in
    let look = c.in_ok-get.ensures.lookup in
    let spot = c.page_of-page.result in
    let pages = subst (EachAt (λ k page. page.tag ≡ k ∷ numbers b)) (sym c.deref.ensures.value) c.args.self.now.tags in
    let tag = pages spot.0 page (read_at c.deref.result.now spot.0 page look.3.0 look.1) in
    let slots = subst (EachAt (λ k slot. (slot.spot.value.1 ≡ k) × (slot.spot.value.0 ∷ numbers slot.track.word.book ≡ page.tag))) (sym c.deref-2.ensures.value) c.in_ok-get-2.ensures in
    let found = of_page (λ slot. slot.track.word.book) (λ slot. slot.spot.value) c.deref-2.result.now spot.0 spot.1 c.get-3.result page.tag b slots c.get-3.ensures.lookup tag in
    record { place = at_spot (λ slot. slot.spot.value) (λ s. place_of s ≡ c.args.place) c.get-3.result spot found.0 c.page_of-page.ensures.place; book = found.1 }
