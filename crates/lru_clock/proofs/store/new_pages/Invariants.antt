use Rattle.std.proofs.Common.{◌≡◌, ◌∷◌}
use Rattle.lru_clock.specs.Books.{EachAt, numbers}
use Rattle.lru_clock.proofs.store.new_pages.Given as goal

abbrev pub invariant-loop : goal.invariant-loop
invariant-loop g l = EachAt (λ k page. page.tag ≡ k ∷ numbers l.fn.log.book) l.pages.items
