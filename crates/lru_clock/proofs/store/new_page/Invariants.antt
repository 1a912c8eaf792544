use Rattle.std.proofs.Common.{◌≡◌}
use Rattle.lru_clock.specs.Books.{EachAt}
use Rattle.lru_clock.proofs.store.new_page.Given as goal

abbrev pub invariant-loop : goal.invariant-loop
invariant-loop g l = EachAt (λ k slot. (slot.spot.value ≡ (l.page, k)) × (slot.track.word.book ≡ l.fn.chronicle.first.book)) l.slots.items
