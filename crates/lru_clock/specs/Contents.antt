-- What a slot holds, and what a claim to read the slot sees there.
use Rattle.std.specs.Prelude.{◌≡◌, ⊤, Option, IsSomeAnd}
use Rattle.logbook.specs.Pages.{Named}
use Rattle.lru_clock.specs.Arrivals.{Arrives}
use Rattle.lru_clock.specs.History.{entry}
use Rattle.lru_clock.specs.declared.store.slot.content.Content.{Content}
use Rattle.lru_clock.specs.declared.store.slot.content.Content.TheVariants as content

-- the slot of a counter may hold it: an entry's value fits its key, and the entry came to this slot
abbrev pub IsContentOf : {K V F : Type 0} → (K → V → Type 0) → Named → Content K V F → Type 0
IsContentOf fits w content.Empty = ⊤
IsContentOf fits w (content.Entry age kept arrival) = fits kept.key kept.value × Arrives w arrival age (entry kept.key kept.value)

-- an entry with this value
abbrev pub IsOfValue : {K V F : Type 0} → Content K V F → V → Type 0
IsOfValue content.Empty v = ⊥
IsOfValue (content.Entry age kept arrival) v = kept.value ≡ v

abbrev pub HasValue : {K V F : Type 0} → Option (Content K V F) → V → Type 0
HasValue claimed v = IsSomeAnd claimed (λ held. IsOfValue held v)
