-- The map from stamps to the places of nodes, which a `StampIndex` may or may not keep.
use Rattle.std.specs.Prelude.{ℕ, ◌≤◌, Bool, true, false, Option, None, nat_eq}
use Rattle.std.specs.HashMap as hash
use Rattle.std.specs.HashMap.{spare}
use Rattle.concurrent_lru.specs.declared.table.stamp_index.StampIndex.{StampIndex}
use Rattle.concurrent_lru.specs.declared.table.stamp_index.StampIndex.TheVariants as rust

-- whether a map is kept
abbrev pub keeps_map : StampIndex → Bool
keeps_map (rust.Mapped places) = true
keeps_map rust.Unmapped = false

-- the place that the map, if one is kept, has for a stamp
abbrev pub mapped_place : StampIndex → ℕ → Option ℕ
mapped_place (rust.Mapped places) stamp = hash.get nat_eq places stamp
mapped_place rust.Unmapped stamp = None

-- the map, if one is kept, takes this many more places without allocating
abbrev pub HasRoomFor : StampIndex → ℕ → Type 0
HasRoomFor (rust.Mapped places) more = more ≤ spare places
HasRoomFor rust.Unmapped more = Unit {0}
