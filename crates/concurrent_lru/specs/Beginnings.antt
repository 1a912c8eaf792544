-- What the beginning of a making found.
use Rattle.std.specs.Prelude.{⊤}
use Rattle.concurrent_lru.specs.Makers.{MakerOf}
use Rattle.concurrent_lru.specs.Pins.{HandleOf}
use Rattle.concurrent_lru.specs.declared.maker.Begun.{Begun}
use Rattle.concurrent_lru.specs.declared.maker.Begun.TheVariants as begun

module _ {K V R F : Type 0} where
  -- P holds of the handle, if the value was ready
  abbrev pub IfReady : Begun K V R F → (HandleOf K V → Type 0) → Type 0
  IfReady (begun.Hit h) P = P h
  IfReady (begun.Make m) P = ⊤

  -- P holds of the maker, if the caller makes the value
  abbrev pub IfMaking : Begun K V R F → (MakerOf K → Type 0) → Type 0
  IfMaking (begun.Hit h) P = ⊤
  IfMaking (begun.Make m) P = P m
