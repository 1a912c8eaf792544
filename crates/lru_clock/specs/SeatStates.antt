-- What the state of a seat says of its place.
use Rattle.std.specs.Prelude.{None, Some}
use Rattle.lru_clock.specs.Seats.{Seat, seat, listed_as}
use Rattle.lru_clock.specs.declared.store.seat.State.{State}
use Rattle.lru_clock.specs.declared.store.seat.State.TheVariants.{Vacant, Hidden, Keyed}

abbrev pub seat_in : {K : Type 0} → State K → Seat K
seat_in (Vacant next) = seat 0 0 None
seat_in (Hidden tag charge) = seat charge tag None
seat_in (Keyed is_listed tag charge key) = listed_as is_listed (seat charge tag (Some key))
