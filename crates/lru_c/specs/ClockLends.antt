-- What the pointers of C to clocks and readers lead to once a `&mut` that was lent from them has
-- ended.
use Rattle.std.specs.Prelude.{Some}
use Rattle.std.specs.Borrow.{Fml, Lends, MutBor}
use Rattle.lru_c.specs.ClockPointers.{HeldClock, HeldReader, clock_row, reader_row}
use Rattle.lru_c.specs.declared.clock.handles.ClockAt.{ClockAt}
use Rattle.lru_c.specs.declared.clock.handles.ReaderAt.{ReaderAt}
use Rattle.lru_c.specs.contracts.clock.handles.ClockAt as ClockAt
use Rattle.lru_c.specs.contracts.clock.handles.ReaderAt as ReaderAt

-- the pointer leads to the last value behind the reference that was lent
abbrev pub lends_clock : MutBor ClockAt → MutBor HeldClock → Fml
lends_clock p r = Lends ClockAt.the_row clock_row p r (λ w. record p.now { held = Some w })

abbrev pub lends_reader : MutBor ReaderAt → MutBor HeldReader → Fml
lends_reader p r = Lends ReaderAt.the_row reader_row p r (λ w. record p.now { held = Some w })
