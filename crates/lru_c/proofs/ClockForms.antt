-- The pointers of C to clocks and readers, and the ones that boxes are made of.
use mathlib.Core.Path.{refl}
use Rattle.std.specs.Prelude.{Option}
use Rattle.lru_c.specs.ClockPointers.{HeldClock, HeldReader, clock_owns, reader_owns, clock_row, reader_row}
use Rattle.lru_c.specs.contracts.clock.handles.ClockAt as ClockAt
use Rattle.lru_c.specs.contracts.clock.handles.ReaderAt as ReaderAt
use Rattle.lru_c.proofs.Moved.{Form, at_form}

abbrev pub clock_handle : Form (Option HeldClock) clock_owns
clock_handle = record { row = ClockAt.the_row; name = ClockAt.the_type.name; at = λ d. d.at; alloc = λ d. d.alloc; held = λ d. d.held; make = λ p a h. record { at = p; alloc = a; held = h }; opens = λ d us. refl; shuts = λ p a h us. refl; tells = λ p a h. refl; last = λ x. tt; silent = λ x f. refl }

abbrev pub reader_handle : Form (Option HeldReader) reader_owns
reader_handle = record { row = ReaderAt.the_row; name = ReaderAt.the_type.name; at = λ d. d.at; alloc = λ d. d.alloc; held = λ d. d.held; make = λ p a h. record { at = p; alloc = a; held = h }; opens = λ d us. refl; shuts = λ p a h us. refl; tells = λ p a h. refl; last = λ x. tt; silent = λ x f. refl }

abbrev pub clock_pointer : Form (Option HeldClock) clock_owns
clock_pointer = at_form clock_row

abbrev pub reader_pointer : Form (Option HeldReader) reader_owns
reader_pointer = at_form reader_row
