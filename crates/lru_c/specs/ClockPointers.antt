-- What the pointers of C to clocks and readers lead to, and own.
use Rattle.std.specs.Prelude.{Option}
use Rattle.std.specs.Coded.{coded_option}
use base.Fml.{Fml}
use base.Stored.{Coded}
use denote.RattleType.{RattleType}
use denote.RawPtr.{Ptr}
use Rattle.std.specs.Global.{Global}
use Rattle.std_heap.specs.contracts.GlobalAllocator.TheImpl.{ghosts}
use Rattle.lru_c.specs.Held.{held_owns}
use Rattle.lru_c.specs.contracts.clock.locked.Clock as Clock
use Rattle.lru_c.specs.contracts.clock.reader.Reader as Reader

abbrev pub clock_row : RattleType
clock_row = Clock.the_row

abbrev pub reader_row : RattleType
reader_row = Reader.the_row

abbrev pub HeldClock : Type 0
HeldClock = clock_row.Denot

abbrev pub HeldReader : Type 0
HeldReader = reader_row.Denot

abbrev pub clock_owns : Global → Ptr → Option HeldClock → Fml
clock_owns alloc = held_owns (ghosts.dealloc_token alloc) clock_row

abbrev pub reader_owns : Global → Ptr → Option HeldReader → Fml
reader_owns alloc = held_owns (ghosts.dealloc_token alloc) reader_row

abbrev pub clock_coded : Coded (Option HeldClock)
clock_coded = coded_option clock_row.coded

abbrev pub reader_coded : Coded (Option HeldReader)
reader_coded = coded_option reader_row.coded
