-- The codes that calls return to C, by their names in the header.
use Rattle.std.specs.Prelude.{ℕ}

abbrev pub make : ℕ
make = 0

abbrev pub wait : ℕ
wait = 1

abbrev pub hit : ℕ
hit = 2

abbrev pub done : ℕ
done = 3

abbrev pub left : ℕ
left = 4

abbrev pub removed : ℕ
removed = 5

abbrev pub missed : ℕ
missed = 6

abbrev pub overflow : ℕ
overflow = 7

abbrev pub stale : ℕ
stale = 8

abbrev pub memory : ℕ
memory = 9

abbrev pub number : ℕ
number = 10

abbrev pub no_charge : ℕ
no_charge = 11

abbrev pub no_pins : ℕ
no_pins = 12

abbrev pub closed : ℕ
closed = 14

abbrev pub opened : ℕ
opened = 15

abbrev pub not_empty : ℕ
not_empty = 16

abbrev pub no_room : ℕ
no_room = 17

abbrev pub pinned : ℕ
pinned = 18

abbrev pub other_keys : ℕ
other_keys = 19

abbrev pub full : ℕ
full = 20

abbrev pub no_kind : ℕ
no_kind = 21

abbrev pub gone : ℕ
gone = 22

abbrev pub last : ℕ
last = 23

abbrev pub replaced : ℕ
replaced = 24

abbrev pub above : ℕ
above = 25
