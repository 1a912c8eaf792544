-- Ghosts: the tags of keys whose entries left, each with the part that its entry left.
use Rattle.std.specs.Prelude.{ℕ, ◌+◌, ◌*◌, ◌/◌, ◌%◌, ◌==◌, cond, List, length, count_by, Option, None, Some}
use Rattle.std.proofs.Math.ListN.{get_or, set}
use Rattle.lru_clock.specs.declared.order.Part.{Part}
use Rattle.lru_clock.specs.declared.order.Part.TheVariants.{Trial, Main}

-- the last two bits of the ghost of an entry that left this part
abbrev pub mark_of : Part → ℕ
mark_of Trial = 2
mark_of Main = 3

-- the word of a ghost: the upper 30 bits of the tag, and the mark of the part
abbrev pub ghost : ℕ → Part → ℕ
ghost tag part = tag / 4 * 4 + mark_of part

-- where the ghost of a tag may be, and what is there
abbrev pub home : List ℕ → ℕ → ℕ
home ghosts tag = tag % length ghosts

abbrev pub ghost_at : List ℕ → ℕ → ℕ
ghost_at ghosts tag = get_or ghosts (home ghosts tag) 0

-- the part that the ghost of a tag left, if there is such a ghost
abbrev pub part_left : List ℕ → ℕ → Option Part
part_left ghosts tag = cond (ghost_at ghosts tag == ghost tag Trial) (Some Trial) (cond (ghost_at ghosts tag == ghost tag Main) (Some Main) None)

-- the ghosts after that of a tag was added, and after it was removed
abbrev pub with_ghost : List ℕ → ℕ → Part → List ℕ
with_ghost ghosts tag part = set ghosts (home ghosts tag) (ghost tag part)

abbrev pub without_ghost : List ℕ → ℕ → List ℕ
without_ghost ghosts tag = set ghosts (home ghosts tag) 0

-- how many ghosts left this part
abbrev pub ghosts_of : Part → List ℕ → ℕ
ghosts_of part ghosts = count_by (λ word. word % 4 == mark_of part) ghosts
