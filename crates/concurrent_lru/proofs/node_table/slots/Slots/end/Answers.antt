use Rattle.std.proofs.Common.{arith, ap, ◌∙◌, inl, inr}
use Rattle.std.proofs.lemmas.Bool.{cases_eq, cases_lt}
use Rattle.concurrent_lru.specs.Cells.{cell_at}
use Rattle.concurrent_lru.proofs.node_table.slots.Slots.end.Goals as goal

pub loop-slot-preserved : goal.loop-slot-preserved
loop-slot-preserved g c = record {
  tied = c.free.ensures.tied;
  empty = λ k below. elim (cases_eq k c.loop-slot.slot) [
    | inl is ↦ ap (cell_at c.free.new.self.memory.cells) is ∙ c.free.ensures.vacant
    | inr ne ↦ c.free.ensures.others k ne ∙ c.loop-slot.invariant.empty k (omega (arith, below, ne))
  ];
  vacant = λ k was. elim (cases_eq k c.loop-slot.slot) [
    | inl is ↦ ap (cell_at c.free.new.self.memory.cells) is ∙ c.free.ensures.vacant
    | inr ne ↦ c.free.ensures.others k ne ∙ c.loop-slot.invariant.vacant k was
  ];
}

pub end-requires : goal.end-requires
end-requires g c k = elim (cases_lt k c.loop-slot.slot) [
  | inl below ↦ c.loop-slot.invariant.empty k below
  | inr from ↦ c.loop-slot.invariant.vacant k (c.end_of_slots-slot-end.ensures k (omega (arith, from, c.loop-slot-test.false)))
]
