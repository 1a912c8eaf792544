use Rattle.std.proofs.Common.{[], sym, ◌∙◌, ap, rules, subst}
use Rattle.crossbeam_utils.specs.Seq.{cell_view}
use Rattle.lru_journal.specs.Tallies.{Hand, AreExactly}
use Rattle.lru_journal.proofs.Receipts.StepsOfCell.{checks_as, checked_as}
use Rattle.lru_journal.proofs.twin_state.TwinState.close.Goals as goal

pub take_tally-whole-requires : goal.take_tally-whole-requires
take_tally-whole-requires g c = c.tally.invariant.0 ∙ sym c.requires.cell

pub add_tally-requires : goal.add_tally-requires
add_tally-requires g c =
    let m = c.take_tally-whole.ensures in
    (c.self.invariant.0 ∙ sym c.requires.cell, m.given.0 ∙ (c.tally.invariant.0 ∙ sym c.self.invariant.0), m.given.2)

pub load_as-requires : goal.load_as-requires
load_as-requires g c =
    let m = c.take_tally-whole.ensures in
    let j = c.add_tally.ensures in
    (search rules, (search rules, (j.0.0 ∙ (c.self.invariant.0 ∙ sym c.requires.cell), checks_as _ c.self.inside.journal.records (cell_view c.self.inside.records_pass) (cell_view c.tally.inside.pass) (cell_view c.take_tally-whole.result) _ c.self.invariant.1 m.given.1 j.1 (ap (λ h. h.parts) c.tally.view_is ∙ c.requires.whole))))

pub returns : goal.returns
returns g c =
    let records = c.self.inside.journal.records in
    let shown = checked_as records (cell_view c.self.inside.records_pass) (cell_view c.tally.inside.pass) (cell_view c.take_tally-whole.result) (cell_view c.add_tally.new.pass) (cell_view c.load_as.new.pass) [] [] c.self.invariant.1 c.take_tally-whole.ensures.given.1 c.add_tally.ensures.1 c.load_as.ensures.rule in
    record {
      journal = c.self.view_is;
      began = c.self.invariant.2;
      exactly = subst (λ (h : Hand g.row.K.Denot). AreExactly records h.receipts) c.tally.view_is shown;
    }
