use Rattle.std.proofs.Common.{◌≡◌, ◌+◌, sym, ◌∙◌, ap, arith}
use Rattle.crossbeam_utils.specs.Seq.{cell_view}
use Rattle.lru_journal.specs.declared.tally.View.{View}
use Rattle.lru_journal.specs.Tallies.{Hand, hand, view_with_view, hand_with_hand}
use Rattle.lru_journal.proofs.tally.Tally.join.Goals as goal

pub take_tally-given-requires : goal.take_tally-given-requires
take_tally-given-requires g c = c.other.invariant.0 ∙ sym c.cell-cell.ensures

pub add_tally-requires : goal.add_tally-requires
add_tally-requires g c =
    let m = c.take_tally-given.ensures in
    (c.self.invariant.0 ∙ sym c.cell-cell.ensures, m.given.0 ∙ (c.other.invariant.0 ∙ sym c.self.invariant.0), m.given.2)

pub returns : goal.returns
returns g c =
    let m = c.take_tally-given.ensures in
    let j = c.add_tally.ensures in
    let mine = cell_view c.self.inside.pass in
    let theirs = cell_view c.other.inside.pass in
    ap (λ (v : View g.row.K.Denot). hand v.parts v.receipts) (j.1 ∙ ap (λ (w : View g.row.K.Denot). view_with_view mine w) m.given.1) ∙ (ap (λ (h : Hand g.row.K.Denot). hand_with_hand h (hand theirs.parts theirs.receipts)) c.self.view_is ∙ ap (λ (h : Hand g.row.K.Denot). hand_with_hand c.args.self.now h) c.other.view_is)

pub invariant_of-self : goal.invariant_of-self
invariant_of-self g c =
    let j = c.add_tally.ensures in
    let i = c.self.invariant in
    let parts : (cell_view c.add_tally.new.pass).parts ≡ (cell_view c.self.inside.pass).parts + (cell_view c.take_tally-given.result).parts = ap (λ (v : View g.row.K.Denot). v.parts) j.1 in
    (j.0.0 ∙ i.0, ap (λ (v : View g.row.K.Denot). v.keeps) j.1 ∙ i.1, omega (arith, parts, i.2))
