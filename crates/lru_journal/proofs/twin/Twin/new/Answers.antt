use Rattle.std.proofs.Common.{◌≡◌, sym, ◌∙◌, ap, arith}
use Rattle.crossbeam_utils.specs.Seq.{cell_view}
use Rattle.lru_journal.specs.declared.tally.View.{View}
use Rattle.lru_journal.specs.Journals.{Journaled}
use Rattle.lru_journal.specs.Tallies.{Name, hand, only_tally, without_tally, knower, all_parts}
use Rattle.lru_journal.proofs.twin.Twin.new.Goals as goal

pub take_tally-pass-requires : goal.take_tally-pass-requires
take_tally-pass-requires g c = c.opening.invariant.0

pub returns : goal.returns
returns g c =
    let t = c.take_tally-pass.ensures in
    ap (λ (v : View g.row.K.Denot). hand v.parts v.receipts) (t.given.1 ∙ ap only_tally c.opening.invariant.1)

pub invariant_of-state : goal.invariant_of-state
invariant_of-state g c =
    let t = c.take_tally-pass.ensures in
    let named = c.opening.view_is ∙ c.requires.named in (
      t.kept.0.0 ∙ (c.opening.invariant.0 ∙ ap (λ (n : Name). n.table) named),
      t.kept.1 ∙ (ap without_tally c.opening.invariant.1 ∙ sym (ap (λ (j : Journaled g.row.K.Denot g.row.V.Denot). knower j.records) c.new.ensures)),
      ap (λ (j : Journaled g.row.K.Denot g.row.V.Denot). j.began) c.new.ensures ∙ ap (λ (n : Name). n.capacity) named,
    )

pub invariant_of-tally : goal.invariant_of-tally
invariant_of-tally g c =
    let t = c.take_tally-pass.ensures in
    let named = c.opening.view_is ∙ c.requires.named in
    let here = t.given.1 ∙ ap only_tally c.opening.invariant.1 in
    let parts : (cell_view c.take_tally-pass.result).parts ≡ all_parts = ap (λ (v : View g.row.K.Denot). v.parts) here in
    (t.given.0 ∙ (c.opening.invariant.0 ∙ ap (λ (n : Name). n.table) named), ap (λ (v : View g.row.K.Denot). v.keeps) here, omega (arith, parts))
