use Rattle.std.proofs.Common.{◌≡◌, ◌-◌, sym, ◌∙◌, ap, rules, arith}
use Rattle.crossbeam_utils.specs.Seq.{cell_view}
use Rattle.lru_journal.specs.declared.tally.View.{View}
use Rattle.lru_journal.specs.Tallies.{Hand, hand}
use Rattle.lru_journal.proofs.Receipts.StepsOfCell.{cuts}
use Rattle.lru_journal.proofs.tally.Tally.split.Goals as goal

pub split_pass-pass-requires : goal.split_pass-pass-requires
split_pass-pass-requires g c = (search rules, (search rules, (c.self.invariant.0 ∙ sym c.cell.ensures, cuts _ _ (let e = ap (λ h. h.parts) c.self.view_is in omega (arith, e, c.requires)))))

pub returns : goal.returns
returns g c =
    let t = c.split_pass-pass.ensures in
    record {
      given = ap (λ (v : View g.row.K.Denot). hand v.parts v.receipts) t.given.1;
      kept = ap (λ (v : View g.row.K.Denot). hand v.parts v.receipts) t.kept.1 ∙ ap (λ (h : Hand g.row.K.Denot). hand (h.parts - 1) h.receipts) c.self.view_is;
    }

pub invariant_of-self : goal.invariant_of-self
invariant_of-self g c =
    let t = c.split_pass-pass.ensures in
    let i = c.self.invariant in
    let parts : (cell_view c.split_pass-pass.new.pass).parts ≡ (cell_view c.self.inside.pass).parts - 1 = ap (λ (v : View g.row.K.Denot). v.parts) t.kept.1 in
    let e : (cell_view c.self.inside.pass).parts ≡ c.args.self.now.parts = ap (λ (h : Hand g.row.K.Denot). h.parts) c.self.view_is in
    (t.kept.0.0 ∙ i.0, ap (λ (v : View g.row.K.Denot). v.keeps) t.kept.1 ∙ i.1, omega (arith, parts, e, c.requires))

pub invariant_of-result : goal.invariant_of-result
invariant_of-result g c =
    let t = c.split_pass-pass.ensures in
    let parts : (cell_view c.split_pass-pass.result).parts ≡ 1 = ap (λ (v : View g.row.K.Denot). v.parts) t.given.1 in
    (t.given.0 ∙ c.self.invariant.0, ap (λ (v : View g.row.K.Denot). v.keeps) t.given.1, omega (arith, parts))
