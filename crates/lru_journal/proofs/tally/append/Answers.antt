use Rattle.std.proofs.Common.{ℕ, ◌≡◌, ◌<◌, ◌++◌, ◌∷◌, [], refl, sym, ◌∙◌, ap, subst, rules}
use Rattle.crossbeam_utils.specs.Seq.{cell_view}
use Rattle.lru_journal.specs.declared.tally.View.{View}
use Rattle.lru_journal.specs.declared.record.Record.{Record}
use Rattle.lru_journal.specs.Tallies.{Hand, hand, hand_with_receipt, knower, without_tally, only_tally, AllBelow}
use Rattle.lru_journal.proofs.Receipts.StepsOfCell.{appends_as, appended_as}
use Rattle.lru_journal.proofs.tally.append.Goals as goal

pub take_tally-mine-requires : goal.take_tally-mine-requires
take_tally-mine-requires g c = c.tally.invariant.0 ∙ sym c.requires.cell.0

pub add_tally-requires : goal.add_tally-requires
add_tally-requires g c =
    let m = c.take_tally-mine.ensures in
    (c.requires.cell.1 ∙ sym c.requires.cell.0, m.given.0 ∙ (c.tally.invariant.0 ∙ sym c.requires.cell.1), m.given.2)

pub swap_as-requires : goal.swap_as-requires
swap_as-requires g c =
    let m = c.take_tally-mine.ensures in
    let j = c.add_tally.ensures in
    (search rules, (search rules, (j.0.0 ∙ (c.requires.cell.1 ∙ sym c.requires.cell.0), appends_as _ (cell_view c.args.records_pass.now) (cell_view c.tally.inside.pass) (cell_view c.take_tally-mine.result) _ c.args.number g.E.Noted.made _ c.requires.records_pass.0 c.requires.records_pass.1 m.given.1 c.tally.invariant.2 j.1 refl)))

pub take_tally-requires : goal.take_tally-requires
take_tally-requires g c =
    let j = c.add_tally.ensures in
    let s = c.swap_as.ensures in
    s.cell.0 ∙ (j.0.0 ∙ (c.requires.cell.1 ∙ sym c.requires.cell.0))

pub returns : goal.returns
returns g c =
    let made = g.E.Noted.made in
    let j = c.add_tally.ensures in
    let s = c.swap_as.ensures in
    let t = c.take_tally.ensures in
    let now = appended_as (cell_view c.args.records_pass.now) (cell_view c.tally.inside.pass) (cell_view c.take_tally-mine.result) (cell_view c.add_tally.new.pass) (cell_view c.swap_as.new.pass) c.args.number made [] [] c.requires.records_pass.0 c.requires.records_pass.1 c.take_tally-mine.ensures.given.1 j.1 s.rule in
    let same : made ≡ c.args.noted.now = sym c.requires.noted in
    let all = (cell_view c.args.records_pass.now).all in
    record {
      records_pass = (t.kept.0.0 ∙ (s.cell.0 ∙ (j.0.0 ∙ c.requires.cell.1)), t.kept.1 ∙ (ap without_tally now.0 ∙ ap (λ (r : Record g.row.K.Denot). knower (all ++ r ∷ [])) same));
      tally = ap (λ (v : View g.row.K.Denot). hand v.parts v.receipts) (t.given.1 ∙ ap only_tally now.0) ∙ (ap (λ (h : Hand g.row.K.Denot). hand_with_receipt h c.args.number made) c.tally.view_is ∙ ap (λ (r : Record g.row.K.Denot). hand_with_receipt c.args.tally.now c.args.number r) same);
      past = subst (λ (h : Hand g.row.K.Denot). AllBelow c.args.number h.receipts) c.tally.view_is now.1;
    }

pub invariant_of-tally : goal.invariant_of-tally
invariant_of-tally g c =
    let j = c.add_tally.ensures in
    let s = c.swap_as.ensures in
    let t = c.take_tally.ensures in
    let now = appended_as (cell_view c.args.records_pass.now) (cell_view c.tally.inside.pass) (cell_view c.take_tally-mine.result) (cell_view c.add_tally.new.pass) (cell_view c.swap_as.new.pass) c.args.number g.E.Noted.made [] [] c.requires.records_pass.0 c.requires.records_pass.1 c.take_tally-mine.ensures.given.1 j.1 s.rule in
    let view_now = t.given.1 ∙ ap only_tally now.0 in
    (t.given.0 ∙ (s.cell.0 ∙ (j.0.0 ∙ c.requires.cell.1)), ap (λ (v : View g.row.K.Denot). v.keeps) view_now, subst (λ (n : ℕ). 0 < n) (sym (ap (λ (v : View g.row.K.Denot). v.parts) view_now)) c.tally.invariant.2)
