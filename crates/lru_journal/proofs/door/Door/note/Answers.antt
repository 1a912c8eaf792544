use Rattle.std.proofs.Common.{ℕ, ◌≡◌, [], ◌∷◌, ◌++◌, Result, IfOk, length, sym, ◌∙◌, ap, subst}
use Rattle.crossbeam_utils.specs.Seq.{cell_view}
use Rattle.lru_journal.specs.declared.record.Record.{Record}
use Rattle.lru_journal.specs.Tallies.{hand_with_receipt, knower, AllBelow, Receives}
use Rattle.lru_journal.proofs.Receipts.Positions.{count_last, last_is}
use Rattle.lru_journal.proofs.door.Door.note.Goals as goal

pub append-requires-clause-records_pass : goal.append-requires-clause-records_pass
append-requires-clause-records_pass g c =
    let all = (cell_view c.args.records_pass.now).all in
    let last = subst (λ (a : Result g.row.T.Denot g.row.E.Denot). IfOk a (λ _. (r : Record g.row.K.Denot) × (c.args.journal.now.records ≡ all ++ r ∷ []))) c.in-Ok.is c.requires.added in
    (c.requires.records_pass.1, count_last all c.records-records.result.now last.0 (c.records-records.ensures.records ∙ last.1))

pub returns-in-Ok-clause-records_pass : goal.returns-in-Ok-clause-records_pass
returns-in-Ok-clause-records_pass g c =
    let all = (cell_view c.args.records_pass.now).all in
    let last = subst (λ (a : Result g.row.T.Denot g.row.E.Denot). IfOk a (λ _. (r : Record g.row.K.Denot) × (c.args.journal.now.records ≡ all ++ r ∷ []))) c.in-Ok.is c.requires.added in
    let a = c.append.ensures in
    let i = c.index-records-number in
    let added = last_is all c.records-records.result.now last.0 i.result (c.records-records.ensures.records ∙ last.1) i.is in
    (a.records_pass.0, a.records_pass.1 ∙ ap knower (ap (λ (r : Record g.row.K.Denot). all ++ r ∷ []) added ∙ sym last.1))

pub returns-in-Ok-clause-accepted : goal.returns-in-Ok-clause-accepted
returns-in-Ok-clause-accepted g c =
    let all = (cell_view c.args.records_pass.now).all in
    let xs = c.records-records.result.now in
    let a = c.append.ensures in
    let i = c.index-records-number in
    subst (λ (x : Result g.row.T.Denot g.row.E.Denot). IfOk x (λ _. (r : Record g.row.K.Denot) → c.args.journal.now.records ≡ all ++ r ∷ [] → Receives c.args.tally.now r c.append.new.tally)) (sym c.in-Ok.is) (λ r is.
    let e = c.records-records.ensures.records ∙ is in
    let count = sym (count_last all xs r e) in
    record {
      position = length all;
      past = subst (λ (n : ℕ). AllBelow n c.args.tally.now.receipts) count a.past;
      gains = a.tally ∙ (λ j. hand_with_receipt c.args.tally.now (count j) (last_is all xs r i.result e i.is j));
    })
