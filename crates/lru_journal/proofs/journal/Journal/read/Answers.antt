use Rattle.std.proofs.Common.{refl, ap, ◌∙◌, subst}
use Rattle.std.specs.Fn.{FnOnceReturnsAt}
use Rattle.concurrent_lru.specs.Reads.{Finds}
use Rattle.lru_journal.specs.Journals.{Journaled}
use Rattle.concurrent_lru.specs.Request as ask
use Rattle.lru_journal.specs.Records.{record_of}
use Rattle.lru_journal.proofs.Replays.JournalAfterRead.{keeps_read, accepts_read, answers_some, no_room_read, refuses_read}
use Rattle.lru_journal.proofs.journal.Journal.read.Goals as goal

pub read-requires : goal.read-requires
read-requires g c = record {
  callable = λ v found. c.requires.callable c.in_ok-copy.copy v (c.self.invariant.copies _ _ c.in_ok-copy.ensures.cases)
      (subst (λ (j : Journaled g.row.K.Denot g.row.V.Denot). Finds g.K.PartialEq.eq j.cache c.in_ok-copy.copy v) c.self.view_is found);
}

pub returns-in_err-reserve-clause-step : goal.returns-in_err-reserve-clause-step
returns-in_err-reserve-clause-step g c = (c.args.key.now, g.met.K.Eq.laws.refl _, no_room_read g.K.PartialEq.eq c.args.key.now (FnOnceReturnsAt g.G.FnOnce c.args.reader) c.from_residual.result _ c.from_residual.ensures.1 refl (ap (λ l. record { cache = c.self.inside.state.cache; records = l; began = c.self.inside.began }) c.reserve.ensures.items ∙ c.self.view_is))

pub returns-in_err-copy-clause-step : goal.returns-in_err-copy-clause-step
returns-in_err-copy-clause-step g c = (c.args.key.now, g.met.K.Eq.laws.refl _, no_room_read g.K.PartialEq.eq c.args.key.now (FnOnceReturnsAt g.G.FnOnce c.args.reader) c.from_residual-in_err-copy.result _ c.from_residual-in_err-copy.ensures.1 refl (ap (λ l. record { cache = c.self.inside.state.cache; records = l; began = c.self.inside.began }) c.reserve.ensures.items ∙ c.self.view_is))

pub returns-in_err-found-clause-step : goal.returns-in_err-found-clause-step
returns-in_err-found-clause-step g c = (c.in_ok-copy.copy, c.self.invariant.copies _ _ c.in_ok-copy.ensures.cases, refuses_read g.K.PartialEq.eq c.in_ok-copy.copy (FnOnceReturnsAt g.G.FnOnce c.args.reader) c.from_residual-in_err-found.result _ c.from_residual-in_err-found.ensures.1 c.self.view_is c.in_err-found.ensures.step c.reserve.ensures.items)

pub invariant_of-self-2 : goal.invariant_of-self-2
invariant_of-self-2 g c = keeps_read c.in_ok-copy.copy (FnOnceReturnsAt g.G.FnOnce c.args.reader) c.in_ok-found.found c.self.invariant c.in_ok-found.ensures.lawful c.in_ok-found.ensures.step c.reserve.ensures.items c.add_record.ensures (ap (record_of (ask.read c.in_ok-copy.copy)) c.reply_found-reply.ensures)

pub returns-clause-step : goal.returns-clause-step
returns-clause-step g c = (
  c.in_ok-copy.copy,
  c.self.invariant.copies _ _ c.in_ok-copy.ensures.cases,
  accepts_read g.K.PartialEq.eq c.in_ok-copy.copy (FnOnceReturnsAt g.G.FnOnce c.args.reader) c.in_ok-found.found c.self.view_is c.in_ok-found.ensures.step c.reserve.ensures.items c.add_record.ensures
      (ap (record_of (ask.read c.in_ok-copy.copy)) c.reply_found-reply.ensures),
)

pub returns-clause-answered : goal.returns-clause-answered
returns-clause-answered g c = answers_some g.K.PartialEq.eq _ _ c.in_ok-copy.copy (FnOnceReturnsAt g.G.FnOnce c.args.reader) c.in_ok-found.found c.in_ok-found.ensures.step

pub returns-clause-history : goal.returns-clause-history
returns-clause-history g c = (keeps_read c.in_ok-copy.copy (FnOnceReturnsAt g.G.FnOnce c.args.reader) c.in_ok-found.found c.self.invariant c.in_ok-found.ensures.lawful c.in_ok-found.ensures.step c.reserve.ensures.items c.add_record.ensures (ap (record_of (ask.read c.in_ok-copy.copy)) c.reply_found-reply.ensures)).history
