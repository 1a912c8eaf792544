use Rattle.std.proofs.Common.{[], ap, ◌∙◌}
use Rattle.concurrent_lru.specs.Request as ask
use Rattle.concurrent_lru.specs.Results.{reply_of_found}
use Rattle.lru_journal.specs.Records.{record_of}
use Rattle.lru_journal.proofs.Replays.JournalAfterStep.{adds, found_told, is_recorded}
use Rattle.lru_journal.proofs.journal.Journal.get.Goals as goal

pub invariant_of-self-2 : goal.invariant_of-self-2
invariant_of-self-2 g c = (adds (ask.get c.in_ok-copy.copy) (reply_of_found c.in_ok-found.found) [] c.self.invariant c.self.view_is c.in_ok-found.ensures.lawful c.in_ok-found.ensures.step c.reserve.ensures.items c.add_record.ensures (ap (record_of _) (c.reply_found-reply.ensures ∙ found_told _ c.in_ok-copy.copy c.in_ok-found.found))).sound

pub returns : goal.returns
returns g c = let x = adds (ask.get c.in_ok-copy.copy) (reply_of_found c.in_ok-found.found) [] c.self.invariant c.self.view_is c.in_ok-found.ensures.lawful c.in_ok-found.ensures.step c.reserve.ensures.items c.add_record.ensures (ap (record_of _) (c.reply_found-reply.ensures ∙ found_told _ c.in_ok-copy.copy c.in_ok-found.found)) in
    record { step = (c.in_ok-copy.copy, c.self.invariant.copies _ _ c.in_ok-copy.ensures.cases, x.step); recorded = is_recorded x (c.in_ok-copy.copy, c.self.invariant.copies _ _ c.in_ok-copy.ensures.cases, ap (record_of _) c.reply_found-reply.ensures); never_stale = tt; history = x.sound.history }
