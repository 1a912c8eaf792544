use Rattle.std.proofs.Common.{ap, ◌∙◌}
use Rattle.concurrent_lru.specs.Request as ask
use Rattle.concurrent_lru.specs.Results.{reply_of_begun}
use Rattle.lru_journal.specs.Records.{record_of}
use Rattle.lru_journal.proofs.Replays.JournalAfterStep.{adds, begun_told, is_recorded}
use Rattle.lru_journal.proofs.journal.Journal.begin.Goals as goal

pub invariant_of-self-2 : goal.invariant_of-self-2
invariant_of-self-2 g c = (adds (ask.begin c.in_ok-copy.copy c.args.charge) (reply_of_begun c.in_ok-begun.begun) c.in_ok-begun.evicted c.self.invariant c.self.view_is c.in_ok-begun.ensures.lawful c.in_ok-begun.ensures.step c.reserve.ensures.items c.add_record.ensures (ap (record_of _) (c.reply_begun-reply.ensures ∙ begun_told _ c.in_ok-copy.copy c.args.charge c.in_ok-begun.begun))).sound

pub returns : goal.returns
returns g c = let x = adds (ask.begin c.in_ok-copy.copy c.args.charge) (reply_of_begun c.in_ok-begun.begun) c.in_ok-begun.evicted c.self.invariant c.self.view_is c.in_ok-begun.ensures.lawful c.in_ok-begun.ensures.step c.reserve.ensures.items c.add_record.ensures (ap (record_of _) (c.reply_begun-reply.ensures ∙ begun_told _ c.in_ok-copy.copy c.args.charge c.in_ok-begun.begun)) in
    record { step = (c.in_ok-copy.copy, c.self.invariant.copies _ _ c.in_ok-copy.ensures.cases, x.step); recorded = is_recorded x (c.in_ok-copy.copy, c.self.invariant.copies _ _ c.in_ok-copy.ensures.cases, ap (record_of _) c.reply_begun-reply.ensures); never_stale = tt; history = x.sound.history }
