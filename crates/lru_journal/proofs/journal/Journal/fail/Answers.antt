use Rattle.std.proofs.Common.{[], ap, ◌∙◌}
use Rattle.concurrent_lru.specs.Request as ask
use Rattle.concurrent_lru.specs.Results.{reply_of_failed}
use Rattle.lru_journal.specs.Records.{record_of}
use Rattle.lru_journal.proofs.Replays.JournalAfterStep.{adds, failed_told, is_recorded}
use Rattle.lru_journal.proofs.journal.Journal.fail.Goals as goal

pub invariant_of-self-2 : goal.invariant_of-self-2
invariant_of-self-2 g c = (adds (ask.fail c.args.stamp) (reply_of_failed c.in_ok-failed.failed) [] c.self.invariant c.self.view_is c.in_ok-failed.ensures.lawful c.in_ok-failed.ensures.step c.reserve.ensures.items c.add_record.ensures (ap (record_of _) (c.reply_failed-reply.ensures ∙ failed_told _ c.args.stamp c.in_ok-failed.failed))).sound

pub returns : goal.returns
returns g c = let x = adds (ask.fail c.args.stamp) (reply_of_failed c.in_ok-failed.failed) [] c.self.invariant c.self.view_is c.in_ok-failed.ensures.lawful c.in_ok-failed.ensures.step c.reserve.ensures.items c.add_record.ensures (ap (record_of _) (c.reply_failed-reply.ensures ∙ failed_told _ c.args.stamp c.in_ok-failed.failed)) in
    record { step = x.step; recorded = is_recorded x (ap (record_of _) c.reply_failed-reply.ensures); never_overflow = tt; history = x.sound.history }
