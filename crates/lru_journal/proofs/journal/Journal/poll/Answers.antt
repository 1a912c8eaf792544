use Rattle.std.proofs.Common.{[], ap, ◌∙◌}
use Rattle.concurrent_lru.specs.Request as ask
use Rattle.concurrent_lru.specs.Results.{reply_of_begun}
use Rattle.lru_journal.specs.Records.{record_of}
use Rattle.lru_journal.proofs.Replays.JournalAfterStep.{adds, is_recorded, polled_told}
use Rattle.lru_journal.proofs.journal.Journal.poll.Goals as goal

pub invariant_of-self-2 : goal.invariant_of-self-2
invariant_of-self-2 g c = (adds (ask.poll c.args.stamp) (reply_of_begun c.in_ok-begun.begun) [] c.self.invariant c.self.view_is c.in_ok-begun.ensures.lawful c.in_ok-begun.ensures.step c.reserve.ensures.items c.add_record.ensures (ap (record_of _) (c.reply_begun-reply.ensures ∙ polled_told _ c.args.stamp c.in_ok-begun.begun))).sound

pub returns : goal.returns
returns g c = let x = adds (ask.poll c.args.stamp) (reply_of_begun c.in_ok-begun.begun) [] c.self.invariant c.self.view_is c.in_ok-begun.ensures.lawful c.in_ok-begun.ensures.step c.reserve.ensures.items c.add_record.ensures (ap (record_of _) (c.reply_begun-reply.ensures ∙ polled_told _ c.args.stamp c.in_ok-begun.begun)) in
    record { step = x.step; recorded = is_recorded x (ap (record_of _) c.reply_begun-reply.ensures); never_overflow = tt; history = x.sound.history }
