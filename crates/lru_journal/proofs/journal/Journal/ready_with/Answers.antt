use Rattle.std.proofs.Common.{refl}
use Rattle.concurrent_lru.specs.Request as ask
use Rattle.concurrent_lru.specs.Reply as say
use Rattle.lru_journal.proofs.Replays.JournalAfterStep.{adds, is_recorded}
use Rattle.lru_journal.proofs.journal.Journal.ready_with.Goals as goal

pub invariant_of-self-2 : goal.invariant_of-self-2
invariant_of-self-2 g c = (adds (ask.ready_with c.args.stamp c.args.value.value c.args.charge) say.done c.in_ok-evicted.evicted c.self.invariant c.self.view_is c.in_ok-evicted.ensures.lawful c.in_ok-evicted.ensures.step c.reserve.ensures.items c.add_record.ensures refl).sound

pub returns : goal.returns
returns g c = let x = adds (ask.ready_with c.args.stamp c.args.value.value c.args.charge) say.done c.in_ok-evicted.evicted c.self.invariant c.self.view_is c.in_ok-evicted.ensures.lawful c.in_ok-evicted.ensures.step c.reserve.ensures.items c.add_record.ensures refl in
    record { step = x.step; recorded = is_recorded x refl; back = tt; history = x.sound.history }
