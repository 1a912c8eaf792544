use Rattle.std.proofs.Common.{[], refl}
use Rattle.std.specs.Arc.{arc_value}
use Rattle.concurrent_lru.specs.Request as ask
use Rattle.concurrent_lru.specs.Reply as say
use Rattle.lru_journal.proofs.Replays.JournalAfterStep.{adds, is_recorded}
use Rattle.lru_journal.proofs.journal.Journal.repin.Goals as goal

pub invariant_of-self-2 : goal.invariant_of-self-2
invariant_of-self-2 g c = (adds (ask.repin c.args.stamp) (say.pinned (arc_value c.in_ok-value.value)) [] c.self.invariant c.self.view_is c.in_ok-value.ensures.lawful c.in_ok-value.ensures.step c.reserve.ensures.items c.add_record.ensures refl).sound

pub returns : goal.returns
returns g c = let x = adds (ask.repin c.args.stamp) (say.pinned (arc_value c.in_ok-value.value)) [] c.self.invariant c.self.view_is c.in_ok-value.ensures.lawful c.in_ok-value.ensures.step c.reserve.ensures.items c.add_record.ensures refl in
    record { step = x.step; recorded = is_recorded x refl; history = x.sound.history }
