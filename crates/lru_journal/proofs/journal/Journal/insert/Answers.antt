use Rattle.std.proofs.Common.{◌++◌, refl}
use Rattle.concurrent_lru.specs.Request as ask
use Rattle.concurrent_lru.specs.Reply as say
use Rattle.lru_journal.proofs.Replays.JournalAfterStep.{adds, is_recorded}
use Rattle.lru_journal.proofs.journal.Journal.insert.Goals as goal

pub invariant_of-self-2 : goal.invariant_of-self-2
invariant_of-self-2 g c = (adds (ask.insert c.in-Ok.copy c.args.charge c.args.value.value) (say.inserted c.in_ok-inserted.inserted.stamp) (c.in_ok-inserted.inserted.replaced ++ c.in_ok-inserted.inserted.evicted) c.self.invariant c.self.view_is c.in_ok-inserted.ensures.lawful c.in_ok-inserted.ensures.request c.reserve.ensures.items c.add_record.ensures refl).sound

pub returns : goal.returns
returns g c = let x = adds (ask.insert c.in-Ok.copy c.args.charge c.args.value.value) (say.inserted c.in_ok-inserted.inserted.stamp) (c.in_ok-inserted.inserted.replaced ++ c.in_ok-inserted.inserted.evicted) c.self.invariant c.self.view_is c.in_ok-inserted.ensures.lawful c.in_ok-inserted.ensures.request c.reserve.ensures.items c.add_record.ensures refl in
    record { step = (c.in-Ok.copy, c.self.invariant.copies _ _ c.in-Ok.ensures.cases, x.step); recorded = is_recorded x (c.in-Ok.copy, c.self.invariant.copies _ _ c.in-Ok.ensures.cases, refl); back = tt; never_stale = tt; history = x.sound.history }
