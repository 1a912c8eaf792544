use Rattle.std.proofs.Common.{refl}
use Rattle.concurrent_lru.specs.Request as ask
use Rattle.concurrent_lru.specs.Reply as say
use Rattle.lru_journal.proofs.Replays.JournalAfterStep.{adds, is_recorded}
use Rattle.lru_journal.proofs.journal.Journal.advice_evict.Goals as goal

pub invariant_of-self-2 : goal.invariant_of-self-2
invariant_of-self-2 g c = (adds (ask.advice_evict c.in_ok-copy.copy) say.done c.advice_evict-evicted.result c.self.invariant c.self.view_is c.advice_evict-evicted.ensures.lawful c.advice_evict-evicted.ensures.step c.reserve.ensures.items c.add_record.ensures refl).sound

pub returns : goal.returns
returns g c = let x = adds (ask.advice_evict c.in_ok-copy.copy) say.done c.advice_evict-evicted.result c.self.invariant c.self.view_is c.advice_evict-evicted.ensures.lawful c.advice_evict-evicted.ensures.step c.reserve.ensures.items c.add_record.ensures refl in
    record { step = (c.in_ok-copy.copy, c.self.invariant.copies _ _ c.in_ok-copy.ensures.cases, x.step); recorded = is_recorded x (c.in_ok-copy.copy, c.self.invariant.copies _ _ c.in_ok-copy.ensures.cases, refl); memory = tt; history = x.sound.history }
