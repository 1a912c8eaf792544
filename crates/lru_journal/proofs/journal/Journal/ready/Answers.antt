use Rattle.std.proofs.Common.{rules, [], inr, refl, subst}
use Rattle.concurrent_lru.specs.Request as ask
use Rattle.concurrent_lru.specs.Reply as say
use Rattle.concurrent_lru.specs.Runs.{Refuses}
use Rattle.concurrent_lru.specs.declared.refusal.Refusal.TheVariants.{Stale}
use Rattle.lru_journal.proofs.Replays.JournalAfterStep.{keeps_on}
use Rattle.lru_journal.proofs.journal.Journal.ready.Goals as goal

pub invariant_of-self-2 : goal.invariant_of-self-2
invariant_of-self-2 g c = keeps_on (ask.ready c.args.stamp c.args.value.value) say.done [] c.self.invariant c.in_default.ensures.lawful c.in_default.ensures.step c.reserve.ensures.items c.add_record.ensures refl

pub returns-clause-history : goal.returns-clause-history
returns-clause-history g c = (keeps_on (ask.ready c.args.stamp c.args.value.value) say.done [] c.self.invariant c.in_default.ensures.lawful c.in_default.ensures.step c.reserve.ensures.items c.add_record.ensures refl).history

pub returns-in-Err-clause-step : goal.returns-in-Err-clause-step
returns-in-Err-clause-step g c = (inr (subst (λ j. Refuses g.K.PartialEq.eq j.cache (ask.ready c.args.stamp c.args.value.value) Stale) c.self.view_is c.in-Err.ensures.step.0), search rules)
