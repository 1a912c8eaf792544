use Rattle.lru_journal.proofs.Replays.JournalAfterStep.{opens}
use Rattle.lru_journal.proofs.journal.Journal.with_seed.Goals as goal

pub invariant_of-result : goal.invariant_of-result
invariant_of-result g c = opens c.args.capacity c.requires c.with_seed.ensures.empty c.new.ensures.items
