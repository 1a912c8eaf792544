use Rattle.std.proofs.Common.{rules}
use Rattle.lru_journal.proofs.Receipts.StepsOfCell.{begins}
use Rattle.lru_journal.proofs.tally.Opening.new.Goals as goal

pub ruled-requires : goal.ruled-requires
ruled-requires g c = (search rules, (search rules, begins))
