use Rattle.std.proofs.Common.{rules}
use Rattle.lru_journal.proofs.Receipts.StepsOfCell.{takes}
use Rattle.lru_journal.proofs.tally.add_tally.Goals as goal

pub join_pass-requires : goal.join_pass-requires
join_pass-requires g c = (search rules, (search rules, (c.requires, takes _ _ _ _)))
