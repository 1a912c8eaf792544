use Rattle.std.proofs.Common.{rules}
use Rattle.lru_journal.proofs.Receipts.StepsOfCell.{gives}
use Rattle.lru_journal.proofs.tally.take_tally.Goals as goal

pub split_pass-requires : goal.split_pass-requires
split_pass-requires g c = (search rules, (search rules, (c.requires, gives _ _)))
