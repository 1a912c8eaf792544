use Rattle.std.proofs.lemmas.Bool.{iff_false}
use Rattle.lru_c.proofs.ChainCodes.{more}
use Rattle.lru_c.proofs.chain.Chain.emptiness_code.Goals as goal

pub returns-then-not-is_empty : goal.returns-then-not-is_empty
returns-then-not-is_empty g c = more c.args.self.now.first c.args.self.now.rest (iff_false c.is_empty.ensures c.if-not-is_empty.true)
