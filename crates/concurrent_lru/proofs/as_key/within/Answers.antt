use Rattle.std.proofs.Common.{sym, arith}
use Rattle.concurrent_lru.proofs.Texts.{text_is}
use Rattle.concurrent_lru.proofs.as_key.within.Goals as goal

pub returns : goal.returns
returns c = sym (text_is c.args.text.now c.utf8.text (omega arith))
