use Rattle.std.proofs.Common.{rules}
use Rattle.concurrent_lru.specs.Texts.{string_of}
use Rattle.concurrent_lru.proofs.as_key.RefStrAsKeyString.is_key.Goals as goal

pub returns : goal.returns
unfolding string_of
returns c = search rules
