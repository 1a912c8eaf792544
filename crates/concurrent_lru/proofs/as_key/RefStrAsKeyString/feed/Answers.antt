use Rattle.std.proofs.Common.{rules}
use Rattle.concurrent_lru.specs.Texts.{string_of}
use Rattle.concurrent_lru.proofs.as_key.RefStrAsKeyString.feed.Goals as goal

pub returns : goal.returns
unfolding string_of
returns g c = search rules
