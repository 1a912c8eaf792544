use Rattle.std.proofs.Common.{◌≡◌, vec_len}
use Rattle.concurrent_lru.proofs.sharded.route.Routes.new.Given as goal

abbrev pub invariant-loop : goal.invariant-loop
invariant-loop g l = vec_len l.caches ≡ l.counter
