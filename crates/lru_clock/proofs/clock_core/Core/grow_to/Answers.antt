-- Each round adds vacant places to those of the rounds before.
use Rattle.std.proofs.Common.{ap}
use Rattle.lru_clock.specs.declared.shard_state.ShardState.{ShardState}
use Rattle.lru_clock.proofs.Seating.Vacant.{both_added}
use Rattle.lru_clock.proofs.clock_core.Core.grow_to.Goals as goal

pub returns-in_err-grow-clause-seats : goal.returns-in_err-grow-clause-seats
returns-in_err-grow-clause-seats g c = both_added c.args.state.now.seats c.loop.state.seats c.grow.new.seats c.loop.invariant.seats c.grow.ensures.seats

pub loop-preserved : goal.loop-preserved
loop-preserved g c = record {
  same = ap {A = ShardState g.row.K.Denot} (λ s. record s { seats = c.grow.new.seats; order = c.grow.new.order }) c.loop.invariant.same;
  seats = both_added c.args.state.now.seats c.loop.state.seats c.grow.new.seats c.loop.invariant.seats c.grow.ensures.seats;
}
