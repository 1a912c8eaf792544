-- The three runs of an eviction.
use Rattle.lru_clock.proofs.Evicting.{second_leaves, third_ends}
use Rattle.lru_clock.proofs.clock_core.Core.evict.Goals as goal

pub returns-in-Some-evict_by_hand-clause-run : goal.returns-in-Some-evict_by_hand-clause-run
returns-in-Some-evict_by_hand-clause-run g c =
    second_leaves c.args.state.now.seats c.evict_by_second.new.state.seats c.evict_by_hand.new.state.seats
    c.args.state.now.order c.evict_by_second.new.state.order c.evict_by_hand.new.state.order
    c.args.looks.now.made c.evict_by_second.new.looks.made c.evict_by_hand.new.looks.made c.in-Some-evict_by_hand.left
    c.in_default.ensures.run c.in-Some-evict_by_hand.ensures.run

pub returns-clause-run : goal.returns-clause-run
returns-clause-run g c =
    third_ends c.args.state.now.seats c.evict_by_second.new.state.seats c.evict_by_hand.new.state.seats c.evict_by_hand-2.new.state.seats
    c.args.state.now.order c.evict_by_second.new.state.order c.evict_by_hand.new.state.order c.evict_by_hand-2.new.state.order
    c.args.looks.now.made c.evict_by_second.new.looks.made c.evict_by_hand.new.looks.made c.evict_by_hand-2.new.looks.made c.evict_by_hand-2.result
    c.in_default.ensures.run c.in_default-evict_by_hand.ensures.run c.evict_by_hand-2.ensures.run
