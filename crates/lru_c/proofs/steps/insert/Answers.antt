use Rattle.lru_c.proofs.Inserted.{tells_insert, tells_strict_insert}
use Rattle.lru_c.proofs.steps.insert.Goals as goal

pub returns-then-strict : goal.returns-then-strict
returns-then-strict g c =
    rw c.if-strict.true (tells_strict_insert g.K.PartialEq.eq c.args.state.now.cache c.insert_strictly_at.new.self.cache c.args.key.now c.args.charge c.args.value c.insert_strictly_at.result c.told_of_insert.result.0 c.told_of_insert.result.1.0 c.told_of_insert.result.1.1 c.told_of_insert.ensures c.insert_strictly_at.ensures.step c.insert_strictly_at.ensures.lawful)

pub returns-else-strict : goal.returns-else-strict
returns-else-strict g c =
    rw c.if-strict.false (tells_insert g.K.PartialEq.eq c.args.state.now.cache c.insert_at.new.self.cache c.args.key.now c.args.charge c.args.value c.insert_at.result c.told_of_insert-else-strict.result.0 c.told_of_insert-else-strict.result.1.0 c.told_of_insert-else-strict.result.1.1 c.told_of_insert-else-strict.ensures c.insert_at.ensures.step c.insert_at.ensures.lawful)
