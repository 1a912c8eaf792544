use Rattle.std.proofs.Common.{ap, refl}
use Rattle.lru_c.specs.BytesCalls.{IsKeyOf}
use Rattle.lru_c.specs.Inserts.{TellsInsertBy}
use Rattle.lru_c.specs.Keys.{bytes_eq}
use Rattle.lru_c.proofs.Inserted.{insert_of}
use Rattle.lru_c.proofs.bytes.cache.Cache+Bytes+Bytes.insert.Goals as goal

pub returns-clause-tells : goal.returns-clause-tells
returns-clause-tells c =
    insert_of (TellsInsertBy bytes_eq c.args.strict) (IsKeyOf c.args.key.now c.args.hash) c.args.self.now.state.cache c.insert-answer.new.state.cache c.args.charge c.args.value c.insert-answer.result.0 c.insert-answer.result.1.0 c.insert-answer.result.1.1 c.keep.new.self.state.cache c.keep.new.self.room c.if-charge-eq0.false
    (ap (λ s. s.cache) c.keep.ensures.state) (c.if-not-keep.ensures.kept refl) c.insert-answer.ensures
