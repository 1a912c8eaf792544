use Rattle.std.proofs.Common.{ap, refl}
use Rattle.lru_c.specs.BytesCalls.{IsKeyOf}
use Rattle.lru_c.specs.Keys.{bytes_eq}
use Rattle.lru_c.specs.Told.{begin_by}
use Rattle.lru_c.proofs.ByKey.{by_key}
use Rattle.lru_c.proofs.Cases.{where_is_not}
use Rattle.lru_c.proofs.bytes.cache.Cache+Bytes+Bytes.begin.Goals as goal

pub returns-clause-asks : goal.returns-clause-asks
returns-clause-asks c =
    where_is_not c.args.charge 0 _ _ c.if-charge-eq0.false
    (by_key bytes_eq (IsKeyOf c.args.key.now c.args.hash) c.args.self.now.state.cache c.keep.new.self.state.cache c.begin-answer.new.state.cache (λ k. begin_by c.args.strict k c.args.charge) c.keep.new.self.room c.begin-answer.result.0 c.begin-answer.result.1
    (ap (λ s. s.cache) c.keep.ensures.state) (c.if-not-keep.ensures.kept refl) c.begin-answer.ensures)
