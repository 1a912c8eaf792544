use Rattle.std.proofs.Common.{refl}
use Rattle.lru_clock.proofs.ApartMakings.{has_ended}
use Rattle.lru_clock.proofs.clock_core.Core.fail_number.Goals as goal

pub returns : goal.returns
returns g c = record {
  told = has_ended c.args.number c.args.state.now.makings c.end_number.new.self c.end_number.result c.in_default.not-Unknown c.end_number.ensures;
  seats = refl;
}
