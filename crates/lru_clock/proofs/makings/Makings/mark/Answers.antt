-- The makings stay apart.
use Rattle.std.proofs.Common.{◌<◌, length, refl, arith}
use Rattle.std.proofs.lemmas.Option.{slice_get_read}
use Rattle.lru_clock.proofs.ApartMakings.{apart_marked}
use Rattle.lru_clock.proofs.makings.Makings.mark.Goals as goal

pub invariant_of-self : goal.invariant_of-self
invariant_of-self g c =
    let items = c.self.inside.makings.items in
    let at = c.args.at in
    let m = c.index_mut.result.now in
    let within : at < length items = omega (arith, c.if-at-len.false, c.len.ensures, c.self.inside.makings.ok.0) in
    apart_marked g.K.PartialEq.eq c.self.inside.next_number at items m (slice_get_read items (length items) at m refl within c.index_mut.ensures.value) c.self.invariant
