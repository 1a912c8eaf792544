use Rattle.std.specs.Fn.{FnOnceReturnsAt}
use Rattle.concurrent_lru.proofs.AddedUp.CountsOfSteps.{soundly_read}
use Rattle.concurrent_lru.proofs.Steps.ValuesRead.{found_fits, read_kept, read_fits, read_overflows}
use Rattle.concurrent_lru.proofs.locked.Locked.read.Goals as goal

pub read-found-requires : goal.read-found-requires
read-found-requires g c = record {
  callable = λ v found. c.requires.callable v (found_fits g.K.PartialEq.eq g.F.Fit.fits c.self.inside.state.cache (g.Q.AsKey.owned c.args.key) c.self.invariant.kept v g.met.F.Fit.equal_keys found);
}

pub invariant_of-self : goal.invariant_of-self
invariant_of-self g c =
    let old = c.self.inside.state.cache in
    let new = c.read-found.new.self.cache in
    let answers = FnOnceReturnsAt g.G.FnOnce c.args.reader in
    record {
      counted = soundly_read {E = g.K.PartialEq.eq} old new c.self.inside.counts c.count_look.new.counts (g.Q.AsKey.owned c.args.key) answers c.read-found.result c.self.invariant.counted c.read-found.ensures.step c.read-found.ensures.lawful c.count_look.ensures;
      kept = read_kept g.K.PartialEq.eq g.F.Fit.fits old new (g.Q.AsKey.owned c.args.key) c.self.invariant.kept answers c.read-found.result c.read-found.ensures.step;
    }

pub returns-clause-fits : goal.returns-clause-fits
returns-clause-fits g c = read_fits g.K.PartialEq.eq g.F.Fit.fits c.self.inside.state.cache c.read-found.new.self.cache (g.Q.AsKey.owned c.args.key) c.self.invariant.kept (FnOnceReturnsAt g.G.FnOnce c.args.reader) c.read-found.result g.met.F.Fit.equal_keys c.read-found.ensures.step

pub returns-clause-refused : goal.returns-clause-refused
returns-clause-refused g c = read_overflows g.K.PartialEq.eq c.self.inside.state.cache c.read-found.new.self.cache (g.Q.AsKey.owned c.args.key) (FnOnceReturnsAt g.G.FnOnce c.args.reader) c.read-found.result c.read-found.ensures.step
