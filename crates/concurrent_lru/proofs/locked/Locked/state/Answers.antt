use Rattle.std.proofs.Common.{subst}
use Rattle.concurrent_lru.specs.Ready.{ValuesFit}
use Rattle.concurrent_lru.proofs.locked.Locked.state.Goals as goal

pub returns-clause-kept : goal.returns-clause-kept
returns-clause-kept g c = subst (λ x. ValuesFit g.F.Fit.fits x.cache) c.self.view_is c.self.invariant.kept
