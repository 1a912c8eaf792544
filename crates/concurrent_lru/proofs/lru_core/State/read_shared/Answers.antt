use Rattle.std.proofs.Common.{◌+◌, ◌≤◌, [], refl, ap, subst, arith}
use Rattle.concurrent_lru.specs.Cache.{IsLawful}
use Rattle.concurrent_lru.specs.Request as ask
use Rattle.concurrent_lru.specs.Results.{reply_of_found_by}
use Rattle.concurrent_lru.specs.Steps.{Hits, Step}
use Rattle.concurrent_lru.proofs.Steps.InOneGo.{read_stands, read_writes}
use Rattle.concurrent_lru.proofs.lru_core.State.read_shared.Goals as goal
use Rattle.concurrent_lru.proofs.lru_core.State.read_shared.Goals.{Joined-evicted}

lawful : (g : _) (c : Joined-evicted g) → IsLawful g.K.PartialEq.eq c.args.self.now.cache
lawful g c = subst (IsLawful g.K.PartialEq.eq) (ap (λ x. x.cache) c.self.view_is) c.self.invariant.lawful

hit : (g : _) (c : Joined-evicted g) → Hits g.K.PartialEq.eq c.args.self.now.cache c.args.key.now c.in-Some.stamp (g.M.Sharing.seen c.in-Some.value) [] c.get.new.self.cache
hit g c = subst (λ found. Step g.K.PartialEq.eq c.args.self.now.cache (ask.get c.args.key.now) (reply_of_found_by g.M.Sharing.seen found) [] c.get.new.self.cache) c.in-Some.is c.in_ok-stamp.ensures.step

pub returns-clause-step : goal.returns-clause-step
returns-clause-step g c = read_stands g.K.PartialEq.eq c.args.self.now.cache c.get.new.self.cache (lawful g c) c.args.key.now c.in-Some.stamp (g.M.Sharing.seen c.in-Some.value) g.M.Sharing.seen c.release-evicted.new.self.cache c.in-Some.value c.release-evicted.result refl (hit g c) c.release-evicted.ensures.step

pub returns-clause-work : goal.returns-clause-work
returns-clause-work g c =
    let first : c.get.new.self.work ≤ c.args.self.now.work + 1 = let work = c.in_ok-stamp.ensures.work in omega (arith, work) in
    read_writes g.K.PartialEq.eq c.args.self.now.cache c.get.new.self.cache (lawful g c) c.args.key.now c.in-Some.stamp (g.M.Sharing.seen c.in-Some.value) c.args.self.now c.get.new.self c.release-evicted.new.self c.release-evicted.result first c.release-evicted.ensures.work (hit g c) c.release-evicted.ensures.step
