use Rattle.std.proofs.Common.{◌≡◌, ℕ, ◌-◌, ◌/◌, ◌<◌, length, ap, ◌∙◌, subst, arith}
use Rattle.std.specs.Option.{MatchOption}
use Rattle.lru_sizing.specs.Curves.{hits_in, IsLeastFor}
use Rattle.lru_sizing.specs.Estimates.{EstimatedCurve, estimated_hits}
use Rattle.lru_sizing.proofs.Estimates.{least_estimate}
use Rattle.lru_sizing.proofs.estimate.Estimate.least_capacity.Goals as goal

pub returns : goal.returns
returns c =
    let seen : EstimatedCurve = record { one_in = c.self.inside.sample.one_in; uses = c.self.inside.uses; sampled = c.self.inside.sampled } in
    let few : c.saturating_sub.result ≡ c.self.inside.sampled.uses - (c.self.inside.uses - c.args.hits) / c.self.inside.sample.one_in =
    c.saturating_sub.ensures ∙ ap (λ u. u - c.in_ok-misses.field-0 / c.self.inside.sample.one_in) c.uses-uses.ensures ∙ ap (λ m. c.self.inside.sampled.uses - m / c.self.inside.sample.one_in) c.in_ok-misses.ensures.1 in
    subst (λ (e : EstimatedCurve). MatchOption c.least_capacity.result ((capacity : ℕ) → estimated_hits capacity e < c.args.hits) (IsLeastFor c.args.hits (λ capacity. estimated_hits capacity e))) c.self.view_is
    (least_estimate seen c.args.hits (omega arith) c.self.inside.sample.some c.in_ok-misses.ensures.0 c.least_capacity.result
    (subst (λ n. MatchOption c.least_capacity.result (length c.self.inside.sampled.weights < n) (IsLeastFor n (λ capacity. hits_in capacity c.self.inside.sampled))) few c.least_capacity.ensures))
