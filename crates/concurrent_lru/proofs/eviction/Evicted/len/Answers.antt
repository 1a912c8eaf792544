use Rattle.std.proofs.Common.{◌≡◌, ℕ, ◌+◌, length, arith, ap, ◌∙◌}
use Rattle.concurrent_lru.specs.Chain.{idle_in_chain}
use Rattle.concurrent_lru.proofs.eviction.Evicted.len.Goals as goal

none_yet : (n : ℕ) → 0 + n ≡ n
none_yet n = omega arith

pub loop-seen-init : goal.loop-seen-init
loop-seen-init g c = λ _. none_yet (length (idle_in_chain c.self.inside.first)) ∙ ap length c.self.view_is

pub loop-seen-preserved : goal.loop-seen-preserved
loop-seen-preserved g c = λ small.
    let before = c.loop-seen.invariant small in
    let less = ap length c.in-Some.ensures.steps in
    let next = c.saturating_add-len.ensures in
    omega (arith, small, before, less, next)

pub returns : goal.returns
returns g c = λ small.
    let before = c.loop-seen.invariant small in
    let none = ap length c.in_default.ensures.steps.0 in
    omega (arith, before, none)
