-- The words are looked at one by one.
use Rattle.std.proofs.Common.{◌≡◌, ◌<◌, length, sym, ap, ◌∙◌, subst, arith}
use Rattle.std.proofs.Math.ListN.{get_or}
use Rattle.lru_clock.specs.Bits.{LacksFrom, IsLowest}
use Rattle.lru_clock.proofs.FirstBits.{cell_of, first_found, first_past}
use Rattle.lru_clock.proofs.order.bits.Bits.first_from.Goals as goal

pub returns-in-Some-clause-first : goal.returns-in-Some-clause-first
returns-in-Some-clause-first c =
    let words = c.args.self.now in
    let at = c.loop-at.at in
    let within : at < length words = omega (arith, c.loop-at-test.true, c.len-at-end.ensures, c.self.inside.words.ok.0, ap length c.self.view_is) in
    let word : get_or words at 0 ≡ c.index.result.now = cell_of words at c.index.result.now within (c.index.ensures ∙ ap (λ l. get_or l at c.index.result.now) c.self.view_is) in
    sym (c.loop-at.invariant.passed ∙ first_found words at c.loop-at.bit (length words) c.in-Some.found within (subst (λ w. IsLowest w c.loop-at.bit c.in-Some.found) (sym word) c.in-Some.ensures))

pub loop-at-preserved : goal.loop-at-preserved
loop-at-preserved c =
    let words = c.args.self.now in
    let at = c.loop-at.at in
    let within : at < length words = omega (arith, c.loop-at-test.true, c.len-at-end.ensures, c.self.inside.words.ok.0, ap length c.self.view_is) in
    let word : get_or words at 0 ≡ c.index.result.now = cell_of words at c.index.result.now within (c.index.ensures ∙ ap (λ l. get_or l at c.index.result.now) c.self.view_is) in
    record {
      within = omega arith;
      passed = c.loop-at.invariant.passed ∙ first_past words at c.loop-at.bit (length words) within c.loop-at.invariant.within (subst (λ w. LacksFrom w c.loop-at.bit) (sym word) c.in_default.ensures);
    }
