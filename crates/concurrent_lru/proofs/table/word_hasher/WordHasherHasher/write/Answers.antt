use Rattle.std.proofs.Common.{◌≡◌, suc, ◌+◌, ◌-◌, ◌*◌, ◌/◌, take, drop, refl, sym, ap, ◌∙◌, arith}
use Rattle.std.specs.Hash.FoldHasher as folding
use Rattle.concurrent_lru.specs.WordHashes.{words}
use Rattle.concurrent_lru.proofs.table.word_hasher.WordHasherHasher.write.Goals as goal

pub loop-at-init : goal.loop-at-init
loop-at-init c = record { within = omega arith; whole = refl; state = refl }

pub loop-at-preserved : goal.loop-at-preserved
loop-at-preserved c =
    let at = c.loop-at.at in
    let bytes = c.args.bytes.now in
    let whole : 8 * (at / 8) ≡ at = c.loop-at.invariant.whole in
    let next : (at + 8) / 8 ≡ suc (at / 8) = omega (arith, whole) in
    let eight : at + 8 - at ≡ 8 = omega arith in
    record {
      within = omega (arith, c.loop-at-test.true);
      whole = omega (arith, whole);
      state = c.write.ensures ∙ (λ i. folding.write (c.loop-at.invariant.state i) (take (eight i) (drop (sym whole i) bytes))) ∙ sym (ap (words c.args.self.now.inner bytes) next);
    }
