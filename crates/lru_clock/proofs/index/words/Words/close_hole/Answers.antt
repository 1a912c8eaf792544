-- A word stays, or moves back into the hole.
use Rattle.std.proofs.Common.{◌≡◌, ℕ, List, length, set, sym, ap, ◌∙◌, subst, arith}
use Rattle.std.proofs.lemmas.List.{length-set, set-set}
use Rattle.concurrent_lru.specs.Probing.Cycle.{next_of, steps, home_of}
use Rattle.concurrent_lru.specs.Probing.Probes.{mark_at}
use Rattle.concurrent_lru.specs.Probing.Gaps.{IsGap}
use Rattle.concurrent_lru.proofs.Probing.Gaps.{gap_keep, gap_move}
use Rattle.lru_clock.specs.Index.{Rearranges}
use Rattle.lru_clock.proofs.Words.Cells.{rearranges_refl, rearranged}
use Rattle.lru_clock.proofs.Words.Holes.{mark_beside, filled_beside}
use Rattle.lru_clock.proofs.index.words.Words.close_hole.Goals as goal

-- the steps that were counted
counted : (ws : List ℕ) (n at count word home far : ℕ) → count ≡ n → word ≡ mark_at ws at → home ≡ home_of count word → far ≡ steps count home at
    → far ≡ steps n (home_of n (mark_at ws at)) at
counted ws n at count word home far long is to by = by ∙ (λ i. steps (long i) ((to ∙ (λ j. home_of (long j) (is j))) i) at)

-- the words with the word moved, and the position that it leaves emptied
moved_is : (ws new : List ℕ) (hole at word : ℕ) → new ≡ set ws hole word → word ≡ mark_at (set ws hole 0) at
    → set new at 0 ≡ set (set (set ws hole 0) hole (mark_at (set ws hole 0) at)) at 0
moved_is ws new hole at word is same =
    ap (λ l. set l at 0) (is ∙ ap (set ws hole) same ∙ sym (set-set ws hole 0 (mark_at (set ws hole 0) at)))

pub returns-then-steps_between-clause-long : goal.returns-then-steps_between-clause-long
returns-then-steps_between-clause-long c = ap length c.get-word.ensures.same

pub returns-then-steps_between-clause-gap : goal.returns-then-steps_between-clause-gap
returns-then-steps_between-clause-gap c start gap =
    let ws : List ℕ = c.args.self.now in
    let n = length ws in
    let without = set ws c.args.hole 0 in
    let word : c.get-word.result ≡ mark_at without c.args.at = c.get-word.ensures.word ∙ sym (mark_beside n ws start c.args.hole c.args.at gap) in
    let one = counted without n c.args.at c.count-count.result c.get-word.result c.home_of-home.result c.steps_between.result c.count-count.ensures.count word c.home_of-home.ensures.home c.steps_between.ensures in
    let two : c.steps_between-2.result ≡ steps n c.args.hole c.args.at = c.steps_between-2.ensures ∙ ap (λ n. steps n c.args.hole c.args.at) c.count-count.ensures.count in
    subst (λ ms. IsGap n (set ms c.args.hole 0) start c.args.hole (next_of n c.args.at)) (sym c.get-word.ensures.same)
    (gap_keep n without start c.args.hole c.args.at gap (filled_beside n ws start c.args.hole c.args.at gap c.requires.filled) (omega (arith, one, two, c.if-steps_between.true)))

pub returns-then-steps_between-clause-same : goal.returns-then-steps_between-clause-same
returns-then-steps_between-clause-same c =
    subst (λ ms. Rearranges (set c.args.self.now c.args.hole 0) (set ms c.args.hole 0)) (sym c.get-word.ensures.same) (rearranges_refl (set c.args.self.now c.args.hole 0))

-- the words after the word was moved
news_are : (ws first second : List ℕ) (hole word : ℕ) → first ≡ ws → second ≡ set first hole word → second ≡ set ws hole word
news_are ws first second hole word a b = b ∙ ap (λ l. set l hole word) a

pub returns-clause-long : goal.returns-clause-long
returns-clause-long c =
    ap length c.set.ensures ∙ length-set c.get-word.new.self c.args.hole c.get-word.result ∙ ap length c.get-word.ensures.same

pub returns-clause-gap : goal.returns-clause-gap
returns-clause-gap c start gap =
    let ws : List ℕ = c.args.self.now in
    let n = length ws in
    let without = set ws c.args.hole 0 in
    let word : c.get-word.result ≡ mark_at without c.args.at = c.get-word.ensures.word ∙ sym (mark_beside n ws start c.args.hole c.args.at gap) in
    let one = counted without n c.args.at c.count-count.result c.get-word.result c.home_of-home.result c.steps_between.result c.count-count.ensures.count word c.home_of-home.ensures.home c.steps_between.ensures in
    let two : c.steps_between-2.result ≡ steps n c.args.hole c.args.at = c.steps_between-2.ensures ∙ ap (λ n. steps n c.args.hole c.args.at) c.count-count.ensures.count in
    subst (λ ms. IsGap n ms start c.args.at (next_of n c.args.at))
    (sym (moved_is ws c.set.new.self c.args.hole c.args.at c.get-word.result (news_are ws c.get-word.new.self c.set.new.self c.args.hole c.get-word.result c.get-word.ensures.same c.set.ensures) word))
    (gap_move n without start c.args.hole c.args.at gap (filled_beside n ws start c.args.hole c.args.at gap c.requires.filled) (omega (arith, one, two, c.if-steps_between.false)))

pub returns-clause-same : goal.returns-clause-same
returns-clause-same c =
    let ws : List ℕ = c.args.self.now in
    let n = length ws in
    let without = set ws c.args.hole 0 in
    let start = c.requires.gap.0 in
    let gap = c.requires.gap.1 in
    let word : c.get-word.result ≡ mark_at without c.args.at = c.get-word.ensures.word ∙ sym (mark_beside n ws start c.args.hole c.args.at gap) in
    let long : length without ≡ n = length-set ws c.args.hole 0 in
    subst (Rearranges without)
    (sym (moved_is ws c.set.new.self c.args.hole c.args.at c.get-word.result (news_are ws c.get-word.new.self c.set.new.self c.args.hole c.get-word.result c.get-word.ensures.same c.set.ensures) word))
    (rearranged without c.args.hole c.args.at (omega (arith, long, c.requires.hole)) (omega (arith, long, c.requires.at)) gap.vacant (filled_beside n ws start c.args.hole c.args.at gap c.requires.filled))
