-- The hole moves on, up to where nothing is reached over it, and is emptied there.
use Rattle.std.proofs.Common.{◌≡◌, ◌≢◌, ℕ, ◌-◌, ◌<◌, List, length, set, refl, sym, ap, ◌∙◌, subst}
use Rattle.std.proofs.lemmas.List.{length-set}
use Rattle.concurrent_lru.specs.Probing.Cycle.{next_of, steps}
use Rattle.concurrent_lru.specs.Probing.Probes.{mark_at, IsFilledAt, IsReached}
use Rattle.concurrent_lru.specs.Probing.Gaps.{IsGap}
use Rattle.concurrent_lru.proofs.Probing.Gaps.{gap_start, gap_further, gap_end}
use Rattle.lru_clock.specs.Index.{Rearranges}
use Rattle.lru_clock.proofs.Words.Cells.{rearranges_refl, rearranges_trans, taken_out}
use Rattle.lru_clock.proofs.Words.Holes.{mark_beside, filled_beside}
use Rattle.lru_clock.proofs.index.words.Words.take_out.Goals as goal

pub loop-self-init : goal.loop-self-init
loop-self-init c =
    let ws : List ℕ = c.args.self.now in
    let n = length ws in
    let next : c.next_of-at.result ≡ next_of n c.args.from = c.next_of-at.ensures.next ∙ ap (λ n. next_of n c.args.from) c.count-count.ensures.count in
    record {
      long = refl;
      count = c.count-count.ensures.count;
      gap = subst (IsGap n (set ws c.args.from 0) c.args.from c.args.from) (sym next) (gap_start n ws c.args.from refl c.requires.ends c.requires.within c.requires.filled c.requires.reached);
      same = rearranges_refl (set ws c.args.from 0);
    }

-- the words as they were read, with what is known of the hole and of the word at the next position
module _ (n : ℕ) (ws got : List ℕ) (same : got ≡ ws) (long : length ws ≡ n) (start hole at word : ℕ) (is : word ≡ mark_at ws at) (gap : IsGap n (set ws hole 0) start hole at) where
  filled : word ≢ 0 → IsFilledAt got at
  filled h none = h (is ∙ ap (λ ms. mark_at ms at) (sym same) ∙ none)

  long_got : length got ≡ n
  long_got = ap length same ∙ long

  gap_got : IsGap (length got) (set got hole 0) start hole at
  gap_got = subst (λ m. IsGap m (set got hole 0) start hole at) (sym long_got) (subst (λ ms. IsGap n (set ms hole 0) start hole at) (sym same) gap)

  next_is : (count next : ℕ) → count ≡ n → next ≡ next_of count at → next ≡ next_of n at
  next_is count next counted to = to ∙ ap (λ m. next_of m at) counted

  further : (count next : ℕ) → count ≡ n → next ≡ next_of count at → word ≢ 0 → n - steps n start next < n - steps n start at
  further count next counted to h =
      subst (λ m. n - steps n start m < n - steps n start at) (sym (next_is count next counted to))
      (gap_further n (set ws hole 0) start hole at gap (filled_beside n ws start hole at gap (λ none. h (is ∙ none))))

  goes_on : (new : List ℕ) (count next result : ℕ) → count ≡ n → next ≡ next_of count at
      → IsGap (length got) (set new result 0) start result (next_of (length got) at) → IsGap n (set new result 0) start result next
  goes_on new count next result counted to h =
      subst (IsGap n (set new result 0) start result) (sym (next_is count next counted to))
      (subst (λ m. IsGap m (set new result 0) start result (next_of m at)) long_got h)

  over : (new : List ℕ) → new ≡ set got hole 0 → word ≡ 0 → IsReached new
  over new to none =
      let e : new ≡ set ws hole 0 = to ∙ ap (λ ms. set ms hole 0) same in
      let all : length (set ws hole 0) ≡ n = length-set ws hole 0 ∙ long in
      subst IsReached (sym e) (gap_end (length (set ws hole 0)) (set ws hole 0) start hole at (subst (λ m. IsGap m (set ws hole 0) start hole at) (sym all) gap)
      (mark_beside n ws start hole at gap ∙ sym is ∙ none))

  closed : (old new : List ℕ) (from : ℕ) → new ≡ set got hole 0 → Rearranges (set old from 0) (set ws hole 0) → Rearranges (set old from 0) new
  closed old new from to moved = subst (Rearranges (set old from 0)) (sym (to ∙ ap (λ ms. set ms hole 0) same)) moved

pub loop-self-smaller : goal.loop-self-smaller
loop-self-smaller c =
    let inv = c.loop-self.invariant in
    further (length c.args.self.now) c.loop-self.self c.get.new.self c.get.ensures.same inv.long c.args.from c.loop-self.hole c.loop-self.at c.get.result c.get.ensures.word inv.gap
    c.count-count.result c.next_of-at-in-loop-self.result inv.count c.next_of-at-in-loop-self.ensures.next c.loop-self-test.true

pub loop-self-preserved : goal.loop-self-preserved
loop-self-preserved c =
    let inv = c.loop-self.invariant in
    let n = length c.args.self.now in
    let on = c.close_hole-hole.ensures in
    let ws : List ℕ = c.loop-self.self in
    let got : List ℕ = c.get.new.self in
    let new : List ℕ = c.close_hole-hole.new.self in
    let hole = c.loop-self.hole in
    let result = c.close_hole-hole.result in
    let same = c.get.ensures.same in
    record {
      long = on.long ∙ ap length same ∙ inv.long;
      count = inv.count;
      gap = goes_on n ws got same inv.long c.args.from hole c.loop-self.at c.get.result c.get.ensures.word inv.gap new c.count-count.result c.next_of-at-in-loop-self.result result inv.count c.next_of-at-in-loop-self.ensures.next
          (on.gap c.args.from (gap_got n ws got same inv.long c.args.from hole c.loop-self.at c.get.result c.get.ensures.word inv.gap));
      same = rearranges_trans (set c.args.self.now c.args.from 0) (set ws hole 0) (set new result 0) inv.same (subst (λ ms. Rearranges (set ms hole 0) (set new result 0)) same on.same);
    }

pub returns : goal.returns
returns c =
    let inv = c.loop-self.invariant in
    let n = length c.args.self.now in
    let ws : List ℕ = c.loop-self.self in
    let got : List ℕ = c.get.new.self in
    let new : List ℕ = c.set.new.self in
    let hole = c.loop-self.hole in
    let same = c.get.ensures.same in
    taken_out c.args.self.now c.args.from c.requires.within c.requires.filled c.requires.apart new
    (over n ws got same inv.long c.args.from hole c.loop-self.at c.get.result c.get.ensures.word inv.gap new c.set.ensures c.loop-self-test.false)
    (closed n ws got same inv.long c.args.from hole c.loop-self.at c.get.result c.get.ensures.word inv.gap c.args.self.now new c.args.from c.set.ensures inv.same)
