-- The words are copied one by one.
use Rattle.std.proofs.Common.{◌≡◌, ◌+◌, true, length, refl, sym, ap, ◌∙◌, subst, arith}
use Rattle.concurrent_lru.specs.Probing.Probes.{IsReached}
use Rattle.lru_clock.specs.Index.{IsSize, LacksWord, AreOnce, PutsIn, word_of}
use Rattle.lru_clock.proofs.Seating.Places.{got_one, seat_read}
use Rattle.lru_clock.proofs.Seating.Copies.{IsCopied, copied_none, copied_empty, copied_past, copied_lacks, copied_next, copied_all}
use Rattle.lru_clock.proofs.store.seats.copy_listed.Goals as goal
use Rattle.lru_clock.proofs.store.seats.copy_listed.Goals.{then-is_listed, else-is_listed}

pub loop-at-init : goal.loop-at-init
loop-at-init g c = record { long = refl; copied = copied_none c.args.seats.now c.args.words.now c.requires.zeros }

pub find_empty-to-requires : goal.find_empty-to-requires
find_empty-to-requires g c = record {
  ends = copied_empty c.args.seats.now c.loop-at.words c.loop-at.at c.loop-at.invariant.copied (omega (arith, c.requires.room, c.loop-at.invariant.long));
}

pub put-requires-clause-reached : goal.put-requires-clause-reached
put-requires-clause-reached g c = subst IsReached (sym c.find_empty-to.ensures.same) c.loop-at.invariant.copied.reached

pub put-requires-clause-apart : goal.put-requires-clause-apart
put-requires-clause-apart g c = subst AreOnce (sym c.find_empty-to.ensures.same) c.loop-at.invariant.copied.apart

pub put-requires-clause-absent : goal.put-requires-clause-absent
put-requires-clause-absent g c =
    let seats = c.args.seats.now in
    let first = seat_read seats c.loop-at.at c.index-seats-at.result c.loop-at-test.true c.index-seats-at.is in
    let second = seat_read seats c.loop-at.at c.index-seats-at-then-is_listed.result c.loop-at-test.true c.index-seats-at-then-is_listed.is in
    let is_so : c.index-seats-at.result.is_listed ≡ true = cc (c.is_listed.ensures, c.index-seats-at.is, c.if-is_listed.true) in
    let tag : c.tag.result ≡ c.index-seats-at-then-is_listed.result.tag = cc (c.tag.ensures, c.index-seats-at-then-is_listed.is) in
    let listed = ap (λ s. s.is_listed) (got_one seats c.loop-at.at c.index-seats-at-then-is_listed.result c.index-seats-at.result second first) ∙ is_so in
    subst (λ ws. LacksWord ws c.word_of-word.result) (sym c.find_empty-to.ensures.same)
    (subst (LacksWord c.loop-at.words) (sym (c.word_of-word.ensures ∙ ap (λ t. word_of t c.loop-at.at) tag))
    (copied_lacks seats c.loop-at.words c.loop-at.at c.index-seats-at-then-is_listed.result c.loop-at.invariant.copied second c.requires.index.1.tags listed))

pub loop-at-preserved : goal.loop-at-preserved
loop-at-preserved g c =
    let seats = c.args.seats.now in
    let first = seat_read seats c.loop-at.at c.index-seats-at.result c.loop-at-test.true c.index-seats-at.is in
    elim c.if-is_listed.branch [
      | then-is_listed w ↦
          let second = seat_read seats c.loop-at.at w.index-seats-at-then-is_listed.result c.loop-at-test.true w.index-seats-at-then-is_listed.is in
          let is_so : c.index-seats-at.result.is_listed ≡ true = cc (c.is_listed.ensures, c.index-seats-at.is, w.if-is_listed.true) in
          let tag : w.tag.result ≡ w.index-seats-at-then-is_listed.result.tag = cc (w.tag.ensures, w.index-seats-at-then-is_listed.is) in
          let listed = ap (λ s. s.is_listed) (got_one seats c.loop-at.at w.index-seats-at-then-is_listed.result c.index-seats-at.result second first) ∙ is_so in
          let puts = subst (λ ws. PutsIn ws w.put.new.self (word_of w.index-seats-at-then-is_listed.result.tag c.loop-at.at)) w.find_empty-to.ensures.same
          (subst (PutsIn w.find_empty-to.new.self w.put.new.self) (w.word_of-word.ensures ∙ ap (λ t. word_of t c.loop-at.at) tag) w.put.ensures) in
          record {
            long = ap length w.words-is ∙ puts.long ∙ c.loop-at.invariant.long;
            copied = subst (λ ws. IsCopied seats ws (c.loop-at.at + 1)) (sym w.words-is)
                (copied_next seats c.loop-at.words c.loop-at.at w.index-seats-at-then-is_listed.result c.loop-at.invariant.copied second c.requires.index.1.tags listed w.put.new.self puts);
          }
      | else-is_listed w ↦ record {
        long = ap length w.words-is ∙ c.loop-at.invariant.long;
        copied = subst (λ ws. IsCopied seats ws (c.loop-at.at + 1)) (sym w.words-is)
            (copied_past seats c.loop-at.words c.loop-at.at c.index-seats-at.result c.loop-at.invariant.copied first (cc (c.is_listed.ensures, c.index-seats-at.is, w.if-is_listed.false)));
      }
    ]

pub returns-clause-index : goal.returns-clause-index
returns-clause-index g c =
    copied_all g.K.PartialEq.eq c.args.seats.now c.requires.index.0 c.loop-at.words c.loop-at.at c.loop-at-test.false c.requires.index.1 c.loop-at.invariant.copied
    (omega (arith, c.requires.room, c.loop-at.invariant.long)) (subst IsSize (sym c.loop-at.invariant.long) c.requires.size)
