-- The words are passed one by one.
use Rattle.std.proofs.Common.{◌≡◌, ◌≢◌, ℕ, List, length, refl, sym, ap, ◌∙◌, subst}
use Rattle.concurrent_lru.specs.Probing.Cycle.{next_of}
use Rattle.concurrent_lru.specs.Probing.Probes.{mark_at}
use Rattle.lru_clock.specs.Index.{IsSize}
use Rattle.lru_clock.proofs.Seating.Searches.{ends_with, found, next_walk, next_shorter, next_others, lacks_here, tag_here}
use Rattle.lru_clock.proofs.store.search.find_key.Goals as goal
use Rattle.lru_clock.proofs.store.search.find_key.Goals.{then-tag_of-tag+else-has_key, else-tag_of-tag}

-- the word that was read is the one that is known
read : (old now : List ℕ) (at word : ℕ) → now ≡ old → word ≡ mark_at now at → word ≡ mark_at old at
read old now at word same is = is ∙ ap (λ ms. mark_at ms at) same

size_of : (ws : List ℕ) (count : ℕ) → count ≡ length ws → IsSize count → IsSize (length ws)
size_of ws count long size = subst IsSize long size

next_at : (ws : List ℕ) (count at next : ℕ) → count ≡ length ws → next ≡ next_of count at → next ≡ next_of (length ws) at
next_at ws count at next long to = to ∙ ap (λ n. next_of n at) long

pub returns-then-word-eq0-clause-found : goal.returns-then-word-eq0-clause-found
returns-then-word-eq0-clause-found g c =
    let inv = c.loop-tag.invariant in
    let ws : List ℕ = c.args.words.now in
    let is = read ws c.loop-tag.words c.loop-tag.at c.get-word.result inv.same c.get-word.ensures.word in
    ends_with g.K.PartialEq.eq c.args.seats.now ws c.requires (size_of ws c.count-count.result c.count-count.ensures.count c.count-count.ensures.size)
    c.args.tag c.args.key.now c.loop-tag.at inv.walk (sym is ∙ c.if-word-eq0.true) inv.others

pub returns-then-has_key-clause-found : goal.returns-then-has_key-clause-found
returns-then-has_key-clause-found g c =
    let inv = c.loop-tag.invariant in
    let ws : List ℕ = c.args.words.now in
    let is = read ws c.loop-tag.words c.loop-tag.at c.get-word.result inv.same c.get-word.ensures.word in
    found g.K.PartialEq.eq c.args.seats.now ws c.requires (size_of ws c.count-count.result c.count-count.ensures.count c.count-count.ensures.size)
    c.args.tag c.args.key.now c.loop-tag.at inv.walk c.get-word.result c.past_place-place.result _ is c.if-word-eq0.false (sym c.tag_of.ensures ∙ c.if-tag_of-tag.true) c.past_place-place.ensures refl
    (c.has_key.ensures.yes c.if-has_key.true)

pub loop-tag-smaller : goal.loop-tag-smaller
loop-tag-smaller g c =
    let inv = c.loop-tag.invariant in
    let ws : List ℕ = c.args.words.now in
    let is = read ws c.loop-tag.words c.loop-tag.at c.get-word.result inv.same c.get-word.ensures.word in
    next_shorter g.K.PartialEq.eq c.args.seats.now ws c.requires (size_of ws c.count-count.result c.count-count.ensures.count c.count-count.ensures.size)
    c.args.tag c.args.key.now c.loop-tag.at inv.walk (λ none. c.if-word-eq0.false (is ∙ none)) c.next_of-at.result (next_at ws c.count-count.result c.loop-tag.at c.next_of-at.result c.count-count.ensures.count c.next_of-at.ensures.next)

pub loop-tag-preserved : goal.loop-tag-preserved
loop-tag-preserved g c =
    let inv = c.loop-tag.invariant in
    let ws : List ℕ = c.args.words.now in
    let E = g.K.PartialEq.eq in
    let size = size_of ws c.count-count.result c.count-count.ensures.count c.count-count.ensures.size in
    let is = read ws c.loop-tag.words c.loop-tag.at c.get-word.result inv.same c.get-word.ensures.word in
    let full : mark_at ws c.loop-tag.at ≢ 0 = λ none. c.if-word-eq0.false (is ∙ none) in
    let to = next_at ws c.count-count.result c.loop-tag.at c.next_of-at.result c.count-count.ensures.count c.next_of-at.ensures.next in
    record {
      same = c.get-word.ensures.same ∙ inv.same;
      count = inv.count;
      walk = next_walk E c.args.seats.now ws c.requires size c.args.tag c.args.key.now c.loop-tag.at inv.walk full c.next_of-at.result to;
      others = next_others E c.args.seats.now ws c.requires size c.args.tag c.args.key.now c.loop-tag.at inv.walk full c.next_of-at.result to inv.others
          (λ p mark. elim c.if-tag_of-tag.branch [
            | then-tag_of-tag+else-has_key w ↦ lacks_here E c.args.seats.now ws c.requires size c.args.tag c.args.key.now c.loop-tag.at inv.walk c.get-word.result w.past_place-place.result _ p is c.if-word-eq0.false
                c.ranges.tag.fits w.past_place-place.ensures refl mark (w.has_key.ensures.no w.if-has_key.false)
            | else-tag_of-tag w ↦ absurd (w.if-tag_of-tag.false (c.tag_of.ensures ∙ tag_here E c.args.seats.now ws c.requires size c.args.tag c.args.key.now c.loop-tag.at inv.walk c.get-word.result p is c.ranges.tag.fits mark))
          ]);
    }
