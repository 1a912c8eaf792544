-- Words as slots of a table, and what a change of one or two of them does.
use Rattle.std.proofs.Common.{◌≡◌, ◌≢◌, ℕ, zero, suc, ◌+◌, ◌<◌, List, [], ◌∷◌, Some, map, length, set, refl, sym, ap, ◌∙◌, subst, arith}
use Rattle.std.specs.Prelude.{slice_get}
use Rattle.std.proofs.lemmas.List.{length-set}
use Rattle.concurrent_lru.specs.Probing.Probes.{marks_of, mark_at, Ends, IsEmptyAt, IsFilledAt, IsReached}
use Rattle.concurrent_lru.specs.Probing.Entries.{Holds, Has, AreApart, IsSame, Adds, Removes, count, entry}
use Rattle.concurrent_lru.proofs.Probing.Fills.{fills}
use Rattle.concurrent_lru.proofs.Probing.Contents.Slots.{holds_within, count_filled, count_emptied, some_empty}
use Rattle.concurrent_lru.proofs.Probing.Contents.Changes.{same_refl, same_trans, removes_same, adds, adds_apart, removes, removes_apart, moves, moves_apart, moves_count}
use Rattle.lru_clock.specs.Index.{HasWord, LacksWord, Rearranges, TakesOut, PutsIn}

pub marks_cells : (ws : List ℕ) → marks_of (map (λ w. entry w w) ws) ≡ ws
marks_cells [] = refl
marks_cells (w ∷ ws) = ap (λ l. w ∷ l) (marks_cells ws)

pub length_cells : (ws : List ℕ) → length (map (λ w. entry w w) ws) ≡ length ws
length_cells [] = refl
length_cells (w ∷ ws) = ap suc (length_cells ws)

pub cells_set : (ws : List ℕ) (k w : ℕ) → map (λ w. entry w w) (set ws k w) ≡ set (map (λ w. entry w w) ws) k (entry w w)
cells_set [] k w = refl
cells_set (x ∷ ws) zero w = refl
cells_set (x ∷ ws) (suc k) w = ap (λ l. entry x x ∷ l) (cells_set ws k w)

got_cell : (ws : List ℕ) (k : ℕ) → k < length ws → slice_get (map (λ w. entry w w) ws) k ≡ Some (entry (mark_at ws k) (mark_at ws k))
got_cell [] k lt = absurd (omega arith)
got_cell (x ∷ ws) zero lt = refl
got_cell (x ∷ ws) (suc k) lt = got_cell ws k (omega arith)

pub cell_holds : (ws : List ℕ) (k : ℕ) → k < length ws → IsFilledAt ws k → Holds (map (λ w. entry w w) ws) k (entry (mark_at ws k) (mark_at ws k))
cell_holds ws k lt full = record { is = got_cell ws k lt; filled = full }

-- what a slot holds is its word
pub held_cell : (ws : List ℕ) (k : ℕ) (r : _) → Holds (map (λ w. entry w w) ws) k r → (k < length ws) × (r ≡ entry (mark_at ws k) (mark_at ws k))
held_cell ws k r h =
    let lt : k < length (map (λ w. entry w w) ws) = holds_within (map (λ w. entry w w) ws) k r h in
    let in_ws : k < length ws = omega (arith, length_cells ws) in
    let a = got_cell ws k in_ws in
    let b = h.is in
    (in_ws, cc (a, b))

-- a word that is there is one of the slots' items, and the other way round
pub has_cell : (ws : List ℕ) (w : ℕ) → w ≢ 0 → HasWord ws w → Has (map (λ w. entry w w) ws) (entry w w)
has_cell ws w filled h = (h.0, subst (λ (t : ℕ). Holds (map (λ w. entry w w) ws) h.0 (entry t t)) h.2 (cell_holds ws h.0 h.1 (λ none. filled (sym h.2 ∙ none))))

pub cell_word : (ws : List ℕ) (w : ℕ) → Has (map (λ w. entry w w) ws) (entry w w) → HasWord ws w
cell_word ws w h =
    let c = held_cell ws h.0 (entry w w) h.1 in
    (h.0, c.0, sym (ap (λ r. r.mark) c.1))

pub lacks_cell : (ws : List ℕ) (w : ℕ) → LacksWord ws w → (r : _) → Has (map (λ w. entry w w) ws) r → r.item ≢ w
lacks_cell ws w lacks r h is =
    let c = held_cell ws h.0 r h.1 in
    lacks h.0 c.0 (sym (ap (λ r. r.item) c.1) ∙ is)

pub rearranges_refl : (ws : List ℕ) → Rearranges ws ws
rearranges_refl ws = record { long = refl; same = same_refl (map (λ w. entry w w) ws); apart = λ h. h; counted = refl }

pub rearranges_trans : (a b c : List ℕ) → Rearranges a b → Rearranges b c → Rearranges a c
rearranges_trans a b c h k = record {
  long = k.long ∙ h.long;
  same = same_trans (map (λ w. entry w w) a) (map (λ w. entry w w) b) (map (λ w. entry w w) c) h.same k.same;
  apart = λ x. k.apart (h.apart x);
  counted = k.counted ∙ h.counted;
}

empty_cell : (ws : List ℕ) (k : ℕ) → IsEmptyAt ws k → IsEmptyAt (marks_of (map (λ w. entry w w) ws)) k
empty_cell ws k none = subst (λ ms. IsEmptyAt ms k) (sym (marks_cells ws)) none

full_cell : (ws : List ℕ) (k : ℕ) → IsFilledAt ws k → IsFilledAt (marks_of (map (λ w. entry w w) ws)) k
full_cell ws k full = subst (λ ms. IsFilledAt ms k) (sym (marks_cells ws)) full

in_cells : (ws : List ℕ) (k : ℕ) → k < length ws → k < length (map (λ w. entry w w) ws)
in_cells ws k lt = omega (arith, length_cells ws)

-- a word is moved back into the hole
module _ (ws : List ℕ) (hole at : ℕ) (in_hole : hole < length ws) (in_at : at < length ws) (none : IsEmptyAt ws hole) (full : IsFilledAt ws at) where
  abbrev word : ℕ
  word = mark_at ws at

  abbrev moved : List ℕ
  moved = set (set ws hole word) at 0

  moved_cells : map (λ w. entry w w) moved ≡ set (set (map (λ w. entry w w) ws) hole (entry word word)) at (entry 0 0)
  moved_cells = cells_set (set ws hole word) at 0 ∙ ap (λ l. set l at (entry 0 0)) (cells_set ws hole word)

  pub rearranged : Rearranges ws moved
  rearranged =
      let lt = in_cells ws hole in_hole in
      let e = empty_cell ws hole none in
      let here = cell_holds ws at in_at full in
      record {
        long = length-set (set ws hole word) at 0 ∙ length-set ws hole word;
        same = subst (IsSame (map (λ w. entry w w) ws)) (sym moved_cells) (moves (map (λ w. entry w w) ws) hole at (entry word word) (entry 0 0) lt e here refl);
        apart = λ h. subst AreApart (sym moved_cells) (moves_apart (map (λ w. entry w w) ws) hole at (entry word word) (entry 0 0) lt e here refl h);
        counted = ap count moved_cells ∙ moves_count (map (λ w. entry w w) ws) hole at (entry word word) (entry 0 0) lt e here refl;
      }

-- a word is taken out
module _ (ws : List ℕ) (at : ℕ) (in_at : at < length ws) (full : IsFilledAt ws at) (apart : AreApart (map (λ w. entry w w) ws)) where
  pub emptied_removes : Removes (map (λ w. entry w w) ws) (map (λ w. entry w w) (set ws at 0)) (mark_at ws at)
  emptied_removes = subst (λ l. Removes (map (λ w. entry w w) ws) l (mark_at ws at)) (sym (cells_set ws at 0))
      (removes (map (λ w. entry w w) ws) at (entry 0 0) (in_cells ws at in_at) (entry (mark_at ws at) (mark_at ws at)) (cell_holds ws at in_at full) refl apart)

  pub emptied_apart : AreApart (map (λ w. entry w w) (set ws at 0))
  emptied_apart = subst AreApart (sym (cells_set ws at 0))
      (removes_apart (map (λ w. entry w w) ws) at (entry 0 0) (in_cells ws at in_at) (entry (mark_at ws at) (mark_at ws at)) (cell_holds ws at in_at full) refl apart)

  pub emptied_count : count (map (λ w. entry w w) (set ws at 0)) + 1 ≡ count (map (λ w. entry w w) ws)
  emptied_count = ap (λ l. count l + 1) (cells_set ws at 0) ∙ count_emptied (map (λ w. entry w w) ws) at (entry 0 0) (in_cells ws at in_at) (full_cell ws at full) refl

  -- and the others are moved back
  pub taken_out : (new : List ℕ) → IsReached new → Rearranges (set ws at 0) new → TakesOut ws new (mark_at ws at)
  taken_out new reached moved = record {
    long = moved.long ∙ length-set ws at 0;
    reached = reached;
    apart = moved.apart emptied_apart;
    removes = removes_same (map (λ w. entry w w) ws) (map (λ w. entry w w) (set ws at 0)) (map (λ w. entry w w) new) (mark_at ws at) emptied_removes moved.same;
    counted = ap (λ n. n + 1) moved.counted ∙ emptied_count;
  }

-- a word is put in
pub put_in : (ws : List ℕ) (w at : ℕ) → w ≢ 0 → Ends ws w at → IsReached ws → AreApart (map (λ w. entry w w) ws) → LacksWord ws w → PutsIn ws (set ws at w) w
put_in ws w at filled ends reached apart lacks =
    let lt = in_cells ws at ends.within in
    let none = empty_cell ws at ends.is_empty in
    let is = cells_set ws at w in
    record {
      long = length-set ws at w;
      reached = fills ws w at ends filled reached;
      apart = subst AreApart (sym is) (adds_apart (map (λ w. entry w w) ws) at (entry w w) lt none filled apart (lacks_cell ws w lacks));
      adds = subst (λ l. Adds (map (λ w. entry w w) ws) l (entry w w)) (sym is) (adds (map (λ w. entry w w) ws) at (entry w w) lt none filled);
      counted = ap count is ∙ count_filled (map (λ w. entry w w) ws) at (entry w w) lt none filled;
    }

-- where fewer words are filled than there are, one is 0
pub has_empty : (ws : List ℕ) → count (map (λ w. entry w w) ws) < length ws → (k : ℕ) × (k < length ws) × IsEmptyAt ws k
has_empty ws few =
    let e = some_empty (map (λ w. entry w w) ws) (omega (arith, length_cells ws)) in
    subst (λ (ms : List ℕ). (k : ℕ) × (k < length ms) × IsEmptyAt ms k) (marks_cells ws) e
