-- The words beside a hole, which counts as empty whatever its word is.
use Rattle.std.proofs.Common.{◌≡◌, ◌≢◌, ℕ, List, set, ap, ◌∙◌, sym, arith}
use Rattle.std.proofs.lemmas.List.{get_or-set_other}
use Rattle.concurrent_lru.specs.Probing.Probes.{mark_at, IsFilledAt}
use Rattle.concurrent_lru.specs.Probing.Gaps.{rank, IsGap}

module _ (n : ℕ) (ws : List ℕ) (start hole at : ℕ) (gap : IsGap n (set ws hole 0) start hole at) where
  beside : at ≢ hole
  beside e = let after = gap.after in let same : rank n gap.end at ≡ rank n gap.end hole = ap (rank n gap.end) e in omega arith

  pub mark_beside : mark_at (set ws hole 0) at ≡ mark_at ws at
  mark_beside = get_or-set_other ws hole at 0 0 beside

  pub filled_beside : IsFilledAt ws at → IsFilledAt (set ws hole 0) at
  filled_beside full none = full (sym mark_beside ∙ none)
