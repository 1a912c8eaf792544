-- An entry in the empty bucket at which the search for its mark ends.
use Rattle.std.proofs.Common.{◌≡◌, ◌≢◌, ℕ, ◌<◌, ◌≤◌, List, length, set, sym, ap, ◌∙◌, subst, arith, inl, inr}
use Rattle.std.proofs.lemmas.Bool.{cases_eq, cases_lt}
use Rattle.std.proofs.lemmas.List.{length-set, get_or-set_same, get_or-set_other}
use Rattle.concurrent_lru.specs.Probing.Cycle.{steps, home_of}
use Rattle.concurrent_lru.specs.Probing.Probes.{mark_at, IsEmptyAt, IsFilledAt, HasEmpty, Ends, end_at, IsReachedIn, IsReached}
use Rattle.concurrent_lru.proofs.Probing.Circle.{home_within, steps_same}
use Rattle.concurrent_lru.proofs.Probing.Runs.{is_end}

pub ends_at : (ms : List ℕ) (mark at : ℕ) → HasEmpty ms → at ≡ end_at ms (home_of (length ms) mark) → Ends ms mark at
ends_at ms mark at some is =
    let home : ℕ = home_of (length ms) mark in
    let within : some.0 < length ms = some.1 in
    let e = is_end ms some.0 some.1 some.2 home (home_within (length ms) mark (omega arith)) in
    subst (Ends ms mark) (sym is) (record { within = e.in_buckets; is_empty = e.is_empty; before = e.before })

pub fills : (ms : List ℕ) (mark at : ℕ) → Ends ms mark at → mark ≢ 0 → IsReached ms → IsReached (set ms at mark)
fills ms mark at e filled r = subst (λ n. IsReachedIn n (set ms at mark)) (sym (length-set ms at mark)) reached
  where
    here : mark_at (set ms at mark) at ≡ mark
    here = get_or-set_same ms at mark 0 e.within

    other : (k : ℕ) → k ≢ at → mark_at (set ms at mark) k ≡ mark_at ms k
    other k ne = get_or-set_other ms at k mark 0 ne

    kept : (m : ℕ) → IsFilledAt ms m → IsFilledAt (set ms at mark) m
    kept m h none = elim (cases_eq m at) [
      | inl is ↦ filled (sym here ∙ ap (mark_at (set ms at mark)) (sym is) ∙ none)
      | inr ne ↦ h (sym (other m ne) ∙ none)
    ]

    reached : IsReachedIn (length ms) (set ms at mark)
    reached k m h in_m near = elim (cases_eq k at) [
      | inl is ↦
          let mark_is : mark_at (set ms at mark) k ≡ mark = ap (mark_at (set ms at mark)) is ∙ here in
          let home : ℕ = home_of (length ms) mark in
          let near' : steps (length ms) home m ≤ steps (length ms) home at = subst (λ t. steps (length ms) (home_of (length ms) t) m ≤ steps (length ms) (home_of (length ms) t) at) mark_is (subst (λ t. steps (length ms) (home_of (length ms) (mark_at (set ms at mark) k)) m ≤ steps (length ms) (home_of (length ms) (mark_at (set ms at mark) k)) t) is near) in
          let in_at : at < length ms = e.within in
          elim (cases_eq m at) [
            | inl same ↦ λ none. filled (sym here ∙ ap (mark_at (set ms at mark)) (sym same) ∙ none)
            | inr ne ↦ elim (cases_lt (steps (length ms) home m) (steps (length ms) home at)) [
              | inl lt ↦ kept m (e.before m in_m lt)
              | inr ge ↦ absurd (ne (steps_same (length ms) home m at (home_within (length ms) mark (omega arith)) in_m e.within (omega arith)))
            ]
          ]
      | inr ne ↦ kept m (r k m (λ none. h (other k ne ∙ none)) in_m (subst (λ t. steps (length ms) (home_of (length ms) t) m ≤ steps (length ms) (home_of (length ms) t) k) (other k ne) near))
    ]
