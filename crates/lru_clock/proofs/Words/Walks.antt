-- A walk from a position on, along words that are not 0.
use Rattle.std.proofs.Common.{◌≡◌, ◌≢◌, ℕ, ◌+◌, ◌-◌, ◌<◌, List, length, sym, ap, ◌∙◌, subst, arith, inl, inr, ◌⊎◌}
use Rattle.std.proofs.lemmas.Bool.{cases_lt}
use Rattle.concurrent_lru.specs.Probing.Cycle.{next_of, steps}
use Rattle.concurrent_lru.specs.Probing.Probes.{mark_at, IsFilledAt, HasEmpty}
use Rattle.concurrent_lru.proofs.Probing.Circle.{next_within, steps_self, steps_within, steps_from_next, steps_to_next, steps_beyond, steps_same}

module _ (ws : List ℕ) (home : ℕ) where
  -- all words from home to this position are filled
  pub record Walk (at : ℕ) : Type 0 where
    pub within : at < length ws
    pub passed : (m : ℕ) → m < length ws → steps (length ws) home m < steps (length ws) home at → IsFilledAt ws m

  pub walk_start : home < length ws → Walk home
  walk_start lt = record {
    within = lt;
    passed = λ m in_m near. absurd (let none : steps (length ws) home home ≡ 0 = steps_self (length ws) home in omega arith);
  }

  module _ (start : home < length ws) (some : HasEmpty ws) (at : ℕ) (walk : Walk at) (full : IsFilledAt ws at) where
    -- a walk meets a 0 before it comes round
    not_round : next_of (length ws) at ≢ home
    not_round e =
        let in_end : some.0 < length ws = some.1 in
        let in_at : at < length ws = walk.within in
        let apart : some.0 ≢ at = λ is. full (ap (mark_at ws) (sym is) ∙ some.2) in
        let on : steps (length ws) (next_of (length ws) at) some.0 + 1 ≡ steps (length ws) at some.0 = steps_from_next (length ws) at some.0 in_at in_end apart in
        let here : steps (length ws) (next_of (length ws) at) some.0 ≡ steps (length ws) home some.0 = ap (λ t. steps (length ws) t some.0) e in
        elim (steps_beyond (length ws) home at some.0 start in_at in_end) [
          | inl b ↦ omega (arith, b.0, b.1, on, here)
          | inr b ↦ walk.passed some.0 in_end b.1 some.2
        ]

    pub further : steps (length ws) home (next_of (length ws) at) ≡ steps (length ws) home at + 1
    further = steps_to_next (length ws) home at start walk.within not_round

    -- what is passed then
    pub before_next : (m : ℕ) → m < length ws → steps (length ws) home m < steps (length ws) home (next_of (length ws) at)
        → (m ≡ at) ⊎ (steps (length ws) home m < steps (length ws) home at)
    before_next m in_m near =
        let more = further in
        elim (cases_lt (steps (length ws) home m) (steps (length ws) home at)) [
          | inl lt ↦ inr lt
          | inr le ↦ inl (steps_same (length ws) home m at start in_m walk.within (omega arith))
        ]

    pub walk_on : Walk (next_of (length ws) at)
    walk_on = record {
      within = next_within (length ws) at walk.within;
      passed = λ m in_m near. elim (before_next m in_m near) [
        | inl is ↦ subst (IsFilledAt ws) (sym is) full
        | inr lt ↦ walk.passed m in_m lt
      ];
    }

    pub shorter : length ws - steps (length ws) home (next_of (length ws) at) < length ws - steps (length ws) home at
    shorter =
        let more = further in
        let less : steps (length ws) home at < length ws = steps_within (length ws) home at start walk.within in
        omega arith
