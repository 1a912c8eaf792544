-- The run of filled buckets from a bucket on, and the empty bucket after it.
use Rattle.std.proofs.Common.{◌≡◌, ◌≢◌, ℕ, zero, suc, ◌+◌, ◌<◌, ◌≤◌, cond, true, List, [], ◌∷◌, length, refl, sym, ap, ◌∙◌, subst, arith, eqb, inl, inr, ◌||◌}
use Rattle.std.specs.List.{list_any, filter}
use Rattle.std.proofs.lemmas.Bool.{cases_eq, eq-eqb, ne_eqb}
use Rattle.concurrent_lru.specs.Probing.Cycle.{next_of, steps}
use Rattle.concurrent_lru.specs.Probing.Probes.{mark_at, IsEmptyAt, IsFilledAt, HasEmpty, run, run_at, end, end_at, walk_at}
use Rattle.concurrent_lru.proofs.Probing.Circle.{next_within, steps_self, steps_within, steps_none, steps_from_next}

module _ (ms : List ℕ) where
  -- one step of a run
  run_filled : (more at : ℕ) → IsFilledAt ms at → run (suc more) ms at ≡ at ∷ run more ms (next_of (length ms) at)
  run_filled more at h = ap (λ t. cond t [] (at ∷ run more ms (next_of (length ms) at))) (ne_eqb (mark_at ms at) 0 h)

  run_empty : (more at : ℕ) → IsEmptyAt ms at → run more ms at ≡ []
  run_empty zero at h = refl
  run_empty (suc more) at h = ap (λ t. cond t [] (at ∷ run more ms (next_of (length ms) at))) (eq-eqb (mark_at ms at) 0 h)

  end_filled : (more at : ℕ) → IsFilledAt ms at → end (suc more) ms at ≡ end more ms (next_of (length ms) at)
  end_filled more at h = ap (λ t. cond t at (end more ms (next_of (length ms) at))) (ne_eqb (mark_at ms at) 0 h)

  end_empty : (more at : ℕ) → IsEmptyAt ms at → end more ms at ≡ at
  end_empty zero at h = refl
  end_empty (suc more) at h = ap (λ t. cond t at (end more ms (next_of (length ms) at))) (eq-eqb (mark_at ms at) 0 h)

  module _ (e : ℕ) (within : e < length ms) (empty : IsEmptyAt ms e) where
    apart : (at : ℕ) → IsFilledAt ms at → e ≢ at
    apart at h is = h (ap (mark_at ms) (sym is) ∙ empty)

    -- what goes on at filled buckets and stops at empty ones has enough steps with as many as reach
    -- an empty bucket
    enough : {X : Type 0} (f : ℕ → ℕ → X) (stop : ℕ → X) (go : ℕ → X → X) → ((more at : ℕ) → IsEmptyAt ms at → f more at ≡ stop at) → ((more at : ℕ) → IsFilledAt ms at → f (suc more) at ≡ go at (f more (next_of (length ms) at)))
        → (more at : ℕ) → at < length ms → steps (length ms) at e < more → f (suc more) at ≡ f more at
    enough f stop go stops goes zero at lt h = absurd (omega arith)
    enough f stop go stops goes (suc more) at lt h = elim (cases_eq (mark_at ms at) 0) [
      | inl is ↦ stops (suc (suc more)) at is ∙ sym (stops (suc more) at is)
      | inr ne ↦
          let step : steps (length ms) (next_of (length ms) at) e + 1 ≡ steps (length ms) at e = steps_from_next (length ms) at e lt within (apart at ne) in
          goes (suc more) at ne ∙ ap (go at) (enough f stop go stops goes more (next_of (length ms) at) (next_within (length ms) at lt) (omega arith)) ∙ sym (goes more at ne)
    ]

    run_more : (more at : ℕ) → at < length ms → steps (length ms) at e < more → run (suc more) ms at ≡ run more ms at
    run_more = enough (λ n at. run n ms at) (λ at. []) (λ at l. at ∷ l) run_empty run_filled

    end_more : (more at : ℕ) → at < length ms → steps (length ms) at e < more → end (suc more) ms at ≡ end more ms at
    end_more = enough (λ n at. end n ms at) (λ at. at) (λ at n. n) end_empty end_filled

    step_on : (n at : ℕ) → length ms ≡ suc n → at < length ms → IsFilledAt ms at → (run_at ms at ≡ at ∷ run_at ms (next_of (length ms) at)) × (end_at ms at ≡ end_at ms (next_of (length ms) at))
    step_on n at long lt h =
        let step : steps (length ms) (next_of (length ms) at) e + 1 ≡ steps (length ms) at e = steps_from_next (length ms) at e lt within (apart at h) in
        let less : steps (length ms) at e < length ms = steps_within (length ms) at e lt within in
        let near : steps (length ms) (next_of (length ms) at) e < n = omega arith in (
          ap (λ k. run k ms at) long ∙ run_filled n at h ∙ ap (λ l. at ∷ l) (sym (run_more n (next_of (length ms) at) (next_within (length ms) at lt) near) ∙ ap (λ k. run k ms (next_of (length ms) at)) (sym long)),
          ap (λ k. end k ms at) long ∙ end_filled n at h ∙ sym (end_more n (next_of (length ms) at) (next_within (length ms) at lt) near) ∙ ap (λ k. end k ms (next_of (length ms) at)) (sym long),
        )

    by_length : (n : ℕ) → length ms ≡ n → (at : ℕ) → at < length ms → IsFilledAt ms at → (run_at ms at ≡ at ∷ run_at ms (next_of (length ms) at)) × (end_at ms at ≡ end_at ms (next_of (length ms) at))
    by_length zero long at lt h = absurd (omega arith)
    by_length (suc n) long at lt h = step_on n at long lt h

    -- the run from a filled bucket goes on with the next
    pub run_on : (at : ℕ) → at < length ms → IsFilledAt ms at → run_at ms at ≡ at ∷ run_at ms (next_of (length ms) at)
    run_on at lt h = (by_length (length ms) refl at lt h).0

    pub end_on : (at : ℕ) → at < length ms → IsFilledAt ms at → end_at ms at ≡ end_at ms (next_of (length ms) at)
    end_on at lt h = (by_length (length ms) refl at lt h).1

    -- buckets that are all filled lead from one to another
    pub end_along : (d at k : ℕ) → at < length ms → k < length ms → steps (length ms) at k ≡ d
        → ((m : ℕ) → m < length ms → steps (length ms) at m < d → IsFilledAt ms m) → end_at ms at ≡ end_at ms k
    end_along zero at k lt in_k is all = ap (end_at ms) (steps_none (length ms) at k lt in_k is)
    end_along (suc d) at k lt in_k is all =
        let here : steps (length ms) at at ≡ 0 = steps_self (length ms) at in
        let full : IsFilledAt ms at = all at lt (omega arith) in
        let ne : k ≢ at = λ e. let z : steps (length ms) at k ≡ 0 = ap (steps (length ms) at) e ∙ here in omega arith in
        let step : steps (length ms) (next_of (length ms) at) k + 1 ≡ steps (length ms) at k = steps_from_next (length ms) at k lt in_k ne in
        end_on at lt full ∙ end_along d (next_of (length ms) at) k (next_within (length ms) at lt) in_k (omega arith) (λ m in_m near. elim (cases_eq m at) [
          | inl e ↦ subst (IsFilledAt ms) (sym e) full
          | inr other ↦ let s : steps (length ms) (next_of (length ms) at) m + 1 ≡ steps (length ms) at m = steps_from_next (length ms) at m lt in_m other in all m in_m (omega arith)
        ])

    pub member_along : (d at k : ℕ) → at < length ms → k < length ms → steps (length ms) at k ≡ d
        → ((m : ℕ) → m < length ms → steps (length ms) at m ≤ d → IsFilledAt ms m) → list_any (eqb k) (run_at ms at) ≡ true
    member_along zero at k lt in_k is all =
        let same : at ≡ k = steps_none (length ms) at k lt in_k is in
        let here : steps (length ms) at at ≡ 0 = steps_self (length ms) at in
        ap (list_any (eqb k)) (run_on at lt (all at lt (omega arith))) ∙ ap (λ t. t || list_any (eqb k) (run_at ms (next_of (length ms) at))) (eq-eqb k at (sym same))
    member_along (suc d) at k lt in_k is all =
        let here : steps (length ms) at at ≡ 0 = steps_self (length ms) at in
        let full : IsFilledAt ms at = all at lt (omega arith) in
        let ne : k ≢ at = λ e. let z : steps (length ms) at k ≡ 0 = ap (steps (length ms) at) e ∙ here in omega arith in
        let step : steps (length ms) (next_of (length ms) at) k + 1 ≡ steps (length ms) at k = steps_from_next (length ms) at k lt in_k ne in
        ap (list_any (eqb k)) (run_on at lt full) ∙ ap (λ t. t || list_any (eqb k) (run_at ms (next_of (length ms) at))) (ne_eqb k at ne)
        ∙ member_along d (next_of (length ms) at) k (next_within (length ms) at lt) in_k (omega arith) (λ m in_m near. elim (cases_eq m at) [
          | inl e ↦ subst (IsFilledAt ms) (sym e) full
          | inr other ↦ let s : steps (length ms) (next_of (length ms) at) m + 1 ≡ steps (length ms) at m = steps_from_next (length ms) at m lt in_m other in all m in_m (omega arith)
        ])

    -- where a run ends: an empty bucket, and all before it are filled
    pub record IsEnd (at k : ℕ) : Type 0 where
      pub in_buckets : k < length ms
      pub is_empty : IsEmptyAt ms k
      pub before : (m : ℕ) → m < length ms → steps (length ms) at m < steps (length ms) at k → IsFilledAt ms m

    here_ends : (at : ℕ) → at < length ms → IsEmptyAt ms at → IsEnd at (end_at ms at)
    here_ends at lt none =
        let here : steps (length ms) at at ≡ 0 = steps_self (length ms) at in
        subst (IsEnd at) (sym (end_empty (length ms) at none)) (record { in_buckets = lt; is_empty = none; before = λ m in_m near. absurd (omega arith) })

    end_by : (d at : ℕ) → at < length ms → steps (length ms) at e ≡ d → IsEnd at (end_at ms at)
    end_by zero at lt is = here_ends at lt (ap (mark_at ms) (steps_none (length ms) at e lt within is) ∙ empty)
    end_by (suc d) at lt is = elim (cases_eq (mark_at ms at) 0) [
      | inl none ↦ here_ends at lt none
      | inr full ↦
          let next : ℕ = next_of (length ms) at in
          let step : steps (length ms) next e + 1 ≡ steps (length ms) at e = steps_from_next (length ms) at e lt within (apart at full) in
          let rest : IsEnd next (end_at ms next) = end_by d next (next_within (length ms) at lt) (omega arith) in
          let far : end_at ms next ≢ at = λ is. full (ap (mark_at ms) (sym is) ∙ rest.is_empty) in
          let whole : steps (length ms) next (end_at ms next) + 1 ≡ steps (length ms) at (end_at ms next) = steps_from_next (length ms) at (end_at ms next) lt rest.in_buckets far in
          subst (IsEnd at) (sym (end_on at lt full)) (record {
            in_buckets = rest.in_buckets;
            is_empty = rest.is_empty;
            before = λ m in_m near. elim (cases_eq m at) [
              | inl e ↦ subst (IsFilledAt ms) (sym e) full
              | inr ne ↦ let s : steps (length ms) next m + 1 ≡ steps (length ms) at m = steps_from_next (length ms) at m lt in_m ne in rest.before m in_m (omega arith)
            ];
          })
    ]

    pub is_end : (at : ℕ) → at < length ms → IsEnd at (end_at ms at)
    is_end at lt = end_by (steps (length ms) at e) at lt refl

    pub at_end : (at : ℕ) → IsEmptyAt ms at → (run_at ms at ≡ []) × (end_at ms at ≡ at)
    at_end at none = (run_empty (length ms) at none, end_empty (length ms) at none)

  -- a walk: past a bucket with the mark, past one with another mark, and at its end
  pub walk_here : (mark at : ℕ) → HasEmpty ms → at < length ms → mark ≢ 0 → mark_at ms at ≡ mark → walk_at ms mark at ≡ at ∷ walk_at ms mark (next_of (length ms) at)
  walk_here mark at some lt filled is =
      ap (filter (λ k. eqb (mark_at ms k) mark)) (run_on some.0 some.1 some.2 at lt (λ none. filled (sym is ∙ none)))
      ∙ ap (λ t. cond t (at ∷ walk_at ms mark (next_of (length ms) at)) (walk_at ms mark (next_of (length ms) at))) (eq-eqb (mark_at ms at) mark is)

  pub walk_past : (mark at : ℕ) → HasEmpty ms → at < length ms → IsFilledAt ms at → mark_at ms at ≢ mark → walk_at ms mark at ≡ walk_at ms mark (next_of (length ms) at)
  walk_past mark at some lt filled ne =
      ap (filter (λ k. eqb (mark_at ms k) mark)) (run_on some.0 some.1 some.2 at lt filled)
      ∙ ap (λ t. cond t (at ∷ walk_at ms mark (next_of (length ms) at)) (walk_at ms mark (next_of (length ms) at))) (ne_eqb (mark_at ms at) mark ne)

  pub walk_end : (mark at : ℕ) → IsEmptyAt ms at → walk_at ms mark at ≡ []
  walk_end mark at none = ap (filter (λ k. eqb (mark_at ms k) mark)) (run_empty (length ms) at none)
