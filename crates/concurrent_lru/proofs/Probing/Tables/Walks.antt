-- Walks along the items of a hash, in a table.
use Rattle.std.proofs.Common.{◌≡◌, ◌≢◌, ℕ, suc, ◌<◌, ◌≤◌, cond, Bool, true, false, List, [], ◌∷◌, length, refl, sym, ap, ◌∙◌, subst, arith, eqb, inl, inr, ◌||◌, Contains}
use Rattle.std.specs.List.{list_any, filter}
use Rattle.std.proofs.lemmas.Bool.{cases_eq, eq-eqb, ne_eqb}
use Rattle.concurrent_lru.specs.Probing.Cycle.{next_of, steps, home_of}
use Rattle.concurrent_lru.specs.Probing.Probes.{marks_of, mark_at, IsFilledAt, HasEmpty, run_at, walk_at, Finds}
use Rattle.concurrent_lru.specs.Probing.OpenTable.{IsTable, HasMark, walk}
use Rattle.concurrent_lru.specs.declared.node_table.probes.Bucket.{Bucket}
use Rattle.concurrent_lru.specs.declared.node_table.probes.Step.{Step}
use Rattle.concurrent_lru.specs.declared.node_table.probes.Step.TheVariants.{Item, End}
use Rattle.concurrent_lru.proofs.Probing.Circle.{home_within}
use Rattle.concurrent_lru.proofs.Probing.Runs.{member_along, walk_here}
use Rattle.concurrent_lru.proofs.Probing.Marks.{length-marks}
use Rattle.concurrent_lru.proofs.Probing.Gaps.{filled_within}
use Rattle.concurrent_lru.proofs.Probing.Contents.Slots.{some_empty}

in_rest : (k x : ℕ) (xs : List ℕ) → k ≢ x → list_any (eqb k) (x ∷ xs) ≡ true → list_any (eqb k) xs ≡ true
in_rest k x xs ne h = sym (ap (λ t. t || list_any (eqb k) xs) (ne_eqb k x ne)) ∙ h

-- what passes a test is left by a filter
in_filter : (test : ℕ → Bool) (k : ℕ) (xs : List ℕ) → test k ≡ true → list_any (eqb k) xs ≡ true → list_any (eqb k) (filter test xs) ≡ true
in_filter test k [] passed h = h
in_filter test k (x ∷ xs) passed h = elim (cases_eq k x) [
  | inl e ↦ ap (λ t. list_any (eqb k) (cond t (x ∷ filter test xs) (filter test xs))) (ap test (sym e) ∙ passed) ∙ ap (λ t. t || list_any (eqb k) (filter test xs)) (eq-eqb k x e)
  | inr ne ↦ on (test x) (in_filter test k xs passed (in_rest k x xs ne h))
]
  where
    on : (b : Bool) → list_any (eqb k) (filter test xs) ≡ true → list_any (eqb k) (cond b (x ∷ filter test xs) (filter test xs)) ≡ true
    on true i = elim (eqb k x) as (λ t. (t || list_any (eqb k) (filter test xs)) ≡ true) [ true ↦ refl | false ↦ i ]
    on false i = i

contains : (k : ℕ) (xs : List ℕ) → list_any (eqb k) xs ≡ true → Contains xs k
contains k [] h = absurd (cc)
contains k (x ∷ xs) h = elim (cases_eq k x) [
  | inl e ↦ (0, omega arith, sym e)
  | inr ne ↦ let there = contains k xs (in_rest k x xs ne h) in (suc there.0, omega (arith, there.1), there.2)
]

module _ {T : Type 0} (v : List (Bucket T)) (len : ℕ) (t : IsTable v len) where
  abbrev ms : List ℕ
  ms = marks_of v

  -- a table that has buckets has an empty one
  pub has_empty : 0 < length v → HasEmpty ms
  has_empty some = some_empty v (let counted = t.counted in let room = t.room in omega arith)

  long : length ms ≡ length v
  long = length-marks v

  buckets_from : (k : ℕ) → IsFilledAt ms k → 0 < length v
  buckets_from k full = let lt : k < length ms = filled_within ms k full in let l = long in omega arith

  pub filled_in : (k : ℕ) → IsFilledAt ms k → k < length v
  filled_in k full = let lt : k < length ms = filled_within ms k full in let l = long in omega arith

  -- the buckets from the home of a mark to its bucket are filled
  path : (k m : ℕ) → IsFilledAt ms k → m < length ms → steps (length ms) (home_of (length ms) (mark_at ms k)) m ≤ steps (length ms) (home_of (length ms) (mark_at ms k)) k → IsFilledAt ms m
  path = t.reached

  home_in : (k : ℕ) → IsFilledAt ms k → home_of (length ms) (mark_at ms k) < length ms
  home_in k full = home_within (length ms) (mark_at ms k) (let lt : k < length ms = filled_within ms k full in omega arith)

  -- an item lies on the walk from its home
  on_walk : (mark k : ℕ) → mark ≢ 0 → mark_at ms k ≡ mark → list_any (eqb k) (walk_at ms mark (home_of (length v) mark)) ≡ true
  on_walk mark k filled is =
      let full : IsFilledAt ms k = λ none. filled (sym is ∙ none) in
      let some : HasEmpty ms = has_empty (buckets_from k full) in
      let home : ℕ = home_of (length ms) (mark_at ms k) in
      let there : list_any (eqb k) (run_at ms home) ≡ true = member_along ms some.0 some.1 some.2 (steps (length ms) home k) home k (home_in k full) (filled_within ms k full) refl (λ m in_m near. path k m full in_m near) in
      in_filter (λ j. eqb (mark_at ms j) mark) k (run_at ms (home_of (length v) mark)) (eq-eqb (mark_at ms k) mark is)
      (subst (λ h. list_any (eqb k) (run_at ms h) ≡ true) (λ i. home_of (long i) (is i)) there)

  -- ---- a search from the home of a mark
  pub first_mark : (mark at : ℕ) (s : Step) → Finds ms mark at s → HasMark v mark s
  first_mark mark at (Item k) f = f.0
  first_mark mark at End f = tt

  pub first_all : (mark at : ℕ) (s : Step) → mark ≢ 0 → at ≡ home_of (length v) mark → Finds ms mark at s → (k : ℕ) → mark_at ms k ≡ mark → Contains (walk v s) k
  first_all mark at (Item j) filled home f k is =
      contains k (walk_at ms (mark_at ms j) j) (subst (λ l. list_any (eqb k) l ≡ true) (ap (walk_at ms mark) (sym home) ∙ f.1 ∙ ap (λ m. walk_at ms m j) (sym f.0)) (on_walk mark k filled is))
  first_all mark at End filled home f k is =
      contains k [] (subst (λ l. list_any (eqb k) l ≡ true) (ap (walk_at ms mark) (sym home) ∙ f) (on_walk mark k filled is))

  -- ---- a search from the bucket after an item
  module _ (cursor next : ℕ) (full : IsFilledAt ms cursor) (to : next ≡ next_of (length v) cursor) where
    some : HasEmpty ms
    some = has_empty (buckets_from cursor full)

    in_ms : cursor < length ms
    in_ms = filled_within ms cursor full

    next_is : next_of (length ms) cursor ≡ next
    next_is = ap (λ n. next_of n cursor) long ∙ sym to

    pub next_rest : (s : Step) → Finds ms (mark_at ms cursor) next s → walk_at ms (mark_at ms cursor) cursor ≡ cursor ∷ walk v s
    next_rest (Item j) f = walk_here ms (mark_at ms cursor) cursor some in_ms full refl ∙ ap (λ l. cursor ∷ l) (ap (walk_at ms (mark_at ms cursor)) next_is ∙ f.1 ∙ ap (λ m. walk_at ms m j) (sym f.0))
    next_rest End f = walk_here ms (mark_at ms cursor) cursor some in_ms full refl ∙ ap (λ l. cursor ∷ l) (ap (walk_at ms (mark_at ms cursor)) next_is ∙ f)

-- a table with no buckets
pub none_filled : {T : Type 0} (v : List (Bucket T)) (k mark : ℕ) → length v ≡ 0 → mark_at (marks_of v) k ≡ mark → mark ≢ 0 → ⊥
none_filled v k mark none is filled =
    let lt : k < length (marks_of v) = filled_within (marks_of v) k (λ e. filled (sym is ∙ e)) in
    let long : length (marks_of v) ≡ length v = length-marks v in
    omega arith
