-- The hole that a removal leaves, from the bucket that is emptied to where nothing is reached over
-- it.
use Rattle.std.proofs.Common.{◌≡◌, ◌≢◌, ℕ, ◌+◌, ◌-◌, ◌<◌, ◌≤◌, List, length, set, sym, ap, ◌∙◌, subst, arith, inl, inr}
use Rattle.std.proofs.lemmas.Bool.{cases_eq, cases_lt}
use Rattle.std.proofs.lemmas.List.{length-set, get_or-set_same, get_or-set_other, get_or_past}
use Rattle.concurrent_lru.specs.Probing.Cycle.{next_of, steps, home_of}
use Rattle.concurrent_lru.specs.Probing.Probes.{mark_at, IsEmptyAt, IsFilledAt, HasEmpty, IsReachedIn}
use Rattle.concurrent_lru.specs.Probing.Gaps.{rank, IsGap}
use Rattle.concurrent_lru.proofs.Probing.Circle.{home_within, next_cases, next_within, steps_cases, steps_within, steps_to_next, steps_beyond, steps_same}

pub filled_within : (ms : List ℕ) (k : ℕ) → IsFilledAt ms k → k < length ms
filled_within ms k h = elim (cases_lt k (length ms)) [
  | inl lt ↦ lt
  | inr le ↦ absurd (h (get_or_past ms k 0 le))
]

next_apart : (n a b : ℕ) → a < n → b < n → a ≢ b → next_of n a ≢ next_of n b
next_apart n a b h k ne e = elim (next_cases n a h) [
  | inl f ↦ elim (next_cases n b k) [ inl g ↦ ne (omega arith) | inr g ↦ omega arith ]
  | inr f ↦ elim (next_cases n b k) [ inl g ↦ omega arith | inr g ↦ ne (omega arith) ]
]

module _ (n end : ℕ) (within : end < n) where
  after_within : next_of n end < n
  after_within = next_within n end within

  rank_within : (k : ℕ) → k < n → rank n end k < n
  rank_within k h = steps_within n (next_of n end) k after_within h

  rank_next : (k : ℕ) → k < n → k ≢ end → rank n end (next_of n k) ≡ rank n end k + 1
  rank_next k h ne = steps_to_next n (next_of n end) k after_within h (next_apart n k end h within ne)

  rank_end : rank n end end + 1 ≡ n
  rank_end = elim (next_cases n end within) [
    | inl e ↦ elim (steps_cases n (next_of n end) end) [ inl f ↦ omega arith | inr f ↦ absurd (omega arith) ]
    | inr e ↦ elim (steps_cases n (next_of n end) end) [ inl f ↦ absurd (omega arith) | inr f ↦ omega arith ]
  ]

  rank_same : (a b : ℕ) → a < n → b < n → rank n end a ≡ rank n end b → a ≡ b
  rank_same a b h k e = steps_same n (next_of n end) a b after_within h k e

  -- the steps between two buckets by their ranks
  rank_steps : (a b : ℕ) → a < n → b < n → rank n end a ≤ rank n end b → steps n a b + rank n end a ≡ rank n end b
  rank_steps a b h k le = elim (steps_beyond n (next_of n end) a b after_within h k) [ inl e ↦ e.0 | inr e ↦ absurd (omega arith) ]

  rank_round : (a b : ℕ) → a < n → b < n → rank n end b < rank n end a → steps n a b + rank n end a ≡ rank n end b + n
  rank_round a b h k lt = elim (steps_beyond n (next_of n end) a b after_within h k) [ inl e ↦ absurd (omega arith) | inr e ↦ e.0 ]

  -- no search goes over an empty bucket, so ranks say what is reached
  module _ (ms : List ℕ) (long : length ms ≡ n) (ends : IsEmptyAt ms end) (r : IsReachedIn n ms) where
    in_buckets : (k : ℕ) → IsFilledAt ms k → k < n
    in_buckets k full = let lt : k < length ms = filled_within ms k full in omega arith

    home_in_buckets : (k : ℕ) → home_of n (mark_at ms k) < n
    home_in_buckets k = home_within n (mark_at ms k) (omega arith)

    pub upright_from : (k : ℕ) → IsFilledAt ms k → rank n end (home_of n (mark_at ms k)) ≤ rank n end k
    upright_from k full =
        let home : ℕ = home_of n (mark_at ms k) in
        elim (cases_lt (rank n end k) (rank n end home)) [
          | inl lt ↦
              let round : steps n home k + rank n end home ≡ rank n end k + n = rank_round home k (home_in_buckets k) (in_buckets k full) lt in
              let far : rank n end home < n = rank_within home (home_in_buckets k) in
              let last : rank n end end + 1 ≡ n = rank_end in
              let to_end : steps n home end + rank n end home ≡ rank n end end = rank_steps home end (home_in_buckets k) within (omega arith) in
              absurd (r k end full within (omega arith) ends)
          | inr le ↦ le
        ]

    pub reached_from : (k m : ℕ) → IsFilledAt ms k → m < n → rank n end (home_of n (mark_at ms k)) ≤ rank n end m → rank n end m ≤ rank n end k → IsFilledAt ms m
    reached_from k m full lt from to =
        let home : ℕ = home_of n (mark_at ms k) in
        let one : steps n home m + rank n end home ≡ rank n end m = rank_steps home m (home_in_buckets k) lt from in
        let two : steps n home k + rank n end home ≡ rank n end k = rank_steps home k (home_in_buckets k) (in_buckets k full) (omega arith) in
        r k m full lt (omega arith)

  reached_to : (ms : List ℕ) → length ms ≡ n
      → ((k : ℕ) → IsFilledAt ms k → rank n end (home_of n (mark_at ms k)) ≤ rank n end k)
      → ((k m : ℕ) → IsFilledAt ms k → m < n → rank n end (home_of n (mark_at ms k)) ≤ rank n end m → rank n end m ≤ rank n end k → IsFilledAt ms m)
      → IsReachedIn n ms
  reached_to ms long up on k m full lt near =
      let home : ℕ = home_of n (mark_at ms k) in
      let in_home : home < n = home_within n (mark_at ms k) (omega arith) in
      let in_k : k < n = (let w : k < length ms = filled_within ms k full in omega arith) in
      let top : rank n end k < n = rank_within k in_k in
      let two : steps n home k + rank n end home ≡ rank n end k = rank_steps home k in_home in_k (up k full) in
      elim (cases_lt (rank n end m) (rank n end home)) [
        | inl less ↦ absurd (let round : steps n home m + rank n end home ≡ rank n end m + n = rank_round home m in_home lt less in omega arith)
        | inr le ↦ let one : steps n home m + rank n end home ≡ rank n end m = rank_steps home m in_home lt le in on k m full lt le (omega arith)
      ]

-- an entry is taken out
pub gap_start : (n : ℕ) (ms : List ℕ) (at : ℕ) → length ms ≡ n → HasEmpty ms → at < n → IsFilledAt ms at → IsReachedIn n ms
    → IsGap n (set ms at 0) at at (next_of n at)
gap_start n ms at long some lt full r =
    let end : ℕ = some.0 in
    let within : end < n = (let w : end < length ms = some.1 in omega arith) in
    let other : at ≢ end = λ e. full (ap (mark_at ms) e ∙ some.2) in
    let ns : List ℕ = set ms at 0 in
    let gone : mark_at ns at ≡ 0 = get_or-set_same ms at 0 0 (omega arith) in
    let rest : (m : ℕ) → m ≢ at → mark_at ns m ≡ mark_at ms m = λ m ne. get_or-set_other ms at m 0 0 ne in
    let more : rank n end (next_of n at) ≡ rank n end at + 1 = rank_next n end within at lt other in
    let apart : (k : ℕ) → IsFilledAt ns k → k ≢ at = λ k h e. h (ap (mark_at ns) e ∙ gone) in
    let was : (k : ℕ) → IsFilledAt ns k → IsFilledAt ms k = λ k h none. h (rest k (apart k h) ∙ none) in
    let same : (k : ℕ) → IsFilledAt ns k → home_of n (mark_at ns k) ≡ home_of n (mark_at ms k) = λ k h. ap (home_of n) (rest k (apart k h)) in
    record {
      end = end;
      long = length-set ms at 0 ∙ long;
      end_within = within;
      start_within = lt;
      hole_within = lt;
      at_within = next_within n at lt;
      ends = rest end (λ e. other (sym e)) ∙ some.2;
      vacant = gone;
      apart = λ e. other (sym e);
      began = omega arith;
      after = omega arith;
      between = λ m in_m above below. absurd (omega arith);
      upright = λ k h. let up = upright_from n end within ms long some.2 r k (was k h) in let s = same k h in subst (λ t. rank n end t ≤ rank n end k) (sym s) up;
      reached = λ k m h in_m above below. elim (cases_eq m at) [
        | inl e ↦
            let in_k : k < n = in_buckets n end within ms long some.2 r k (was k h) in
            inr (
              e,
              elim (cases_lt (rank n end at) (rank n end k)) [
                | inl less ↦ omega arith
                | inr le ↦ absurd (apart k h (rank_same n end within k at in_k lt (let here : rank n end m ≡ rank n end at = ap (rank n end) e in omega arith)))
              ],
            )
        | inr ne ↦ inl (λ none. reached_from n end within ms long some.2 r k m (was k h) in_m (subst (λ t. rank n end t ≤ rank n end m) (same k h) above) below (sym (rest m ne) ∙ none))
      ];
    }

-- nothing is reached over the hole
pub gap_end : (n : ℕ) (ms : List ℕ) (start hole at : ℕ) → IsGap n ms start hole at → IsEmptyAt ms at → IsReachedIn n ms
gap_end n ms start hole at g none =
    reached_to n g.end g.end_within ms g.long g.upright (λ k m full lt above below. elim (g.reached k m full lt above below) [
      | inl h ↦ h
      | inr far ↦ absurd (elim (g.reached k at full g.at_within (let here : rank n g.end m ≡ rank n g.end hole = ap (rank n g.end) far.0 in let after = g.after in omega arith) far.1) [
        | inl h ↦ h none
        | inr same ↦ let here : rank n g.end at ≡ rank n g.end hole = ap (rank n g.end) same.0 in let after = g.after in omega arith
      ])
    ])

module _ (n : ℕ) (ms : List ℕ) (start hole at : ℕ) (g : IsGap n ms start hole at) (full : IsFilledAt ms at) where
  not_end : at ≢ g.end
  not_end e = full (ap (mark_at ms) e ∙ g.ends)

  not_hole : at ≢ hole
  not_hole e = full (ap (mark_at ms) e ∙ g.vacant)

  more : rank n g.end (next_of n at) ≡ rank n g.end at + 1
  more = rank_next n g.end g.end_within at g.at_within not_end

  -- the next bucket is further on
  pub gap_further : n - steps n start (next_of n at) < n - steps n start at
  gap_further =
      let began = g.began in
      let after = g.after in
      let m = more in
      let one : steps n start at + rank n g.end start ≡ rank n g.end at = rank_steps n g.end g.end_within start at g.start_within g.at_within (omega arith) in
      let two : steps n start (next_of n at) + rank n g.end start ≡ rank n g.end (next_of n at) = rank_steps n g.end g.end_within start (next_of n at) g.start_within (next_within n at g.at_within) (omega arith) in
      let top : steps n start at < n = steps_within n start at g.start_within g.at_within in
      omega arith

  abbrev pub home : ℕ
  home = home_of n (mark_at ms at)

  in_home : home < n
  in_home = home_within n (mark_at ms at) (let w = g.at_within in omega arith)

  home_before : rank n g.end home ≤ rank n g.end at
  home_before = g.upright at full

  -- another bucket that is not nearer than this one is further on than this one
  beyond : (k : ℕ) → IsFilledAt ms k → k ≢ at → rank n g.end at ≤ rank n g.end k → rank n g.end (next_of n at) ≤ rank n g.end k
  beyond k h ne le = elim (cases_lt (rank n g.end at) (rank n g.end k)) [
    | inl lt ↦ let m = more in omega arith
    | inr ge ↦ absurd (ne (rank_same n g.end g.end_within k at (let w : k < length ms = filled_within ms k h in let l = g.long in omega arith) g.at_within (omega arith)))
  ]

  -- the entry stays, since its home is after the hole
  pub gap_keep : steps n home at < steps n hole at → IsGap n ms start hole (next_of n at)
  gap_keep lt =
      let after = g.after in
      let m = more in
      let before = home_before in
      let one : steps n home at + rank n g.end home ≡ rank n g.end at = rank_steps n g.end g.end_within home at in_home g.at_within (omega arith) in
      let two : steps n hole at + rank n g.end hole ≡ rank n g.end at = rank_steps n g.end g.end_within hole at g.hole_within g.at_within (omega arith) in
      record {
        end = g.end;
        long = g.long;
        end_within = g.end_within;
        start_within = g.start_within;
        hole_within = g.hole_within;
        at_within = next_within n at g.at_within;
        ends = g.ends;
        vacant = g.vacant;
        apart = g.apart;
        began = g.began;
        after = omega arith;
        between = λ k in_k above below. elim (cases_lt (rank n g.end k) (rank n g.end at)) [
          | inl less ↦ g.between k in_k above less
          | inr ge ↦ subst (IsFilledAt ms) (sym (rank_same n g.end g.end_within k at in_k g.at_within (omega arith))) full
        ];
        upright = g.upright;
        reached = λ k l h in_l above below. elim (g.reached k l h in_l above below) [
          | inl filled ↦ inl filled
          | inr over ↦ inr (
            over.0,
            beyond k h (λ e.
                let there : rank n g.end (home_of n (mark_at ms k)) ≡ rank n g.end home = ap (λ t. rank n g.end (home_of n (mark_at ms t))) e in
                let here : rank n g.end l ≡ rank n g.end hole = ap (rank n g.end) over.0 in
                omega arith) over.1,
          )
        ];
      }

  abbrev moved : List ℕ
  moved = set (set ms hole (mark_at ms at)) at 0

  long_moved : length moved ≡ n
  long_moved = length-set (set ms hole (mark_at ms at)) at 0 ∙ length-set ms hole (mark_at ms at) ∙ g.long

  moved_at : mark_at moved at ≡ 0
  moved_at = let l = g.long in let w = g.at_within in let k : length (set ms hole (mark_at ms at)) ≡ length ms = length-set ms hole (mark_at ms at) in get_or-set_same (set ms hole (mark_at ms at)) at 0 0 (omega arith)

  moved_hole : mark_at moved hole ≡ mark_at ms at
  moved_hole = let l = g.long in let w = g.hole_within in get_or-set_other (set ms hole (mark_at ms at)) at hole 0 0 (λ e. not_hole (sym e)) ∙ get_or-set_same ms hole (mark_at ms at) 0 (omega arith)

  moved_other : (k : ℕ) → k ≢ hole → k ≢ at → mark_at moved k ≡ mark_at ms k
  moved_other k nh na = get_or-set_other (set ms hole (mark_at ms at)) at k 0 0 na ∙ get_or-set_other ms hole k (mark_at ms at) 0 nh

  moved_full : IsFilledAt moved hole
  moved_full none = full (sym moved_hole ∙ none)

  moved_kept : (k : ℕ) → k ≢ at → IsFilledAt ms k → IsFilledAt moved k
  moved_kept k na h = elim (cases_eq k hole) [
    | inl e ↦ subst (IsFilledAt moved) (sym e) moved_full
    | inr nh ↦ λ none. h (sym (moved_other k nh na) ∙ none)
  ]

  -- the entry moves back into the hole, since its home is not after it
  pub gap_move : steps n hole at ≤ steps n home at → IsGap n moved start at (next_of n at)
  gap_move le =
      let after = g.after in
      let m = more in
      let before = home_before in
      let began = g.began in
      let one : steps n home at + rank n g.end home ≡ rank n g.end at = rank_steps n g.end g.end_within home at in_home g.at_within (omega arith) in
      let two : steps n hole at + rank n g.end hole ≡ rank n g.end at = rank_steps n g.end g.end_within hole at g.hole_within g.at_within (omega arith) in
      let not_at : (k : ℕ) → IsFilledAt moved k → k ≢ at = λ k h e. h (ap (mark_at moved) e ∙ moved_at) in
      let was : (k : ℕ) → k ≢ hole → IsFilledAt moved k → IsFilledAt ms k = λ k nh h none. h (moved_other k nh (not_at k h) ∙ none) in
      record {
        end = g.end;
        long = long_moved;
        end_within = g.end_within;
        start_within = g.start_within;
        hole_within = g.at_within;
        at_within = next_within n at g.at_within;
        ends = moved_other g.end g.apart (λ e. not_end (sym e)) ∙ g.ends;
        vacant = moved_at;
        apart = λ e. not_end (sym e);
        began = omega arith;
        after = omega arith;
        between = λ k in_k above below. absurd (omega arith);
        upright = λ k h. elim (cases_eq k hole) [
          | inl e ↦
              let there : rank n g.end (home_of n (mark_at moved k)) ≡ rank n g.end home = ap (λ t. rank n g.end (home_of n (mark_at moved t))) e ∙ ap (λ t. rank n g.end (home_of n t)) moved_hole in
              let here : rank n g.end k ≡ rank n g.end hole = ap (rank n g.end) e in
              omega arith
          | inr nh ↦ subst (λ t. rank n g.end (home_of n t) ≤ rank n g.end k) (sym (moved_other k nh (not_at k h))) (g.upright k (was k nh h))
        ];
        reached = λ k l h in_l above below. elim (cases_eq k hole) [
          | inl e ↦
              let there : rank n g.end (home_of n (mark_at moved k)) ≡ rank n g.end home = ap (λ t. rank n g.end (home_of n (mark_at moved t))) e ∙ ap (λ t. rank n g.end (home_of n t)) moved_hole in
              let here : rank n g.end k ≡ rank n g.end hole = ap (rank n g.end) e in
              elim (cases_eq l hole) [
                | inl same ↦ inl (subst (IsFilledAt moved) (sym same) moved_full)
                | inr nh ↦ elim (g.reached at l full in_l (omega arith) (omega arith)) [
                  | inl filled ↦ inl (moved_kept l (λ same. let s : rank n g.end l ≡ rank n g.end at = ap (rank n g.end) same in omega arith) filled)
                  | inr over ↦ absurd (nh over.0)
                ]
              ]
          | inr nh ↦
              let old : mark_at moved k ≡ mark_at ms k = moved_other k nh (not_at k h) in
              elim (g.reached k l (was k nh h) in_l (subst (λ t. rank n g.end (home_of n t) ≤ rank n g.end l) old above) below) [
                | inl filled ↦ elim (cases_eq l at) [
                  | inl same ↦ inr (same, beyond k (was k nh h) (not_at k h) (let s : rank n g.end l ≡ rank n g.end at = ap (rank n g.end) same in omega arith))
                  | inr na ↦ inl (moved_kept l na filled)
                ]
                | inr over ↦ inl (subst (IsFilledAt moved) (sym over.0) moved_full)
              ]
        ];
      }
