-- The uses that remain after one step more, and in runs without removals.
use Rattle.std.proofs.Common.{◌≡◌, Bool, true, false, cond, not, List, [], ◌∷◌, ◌++◌, map, refl, sym, ap, ◌∙◌, subst, ◌||◌}
use Rattle.std.specs.List.{filter, list_any}
use Rattle.std.specs.Cmp.{IsEquivalence}
use Rattle.std.proofs.Math.Bool.{or-false}
use Rattle.std.proofs.lemmas.Bool.{true≢false}
use Rattle.std.proofs.lemmas.List.{append-nil, append_assoc}
use Rattle.std.proofs.lemmas.List.Elements.{filter-append}
use Rattle.std.proofs.lemmas.List.Folds.{list_any-append}
use Rattle.concurrent_lru.specs.Request as ask
use Rattle.concurrent_lru.specs.Request.{Request}
use Rattle.concurrent_lru.specs.Runs.{Outcome}
use Rattle.concurrent_lru.specs.Uses.{uses}
use Rattle.concurrent_lru.specs.Removals.{HaveNoRemoval, removes, is_removed_by, remaining_uses}
use Rattle.concurrent_lru.specs.Weights.{NoneRemovedSince, AllRemain}
use Rattle.concurrent_lru.specs.WholeRuns.{WithoutRemovalsAllRemain}
use Rattle.concurrent_lru.proofs.Runs.Moments.{uses-append, none_parts}

module _ {X : Type 0} where
  -- a filter that lets everything through, and one that lets nothing through
  pub filter_all : (p : X → Bool) → ((x : X) → p x ≡ true) → (xs : List X) → filter p xs ≡ xs
  filter_all p h [] = refl
  filter_all p h (x ∷ xs) = ap (λ t. cond t (x ∷ filter p xs) (filter p xs)) (h x) ∙ ap (λ zs. x ∷ zs) (filter_all p h xs)

  pub filter_none : (p : X → Bool) → ((x : X) → p x ≡ false) → (xs : List X) → filter p xs ≡ []
  filter_none p h [] = refl
  filter_none p h (x ∷ xs) = ap (λ t. cond t (x ∷ filter p xs) (filter p xs)) (h x) ∙ filter_none p h xs

  -- what neither of two tests catches
  filter_neither : (a b c : X → Bool) → ((x : X) → c x ≡ (a x || b x)) → (xs : List X) → filter (λ x. not (c x)) xs ≡ filter (λ x. not (b x)) (filter (λ x. not (a x)) xs)
  filter_neither a b c h [] = refl
  filter_neither a b c h (x ∷ xs) =
      let r = filter_neither a b c h xs in
      let all = filter (λ y. not (c y)) xs in
      let some = filter (λ y. not (a y)) xs in
      let both = filter (λ y. not (b y)) (filter (λ y. not (a y)) xs) in
      ap (λ t. cond (not t) (x ∷ all) all) (h x) ∙ elim (a x) as (λ t. cond (not (t || b x)) (x ∷ all) all ≡ filter (λ y. not (b y)) (cond (not t) (x ∷ some) some)) [
        | true ↦ r
        | false ↦ elim (b x) as (λ t. cond (not t) (x ∷ all) all ≡ cond (not t) (x ∷ both) both) [
          | true ↦ r
          | false ↦ ap (λ zs. x ∷ zs) r
        ]
      ]

module _ {K V : Type 0} (E : K → K → Bool) where
  -- The uses that remain after one step more: it may remove some, and may add its own.
  pub remaining_uses-push : (es : List (Request K V × Outcome K V)) (e : Request K V × Outcome K V) → remaining_uses E (es ++ e ∷ []) ≡ filter (λ k. not (removes E k e.0)) (remaining_uses E es) ++ uses (e ∷ [])
  remaining_uses-push [] e = append-nil (filter (λ k. true) (uses (e ∷ []))) ∙ filter_all (λ k. true) (λ k. refl) (uses (e ∷ []))
  remaining_uses-push (d ∷ es) e =
      let later = filter (λ k. not (removes E k e.0)) (filter (λ k. not (is_removed_by E k es)) (uses (d ∷ []))) in
      let rest = filter (λ k. not (removes E k e.0)) (remaining_uses E es) in
      ap (λ zs. zs ++ remaining_uses E (es ++ e ∷ [])) (filter_neither (λ k. is_removed_by E k es) (λ k. removes E k e.0) (λ k. is_removed_by E k (es ++ e ∷ [])) removed (uses (d ∷ [])))
      ∙ ap (λ zs. later ++ zs) (remaining_uses-push es e)
      ∙ sym (append_assoc later rest (uses (e ∷ [])))
      ∙ ap (λ zs. zs ++ uses (e ∷ [])) (sym (filter-append (λ k. not (removes E k e.0)) (filter (λ k. not (is_removed_by E k es)) (uses (d ∷ []))) (remaining_uses E es)))
    where
      removed : (k : K) → is_removed_by E k (es ++ e ∷ []) ≡ (is_removed_by E k es || removes E k e.0)
      removed k = list_any-append (λ d. removes E k d.0) es (e ∷ []) ∙ ap (λ t. is_removed_by E k es || t) (or-false (removes E k e.0))

  -- a step that removes nothing
  pub remaining_uses-more : (es : List (Request K V × Outcome K V)) (e : Request K V × Outcome K V) → ((k : K) → removes E k e.0 ≡ false) → remaining_uses E (es ++ e ∷ []) ≡ remaining_uses E es ++ uses (e ∷ [])
  remaining_uses-more es e h = remaining_uses-push es e ∙ ap (λ zs. zs ++ uses (e ∷ [])) (filter_all (λ k. not (removes E k e.0)) (λ k. ap not (h k)) (remaining_uses E es))

  -- a step that removes all
  pub remaining_uses-none : (es : List (Request K V × Outcome K V)) (e : Request K V × Outcome K V) → ((k : K) → removes E k e.0 ≡ true) → uses (e ∷ []) ≡ [] → remaining_uses E (es ++ e ∷ []) ≡ []
  remaining_uses-none es e h n = remaining_uses-push es e ∙ ap (λ zs. filter (λ k. not (removes E k e.0)) (remaining_uses E es) ++ zs) n ∙ append-nil (filter (λ k. not (removes E k e.0)) (remaining_uses E es)) ∙ filter_none (λ k. not (removes E k e.0)) (λ k. ap not (h k)) (remaining_uses E es)

  none_removed : (es : List (Request K V × Outcome K V)) → HaveNoRemoval (map (λ e. e.0) es) → (k : K) → is_removed_by E k es ≡ false
  none_removed [] h k = refl
  none_removed ((ask.advice_evict l, o) ∷ es) h k = absurd h
  none_removed ((ask.invalidate l, o) ∷ es) h k = absurd h
  none_removed ((ask.prune, o) ∷ es) h k = absurd h
  none_removed (_ ∷ es) h k = none_removed es h k

  pub no_removal_parts : (a b : List (Request K V × Outcome K V)) → HaveNoRemoval (map (λ e. e.0) (a ++ b)) → HaveNoRemoval (map (λ e. e.0) a) × HaveNoRemoval (map (λ e. e.0) b)
  no_removal_parts [] b h = (tt, h)
  no_removal_parts ((ask.advice_evict l, o) ∷ a) b h = absurd h
  no_removal_parts ((ask.invalidate l, o) ∷ a) b h = absurd h
  no_removal_parts ((ask.prune, o) ∷ a) b h = absurd h
  no_removal_parts (_ ∷ a) b h = no_removal_parts a b h

  with_first : (e : Request K V × Outcome K V) (es : List (Request K V × Outcome K V)) → HaveNoRemoval (map (λ e. e.0) es) → remaining_uses E es ≡ uses es → remaining_uses E (e ∷ es) ≡ uses (e ∷ es)
  with_first e es h rest =
      ap (λ zs. zs ++ remaining_uses E es) (filter_all (λ k. not (is_removed_by E k es)) (λ k. ap not (none_removed es h k)) (uses (e ∷ []))) ∙ ap (λ zs. uses (e ∷ []) ++ zs) rest ∙ sym (uses-append (e ∷ []) es)

  all_used : (es : List (Request K V × Outcome K V)) → HaveNoRemoval (map (λ e. e.0) es) → remaining_uses E es ≡ uses es
  all_used [] h = refl
  all_used (e ∷ es) h = let rest = (no_removal_parts (e ∷ []) es h).1 in with_first e es rest (all_used es rest)

  -- all uses remain where no step but the first is a removal
  pub all_used_first : (e : Request K V × Outcome K V) (es : List (Request K V × Outcome K V)) → HaveNoRemoval (map (λ e. e.0) es) → remaining_uses E (e ∷ es) ≡ uses (e ∷ es)
  all_used_first e es h = with_first e es h (all_used es h)

  pub all_remain : (es : List (Request K V × Outcome K V)) → HaveNoRemoval (map (λ e. e.0) es) → AllRemain E es
  all_remain es h before after p = all_used before (no_removal_parts before after (subst (λ zs. HaveNoRemoval (map (λ e. e.0) zs)) p h)).0

  pub none_since : (es : List (Request K V × Outcome K V)) → HaveNoRemoval (map (λ e. e.0) es) → (k : K) → NoneRemovedSince E es k
  none_since es h k before after p n = (no_removal_parts before after (subst (λ zs. HaveNoRemoval (map (λ e. e.0) zs)) p h)).1

pub without_removals_all_remain : (K V : Type 0) (E : K → K → Bool) → WithoutRemovalsAllRemain K V E
without_removals_all_remain K V E es h = (all_remain E es h, none_since E es h)

module _ {K V : Type 0} (E : K → K → Bool) (eq : IsEquivalence E) where
  removes_same : (k l : K) → E k l ≡ true → (r : Request K V) → removes E k r ≡ removes E l r
  removes_same k l h (ask.advice_evict m) = eq.congr k l m h
  removes_same k l h (ask.invalidate m) = eq.congr k l m h
  removes_same k l h ask.prune = refl
  removes_same k l h _ = refl

  -- of equal keys both are removed
  pub removed_same : (k l : K) → E k l ≡ true → (es : List (Request K V × Outcome K V)) → is_removed_by E k es ≡ is_removed_by E l es
  removed_same k l h [] = refl
  removed_same k l h (e ∷ es) = ap (λ t. t || is_removed_by E k es) (removes_same k l h e.0) ∙ ap (λ t. removes E l e.0 || t) (removed_same k l h es)

module _ {K : Type 0} (E : K → K → Bool) (gone : K → Bool) (same : (k l : K) → E k l ≡ true → gone k ≡ gone l) where
  -- where no key equal to k goes, k stays
  pub any_staying : (k : K) → gone k ≡ false → (ks : List K) → list_any (E k) (filter (λ l. not (gone l)) ks) ≡ list_any (E k) ks
  any_staying k h [] = refl
  any_staying k h (l ∷ ks) =
      let r = any_staying k h ks in
      let stay = filter (λ l. not (gone l)) ks in
      elim (gone l) as (λ t. gone l ≡ t → list_any (E k) (cond (not t) (l ∷ stay) stay) ≡ (E k l || list_any (E k) ks)) [
        | true ↦ λ t. r ∙ ap (λ s. s || list_any (E k) ks) (sym (apart l t))
        | false ↦ λ t. ap (λ s. E k l || s) r
      ] refl
    where
      apart : (l : K) → gone l ≡ true → E k l ≡ false
      apart l t = elim (E k l) as (λ s. E k l ≡ s → s ≡ false) [
        | true ↦ λ s. absurd (true≢false (sym t ∙ sym (same k l s) ∙ h))
        | false ↦ λ s. refl
      ] refl

module _ {K V : Type 0} (E : K → K → Bool) (eq : IsEquivalence E) where
  -- a key that is not removed is among the uses that remain if it was used
  pub any_remaining : (k : K) (es : List (Request K V × Outcome K V)) → is_removed_by E k es ≡ false → list_any (E k) (remaining_uses E es) ≡ list_any (E k) (uses es)
  any_remaining k [] h = refl
  any_remaining k (e ∷ es) h =
      let later : is_removed_by E k es ≡ false = (none_parts (λ d. removes E k d.0) (e ∷ []) es h).1 in
      list_any-append (E k) (filter (λ l. not (is_removed_by E l es)) (uses (e ∷ []))) (remaining_uses E es)
      ∙ ap (λ t. t || list_any (E k) (remaining_uses E es)) (any_staying E (λ l. is_removed_by E l es) (λ l m s. removed_same E eq l m s es) k later (uses (e ∷ [])))
      ∙ ap (λ t. list_any (E k) (uses (e ∷ [])) || t) (any_remaining k es later)
      ∙ sym (ap (list_any (E k)) (uses-append (e ∷ []) es) ∙ list_any-append (E k) (uses (e ∷ [])) (uses es))
