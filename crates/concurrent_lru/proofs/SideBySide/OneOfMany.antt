-- One cache of many is changed, and a run at many caches goes on by one step.
use Rattle.std.proofs.Common.{◌≡◌, ◌≢◌, ℕ, ◌+◌, ◌<◌, ◌==◌, Bool, true, false, List, [], ◌∷◌, ◌++◌, map, length, take, slice_index_or, slice_set, replicate, if◌then◌else◌, refl, sym, ap, ◌∙◌, subst, arith, append-nil}
use Rattle.std.specs.Prelude.{sum_by}
use Rattle.std.specs.List.{All, AllByRecursion, AllZip}
use Rattle.std.proofs.lemmas.List.{map_push, map-set, get_or-map, get_or-set_same, get_or-set_other, length-map, length-set, length-replicate, same_lists}
use Rattle.std.proofs.lemmas.List.Elements.{All-set, All-replicate}
use Rattle.std.proofs.lemmas.List.Sums.{sum_by_more}
use Rattle.std.proofs.lemmas.Bool.{true≢false, eq-eqb, ne_eqb, eqb-true}
use Rattle.concurrent_lru.specs.Cache.{Cache, IsLawful, empty_cache}
use Rattle.concurrent_lru.specs.Counted.{Counted, caches_in}
use Rattle.concurrent_lru.specs.Request.{Request}
use Rattle.concurrent_lru.specs.Runs.{Outcome, refused, Stands, Run}
use Rattle.concurrent_lru.specs.Sharded.{Sharded}
use Rattle.concurrent_lru.specs.Parts.{part, StandsAt, RunsApart}
use Rattle.concurrent_lru.specs.declared.refusal.Refusal.{Refusal}
use Rattle.concurrent_lru.proofs.Steps.EmptyCache.{empty_lawful}
use Rattle.concurrent_lru.proofs.Runs.CutAndJoined.{Run-push}

module _ {X : Type 0} where
  push-at : (b : Bool) (y : X) (ys zs more : List X) → zs ≡ ys ++ more → (if b then y ∷ zs else zs) ≡ (if b then y ∷ ys else ys) ++ more
  push-at true y ys zs more h = ap (λ l. y ∷ l) h
  push-at false y ys zs more h = h

  pub part-push : (i : ℕ) (xs : List (ℕ × X)) (x : ℕ × X) → part i (xs ++ x ∷ []) ≡ part i xs ++ part i (x ∷ [])
  part-push i [] x = refl
  part-push i (y ∷ ys) x = push-at (y.0 == i) y.1 (part i ys) (part i (ys ++ x ∷ [])) (part i (x ∷ [])) (part-push i ys x)

  pub part-own : (i : ℕ) (xs : List (ℕ × X)) (x : ℕ × X) → x.0 ≡ i → part i (xs ++ x ∷ []) ≡ part i xs ++ x.1 ∷ []
  part-own i xs x h = part-push i xs x ∙ ap (λ b. part i xs ++ (if b then x.1 ∷ [] else [])) (eq-eqb x.0 i h)

  pub part-other : (i : ℕ) (xs : List (ℕ × X)) (x : ℕ × X) → x.0 ≢ i → part i (xs ++ x ∷ []) ≡ part i xs
  part-other i xs x h = part-push i xs x ∙ ap (λ b. part i xs ++ (if b then x.1 ∷ [] else [])) (ne_eqb x.0 i h) ∙ append-nil (part i xs)

  pub All-push : (P : X → Type 0) (xs : List X) (x : X) → AllByRecursion P xs → P x → AllByRecursion P (xs ++ x ∷ [])
  All-push P [] x h p = (p, h)
  All-push P (y ∷ ys) x h p = (h.0, All-push P ys x h.1 p)

-- one more pair stands in the relation
pub AllZip-push : {A B : Type 0} (R : A → B → Type 0) (xs : List A) (ys : List B) (x : A) (y : B) → AllZip R xs ys → R x y → AllZip R (xs ++ x ∷ []) (ys ++ y ∷ [])
AllZip-push R [] [] x y h r = (r, h)
AllZip-push R (a ∷ xs) (b ∷ ys) x y h r = (h.0, AllZip-push R xs ys x y h.1 r)
AllZip-push R [] (b ∷ ys) x y h r = absurd h
AllZip-push R (a ∷ xs) [] x y h r = absurd h

module _ {K V : Type 0} (E : K → K → Bool) where
  -- some caches, all lawful, stay so where one becomes another lawful cache
  pub lawful-set : (cs : List (Counted K V)) (i : ℕ) (c : Counted K V) → (0 < length cs) × All (IsLawful E) (caches_in cs) → IsLawful E c.cache → (0 < length (slice_set cs i c)) × All (IsLawful E) (caches_in (slice_set cs i c))
  lawful-set cs i c h l = (subst (λ n. 0 < n) (sym (length-set cs i c)) h.0, subst (All (IsLawful E)) (sym (map-set (λ x. x.cache) cs i c)) (All-set (IsLawful E) (caches_in cs) i c.cache l h.1))

  -- some empty caches are lawful
  pub lawful-empties : (cs : List (Counted K V)) (n capacity most next : ℕ) → 0 < n → caches_in cs ≡ replicate n (empty_cache capacity most next) → (0 < length cs) × All (IsLawful E) (caches_in cs)
  lawful-empties cs n capacity most next some is =
      let count : length cs ≡ n = sym (length-map cs (λ c. c.cache)) ∙ ap length is ∙ length-replicate n (empty_cache {K = K} {V = V} capacity most next) in
      (subst (λ m. 0 < m) (sym count) some, subst (All (IsLawful E)) (sym is) (All-replicate (IsLawful E) n (empty_cache capacity most next) (empty_lawful E capacity most next)))

module _ {K V S : Type 0} (E : K → K → Bool) where
  -- where the cache at i takes a step, all of them take it at the shard i
  pub stands-set : {old : Sharded K V S} {hasher : S} (cs : List (Counted K V)) {i : ℕ} {was : Counted K V} (new : Counted K V) {r : Request K V} {o : Outcome K V}
      → record { hasher = hasher; caches = caches_in cs } ≡ old → i < length cs → was ≡ slice_index_or cs i was → Stands E was.cache r o new.cache
      → StandsAt E old i r o (record { hasher = hasher; caches = caches_in (slice_set cs i new) })
  stands-set {hasher} cs {i} {was} new {r} {o} is within at step =
      let here : i < length (caches_in cs) = subst (λ n. i < n) (sym (length-map cs (λ c. c.cache))) within in
      let stands : StandsAt E (record { hasher = hasher; caches = caches_in cs }) i r o (record { hasher = hasher; caches = slice_set (caches_in cs) i new.cache }) = record {
        hasher = refl;
        count = length-set (caches_in cs) i new.cache;
        own = λ d lt. rw (get_or-map (λ c. c.cache) cs i was d within ∙ ap (λ c. c.cache) (sym at), get_or-set_same (caches_in cs) i new.cache d here) step;
        others = λ j d other. get_or-set_other (caches_in cs) i j new.cache d other;
        stranger = λ past. absurd (omega (arith, here, past));
      } in
      subst (λ s. StandsAt E s i r o (record { hasher = hasher; caches = caches_in (slice_set cs i new) })) is
      (subst (λ ds. StandsAt E (record { hasher = hasher; caches = caches_in cs }) i r o (record { hasher = hasher; caches = ds })) (sym (map-set (λ c. c.cache) cs i new)) stands)

  -- the same where the shard is found among those that are seen, and what is told is the outcome
  pub stands-set-at : {old : Sharded K V S} {hasher : S} (cs : List (Counted K V)) {i j : ℕ} {was : Counted K V} (new : Counted K V) {r : Request K V} {o told : Outcome K V}
      → record { hasher = hasher; caches = caches_in cs } ≡ old → i ≡ j → i < length old.caches → was ≡ slice_index_or cs i was → Stands E was.cache r o new.cache → told ≡ o
      → StandsAt E old j r told (record { hasher = hasher; caches = caches_in (slice_set cs i new) })
  stands-set-at {old} {hasher} cs {i} new {r} is same within at step told =
      let as_many : length cs ≡ length old.caches = sym (length-map cs (λ c. c.cache)) ∙ ap (λ s. length s.caches) is in
      rw (told, sym same) (stands-set cs new is (subst (λ n. i < n) (sym as_many) within) at step)

  -- where the cache at i takes a step and stays lawful, all of them take it there and stay lawful
  pub stands-lawful : {old : Sharded K V S} {hasher : S} (cs : List (Counted K V)) {i : ℕ} {was : Counted K V} (new : Counted K V) {r : Request K V} {o : Outcome K V}
      → record { hasher = hasher; caches = caches_in cs } ≡ old → i < length cs → was ≡ slice_index_or cs i was → (0 < length cs) × All (IsLawful E) (caches_in cs) → Stands E was.cache r o new.cache → IsLawful E new.cache
      → record { step : StandsAt E old i r o (record { hasher = hasher; caches = caches_in (slice_set cs i new) }); lawful : All (IsLawful E) (caches_in (slice_set cs i new)) }
  stands-lawful cs {i} new is within at lawful step stays = record { step = stands-set cs new is within at step; lawful = (lawful-set E cs i new lawful stays).1 }

  pub apart-nothing : (old : Sharded K V S) → RunsApart E old [] [] old
  apart-nothing old = record { hasher = refl; count = refl; shards = refl; apart = λ i d lt. refl; strangers = _ }

  apart-at : (old mid new : Sharded K V S) (rs : List (ℕ × Request K V)) (os : List (ℕ × Outcome K V)) (r : ℕ × Request K V) (o : ℕ × Outcome K V) → RunsApart E old rs os mid → o.0 ≡ r.0 → StandsAt E mid r.0 r.1 o.1 new
      → (i : ℕ) (d : Cache K V) → i < length old.caches → (b : Bool) → (r.0 == i) ≡ b → Run E (slice_index_or old.caches i d) (part i (rs ++ r ∷ [])) (part i (os ++ o ∷ [])) (slice_index_or new.caches i d)
  apart-at old mid new rs os r o h same s i d lt true e =
      let here : r.0 ≡ i = eqb-true r.0 i e in
      let own : Stands E (slice_index_or mid.caches i d) r.1 o.1 (slice_index_or new.caches i d) = subst (λ j. j < length mid.caches → Stands E (slice_index_or mid.caches j d) r.1 o.1 (slice_index_or new.caches j d)) here (s.own d) (omega (arith, h.count, lt)) in
      rw (part-own i rs r here, part-own i os o (same ∙ here)) (Run-push E (slice_index_or old.caches i d) (slice_index_or mid.caches i d) (slice_index_or new.caches i d) (part i rs) (part i os) r.1 o.1 (h.apart i d lt) own)
  apart-at old mid new rs os r o h same s i d lt false e =
      let there : r.0 ≢ i = λ is. true≢false (sym (eq-eqb r.0 i is) ∙ e) in
      rw (part-other i rs r there, part-other i os o (λ is. there (sym same ∙ is)), s.others i d (λ is. there (sym is))) (h.apart i d lt)

  pub apart-push : (old mid new : Sharded K V S) (rs : List (ℕ × Request K V)) (os : List (ℕ × Outcome K V)) (r : ℕ × Request K V) (o : ℕ × Outcome K V) → RunsApart E old rs os mid → o.0 ≡ r.0 → StandsAt E mid r.0 r.1 o.1 new → RunsApart E old (rs ++ r ∷ []) (os ++ o ∷ []) new
  apart-push old mid new rs os r o h same s = record {
    hasher = s.hasher ∙ h.hasher;
    count = s.count ∙ h.count;
    shards = map_push (λ a. a.0) os o ∙ ap (λ l. l ++ o.0 ∷ []) h.shards ∙ ap (λ j. map (λ a. a.0) rs ++ j ∷ []) same ∙ sym (map_push (λ a. a.0) rs r);
    apart = λ i d lt. apart-at old mid new rs os r o h same s i d lt (r.0 == i) refl;
    strangers = All-push _ os o h.strangers (λ le. (s.stranger (omega (arith, h.count, same, le))).0);
  }

  -- a refused request leaves all as it was
  pub refused-same : (old new : Sharded K V S) (i : ℕ) (r : Request K V) (e : Refusal) → StandsAt E old i r (refused e) new → new ≡ old
  refused-same old new i r e s =
      ap (λ h. record { hasher = h; caches = new.caches }) s.hasher
      ∙ ap (λ cs. record { hasher = old.hasher; caches = cs }) (same_lists new.caches old.caches s.count (λ k d lt. cache-same k d (omega (arith, s.count, lt)) (k == i) refl))
    where
      cache-same : (k : ℕ) (d : Cache K V) → k < length old.caches → (b : Bool) → (k == i) ≡ b → slice_index_or new.caches k d ≡ slice_index_or old.caches k d
      cache-same k d lt true is = subst (λ j. j < length old.caches → slice_index_or new.caches j d ≡ slice_index_or old.caches j d) (sym (eqb-true k i is)) (λ within. (s.own d within).1) lt
      cache-same k d lt false is = s.others k d (λ same. true≢false (sym (eq-eqb k i same) ∙ is))

module _ {K V S : Type 0} where
  -- the cache at a shard, as it is seen among all of them
  pub cache-at : (old : Sharded K V S) (hasher : S) (cs : List (Counted K V)) (i j : ℕ) (was : Counted K V) → record { hasher = hasher; caches = caches_in cs } ≡ old → i ≡ j → i < length old.caches → was ≡ slice_index_or cs i was → (d : Cache K V) → slice_index_or old.caches j d ≡ was.cache
  cache-at old hasher cs i j was is same within at d =
      let inside : i < length cs = subst (λ n. i < n) (sym (sym (length-map cs (λ c. c.cache)) ∙ ap (λ s. length s.caches) is)) within in
      sym (ap (λ s. slice_index_or s.caches j d) is) ∙ ap (λ k. slice_index_or (caches_in cs) k d) (sym same) ∙ get_or-map (λ c. c.cache) cs i was d inside ∙ ap (λ c. c.cache) (sym at)

  -- the first i + 1 caches have what the first i have, and what the next one has
  pub sum-more : (f : Cache K V → ℕ) {old : Sharded K V S} {hasher : S} (cs : List (Counted K V)) {items : List (Counted K V)} (i : ℕ) {own : Counted K V}
      → record { hasher = hasher; caches = caches_in cs } ≡ old → items ≡ cs → i < length items → own ≡ slice_index_or items i own → sum_by f (take (i + 1) old.caches) ≡ sum_by f (take i old.caches) + f own.cache
  sum-more f {old} {hasher} cs i {own} is same within at =
      let inside : i < length old.caches = subst (λ n. i < n) (ap length same ∙ sym (length-map cs (λ c. c.cache)) ∙ ap (λ s. length s.caches) is) within in
      let here = cache-at old hasher cs i i own is refl inside (at ∙ ap (λ xs. slice_index_or xs i own) same) own.cache in
      sum_by_more f old.caches i own.cache inside ∙ ap (λ c. sum_by f (take i old.caches) + f c) here
