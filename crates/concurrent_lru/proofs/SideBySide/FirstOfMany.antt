-- What the first shards took, and the next one takes too, the first shards took.
use Rattle.std.proofs.Common.{◌≡◌, ℕ, zero, suc, ◌+◌, Bool, List, [], ◌∷◌, ◌++◌, map, length, replicate, refl, sym, ap, ◌∙◌, arith, append-nil}
use Rattle.std.specs.List.{flat_map}
use Rattle.std.proofs.lemmas.List.{length-map, length-replicate, map_push}
use Rattle.std.proofs.lemmas.Grind.{flat_map-append}
use Rattle.concurrent_lru.specs.Cache.{Idle}
use Rattle.concurrent_lru.specs.Request.{Request}
use Rattle.concurrent_lru.specs.Reply as say
use Rattle.concurrent_lru.specs.Runs.{Outcome, accepted}
use Rattle.concurrent_lru.specs.Sharded.{Sharded}
use Rattle.concurrent_lru.specs.Parts.{numbered, StandsAt, FirstTake}
use Rattle.concurrent_lru.proofs.SideBySide.OneOfMany.{apart-nothing, apart-push}

module _ {X : Type 0} where
  replicate_push : (n : ℕ) (x : X) → replicate (n + 1) x ≡ replicate n x ++ x ∷ []
  replicate_push zero x = refl
  replicate_push (suc n) x = let e : suc n + 1 ≡ suc (n + 1) = omega arith in ap (λ m. replicate m x) e ∙ ap (λ xs. x ∷ xs) (replicate_push n x)

  numbered_push : (i : ℕ) (xs : List X) (x : X) → numbered i (xs ++ x ∷ []) ≡ numbered i xs ++ (i + length xs, x) ∷ []
  numbered_push i [] x = let e : i ≡ i + 0 = omega arith in ap (λ n. (n, x) ∷ []) e
  numbered_push i (y ∷ ys) x =
      let e : i + 1 + length ys ≡ i + length (y ∷ ys) = omega arith in
      ap (λ r. (i, y) ∷ r) (numbered_push (i + 1) ys x ∙ ap (λ n. numbered (i + 1) ys ++ (n, x) ∷ []) e)

  numbered_next : (n : ℕ) (xs : List X) (x : X) → length xs ≡ n → numbered 0 (xs ++ x ∷ []) ≡ numbered 0 xs ++ (n, x) ∷ []
  numbered_next n xs x h = let e : 0 + length xs ≡ n = omega (arith, h) in numbered_push 0 xs x ∙ ap (λ m. numbered 0 xs ++ (m, x) ∷ []) e

  length_numbered : (i : ℕ) (xs : List X) → length (map (λ p. p.0) (numbered i xs)) ≡ length xs
  length_numbered i [] = refl
  length_numbered i (x ∷ xs) = ap suc (length_numbered (i + 1) xs)

module _ {K V S : Type 0} (E : K → K → Bool) where
  pub none_take : (old : Sharded K V S) (r : Request K V) → FirstTake E 0 old r [] old
  none_take old r = record { lists = []; joined = refl; run = apart-nothing E old }

  pub one_more_takes : (n : ℕ) (old mid new : Sharded K V S) (r : Request K V) (out more : List (Idle K V))
      → FirstTake E n old r out mid → StandsAt E mid n r (accepted say.done more) new → FirstTake E (n + 1) old r (out ++ more) new
  one_more_takes n old mid new r out more h s =
      let done : List (Idle K V) → Outcome K V = accepted say.done in
      let outcomes = map done h.lists in
      let counted : length h.lists ≡ n =
      sym (length-map h.lists done) ∙ sym (length_numbered 0 outcomes) ∙ ap length h.run.shards ∙ length_numbered 0 (replicate n r) ∙ length-replicate n r in
      let rs : numbered 0 (replicate (n + 1) r) ≡ numbered 0 (replicate n r) ++ (n, r) ∷ [] =
      ap (numbered 0) (replicate_push n r) ∙ numbered_next n (replicate n r) r (length-replicate n r) in
      let os : numbered 0 (map done (h.lists ++ more ∷ [])) ≡ numbered 0 outcomes ++ (n, done more) ∷ [] =
      ap (numbered 0) (map_push done h.lists more) ∙ numbered_next n outcomes (done more) (length-map h.lists done ∙ counted) in
      record {
        lists = h.lists ++ more ∷ [];
        joined = ap (λ es. es ++ more) h.joined ∙ ap (λ es. flat_map (λ l. l) h.lists ++ es) (sym (append-nil more)) ∙ sym (flat_map-append (λ l. l) h.lists (more ∷ []));
        run = rw (rs, os) (apart-push E old mid new (numbered 0 (replicate n r)) (numbered 0 outcomes) (n, r) (n, done more) h.run refl s);
      }
