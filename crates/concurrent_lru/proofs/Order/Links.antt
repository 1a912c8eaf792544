-- The idle order by its links: at its end one more, one taken out, and read from its oldest on.
use Rattle.std.proofs.Common.{◌≡◌, ◌≢◌, ◌⊎◌, inl, inr, ℕ, zero, suc, ◌+◌, ◌<◌, ◌≤◌, List, [], ◌∷◌, ◌++◌, length, refl, sym, ap, ◌∙◌, subst, arith, Option, Some, None, Contains, get_or, Bool, true, false, cond, eqb, filter, not}
use Rattle.concurrent_lru.specs.Order.{Link, link, first_or, last_or, Absent, Distinct, Linked, IsOrder, after_of, order}

pub absent_left : (k : ℕ) (xs ys : List ℕ) → Absent k (xs ++ ys) → Absent k xs
absent_left k [] ys a = tt
absent_left k (x ∷ xs) ys a = (a.0, absent_left k xs ys a.1)

pub absent_right : (k : ℕ) (xs ys : List ℕ) → Absent k (xs ++ ys) → Absent k ys
absent_right k [] ys a = a
absent_right k (x ∷ xs) ys a = absent_right k xs ys a.1

pub absent_both : (k : ℕ) (xs ys : List ℕ) → Absent k xs → Absent k ys → Absent k (xs ++ ys)
absent_both k [] ys a b = b
absent_both k (x ∷ xs) ys a b = (a.0, absent_both k xs ys a.1 b)

-- of the parts of a list without repeats
pub apart_middle : (xs : List ℕ) (k : ℕ) (ys : List ℕ) → Distinct (xs ++ k ∷ ys) → Absent k xs × Absent k ys × Distinct (xs ++ ys)
apart_middle [] k ys d = (tt, d.0, d.1)
apart_middle (x ∷ xs) k ys d =
    let on = apart_middle xs k ys d.1 in
    let here = absent_right x xs (k ∷ ys) d.0 in
    (((λ e. here.0 (sym e)), on.0), on.1, (absent_both x xs ys (absent_left x xs (k ∷ ys) d.0) here.1, on.2))

pub apart_push : (ks : List ℕ) (k : ℕ) → Distinct ks → Absent k ks → Distinct (ks ++ k ∷ [])
apart_push [] k d a = (tt, tt)
apart_push (x ∷ xs) k d a = (absent_both x xs (k ∷ []) d.0 ((λ e. a.0 (sym e)), tt), apart_push xs k d.1 a.1)

pub apart_right : (xs ys : List ℕ) → Distinct (xs ++ ys) → Distinct ys
apart_right [] ys d = d
apart_right (x ∷ xs) ys d = apart_right xs ys d.1

pub last_or-push : (b : Option ℕ) (xs : List ℕ) (k : ℕ) → last_or b (xs ++ k ∷ []) ≡ Some k
last_or-push b [] k = refl
last_or-push b (x ∷ xs) k = last_or-push (Some x) xs k

pub last_or-append : (b : Option ℕ) (xs ys : List ℕ) → last_or b (xs ++ ys) ≡ last_or (last_or b xs) ys
last_or-append b [] ys = refl
last_or-append b (x ∷ xs) ys = last_or-append (Some x) xs ys

pub first_or-append : (xs ys : List ℕ) (e : Option ℕ) → first_or (xs ++ ys) e ≡ first_or xs (first_or ys e)
first_or-append [] ys e = refl
first_or-append (x ∷ xs) ys e = refl

module _ (g : ℕ → Option Link) where
  pub linked_cut : (b : Option ℕ) (xs ys : List ℕ) (e : Option ℕ) → Linked g b (xs ++ ys) e → Linked g b xs (first_or ys e) × Linked g (last_or b xs) ys e
  linked_cut b [] ys e l = (tt, l)
  linked_cut b (x ∷ xs) ys e l =
      let on = linked_cut (Some x) xs ys e l.1 in
      ((l.0 ∙ ap (λ n. Some (link b n)) (first_or-append xs ys e), on.0), on.1)

  pub linked_glue : (b : Option ℕ) (xs ys : List ℕ) (e : Option ℕ) → Linked g b xs (first_or ys e) → Linked g (last_or b xs) ys e → Linked g b (xs ++ ys) e
  linked_glue b [] ys e l m = m
  linked_glue b (x ∷ xs) ys e l m = (l.0 ∙ ap (λ n. Some (link b n)) (sym (first_or-append xs ys e)), linked_glue (Some x) xs ys e l.1 m)

module _ (g h : ℕ → Option Link) where
  -- places whose links stay
  abbrev pub Same : List ℕ → Type 0
  Same [] = Unit {0}
  Same (k ∷ ks) = (h k ≡ g k) × Same ks

  pub linked_same : (b : Option ℕ) (ks : List ℕ) (e : Option ℕ) → Same ks → Linked g b ks e → Linked h b ks e
  linked_same b [] e s l = tt
  linked_same b (k ∷ ks) e s l = (s.0 ∙ l.0, linked_same (Some k) ks e s.1 l.1)

  -- all but one or two stay
  pub same_but : (p q : ℕ) → ((k : ℕ) → k ≢ p → k ≢ q → h k ≡ g k) → (ks : List ℕ) → Absent p ks → Absent q ks → Same ks
  same_but p q h' [] a b = tt
  same_but p q h' (k ∷ ks) a b = (h' k (λ e. a.0 (sym e)) (λ e. b.0 (sym e)), same_but p q h' ks a.1 b.1)

-- a list is empty or has a last element
pub ends : (ks : List ℕ) → (ks ≡ []) ⊎ ((zs : List ℕ) × (m : ℕ) × (ks ≡ zs ++ m ∷ []))
ends [] = inl refl
ends (k ∷ ks) = inr (elim (ends ks) [
  | inl e ↦ ([], k, ap (λ l. k ∷ l) e)
  | inr w ↦ (k ∷ w.0, w.1, ap (λ l. k ∷ l) w.2)
])

-- ---- `append`
module _ (g h : ℕ → Option Link) (o n : Option ℕ) (k : ℕ) where
  abbrev pub first_of : Option ℕ → Option ℕ
  first_of None = Some k
  first_of (Some m) = o

  pub order_push : (ks : List ℕ) → IsOrder g o n ks → Absent k ks → h k ≡ Some (link n None)
      → ((m : ℕ) (b a : Option ℕ) → n ≡ Some m → g m ≡ Some (link b a) → h m ≡ Some (link b (Some k)))
      → ((q : ℕ) → q ≢ k → (n ≡ Some q → ⊥) → h q ≡ g q)
      → IsOrder h (first_of n) (Some k) (ks ++ k ∷ [])
  order_push ks old absent here last others =
      elim (ends ks) [
        | inl e ↦
            let none : n ≡ None = old.last ∙ ap (last_or None) e in
            subst (λ l. IsOrder h (first_of n) (Some k) (l ++ k ∷ [])) (sym e)
            (record { first = ap first_of none; last = refl; linked = (here ∙ ap (λ b. Some (link b None)) none, tt); distinct = (tt, tt) })
        | inr w ↦
            let zs = w.0 in let m = w.1 in
            let some : n ≡ Some m = old.last ∙ ap (last_or None) w.2 ∙ last_or-push None zs m in
            let l = linked_cut g None zs (m ∷ []) None (subst (λ l. Linked g None l None) w.2 old.linked) in
            let d = apart_middle zs m [] (subst Distinct w.2 old.distinct) in
            let a = absent_left k zs (m ∷ []) (subst (Absent k) w.2 absent) in
            let same = same_but g h k m (λ q nk nm. others q nk (λ e. let q_is : Some q ≡ Some m = sym e ∙ some in let is : q ≡ m = cc in nm is)) zs a d.0 in
            let front : Linked h None (zs ++ m ∷ []) (Some k) = linked_glue h None zs (m ∷ []) (Some k) (linked_same g h None zs (Some m) same l.0) (last m (last_or None zs) None some l.1.0, tt) in
            subst (λ l. IsOrder h (first_of n) (Some k) (l ++ k ∷ [])) (sym w.2)
            (record {
              first = ap first_of some ∙ old.first ∙ ap (λ l. first_or l None) w.2 ∙ head zs m;
              last = sym (last_or-push None (zs ++ m ∷ []) k);
              linked = linked_glue h None (zs ++ m ∷ []) (k ∷ []) None front (here ∙ ap (λ b. Some (link b None)) (some ∙ sym (last_or-push None zs m)), tt);
              distinct = apart_push (zs ++ m ∷ []) k (subst Distinct w.2 old.distinct) (subst (Absent k) w.2 absent);
            })
      ]
    where
      head : (zs : List ℕ) (m : ℕ) → first_or (zs ++ m ∷ []) None ≡ first_or ((zs ++ m ∷ []) ++ k ∷ []) None
      head [] m = refl
      head (z ∷ zs) m = refl

-- ---- `remove`
abbrev pub oldest_without : Option ℕ → Option ℕ → Option ℕ → Option ℕ
oldest_without o None a = a
oldest_without o (Some p) a = o

abbrev pub newest_without : Option ℕ → Option ℕ → Option ℕ → Option ℕ
newest_without n b None = b
newest_without n b (Some s) = n

-- none of zs is the last of xs or the first of ys
abbrev Out : ℕ → List ℕ → List ℕ → Type 0
Out p ys [] = Unit {0}
Out p ys (z ∷ zs) = ((z ≢ p) × (first_or ys None ≡ Some z → ⊥)) × Out p ys zs

-- no element of the list is the last of xs
abbrev Past : List ℕ → List ℕ → Type 0
Past xs [] = Unit {0}
Past xs (w ∷ ws) = (last_or None xs ≡ Some w → ⊥) × Past xs ws

module _ (g h : ℕ → Option Link) (o n : Option ℕ) (k : ℕ) where
  front : (xs ys : List ℕ) → Linked g None xs (Some k) → Distinct (xs ++ ys) → Absent k xs
      → ((p : ℕ) (b a : Option ℕ) → last_or None xs ≡ Some p → g p ≡ Some (link b a) → h p ≡ Some (link b (first_or ys None)))
      → ((q : ℕ) → q ≢ k → (last_or None xs ≡ Some q → ⊥) → (first_or ys None ≡ Some q → ⊥) → h q ≡ g q)
      → Linked h None xs (first_or ys None)
  front xs ys l d a left others =
      elim (ends xs) [
        | inl e ↦ subst (λ z. Linked h None z (first_or ys None)) (sym e) tt
        | inr w ↦
            let zs = w.0 in let p = w.1 in
            let is_last : last_or None xs ≡ Some p = ap (last_or None) w.2 ∙ last_or-push None zs p in
            let cut = linked_cut g None zs (p ∷ []) (Some k) (subst (λ z. Linked g None z (Some k)) w.2 l) in
            let d' : Distinct ((zs ++ p ∷ []) ++ ys) = subst (λ z. Distinct (z ++ ys)) w.2 d in
            let stays = same_all p ys zs (outside zs ys p d') (absent_left k zs (p ∷ []) (subst (Absent k) w.2 a)) (λ q na nb nc. others q na (λ e. let same : Some q ≡ Some p = sym e ∙ is_last in let is : q ≡ p = cc in nb is) nc) in
            subst (λ z. Linked h None z (first_or ys None)) (sym w.2)
            (linked_glue h None zs (p ∷ []) (first_or ys None) (linked_same g h None zs (Some p) stays cut.0) (left p (last_or None zs) (Some k) is_last cut.1.0, tt))
      ]
    where
      first_out : (z : ℕ) (ys : List ℕ) → Absent z ys → first_or ys None ≡ Some z → ⊥
      first_out z [] a e = cc
      first_out z (y ∷ ys) a e = let is : y ≡ z = cc in a.0 (sym is)

      outside : (zs ys : List ℕ) (p : ℕ) → Distinct ((zs ++ p ∷ []) ++ ys) → Out p ys zs
      outside [] ys p d = tt
      outside (z ∷ zs) ys p d =
          let a = absent_left z (zs ++ p ∷ []) ys d.0 in
          (((absent_right z zs (p ∷ []) a).0, first_out z ys (absent_right z (zs ++ p ∷ []) ys d.0)), outside zs ys p d.1)

      same_all : (p : ℕ) (ys zs : List ℕ) → Out p ys zs → Absent k zs → ((q : ℕ) → q ≢ k → q ≢ p → (first_or ys None ≡ Some q → ⊥) → h q ≡ g q) → Same g h zs
      same_all p ys [] u a f = tt
      same_all p ys (z ∷ zs) u a f = (f z (λ e. a.0 (sym e)) u.0.0 u.0.1, same_all p ys zs u.1 a.1 f)

  pub order_cut : (xs ys : List ℕ) → IsOrder g o n (xs ++ k ∷ ys)
      → ((p : ℕ) (b a : Option ℕ) → last_or None xs ≡ Some p → g p ≡ Some (link b a) → h p ≡ Some (link b (first_or ys None)))
      → ((s : ℕ) (b a : Option ℕ) → first_or ys None ≡ Some s → g s ≡ Some (link b a) → h s ≡ Some (link (last_or None xs) a))
      → ((q : ℕ) → q ≢ k → (last_or None xs ≡ Some q → ⊥) → (first_or ys None ≡ Some q → ⊥) → h q ≡ g q)
      → IsOrder h (oldest_without o (last_or None xs) (first_or ys None)) (newest_without n (last_or None xs) (first_or ys None)) (xs ++ ys)
  order_cut xs ys old left right others =
      let cut = linked_cut g None xs (k ∷ ys) None old.linked in
      let d = apart_middle xs k ys old.distinct in
      record {
        first = oldest xs ys old.first;
        last = newest xs ys old.last;
        linked = linked_glue h None xs ys None (front xs ys cut.0 d.2 d.0 left others) (back xs ys cut.1.1 d.2 d.1 right others);
        distinct = d.2;
      }
    where
      oldest : (xs ys : List ℕ) → o ≡ first_or (xs ++ k ∷ ys) None → oldest_without o (last_or None xs) (first_or ys None) ≡ first_or (xs ++ ys) None
      oldest [] ys e = refl
      oldest (x ∷ xs) ys e = some (Some x) x xs refl ∙ e
        where
          some : (b : Option ℕ) (x : ℕ) (xs : List ℕ) → b ≡ Some x → oldest_without o (last_or b xs) (first_or ys None) ≡ o
          some b x [] e = ap (λ v. oldest_without o v (first_or ys None)) e
          some b x (y ∷ xs) e = some (Some y) y xs refl

      newest : (xs ys : List ℕ) → n ≡ last_or None (xs ++ k ∷ ys) → newest_without n (last_or None xs) (first_or ys None) ≡ last_or None (xs ++ ys)
      newest xs [] e = sym (last_or-append None xs [])
      newest xs (y ∷ ys) e = e ∙ last_or-append None xs (k ∷ y ∷ ys) ∙ sym (last_or-append None xs (y ∷ ys))

      last_out : (w : ℕ) (b : Option ℕ) (xs ws : List ℕ) → (b ≡ Some w → ⊥) → Distinct (xs ++ w ∷ ws) → last_or b xs ≡ Some w → ⊥
      last_out w b [] ws nb d e = nb e
      last_out w b (x ∷ xs) ws nb d e = last_out w (Some x) xs ws (λ is. let same : x ≡ w = cc in (absent_right x xs (w ∷ ws) d.0).0 same) d.1 e

      past : (xs vs ws : List ℕ) → Distinct (xs ++ (vs ++ ws)) → Past xs ws
      past xs vs [] d = tt
      past xs vs (w ∷ ws) d =
          (last_out w None xs ws (λ e. cc) (drop_mid xs vs (w ∷ ws) d), past xs (vs ++ w ∷ []) ws (subst (λ l. Distinct (xs ++ l)) (sym (Rattle.std.proofs.Common.append_assoc vs (w ∷ []) ws)) d))
        where
          drop_mid : (xs vs ws : List ℕ) → Distinct (xs ++ (vs ++ ws)) → Distinct (xs ++ ws)
          drop_mid xs [] ws d = d
          drop_mid xs (v ∷ vs) ws d = drop_mid xs vs ws (apart_middle xs v (vs ++ ws) d).2

      same_past : (s : ℕ) (xs ws : List ℕ) → Past xs ws → Absent k ws → Absent s ws → ((q : ℕ) → q ≢ k → (last_or None xs ≡ Some q → ⊥) → (Some s ≡ Some q → ⊥) → h q ≡ g q) → Same g h ws
      same_past s xs [] p a b f = tt
      same_past s xs (w ∷ ws) p a b f = (f w (λ e. a.0 (sym e)) p.0 (λ e. let same : s ≡ w = cc in b.0 same), same_past s xs ws p.1 a.1 b.1 f)

      back : (xs ys : List ℕ) → Linked g (Some k) ys None → Distinct (xs ++ ys) → Absent k ys
          → ((s : ℕ) (b a : Option ℕ) → first_or ys None ≡ Some s → g s ≡ Some (link b a) → h s ≡ Some (link (last_or None xs) a))
          → ((q : ℕ) → q ≢ k → (last_or None xs ≡ Some q → ⊥) → (first_or ys None ≡ Some q → ⊥) → h q ≡ g q)
          → Linked h (last_or None xs) ys None
      back xs [] l d a right others = tt
      back xs (s ∷ ws) l d a right others =
          (right s (Some k) (first_or ws None) refl l.0, linked_same g h (Some s) ws None (same_past s xs ws (past xs (s ∷ []) ws d) a.1 (apart_right xs (s ∷ ws) d).0 others) l.1)

-- ---- reading the order
module _ (g : ℕ → Option Link) where
  pub order_read : (n : ℕ) (b : Option ℕ) (ks : List ℕ) → Linked g b ks None → length ks ≤ n → order n g (first_or ks None) ≡ ks
  order_read zero b [] l le = refl
  order_read (suc n) b [] l le = refl
  order_read zero b (k ∷ ks) l le = absurd (omega arith)
  order_read (suc n) b (k ∷ ks) l le = ap (λ r. k ∷ r) (ap (λ v. order n g (after_of v)) l.0 ∙ order_read n (Some k) ks l.1 (omega arith))

  -- each place of the order has a link
  pub linked_at : (b : Option ℕ) (ks : List ℕ) (e : Option ℕ) (k : ℕ) (xs ys : List ℕ) → ks ≡ xs ++ k ∷ ys → Linked g b ks e → g k ≡ Some (link (last_or b xs) (first_or ys e))
  linked_at b ks e k xs ys is l = (linked_cut g b xs (k ∷ ys) e (subst (λ z. Linked g b z e) is l)).1.0
