-- The law of begin on a held key, and the idle entries where one is held again.
use Rattle.std.proofs.Common.{◌≡◌, ℕ, Bool, true, false, cond, not, List, [], ◌∷◌, ◌++◌, None, refl, sym, ap, ◌∙◌, subst, arith, eqb, ◌==◌}
use Rattle.std.specs.List.{filter, filter_map, cons_option, find, IsDistinct, list_any}
use Rattle.std.specs.Option.{option_and_then}
use Rattle.std.proofs.lemmas.Bool.{eq-eqb, true≢false}
use Rattle.std.proofs.lemmas.List.Elements.{filter_map-append}
use Rattle.concurrent_lru.specs.Cache.{Cache, Idle, Phase, ready, IsLawful}
use Rattle.concurrent_lru.specs.Steps.{Joins, PinsAgain, without}
use Rattle.concurrent_lru.specs.Steps as steps
use Rattle.concurrent_lru.specs.NodeTable.{Entry, NodeTable}
use Rattle.concurrent_lru.specs.Representation.{IsRepresentation, idle_in, idle_at_place, as_idle}
use Rattle.concurrent_lru.proofs.Lists.DistinctEntries.{head_none}
use Rattle.concurrent_lru.proofs.Lists.Members.{IsIn, filter_map-mid, not_self, in_left, in_right, in_tail}
use Rattle.concurrent_lru.proofs.Lists.DistinctNumbers.{distinct_parts, filter_mid}
use Rattle.concurrent_lru.proofs.Entries.NodesOfSetAndAdd.{around, WritesNode, other_idle}
use Rattle.concurrent_lru.proofs.Steps.BeginOfAbsent.{lacks, as_idle-ready}
use Rattle.concurrent_lru.proofs.Steps.LawfulAfterChange.{lawful-with_held}

module _ {K V : Type 0} where
  without_lacks : (s : ℕ) (ys : List (Idle K V)) → find (λ z. z.stamp == s) ys ≡ None → without s ys ≡ ys
  without_lacks s [] h = refl
  without_lacks s (y ∷ ys) h =
      let p = head_none (y.stamp == s) y (find (λ z. z.stamp == s) ys) h in
      ap (λ t. cond (not t) (y ∷ without s ys) (without s ys)) p.0 ∙ ap (λ zs. y ∷ zs) (without_lacks s ys p.1)

  pub without_mid : (s : ℕ) (x : Idle K V) (ys zs : List (Idle K V)) → find (λ z. z.stamp == s) ys ≡ None → (x.stamp == s) ≡ true → find (λ z. z.stamp == s) zs ≡ None → without s (ys ++ x ∷ zs) ≡ ys ++ zs
  without_mid s x [] zs h k m = ap (λ t. cond (not t) (x ∷ without s zs) (without s zs)) k ∙ without_lacks s zs m
  without_mid s x (y ∷ ys) zs h k m =
      let p = head_none (y.stamp == s) y (find (λ z. z.stamp == s) ys) h in
      ap (λ t. cond (not t) (y ∷ without s (ys ++ x ∷ zs)) (without s (ys ++ x ∷ zs))) p.0 ∙ ap (λ ws. y ∷ ws) (without_mid s x ys zs p.1 k m)

  -- the idle entries, where one is held again
  pub revived_idle : {old new : NodeTable K V} {places : List ℕ} {p : ℕ} {e f : Entry K V} (v : V) → IsRepresentation old places → WritesNode old new p e f → new.idle ≡ filter (λ q. not (eqb q p)) old.idle → e.pins ≡ 0 → e.phase ≡ ready v → idle_in new ≡ without e.stamp (idle_in old)
  revived_idle {old} {new} {places} {p} {e} {f} v r w less z ph =
      let x : Idle K V = record { stamp = e.stamp; key = e.key; charge = e.charge; value = v } in
      let a = around old.idle p (r.resting p e w.at z) in
      let apart = subst (IsDistinct eqb) a.whole r.idle_apart in
      let parts = distinct_parts p a.front a.back apart in
      let lack : (xs : List ℕ) → ((q : ℕ) → IsIn q xs → IsIn q old.idle) → list_any (eqb p) xs ≡ false → find (λ y. y.stamp == e.stamp) (filter_map (idle_at_place old.nodes) xs) ≡ None =
      λ xs all free. lacks old e.stamp xs all (λ q y m h s. true≢false (sym (eq-eqb q p (r.stamps q p y e h w.at s)) ∙ not_self q p xs free m)) places r in
      let old_is : idle_in old ≡ filter_map (idle_at_place old.nodes) a.front ++ x ∷ filter_map (idle_at_place old.nodes) a.back =
      ap (filter_map (idle_at_place old.nodes)) a.whole ∙ filter_map-mid (idle_at_place old.nodes) p a.front a.back
      ∙ ap (λ o. filter_map (idle_at_place old.nodes) a.front ++ cons_option o (filter_map (idle_at_place old.nodes) a.back)) (ap (option_and_then as_idle) w.at ∙ as_idle-ready e v ph) in
      ap (filter_map (idle_at_place new.nodes)) (less ∙ ap (filter (λ q. not (eqb q p))) a.whole ∙ filter_mid p a.front a.back apart)
      ∙ filter_map-append (idle_at_place new.nodes) a.front a.back
      ∙ ap (λ ys. ys ++ filter_map (idle_at_place new.nodes) a.back) (other_idle r w a.front parts.0)
      ∙ ap (λ zs. filter_map (idle_at_place old.nodes) a.front ++ zs) (other_idle r w a.back parts.1)
      ∙ sym (ap (without e.stamp) old_is ∙ without_mid e.stamp x (filter_map (idle_at_place old.nodes) a.front) (filter_map (idle_at_place old.nodes) a.back)
      (lack a.front (λ q m. ap (list_any (eqb q)) a.whole ∙ in_left q a.front (p ∷ a.back) m) parts.0) (eq-eqb e.stamp e.stamp refl)
      (lack a.back (λ q m. ap (list_any (eqb q)) a.whole ∙ in_right q a.front (p ∷ a.back) (in_tail q p a.back m)) parts.1))

  pub joins_lawful : (E : K → K → Bool) (old new : Cache K V) (k : K) (s : ℕ) (a b : Phase V) (out : List (Idle K V)) → IsLawful E old → Joins E old k s a b out new → IsLawful E new
  joins_lawful E old new k s a b out l j =
      let room = j.room in
      subst (IsLawful E) (sym j.changed) (lawful-with_held E old s j.entry (steps.held_in_phase b (steps.one_more_pin j.entry)) l j.holds.at refl refl (λ h. h) (omega arith) (omega (arith, room)))

  pub pins_again_lawful : (E : K → K → Bool) (old new : Cache K V) (s : ℕ) (v : V) (out : List (Idle K V)) → IsLawful E old → PinsAgain E old s v out new → IsLawful E new
  pins_again_lawful E old new s v out l j =
      let room = j.room in
      subst (IsLawful E) (sym j.changed) (lawful-with_held E old s j.entry (steps.one_more_pin j.entry) l j.holds.at refl refl (λ h. h) (omega arith) (omega (arith, room)))
