-- The one seat of an index knows all its words, and keeps knowing them as it writes.
use Rattle.std.proofs.Common.{◌≡◌, ◌<◌, ℕ, zero, suc, List, [], ◌∷◌, length, get_or, set, refl, sym, ap, ◌∙◌, subst, arith}
use Rattle.std.proofs.lemmas.List.{set-get_or}
use mathlib.Core.Option.{some, some-injective, some-ne-none}
use lib.ListN.{get_elem?}
use Rattle.atomic_table.specs.Seated.{TableId}
use Rattle.atomic_table.specs.Table.{State, Me, Allows, keeps}
use Rattle.concurrent_lru.specs.Probing.Probes.{mark_at}
use Rattle.lru_clock.specs.declared.index.words.KnownWords.{KnownWords}

-- a step on a word of the index: its seat is of the table, which has the word, and it may be made
pub steps_on : (mine its now : TableId) (words old : List ℕ) (at : ℕ) (May : Type 0) → mine ≡ its → now ≡ its → length words ≡ its.words → words ≡ old → at < length old → May → (mine ≡ now) × (at < now.words) × May
steps_on mine its now words old at May same is long view within may = (same ∙ sym is, omega (arith, within, ap length view, long, ap (λ t. t.words) is), may)

abbrev pub Rule : State (Unit {0}) KnownWords → Type 0
Rule s = s.views ≡ record { words = s.words } ∷ []

sole : (x y : KnownWords) (id : ℕ) → get_elem? (x ∷ []) id ≡ some y → (x ≡ y) × ((z : KnownWords) → set (x ∷ []) id z ≡ z ∷ [])
sole x y zero e = (some-injective x y e, λ z. refl)
sole x y (suc id) e = absurd (some-ne-none y (sym e))

module _ (slots id at : ℕ) (me : Me (Unit {0}) KnownWords) where
  seat_is : (s : State (Unit {0}) KnownWords) → Rule s → get_elem? s.views id ≡ some me.0 → (record { words = s.words } ≡ me.0) × ((z : KnownWords) → set s.views id z ≡ z ∷ [])
  seat_is s holds here =
      let one = sole (record { words = s.words }) me.0 id (subst (λ l. get_elem? l id ≡ some me.0) holds here) in
      (one.0, subst (λ (l : List KnownWords). (z : KnownWords) → set l id z ≡ z ∷ []) (sym holds) one.1)

  pub looks : Allows Rule slots id me at (λ n. n) (λ n after. (n ≡ mark_at me.0.words at) × (after ≡ me))
  looks s holds homes here fits =
      let seat = seat_is s holds here in (
        me.0,
        keeps,
        tt,
        seat.1 me.0 ∙ ap (λ (k : KnownWords). k ∷ []) (sym seat.0) ∙ ap (λ (ws : List ℕ). record { words = ws } ∷ []) (sym (set-get_or s.words at 0)),
        (ap (λ (k : KnownWords). get_or k.words at 0) seat.0, refl),
      )

  pub writes : (n : ℕ) → Allows Rule slots id me at (λ _. n) (λ _ after. after ≡ (record { words = set me.0.words at n }, me.1))
  writes n s holds homes here fits =
      let seat = seat_is s holds here in (
        record { words = set me.0.words at n },
        keeps,
        tt,
        seat.1 (record { words = set me.0.words at n }) ∙ ap (λ (k : KnownWords). record { words = set k.words at n } ∷ []) (sym seat.0),
        refl,
      )
