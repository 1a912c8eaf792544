-- What the node at a place says of the cache: its entry under its stamp and its key, and the pins
-- it may have.
use Rattle.std.proofs.Common.{◌≡◌, ◌≢◌, ℕ, ◌<◌, ◌≤◌, ◌⊎◌, inl, inr, Bool, true, false, Some, refl, sym, ap, ◌∙◌, arith, ◌==◌}
use Rattle.std.specs.Prelude.{IsSome, is_some}
use Rattle.std.specs.Cmp.{IsEquivalence}
use Rattle.std.specs.FinMap.{get}
use Rattle.std.proofs.lemmas.Bool.{true≢false, eqb-true, eq-eqb}
use Rattle.std.proofs.lemmas.Option.{none-some, same_Some}
use Rattle.concurrent_lru.specs.Cache.{Cache, Idle, Held, Phase, making, untaken, ready, IsLawful, held_at, idle_at}
use Rattle.concurrent_lru.specs.Steps.{Holds, IsNotIdle, IsUnready}
use Rattle.concurrent_lru.specs.Request as ask
use Rattle.concurrent_lru.specs.Runs.{HasRoomAt, IsFull, Overflows, WouldHit}
use Rattle.concurrent_lru.specs.NodeTable.{Entry}
use Rattle.concurrent_lru.specs.Representation.{as_idle, held_entry}
use Rattle.concurrent_lru.specs.Entries.{Entries, cache_of, cache_with, ContainsEntry, FindsEntry, IsPlaceOfKey, GetsAt, ContainsIdleAt, ContainsHeldAt, ContainsFoundAt, IsReadyAt}
use Rattle.concurrent_lru.proofs.Steps.BeginOfAbsent.{as_idle-ready}
use Rattle.concurrent_lru.proofs.Steps.NotReady.{unready_not_ready}

module _ {K V : Type 0} where
  -- an entry that is seen as an idle one is ready
  ready_in : (e : Entry K V) (q : Phase V) → e.phase ≡ q → IsSome (as_idle e) → (v : V) × (e.phase ≡ ready v)
  ready_in e making phase some = absurd (true≢false (sym some ∙ ap (λ f. is_some (as_idle (record e { phase = f }))) phase))
  ready_in e untaken phase some = absurd (true≢false (sym some ∙ ap (λ f. is_some (as_idle (record e { phase = f }))) phase))
  ready_in e (ready v) phase some = (v, phase)

  pub seen_ready : (e : Entry K V) → IsSome (as_idle e) → (v : V) × (e.phase ≡ ready v)
  seen_ready e some = ready_in e e.phase refl some

module _ {K V : Type 0} {t : Entries K V} {p : ℕ} {e : Entry K V} (here : GetsAt t p e) where
  pub stamp_is : (s : ℕ) → get t.stamps p ≡ Some s → e.stamp ≡ s
  stamp_is s at = same_Some _ _ (sym here.at ∙ at)

  -- as an idle entry
  pub idle_here : (v : V) → e.phase ≡ ready v → e.pins ≡ 0 → idle_at (cache_of t) e.stamp ≡ Some (record { stamp = e.stamp; key = e.key; charge = e.charge; value = v })
  idle_here v phase none = (here.idle none).1 ∙ as_idle-ready e v phase

  pub idle_place : e.pins ≡ 0 → ContainsIdleAt t p
  idle_place none = (e.stamp, here.at, ap is_some (here.idle none).1 ∙ (here.idle none).0)

  -- as a held one
  pub held_place : e.pins ≢ 0 → ContainsHeldAt t p
  held_place some = (e.stamp, here.at, ap is_some (here.held some))

  pub ready_place : (v : V) → e.phase ≡ ready v → e.pins ≢ 0 → e.detached ≡ false → IsReadyAt t p
  ready_place v phase some found = record { stamp = e.stamp; entry = held_entry e; value = v; at = here.at; held = here.held some; phase = phase; found = found }

  pub found_here : e.pins ≢ 0 → e.detached ≡ false → ContainsFoundAt t p
  found_here some found = (e.stamp, here.at, held_entry e, here.held some, found)

  -- an entry that is not ready has a pin
  pub unready_pinned : ((v : V) → e.phase ≡ ready v → ⊥) → e.pins ≢ 0
  unready_pinned unready none = let r = seen_ready e (here.idle none).0 in unready r.0 r.1

  -- the node is an entry of the cache
  pub has_entry : ContainsEntry t e.stamp e.key e.charge
  has_entry = elim (e.pins == 0) as (λ b. (e.pins == 0) ≡ b → ContainsEntry t e.stamp e.key e.charge) [
    | true ↦ λ b.
        let none = eqb-true e.pins 0 b in
        let r = seen_ready e (here.idle none).0 in
        inl (record { stamp = e.stamp; key = e.key; charge = e.charge; value = r.0 }, idle_here r.0 r.1 none, refl, refl)
    | false ↦ λ b. inr (held_entry e, here.held (λ none. true≢false (sym (eq-eqb e.pins 0 none) ∙ b)), refl, refl)
  ] refl

  -- and found by its key, where it is not detached or is idle
  pub finds_entry : (e.pins ≢ 0 → e.detached ≡ false) → FindsEntry t e.stamp e.key e.charge
  finds_entry found = elim (e.pins == 0) as (λ b. (e.pins == 0) ≡ b → FindsEntry t e.stamp e.key e.charge) [
    | true ↦ λ b.
        let none = eqb-true e.pins 0 b in
        let r = seen_ready e (here.idle none).0 in
        inl (record { stamp = e.stamp; key = e.key; charge = e.charge; value = r.0 }, idle_here r.0 r.1 none, refl, refl)
    | false ↦ λ b. let some : e.pins ≢ 0 = λ none. true≢false (sym (eq-eqb e.pins 0 none) ∙ b) in inr (held_entry e, here.held some, refl, refl, found some)
  ] refl

  module _ {E : K → K → Bool} {capacity most next : ℕ} (l : IsLawful E (cache_with capacity most next t)) where
    -- what is held under the stamp of the place is the node
    pub held_is : (s : ℕ) (h : Held K V) → get t.stamps p ≡ Some s → get t.held s ≡ Some h → (e.pins ≢ 0) × (h ≡ held_entry e)
    held_is s h at held =
        let stamp : e.stamp ≡ s = stamp_is s at in
        let some : e.pins ≢ 0 = λ none.
        let r = seen_ready e (here.idle none).0 in
        none-some h (sym (l.held_apart e.stamp _ (idle_here r.0 r.1 none)) ∙ ap (get t.held) stamp ∙ held) in
        (some, same_Some _ _ (sym held ∙ ap (get t.held) (sym stamp) ∙ here.held some))

    -- and so is what is idle under it
    idle_key : (x : Idle K V) → idle_at (cache_of t) e.stamp ≡ Some x → x.key ≡ e.key
    idle_key x at = elim (e.pins == 0) as (λ b. (e.pins == 0) ≡ b → x.key ≡ e.key) [
      | true ↦ λ b.
          let none = eqb-true e.pins 0 b in
          let r = seen_ready e (here.idle none).0 in
          ap (λ y. y.key) (same_Some _ _ (sym at ∙ idle_here r.0 r.1 none))
      | false ↦ λ b. absurd (none-some (held_entry e) (sym (l.held_apart e.stamp x at) ∙ here.held (λ none. true≢false (sym (eq-eqb e.pins 0 none) ∙ b))))
    ] refl

    -- the key that the place was found by is the node's
    pub key_is : (k : K) → IsPlaceOfKey E t p k → E e.key k ≡ true
    key_is k w =
        let stamp : e.stamp ≡ w.stamp = stamp_is w.stamp w.at in
        let same : w.key ≡ e.key = elim w.entry [
          | inl i ↦ sym i.2 ∙ idle_key i.0 (ap (idle_at (cache_of t)) stamp ∙ i.1)
          | inr h ↦ sym h.2 ∙ ap (λ x. x.key) (held_is w.stamp h.0 w.at h.1).1
        ] in
        ap (λ x. E x k) (sym same) ∙ w.same_key

    -- a held node that was found by its key is not detached
    pub found_is : (k : K) → IsPlaceOfKey E t p k → e.pins ≢ 0 → e.detached ≡ false
    found_is k w some =
        let stamp : e.stamp ≡ w.stamp = stamp_is w.stamp w.at in
        elim w.entry [
          | inl i ↦ absurd (none-some (held_entry e) (sym (l.held_apart w.stamp i.0 i.1) ∙ ap (get t.held) (sym stamp) ∙ here.held some))
          | inr h ↦ ap (λ x. x.detached) (sym (held_is w.stamp h.0 w.at h.1).1) ∙ h.4
        ]

    -- where the node is in another phase, nothing is held in this one
    pub not_in_phase : {seen : Cache K V} (q : Phase V) → cache_with capacity most next t ≡ seen → (s : ℕ) → get t.stamps p ≡ Some s → (e.phase ≡ q → ⊥) → (h : Held K V) → Holds seen s h q → ⊥
    not_in_phase q is s at other h holds = other (ap (λ x. x.phase) (sym (held_is s h at (ap (λ c. held_at c s) is ∙ holds.at)).1) ∙ holds.phase)

    -- a node that has not the greatest number of pins has fewer
    pub has_room : 0 < most → (e.pins ≡ most → ⊥) → e.pins < most
    has_room high other = elim (e.pins == 0) as (λ b. (e.pins == 0) ≡ b → e.pins < most) [
      | true ↦ λ b. let none : e.pins ≡ 0 = eqb-true e.pins 0 b in omega (arith, none, high)
      | false ↦ λ b. let most_of : e.pins ≤ most = (l.pinned e.stamp (held_entry e) (here.held (λ none. true≢false (sym (eq-eqb e.pins 0 none) ∙ b)))).1 in omega (arith, most_of, other)
    ] refl

    -- an entry with this key that is not ready; a held one
    pub is_unready : (k : K) → IsEquivalence E → E e.key k ≡ true → (e.phase ≡ making) ⊎ (e.phase ≡ untaken) → e.pins ≢ 0 → (e.pins ≢ 0 → e.detached ≡ false) → IsUnready E (cache_with capacity most next t) k
    is_unready k laws same phase some found s a m entry equal =
        let keys : E a e.key ≡ true = laws.congr a k e.key equal ∙ laws.symm k e.key ∙ same in
        let stamp : s ≡ e.stamp = l.one_entry s e.stamp a e.key m e.charge entry (finds_entry found) keys in
        (held_entry e, ap (get t.held) stamp ∙ here.held some, phase)

    pub unready_found : (k : K) → IsEquivalence E → IsPlaceOfKey E t p k → (e.phase ≡ making) ⊎ (e.phase ≡ untaken) → IsUnready E (cache_with capacity most next t) k
    unready_found k laws w phase = is_unready k laws (key_is k w) phase (unready_pinned (unready_not_ready _ phase)) (found_is k w)

    pub is_not_idle : (k : K) → IsEquivalence E → E e.key k ≡ true → e.pins ≢ 0 → (e.pins ≢ 0 → e.detached ≡ false) → IsNotIdle E (cache_with capacity most next t) k
    is_not_idle k laws same some found s x idle =
        elim (E x.key k) as (λ b. E x.key k ≡ b → b ≡ false) [
          | true ↦ λ b.
              let keys : E x.key e.key ≡ true = laws.congr x.key k e.key b ∙ laws.symm k e.key ∙ same in
              let stamp : s ≡ e.stamp = l.one_entry s e.stamp x.key e.key x.charge e.charge (inl (x, idle, refl, refl)) (finds_entry found) keys in
              absurd (none-some (held_entry e) (sym (l.held_apart s x idle) ∙ ap (get t.held) stamp ∙ here.held some))
          | false ↦ λ _. refl
        ] refl

  module _ (E : K → K → Bool) (capacity most next : ℕ) where
    pub would_hit : (k : K) (v : V) → (e.pins ≢ 0 → e.detached ≡ false) → e.pins < most → E e.key k ≡ true → e.phase ≡ ready v → WouldHit E (cache_with capacity most next t) k
    would_hit k v found room same phase = elim (e.pins == 0) as (λ b. (e.pins == 0) ≡ b → WouldHit E (cache_with capacity most next t) k) [
      | true ↦ λ b. inr (e.stamp, record { stamp = e.stamp; key = e.key; charge = e.charge; value = v }, idle_here v phase (eqb-true e.pins 0 b), same)
      | false ↦ λ b. let some : e.pins ≢ 0 = λ none. true≢false (sym (eq-eqb e.pins 0 none) ∙ b) in inl (e.stamp, held_entry e, v, record { at = here.held some; phase = phase }, same, room, found some)
    ] refl

    pub is_full : (k : K) → (e.pins ≢ 0 → e.detached ≡ false) → 0 < most → E e.key k ≡ true → e.pins ≡ most → IsFull E (cache_with capacity most next t) k
    is_full k found high same full = let some : e.pins ≢ 0 = λ none. omega (arith, none, high, full) in record { stamp = e.stamp; entry = held_entry e; at = here.held some; found = found some; same_key = same; full = full }

    pub get_overflows : (k : K) (v : V) → (e.pins ≢ 0 → e.detached ≡ false) → 0 < most → E e.key k ≡ true → e.pins ≡ most → e.phase ≡ ready v → Overflows E (cache_with capacity most next t) (ask.get k)
    get_overflows k v found high same full phase = let some : e.pins ≢ 0 = λ none. omega (arith, none, high, full) in (record { stamp = e.stamp; entry = held_entry e; at = here.held some; found = found some; same_key = same; full = full }, v, phase)

    -- a ready entry takes one more pin, or it has the greatest number of them
    pub has_room_at : (s : ℕ) (v : V) → get t.stamps p ≡ Some s → e.pins < most → e.phase ≡ ready v → HasRoomAt E (cache_with capacity most next t) s
    has_room_at s v at room phase = elim (e.pins == 0) as (λ b. (e.pins == 0) ≡ b → HasRoomAt E (cache_with capacity most next t) s) [
      | true ↦ λ b. inr (record { stamp = e.stamp; key = e.key; charge = e.charge; value = v }, ap (idle_at (cache_of t)) (sym (stamp_is s at)) ∙ idle_here v phase (eqb-true e.pins 0 b))
      | false ↦ λ b. let some : e.pins ≢ 0 = λ none. true≢false (sym (eq-eqb e.pins 0 none) ∙ b) in inl (held_entry e, v, record { at = ap (get t.held) (sym (stamp_is s at)) ∙ here.held some; phase = phase }, room)
    ] refl

    pub repin_overflows : (s : ℕ) (v : V) → get t.stamps p ≡ Some s → 0 < most → e.pins ≡ most → e.phase ≡ ready v → Overflows E (cache_with capacity most next t) (ask.repin s)
    repin_overflows s v at high full phase = let some : e.pins ≢ 0 = λ none. omega (arith, none, high, full) in (held_entry e, v, record { at = ap (get t.held) (sym (stamp_is s at)) ∙ here.held some; phase = phase }, full)

  module _ (capacity most next : ℕ) where
    pub holds : (s : ℕ) (q : Phase V) → get t.stamps p ≡ Some s → e.pins ≢ 0 → e.phase ≡ q → Holds (cache_with capacity most next t) s (held_entry e) q
    holds s q at some phase = record { at = ap (get t.held) (sym (stamp_is s at)) ∙ here.held some; phase = phase }
