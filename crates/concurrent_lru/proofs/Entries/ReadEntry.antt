-- A read of a ready entry is a get and the release of its stamp.
use Rattle.std.proofs.Common.{◌≡◌, ◌≢◌, ℕ, ◌+◌, ◌-◌, ◌<◌, inl, inr, Bool, true, false, [], Some, refl, sym, ap, ◌∙◌, arith, ◌==◌}
use Rattle.std.specs.Cmp.{IsEquivalence}
use Rattle.std.specs.List.{find}
use Rattle.std.specs.FinMap.{get, insert}
use Rattle.std.proofs.lemmas.Bool.{true≢false, eqb-true, eq-eqb}
use Rattle.std.proofs.lemmas.Option.{none-some, same_Some}
use Rattle.concurrent_lru.specs.Cache.{ready, Idle, IsFront, IsLawful, idle_at}
use Rattle.concurrent_lru.specs.Steps.{Hits, Rests, Leaves, held_by_one, idle_again, without}
use Rattle.concurrent_lru.specs.NodeTable.{Entry, entry_with_pins}
use Rattle.concurrent_lru.specs.Representation.{held_entry}
use Rattle.concurrent_lru.specs.Entries.{Entries, cache_with, cache_of, charges_of, GetsAt, RevivesAt, held_with_pins}
use Rattle.concurrent_lru.specs.Reads.{RenewsAt, Finds, GetsAndReleases}
use Rattle.concurrent_lru.proofs.Entries.NodesOfSetAndAdd.{inserted_at}
use Rattle.concurrent_lru.proofs.Entries.EntryAtPlace.{stamp_is, idle_here}
use Rattle.concurrent_lru.proofs.Entries.Renew.{insert_back}
use Rattle.concurrent_lru.proofs.Entries.StepsOfEntries.{hits, joins_as_it_is, leaves_as_it_is, rests}
use Rattle.concurrent_lru.proofs.Entries.SumsOfCharges.{sum_revived, sum_rested}
use Rattle.concurrent_lru.proofs.Steps.StaysLawful.{hits_lawful}
use Rattle.concurrent_lru.proofs.Steps.Release.{rests_lawful}

module _ {K V : Type 0} (E : K → K → Bool) (capacity most next : ℕ) {t : Entries K V} {p : ℕ} {e : Entry K V} (here : GetsAt t p e) (k : K) (v : V) (equal : E e.key k ≡ true) (room : e.pins < most) (phase : e.phase ≡ ready v) (found : e.pins ≢ 0 → e.detached ≡ false) where
  -- the entry as an idle one
  abbrev shown : Idle K V
  shown = record { stamp = e.stamp; key = e.key; charge = e.charge; value = v }

  -- the table where a held one has one more pin
  abbrev joined : Entries K V
  joined = record t { held = insert t.held e.stamp (held_with_pins (e.pins + 1) (held_entry e)) }

  joins : e.pins ≢ 0 → Hits E (cache_with capacity most next t) k e.stamp v [] (cache_with capacity most next joined)
  joins some = inl (joins_as_it_is E capacity most next here joined k (ready v) (found some) equal some room phase (record { stamp = e.stamp; entry = held_entry e; at = here.at; held = here.held some; changed = refl }))

  -- the table where an idle one is pinned
  abbrev revived : Entries K V
  revived = record t { idle = without e.stamp t.idle; held = insert t.held e.stamp (held_by_one shown); work = t.work + 1 }

  found_idle : (u : Entries K V) → e.pins ≡ 0 → RevivesAt t p u → Hits E (cache_with capacity most next t) k e.stamp v [] (cache_with capacity most next u)
  found_idle u none w = hits E capacity most next here u k v found equal room phase (λ _. w) (λ some. absurd (some none))

  pub finds : Finds E (cache_with capacity most next t) k v
  finds = elim (e.pins == 0) as (λ b. (e.pins == 0) ≡ b → Finds E (cache_with capacity most next t) k v) [
    | true ↦ λ b.
        let none = eqb-true e.pins 0 b in
        (e.stamp, cache_with capacity most next revived, found_idle revived none (record { stamp = e.stamp; entry = shown; at = here.at; idle = idle_here here v phase none; changed = refl }))
    | false ↦ λ b. (e.stamp, cache_with capacity most next joined, joins (λ none. true≢false (sym (eq-eqb e.pins 0 none) ∙ b)))
  ] refl

  -- a held one stays as it is
  pub read_held : e.pins ≢ 0 → GetsAndReleases E (cache_with capacity most next t) k e.stamp v (cache_with capacity most next t)
  read_held some =
      let more : Entry K V = entry_with_pins (e.pins + 1) e in
      let held : get joined.held e.stamp ≡ Some (held_entry more) = inserted_at t.held e.stamp (held_with_pins (e.pins + 1) (held_entry e)) in
      let there : GetsAt joined p more = record { at = here.at; idle = λ none. absurd (omega (arith, none)); held = λ _. held } in
      let less : e.pins + 1 - 1 ≡ e.pins = omega arith in
      let back : get t.held e.stamp ≡ Some (held_with_pins (e.pins + 1 - 1) (held_entry more)) = here.held some ∙ (λ j. Some (held_with_pins (sym less j) (held_entry e))) in
      let left : Leaves E (cache_with capacity most next joined) e.stamp (ready v) (ready v) [] (cache_with capacity most next t) =
      leaves_as_it_is E capacity most next there t e.stamp (ready v) here.at (omega (arith, some)) phase (record {
        stamp = e.stamp;
        entry = held_entry more;
        at = here.at;
        held = held;
        changed = λ j. record t { held = sym (insert_back t.held e.stamp (held_with_pins (e.pins + 1) (held_entry e)) (held_with_pins (e.pins + 1 - 1) (held_entry more)) back) j };
      }) in
      (cache_with capacity most next joined, joins some, (cache_with capacity most next t, inl (v, left), refl))

  module _ (l : IsLawful E (cache_with capacity most next t)) where
    -- an idle one becomes the newest idle one
    rested : (u : Entries K V) → e.pins ≡ 0 → (w : RenewsAt t p u) → Rests E (cache_with capacity most next w.mid) e.stamp [] (cache_with capacity most next u)
    rested u none w =
        let a = w.revived in
        let b = w.rested in
        let stamp : a.stamp ≡ e.stamp = sym (stamp_is here a.stamp a.at) in
        let is : a.entry ≡ shown = same_Some _ _ (sym a.idle ∙ ap (idle_at (cache_of t)) stamp ∙ idle_here here v phase none) in
        let pinned : Entry K V = record e { pins = 1; detached = false } in
        let held : get w.mid.held e.stamp ≡ Some (held_entry pinned) =
        ap (λ x. get x.held e.stamp) a.changed ∙ (λ j. get (insert t.held (stamp j) (held_by_one (is j))) e.stamp) ∙ inserted_at t.held e.stamp (held_by_one shown)
        ∙ (λ j. Some (record { key = e.key; charge = e.charge; pins = 1; detached = false; phase = sym phase j })) in
        let at : get w.mid.stamps p ≡ Some e.stamp = ap (λ x. get x.stamps p) a.changed ∙ here.at in
        let there : GetsAt w.mid p pinned = record { at = at; idle = λ z. absurd (omega (arith, z)); held = λ _. held } in
        let first : charges_of w.mid ≡ charges_of t = sum_revived t w.mid a.stamp a.entry (held_by_one a.entry) l.idle_apart (ap (λ x. x.idle) a.changed) (ap (λ x. x.held) a.changed) a.idle (l.held_apart a.stamp a.entry a.idle) refl in
        let second : charges_of u ≡ charges_of w.mid = sum_rested w.mid u b.was.stamp b.was.entry (idle_again b.was.stamp b.was.entry b.was.value) (ap (λ x. x.idle) b.changed) (ap (λ x. x.held) b.changed) b.was.held refl in
        let few : capacity < charges_of t → ⊥ = λ over. none-some a.entry (sym (ap (find (λ x. x.stamp == a.stamp)) (l.settled over)) ∙ a.idle) in
        let front : IsFront (charges_of u) capacity u.idle [] u.idle = record { parts = refl; suffices = inl (omega (arith, first, second, few)); shortest = λ x y parts less. absurd (omega (arith, less)) } in
        rests E capacity most next there u u e.stamp [] at refl b refl front

    pub read_idle : (u : Entries K V) → e.pins ≡ 0 → RenewsAt t p u → GetsAndReleases E (cache_with capacity most next t) k e.stamp v (cache_with capacity most next u)
    read_idle u none w = (cache_with capacity most next w.mid, found_idle w.mid none w.revived, (cache_with capacity most next u, inr (inl (rested u none w)), refl))

    pub read_lawful : (u : Entries K V) → IsEquivalence E → e.pins ≡ 0 → RenewsAt t p u → IsLawful E (cache_with capacity most next u)
    read_lawful u laws none w =
        let mid = hits_lawful E laws (cache_with capacity most next t) l (omega (arith, room)) k e.stamp v [] (cache_with capacity most next w.mid) (found_idle w.mid none w.revived) in
        rests_lawful E (cache_with capacity most next w.mid) (cache_with capacity most next u) e.stamp [] mid (rested u none w)
