-- The steps of an insert, from what happens to the entries of its table.
use Rattle.std.proofs.Common.{◌≡◌, ◌≢◌, ℕ, ◌+◌, ◌<◌, ◌≤◌, ◌^◌, ◌⊎◌, inl, inr, Bool, true, false, List, [], ◌∷◌, Some, Ok, refl, sym, ap, ◌∙◌, subst, arith}
use Rattle.std.specs.Prelude.{IsSome}
use Rattle.std.specs.List.{filter_map}
use Rattle.std.specs.Cmp.{IsEquivalence}
use Rattle.std.specs.FinMap.{insert}
use Rattle.std.proofs.lemmas.Option.{same_Some}
use Rattle.concurrent_lru.specs.Cache.{Cache, Idle, IsFront, IsLawful, idle_at}
use Rattle.concurrent_lru.specs.Steps.{IsAbsent, Detaches, Drops, Makes, held_detached, without}
use Rattle.concurrent_lru.specs.Inserts.{Remakes, RefusesToReplace}
use Rattle.concurrent_lru.specs.NodeTable.{Entry}
use Rattle.concurrent_lru.specs.Representation.{as_idle, held_entry}
use Rattle.concurrent_lru.specs.Entries.{Entries, AddsOverHeld, AddsOverIdle, GetsAt, cache_with, charges_of}
use Rattle.concurrent_lru.specs.declared.refusal.Refusal.TheVariants.{Memory, Overflow}
use Rattle.concurrent_lru.specs.declared.table.spot.Hint.{Hint}
use Rattle.concurrent_lru.proofs.Entries.EntryAtPlace.{seen_ready, idle_here}
use Rattle.concurrent_lru.proofs.Entries.StepsOfEntries.{makes, detaches, drops}
use Rattle.concurrent_lru.proofs.Entries.SumsOfCharges.{sum_written, sum_evicted, idle_bound}
use Rattle.concurrent_lru.proofs.Steps.BeginOfAbsent.{makes_lawful}
use Rattle.concurrent_lru.proofs.Steps.InsertOfKey.{detached_absent, dropped_absent, overflows, lacks_memory}
use Rattle.concurrent_lru.proofs.Steps.LawfulAfterLeaving.{drops_lawful}
use Rattle.concurrent_lru.proofs.Steps.Release.{detaches_lawful}

module _ {K V : Type 0} (E : K → K → Bool) (laws : IsEquivalence E) (capacity most next : ℕ) {t : Entries K V} {p : ℕ} {e : Entry K V} (here : GetsAt t p e) (l : IsLawful E (cache_with capacity most next t)) (k : K) (charge : ℕ) (equal : E e.key k ≡ true) where
  abbrev old : Cache K V
  old = cache_with capacity most next t

  module _ (some : e.pins ≢ 0) (found : e.detached ≡ false) where
    -- the entries after a held one is detached
    abbrev with_detached : Entries K V
    with_detached = record t { held = insert t.held e.stamp (held_detached (held_entry e)) }

    sum_with_detached : charges_of with_detached ≡ charges_of t
    sum_with_detached = sum_written t with_detached e.stamp (held_entry e) (held_detached (held_entry e)) refl refl (here.held some) refl

    detaches_held : Detaches E old k [] (cache_with capacity most next with_detached)
    detaches_held = record { stamp = e.stamp; entry = held_entry e; at = here.held some; found = found; same_key = equal; changed = refl; none = refl }

    absent_with_detached : IsAbsent E (cache_with capacity most next with_detached) k
    absent_with_detached = detached_absent E laws old l k e.stamp (held_entry e) (here.held some) found equal

    pub overflows_held : (2 ^ 64 ≤ charges_of t + charge) ⊎ (2 ^ 64 ≤ next + 1) → RefusesToReplace E old k charge Overflow old
    overflows_held end = record {
      mid = cache_with capacity most next with_detached;
      replaced = [];
      invalidated = inr (inl detaches_held);
      refuses = overflows E charge absent_with_detached (elim end [
        | inl sum ↦ inl (let same = sum_with_detached in omega (arith, sum, same))
        | inr stamps ↦ inr stamps
      ]);
      same = refl;
    }

    pub lacks_memory_held : charges_of t + charge < 2 ^ 64 → next + 1 < 2 ^ 64 → RefusesToReplace E old k charge Memory old
    lacks_memory_held sum stamps = record {
      mid = cache_with capacity most next with_detached;
      replaced = [];
      invalidated = inr (inl detaches_held);
      refuses = lacks_memory E charge absent_with_detached (let same = sum_with_detached in omega (arith, sum, same), stamps);
      same = refl;
    }

    module _ (added new : Entries K V) (out : List (Idle K V)) (w : AddsOverHeld E t p next k charge added) (fits : charges_of t + charge < 2 ^ 64) (low : next + 1 < 2 ^ 64) (held : new.held ≡ added.held) (front : IsFront (charges_of added) capacity added.idle out new.idle) where
      detaches_mid : Detaches E old k [] (cache_with capacity most next w.mid)
      detaches_mid = detaches E capacity most next here w.mid k found equal some w.detached

      makes_held : Makes E (cache_with capacity most next w.mid) k charge next out (cache_with capacity most (next + 1) new)
      makes_held =
          let d = detaches_mid in
          let absent : IsAbsent E (cache_with capacity most next w.mid) k = subst (λ c. IsAbsent E c k) (sym d.changed) (detached_absent E laws old l k d.stamp d.entry d.at d.found d.same_key) in
          let r = w.detached in
          let same : charges_of w.mid ≡ charges_of t = sum_written t w.mid r.stamp r.entry (held_detached r.entry) (ap (λ u. u.idle) r.changed) (ap (λ u. u.held) r.changed) r.held refl in
          makes E capacity most next w.mid added new k w.added.copy charge out absent w.added.same_key (omega (arith, fits, same)) low w.added.idle w.added.held held front

      pub remakes_held : (h : Hint) → Remakes E old k charge (Ok (record { stamp = next; hint = h }, [], out)) (cache_with capacity most (next + 1) new)
      remakes_held h = (cache_with capacity most next w.mid, inr (inl detaches_mid), inl makes_held)

      pub held_lawful : 0 < charge → 0 < most → IsLawful E (cache_with capacity most (next + 1) new)
      held_lawful some pins = makes_lawful E _ _ k charge next out laws (detaches_lawful E old _ k [] l detaches_mid) some pins makes_held

  module _ (none : e.pins ≡ 0) where
    abbrev value : V
    value = (seen_ready e (here.idle none).0).0

    abbrev shown : Idle K V
    shown = record { stamp = e.stamp; key = e.key; charge = e.charge; value = value }

    shown_at : idle_at old e.stamp ≡ Some shown
    shown_at = idle_here here value (seen_ready e (here.idle none).0).1 none

    -- the entries without the idle one
    abbrev without_idle : Entries K V
    without_idle = record t { idle = without e.stamp t.idle }

    sum_without_idle : charges_of without_idle + e.charge ≡ charges_of t
    sum_without_idle = sum_evicted t without_idle e.stamp shown l.idle_apart refl refl shown_at

    drops_idle : Drops E old k (shown ∷ []) (cache_with capacity most next without_idle)
    drops_idle = record { stamp = e.stamp; entry = shown; at = shown_at; same_key = equal; changed = refl; one = refl }

    absent_without_idle : IsAbsent E (cache_with capacity most next without_idle) k
    absent_without_idle = dropped_absent E laws old l k (cache_with capacity most next without_idle) (shown ∷ []) drops_idle

    pub counted : e.charge ≤ charges_of t
    counted = idle_bound t e.stamp shown l.idle_apart shown_at

    pub overflows_idle : (2 ^ 64 + e.charge ≤ charges_of t + charge) ⊎ (2 ^ 64 ≤ next + 1) → RefusesToReplace E old k charge Overflow old
    overflows_idle end = record {
      mid = cache_with capacity most next without_idle;
      replaced = shown ∷ [];
      invalidated = inl drops_idle;
      refuses = overflows E charge absent_without_idle (elim end [
        | inl sum ↦ inl (let less = sum_without_idle in omega (arith, sum, less))
        | inr stamps ↦ inr stamps
      ]);
      same = refl;
    }

    pub lacks_memory_idle : charges_of t + charge < 2 ^ 64 + e.charge → next + 1 < 2 ^ 64 → RefusesToReplace E old k charge Memory old
    lacks_memory_idle sum stamps = record {
      mid = cache_with capacity most next without_idle;
      replaced = shown ∷ [];
      invalidated = inl drops_idle;
      refuses = lacks_memory E charge absent_without_idle (let less = sum_without_idle in omega (arith, sum, less), stamps);
      same = refl;
    }

    module _ (added new : Entries K V) (d : Entry K V) (replaced out : List (Idle K V)) (ready : IsSome (as_idle d)) (w : AddsOverIdle E t p d next k charge added) (one : replaced ≡ filter_map as_idle (d ∷ []))
        (fits : charges_of t + charge < 2 ^ 64 + e.charge) (low : next + 1 < 2 ^ 64) (held : new.held ≡ added.held) (front : IsFront (charges_of added) capacity added.idle out new.idle) where
      drops_mid : Drops E old k replaced (cache_with capacity most next w.mid)
      drops_mid = drops E capacity most next here w.mid k d replaced equal none w.at ready w.entry w.idle w.held one

      makes_idle : Makes E (cache_with capacity most next w.mid) k charge next out (cache_with capacity most (next + 1) new)
      makes_idle =
          let absent = dropped_absent E laws old l k (cache_with capacity most next w.mid) replaced drops_mid in
          let stamp : d.stamp ≡ e.stamp = same_Some _ _ (sym w.at ∙ here.at) in
          let less : charges_of w.mid + e.charge ≡ charges_of t = sum_evicted t w.mid e.stamp shown l.idle_apart (w.idle ∙ ap (λ s. without s t.idle) stamp) w.held shown_at in
          makes E capacity most next w.mid added new k w.added.copy charge out absent w.added.same_key (omega (arith, fits, less)) low w.added.idle w.added.held held front

      pub remakes_idle : (h : Hint) → Remakes E old k charge (Ok (record { stamp = next; hint = h }, replaced, out)) (cache_with capacity most (next + 1) new)
      remakes_idle h = (cache_with capacity most next w.mid, inl drops_mid, inl makes_idle)

      pub idle_lawful : 0 < charge → 0 < most → IsLawful E (cache_with capacity most (next + 1) new)
      idle_lawful some pins = makes_lawful E _ _ k charge next out laws (drops_lawful E old _ k replaced l drops_mid) some pins makes_idle
