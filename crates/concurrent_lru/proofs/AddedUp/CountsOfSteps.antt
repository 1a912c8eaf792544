-- Counts that add up go on adding up: what each step makes of them.
use Rattle.std.proofs.Common.{◌≡◌, ◌≢◌, ℕ, ◌+◌, ◌-◌, ◌*◌, ◌<◌, ◌≤◌, ◌^◌, inl, inr, Bool, true, false, cond, List, [], ◌∷◌, length, Option, Some, None, Result, Ok, Err, OnOk, OnErr, refl, sym, ap, ◌∙◌, subst, arith, eqb, ◌==◌}
use Rattle.std.specs.Option.{option_map_or}
use Rattle.std.specs.Ordering.{nat_cmp}
use Rattle.std.specs.FinMap.{values, empty, remove}
use Rattle.std.proofs.lemmas.Bool.{eqb-true, eq-eqb, ne_eqb, true≢false}
use Rattle.std.proofs.lemmas.List.{length-append}
use Rattle.std.proofs.lemmas.List.Sums.{sum_by-append}
use Rattle.std.specs.declared.sync.Arc.{Arc}
use Rattle.std.specs.declared.alloc.Global.{Global}
use Rattle.concurrent_lru.specs.Results.{outcome_of_get, outcome_of_poll, outcome_of_ready, outcome_of_repin, found_without_hint}
use Rattle.concurrent_lru.specs.Ready.{HasEqualKeyAt}
use Rattle.concurrent_lru.specs.declared.step.Begun.{Begun}
use Rattle.concurrent_lru.specs.declared.step.Begun.TheVariants as begun
use Rattle.concurrent_lru.specs.Cache.{Cache, Idle, Held, Settles, IsLawful, charges, count_of, sum_of, empty_cache, most_pins_by_default, ready, making, untaken}
use Rattle.concurrent_lru.specs.CountedCalls.{AddUp, LockedCache, IsSoundlyCounted, counted, counted_look, counted_poll, counted_repin, evicted, held_charge}
use Rattle.concurrent_lru.specs.Counts.{counts_from, end_of_u64, inserted, recharged, one_failure, one_more, one_making, one_miss, removed}
use Rattle.concurrent_lru.specs.Reads.{Reads}
use Rattle.concurrent_lru.specs.Request as ask
use Rattle.concurrent_lru.specs.Request.{Request}
use Rattle.concurrent_lru.specs.Reply as say
use Rattle.concurrent_lru.specs.Reply.{Reply}
use Rattle.concurrent_lru.specs.Runs.{Outcome, accepted, refused, Stands}
use Rattle.concurrent_lru.specs.Steps.{Charges, InvalidatesAt, Renews, Stores, Step, with_capacity, with_held}
use Rattle.concurrent_lru.specs.declared.counts.Counts.{Counts}
use Rattle.concurrent_lru.specs.declared.refusal.Refusal.{Refusal}
use Rattle.concurrent_lru.specs.declared.refusal.Refusal.TheVariants.{Memory, Overflow, Stale, Full}
use Rattle.concurrent_lru.specs.declared.table.spot.Hint.{Hint}
use Rattle.concurrent_lru.proofs.AddedUp.SizesOfSteps.{Resizes, KeepsSize, Evicts, length-change, length-remove, same_size, settled_size, joined_size, left_size, phase_size, hit_size, made_size, removed_size, rested_size, ended_size, released_and_evicted_size, repinned_size, detached_size, dropped_size, stayed_size, pruned_size, evicts_none}
use Rattle.concurrent_lru.proofs.Steps.ChargeOfMaking.{given, sum-given, held_within}
use Rattle.concurrent_lru.proofs.Steps.EmptyCache.{no_entries, empty_sum, empty_lawful}
use Rattle.concurrent_lru.proofs.Steps.CasesOfSteps.{loose_begin}
use Rattle.concurrent_lru.proofs.Steps.StaysLawful.{invalidates_lawful}

-- how the code tells what was evicted or removed, from what is left
abbrev pub left_evicted : Counts → ℕ → ℕ → Counts
left_evicted n entries charge = record n { evictions = n.entries_before + n.insertions - n.removals - entries; evicted_charge = n.charge_before + n.inserted_charge - n.removed_charge - charge }

abbrev pub left_removed : Counts → ℕ → Counts
left_removed n charge = record n { removals = n.removals + 1; removed_charge = n.charge_before + n.inserted_charge - n.evicted_charge - charge }

-- what the code asks of the counts before it counts as evicted, or as removed, what is gone when
-- so many entries of so much charge are left
abbrev pub MayEvict : Counts → ℕ → ℕ → Type 0
MayEvict n entries charge =
    record { entries : entries + n.removals ≤ n.entries_before + n.insertions; entries_fit : n.entries_before + n.insertions < 2 ^ 64; charge : charge + n.removed_charge ≤ n.charge_before + n.inserted_charge; charge_fits : n.charge_before + n.inserted_charge < 2 ^ 128 }

abbrev pub MayRemove : Counts → ℕ → Type 0
MayRemove n charge = record { entries : n.removals + 1 < 2 ^ 64; charge : charge + n.evicted_charge ≤ n.charge_before + n.inserted_charge; charge_fits : n.charge_before + n.inserted_charge < 2 ^ 128 }

module _ {K V : Type 0} where
  -- the counts add up but for so many entries of so much charge that left and are not counted yet
  pub record Owes (c : Cache K V) (n : Counts) (left left_charge : ℕ) : Type 0 where
    pub entries : count_of c + left + n.evictions + n.removals ≡ n.entries_before + n.insertions
    pub charge : sum_of c + left_charge + n.evicted_charge + n.removed_charge ≡ n.charge_before + n.inserted_charge
    pub stamps : c.next < 2 ^ 64
    pub entries_fit : n.entries_before + n.insertions ≤ c.next
    pub charge_fits : n.charge_before + n.inserted_charge ≤ c.next * end_of_u64
    pub left_fits : left_charge ≤ left * end_of_u64
    pub gone_fits : n.evicted_charge + n.removed_charge ≤ (n.evictions + n.removals) * end_of_u64

  -- charges that fit a u64 together do so each
  pub few_charges : (out : List (Idle K V)) → charges out < 2 ^ 64 → charges out ≤ length out * end_of_u64
  few_charges [] fits = omega arith
  few_charges (x ∷ xs) fits = let more : length (x ∷ xs) ≡ 1 + length xs = omega arith in omega (arith, fits, more)

  pub few_evicted : (E : K → K → Bool) (old new : Cache K V) (out : List (Idle K V)) → IsLawful E old → Evicts old out new → charges out ≤ length out * end_of_u64
  few_evicted E old new out l e =
      let sum : sum_of new + charges out ≡ sum_of old + 0 = e.charge in
      let fits : sum_of old < 2 ^ 64 = l.sum_fits in
      few_charges out (omega (arith, sum, fits))

  -- counts that no law speaks of
  pub with_others : (c : Cache K V) (n : Counts) (hits misses waits refusals makings failures : ℕ) → AddUp c n → AddUp c (record n { hits = hits; misses = misses; waits = waits; refusals = refusals; makings = makings; failures = failures })
  with_others c n hits misses waits refusals makings failures a = record { entries = a.entries; charge = a.charge; stamps = a.stamps; entries_fit = a.entries_fit; charge_fits = a.charge_fits; gone_fits = a.gone_fits }

  -- entries left
  pub owed : (old new : Cache K V) (n : Counts) (o g : ℕ) → AddUp old n → Resizes old new 0 0 o g → g ≤ o * end_of_u64 → Owes new n o g
  owed old new n o g a r few =
      let e : count_of old + n.evictions + n.removals ≡ n.entries_before + n.insertions = a.entries in
      let f : sum_of old + n.evicted_charge + n.removed_charge ≡ n.charge_before + n.inserted_charge = a.charge in
      let s : old.next < 2 ^ 64 = a.stamps in
      let u : n.entries_before + n.insertions ≤ old.next = a.entries_fit in
      let v : n.charge_before + n.inserted_charge ≤ old.next * end_of_u64 = a.charge_fits in
      let p : count_of new + o ≡ count_of old + 0 = r.entries in
      let q : sum_of new + g ≡ sum_of old + 0 = r.charge in
      let m : new.next ≡ old.next + 0 = r.next in
      record { entries = omega (arith, e, p); charge = omega (arith, f, q); stamps = omega (arith, s, m); entries_fit = omega (arith, u, m); charge_fits = omega (arith, v, m); left_fits = few; gone_fits = a.gone_fits }

  -- an entry came, and others left
  pub owed_for_new : (old new : Cache K V) (n : Counts) (charge o g : ℕ) → AddUp old n → Resizes old new 1 charge o g → charge < 2 ^ 64 → old.next + 1 < 2 ^ 64 → g ≤ o * end_of_u64 → Owes new (inserted charge n) o g
  owed_for_new old new n charge o g a r fits stamps few =
      let e : count_of old + n.evictions + n.removals ≡ n.entries_before + n.insertions = a.entries in
      let f : sum_of old + n.evicted_charge + n.removed_charge ≡ n.charge_before + n.inserted_charge = a.charge in
      let u : n.entries_before + n.insertions ≤ old.next = a.entries_fit in
      let v : n.charge_before + n.inserted_charge ≤ old.next * end_of_u64 = a.charge_fits in
      let p : count_of new + o ≡ count_of old + 1 = r.entries in
      let q : sum_of new + g ≡ sum_of old + charge = r.charge in
      let m : new.next ≡ old.next + 1 = r.next in
      record { entries = omega (arith, e, p); charge = omega (arith, f, q); stamps = omega (arith, stamps, m); entries_fit = omega (arith, u, m); charge_fits = omega (arith, v, m, fits); left_fits = few; gone_fits = a.gone_fits }

  -- what left is counted as evicted, or as removed; or nothing left
  pub evictions_add_up : (c : Cache K V) (n : Counts) (out : List (Idle K V)) → Owes c n (length out) (charges out) → AddUp c (evicted out n)
  evictions_add_up c n out o =
      let e : count_of c + length out + n.evictions + n.removals ≡ n.entries_before + n.insertions = o.entries in
      let f : sum_of c + charges out + n.evicted_charge + n.removed_charge ≡ n.charge_before + n.inserted_charge = o.charge in
      let few : charges out ≤ length out * end_of_u64 = o.left_fits in
      let gone : n.evicted_charge + n.removed_charge ≤ (n.evictions + n.removals) * end_of_u64 = o.gone_fits in
      record { entries = omega (arith, e); charge = omega (arith, f); stamps = o.stamps; entries_fit = o.entries_fit; charge_fits = o.charge_fits; gone_fits = omega (arith, few, gone) }

  pub removal_adds_up : (c : Cache K V) (n : Counts) (g : ℕ) → Owes c n 1 g → AddUp c (removed g n)
  removal_adds_up c n g o =
      let e : count_of c + 1 + n.evictions + n.removals ≡ n.entries_before + n.insertions = o.entries in
      let f : sum_of c + g + n.evicted_charge + n.removed_charge ≡ n.charge_before + n.inserted_charge = o.charge in
      let few : g ≤ 1 * end_of_u64 = o.left_fits in
      let gone : n.evicted_charge + n.removed_charge ≤ (n.evictions + n.removals) * end_of_u64 = o.gone_fits in
      record { entries = omega (arith, e); charge = omega (arith, f); stamps = o.stamps; entries_fit = o.entries_fit; charge_fits = o.charge_fits; gone_fits = omega (arith, few, gone) }

  pub kept_adds_up : (old new : Cache K V) (n : Counts) → AddUp old n → KeepsSize old new → AddUp new n
  kept_adds_up old new n a k =
      let o = owed old new n 0 0 a k (omega arith) in
      let e : count_of new + 0 + n.evictions + n.removals ≡ n.entries_before + n.insertions = o.entries in
      let f : sum_of new + 0 + n.evicted_charge + n.removed_charge ≡ n.charge_before + n.inserted_charge = o.charge in
      record { entries = omega (arith, e); charge = omega (arith, f); stamps = o.stamps; entries_fit = o.entries_fit; charge_fits = o.charge_fits; gone_fits = o.gone_fits }

  pub evicting_adds_up : {E : K → K → Bool} (old new : Cache K V) (n : Counts) (out : List (Idle K V)) → IsLawful E old → AddUp old n → Evicts old out new → AddUp new (evicted out n)
  evicting_adds_up {E} old new n out l a e = evictions_add_up new n out (owed old new n (length out) (charges out) a e (few_evicted E old new out l e))

  -- what the code counts so is what left
  pub told_evicted : {c : Cache K V} {n m after : Counts} {entries charge : ℕ} (out : List (Idle K V)) → Owes c n (length out) (charges out) → m ≡ n → after ≡ left_evicted m entries charge → entries ≡ count_of c → charge ≡ sum_of c → after ≡ evicted out n
  told_evicted {c} {n} {entries} {charge} out o same told is_count is_sum =
      let e : count_of c + length out + n.evictions + n.removals ≡ n.entries_before + n.insertions = o.entries in
      let f : sum_of c + charges out + n.evicted_charge + n.removed_charge ≡ n.charge_before + n.inserted_charge = o.charge in
      let a : n.entries_before + n.insertions - n.removals - entries ≡ n.evictions + length out = omega (arith, e, is_count) in
      let b : n.charge_before + n.inserted_charge - n.removed_charge - charge ≡ n.evicted_charge + charges out = omega (arith, f, is_sum) in
      told ∙ ap (λ x. left_evicted x entries charge) same ∙ (λ j. record n { evictions = a j; evicted_charge = b j })

  pub told_removed : {c : Cache K V} {n m after : Counts} {g charge : ℕ} → Owes c n 1 g → m ≡ n → after ≡ left_removed m charge → charge ≡ sum_of c → after ≡ removed g n
  told_removed {c} {n} {g} {charge} o same told is_sum =
      let f : sum_of c + g + n.evicted_charge + n.removed_charge ≡ n.charge_before + n.inserted_charge = o.charge in
      let b : n.charge_before + n.inserted_charge - n.evicted_charge - charge ≡ n.removed_charge + g = omega (arith, f, is_sum) in
      told ∙ ap (λ x. left_removed x charge) same ∙ (λ j. record n { removals = n.removals + 1; removed_charge = b j })

  -- nothing was evicted
  pub evicted_none : (n : Counts) (out : List (Idle K V)) → out ≡ [] → evicted out n ≡ n
  evicted_none n out none =
      let a : n.evictions + length out ≡ n.evictions = let l : length out ≡ 0 = ap length none in omega (arith, l) in
      let b : n.evicted_charge + charges out ≡ n.evicted_charge = let l : charges out ≡ 0 = ap charges none in omega (arith, l) in
      ap (λ (x : ℕ). record n { evictions = x; evicted_charge = n.evicted_charge + charges out }) a ∙ ap (λ (y : ℕ). record n { evicted_charge = y }) b

  -- counting anew
  pub anew_adds_up : (c : Cache K V) (n : Counts) → AddUp c n → AddUp c (counts_from (count_of c) (sum_of c))
  anew_adds_up c n a =
      let e : count_of c + n.evictions + n.removals ≡ n.entries_before + n.insertions = a.entries in
      let f : sum_of c + n.evicted_charge + n.removed_charge ≡ n.charge_before + n.inserted_charge = a.charge in
      let u : n.entries_before + n.insertions ≤ c.next = a.entries_fit in
      let v : n.charge_before + n.inserted_charge ≤ c.next * end_of_u64 = a.charge_fits in
      record { entries = omega arith; charge = omega arith; stamps = a.stamps; entries_fit = omega (arith, e, u); charge_fits = omega (arith, f, v); gone_fits = omega arith }

  pub empty_adds_up : (capacity most : ℕ) → AddUp (empty_cache {K = K} {V = V} capacity most 0) (counts_from 0 0)
  empty_adds_up capacity most =
      let a : length (values (empty {X = Held K V} {R = nat_cmp})) ≡ 0 = ap (λ es. length (Rattle.std.proofs.Common.map (λ e. e.1) es)) no_entries in
      let b : sum_of (empty_cache {K = K} {V = V} capacity most 0) ≡ 0 = empty_sum K V capacity most 0 in
      record { entries = omega (arith, a); charge = omega (arith, b); stamps = omega arith; entries_fit = omega arith; charge_fits = omega arith; gone_fits = omega arith }

  -- a begin that is to make a value: by its stamp, whether it inserted the entry
  pub record Inserts (old : Cache K V) (charge s : ℕ) (out : List (Idle K V)) (new : Cache K V) : Type 0 where
    pub sizes : Resizes old new 1 charge (length out) (charges out)
    pub charge_fits : charge < 2 ^ 64
    pub stamps : old.next + 1 < 2 ^ 64
    pub few : charges out ≤ length out * end_of_u64

  pub capacity_evicts : (old new : Cache K V) (m : ℕ) (out : List (Idle K V)) → Settles (with_capacity old m) out new → Evicts old out new
  capacity_evicts old new m out h =
      let s = settled_size (with_capacity old m) new out h in
      record { entries = s.entries; charge = s.charge; next = s.next }

  refusal_adds_up : (old : Cache K V) (n : Counts) (r : Request K V) (e : Refusal) → AddUp old n → AddUp old (counted old r (refused e) n)
  refusal_adds_up old n (ask.begin k charge) e a = with_others old n n.hits n.misses n.waits (one_more n.refusals) n.makings n.failures a
  refusal_adds_up old n (ask.begin_strictly k charge) e a = with_others old n n.hits n.misses n.waits (one_more n.refusals) n.makings n.failures a
  refusal_adds_up old n (ask.get k) e a = with_others old n n.hits n.misses n.waits (one_more n.refusals) n.makings n.failures a
  refusal_adds_up old n (ask.poll s) Memory a = with_others old n n.hits n.misses n.waits (one_more n.refusals) n.makings n.failures a
  refusal_adds_up old n (ask.poll s) Overflow a = a
  refusal_adds_up old n (ask.poll s) Stale a = a
  refusal_adds_up old n (ask.poll s) Full a = a
  refusal_adds_up old n (ask.ready s v) e a = a
  refusal_adds_up old n (ask.ready_with s v charge) Overflow a = with_others old n n.hits n.misses n.waits (one_more n.refusals) n.makings n.failures a
  refusal_adds_up old n (ask.ready_with s v charge) Memory a = a
  refusal_adds_up old n (ask.ready_with s v charge) Stale a = a
  refusal_adds_up old n (ask.ready_with s v charge) Full a = a
  refusal_adds_up old n (ask.ready_with_strictly s v charge) Overflow a = with_others old n n.hits n.misses n.waits (one_more n.refusals) n.makings n.failures a
  refusal_adds_up old n (ask.ready_with_strictly s v charge) Full a = with_others old n n.hits n.misses n.waits (one_more n.refusals) n.makings n.failures a
  refusal_adds_up old n (ask.ready_with_strictly s v charge) Memory a = a
  refusal_adds_up old n (ask.ready_with_strictly s v charge) Stale a = a
  refusal_adds_up old n (ask.fail s) e a = a
  refusal_adds_up old n (ask.release s) e a = a
  refusal_adds_up old n (ask.release_and_evict s) e a = a
  refusal_adds_up old n (ask.repin s) Memory a = with_others old n n.hits n.misses n.waits (one_more n.refusals) n.makings n.failures a
  refusal_adds_up old n (ask.repin s) Overflow a = with_others old n n.hits n.misses n.waits (one_more n.refusals) n.makings n.failures a
  refusal_adds_up old n (ask.repin s) Stale a = a
  refusal_adds_up old n (ask.repin s) Full a = a
  refusal_adds_up old n (ask.advice_evict k) e a = a
  refusal_adds_up old n (ask.invalidate k) e a = a
  refusal_adds_up old n (ask.insert k charge v) e a = with_others old n n.hits n.misses n.waits (one_more n.refusals) n.makings n.failures a
  refusal_adds_up old n (ask.insert_strictly k charge v) e a = with_others old n n.hits n.misses n.waits (one_more n.refusals) n.makings n.failures a
  refusal_adds_up old n (ask.read k) e a = with_others old n n.hits n.misses n.waits (one_more n.refusals) n.makings n.failures a
  refusal_adds_up old n ask.prune e a = a
  refusal_adds_up old n (ask.set_capacity m) e a = a
  refusal_adds_up old n ask.total e a = a

  module _ {E : K → K → Bool} where
    pub inserts : (old new : Cache K V) (k : K) (charge s : ℕ) (out : List (Idle K V)) → IsLawful E old → Step E old (ask.begin k charge) (say.make s) out new → s ≡ old.next → Inserts old charge s out new
    inserts old new k charge s out l (inl m) is =
        let f : sum_of old + charge < 2 ^ 64 = m.fits.0 in
        let sizes = made_size old new k charge s out l m in
        let sum : sum_of new + charges out ≡ sum_of old + charge = sizes.charge in
        record { sizes = sizes; charge_fits = omega (arith, f); stamps = m.fits.1; few = few_charges out (omega (arith, f, sum)) }
    inserts old new k charge s out l (inr j) is =
        let low : s < old.next = l.below_next s j.entry.key j.entry.charge (inr (j.entry, j.holds.at, refl, refl)) in
        absurd (omega (arith, low, is))

    pub takes_over : (old new : Cache K V) (k : K) (charge s : ℕ) (out : List (Idle K V)) → IsLawful E old → Step E old (ask.begin k charge) (say.make s) out new → s ≢ old.next → KeepsSize old new
    takes_over old new k charge s out l (inl m) is = absurd (is m.stamp)
    takes_over old new k charge s out l (inr j) is = joined_size old new k s untaken making out j

    -- the calls that evict, by what they answer
    pub release_evicts : (old new : Cache K V) (s : ℕ) (out : List (Idle K V)) → Step E old (ask.release s) say.done out new → Evicts old out new
    release_evicts old new s out (inl h) = evicts_none old new out (left_size old new s (ready h.0) (ready h.0) out h.1) h.1.none
    release_evicts old new s out (inr (inl h)) = rested_size old new s out h
    release_evicts old new s out (inr (inr h)) = ended_size old new s out h

    pub advice_evicts : (old new : Cache K V) (k : K) (out : List (Idle K V)) → IsLawful E old → Step E old (ask.advice_evict k) say.done out new → Evicts old out new
    advice_evicts old new k out l (inl h) = dropped_size old new k out l h
    advice_evicts old new k out l (inr h) = stayed_size old new out h.1

    pub invalidate_evicts : (old new : Cache K V) (k : K) (out : List (Idle K V)) → IsLawful E old → Step E old (ask.invalidate k) say.done out new → Evicts old out new
    invalidate_evicts old new k out l (inl h) = dropped_size old new k out l h
    invalidate_evicts old new k out l (inr (inl h)) = evicts_none old new out (detached_size old new k out h) h.none
    invalidate_evicts old new k out l (inr (inr h)) = stayed_size old new out h.1

    pub invalidate_at_evicts : (old new : Cache K V) (s : ℕ) (out : List (Idle K V)) → IsLawful E old → InvalidatesAt E old s out new → Evicts old out new
    invalidate_at_evicts old new s out l (inl h) = invalidate_evicts old new h.0 out l h.3
    invalidate_at_evicts old new s out l (inr h) = stayed_size old new out h.1

    -- an insert: an entry of its charge comes, and what it replaces and evicts leaves
    pub stored_size : (old new : Cache K V) (k : K) (charge : ℕ) (v : V) (s : ℕ) (out : List (Idle K V)) → IsLawful E old → Stores E old k charge v s out new → Inserts old charge s out new
    stored_size old new k charge v s out l h =
        let a = invalidate_evicts old h.mid k h.replaced l h.invalidated in
        let b = made_size h.mid h.made k charge s h.evicted (invalidates_lawful E old k h.replaced h.mid l h.invalidated) h.begun in
        let c = phase_size h.made new s making (ready v) [] h.given in
        let ae : count_of h.mid + length h.replaced ≡ count_of old + 0 = a.entries in
        let af : sum_of h.mid + charges h.replaced ≡ sum_of old + 0 = a.charge in
        let an : h.mid.next ≡ old.next + 0 = a.next in
        let be : count_of h.made + length h.evicted ≡ count_of h.mid + 1 = b.entries in
        let bf : sum_of h.made + charges h.evicted ≡ sum_of h.mid + charge = b.charge in
        let bn : h.made.next ≡ h.mid.next + 1 = b.next in
        let ce : count_of new + 0 ≡ count_of h.made + 0 = c.entries in
        let cf : sum_of new + 0 ≡ sum_of h.made + 0 = c.charge in
        let cn : new.next ≡ h.made.next + 0 = c.next in
        let n : length out ≡ length h.replaced + length h.evicted = ap length h.both ∙ length-append h.replaced h.evicted in
        let m : charges out ≡ charges h.replaced + charges h.evicted = ap charges h.both ∙ sum_by-append (λ x. x.charge) h.replaced h.evicted in
        let f : sum_of h.mid + charge < 2 ^ 64 = h.begun.fits.0 in
        let g : h.mid.next + 1 < 2 ^ 64 = h.begun.fits.1 in
        record {
          sizes = record { entries = omega (arith, ae, be, ce, n); charge = omega (arith, af, bf, cf, m); next = omega (arith, an, bn, cn) };
          charge_fits = omega (arith, f);
          stamps = omega (arith, g, an);
          few =
              let x : charges h.replaced ≤ length h.replaced * end_of_u64 = few_evicted E old h.mid h.replaced l a in
              let y : charges h.evicted ≤ length h.evicted * end_of_u64 = few_charges h.evicted (omega (arith, bf, f)) in
              omega (arith, n, m, x, y);
        }

    -- a release that evicts nothing keeps the size, and so does a read
    quiet_release_size : (old new : Cache K V) (s : ℕ) → Step E old (ask.release s) say.done [] new → KeepsSize old new
    quiet_release_size old new s (inl h) = left_size old new s (ready h.0) (ready h.0) [] h.1
    quiet_release_size old new s (inr (inl h)) = rested_size old new s [] h
    quiet_release_size old new s (inr (inr h)) = ended_size old new s [] h

    pub renewed_size : (old new : Cache K V) (k : K) (s : ℕ) (v : V) (out : List (Idle K V)) → IsLawful E old → Renews E old k s v out new → KeepsSize old new
    renewed_size old new k s v out l h =
        let a = hit_size old h.mid k s v [] l h.found in
        let b = quiet_release_size h.mid new s h.released in
        let ae : count_of h.mid + 0 ≡ count_of old + 0 = a.entries in
        let af : sum_of h.mid + 0 ≡ sum_of old + 0 = a.charge in
        let an : h.mid.next ≡ old.next + 0 = a.next in
        let be : count_of new + 0 ≡ count_of h.mid + 0 = b.entries in
        let bf : sum_of new + 0 ≡ sum_of h.mid + 0 = b.charge in
        let bn : new.next ≡ h.mid.next + 0 = b.next in
        record { entries = omega (arith, ae, be); charge = omega (arith, af, bf); next = omega (arith, an, bn) }

    -- a making that fails for good: what is owed once its failure is counted
    pub fail_owes : (old new : Cache K V) (n : Counts) (s : ℕ) (k : K) (out : List (Idle K V)) → IsLawful E old → AddUp old n → Step E old (ask.fail s) (say.removed k) out new → Owes new (one_failure n) 1 (held_charge old s)
    fail_owes old new n s k out l a h =
        let size = removed_size old new s k out h in
        let sum : sum_of new + h.entry.charge ≡ sum_of old + 0 = size.charge in
        let fits : sum_of old < 2 ^ 64 = l.sum_fits in
        subst (λ g. Owes new (one_failure n) 1 g) (sym (ap (λ e. option_map_or (λ x. x.charge) e 0) h.holds.at))
        (owed old new (one_failure n) 1 h.entry.charge (with_others old n n.hits n.misses n.waits n.refusals n.makings (one_more n.failures) a) size (omega (arith, sum, fits)))

    -- a making that becomes ready with another charge: what is owed once that is counted
    pub charge_owes : (old new : Cache K V) (n : Counts) (s : ℕ) (v : V) (charge : ℕ) (out : List (Idle K V)) → AddUp old n → Charges E old s v charge out new → Owes new (recharged (held_charge old s) charge n) (length out) (charges out)
    charge_owes old new n s v charge out a h =
        let was = h.entry.charge in
        let mid = with_held old s (given v charge h.entry) in
        let size = settled_size mid new out h.settles in
        let cm : count_of mid ≡ count_of old = ap (λ m. length old.idle + m) (length-change old.held s h.entry (given v charge h.entry) h.holds.at) in
        let one : length (values (remove old.held s)) + 1 ≡ length (values old.held) = length-remove old.held s h.entry h.holds.at in
        let sm : sum_of mid + was ≡ sum_of old + charge = sum-given old s h.entry v charge h.holds.at in
        let held : was ≤ sum_of old = held_within old s h.entry h.holds.at in
        let fits : sum_of old + charge < 2 ^ 64 + was = h.fits in
        let p : count_of new + length out ≡ count_of mid + 0 = size.entries in
        let q : sum_of new + charges out ≡ sum_of mid + 0 = size.charge in
        let m : new.next ≡ old.next + 0 = size.next in
        let e : count_of old + n.evictions + n.removals ≡ n.entries_before + n.insertions = a.entries in
        let f : sum_of old + n.evicted_charge + n.removed_charge ≡ n.charge_before + n.inserted_charge = a.charge in
        let st : old.next < 2 ^ 64 = a.stamps in
        let u : n.entries_before + n.insertions ≤ old.next = a.entries_fit in
        let gone : n.evicted_charge + n.removed_charge ≤ (n.evictions + n.removals) * end_of_u64 = a.gone_fits in
        subst (λ g. Owes new (recharged g charge n) (length out) (charges out)) (sym (ap (λ e. option_map_or (λ x. x.charge) e 0) h.holds.at)) record {
          entries = omega (arith, p, cm, e);
          charge = omega (arith, q, sm, f, held);
          stamps = omega (arith, st, m);
          entries_fit = omega (arith, u, m);
          charge_fits = omega (arith, m, u, e, one, gone, f, sm, fits, held);
          left_fits = few_charges out (omega (arith, q, sm, fits));
          gone_fits = gone;
        }

    make_adds_up : (old new : Cache K V) (n : Counts) (k : K) (charge s : ℕ) (out : List (Idle K V)) → IsLawful E old → AddUp old n → Step E old (ask.begin k charge) (say.make s) out new → AddUp new (counted old (ask.begin k charge) (accepted (say.make s) out) n)
    make_adds_up old new n k charge s out l a h =
        elim (s == old.next) as (λ b. (s == old.next) ≡ b → AddUp new (cond b (evicted out (inserted charge (one_making (one_miss n)))) (one_making (one_miss n)))) [
          | true ↦ λ b.
              let i = inserts old new k charge s out l h (eqb-true s old.next b) in
              evictions_add_up new (inserted charge (one_making (one_miss n))) out (owed_for_new old new (one_making (one_miss n)) charge (length out) (charges out) (with_others old n n.hits (one_more n.misses) n.waits n.refusals (one_more n.makings) n.failures a) i.sizes i.charge_fits i.stamps i.few)
          | false ↦ λ b. with_others new n n.hits (one_more n.misses) n.waits n.refusals (one_more n.makings) n.failures (kept_adds_up old new n a (takes_over old new k charge s out l h (λ is. true≢false (sym (eq-eqb s old.next is) ∙ b))))
        ] refl

    insert_adds_up : (old new : Cache K V) (n : Counts) (k : K) (charge : ℕ) (v : V) (s : ℕ) (out : List (Idle K V)) → IsLawful E old → AddUp old n → Step E old (ask.insert k charge v) (say.inserted s) out new → AddUp new (evicted out (inserted charge n))
    insert_adds_up old new n k charge v s out l a h =
        let i = stored_size old new k charge v s out l h in
        evictions_add_up new (inserted charge n) out (owed_for_new old new n charge (length out) (charges out) a i.sizes i.charge_fits i.stamps i.few)

    step_adds_up : (old new : Cache K V) (n : Counts) (r : Request K V) (p : Reply K V) (out : List (Idle K V)) → IsLawful E old → AddUp old n → Step E old r p out new → AddUp new (counted old r (accepted p out) n)
    step_adds_up old new n (ask.begin k charge) (say.make s) out l a h = make_adds_up old new n k charge s out l a h
    step_adds_up old new n (ask.begin k charge) (say.wait s) out l a h = with_others new n n.hits n.misses (one_more n.waits) n.refusals n.makings n.failures (kept_adds_up old new n a (joined_size old new k s making making out h))
    step_adds_up old new n (ask.begin k charge) (say.hit s v) out l a h = with_others new n (one_more n.hits) n.misses n.waits n.refusals n.makings n.failures (kept_adds_up old new n a (hit_size old new k s v out l h))
    step_adds_up old new n (ask.begin_strictly k charge) (say.make s) out l a h = make_adds_up old new n k charge s out l a (loose_begin E old k charge (say.make s) out new h)
    step_adds_up old new n (ask.begin_strictly k charge) (say.wait s) out l a h = with_others new n n.hits n.misses (one_more n.waits) n.refusals n.makings n.failures (kept_adds_up old new n a (joined_size old new k s making making out h))
    step_adds_up old new n (ask.begin_strictly k charge) (say.hit s v) out l a h = with_others new n (one_more n.hits) n.misses n.waits n.refusals n.makings n.failures (kept_adds_up old new n a (hit_size old new k s v out l h))
    step_adds_up old new n (ask.poll s) (say.wait t) out l a h = kept_adds_up old new n a (phase_size old new s making making out h.1)
    step_adds_up old new n (ask.poll s) (say.make t) out l a h = with_others new n n.hits n.misses n.waits n.refusals (one_more n.makings) n.failures (kept_adds_up old new n a (phase_size old new s untaken making out h.1))
    step_adds_up old new n (ask.poll s) (say.hit t v) out l a h = kept_adds_up old new n a (phase_size old new s (ready v) (ready v) out h.1)
    step_adds_up old new n (ask.ready s v) say.done out l a h = kept_adds_up old new n a (phase_size old new s making (ready v) out h)
    step_adds_up old new n (ask.ready_with s v charge) say.done out l a h = evictions_add_up new (recharged (held_charge old s) charge n) out (charge_owes old new n s v charge out a h)
    step_adds_up old new n (ask.ready_with_strictly s v charge) say.done out l a h = evictions_add_up new (recharged (held_charge old s) charge n) out (charge_owes old new n s v charge out a h.0)
    step_adds_up old new n (ask.fail s) say.left out l a h = with_others new n n.hits n.misses n.waits n.refusals n.makings (one_more n.failures) (kept_adds_up old new n a (left_size old new s making untaken out h))
    step_adds_up old new n (ask.fail s) (say.removed k) out l a h = removal_adds_up new (one_failure n) (held_charge old s) (fail_owes old new n s k out l a h)
    step_adds_up old new n (ask.get k) (say.hit s v) out l a h = with_others new n (one_more n.hits) n.misses n.waits n.refusals n.makings n.failures (kept_adds_up old new n a (hit_size old new k s v out l h))
    step_adds_up old new n (ask.get k) say.missed out l a h = with_others new n n.hits (one_more n.misses) n.waits n.refusals n.makings n.failures (kept_adds_up old new n a (same_size old new h.1.same))
    step_adds_up old new n (ask.release s) say.done out l a h = evicting_adds_up old new n out l a (release_evicts old new s out h)
    step_adds_up old new n (ask.release_and_evict s) say.done out l a h = evicting_adds_up old new n out l a (released_and_evicted_size old new s out h)
    step_adds_up old new n (ask.repin s) (say.pinned v) out l a h = kept_adds_up old new n a (repinned_size old new s v out l h)
    step_adds_up old new n (ask.advice_evict k) say.done out l a h = evicting_adds_up old new n out l a (advice_evicts old new k out l h)
    step_adds_up old new n (ask.invalidate k) say.done out l a h = evicting_adds_up old new n out l a (invalidate_evicts old new k out l h)
    step_adds_up old new n (ask.insert k charge v) (say.inserted s) out l a h = insert_adds_up old new n k charge v s out l a h
    step_adds_up old new n (ask.insert_strictly k charge v) (say.inserted s) out l a h = insert_adds_up old new n k charge v s out l a h.1
    step_adds_up old new n (ask.read k) (say.read s v) out l a h = with_others new n (one_more n.hits) n.misses n.waits n.refusals n.makings n.failures (kept_adds_up old new n a (renewed_size old new k s v out l h))
    step_adds_up old new n (ask.read k) say.missed out l a h = with_others new n n.hits (one_more n.misses) n.waits n.refusals n.makings n.failures (kept_adds_up old new n a (same_size old new h.1.same))
    step_adds_up old new n ask.prune say.done out l a h = evicting_adds_up old new n out l a (pruned_size old new out h.0 h.1)
    step_adds_up old new n (ask.set_capacity m) say.done out l a h = evicting_adds_up old new n out l a (capacity_evicts old new m out h)
    step_adds_up old new n ask.total (say.sum m) out l a h = kept_adds_up old new n a (same_size old new h.1.same)
    step_adds_up old new n _ _ out l a h = absurd h

    -- whatever a call is asked and answers
    pub counted_adds_up : (old new : Cache K V) (n : Counts) (r : Request K V) (o : Outcome K V) → IsLawful E old → AddUp old n → Stands E old r o new → AddUp new (counted old r o n)
    counted_adds_up old new n r (accepted p out) l a h = step_adds_up old new n r p out l a h
    counted_adds_up old new n r (refused e) l a h = subst (λ c. AddUp c (counted old r (refused e) n)) (sym h.1) (refusal_adds_up old n r e a)

    -- an invalidate, and then a begin that inserts an entry: what is owed once the entry is
    -- counted, and that it adds up
    pub owed_for_replaced : (old mid new : Cache K V) (n : Counts) (k : K) (charge s : ℕ) (replaced out : List (Idle K V)) → IsLawful E old → IsLawful E mid → AddUp old n → Step E old (ask.invalidate k) say.done replaced mid → Step E mid (ask.begin k charge) (say.make s) out new → s ≡ mid.next → Owes new (inserted charge (evicted replaced n)) (length out) (charges out)
    owed_for_replaced old mid new n k charge s replaced out l lm a h b is =
        let i = inserts mid new k charge s out lm b is in
        owed_for_new mid new (evicted replaced n) charge (length out) (charges out) (evicting_adds_up old mid n replaced l a (invalidate_evicts old mid k replaced l h)) i.sizes i.charge_fits i.stamps i.few

    pub replaced_adds_up : (old mid new : Cache K V) (n : Counts) (k : K) (charge s : ℕ) (replaced out : List (Idle K V)) → IsLawful E old → IsLawful E mid → AddUp old n → Step E old (ask.invalidate k) say.done replaced mid → Step E mid (ask.begin k charge) (say.make s) out new → s ≡ mid.next → AddUp new (evicted out (inserted charge (evicted replaced n)))
    replaced_adds_up old mid new n k charge s replaced out l lm a h b is = evictions_add_up new (inserted charge (evicted replaced n)) out (owed_for_replaced old mid new n k charge s replaced out l lm a h b is)

    -- a read is a get and a release, or a get that finds nothing
    read_size : {T : Type 0} (old new : Cache K V) (k : K) (answers : V → T → Type 0) (result : Result (Option (ℕ × T)) Refusal) → IsLawful E old → Reads E old k answers result new → KeepsSize old new
    read_size old new k answers (Ok (Some r)) l h =
        let run = h.1 in
        let a = hit_size old run.0 k r.0 h.0 [] l run.1 in
        let b = quiet_release_size run.0 run.2.0 r.0 run.2.1 in
        let c = same_size run.2.0 new run.2.2 in
        let ae : count_of run.0 + 0 ≡ count_of old + 0 = a.entries in
        let af : sum_of run.0 + 0 ≡ sum_of old + 0 = a.charge in
        let an : run.0.next ≡ old.next + 0 = a.next in
        let be : count_of run.2.0 + 0 ≡ count_of run.0 + 0 = b.entries in
        let bf : sum_of run.2.0 + 0 ≡ sum_of run.0 + 0 = b.charge in
        let bn : run.2.0.next ≡ run.0.next + 0 = b.next in
        let ce : count_of new + 0 ≡ count_of run.2.0 + 0 = c.entries in
        let cf : sum_of new + 0 ≡ sum_of run.2.0 + 0 = c.charge in
        let cn : new.next ≡ run.2.0.next + 0 = c.next in
        record { entries = omega (arith, ae, be, ce); charge = omega (arith, af, bf, cf); next = omega (arith, an, bn, cn) }
    read_size old new k answers (Ok None) l h = same_size old new h.1.same
    read_size old new k answers (Err e) l h = same_size old new h.1.1

    pub read_adds_up : {T : Type 0} (old new : Cache K V) (n : Counts) (k : K) (answers : V → T → Type 0) (result : Result (Option (ℕ × T)) Refusal) → IsLawful E old → AddUp old n → Reads E old k answers result new → AddUp new (counted_look result n)
    read_adds_up old new n k answers (Ok (Some r)) l a h = with_others new n (one_more n.hits) n.misses n.waits n.refusals n.makings n.failures (kept_adds_up old new n a (read_size old new k answers (Ok (Some r)) l h))
    read_adds_up old new n k answers (Ok None) l a h = with_others new n n.hits (one_more n.misses) n.waits n.refusals n.makings n.failures (kept_adds_up old new n a (read_size old new k answers (Ok None) l h))
    read_adds_up old new n k answers (Err e) l a h = with_others new n n.hits n.misses n.waits (one_more n.refusals) n.makings n.failures (kept_adds_up old new n a (read_size old new k answers (Err e) l h))

    -- the invariant after a call that answers so
    pub soundly_counted : (old new : Cache K V) (n m : Counts) (r : Request K V) (o : Outcome K V) → IsSoundlyCounted E old n → Stands E old r o new → IsLawful E new → m ≡ counted old r o n → IsSoundlyCounted E new m
    soundly_counted old new n m r o sound stands lawful is = record {
      lawful = lawful;
      adds_up = subst (AddUp new) (sym is) (counted_adds_up old new n r o sound.lawful sound.adds_up stands);
    }

    pub soundly_read : {T : Type 0} (old new : Cache K V) (n m : Counts) (k : K) (answers : V → T → Type 0) (result : Result (Option (ℕ × T)) Refusal) → IsSoundlyCounted E old n → Reads E old k answers result new → IsLawful E new → m ≡ counted_look result n → IsSoundlyCounted E new m
    soundly_read old new n m k answers result sound reads lawful is = record {
      lawful = lawful;
      adds_up = subst (AddUp new) (sym is) (read_adds_up old new n k answers result sound.lawful sound.adds_up reads);
    }

    pub soundly_readied : (old new : Cache K V) (n : Counts) (s : ℕ) (k : K) (v : V) (r : Result (Unit {0}) (Arc V Global)) → IsSoundlyCounted E old n → IsLawful E new → OnOk r (HasEqualKeyAt E old s k) → OnErr r (new ≡ old)
        → (HasEqualKeyAt E old s k → Stands E old (ask.ready s v) (outcome_of_ready r) new) → IsSoundlyCounted E new n
    soundly_readied old new n s k v (Ok x) sound lawful keyed same stands = soundly_counted old new n n (ask.ready s v) (accepted say.done []) sound (stands keyed) lawful refl
    soundly_readied old new n s k v (Err a) sound lawful keyed same stands = subst (λ c. IsSoundlyCounted E c n) (sym same) sound

    pub soundly_empty : (c : Cache K V) (n : Counts) (capacity : ℕ) → c ≡ empty_cache capacity most_pins_by_default 0 → n ≡ counts_from 0 0 → IsSoundlyCounted E c n
    soundly_empty c n capacity is_empty is_none =
        subst (λ m. IsSoundlyCounted E c m) (sym is_none)
        (subst (λ d. IsSoundlyCounted E d (counts_from 0 0)) (sym is_empty) record { lawful = empty_lawful E capacity most_pins_by_default 0; adds_up = empty_adds_up capacity most_pins_by_default })

  -- the answers of the core's calls, and of those that count them
  pub get_counted : (c : Cache K V) (k : K) (r : Result (Option (ℕ × Arc V Global × Hint)) Refusal) (n : Counts) → counted_look r n ≡ counted c (ask.get k) (outcome_of_get (found_without_hint r)) n
  get_counted c k (Ok (Some found)) n = refl
  get_counted c k (Ok None) n = refl
  get_counted c k (Err e) n = refl

  pub poll_counted : (c : Cache K V) (s : ℕ) (r : Result (Begun (Arc V Global)) Refusal) (n : Counts) → counted_poll r n ≡ counted c (ask.poll s) (outcome_of_poll r) n
  poll_counted c s (Ok (begun.Make t)) n = refl
  poll_counted c s (Ok (begun.Wait t)) n = refl
  poll_counted c s (Ok (begun.Hit t a)) n = refl
  poll_counted c s (Err Memory) n = refl
  poll_counted c s (Err Overflow) n = refl
  poll_counted c s (Err Stale) n = refl
  poll_counted c s (Err Full) n = refl

  -- a strict begin is counted as one that is not strict
  pub strictly_counted : (c : Cache K V) (k : K) (charge : ℕ) (o : Outcome K V) (n : Counts) → counted c (ask.begin_strictly k charge) o n ≡ counted c (ask.begin k charge) o n
  strictly_counted c k charge (accepted (say.make s) out) n = refl
  strictly_counted c k charge (accepted (say.wait s) out) n = refl
  strictly_counted c k charge (accepted (say.hit s v) out) n = refl
  strictly_counted c k charge (accepted say.done out) n = refl
  strictly_counted c k charge (accepted say.left out) n = refl
  strictly_counted c k charge (accepted (say.removed l) out) n = refl
  strictly_counted c k charge (accepted say.missed out) n = refl
  strictly_counted c k charge (accepted (say.sum m) out) n = refl
  strictly_counted c k charge (accepted (say.inserted s) out) n = refl
  strictly_counted c k charge (accepted (say.read s v) out) n = refl
  strictly_counted c k charge (accepted (say.pinned v) out) n = refl
  strictly_counted c k charge (refused e) n = refl

  pub repin_counted : (c : Cache K V) (s : ℕ) (r : Result (Arc V Global) Refusal) (n : Counts) → counted_repin r n ≡ counted c (ask.repin s) (outcome_of_repin r) n
  repin_counted c s (Ok a) n = refl
  repin_counted c s (Err Memory) n = refl
  repin_counted c s (Err Overflow) n = refl
  repin_counted c s (Err Stale) n = refl
  repin_counted c s (Err Full) n = refl

  -- one insertion more can be counted
  pub insertion_fits : (c : Cache K V) (n : Counts) (charge : ℕ) → AddUp c n → charge < 2 ^ 64 → c.next + 1 < 2 ^ 64 → (n.insertions + 1 < 2 ^ 64) × (n.inserted_charge + charge < 2 ^ 128)
  insertion_fits c n charge a fits stamps =
      let u : n.entries_before + n.insertions ≤ c.next = a.entries_fit in
      let v : n.charge_before + n.inserted_charge ≤ c.next * end_of_u64 = a.charge_fits in
      (omega (arith, u, stamps), omega (arith, v, stamps, fits))

  -- a begin that inserts an entry: the counts after it, and what they owe before what it evicted is
  -- counted
  pub record Inserted (old : Cache K V) (k : K) (charge s : ℕ) (out : List (Idle K V)) (new : Cache K V) (n : Counts) : Type 0 where
    pub counted_is : counted old (ask.begin k charge) (accepted (say.make s) out) n ≡ evicted out (inserted charge (one_making (one_miss n)))
    pub insertions_fit : n.insertions + 1 < 2 ^ 64
    pub charge_fits : n.inserted_charge + charge < 2 ^ 128
    pub owes : Owes new (inserted charge (one_making (one_miss n))) (length out) (charges out)

  pub begin_inserted : (E : K → K → Bool) (old new : Cache K V) (k : K) (charge s : ℕ) (out : List (Idle K V)) (n : Counts) → IsSoundlyCounted E old n → Stands E old (ask.begin k charge) (accepted (say.make s) out) new → s ≡ old.next → Inserted old k charge s out new n
  begin_inserted E old new k charge s out n sound h is =
      let i = inserts old new k charge s out sound.lawful h is in
      let a = sound.adds_up in
      let fits = insertion_fits old n charge a i.charge_fits i.stamps in
      record {
        counted_is = ap (λ b. cond b (evicted out (inserted charge (one_making (one_miss n)))) (one_making (one_miss n))) (eq-eqb s old.next is);
        insertions_fit = fits.0;
        charge_fits = fits.1;
        owes = owed_for_new old new (one_making (one_miss n)) charge (length out) (charges out) (with_others old n n.hits (one_more n.misses) n.waits n.refusals (one_more n.makings) n.failures a) i.sizes i.charge_fits i.stamps i.few;
      }

  -- a begin that takes over a making inserts nothing
  pub taken_over_counted : (old : Cache K V) (k : K) (charge s : ℕ) (out : List (Idle K V)) (n : Counts) → (s ≡ old.next → ⊥) → counted old (ask.begin k charge) (accepted (say.make s) out) n ≡ one_making (one_miss n)
  taken_over_counted old k charge s out n other = ap (λ b. cond b (evicted out (inserted charge (one_making (one_miss n)))) (one_making (one_miss n))) (ne_eqb s old.next other)

  -- what is owed may be counted
  pub can_evict : {c : Cache K V} {n m : Counts} {o g entries charge : ℕ} → Owes c n o g → m ≡ n → entries ≡ count_of c → charge ≡ sum_of c → MayEvict m entries charge
  can_evict {c} {n} {m} {o} {g} {entries} {charge} w same is_count is_sum =
      let e : count_of c + o + n.evictions + n.removals ≡ n.entries_before + n.insertions = w.entries in
      let f : sum_of c + g + n.evicted_charge + n.removed_charge ≡ n.charge_before + n.inserted_charge = w.charge in
      let s : c.next < 2 ^ 64 = w.stamps in
      let u : n.entries_before + n.insertions ≤ c.next = w.entries_fit in
      let v : n.charge_before + n.inserted_charge ≤ c.next * end_of_u64 = w.charge_fits in
      subst (λ x. MayEvict x entries charge) (sym same) record { entries = omega (arith, e, is_count); entries_fit = omega (arith, u, s); charge = omega (arith, f, is_sum); charge_fits = omega (arith, v, s) }

  pub can_remove : {c : Cache K V} {n m : Counts} {g charge : ℕ} → Owes c n 1 g → m ≡ n → charge ≡ sum_of c → MayRemove m charge
  can_remove {c} {n} {m} {g} {charge} w same is_sum =
      let e : count_of c + 1 + n.evictions + n.removals ≡ n.entries_before + n.insertions = w.entries in
      let f : sum_of c + g + n.evicted_charge + n.removed_charge ≡ n.charge_before + n.inserted_charge = w.charge in
      let s : c.next < 2 ^ 64 = w.stamps in
      let u : n.entries_before + n.insertions ≤ c.next = w.entries_fit in
      let v : n.charge_before + n.inserted_charge ≤ c.next * end_of_u64 = w.charge_fits in
      subst (λ x. MayRemove x charge) (sym same) record { entries = omega (arith, e, u, s); charge = omega (arith, f, is_sum); charge_fits = omega (arith, v, s) }

  -- where a call evicted these, the code may count them, and counts just these
  pub can_count : {E : K → K → Bool} {old new : Cache K V} {n : Counts} {entries charge : ℕ} (out : List (Idle K V)) → IsSoundlyCounted E old n → Evicts old out new → entries ≡ count_of new → charge ≡ sum_of new → MayEvict n entries charge
  can_count {E} {old} {new} {n} out sound e is_count is_sum = can_evict (owed old new n (length out) (charges out) sound.adds_up e (few_evicted E old new out sound.lawful e)) refl is_count is_sum

  pub counts_evicted : {E : K → K → Bool} {old new : Cache K V} {n m : Counts} {seen : LockedCache K V} {strict : Bool} {entries charge : ℕ} (out : List (Idle K V)) → record { cache = old; counts = n; strict = strict } ≡ seen → IsSoundlyCounted E old n → Evicts old out new → m ≡ left_evicted n entries charge → entries ≡ count_of new → charge ≡ sum_of new
      → m ≡ evicted out seen.counts
  counts_evicted {E} {old} {new} {n} {m} out is sound e told is_count is_sum = subst (λ x. m ≡ evicted out x.counts) is (told_evicted out (owed old new n (length out) (charges out) sound.adds_up e (few_evicted E old new out sound.lawful e)) refl told is_count is_sum)

  -- the invariant after a call that evicted these, and after one that evicted nothing
  pub soundly_evicted : {E : K → K → Bool} {old new : Cache K V} {n m : Counts} {entries charge : ℕ} (out : List (Idle K V)) → IsSoundlyCounted E old n → Evicts old out new → IsLawful E new
      → m ≡ left_evicted n entries charge → entries ≡ count_of new → charge ≡ sum_of new → IsSoundlyCounted E new m
  soundly_evicted {E} {old} {new} {n} {m} out sound e lawful told is_count is_sum = record {
    lawful = lawful;
    adds_up = subst (AddUp new) (sym (counts_evicted {E = E} {seen = record { cache = old; counts = n; strict = false }} out refl sound e told is_count is_sum)) (evicting_adds_up {E = E} old new n out sound.lawful sound.adds_up e);
  }

  pub soundly_kept : {E : K → K → Bool} {old new : Cache K V} {n : Counts} (out : List (Idle K V)) → IsSoundlyCounted E old n → Evicts old out new → IsLawful E new → out ≡ [] → IsSoundlyCounted E new n
  soundly_kept {E} {old} {new} {n} out sound e lawful none = record { lawful = lawful; adds_up = subst (AddUp new) (evicted_none n out none) (evicting_adds_up {E = E} old new n out sound.lawful sound.adds_up e) }
