-- Counts that add up go on adding up where an insert replaces an entry.
use Rattle.std.proofs.Common.{◌≡◌, ℕ, ◌+◌, ◌-◌, ◌*◌, ◌<◌, ◌≤◌, ◌^◌, Bool, List, [], length, sym, ap, ◌∙◌, subst, arith}
use Rattle.std.specs.Cmp.{IsEquivalence}
use Rattle.concurrent_lru.specs.Cache.{Cache, Idle, making, ready, IsLawful, charges, count_of, sum_of}
use Rattle.concurrent_lru.specs.CountedCalls.{AddUp, IsSoundlyCounted, replaced}
use Rattle.concurrent_lru.specs.Counts.{end_of_u64, inserted, one_more, one_refusal}
use Rattle.concurrent_lru.specs.Inserts.{Replaces}
use Rattle.concurrent_lru.specs.declared.counts.Counts.{Counts}
use Rattle.concurrent_lru.specs.declared.step.Begun.TheVariants as begun
use Rattle.concurrent_lru.proofs.AddedUp.SizesOfSteps.{Resizes, made_size, phase_size, same_size}
use Rattle.concurrent_lru.proofs.AddedUp.CountsOfSteps.{Owes, few_charges, few_evicted, insertion_fits, invalidate_evicts, left_evicted, owed_for_new, with_others}
use Rattle.concurrent_lru.proofs.Steps.InsertOfKey.{begun_new, invalidated_absent}
use Rattle.concurrent_lru.proofs.Steps.ValuesInserted.{invalidated_lawful}

module _ {K V : Type 0} where
  -- an insert: what it replaces and evicts leaves, and an entry of its charge comes
  pub record Enters (old : Cache K V) (charge : ℕ) (gone out : List (Idle K V)) (new : Cache K V) : Type 0 where
    pub sizes : Resizes old new 1 charge (length gone + length out) (charges gone + charges out)
    pub charge_fits : charge < 2 ^ 64
    pub stamps : old.next + 1 < 2 ^ 64
    pub few : charges gone + charges out ≤ (length gone + length out) * end_of_u64

module _ {K V : Type 0} {E : K → K → Bool} where
  pub enters : (old new : Cache K V) (k : K) (charge : ℕ) (v : V) (s : ℕ) (gone out : List (Idle K V)) → IsEquivalence E → IsLawful E old → IsLawful E new → Replaces E old k charge v s gone out new → Enters old charge gone out new
  enters old new k charge v s gone out laws l last r =
      let mid = r.0 in
      let made = r.2.0 in
      let stored = r.2.2.0 in
      let lawful = invalidated_lawful E old new k charge v s gone out laws l last r in
      let m = begun_new E charge (invalidated_absent E laws old l k mid gone r.1) {S = V} (λ w. w) (begun.Make s) out made r.2.1 in
      let a = invalidate_evicts {E = E} old mid k gone l r.1 in
      let b = made_size {E = E} mid made k charge mid.next out lawful m in
      let c = phase_size {E = E} made stored s making (ready v) [] r.2.2.1 in
      let d = same_size stored new r.2.2.2 in
      let ae : count_of mid + length gone ≡ count_of old + 0 = a.entries in
      let af : sum_of mid + charges gone ≡ sum_of old + 0 = a.charge in
      let an : mid.next ≡ old.next + 0 = a.next in
      let be : count_of made + length out ≡ count_of mid + 1 = b.entries in
      let bf : sum_of made + charges out ≡ sum_of mid + charge = b.charge in
      let bn : made.next ≡ mid.next + 1 = b.next in
      let ce : count_of stored + 0 ≡ count_of made + 0 = c.entries in
      let cf : sum_of stored + 0 ≡ sum_of made + 0 = c.charge in
      let cn : stored.next ≡ made.next + 0 = c.next in
      let de : count_of new + 0 ≡ count_of stored + 0 = d.entries in
      let df : sum_of new + 0 ≡ sum_of stored + 0 = d.charge in
      let dn : new.next ≡ stored.next + 0 = d.next in
      let f : sum_of mid + charge < 2 ^ 64 = m.fits.0 in
      let g : mid.next + 1 < 2 ^ 64 = m.fits.1 in
      record {
        sizes = record { entries = omega (arith, ae, be, ce, de); charge = omega (arith, af, bf, cf, df); next = omega (arith, an, bn, cn, dn) };
        charge_fits = omega (arith, f);
        stamps = omega (arith, g, an);
        few =
            let x : charges gone ≤ length gone * end_of_u64 = few_evicted E old mid gone l a in
            let y : charges out ≤ length out * end_of_u64 = few_charges out (omega (arith, bf, f)) in
            omega (arith, x, y);
      }

module _ {K V : Type 0} where
  -- what the code asks of the counts before it counts an insertion, and what they owe after it
  pub record CanInsert (old : Cache K V) (n : Counts) (charge : ℕ) (gone out : List (Idle K V)) (new : Cache K V) : Type 0 where
    pub entries : n.insertions + 1 < 2 ^ 64
    pub charge_fits : n.inserted_charge + charge < 2 ^ 128
    pub owes : Owes new (inserted charge n) (length gone + length out) (charges gone + charges out)

  pub can_insert : {E : K → K → Bool} (old new : Cache K V) (n : Counts) (k : K) (charge : ℕ) (v : V) (s : ℕ) (gone out : List (Idle K V)) → IsEquivalence E → IsSoundlyCounted E old n → IsLawful E new → Replaces E old k charge v s gone out new
      → CanInsert old n charge gone out new
  can_insert {E} old new n k charge v s gone out laws sound last r =
      let i = enters {E = E} old new k charge v s gone out laws sound.lawful last r in
      let fits = insertion_fits old n charge sound.adds_up i.charge_fits i.stamps in
      record { entries = fits.0; charge_fits = fits.1; owes = owed_for_new old new n charge (length gone + length out) (charges gone + charges out) sound.adds_up i.sizes i.charge_fits i.stamps i.few }

  -- how the code tells what was replaced and evicted, from what is left
  pub told_replaced : {c : Cache K V} {m after : Counts} {entries total : ℕ} (n : Counts) (charge : ℕ) (gone out : List (Idle K V)) → Owes c (inserted charge n) (length gone + length out) (charges gone + charges out) → m ≡ inserted charge n → after ≡ left_evicted m entries total → entries ≡ count_of c → total ≡ sum_of c
      → after ≡ replaced gone out charge n
  told_replaced {c} {entries} {total} n charge gone out o same told is_count is_sum =
      let e : count_of c + (length gone + length out) + n.evictions + n.removals ≡ n.entries_before + (n.insertions + 1) = o.entries in
      let f : sum_of c + (charges gone + charges out) + n.evicted_charge + n.removed_charge ≡ n.charge_before + (n.inserted_charge + charge) = o.charge in
      let a : n.entries_before + (n.insertions + 1) - n.removals - entries ≡ n.evictions + length gone + length out = omega (arith, e, is_count) in
      let b : n.charge_before + (n.inserted_charge + charge) - n.removed_charge - total ≡ n.evicted_charge + charges gone + charges out = omega (arith, f, is_sum) in
      told ∙ ap (λ x. left_evicted x entries total) same ∙ (λ j. record (inserted charge n) { evictions = a j; evicted_charge = b j })

  pub replaced_adds_up : (c : Cache K V) (n : Counts) (charge : ℕ) (gone out : List (Idle K V)) → Owes c (inserted charge n) (length gone + length out) (charges gone + charges out) → AddUp c (replaced gone out charge n)
  replaced_adds_up c n charge gone out o =
      let e : count_of c + (length gone + length out) + n.evictions + n.removals ≡ n.entries_before + (n.insertions + 1) = o.entries in
      let f : sum_of c + (charges gone + charges out) + n.evicted_charge + n.removed_charge ≡ n.charge_before + (n.inserted_charge + charge) = o.charge in
      let few : charges gone + charges out ≤ (length gone + length out) * end_of_u64 = o.left_fits in
      let left : n.evicted_charge + n.removed_charge ≤ (n.evictions + n.removals) * end_of_u64 = o.gone_fits in
      record { entries = omega (arith, e); charge = omega (arith, f); stamps = o.stamps; entries_fit = o.entries_fit; charge_fits = o.charge_fits; gone_fits = omega (arith, few, left) }

  -- the invariant after an insert, and after one that is refused
  pub soundly_replaced : {E : K → K → Bool} (new : Cache K V) (n m : Counts) (charge : ℕ) (gone out : List (Idle K V)) → IsLawful E new → Owes new (inserted charge n) (length gone + length out) (charges gone + charges out) → m ≡ replaced gone out charge n
      → IsSoundlyCounted E new m
  soundly_replaced new n m charge gone out lawful o is = record { lawful = lawful; adds_up = subst (AddUp new) (sym is) (replaced_adds_up new n charge gone out o) }

  pub soundly_refused : {E : K → K → Bool} (old new : Cache K V) (n m : Counts) → IsSoundlyCounted E old n → new ≡ old → m ≡ one_refusal n → IsSoundlyCounted E new m
  soundly_refused {E} old new n m sound same is =
      let a = with_others old n n.hits n.misses n.waits (one_more n.refusals) n.makings n.failures sound.adds_up in
      subst (λ c. IsSoundlyCounted E c m) (sym same) record { lawful = sound.lawful; adds_up = subst (AddUp old) (sym is) a }
