-- A charge that is told with the value does what one that was known before does.
use Rattle.std.proofs.Common.{◌≡◌, ℕ, ◌+◌, ◌<◌, ◌≤◌, ◌^◌, inl, inr, Bool, false, List, [], ◌∷◌, ◌++◌, length, refl, sym, ap, ◌∙◌, subst, arith, append_assoc, length-append}
use Rattle.std.specs.FinMap.{get, insert}
use Rattle.std.proofs.lemmas.Bool.{cases_lt}
use Rattle.std.proofs.lemmas.List.Sums.{sum_by-append}
use Rattle.std.proofs.lemmas.Option.{same_Some}
use Rattle.concurrent_lru.specs.Cache.{Cache, Idle, Held, making, ready, IsFront, IsLawful, Settles, charges, sum_of}
use Rattle.concurrent_lru.specs.Steps.{with_held, Charges, ChangesPhase, Makes}
use Rattle.concurrent_lru.specs.ToldCharges.{ToldIsAsKnown}
use Rattle.concurrent_lru.proofs.Entries.NodesOfSetAndAdd.{inserted_at}
use Rattle.concurrent_lru.proofs.Entries.StepsOfEntries.{insert_over}
use Rattle.concurrent_lru.proofs.Steps.BeginOfAbsent.{with_new_entry, sum-made}
use Rattle.concurrent_lru.proofs.Steps.ChargeOfMaking.{given, sum-given}
use Rattle.concurrent_lru.proofs.Steps.LawfulAfterChange.{orderly}
use Rattle.concurrent_lru.proofs.Steps.OneFront.{tail_of, head_or}

-- a list that comes apart in two ways, where one first part is no longer than the other
split_after : {A : Type 0} (a b c d : List A) → a ++ b ≡ c ++ d → length a ≤ length c → (rest : List A) × (c ≡ a ++ rest) × (b ≡ rest ++ d)
split_after [] b c d h n = (c, refl, h)
split_after (x ∷ a) b [] d h n = absurd (omega (arith, n))
split_after (x ∷ a) b (y ∷ c) d h n =
    let r = split_after a b c d (ap tail_of h) (omega (arith, n)) in
    (r.0, ap (λ z. z ∷ c) (sym (ap (head_or x) h)) ∙ ap (λ zs. x ∷ zs) r.1, r.2)

module _ {K V : Type 0} where
  -- what settles once, and again at a greater sum, settles in one go
  joined_fronts : (low rest sum capacity : ℕ) (xs out left away last : List (Idle K V)) → low ≤ sum → rest + charges out ≡ sum → IsFront low capacity xs out left → IsFront rest capacity left away last → IsFront sum capacity xs (out ++ away) last
  joined_fronts low rest sum capacity xs out left away last up whole p q = record {
    parts = p.parts ∙ ap (λ ys. out ++ ys) q.parts ∙ sym (append_assoc out away last);
    suffices =
        let both : charges (out ++ away) ≡ charges out + charges away = sum_by-append (λ x. x.charge) out away in
        elim q.suffices [
          | inl fits ↦ inl (omega (arith, fits, whole, both))
          | inr none ↦ inr none
        ];
    shortest = λ a b is short enough. elim (cases_lt (length a) (length out)) [
      | inl less ↦ p.shortest a b is less (elim enough [
        | inl fits ↦ inl (omega (arith, fits, up))
        | inr none ↦ inr none
      ])
      | inr more ↦
          let s = split_after out left a b (sym p.parts ∙ is) more in
          let n : length a ≡ length out + length s.0 = ap length s.1 ∙ length-append out s.0 in
          let m : length (out ++ away) ≡ length out + length away = length-append out away in
          let both : charges a ≡ charges out + charges s.0 = ap charges s.1 ∙ sum_by-append (λ x. x.charge) out s.0 in
          q.shortest s.0 b s.2 (omega (arith, n, m, short)) (elim enough [
            | inl fits ↦ inl (omega (arith, fits, whole, both))
            | inr none ↦ inr none
          ])
    ];
  }

  abbrev fresh : K → ℕ → Held K V
  fresh copy charge = record { key = copy; charge = charge; pins = 1; detached = false; phase = making }

module _ {K V : Type 0} (E : K → K → Bool) (old mid new : Cache K V) (k : K) (least charge : ℕ) (v : V) (out away : List (Idle K V)) (l : IsLawful E old) where
  told : least ≤ charge → sum_of old + charge < 2 ^ 64 → Makes E old k least old.next out mid → Charges E mid old.next v charge away new
      → (made : Cache K V) × Makes E old k charge old.next (out ++ away) made × ChangesPhase E made old.next making (ready v) [] new
  told up fits m c =
      let s = old.next in
      let first = with_new_entry old m.copy least in
      let known = with_new_entry old m.copy charge in
      let settles : Settles first out mid = m.settles in
      let held : mid.held ≡ insert old.held s (fresh m.copy least) = ap (λ x. x.held) settles.others in
      let is : c.entry ≡ fresh m.copy least = same_Some _ _ (sym c.holds.at ∙ ap (λ x. get x s) held ∙ inserted_at old.held s (fresh m.copy least)) in
      let last = with_held mid s (given v charge c.entry) in
      let made = record known { idle = new.idle } in
      let a : sum_of first ≡ sum_of old + least = sum-made E old m.copy least (orderly l) in
      let b : sum_of known ≡ sum_of old + charge = sum-made E old m.copy charge (orderly l) in
      let parts : charges old.idle ≡ charges out + charges mid.idle = ap charges settles.front.parts ∙ sum_by-append (λ x. x.charge) out mid.idle in
      let w : sum_of mid ≡ sum_of (record first { idle = mid.idle }) = ap sum_of settles.others in
      let d : sum_of last + c.entry.charge ≡ sum_of mid + charge = sum-given mid s c.entry v charge c.holds.at in
      let was : c.entry.charge ≡ least = ap (λ x. x.charge) is in
      let capacity : mid.capacity ≡ old.capacity = ap (λ x. x.capacity) settles.others in
      let again : IsFront (sum_of last) old.capacity mid.idle away new.idle = subst (λ n. IsFront (sum_of last) n mid.idle away new.idle) capacity c.settles.front in
      let written : insert mid.held s (given v charge c.entry) ≡ insert (insert old.held s (fresh m.copy charge)) s (given v charge (fresh m.copy least)) =
      (λ j. insert (held j) s (given v charge (is j))) ∙ insert_over old.held s (fresh m.copy least) (given v charge (fresh m.copy least)) ∙ sym (insert_over old.held s (fresh m.copy charge) (given v charge (fresh m.copy least))) in (
        made,
        record {
          absent = m.absent;
          fits = (fits, m.fits.1);
          stamp = refl;
          copy = m.copy;
          same_key = m.same_key;
          settles = record { front = joined_fronts (sum_of first) (sum_of last) (sum_of known) old.capacity old.idle out mid.idle away new.idle (omega (arith, a, b, up)) (omega (arith, a, b, parts, w, d, was)) settles.front again; others = refl };
        },
        record {
          entry = fresh m.copy charge;
          holds = record { at = inserted_at old.held s (fresh m.copy charge); phase = refl };
          changed = c.settles.others ∙ (λ j. record { capacity = capacity j; most_pins = ap (λ x. x.most_pins) settles.others j; next = ap (λ x. x.next) settles.others j; idle = new.idle; held = written j });
          none = refl;
        },
      )

pub told_is_as_known : (K V : Type 0) (E : K → K → Bool) → ToldIsAsKnown K V E
told_is_as_known K V E old mid new k least charge s v out away l is up fits (inl m) c =
    let r = told E old mid new k least charge v out away l up fits (subst (λ t. Makes E old k least t out mid) is m) (subst (λ t. Charges E mid t v charge away new) is c) in
    (r.0, inl (subst (λ t. Makes E old k charge t (out ++ away) r.0) (sym is) r.1), subst (λ t. ChangesPhase E r.0 t making (ready v) [] new) (sym is) r.2)
told_is_as_known K V E old mid new k least charge s v out away l is up fits (inr j) c =
    let low : s < old.next = l.below_next s j.entry.key j.entry.charge (inr (j.entry, j.holds.at, refl, refl)) in
    absurd (omega (arith, low, is))
