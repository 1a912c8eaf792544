-- Each step keeps the count.
use Rattle.std.proofs.Common.{◌≡◌, ◌≢◌, ◌<◌, ⊎_elim, ℕ, zero, suc, ◌+◌, List, [], ◌∷◌, ◌++◌, length, set, Some, true, false, true≢false, refl, sym, ap, ◌∙◌, subst, arith, length-append}
use Rattle.std.specs.Prelude.{slice_index, slice_get}
use mathlib.Core.Option.{some, some-ne-none, some-injective}
use lib.ListN.{get_elem?}
use Rattle.crossbeam_utils.specs.Register.{Turns, Forks, Merges}
use Rattle.atomic_table.proofs.Lists.{at_set, at_snoc, set_again}
use Rattle.lru_journal.specs.declared.record.Record.{Record}
use Rattle.lru_journal.specs.declared.tally.View.{View}
use Rattle.lru_journal.specs.Tallies.{receipt_count_at, once_below, AllBelow, AreExactly, all_parts, view, opening, knower, nobody, without_tally, only_tally, less_one, one_part, view_with_view, Fits, IsCounted, Appended, Checked}
use Rattle.lru_journal.proofs.Receipts.Positions.{sum_over_set, sum_over_snoc, alone, receipt_count_append, stand_append, stand_longer, get_last, stand_below, once_more, exactly}

off : false ≡ true → ⊥
off e = true≢false (sym e)

module _ {K : Type 0} where
  fits_set : (seat : ℕ) (log : List (Record K)) (views : List (View K)) (by : ℕ) (w : View K) → ((j : ℕ) (u : View K) → j ≢ by → get_elem? views j ≡ some u → Fits seat log j u) → Fits seat log by w → (j : ℕ) (u : View K) → get_elem? (set views by w) j ≡ some u → Fits seat log j u
  fits_set seat log views by w others mine j u e =
      ⊎_elim
      (λ (x : (j ≡ by) × (w ≡ u)). subst (λ (y : ℕ × View K). Fits seat log y.0 y.1) (λ i. (sym x.0 i, x.1 i)) mine)
      (λ (x : (j ≢ by) × (get_elem? views j ≡ some u)). others j u x.0 x.1)
      (at_set views by j w u e)

  pub begins : IsCounted {K = K} (0 ∷ []) (opening ∷ [])
  begins = record { seat = 0; log = []; count = refl; parts = refl; positions = λ n. refl; fits = one }
    where
      one : (by : ℕ) (v : View K) → get_elem? (opening ∷ []) by ≡ some v → Fits 0 [] by v
      one zero v e = subst (Fits 0 [] 0) (some-injective _ _ e) ((λ _. (refl, refl)), tt, (λ _. refl))
      one (suc by) v e = absurd (some-ne-none v (sym e))

  -- an accepted call: the word rises by one
  appends : (by : ℕ) (v : View K) (r : Record K) (new : List ℕ) → v.keeps ≡ true → 0 < v.parts → slice_index new 0 ≡ suc (length v.all) → Turns IsCounted by v (λ _. new) (Appended r)
  appends by v r new keeps some_part next words views h at =
      let log = h.log in
      let fits = h.fits by v at in
      let known = fits.0 keeps in
      let same : length v.all ≡ length log = ap length known.1 in
      let w = view v.keeps (v.all ++ r ∷ []) v.parts (v.receipts ++ (length v.all, r) ∷ []) in
      let log' = log ++ r ∷ [] in
      let longer : length log' ≡ suc (length log) = omega (arith, length-append log (r ∷ [])) in (
        w,
        record {
          seat = h.seat;
          log = log';
          count = omega (arith, next, same, longer);
          parts = (let s = sum_over_set (λ (u : View K). u.parts) views by v w at in omega (arith, s, h.parts));
          positions = λ n.
              let s = sum_over_set (λ (u : View K). receipt_count_at n u.receipts) views by v w at in
              let t = receipt_count_append n v.receipts ((length v.all, r) ∷ []) in
              let o = once_more n (length v.all) r in
              let a : once_below n (length v.all) ≡ once_below n (length log) = ap (once_below n) same in
              let b : once_below n (length log') ≡ once_below n (suc (length v.all)) = ap (once_below n) (longer ∙ ap suc (sym same)) in
              omega (arith, s, t, o, a, b, h.positions n);
          fits = fits_set h.seat log' views by w
              (λ j u apart e. let f = h.fits j u e in ((λ k. absurd (apart ((f.0 k).0 ∙ sym known.0))), stand_longer log (r ∷ []) u.receipts f.1, f.2)) (
                (λ _. (known.0, ap (λ l. l ++ r ∷ []) known.1)),
                stand_append log' v.receipts ((length v.all, r) ∷ []) (stand_longer log (r ∷ []) v.receipts fits.1) (subst (λ (n : ℕ). slice_get log' n ≡ Some r) (sym same) (get_last log r), tt),
                (λ none. absurd (omega (arith, some_part, none))),
              );
        },
        (refl, subst (λ (n : ℕ). AllBelow n v.receipts) (sym same) (stand_below log v.receipts fits.1)),
      )

  -- a view in two parts, which have its parts and receipts
  forks : (by : ℕ) (v left right : View K) → left.parts + right.parts ≡ v.parts → ((n : ℕ) → receipt_count_at n left.receipts + receipt_count_at n right.receipts ≡ receipt_count_at n v.receipts)
      → ((seat : ℕ) (log : List (Record K)) → Fits seat log by v → Fits seat log by left × ((j : ℕ) → Fits seat log j right)) → Forks IsCounted by v left right
  forks by v left right parts receipts fit words views h at =
      let fits = fit h.seat h.log (h.fits by v at) in
      record {
        seat = h.seat;
        log = h.log;
        count = h.count;
        parts = (let s = sum_over_set (λ (u : View K). u.parts) views by v left at in let t = sum_over_snoc (λ (u : View K). u.parts) (set views by left) right in omega (arith, s, t, h.parts, parts));
        positions = λ n. let s = sum_over_set (λ (u : View K). receipt_count_at n u.receipts) views by v left at in let t = sum_over_snoc (λ (u : View K). receipt_count_at n u.receipts) (set views by left) right in omega (arith, s, t, h.positions n, receipts n);
        fits = λ j u e. ⊎_elim
            (λ was. fits_set h.seat h.log views by left (λ i x _ e'. h.fits i x e') fits.0 j u was)
            (λ (is : right ≡ u). subst (Fits h.seat h.log j) is (fits.1 j))
            (at_snoc (set views by left) right u j e);
      }

  -- a tally's parts and receipts are given away
  pub gives : (by : ℕ) (v : View K) → Forks IsCounted by v (without_tally v) (only_tally v)
  gives by v = forks by v (without_tally v) (only_tally v) (omega arith) (λ n. omega arith)
      (λ seat log fits. ((fits.0, tt, (λ _. refl)), (λ j. ((λ k. absurd (off k)), fits.1, fits.2))))

  -- one part is cut off
  pub cuts : (by : ℕ) (v : View K) → 1 < v.parts → Forks IsCounted by v (less_one v) (one_part v)
  cuts by v more = forks by v (less_one v) (one_part v) (omega (arith, more)) (λ n. omega arith)
      (λ seat log fits. ((fits.0, fits.1, (λ none. absurd (omega (arith, more, none)))), (λ j. ((λ k. absurd (off k)), tt, (λ _. refl)))))

  both_none : (xs ys : List (ℕ × Record K)) → xs ≡ [] → ys ≡ [] → xs ++ ys ≡ []
  both_none xs ys e e' = rw (e, e') refl

  -- another pass's parts and receipts are taken in
  pub takes : (by : ℕ) (v : View K) (other : ℕ) (u : View K) → Merges IsCounted by v other u (view_with_view v u) nobody
  takes by v other u words views h at apart there =
      let w = view_with_view v u in
      let mine = h.fits by v at in
      let theirs = ⊎_elim (λ (t : (other ≡ by) × (w ≡ u)). absurd (apart t.0)) (λ (t : (other ≢ by) × (get_elem? views other ≡ some u)). h.fits other u t.1) (at_set views by other w u there) in
      record {
        seat = h.seat;
        log = h.log;
        count = h.count;
        parts = (let s = sum_over_set (λ (x : View K). x.parts) views by v w at in let t = sum_over_set (λ (x : View K). x.parts) (set views by w) other u nobody there in omega (arith, s, t, h.parts));
        positions = λ n.
            let s = sum_over_set (λ (x : View K). receipt_count_at n x.receipts) views by v w at in
            let t = sum_over_set (λ (x : View K). receipt_count_at n x.receipts) (set views by w) other u nobody there in
            let a = receipt_count_append n v.receipts u.receipts in
            omega (arith, s, t, a, h.positions n);
        fits = fits_set h.seat h.log (set views by w) other nobody
            (λ j x _ e. fits_set h.seat h.log views by w (λ i y _ e'. h.fits i y e')
            (mine.0, stand_append h.log v.receipts u.receipts mine.1 theirs.1, (λ none. both_none v.receipts u.receipts (mine.2 (omega (arith, none))) (theirs.2 (omega (arith, none)))))
            j x e)
            ((λ k. absurd (off k)), tt, (λ _. refl));
      }

  -- who keeps all records and has every part has exactly their receipts
  pub checks : (by : ℕ) (v : View K) → v.keeps ≡ true → v.parts ≡ all_parts → Turns IsCounted by v (λ x. x) Checked
  checks by v keeps whole words views h at =
      let fits = h.fits by v at in
      let known = fits.0 keeps in
      let same : set views by v ≡ views = set_again views by v at in
      let idle : (n : ℕ) (j : ℕ) (u : View K) → get_elem? views j ≡ some u → u.parts ≡ 0 → receipt_count_at n u.receipts ≡ 0 = λ n j u e none. ap (receipt_count_at n) ((h.fits j u e).2 none) in
      let once : (n : ℕ) → receipt_count_at n v.receipts ≡ once_below n (length h.log) = λ n. sym (alone (λ (u : View K). u.parts) (λ (u : View K). receipt_count_at n u.receipts) views by v (idle n) at (h.parts ∙ sym whole)) ∙ h.positions n in (
        v,
        subst (IsCounted words) (sym same) h,
        (refl, subst (λ (l : List (Record K)). AreExactly l v.receipts) (sym known.1) (exactly h.log v.receipts fits.1 once)),
      )

  -- an accepted call: the pass of all records has taken in the caller's tally, and adds its record
  pub appends_as : (by : ℕ) (records_pass tally mine now : View K) (number : ℕ) (r : Record K) (new : List ℕ) → records_pass ≡ knower records_pass.all → length records_pass.all ≡ number → mine ≡ only_tally tally → 0 < tally.parts → now ≡ view_with_view records_pass mine → new ≡ (number + 1) ∷ [] → Turns IsCounted by now (λ _. new) (Appended r)
  appends_as by records_pass tally mine now number r new knows counts is some_part took word =
      let all : now.all ≡ records_pass.all = ap (λ (v : View K). v.all) took in
      let parts : now.parts ≡ records_pass.parts + mine.parts = ap (λ (v : View K). v.parts) took in
      let theirs : mine.parts ≡ tally.parts = ap (λ (v : View K). v.parts) is in
      let size : length now.all ≡ number = ap length all ∙ counts in
      let first : slice_index new 0 ≡ number + 1 = ap (λ (ws : List ℕ). slice_index ws 0) word in
      appends by now r new (ap (λ (v : View K). v.keeps) took ∙ ap (λ (v : View K). v.keeps) knows) (omega (arith, parts, theirs, some_part)) (omega (arith, size, first))

  -- what it leaves: the pass of all records with the tally, which has the receipt besides
  pub appended_as : (records_pass tally mine now after : View K) (number : ℕ) (r : Record K) (old new : List ℕ) → records_pass ≡ knower records_pass.all → length records_pass.all ≡ number → mine ≡ only_tally tally → now ≡ view_with_view records_pass mine → Appended r now old new after
      → (after ≡ view true (records_pass.all ++ r ∷ []) tally.parts (tally.receipts ++ (number, r) ∷ [])) × AllBelow number tally.receipts
  appended_as records_pass tally mine now after number r old new knows counts is took told =
      let all : now.all ≡ records_pass.all = ap (λ (v : View K). v.all) took in
      let size : length now.all ≡ number = ap length all ∙ counts in
      let keeps : now.keeps ≡ true = ap (λ (v : View K). v.keeps) took ∙ ap (λ (v : View K). v.keeps) knows in
      let none : records_pass.parts ≡ 0 = ap (λ (v : View K). v.parts) knows in
      let theirs : mine.parts ≡ tally.parts = ap (λ (v : View K). v.parts) is in
      let sum : now.parts ≡ records_pass.parts + mine.parts = ap (λ (v : View K). v.parts) took in
      let parts : now.parts ≡ tally.parts = omega (arith, sum, none, theirs) in
      let receipts : now.receipts ≡ tally.receipts = ap (λ (v : View K). v.receipts) took ∙ ap (λ (l : List (ℕ × Record K)). l ++ mine.receipts) (ap (λ (v : View K). v.receipts) knows) ∙ ap (λ (v : View K). v.receipts) is in (
        told.0 ∙ (λ i. view (keeps i) (all i ++ r ∷ []) (parts i) (receipts i ++ (size i, r) ∷ [])),
        subst (λ (y : ℕ × List (ℕ × Record K)). AllBelow y.0 y.1) (λ i. (size i, receipts i)) told.1,
      )

  -- the pass of all records has taken in the whole tally
  pub checks_as : (by : ℕ) (all : List (Record K)) (records_pass tally mine now : View K) → records_pass ≡ knower all → mine ≡ only_tally tally → now ≡ view_with_view records_pass mine → tally.parts ≡ all_parts → Turns IsCounted by now (λ x. x) Checked
  checks_as by all records_pass tally mine now knows is took whole =
      let none : records_pass.parts ≡ 0 = ap (λ (v : View K). v.parts) knows in
      let theirs : mine.parts ≡ tally.parts = ap (λ (v : View K). v.parts) is in
      let sum : now.parts ≡ records_pass.parts + mine.parts = ap (λ (v : View K). v.parts) took in
      checks by now (ap (λ (v : View K). v.keeps) took ∙ ap (λ (v : View K). v.keeps) knows) (omega (arith, sum, none, theirs) ∙ whole)

  pub checked_as : (all : List (Record K)) (records_pass tally mine now after : View K) (old new : List ℕ) → records_pass ≡ knower all → mine ≡ only_tally tally → now ≡ view_with_view records_pass mine → Checked now old new after → AreExactly all tally.receipts
  checked_as all records_pass tally mine now after old new knows is took told =
      let records : now.all ≡ all = ap (λ (v : View K). v.all) took ∙ ap (λ (v : View K). v.all) knows in
      let receipts : now.receipts ≡ tally.receipts = ap (λ (v : View K). v.receipts) took ∙ ap (λ (l : List (ℕ × Record K)). l ++ mine.receipts) (ap (λ (v : View K). v.receipts) knows) ∙ ap (λ (v : View K). v.receipts) is in
      subst (λ (y : List (Record K) × List (ℕ × Record K)). AreExactly y.0 y.1) (λ i. (records i, receipts i)) told.1
