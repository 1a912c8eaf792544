-- The rule of the cell that ties tallies to the records of their twin.
use Rattle.std.specs.Prelude.{◌≡◌, ◌==◌, ◌<◌, ℕ, zero, suc, ◌+◌, ◌-◌, List, [], ◌∷◌, ◌++◌, length, Some, Result, IfOk, OnErr, slice_get, slice_index, Bool, true, false, if◌then◌else◌}
use mathlib.Core.Option.{some}
use lib.ListN.{get_elem?}
use Rattle.atomic_table.specs.Seated.{TableId}
use Rattle.concurrent_lru.specs.Request.{prune}
use Rattle.lru_journal.specs.Records.{Answered}
use Rattle.lru_journal.specs.declared.record.Told.TheVariants.{Done}
use Rattle.lru_journal.specs.declared.tally.View.{View}

-- what identifies a twin: the table of its cell, and the capacity that it began with
pub record Name : Type 0 where
  pub table : TableId
  pub capacity : ℕ

abbrev pub name : TableId → ℕ → Name
name table capacity = record { table = table; capacity = capacity }

-- the name of no twin
abbrev pub no_name : Name
no_name = record { table = record { words = 0; slots = 0; views_name = 0; atom = 0; block = 0; offset = 0; slot_names = [] }; capacity = 0 }

-- a record without a key
abbrev pub no_record : {K : Type 0} → Answered K
no_record = record { request = prune; reply = Done }

-- the number of parts of a twin
abbrev pub all_parts : ℕ
all_parts = 1000000

-- the sum of f over a list
abbrev pub sum_over : {A : Type 0} → (A → ℕ) → List A → ℕ
sum_over f [] = 0
sum_over f (x ∷ xs) = f x + sum_over f xs

-- the records of the receipts at the position n
abbrev pub receipts_at : {A : Type 0} → ℕ → List (ℕ × A) → List A
receipts_at n [] = []
receipts_at n (x ∷ xs) = if x.0 == n then x.1 ∷ receipts_at n xs else receipts_at n xs

-- the number of receipts at the position n
abbrev pub receipt_count_at : {A : Type 0} → ℕ → List (ℕ × A) → ℕ
receipt_count_at n [] = 0
receipt_count_at n (x ∷ xs) = if x.0 == n then suc (receipt_count_at n xs) else receipt_count_at n xs

-- 1 if n is below the count, and 0 otherwise
abbrev pub once_below : ℕ → ℕ → ℕ
once_below n zero = 0
once_below zero (suc count) = 1
once_below (suc n) (suc count) = once_below n count

-- the item at the position n, if there is one
abbrev pub record_at : {A : Type 0} → ℕ → List A → List A
record_at n [] = []
record_at zero (x ∷ xs) = x ∷ []
record_at (suc n) (x ∷ xs) = record_at n xs

-- each receipt has the record that is at its position among the records
abbrev pub Stand : {A : Type 0} → List A → List (ℕ × A) → Type 0
Stand log [] = Unit {0}
Stand log (x ∷ xs) = (slice_get log x.0 ≡ Some x.1) × Stand log xs

-- the position of each receipt is below the count
abbrev pub AllBelow : {A : Type 0} → ℕ → List (ℕ × A) → Type 0
AllBelow count [] = Unit {0}
AllBelow count (x ∷ xs) = (x.0 < count) × AllBelow count xs

-- the records are exactly the receipts, position by position
abbrev pub AreExactly : {A : Type 0} → List A → List (ℕ × A) → Type 0
AreExactly records receipts = (n : ℕ) → receipts_at n receipts ≡ record_at n records

-- a tally: its parts and its receipts
pub record Hand (K : Type 0) : Type 0 where
  pub parts : ℕ
  pub receipts : List (ℕ × Answered K)

abbrev pub hand : {K : Type 0} → ℕ → List (ℕ × Answered K) → Hand K
hand parts receipts = record { parts = parts; receipts = receipts }

-- a tally with one more receipt
abbrev pub hand_with_receipt : {K : Type 0} → Hand K → ℕ → Answered K → Hand K
hand_with_receipt h n r = hand h.parts (h.receipts ++ (n, r) ∷ [])

-- an accepted call added the receipt of its record, at a position after all that the tally had
pub record Receives {K : Type 0} (old : Hand K) (r : Answered K) (new : Hand K) : Type 0 where
  pub position : ℕ
  pub past : AllBelow position old.receipts
  pub gains : new ≡ hand_with_receipt old position r

-- a call and its tally: an accepted call adds the receipt of one record that is_record allows for
-- its result; a refused one leaves the tally unchanged
pub record IsTallied {K T E : Type 0} (old : Hand K) (is_record : T → Answered K → Type 0) (result : Result T E) (new : Hand K) : Type 0 where
  pub accepted : IfOk result (λ x. (r : Answered K) × is_record x r × Receives old r new)
  pub refused : OnErr result (new ≡ old)

-- the parts of two tallies added up, and the receipts of the first followed by the second's
abbrev pub hand_with_hand : {K : Type 0} → Hand K → Hand K → Hand K
hand_with_hand h k = hand (h.parts + k.parts) (h.receipts ++ k.receipts)

-- what a pass of the cell knows
abbrev pub view : {K : Type 0} → Bool → List (Answered K) → ℕ → List (ℕ × Answered K) → View K
view keeps all parts receipts = record { keeps = keeps; all = all; parts = parts; receipts = receipts }

-- the first pass: it keeps the records, and has all parts
abbrev pub opening : {K : Type 0} → View K
opening = view true [] all_parts []

-- the pass that knows all records, without a tally
abbrev pub knower : {K : Type 0} → List (Answered K) → View K
knower all = view true all 0 []

-- a pass that is used up
abbrev pub nobody : {K : Type 0} → View K
nobody = view false [] 0 []

-- a pass without its tally; the tally that it gives away
abbrev pub without_tally : {K : Type 0} → View K → View K
without_tally v = view v.keeps v.all 0 []

abbrev pub only_tally : {K : Type 0} → View K → View K
only_tally v = view false [] v.parts v.receipts

-- a tally that gave away one part; that part
abbrev pub less_one : {K : Type 0} → View K → View K
less_one v = view v.keeps v.all (v.parts - 1) v.receipts

abbrev pub one_part : {K : Type 0} → View K → View K
one_part v = view false [] 1 []

-- a pass that took in the parts and receipts of another
abbrev pub view_with_view : {K : Type 0} → View K → View K → View K
view_with_view v w = view v.keeps v.all (v.parts + w.parts) (v.receipts ++ w.receipts)

-- Only the pass at the seat may know all records. The records of the receipts are among them. A
-- pass without parts has no receipts.
abbrev pub Fits : {K : Type 0} → ℕ → List (Answered K) → ℕ → View K → Type 0
Fits seat log by v = (v.keeps ≡ true → (by ≡ seat) × (v.all ≡ log)) × Stand log v.receipts × (v.parts ≡ 0 → v.receipts ≡ [])

-- The word is the number of records. The parts of all tallies add up to the whole. The positions in
-- all tallies are the numbers below the word, each once.
pub record IsCounted {K : Type 0} (words : List ℕ) (views : List (View K)) : Type 0 where
  pub seat : ℕ
  pub log : List (Answered K)
  pub count : slice_index words 0 ≡ length log
  pub parts : sum_over (λ v. v.parts) views ≡ all_parts
  pub positions : (n : ℕ) → sum_over (λ v. receipt_count_at n v.receipts) views ≡ once_below n (length log)
  pub fits : (by : ℕ) (v : View K) → get_elem? views by ≡ some v → Fits seat log by v

-- the record is added to all records, and its receipt to the tally, after all positions there
abbrev pub Appended : {K : Type 0} → Answered K → View K → List ℕ → List ℕ → View K → Type 0
Appended r v before after w = (w ≡ view v.keeps (v.all ++ r ∷ []) v.parts (v.receipts ++ (length v.all, r) ∷ [])) × AllBelow (length v.all) v.receipts

-- the receipts of the whole tally are exactly the records
abbrev pub Checked : {K : Type 0} → View K → List ℕ → List ℕ → View K → Type 0
Checked v before after w = (w ≡ v) × AreExactly v.all v.receipts
