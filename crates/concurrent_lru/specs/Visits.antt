-- What a walk over the entries of a cache calls a closure with.
use Rattle.std.specs.Prelude.{◌≡◌, ℕ, zero, suc, Bool, not, List, filter}
use Rattle.std.specs.List.{AllByRecursion, FoldsTo}
use Rattle.std.specs.Fn.{Mut, Called}
use denote.Ref.{Bor}
use Rattle.concurrent_lru.specs.Cache.{Cache, IsLawful}
use Rattle.concurrent_lru.specs.Ready.{ValuesFit}
use Rattle.concurrent_lru.specs.ReadyEntries.{ReadyEntry, ListsReady}

-- a key, a value, a charge and a number of pins, as a closure takes them
abbrev pub Visit : Type 0 → Type 0 → Type 0
Visit K V = Bor K × (Bor V × (ℕ × (ℕ × Unit {0})))

-- the entries that their keys find
abbrev pub found : {K V : Type 0} → List (ReadyEntry K V) → List (ReadyEntry K V)
found entries = filter (λ e. not e.detached) entries

module _ {K V G : Type 0} (fits : K → V → Type 0) (g : Mut G (Visit K V) (Unit {0})) where
  -- calls with values that fit their keys take the closure from p to q
  abbrev pub Reaches : G → G → Type 0
  Reaches p q = (visits : List (Visit K V)) × AllByRecursion (λ x. fits x.0.now x.1.0.now) visits × FoldsTo (λ a x b. Called g a x tt b) p visits q

  -- The closure may be called with every value that fits its key, in each state to which such calls
  -- lead. One that may be called with anything in each state is among them.
  abbrev pub CanVisit : G → Type 0
  CanVisit f = (state : G) (k : Bor K) (v : Bor V) (charge pins : ℕ) → Reaches f state → fits k.now v.now → g.pre state (k, (v, (charge, (pins, tt))))

-- a key, a value and a charge, as a predicate takes them
abbrev pub Judged : Type 0 → Type 0 → Type 0
Judged K V = Bor K × (Bor V × (ℕ × Unit {0}))

module _ {K V G : Type 0} (fits : K → V → Type 0) (g : Mut G (Judged K V) Bool) where
  -- calls with values that fit their keys take the predicate from p to q
  abbrev pub Judges : G → G → Type 0
  Judges p q = (judged : List (Judged K V)) × AllByRecursion (λ x. fits x.0.now x.1.0.now) judged × FoldsTo (λ a x b. (kept : Bool) × Called g a x kept b) p judged q

  -- The predicate may be called with every value that fits its key, in each state to which such
  -- calls lead.
  abbrev pub CanJudge : G → Type 0
  CanJudge f = (state : G) (k : Bor K) (v : Bor V) (charge : ℕ) → Judges f state → fits k.now v.now → g.pre state (k, (v, (charge, tt)))

module _ {K V G : Type 0} (g : Mut G (Visit K V) (Unit {0})) where
  -- a call with this entry took the closure from p to q
  pub record Visits (p : G) (e : ReadyEntry K V) (q : G) : Type 0 where
    pub key : Bor K
    pub value : Bor V
    pub its_key : key.now ≡ e.key
    pub its_value : value.now ≡ e.value
    pub called : Called g p (key, (value, (e.charge, (e.pins, tt)))) tt q

module _ {K V G : Type 0} (E : K → K → Bool) (fits : K → V → Type 0) (g : Mut G (Visit K V) (Unit {0})) where
  -- The closure was called with the entries of a lawful cache whose values fit their keys: with
  -- each that its key finds and that has a value, once, and with no other.
  pub record VisitsEach (p q : G) : Type 0 where
    pub cache : Cache K V
    pub lawful : IsLawful E cache
    pub kept : ValuesFit fits cache
    pub entries : List (ReadyEntry K V)
    pub listed : ListsReady cache entries
    pub visited : FoldsTo (Visits g) p (found entries) q

  -- the same for n caches, one after another
  abbrev pub VisitsShards : ℕ → G → G → Type 0
  VisitsShards zero p q = p ≡ q
  VisitsShards (suc n) p q = (mid : G) × VisitsShards n p mid × VisitsEach mid q
