use Rattle.std.proofs.Common.{◌≡◌, ◌∙◌, Option, None, Some, is_some, Bool, false, List, sym, MatchOption, ℕ}
use Rattle.std.specs.List.{list_any}
use Rattle.lru_clock.specs.declared.makings.Making.{Making}
use Rattle.lru_clock.specs.Makings.{IsAt, is_of}
use Rattle.std.proofs.lemmas.Map.Keys.{any_passes_from_place}
use Rattle.lru_clock.proofs.makings.Makings.contains.Goals as goal

pub returns : goal.returns
returns g c = c.is_some.ensures ∙ found (is_of g.K.PartialEq.eq c.args.key.now) c.args.self.now c.find.result c.find.ensures
  where
    found : {K : Type 0} (test : Making K → Bool) (ms : List (Making K)) (o : Option ℕ) → MatchOption o (list_any test ms ≡ false) (IsAt test ms) → is_some o ≡ list_any test ms
    found test ms None none = sym none
    found test ms (Some i) at = sym (any_passes_from_place test ms i at.0 at.1 at.2)
