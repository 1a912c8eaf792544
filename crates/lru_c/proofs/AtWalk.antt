-- What the proofs of the functions of `At` have in common.
use mathlib.Core.List.{[], ◌∷◌}
use mir.Syntax.{Fn}
use mir.MapTy.{inst_fn}
use denote.Exit.{no}
use denote.RattleType.{RattleType}
use denote.Signature.{plain}
use denote.Triple.Walked.{Stays, stay_dropped}
use Rattle.std_alloc.proofs.BoxSteps.Form.{Bx, R, P, args}
use Rattle.lru_c.specs.contracts.at.At as at

-- the pointer that owns what this box owns, or nothing
abbrev pub pointer : Bx → RattleType
pointer E = at.the_row (R E) (P E) E.al.g

-- a function at the types of the box
abbrev pub at_types : Bx → Fn → Fn
at_types E function = inst_fn (args E) function

-- that a function takes its one parameter, of this type
abbrev pub takes_one : (T : RattleType) → Stays {n = 2} (plain (λ _. T) ∷ []) (no, tt)
takes_one T = (stay_dropped (plain (λ _. T)) no, tt)
