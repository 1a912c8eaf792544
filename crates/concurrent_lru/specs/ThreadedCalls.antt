-- The results of threaded calls: hits and errors.
use Rattle.std.specs.Prelude.{⊤}
use Rattle.std.specs.Arc.{arc_value}
use Rattle.std.specs.declared.sync.Arc.{Arc}
use Rattle.std.specs.declared.alloc.Global.{Global}
use Rattle.concurrent_lru.specs.declared.step.Begun.{Begun}
use Rattle.concurrent_lru.specs.declared.step.Begun.TheVariants as begun
use Rattle.concurrent_lru.specs.declared.get_error.GetError.{GetError}
use Rattle.concurrent_lru.specs.declared.get_error.GetError.TheVariants as error

-- P holds of the value, if the call hit
abbrev pub IfHit : {V : Type 0} → Begun (Arc V Global) → (V → Type 0) → Type 0
IfHit (begun.Make s) P = ⊤
IfHit (begun.Wait s) P = ⊤
IfHit (begun.Hit s a) P = P (arc_value a)

-- P holds of the error, if the caller's `init` returned it
abbrev pub IfInit : {E : Type 0} → GetError E → (E → Type 0) → Type 0
IfInit error.Memory P = ⊤
IfInit error.Overflow P = ⊤
IfInit error.Full P = ⊤
IfInit (error.Init e) P = P e

-- the error is the cache's own, not one that `init` returned
abbrev pub IsNotInit : {E : Type 0} → GetError E → Type 0
IsNotInit e = IfInit e (λ _. ⊥)
