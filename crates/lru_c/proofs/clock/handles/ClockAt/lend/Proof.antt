use mathlib.Core.Path.{refl}
use contract.Running.{tables, tables_of}
use denote.Triple.Spec.{triple_of}
use denote.Triple.Table.{entered}
use Rattle.lru_c.specs.ClockPointers.{clock_row}
use Rattle.lru_c.proofs.Lent.{meets}
use Rattle.lru_c.proofs.ClockForms.{clock_handle}
use Rattle.lru_c.specs.contracts.clock.handles.ClockAt.lend as F
use Rattle.lru_c.specs.contracts.clock.handles.ClockAt.lend.Key.{name as #self}
use Rattle.lru_c.proofs.clock.handles.ClockAt.lend.Statement as stated
use Rattle.lru_c.proofs.clock.handles.ClockAt.lend.Code as code

pub lend_spec : {M : Type 1} → stated.statement M
unfolding tables_of
lend_spec 𝓤 𝓛 𝓜 𝓡 wired =
    let 𝓣 = tables_of 𝓤 𝓛.H 𝓜 (tables 𝓤 𝓛.H 𝓜 𝓡 𝓡.env) in
    entered 𝓤 𝓛.H (triple_of 𝓛 F.signature (F.spec 𝓛 𝓜.mem 𝓡.returns)) 𝓣.C 𝓣.Λ #self code.function (code.unfolded 𝓤 𝓛.H 𝓜 𝓡 wired) (meets clock_row clock_handle refl _ _ 𝓛 𝓣)
