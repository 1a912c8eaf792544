use contract.Running.{tables, tables_of}
use denote.Triple.Spec.{triple_of}
use denote.Triple.Table.{entered}
use Rattle.lru_c.proofs.Moved.{moved}
use Rattle.lru_c.proofs.ClockForms.{reader_handle, reader_pointer}
use Rattle.lru_c.specs.contracts.clock.handles.ReaderAt.into_parts as F
use Rattle.lru_c.specs.contracts.clock.handles.ReaderAt.into_parts.Key.{name as #self}
use Rattle.lru_c.proofs.clock.handles.ReaderAt.into_parts.Statement as stated
use Rattle.lru_c.proofs.clock.handles.ReaderAt.into_parts.Code as code

pub into_parts_spec : {M : Type 1} → stated.statement M
unfolding tables_of
into_parts_spec 𝓤 𝓛 𝓜 𝓡 wired =
    let 𝓣 = tables_of 𝓤 𝓛.H 𝓜 (tables 𝓤 𝓛.H 𝓜 𝓡 𝓡.env) in
    entered 𝓤 𝓛.H (triple_of 𝓛 F.signature (F.spec 𝓛 𝓜.mem 𝓡.returns)) 𝓣.C 𝓣.Λ #self code.function (code.unfolded 𝓤 𝓛.H 𝓜 𝓡 wired) (moved reader_handle reader_pointer 𝓛 𝓣)
