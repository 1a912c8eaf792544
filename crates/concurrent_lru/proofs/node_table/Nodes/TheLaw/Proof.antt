-- A `&` to the nodes holds what a `&` to each field does. Assumes `Logic`.
use denote.RattleType.{RattleType}
use denote.Param.Laws.{Laws}
use denote.SharingLaws.{nothing_shr_laws}
use denote.Struct.Lending.{of_Lends, Lends-nothing}
use Rattle.concurrent_lru.proofs.node_table.links.Order.TheLaws as order_laws
use Rattle.concurrent_lru.proofs.work.Work.TheLaws as work_laws
use Rattle.concurrent_lru.specs.contracts.node_table.Nodes.TheInside as C
use Rattle.concurrent_lru.proofs.node_table.Nodes.TheLaw.Statement.{statement}

pub shares : (K V : RattleType) (L : Laws K) (N : Laws V) → statement K V L N
shares K V L N =
    let order = order_laws.the_field_shared K V L N in
    of_Lends (C.struct K V) (C.the_codes K.Denot V.Denot K.coded V.coded) (C.the_heap K V) (C.the_lent K V) (λ d p. nothing_shr_laws)
    (order, (work_laws.the_field_shared, tt)) (λ M 𝓤 𝓛 d p. Lends-nothing 𝓛 (C.the_heap K V d) (C.the_row K V).lives)
