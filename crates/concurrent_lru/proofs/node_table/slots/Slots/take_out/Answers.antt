use Rattle.std.proofs.Common.{None, refl, sym, ap, ◌∙◌, subst}
use Rattle.concurrent_lru.specs.Cells.{cell_at, AreApart}
use Rattle.concurrent_lru.proofs.Memory.CellSlots.{put_same, put_other}
use Rattle.concurrent_lru.proofs.Nodes.PointersTied.{tied_put}
use Rattle.concurrent_lru.proofs.node_table.slots.Slots.take_out.Goals as goal

pub returns-clause-tied : goal.returns-clause-tied
returns-clause-tied g c =
    let s = c.args.self.now in
    tied_put s _ c.args.slot None None c.requires.tied c.remove-at.ensures.updates (ap (λ m. m.cells) c.apart.ensures.same ∙ c.take-node.ensures.cells) refl (λ place e. cc) (subst (λ m. AreApart m.cells) (sym c.apart.ensures.same) c.apart.ensures.apart)

pub returns-clause-vacant : goal.returns-clause-vacant
returns-clause-vacant g c = ap (λ l. cell_at l c.args.slot) (ap (λ m. m.cells) c.apart.ensures.same ∙ c.take-node.ensures.cells) ∙ put_same c.args.slot None c.args.self.now.memory.cells

pub returns-clause-others : goal.returns-clause-others
returns-clause-others g c = λ k ne. ap (λ l. cell_at l k) (ap (λ m. m.cells) c.apart.ensures.same ∙ c.take-node.ensures.cells) ∙ put_other c.args.slot k None c.args.self.now.memory.cells ne
