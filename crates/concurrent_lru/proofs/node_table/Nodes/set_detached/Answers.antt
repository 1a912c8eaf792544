use Rattle.std.proofs.Common.{◌≡◌, ◌≤◌, refl, ap, ◌∙◌, arith, subst}
use Rattle.concurrent_lru.specs.Cells.{cell_at}
use Rattle.concurrent_lru.specs.Listing.{listing_in, spare_of}
use Rattle.concurrent_lru.specs.NodeTable.{entry_detached}
use Rattle.concurrent_lru.specs.Relinks.{Revalues}
use Rattle.concurrent_lru.specs.SlotPointers.{cells_of, with_node}
use Rattle.concurrent_lru.specs.SlotWrites.{Rewrites}
use Rattle.concurrent_lru.proofs.Nodes.Listings.{but_kept, but_none, cell_unlisted, unlisted}
use Rattle.concurrent_lru.proofs.Nodes.NodeWrites.{looked_and_wrote, looked_rewritten}
use Rattle.concurrent_lru.proofs.Nodes.SlotViews.{present, table_written}
use Rattle.concurrent_lru.proofs.Nodes.ShownChanges.{shown_rewritten}
use Rattle.concurrent_lru.proofs.node_table.Nodes.set_detached.Goals.{After-set_detached}
use Rattle.concurrent_lru.proofs.node_table.Nodes.set_detached.Goals as goal

pub unlist-requires-clause-present : goal.unlist-requires-clause-present
unlist-requires-clause-present g c = let i = c.self.inside in present i.order i.work.count c.args.self.now c.self.view_is c.place.inside.slot c.args.place c.place.view_is c.requires

pub look-pointer-requires : goal.look-pointer-requires
look-pointer-requires g c =
    let i = c.self.inside in
    unlisted i.order.slots c.unlist.new.self c.place.inside.slot c.unlist.ensures.rest c.self.invariant.linked.tied (present i.order i.work.count c.args.self.now c.self.view_is c.place.inside.slot c.args.place c.place.view_is c.requires)

-- what was unlisted was then marked
marked : (g : _) (c : After-set_detached g) → Rewrites c.unlist.new.self (with_node c.look-pointer.new.self c.look-pointer.result c.set_detached.new.self) c.place.inside.slot entry_detached
marked g c = looked_rewritten c.unlist.new.self c.look-pointer.new.self c.look-pointer.result c.lend-node.result.now c.set_detached.new.self entry_detached c.look-pointer.ensures.rest c.look-pointer.ensures.link c.lend-node.ensures.value c.set_detached.ensures

rewritten : (g : _) (c : After-set_detached g) → Rewrites c.self.inside.order.slots (with_node c.look-pointer.new.self c.look-pointer.result c.set_detached.new.self) c.place.inside.slot entry_detached
rewritten g c = subst (λ s. Revalues (cells_of s) (cells_of (with_node c.look-pointer.new.self c.look-pointer.result c.set_detached.new.self)) c.place.inside.slot entry_detached) c.unlist.ensures.rest (marked g c)

pub invariant_of-self : goal.invariant_of-self
invariant_of-self g c =
    let o = c.self.inside.order in let mid = c.unlist.new.self in let t = c.look-pointer.new.self in let u = with_node t c.look-pointer.result c.set_detached.new.self in
    let at = (goal.at.invariant_of-self g c).After-set_detached in
    let r = marked g at in (
      refl,
      tt,
      record {
        linked = table_written o u c.place.inside.slot entry_detached (ap (λ s. s.pointers) c.look-pointer.ensures.rest ∙ ap (λ s. s.pointers) c.unlist.ensures.rest) (rewritten g at) c.self.invariant.linked;
        listed = but_none u c.place.inside.slot (cell_unlisted (cell_at (cells_of u) c.place.inside.slot) r.new r.now (ap (λ e. e.detached) r.node.entry))
            (but_kept mid u c.place.inside.slot (ap (λ s. s.by_hash) c.look-pointer.ensures.rest) (λ k ne. ap listing_in (r.others k ne)) c.unlist.ensures.others);
      },
    )

pub returns : goal.returns
returns g c =
    let o = c.self.inside.order in let mid = c.unlist.new.self in let t = c.look-pointer.new.self in let u = with_node t c.look-pointer.result c.set_detached.new.self in
    let same : spare_of u ≡ spare_of mid = ap spare_of (looked_and_wrote mid t u c.look-pointer.ensures.rest refl) in
    let left : spare_of o.slots ≤ spare_of u = omega (arith, same, c.unlist.ensures.spare) in
    shown_rewritten o u _ entry_detached c.self.view_is c.place.view_is c.self.invariant.linked (ap (λ s. s.pointers) c.look-pointer.ensures.rest ∙ ap (λ s. s.pointers) c.unlist.ensures.rest) left (rewritten g (goal.at.returns g c).After-set_detached)
