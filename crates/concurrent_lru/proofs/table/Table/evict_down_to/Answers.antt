use Rattle.std.proofs.Common.{◌≡◌, ◌≤◌, ◌⊎◌, inl, inr, ◌++◌, [], sym, ap, ◌∙◌, reverse, subst}
use Rattle.concurrent_lru.specs.Chain.{idle_in_chain}
use Rattle.concurrent_lru.specs.Entries.{charges_of}
use Rattle.concurrent_lru.proofs.Entries.ChainsOfEvicted.{front_from_steps}
use Rattle.concurrent_lru.proofs.table.Table.evict_down_to.Goals as goal
use Rattle.concurrent_lru.proofs.table.Table.evict_down_to.Goals.{After-reverse, else-loop-self-test, then-loop-self-test+in-None}

-- at either end of the loop the idle entries are as they were in its last turn, and there is no
-- more to do
stopped : (g : _) (c : After-reverse g) → (c.loop-self.self.idle ≡ c.loop-self-test.self.idle) × ((charges_of c.loop-self.self ≤ c.args.capacity) ⊎ (c.loop-self-test.self.idle ≡ []))
stopped g c = elim c.loop-self-test.branch [
  | else-loop-self-test w ↦ (sym (ap (λ t. t.idle) w.self-is), inl (subst (λ n. n ≤ c.args.capacity) c.total.ensures w.loop-self-test.false))
  | then-loop-self-test+in-None w ↦ (w.in-None.ensures.idle.0 ∙ sym (ap (λ t. t.idle) w.self-is ∙ w.in-None.ensures.idle.1), inr (ap (λ t. t.idle) w.self-is ∙ w.in-None.ensures.idle.1))
]

pub returns-clause-front : goal.returns-clause-front
returns-clause-front g c =
    let s = stopped g c in
    let i = c.loop-self.invariant in
    rw c.reverse.ensures (front_from_steps _ (charges_of c.loop-self.self) c.args.capacity _ _ _ (i.idle ∙ ap (λ xs. reverse (idle_in_chain c.loop-self.newest_first) ++ xs) s.0) i.total s.1 i.shortest)
