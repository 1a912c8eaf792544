use Rattle.std.proofs.Common.{rules, ◌≡◌, None, Some, sym, ap, ◌∙◌, subst, length}
use Rattle.concurrent_lru.specs.ReadyEntries.{entry_of_ref, ready_in}
use Rattle.concurrent_lru.proofs.Entries.ReadyByPlace.{passed_over, shown_first}
use Rattle.concurrent_lru.proofs.lru_core.entries.EntriesIterator.next.Goals as goal

pub returns-in-Some-clause-steps : goal.returns-in-Some-clause-steps
returns-in-Some-clause-steps g c =
    let at = c.loop-self.self-inside in
    let here = subst (λ p. ready_in at.table.now p ≡ Some (entry_of_ref c.in-Some.entry)) c.at-place.ensures c.in-Some.ensures in
    sym c.loop-self.invariant.left ∙ shown_first at.table.now at.next at.end (entry_of_ref c.in-Some.entry) c.loop-self-test.true here

pub returns-in-Some-clause-goes : goal.returns-in-Some-clause-goes
returns-in-Some-clause-goes g c =
    let at = c.loop-self.self-inside in
    let here = subst (λ p. ready_in at.table.now p ≡ Some (entry_of_ref c.in-Some.entry)) c.at-place.ensures c.in-Some.ensures in
    let shorter = ap length (sym c.loop-self.invariant.left ∙ shown_first at.table.now at.next at.end (entry_of_ref c.in-Some.entry) c.loop-self-test.true here) in
    search rules

pub loop-self-preserved : goal.loop-self-preserved
loop-self-preserved g c =
    let at = c.loop-self.self-inside in
    let passed = passed_over at.table.now at.next at.end c.loop-self-test.true (subst (λ p. ready_in at.table.now p ≡ None) c.at-place.ensures c.in_default.ensures) in
    record { left = passed ∙ c.loop-self.invariant.left; end = c.loop-self.invariant.end }
