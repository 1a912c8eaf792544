use Rattle.std.proofs.Common.{◌≡◌, Some, inl, refl, subst}
use Rattle.concurrent_lru.specs.ReadyEntries.{entry_of_ref, ready_at}
use Rattle.lru_c.proofs.entries.write_entry.Goals as goal

pub returns-in-Some-clause-told : goal.returns-in-Some-clause-told
returns-in-Some-clause-told g c =
    let entry = entry_of_ref c.in-Some.entry in
    let found = subst (λ s. ready_at c.args.state.now.cache s ≡ Some entry) c.spot.ensures c.in-Some.ensures in
    inl (refl, entry, found, c.of.ensures)
