use Rattle.std.proofs.Common.{◌≡◌, None, Some, ap, subst}
use Rattle.std.specs.Prelude.{IfSome, MatchOption}
use Rattle.concurrent_lru.specs.ReadyEntries.{entry_of_ref, ready_at, ready_in}
use Rattle.concurrent_lru.proofs.Entries.ReadyByPlace.{place_stamp}
use Rattle.concurrent_lru.proofs.lru_core.State.entry_in.Goals as goal

pub returns : goal.returns
returns g c =
    let t = c.self.inside.table in
    let p = c.args.place in
    let seen = c.args.self.now.cache in
    elim c.ready_at_place.result as (λ o. MatchOption o (ready_in t p ≡ None) (λ entry. ready_in t p ≡ Some (entry_of_ref entry)) → IfSome o (λ entry. ready_at seen entry.stamp ≡ Some (entry_of_ref entry))) [
      | None ↦ λ _. tt
      | Some entry ↦ λ at. subst (λ k. ready_at k entry.stamp ≡ Some (entry_of_ref entry)) (ap (λ x. x.cache) c.self.view_is) (place_stamp t p (entry_of_ref entry) at).«is»
    ] c.ready_at_place.ensures
