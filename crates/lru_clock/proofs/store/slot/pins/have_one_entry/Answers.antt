use Rattle.std.proofs.Common.{◌≡◌, Some, ap, sym, subst, ◌∙◌}
use Rattle.lru_clock.specs.History.{entry}
use Rattle.lru_clock.specs.Arrivals.{Arrives}
use Rattle.lru_clock.proofs.store.slot.pins.have_one_entry.Goals as goal

-- One arrival is of one entry.
pub returns-in-Entry-get : goal.returns-in-Entry-get
returns-in-Entry-get g c = λ is v has.
    let one = c.in-Entry in
    let two = c.in-Entry-get in
    let seen = sym c.get.ensures.value ∙ ap Some one.is in
    let seen_too = sym c.get-in-Entry.ensures.value ∙ ap Some two.is in
    let fit = rw one.is at c.get.ensures.fits in
    let fit_too = rw two.is at c.get-in-Entry.ensures.fits in
    let at = subst (λ w. Arrives w two.found two.age (entry two.kept.key two.kept.value)) (sym c.requires.slot) fit_too.1 in
    let same = c.is.ensures is c.args.claim.now.tag one.age two.age (entry one.kept.key one.kept.value) (entry two.kept.key two.kept.value) fit.1 at in
    let is_value : one.kept.value ≡ v = rw seen at has in
    rw seen_too (sym (ap (λ e. e.value) same) ∙ is_value)
