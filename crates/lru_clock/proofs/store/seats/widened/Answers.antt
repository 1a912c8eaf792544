-- A wider index has twice as many words.
use Rattle.std.proofs.Common.{◌≡◌, ◌*◌, ℕ, length, ap, ◌∙◌, subst, arith}
use Rattle.std.proofs.lemmas.List.{length-replicate}
use Rattle.lru_clock.specs.Seats.{IsIndex}
use Rattle.lru_clock.proofs.Words.Homes.{wider_size}
use Rattle.lru_clock.proofs.store.seats.widened.Goals as goal

pub new-requires : goal.new-requires
new-requires g c = wider_size c.args.count c.requires.size c.if-count-lt-MOST_WORDS.true

pub copy_listed-requires-clause-room : goal.copy_listed-requires-clause-room
copy_listed-requires-clause-room g c =
    let long : length c.in_ok-words.words ≡ c.args.count * 2 = ap length c.in_ok-words.ensures ∙ length-replicate {A = ℕ} (c.args.count * 2) 0 in
    omega (arith, long, ap length c.deref.ensures.value, c.requires.holds)

pub returns-then-count-lt-MOST_WORDS-clause-wider : goal.returns-then-count-lt-MOST_WORDS-clause-wider
returns-then-count-lt-MOST_WORDS-clause-wider g c =
    let long : length c.in_ok-words.words ≡ c.args.count * 2 = ap length c.in_ok-words.ensures ∙ length-replicate {A = ℕ} (c.args.count * 2) 0 in (
      subst (λ l. IsIndex g.K.PartialEq.eq l c.copy_listed.new.words) c.deref.ensures.value c.copy_listed.ensures.index,
      omega (arith, long, c.copy_listed.ensures.long, c.requires.holds),
    )
