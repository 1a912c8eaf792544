-- A walk begins with a search from the home of the mark.
use Rattle.std.proofs.Common.{◌≡◌, length, refl, ap, ◌∙◌, arith}
use Rattle.concurrent_lru.specs.Probing.Cycle.{home_of}
use Rattle.concurrent_lru.specs.Probing.OpenTable.{mark_of}
use Rattle.concurrent_lru.proofs.Probing.Marks.{mark_filled}
use Rattle.concurrent_lru.proofs.Probing.Tables.Walks.{none_filled}
use Rattle.concurrent_lru.proofs.Probing.Tables.Views.{some_in, begun_mark, begun_all}
use Rattle.concurrent_lru.proofs.node_table.open_table.OpenTable.first.Goals as goal

pub returns-then-count-eq0-clause-all : goal.returns-then-count-eq0-clause-all
returns-then-count-eq0-clause-all g c k h =
    absurd (none_filled c.args.self.now k (mark_of c.args.hash) (omega (arith, ap length c.self.view_is, c.self.inside.buckets.ok)) h (mark_filled c.args.hash))

pub find_mark-requires-clause-ends : goal.find_mark-requires-clause-ends
find_mark-requires-clause-ends g c = some_in c.self.inside.buckets.items c.deref.result.now c.self.inside.len c.self.invariant c.deref.ensures.value (omega (arith, c.self.inside.buckets.ok))

pub find_mark-requires-clause-filled : goal.find_mark-requires-clause-filled
find_mark-requires-clause-filled g c = mark_filled c.args.hash

pub returns-clause-mark : goal.returns-clause-mark
returns-clause-mark g c =
    let many : c.len-count.result ≡ length c.self.inside.buckets.items = omega (arith, c.self.inside.buckets.ok) in
    let begins : c.home_of-home.result ≡ home_of (length c.self.inside.buckets.items) (mark_of c.args.hash) = c.home_of-home.ensures.home ∙ ap (λ n. home_of n (mark_of c.args.hash)) many in
    begun_mark c.self.inside.buckets.items c.deref.result.now c.args.self.now c.self.inside.len c.args.hash (mark_of c.args.hash) c.home_of-home.result c.self.invariant c.deref.ensures.value c.self.view_is refl begins
    c.find_mark.result c.find_mark.ensures

pub returns-clause-all : goal.returns-clause-all
returns-clause-all g c =
    let many : c.len-count.result ≡ length c.self.inside.buckets.items = omega (arith, c.self.inside.buckets.ok) in
    let begins : c.home_of-home.result ≡ home_of (length c.self.inside.buckets.items) (mark_of c.args.hash) = c.home_of-home.ensures.home ∙ ap (λ n. home_of n (mark_of c.args.hash)) many in
    begun_all c.self.inside.buckets.items c.deref.result.now c.args.self.now c.self.inside.len c.args.hash (mark_of c.args.hash) c.home_of-home.result c.self.invariant c.deref.ensures.value c.self.view_is refl begins
    c.find_mark.result c.find_mark.ensures (mark_filled c.args.hash)
