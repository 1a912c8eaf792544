use Rattle.std.proofs.Common.{◌+◌, ◌++◌, reverse, sym, ap, ◌∙◌, subst}
use Rattle.std.proofs.lemmas.List.{reverse-append, reverse-reverse}
use Rattle.concurrent_lru.specs.Request as ask
use Rattle.concurrent_lru.specs.Sharded.{AreLawful}
use Rattle.concurrent_lru.specs.Parts.{FirstTake}
use Rattle.concurrent_lru.proofs.SideBySide.FirstOfMany.{none_take, one_more_takes}
use Rattle.concurrent_lru.proofs.shards.Shards.set_capacity.Goals as goal

pub loop-shard-init : goal.loop-shard-init
loop-shard-init g c =
    let request = ask.set_capacity c.capacity_per_shard-share.result in
    record {
      taken = subst (λ es. FirstTake g.K.PartialEq.eq 0 c.args.self.now request (reverse es) c.args.self.now) (sym c.none-newest_first.ensures) (none_take g.K.PartialEq.eq c.args.self.now request);
      lawful = subst (AreLawful g.K.PartialEq.eq) c.self.view_is c.self.invariant.1;
    }

pub loop-shard-preserved : goal.loop-shard-preserved
loop-shard-preserved g c =
    let at = c.loop-shard in
    let more = c.set_capacity_at.result in
    let request = ask.set_capacity c.capacity_per_shard-share.result in
    let turned = ap reverse c.prepend_reversed_to-newest_first.ensures ∙ reverse-append (reverse more) at.newest_first ∙ ap (λ es. reverse at.newest_first ++ es) (reverse-reverse more) in
    record {
      taken = subst (λ es. FirstTake g.K.PartialEq.eq (at.shard + 1) c.args.self.now request es c.set_capacity_at.new.self) (sym turned)
          (one_more_takes g.K.PartialEq.eq at.shard c.args.self.now at.self c.set_capacity_at.new.self request (reverse at.newest_first) more at.invariant.taken c.set_capacity_at.ensures.step);
      lawful = c.set_capacity_at.ensures.lawful;
    }
