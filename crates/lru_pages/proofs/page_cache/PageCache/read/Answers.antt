use Rattle.std.proofs.Common.{◌≡◌, Option, Some, None, Result, Ok, Err, ap, ◌∙◌, subst}
use Rattle.std.specs.Prelude.{IfOk, IfSome}
use Rattle.std.specs.Fn.{FnOnceReturnsAt}
use Rattle.concurrent_lru.specs.declared.refusal.Refusal.{Refusal}
use Rattle.lru_pages.proofs.page_cache.PageCache.read.Goals as goal

pub read-requires : goal.read-requires
read-requires g c = record {
  callable = λ v fits p at bytes is. c.requires.callable v fits.0 fits.1 bytes (is ∙ ap (λ q. q.bytes) at);
}

module _ {T : Type 0} {P Q : T → Type 0} (f : (t : T) → P t → Q t) where
  found_as : (r : Result (Option T) Refusal) → IfOk r (λ found. IfSome found P) → IfOk r (λ found. IfSome found Q)
  found_as (Ok (Some t)) h = f t h
  found_as (Ok None) h = tt
  found_as (Err e) h = tt

pub returns-clause-page : goal.returns-clause-page
returns-clause-page g c = found_as (λ t h. (h.0, h.1.0, h.1.1, subst (λ b. FnOnceReturnsAt g.G.FnOnce c.args.visit b t) (ap (λ q. q.bytes) h.2.2) h.2.1)) c.read.result c.read.ensures.fits
