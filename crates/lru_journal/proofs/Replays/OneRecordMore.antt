-- A replay goes on by one record, that of a step with values.
use Rattle.std.proofs.Common.{◌≡◌, ℕ, Bool, List, [], ◌∷◌, ◌++◌, map, refl, sym, ap, ◌∙◌, subst}
use Rattle.concurrent_lru.specs.Cache.{Cache, Idle}
use Rattle.concurrent_lru.specs.Steps.{Step}
use Rattle.concurrent_lru.specs.Request as ask
use Rattle.concurrent_lru.specs.Request.{Request}
use Rattle.concurrent_lru.specs.Reply as say
use Rattle.concurrent_lru.specs.Reply.{Reply}
use Rattle.lru_journal.specs.Values.{request_by, reply_by, idle_by}
use Rattle.lru_journal.specs.Records.{Answered, record_of}
use Rattle.lru_journal.specs.Replay.{no_value, without_values, told_of, told_of_hit, Follows, Replays}
use Rattle.lru_journal.proofs.Replays.WithOtherValues.{step_by}

module _ {K : Type 0} (E : K → K → Bool) where
  pub replays_more : (old mid new : Cache K (Unit {0})) (rs : List (Answered K)) (r : Answered K) → Replays E old rs mid → Follows E mid r new → Replays E old (rs ++ r ∷ []) new
  replays_more old mid new [] r h s = (new, subst (λ (c : Cache K (Unit {0})). Follows E c r new) h s, refl)
  replays_more old mid new (q ∷ qs) r h s = (h.0, h.1, replays_more h.0 mid new qs r h.2 s)

module _ {K V : Type 0} where
  -- what is asked and told does not look at values
  hit_by : (r : Request K V) (t : ℕ) → told_of_hit (request_by (no_value {V = V}) r) t ≡ told_of_hit r t
  hit_by (ask.begin k c) t = refl
  hit_by (ask.begin_strictly k c) t = refl
  hit_by (ask.poll s) t = refl
  hit_by (ask.ready s v) t = refl
  hit_by (ask.ready_with s v c) t = refl
  hit_by (ask.ready_with_strictly s v c) t = refl
  hit_by (ask.fail s) t = refl
  hit_by (ask.get k) t = refl
  hit_by (ask.release s) t = refl
  hit_by (ask.release_and_evict s) t = refl
  hit_by (ask.repin s) t = refl
  hit_by (ask.advice_evict k) t = refl
  hit_by (ask.invalidate k) t = refl
  hit_by (ask.insert k c v) t = refl
  hit_by (ask.insert_strictly k c v) t = refl
  hit_by (ask.read k) t = refl
  hit_by ask.prune t = refl
  hit_by (ask.set_capacity c) t = refl
  hit_by ask.total t = refl

  told_by : (r : Request K V) (p : Reply K V) → told_of (request_by (no_value {V = V}) r) (reply_by no_value p) ≡ told_of r p
  told_by r (say.make t) = refl
  told_by r (say.wait t) = refl
  told_by r (say.hit t w) = hit_by r t
  told_by r say.done = refl
  told_by r say.left = refl
  told_by r (say.removed l) = refl
  told_by r say.missed = refl
  told_by r (say.sum n) = refl
  told_by r (say.inserted t) = refl
  told_by r (say.read t w) = refl
  told_by r (say.pinned w) = refl

  follows : (E : K → K → Bool) (old : Cache K V) (r : Request K V) (p : Reply K V) (out : List (Idle K V)) (new : Cache K V)
      → Step E old r p out new → Follows E (without_values old) (record_of (request_by no_value r) (told_of r p)) (without_values new)
  follows E old r p out new h = record {
    reply = reply_by no_value p;
    evicted = map (idle_by no_value) out;
    stands = step_by no_value E old r p out new h;
    told = told_by r p;
  }

  -- the records of a legal history and one more, that of the cache's next step
  pub goes_on : (E : K → K → Bool) (from : Cache K (Unit {0})) (old new : Cache K V) (rs mid all : List (Answered K)) (r : Request K V) (p : Reply K V) (out : List (Idle K V))
      → Replays E from rs (without_values old) → Step E old r p out new → mid ≡ rs → all ≡ mid ++ record_of (request_by no_value r) (told_of r p) ∷ [] → Replays E from all (without_values new)
  goes_on E from old new rs mid all r p out h s same is =
      subst (λ (l : List (Answered K)). Replays E from l (without_values new)) (sym (is ∙ ap (λ (l : List (Answered K)). l ++ record_of (request_by no_value r) (told_of r p) ∷ []) same))
      (replays_more E from (without_values old) (without_values new) rs (record_of (request_by no_value r) (told_of r p)) h (follows E old r p out new s))
