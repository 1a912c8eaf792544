use Rattle.std.proofs.Common.{arith, ◌≡◌, ◌++◌, ◌∙◌, ap, refl, inl, inr, drop, length, subst}
use Rattle.concurrent_lru.specs.Cache.{HasKeyAt, LacksStamp}
use Rattle.lru_c.specs.Codes as codes
use Rattle.lru_c.specs.Told.{numbered}
use Rattle.lru_c.proofs.bytes.cache.copy_key.Goals as goal

pub returns-in_default-clause-told : goal.returns-in_default-clause-told
returns-in_default-clause-told c = inr (inr (c.bare.ensures, subst (λ s. LacksStamp c.args.state.now.cache s) c.spot.ensures c.in_default.ensures, refl))

pub returns-then-length-buffer-clause-told : goal.returns-then-length-buffer-clause-told
returns-then-length-buffer-clause-told c =
    let k = c.in-Some.key.now in
    let has = subst (λ s. HasKeyAt c.args.state.now.cache s k) c.spot.ensures c.in-Some.ensures in
    let n : c.len-length.result ≡ length k.bytes.items = omega (arith, c.len-length.ensures) in
    inr (inl (k, has, c.number.ensures ∙ ap (numbered codes.no_room) n, omega (arith, c.if-length-buffer.true, n), refl))

pub returns-clause-told : goal.returns-clause-told
returns-clause-told c =
    let k = c.in-Some.key.now in
    let has = subst (λ s. HasKeyAt c.args.state.now.cache s k) c.spot.ensures c.in-Some.ensures in
    let n : c.len-length.result ≡ length k.bytes.items = omega (arith, c.len-length.ensures) in
    let copied : c.copy_from_slice.new.self ≡ k.bytes.items = c.copy_from_slice.ensures.after ∙ c.deref.ensures.value in
    let after = ap (λ xs. xs ++ drop c.len-length.result c.args.buffer.now) copied ∙ ap (λ m. k.bytes.items ++ drop m c.args.buffer.now) n in
    inl (k, has, c.number-2.ensures ∙ ap (numbered codes.number) n, after)
