-- What `{}` prints for an error.
use Rattle.std.specs.Prelude.{ℕ, List, Option, Some, codes}
use Rattle.concurrent_lru.specs.declared.refusal.Refusal.{Refusal}
use Rattle.concurrent_lru.specs.declared.refusal.Refusal.TheVariants as refusal
use Rattle.concurrent_lru.specs.declared.get_error.GetError.{GetError}
use Rattle.concurrent_lru.specs.declared.get_error.GetError.TheVariants as error

abbrev pub refusal_text : Refusal → List ℕ
refusal_text refusal.Memory = codes "no memory"
refusal_text refusal.Overflow = codes "a number is at its end"
refusal_text refusal.Stale = codes "the stamp fits no entry"
refusal_text refusal.Full = codes "the cache is full of held entries"

-- an error that `init` returned prints its own text
abbrev pub get_error_text : {X : Type 0} → (X → Option (List ℕ)) → GetError X → Option (List ℕ)
get_error_text own error.Memory = Some (refusal_text refusal.Memory)
get_error_text own error.Overflow = Some (refusal_text refusal.Overflow)
get_error_text own error.Full = Some (refusal_text refusal.Full)
get_error_text own (error.Init x) = own x

-- the same with formatting options, which pad applies to a text
abbrev pub styled_get_error_text : {X O : Type 0} → (O → List ℕ → List ℕ) → (X → O → Option (List ℕ)) → GetError X → O → Option (List ℕ)
styled_get_error_text pad own error.Memory options = Some (pad options (refusal_text refusal.Memory))
styled_get_error_text pad own error.Overflow options = Some (pad options (refusal_text refusal.Overflow))
styled_get_error_text pad own error.Full options = Some (pad options (refusal_text refusal.Full))
styled_get_error_text pad own (error.Init x) options = own x options
