-- The bytes of a text are those of a `String`.
use Rattle.std.proofs.Common.{◌≡◌, ◌<◌, ◌^◌, cond, ◌&&◌, List, [], length, IsUtf8, lt-ltb}
use Rattle.std.proofs.lemmas.Str.{is_utf8-from_IsUtf8}
use Rattle.concurrent_lru.specs.Texts.{text_of}

pub text_is : (bs : List _) → IsUtf8 bs → length bs < 2 ^ 63 → text_of bs ≡ bs
text_is bs u small = λ i. cond (is_utf8-from_IsUtf8 bs u i && lt-ltb (length bs) (2 ^ 63) small i) bs []
