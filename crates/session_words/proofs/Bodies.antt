-- The value in some bytes.
use Rattle.std.proofs.Common.{◌≡◌, ℕ, List, Bool, true, false, refl, sym, ap, ◌∙◌, Option, Some, None}
use Rattle.std.specs.Prelude.{if◌then◌else◌}
use Rattle.std.specs.Str.{IsUtf8, is_utf8}
use Rattle.std.proofs.lemmas.Str.{IsUtf8-from_is_utf8, is_utf8-from_IsUtf8}
use Rattle.serde_json.specs.Data.{Data}
use Rattle.serde_json.specs.Read.{read}
use Rattle.session_words.specs.Bodies.{value_in}

by_test : (bytes : List ℕ) (b : Bool) → is_utf8 bytes ≡ b → ¬ (IsUtf8 bytes) → None ≡ (if b then read bytes else None)
by_test bytes true is fails = absurd (fails (IsUtf8-from_is_utf8 bytes is))
by_test bytes false is fails = refl

-- bytes that are no text
pub no_text : (bytes : List ℕ) → ¬ (IsUtf8 bytes) → None ≡ value_in bytes
no_text bytes fails = by_test bytes (is_utf8 bytes) refl fails

-- bytes that are one
pub text_read : (text bytes : List ℕ) (found : Option Data) → text ≡ bytes → IsUtf8 bytes → read text ≡ found → found ≡ value_in bytes
text_read text bytes found same utf8 is =
    sym (ap (λ b. if b then read bytes else None) (is_utf8-from_IsUtf8 bytes utf8) ∙ ap read (sym same) ∙ is)
