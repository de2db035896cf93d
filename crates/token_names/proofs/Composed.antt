-- A word of ASCII is composed already.
use Rattle.std.proofs.Common.{◌≡◌, ◌∙◌, ◌<◌, List, ℕ, ap, chars, encode_utf8_all, subst, sym}
use Rattle.std.specs.Str.{IsAscii, IsUtf8}
use Rattle.std.specs.Prelude.{All}
use Rattle.std.proofs.lemmas.Str.{chars-IsAscii, encodes-chars}
use Rattle.std.proofs.lemmas.Str.Ascii.{All-from_ascii}
use Rattle.unicode_normalization.specs.Forms.{Nfc, nfc}
use Rattle.unicode_normalization.proofs.FormsLemmas.{normalize-ascii}
use Rattle.token_names.specs.Names.{composed}

pub composed-ascii : (word : List ℕ) → IsUtf8 word → IsAscii word → composed word ≡ word
composed-ascii word u h =
    let all : All (λ c. c < 128) (chars word) = subst (λ (cs : List ℕ). All (λ c. c < 128) cs) (sym (chars-IsAscii word h)) (All-from_ascii word h) in
    ap encode_utf8_all (normalize-ascii Nfc (chars word) all) ∙ encodes-chars word u
