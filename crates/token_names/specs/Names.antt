-- Which tokens have a name. Texts are lists of bytes.
use Rattle.std.specs.Prelude.{ℕ, ◌==◌, ◌&&◌, ◌||◌, not, Bool, List, chars, codes, drop, length, encode_utf8_all, if◌then◌else◌}
use Rattle.std.specs.List.{starts_with}
use Rattle.std.specs.Str.{bytes_eq}
use Rattle.unicode_normalization.specs.Forms.{nfc}
use Rattle.parser_input.specs.Kinds.{IDENT, LIFETIME_IDENT}

-- a text without a mark at its start
abbrev pub without : (mark text : List ℕ) → List ℕ
without mark text = if starts_with (λ a b. a == b) text mark then drop (length mark) text else text

-- the word of an identifier or a lifetime: what follows the quote of a lifetime and the mark of a raw one
abbrev pub word_of : List ℕ → List ℕ
word_of text = without (codes "r#") (without (codes "'") text)

-- a word in the form in which the compiler compares words
abbrev pub composed : List ℕ → List ℕ
composed word = encode_utf8_all (nfc (chars word))

-- the name of a lifetime or a label
abbrev pub is_lifetime : List ℕ → Bool
is_lifetime name = starts_with (λ a b. a == b) name (codes "'")

-- the kind of the tokens that may have a name
abbrev pub kind_of_name : List ℕ → ℕ
kind_of_name name = if is_lifetime name then LIFETIME_IDENT else IDENT

-- Two texts have one word, in whatever Unicode spelling.
abbrev pub is_same_word : (a b : List ℕ) → Bool
is_same_word a b = bytes_eq (composed (word_of a)) (composed (word_of b))

-- A token with this kind and text has the name.
abbrev pub has_name : (name : List ℕ) (kind : ℕ) (text : List ℕ) → Bool
has_name name kind text = (kind == kind_of_name name) && is_same_word name text

-- the words that no raw identifier and no raw lifetime has
abbrev pub is_never_raw : List ℕ → Bool
is_never_raw word =
    bytes_eq word (codes "_") || (bytes_eq word (codes "crate") || (bytes_eq word (codes "self") || (bytes_eq word (codes "super") || bytes_eq word (codes "Self"))))

-- Whether a program may give the name, as far as its own words tell. The language has `_`, `'_` and `'static`.
abbrev pub is_given : List ℕ → Bool
is_given name =
    let text = without (codes "'") name in
    if starts_with (λ a b. a == b) text (codes "r#") then not (is_never_raw (drop (length (codes "r#")) text))
    else (not (bytes_eq text (codes "_")) && not (bytes_eq name (codes "'static")))
