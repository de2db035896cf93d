-- Changes of a text, as the client tells them.
use Rattle.std.specs.Prelude.{ℕ, Bool, true, false, List, Option, Some, None, option_and_then, option_map, length, nat_le, codes, if◌then◌else◌}
use Rattle.serde_json.specs.Data.{Data, null, boolean, number, string, array, object, Items, no_items, item}
use Rattle.serde_json.specs.Find.{get, as_str}
use Rattle.line_index.specs.declared.encoding.Encoding.{Encoding}
use Rattle.line_index.specs.declared.line_col.LineCol.{LineCol}
use Rattle.text_changes.specs.Places.{offset_in}
use Rattle.text_changes.specs.Changes.{between}
use Rattle.session_words.specs.Members.{member_of, place_of, word_of}
use Rattle.session_words.specs.declared.change.TextChange as declared
use Rattle.session_words.specs.declared.change.TextChange.TheVariants as changes

-- the most bytes of a text
abbrev pub MAX_TEXT : ℕ
MAX_TEXT = 16777216

-- a new text; a text in the place of what is between two places
pub data TextChange : Type 0 where
  Whole : List ℕ → TextChange
  Part : LineCol → LineCol → List ℕ → TextChange

abbrev pub is_null : Data → Bool
is_null null = true
is_null (boolean b) = false
is_null (number n) = false
is_null (string s) = false
is_null (array ds) = false
is_null (object ms) = false

abbrev pub part_in : List ℕ → Option Data → Option TextChange
part_in text range =
    option_and_then
    (λ start. option_map (λ end. Part start end text) (place_of (member_of (codes "end") range)))
    (place_of (member_of (codes "start") range))

-- without a range it is the whole text that is told
abbrev pub change_with : List ℕ → Option Data → Option TextChange
change_with text None = Some (Whole text)
change_with text (Some range) = if is_null range then Some (Whole text) else part_in text (Some range)

abbrev pub change_in : Data → Option TextChange
change_in d = option_and_then (λ text. change_with text (get (codes "range") d)) (word_of (codes "text") (Some d))

-- The text after a change; None: it is lost. A new text ends this, if it is not too long.
abbrev pub text_after : Encoding → Option (List ℕ) → TextChange → Option (List ℕ)
text_after e held (Whole text) = if nat_le (length text) MAX_TEXT then Some text else None
text_after e None (Part start end text) = None
text_after e (Some old) (Part start end text) = between MAX_TEXT old text (offset_in e old start) (offset_in e old end)

-- the text after a change that may not be readable
abbrev pub text_behind : Encoding → Option (List ℕ) → Option TextChange → Option (List ℕ)
text_behind e held None = None
text_behind e held (Some c) = text_after e held c

-- the text after changes, each of the text that those before it made
abbrev pub text_after_all : Encoding → Option (List ℕ) → Items → Option (List ℕ)
text_after_all e held no_items = held
text_after_all e held (item d ds) = text_after_all e (text_behind e held (change_in d)) ds

-- ---- in code

abbrev pub change_of : declared.TextChange → TextChange
change_of (changes.Whole text) = Whole text.now
change_of (changes.Part change) = Part change.start change.end change.text.now
