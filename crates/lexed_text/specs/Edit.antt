-- An edit of a text: some of its bytes are replaced.
use Rattle.std.specs.Prelude.{ℕ, ◌+◌, ◌-◌, ◌<◌, ◌≤◌, ◌^◌, List, ◌++◌, take, drop, length}
use Rattle.std.specs.Str.{chars, IsCharBoundary}

-- the text after `put` replaced the bytes from `start` to just before `end`
abbrev pub edited : List ℕ → ℕ → ℕ → List ℕ → List ℕ
edited text start end put = take start text ++ (put ++ drop end text)

-- a range in order, within the text, that cuts no character, and a new text whose bytes a `usize` can count
pub record CanEdit (text : List ℕ) (start end put_len : ℕ) : Type 0 where
  pub in_order : start ≤ end
  pub cuts_start : IsCharBoundary text start
  pub cuts_end : IsCharBoundary text end
  pub fits : length text - (end - start) + put_len < 2 ^ 64

-- an edit in characters: those before the range, in it, put in its place, and after it
pub record Edit : Type 0 where
  pub before : List ℕ
  pub removed : List ℕ
  pub put : List ℕ
  pub after : List ℕ

abbrev pub old_text : Edit → List ℕ
old_text e = e.before ++ (e.removed ++ e.after)

abbrev pub new_text : Edit → List ℕ
new_text e = e.before ++ (e.put ++ e.after)

-- the edit of a text in bytes
abbrev pub edit_of : List ℕ → ℕ → ℕ → List ℕ → Edit
edit_of text start end put = record {
  before = chars (take start text);
  removed = chars (take (end - start) (drop start text));
  put = chars put;
  after = chars (drop end text);
}
