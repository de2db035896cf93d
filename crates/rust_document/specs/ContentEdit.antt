-- An edit of a text in code, as an edit of the text's content.
use Rattle.std.specs.Prelude.{◌≡◌, ℕ, ◌≤◌, true, List, length, Option, None, Some}
use Rattle.std.specs.Str.{IsUtf8}
use Rattle.lexed_text.specs.Kept.{IsKept}
use Rattle.lexed_text.specs.declared.kept.Kept.{Kept}
use Rattle.parser_input.specs.declared.edition.Edition.{Edition}
use Rattle.rust_document.specs.Edit.{can_edit, edited}
use Rattle.rust_document.specs.KeptTokens.{content_edit, KeepsPreface, KeepsTokens}
use Rattle.rust_document.specs.declared.content_edit.TextEdit.{TextEdit}

-- the range can be edited, and the second text is the first one edited, within the limit; both are UTF-8
pub record IsTextEdit (e : TextEdit) : Type 0 where
  pub before_text : IsUtf8 e.before.now
  pub after_text : IsUtf8 e.after.now
  pub can_be : can_edit e.before.now e.range.start.0 e.range.end.0 ≡ true
  pub after_is : e.after.now ≡ edited e.before.now e.range.start.0 e.range.end.0 e.put.now
  pub fits : length e.after.now ≤ 16777216

abbrev pub LeavesPreface : TextEdit → Type 0
LeavesPreface e = KeepsPreface e.before.now e.after.now e.range.start.0

-- the counts of an edit, or none where no token is kept
abbrev pub AreCounts : Edition → (before after : List ℕ) → (start end : ℕ) → (put : List ℕ) → Option Kept → Type 0
AreCounts edition before after start end put None = KeepsTokens edition before after start → ⊥
AreCounts edition before after start end put (Some counts) =
    KeepsTokens edition before after start × IsKept (content_edit before start end put) counts
