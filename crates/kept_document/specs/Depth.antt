-- Texts that take too many levels to be read, and the commits and renamings that would make one.
use Rattle.std.specs.Prelude.{ℕ, ◌+◌, ◌%◌, ◌^◌, ◌&&◌, ◌||◌, Bool, false, nat_lt, List, [], ◌∷◌, chars, Option, Some, None, if◌then◌else◌}
use Rattle.parser_input.specs.declared.edition.Edition.{Edition}
use Rattle.rowan_green.specs.Forest.{tree_text}
use Rattle.tree_rewrite.specs.Fits.{new_fits}
use Rattle.tree_rewrite.specs.Rewrite.{is_placeable}
use Rattle.syntax_editor.specs.Editing.{Editing, untouched}
use Rattle.syntax_editor.specs.Rewriting.{rewriting}
use Rattle.rust_document.specs.Rewrite.{rewritten}
use Rattle.rust_document.specs.Step.{State, present, root_element}
use Rattle.renamer.specs.Renamed.{renamed_text}
use Rattle.document_requests.specs.Request.{Change, Put, Delete}
use Rattle.document_requests.specs.Session.{Prepared, Ready, Stopped, prepared}
use Rattle.text_levels.specs.Levels.{LEVELS, levels}

abbrev pub is_deep : Edition → List ℕ → Bool
is_deep edition text = nat_lt LEVELS (levels edition (chars text))

-- ---- commits

-- a change puts such a text
abbrev pub is_deep_change : Edition → Change → Bool
is_deep_change edition (Put op target entry text) = is_deep edition text
is_deep_change edition (Delete target) = false

abbrev pub puts_deep : Edition → List Change → Bool
puts_deep edition [] = false
puts_deep edition (change ∷ changes) = is_deep_change edition change || puts_deep edition changes

-- the text of the tree with all recorded changes applied, if they can be
unfoldable pub text_by : Editing → Option (List ℕ)
text_by e =
    if is_placeable e.top e.changes e.mapping && new_fits (rewriting e) then Some (tree_text (rewritten e)) else None

abbrev pub text_after : Prepared → Option (List ℕ)
text_after (Ready e next) = text_by e
text_after (Stopped refusal next) = None

-- the number of the first tree that a payload gets while a commit's text is made: not that of the document's tree
abbrev pub first_number : State → ℕ
first_number d = (d.number + 1) % 2 ^ 32

-- the text that a commit of these changes would make, if none of them is refused
unfoldable pub made_text : State → List Change → Option (List ℕ)
made_text d changes = text_after (prepared changes d (untouched (root_element d)) (first_number d))

abbrev pub is_deep_if_any : Edition → Option (List ℕ) → Bool
is_deep_if_any edition None = false
is_deep_if_any edition (Some text) = is_deep edition text

-- A text that a commit puts, or the text that it would make, is too deep.
unfoldable pub is_deep_commit : State → List Change → Bool
is_deep_commit d changes = puts_deep d.edition changes || is_deep_if_any d.edition (made_text d changes)

-- ---- renamings

abbrev pub is_deep_renaming : State → (old new : List ℕ) → Bool
is_deep_renaming d old new = is_deep d.edition (renamed_text old new (present d))
