-- Plain renamings: identifiers of the present tree are replaced with identifiers, and neither the old nor the new names are
-- words that the edition gives a meaning.
use Rattle.std.specs.Prelude.{◌≡◌, ℕ, ◌==◌, ◌≤◌, Bool, true, false, ◌&&◌, List, [], ◌∷◌, length, chars, encode_utf8_all, Some, is_none}
use Rattle.std.specs.Str.{IsUtf8, all_scalars}
use Rattle.rustc_lexer.specs.Characters.{is_ident}
use Rattle.rowan_green.specs.Forest.{tree_text}
use Rattle.rowan_green.specs.declared.utility_types.NodeOrToken.TheVariants.{Token}
use Rattle.parser_input.specs.Kinds.{IDENT}
use Rattle.parser_input.specs.Keywords.{contextual_kind}
use Rattle.parser_input.specs.Leaf.{word_kind}
use Rattle.parser_input.specs.declared.edition.Edition.{Edition}
use Rattle.syntax_tree.specs.Element.{Element, term_of}
use Rattle.tree_rewrite.specs.Change.{Change, replace, has_collision}
use Rattle.syntax_editor.specs.Editing.{Editing}
use Rattle.plain_names.specs.Forests.{leaf_of}
use Rattle.plain_names.specs.Renames.{Rename, IsInTree, IsPlainRename}
use Rattle.rust_document.specs.Open.{IsOpened}
use Rattle.rust_document.specs.Reading.{tree_in}
use Rattle.rust_document.specs.Rewrite.{rewritten}
use Rattle.rust_document.specs.Step.{State, MAX_TEXT, present, root_element, verdict, Accepted}

-- an identifier that is neither `_` nor a keyword of the edition, nor a contextual keyword
abbrev pub is_plain_name : Edition → List ℕ → Bool
is_plain_name edition name = is_ident name && ((word_kind edition name == IDENT) && is_none (contextual_kind edition name))

-- The change replaces a plain identifier of the present tree with an element that is the leaf of a plain name.
pub record IsRename (d : State) (c : Change) : Type 0 where
  pub rename : Rename
  pub element : Element
  pub single : Bool
  pub is : c ≡ replace rename.up 0 (element ∷ []) single
  pub new_leaf : term_of element ≡ Some (Token (leaf_of IDENT (encode_utf8_all rename.new)))
  pub in_tree : IsInTree d.edition (chars d.text) (present d) rename
  pub plain : IsPlainRename d.edition (chars d.text) rename
  pub is_text : all_scalars rename.new ≡ true

abbrev pub AreRenames : State → List Change → Type 0
AreRenames d [] = Unit {0}
AreRenames d (c ∷ cs) = IsRename d c × AreRenames d cs

-- All changes of an editor of the present tree are renames, each of another identifier.
pub record IsPlainRenaming (d : State) (e : Editing) : Type 0 where
  pub own : e.top ≡ root_element d
  pub each : AreRenames d e.changes
  pub apart : has_collision e.changes ≡ false

-- The new text reads as exactly the rewritten tree, whitespace and comments too.
abbrev pub IsReadExactly : State → Editing → Type 0
IsReadExactly d e = tree_in d.grammar d.edition (chars (tree_text (rewritten e))) ≡ rewritten e

-- A plain renaming whose text is within the limit is accepted, whatever messages the text has.
abbrev pub PlainRenamingsAreAccepted : Type 0
PlainRenamingsAreAccepted =
    (d : State) (e : Editing) → IsUtf8 d.text → IsOpened d.text → IsPlainRenaming d e → length (tree_text (rewritten e)) ≤ MAX_TEXT →
    (verdict d e ≡ Accepted) × IsReadExactly d e
