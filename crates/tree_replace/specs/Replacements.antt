-- What a replacement of matches makes of a document.
use Rattle.std.specs.Prelude.{◌≡◌, ℕ, true, All, List, [], ◌∷◌, slice_get, Some}
use Rattle.syntax_tree.specs.Handle.{element_of}
use Rattle.syntax_tree.specs.declared.element.SyntaxElement.TheVariants.{Node}
use Rattle.tree_patterns.specs.Patterns.{Shape}
use Rattle.tree_search.specs.Search.{AreMatches, Found}
use Rattle.rust_document.specs.Step.{root_element}
use Rattle.rust_source.specs.Changes.{Change, Editing, Element, State, Accepted, replace, rewritten, tree_text, verdict}

-- The change replaces the element of one of these matches by one element.
pub record ReplacesMatch (ms : List Found) (c : Change) : Type 0 where
  pub index : ℕ
  pub found : Found
  pub is_one : slice_get ms index ≡ Some found
  pub new : Element
  pub is : c ≡ replace (element_of found.element).place.up 0 (new ∷ []) true

-- an editor that only replaces matches, each by one element
abbrev pub OnlyReplaces : List Found → Editing → Type 0
OnlyReplaces ms e = All (ReplacesMatch ms) e.changes

-- A document is changed by an editor's changes: the new text reads as the rewritten tree.
pub record IsRewritten (before after : State) (e : Editing) : Type 0 where
  pub accepted : verdict before e ≡ Accepted
  pub edition : after.edition ≡ before.edition
  pub grammar : after.grammar ≡ before.grammar
  pub text : after.text ≡ tree_text (rewritten e)

-- Matches of a pattern in the first document are replaced, and nothing else: the second reads as its tree with these replacements.
pub record AreReplaced (p : Shape) (before after : State) : Type 0 where
  pub matches : List Found
  pub found : AreMatches p (Node (root_element before) ∷ []) matches
  pub editing : Editing
  pub only : OnlyReplaces matches editing
  pub is : IsRewritten before after editing
