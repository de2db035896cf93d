-- What a tool may say of its changes.
use Rattle.std.specs.Prelude.{◌≡◌, [], ◌∷◌, All}
pub use Rattle.rowan_green.specs.Forest.{tree_text}
pub use Rattle.tree_rewrite.specs.Change.{Change, insert, replace}
pub use Rattle.syntax_tree.specs.Element.{Element}
pub use Rattle.syntax_editor.specs.Editing.{Editing, untouched, with_changes}
pub use Rattle.syntax_editor.specs.Recording.{Recorded, inserting, replacing}
pub use Rattle.rust_document.specs.CommitWithoutMessages.{HaveNoMessages}
pub use Rattle.rust_document.specs.Rewrite.{rewritten}
pub use Rattle.rust_document.specs.Step.{State, verdict, Accepted, present}

-- something is inserted, and nothing is replaced
abbrev pub IsInsert : Change → Type 0
IsInsert (insert parent index new) = Unit {0}
IsInsert (replace first more new single) = ⊥

-- one element is replaced with this one
abbrev pub IsReplacement : Element → Change → Type 0
IsReplacement e (insert parent index new) = ⊥
IsReplacement e (replace first more new single) = new ≡ e ∷ []

-- an editor that only inserts
abbrev pub OnlyInserts : Editing → Type 0
OnlyInserts e = All IsInsert e.changes

-- A document is changed by an editor's changes, and neither text has messages: the new text reads as the rewritten tree.
pub record ChangesBy (before after : State) (e : Editing) : Type 0 where
  pub accepted : verdict before e ≡ Accepted
  pub no_messages : HaveNoMessages before e
  pub edition : after.edition ≡ before.edition
  pub grammar : after.grammar ≡ before.grammar
  pub text : after.text ≡ tree_text (rewritten e)

-- the second document is the first with elements inserted: nothing is replaced or deleted
abbrev pub OnlyAdds : State → State → Type 0
OnlyAdds before after = (e : Editing) × (OnlyInserts e × ChangesBy before after e)
