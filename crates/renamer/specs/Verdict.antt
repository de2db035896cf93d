-- When a renaming is accepted, and what refuses it.
use Rattle.std.specs.Prelude.{◌≡◌, ℕ, ◌+◌, nat_lt, not, List, [], ◌∷◌, length}
use Rattle.rustc_lexer.specs.Rows.{row, first_fit}
use Rattle.rowan_green.specs.Forest.{Tree, tree_text}
use Rattle.rowan_green.specs.Leaf.{Leaf}
use Rattle.syntax_editor.specs.declared.error.RecordError.TheVariants as records
use Rattle.rust_document.specs.Commit.{RefusesCommit}
use Rattle.rust_document.specs.Payload.{One, RefusesPayload, token_payload}
use Rattle.rust_document.specs.Step.{Accepted, MAX_TEXT, State, TooLong, Unfaithful, Verdict, is_faithful, present}
use Rattle.renamer.specs.Renamed.{renamed_tree}
use Rattle.renamer.specs.Taken.{but_macro_names, taken_tree}
use Rattle.renamer.specs.declared.RenameError.{RenameError}
use Rattle.renamer.specs.declared.RenameError.TheVariants.{NoMemory, NoToken, NotRecorded, Refused}

-- The verdict on a new tree: its text is too long, or does not read as the tree.
abbrev pub tree_verdict : State → Tree → Verdict
tree_verdict d t =
    first_fit
    (row (nat_lt MAX_TEXT (length (tree_text t))) TooLong ∷ row (not (is_faithful d.grammar d.edition t)) Unfaithful ∷ [])
    Accepted

-- The verdict on replacing each token `old` by another one.
abbrev pub rename_verdict : State → List ℕ → Leaf → Verdict
rename_verdict d old new = tree_verdict d (renamed_tree old new (present d))

-- The new name is one token, and the text of the tree with it is short enough and reads as that tree.
pub record IsAccepted (d : State) (new : List ℕ) (tree_with : Leaf → Tree) : Type 0 where
  pub token : Leaf
  pub is : token_payload d.edition new ≡ One token
  pub accepted : tree_verdict d (tree_with token) ≡ Accepted

-- The new name is one token, and the text with it for each token `old` is short enough and reads as the renamed tree.
abbrev pub IsRenamed : State → (old new : List ℕ) → Type 0
IsRenamed d old new = IsAccepted d new (λ token. renamed_tree old token (present d))

-- The new name is one token, and the text with it for each token `old` but macro names is short enough and reads as that tree.
abbrev pub IsRenamedBut : State → (old new : List ℕ) → Type 0
IsRenamedBut d old new = IsAccepted d new (λ token. taken_tree (but_macro_names old new) token (present d))

-- The case of each error. Out of memory comes at any point; a number that is missing is that of the new name, or that of the new tree.
abbrev pub RefusesTree : State → (new : List ℕ) (tree_with : Leaf → Tree) → ℕ → RenameError → Type 0
RefusesTree d new tree_with number (NoToken e) = RefusesPayload number (token_payload d.edition new) e
RefusesTree d new tree_with number (NotRecorded records.NoMemory) = Unit {0}
RefusesTree d new tree_with number (NotRecorded e) = ⊥
RefusesTree d new tree_with number (Refused e) =
    (token : Leaf) × (token_payload d.edition new ≡ One token) × RefusesCommit (tree_verdict d (tree_with token)) (number + 1) e
RefusesTree d new tree_with number NoMemory = Unit {0}

-- The case of each error of a renaming of each token.
abbrev pub RefusesRename : State → (old new : List ℕ) → ℕ → RenameError → Type 0
RefusesRename d old new number e = RefusesTree d new (λ token. renamed_tree old token (present d)) number e

-- The case of each error of a renaming that leaves macro names.
abbrev pub RefusesRenameBut : State → (old new : List ℕ) → ℕ → RenameError → Type 0
RefusesRenameBut d old new number e = RefusesTree d new (λ token. taken_tree (but_macro_names old new) token (present d)) number e

-- the next number after an error: the new name takes one, unless it is refused
abbrev pub number_after : RenameError → ℕ → ℕ
number_after (NoToken e) number = number
number_after e number = number + 1
