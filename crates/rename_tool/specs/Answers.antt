-- What a renaming makes of a document.
use Rattle.std.specs.Prelude.{◌≡◌, ℕ, List, false, true}
use Rattle.rust_source.specs.Identifiers.{IsRenamed as IsReadAsRenamed, State, has_identifier, present, renamed_text}
use Rattle.rename_tool.specs.declared.Renaming.{Renaming}
use Rattle.rename_tool.specs.declared.Renaming.TheVariants.{Done, NameIsTaken}

-- The new name was no identifier of the text, and only the identifiers `old` are replaced.
pub record IsRenamed (old new : List ℕ) (before after : State) : Type 0 where
  pub is_free : has_identifier new before ≡ false
  pub edition : after.edition ≡ before.edition
  pub grammar : after.grammar ≡ before.grammar
  pub text : after.text ≡ renamed_text old new (present before)
  pub is_read : IsReadAsRenamed before old new

-- The new name was one already, and nothing is replaced.
pub record IsTaken (new : List ℕ) (before after : State) : Type 0 where
  pub is_taken : has_identifier new before ≡ true
  pub same : after ≡ before

abbrev pub Answers : (old new : List ℕ) → State → State → Renaming → Type 0
Answers old new before after Done = IsRenamed old new before after
Answers old new before after NameIsTaken = IsTaken new before after
