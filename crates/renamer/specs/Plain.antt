-- Plain renamings, and what may refuse one.
use Rattle.std.specs.Prelude.{◌≡◌, ℕ, ◌+◌, ◌<◌, ◌^◌, true, List, drop, length, chars, Some}
use Rattle.rowan_green.specs.declared.utility_types.NodeOrToken.TheVariants.{Token}
use Rattle.rowan.specs.Place.{term_by, start_by}
use Rattle.rustc_lexer.specs.Tokens.{first_lexeme}
use Rattle.parser_input.specs.Lexed.{lexed}
use Rattle.parser_input.specs.Stored.{offset}
use Rattle.plain_names.specs.LeafNames.{texts}
use Rattle.plain_names.specs.TokenNames.{name_lexeme}
use Rattle.syntax_tree.specs.Element.{Way}
use Rattle.syntax_editor.specs.declared.error.RecordError.TheVariants as records
use Rattle.rust_document.specs.Renames.{is_plain_name}
use Rattle.rust_document.specs.Step.{MAX_TEXT, State, present}
use Rattle.rust_document.specs.declared.error.CommitError.TheVariants as commits
use Rattle.rust_document.specs.declared.error.PayloadError.TheVariants as payloads
use Rattle.renamer.specs.Renamed.{identifier}
use Rattle.renamer.specs.declared.RenameError.{RenameError}
use Rattle.renamer.specs.declared.RenameError.TheVariants.{NoMemory, NoToken, NotRecorded, Refused}

-- The leaf at an up-path begins where an identifier token with the name begins.
pub record IsToken (d : State) (name : List ℕ) (up : Way) : Type 0 where
  pub number : ℕ
  pub starts : start_by (present d) up ≡ offset (lexed d.edition (chars d.text)) number
  pub raw : first_lexeme (texts (drop number (lexed d.edition (chars d.text)))) ≡ name_lexeme (chars name)

-- Both names are plain, and each identifier `old` of the tree is an identifier token: none is the prefix of a literal.
pub record IsPlain (d : State) (old new : List ℕ) : Type 0 where
  pub old_plain : is_plain_name d.edition (chars old) ≡ true
  pub new_plain : is_plain_name d.edition (chars new) ≡ true
  pub tokens : (up : Way) → term_by (present d) up ≡ Some (Token (identifier old)) → IsToken d old up

-- Out of memory, no tree number is left for the new name or for the new tree, or the new name alone is past the limit.
abbrev pub LacksRoom : ℕ → List ℕ → RenameError → Type 0
LacksRoom number new (NoToken payloads.TooLong) = MAX_TEXT < length new
LacksRoom number new (NoToken payloads.NoTreeNumber) = number ≡ 2 ^ 32
LacksRoom number new (NoToken payloads.NoMemory) = Unit {0}
LacksRoom number new (NoToken e) = ⊥
LacksRoom number new (NotRecorded records.NoMemory) = Unit {0}
LacksRoom number new (NotRecorded e) = ⊥
LacksRoom number new (Refused commits.NoTreeNumber) = number + 1 ≡ 2 ^ 32
LacksRoom number new (Refused commits.NoMemory) = Unit {0}
LacksRoom number new (Refused e) = ⊥
LacksRoom number new NoMemory = Unit {0}
