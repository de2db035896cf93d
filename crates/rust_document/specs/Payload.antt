-- What a text is as a payload: a token, or the tree of an entry, of which there is nothing to say.
use Rattle.std.specs.Prelude.{◌≡◌, ℕ, ◌^◌, nat_lt, List, [], ◌∷◌, length, chars, codes, Option, Some, None}
use Rattle.rustc_lexer.specs.Rows.{row, first_fit}
use Rattle.rowan_green.specs.Forest.{Tree}
use Rattle.rowan_green.specs.Leaf as green
use Rattle.rowan_green.specs.Term.{tree_of}
use Rattle.rowan_green.specs.declared.utility_types.NodeOrToken.TheVariants.{Token}
use Rattle.parser_input.specs.Kinds.{TOMBSTONE}
use Rattle.parser_input.specs.Lexed.{Lexed, cut}
use Rattle.parser_input.specs.Single.{single}
use Rattle.parser_input.specs.declared.edition.Edition.{Edition}
use Rattle.syntax_tree.specs.Element.{Element, element_at}
use Rattle.syntax_tree.specs.declared.error.TreeError.{TreeError}
use Rattle.syntax_tree.specs.declared.error.TreeError.TheVariants as trees
use Rattle.rust_grammar.specs.Rule.{Production}
use Rattle.ra_parser.specs.Entries.{production_of}
use Rattle.ra_parser.specs.declared.grammar.Grammar.{Grammar}
use Rattle.ra_parser.specs.declared.grammar.Grammar.TheVariants.{Profile}
use Rattle.rust_document.specs.Reading as reading
use Rattle.rust_document.specs.Reading.{of_leaves, tree_by, messages_by}
use Rattle.rust_document.specs.Seen.{in_bytes}
use Rattle.rust_document.specs.Step.{MAX_TEXT}
use Rattle.rust_document.specs.declared.payload_entry.PayloadEntry.{PayloadEntry}
use Rattle.rust_document.specs.declared.payload_entry.PayloadEntry.TheVariants as entries
use Rattle.rust_document.specs.declared.error.PayloadError.{PayloadError}
use Rattle.rust_document.specs.declared.error.PayloadError.TheVariants as refusals

-- a leaf, or a tree, or why there is none
pub data Payload : Type 0 where
  TooLong : Payload
  Message : Payload
  NotOneToken : Payload
  One : green.Leaf → Payload
  Whole : Tree → Payload

-- the leaf that the text is
abbrev pub only : Option Lexed → Payload
only None = NotOneToken
only (Some l) = One (in_bytes l.leaf)

-- what the lexer says of a text; no preface is read
unfoldable pub lexer_messages : Edition → List ℕ → List reading.Message
lexer_messages edition text = of_leaves 0 (cut edition 0 text)

-- the first case that fits
abbrev pub token_payload : Edition → List ℕ → Payload
token_payload edition text =
    first_fit
    (row (nat_lt MAX_TEXT (length text)) TooLong ∷ row (nat_lt 0 (length (lexer_messages edition (chars text)))) Message ∷ [])
    (only (single edition (chars text)))

abbrev pub entry_payload : Production → Grammar → Edition → List ℕ → Payload
entry_payload x grammar edition text =
    first_fit
    (row (nat_lt MAX_TEXT (length text)) TooLong ∷ row (nat_lt 0 (length (messages_by x grammar edition (chars text)))) Message ∷ [])
    (Whole (tree_by x grammar edition (chars text)))

-- what a text is as a payload; of a token the grammar says nothing
abbrev pub payload_in : PayloadEntry → Grammar → Edition → List ℕ → Payload
payload_in (entries.Top top) grammar edition text = entry_payload (production_of top) grammar edition text
payload_in entries.Token grammar edition text = token_payload edition text

-- what a text is as a payload by the profile
abbrev pub payload_of : PayloadEntry → Edition → List ℕ → Payload
payload_of entry edition text = payload_in entry Profile edition text

-- The tree has the number; a token is the only child of the root of a new tree.
abbrev pub IsDetached : ℕ → Payload → Element → Type 0
IsDetached number (Whole t) e = e ≡ element_at number t []
IsDetached number (One l) e = e ≡ element_at number (tree_of TOMBSTONE (Token l ∷ [])) (0 ∷ [])
IsDetached number p e = ⊥

abbrev pub IsGiven : Payload → Type 0
IsGiven (One l) = Unit {0}
IsGiven (Whole t) = Unit {0}
IsGiven p = ⊥

-- The error tells which case fits. `NoTreeNumber` comes only where none is left and the text is a payload, `NoMemory` at any
-- point.

abbrev pub RefusesPayload : ℕ → Payload → PayloadError → Type 0
RefusesPayload number p refusals.TooLong = p ≡ TooLong
RefusesPayload number p refusals.Message = p ≡ Message
RefusesPayload number p refusals.NotOneToken = p ≡ NotOneToken
RefusesPayload number p refusals.NoTreeNumber = IsGiven p × (number ≡ 2 ^ 32)
RefusesPayload number p refusals.NoMemory = Unit {0}

abbrev pub payload_message_of : PayloadError → List ℕ
payload_message_of refusals.NotOneToken = codes "not one token"
payload_message_of refusals.TooLong = codes "too long"
payload_message_of refusals.NoTreeNumber = codes "no tree number is left"
payload_message_of refusals.NoMemory = codes "out of memory"
payload_message_of refusals.Message = codes "has messages"

-- a tree that could not be made
abbrev pub of_tree_error : TreeError → PayloadError
of_tree_error trees.Spent = refusals.NoTreeNumber
of_tree_error trees.NoMemory = refusals.NoMemory
