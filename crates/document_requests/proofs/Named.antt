-- Names of kinds by their raw numbers, and messages by their words.
use Rattle.std.proofs.Common.{◌≡◌, ℕ, ◌<◌, ◌≤◌, length, refl, sym, ap, ◌∙◌, Option, Some, None, arith, inl, inr}
use Rattle.std.specs.Prelude.{codes, ◌++◌, IsSome, ◌↔◌}
use Rattle.std.proofs.lemmas.Option.{slice_get_past}
use Rattle.rustc_lexer.proofs.Agree.{lt_or_ge}
use Rattle.parser_input.specs.Kind.{raw_of, name_of, kind_count}
use Rattle.parser_input.specs.declared.syntax_kind.SyntaxKind.{SyntaxKind}
use Rattle.parser_input.proofs.KindTable.{slice_get-kinds}
use Rattle.parser_input.specs.KindTable.{all_kinds}
use Rattle.parser_events.specs.declared.message.Message.TheVariants as messages
use Rattle.rust_document.specs.Seen.{fault_of, words_of}
use Rattle.rust_document.specs.declared.syntax_error.SyntaxMessage.{SyntaxMessage}
use Rattle.rust_document.specs.declared.syntax_error.SyntaxMessage.TheVariants.{Parser}
use Rattle.document_requests.specs.Lines.{kind_name, name_if_any}
use Rattle.document_requests.specs.Messages.{fault_words}

-- a kind's number has its name
name-of-raw : (kind : SyntaxKind) → kind_name (raw_of kind) ≡ name_of kind
unfolding kind_name
name-of-raw kind = ap name_if_any (slice_get-kinds kind)

pub known-name : (kind : SyntaxKind) (raw : ℕ) → raw_of kind ≡ raw → name_of kind ≡ kind_name raw
known-name kind raw is = sym (ap kind_name (sym is) ∙ name-of-raw kind)

count-is : length all_kinds ≡ kind_count
unfolding all_kinds
count-is = refl

past-kinds : (raw : ℕ) → kind_count ≤ raw → codes "ERROR" ≡ kind_name raw
unfolding kind_name
past-kinds raw past = sym (ap name_if_any (slice_get_past all_kinds raw (omega (arith, count-is, past))))

-- and a number of no kind the name of an error
pub unknown-name : (raw : ℕ) (found : Option SyntaxKind) → IsSome found ↔ (raw < kind_count) → found ≡ None → codes "ERROR" ≡ kind_name raw
unknown-name raw (Some kind) known none = absurd (cc)
unknown-name raw None known none = elim (lt_or_ge raw kind_count) [ inl below ↦ absurd (let some = known.1 below in cc) | inr past ↦ past-kinds raw past ]

-- a message says what it says
pub words-are : (m : SyntaxMessage) → words_of m ≡ fault_words (fault_of m)
words-are (Parser (messages.Expected kind)) = ap (λ name. codes "expected " ++ name) (sym (name-of-raw kind))
words-are (Parser (messages.UnexpectedIn kind)) = ap (λ name. codes "unexpected token in " ++ name) (sym (name-of-raw kind))
words-are m = refl
