-- What is written for a request, and the exit status.
use Rattle.std.specs.Prelude.{◌≡◌, ℕ, ◌&&◌, List, ◌++◌, length, nat_lt, Option, Some, None, codes, if◌then◌else◌}
use Rattle.std.specs.Str.{is_utf8}
use Rattle.serde_json.specs.Data.{Data}
use Rattle.serde_json.specs.Read.{read}
use Rattle.serde_json.specs.Written.{has_float}
use Rattle.document_requests.specs.Floats.{writes_float}
use Rattle.parser_input.specs.declared.edition.Edition.{Edition}
use Rattle.ra_parser.specs.declared.grammar.Grammar.{Grammar}
use Rattle.rust_document.specs.Step.{MAX_TEXT}
use Rattle.document_requests.specs.Reply.{Reply, Refused, line, lines}
use Rattle.document_requests.specs.Request.{Request, request_of, text_in}
use Rattle.document_requests.specs.Session.{Session, Run, run}
use Rattle.document_requests.specs.declared.reply.Refusal.{Refusal}
use Rattle.document_requests.specs.declared.reply.Refusal.TheVariants as refusals
use Rattle.document_requests.specs.declared.request.Format.{Format}
use Rattle.document_requests.specs.declared.request.Format.TheVariants.{Single}

pub record Output : Type 0 where
  pub written : List ℕ
  pub status : ℕ

-- The result of a request: why it is not run; or the replies to its commands, and the text after them.
pub data Ran : Type 0 where
  Rejected : Refusal → Ran
  Completed : List Reply → List ℕ → Ran

-- one line for a request that is not run; else a line for each command, and the text
abbrev pub output_of : Ran → Output
output_of (Rejected refusal) = record { written = line (Refused refusal); status = 1 }
output_of (Completed replies text) = record { written = lines replies ++ text; status = 0 }

abbrev pub ended : Run → Ran
ended r = Completed r.replies r.after.document.text

-- a text that is opened, with the number 1 for its tree
abbrev pub first_session : Grammar → Edition → List ℕ → Session
first_session grammar edition text =
    record { document = record { edition = edition; grammar = grammar; text = text; number = 1 }; next = 2 }

abbrev pub served : Request → Ran
served r =
    if nat_lt MAX_TEXT (length r.text) then Rejected refusals.TooLong
    else ended (run r.commands (first_session r.grammar r.edition r.text))

-- a value that is a request
abbrev pub served_if_any : Option Request → Ran
served_if_any None = Rejected refusals.Request
served_if_any (Some r) = served r

-- A value that is written with a number with a point or an exponent is refused before its shape is examined. (`-0` and whole
-- numbers past 64 bits are read as floats too; they are not whole numbers, and change nothing in a member that is not read.)
abbrev pub of_value : Format → List ℕ → Data → Ran
of_value format text d = if has_float d && writes_float text then Rejected refusals.Float else served_if_any (request_of format d)

abbrev pub of_value_if_any : Format → List ℕ → Option Data → Ran
of_value_if_any format text None = Rejected refusals.Request
of_value_if_any format text (Some d) = of_value format text d

-- the result of these bytes: they are to be UTF-8, JSON, and of the shape of a request of this format
abbrev pub ran_as : Format → List ℕ → Ran
ran_as format bytes = if is_utf8 bytes then of_value_if_any format bytes (read bytes) else Rejected refusals.Request

-- the result of bytes that are one request, read by the profile
abbrev pub ran : List ℕ → Ran
ran bytes = ran_as Single bytes

-- These bytes are no JSON, or name the profile in a member.
abbrev pub NamesProfile : List ℕ → Type 0
NamesProfile bytes = (d : Data) → read bytes ≡ Some d → text_in (codes "grammar") d ≡ Some (codes "profile")

-- what is written for these bytes
abbrev pub replies : List ℕ → Output
replies bytes = output_of (ran bytes)
