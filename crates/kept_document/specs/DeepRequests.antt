-- Requests that make a text of too many levels.
use Rattle.std.specs.Prelude.{ℕ, ◌&&◌, ◌||◌, Bool, false, true, nat_le, List, [], ◌∷◌, length, Option, Some, None, option_and_then, if◌then◌else◌}
use Rattle.std.specs.Str.{is_utf8}
use Rattle.serde_json.specs.Read.{read}
use Rattle.ra_parser.specs.declared.grammar.Grammar.TheVariants.{Profile}
use Rattle.rust_document.specs.Edit.{can_edit, edited}
use Rattle.rust_document.specs.Step.{MAX_TEXT, State}
use Rattle.document_requests.specs.Output.{first_session}
use Rattle.document_requests.specs.Request.{Command, Edit, Commit, Tree, Errors, Request, request_by}
use Rattle.document_requests.specs.Session.{Session, answer}
use Rattle.text_levels.specs.Levels.{LEVELS}
use Rattle.kept_document.specs.Depth.{is_deep, is_deep_commit}
use Rattle.kept_document.specs.declared.reason.Reason.{Reason}
use Rattle.kept_document.specs.declared.reason.Reason.TheVariants.{TooDeep}

-- a reason that is the depth of a text
abbrev pub is_depth : Reason → Bool
is_depth TooDeep = true
is_depth reason = false

-- an edit within the limit of length, whose text is too deep
abbrev pub is_deep_edit : State → ℕ → ℕ → List ℕ → Bool
is_deep_edit d start stop text =
    can_edit d.text start stop && (nat_le (length (edited d.text start stop text)) MAX_TEXT && is_deep d.edition (edited d.text start stop text))

abbrev pub is_deep_command : Command → State → Bool
is_deep_command (Edit start stop text) d = is_deep_edit d start stop text
is_deep_command (Commit changes) d = is_deep_commit d changes
is_deep_command Tree d = false
is_deep_command Errors d = false

-- one of the commands, on what those before it leave
abbrev pub runs_deep : List Command → Session → Bool
runs_deep [] s = false
runs_deep (command ∷ commands) s = is_deep_command command s.document || runs_deep commands (answer command s).after

-- the text that is opened, if it is within the limit of length, or one that a command makes
unfoldable pub is_deep_run : Request → Bool
is_deep_run r =
    nat_le (length r.text) MAX_TEXT
    && (is_deep r.edition r.text || runs_deep r.commands (first_session r.grammar r.edition r.text))

abbrev pub is_deep_run_if_any : Option Request → Bool
is_deep_run_if_any None = false
is_deep_run_if_any (Some r) = is_deep_run r

-- A request makes a text of too many levels. A short one has no byte for each level.
unfoldable pub is_deep_request : List ℕ → Bool
is_deep_request bytes =
    if nat_le (length bytes) LEVELS then false
    else if is_utf8 bytes then is_deep_run_if_any (option_and_then (request_by Profile) (read bytes))
    else false
