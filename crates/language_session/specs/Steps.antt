-- What a message of the client makes of a session, and what the client is told.
use Rattle.std.specs.Prelude.{ℕ, ◌||◌, List, [], ◌∷◌, ◌++◌, length, map, nat_le, Option, Some, None, option_and_then, is_some, codes, if◌then◌else◌}
use Rattle.std.specs.Str.{bytes_eq}
use Rattle.std.specs.List.{flat_map}
use Rattle.serde_json.specs.Data.{Data, Items}
use Rattle.serde_json.specs.Find.{as_array}
use Rattle.message_frames.specs.Messages.{message}
use Rattle.session_words.specs.Bodies.{body_value}
use Rattle.session_words.specs.Changes.{MAX_TEXT, text_after_all}
use Rattle.session_words.specs.Facts.{facts_in}
use Rattle.session_words.specs.Members.{document_of, member_of, uri_of, version_of, word_of}
use Rattle.session_words.specs.Messages.{Id, Message, Request, Notice, Answer, Invalid, message_in}
use Rattle.session_words.specs.Replies.{Reply, Begun, Done, Told, Refused, Published, Lost, Withdrawn, Shown, reply_body}
use Rattle.session_words.specs.declared.facts.Facts.{Facts}
use Rattle.session_words.specs.declared.reply.Refusal.TheVariants as refusals
use Rattle.language_session.specs.Sessions.{Open, Session, found, lost, without}
use Rattle.language_session.specs.declared.session.Phase.{Phase}
use Rattle.language_session.specs.declared.session.Phase.TheVariants.{Fresh, Running, Down}

-- the session after a message, what the client is told, and the exit status if the server ends
pub record Step : Type 0 where
  pub after : Session
  pub replies : List Reply
  pub status : Option ℕ

-- the messages about a text that a language has
abbrev pub Language : Type 0
Language = Facts → List ℕ → List Shown

abbrev pub silent : Session → Step
silent s = record { after = s; replies = []; status = None }

abbrev pub telling : Session → Reply → Step
telling s r = record { after = s; replies = r ∷ []; status = None }

abbrev pub with_documents : Session → List Open → Session
with_documents s ds = record { phase = s.phase; facts = s.facts; documents = ds }

-- ---- texts

-- what is published of a document: the messages about its text, or that the text is lost
abbrev pub publication : Language → Facts → Open → Reply
publication language facts d =
    elim d.text [ None ↦ Lost d.uri d.version | Some text ↦ Published d.uri d.version (language facts text) ]

abbrev pub loss : Open → List Reply
loss d = elim d.text [ None ↦ [] | Some text ↦ Lost d.uri d.version ∷ [] ]

-- All texts are lost: a message could not be read, and it may have been a change.
abbrev pub losing : Session → Step
losing s = record { after = with_documents s (map lost s.documents); replies = flat_map loss s.documents; status = None }

abbrev pub refusing : Session → Option Id → refusals.the_data → Step
refusing s id refusal =
    record { after = (losing s).after; replies = Refused id refusal ∷ (losing s).replies; status = None }

abbrev pub if_fits : List ℕ → Option (List ℕ)
if_fits text = if nat_le (length text) MAX_TEXT then Some text else None

abbrev pub opened : List ℕ → Option Data → Open
opened uri params = record { uri = uri; version = version_of params; text = option_and_then if_fits (word_of (codes "text") (document_of params)) }

abbrev pub put : Language → Session → List ℕ → Open → Step
put language s uri d =
    record { after = with_documents s (without uri s.documents ++ d ∷ []); replies = publication language s.facts d ∷ []; status = None }

-- a document is opened; one that is open is replaced
abbrev pub opens : Language → Session → Option Data → Step
opens language s params = elim (uri_of params) [ None ↦ losing s | Some uri ↦ put language s uri (opened uri params) ]

abbrev pub text_behind : Facts → Option (List ℕ) → Option Items → Option (List ℕ)
text_behind facts text None = None
text_behind facts text (Some changes) = option_and_then if_fits (text_after_all facts.encoding text changes)

abbrev pub text_changed : Facts → Option (List ℕ) → Option Data → Option (List ℕ)
text_changed facts text params = text_behind facts text (option_and_then as_array (member_of (codes "contentChanges") params))

abbrev pub changed : Facts → Option Data → Open → Open
changed facts params d =
    record {
      uri = d.uri;
      version = version_of params;
      text = text_changed facts d.text params;
    }

-- a text that is lost and stays so is not told again
abbrev pub put_changed : Language → Session → List ℕ → Open → Open → Step
put_changed language s uri old new =
    if is_some old.text || is_some new.text then put language s uri new
    else record { after = with_documents s (without uri s.documents ++ new ∷ []); replies = []; status = None }

abbrev pub changes_if_open : Language → Session → List ℕ → Option Data → Option Open → Step
changes_if_open language s uri params None = silent s
changes_if_open language s uri params (Some d) = put_changed language s uri d (changed s.facts params d)

abbrev pub changes : Language → Session → Option Data → Step
changes language s params =
    elim (uri_of params) [ None ↦ losing s | Some uri ↦ changes_if_open language s uri params (found uri s.documents) ]

abbrev pub closes_if_open : Session → List ℕ → Option Open → Step
closes_if_open s uri None = silent s
closes_if_open s uri (Some d) =
    record { after = with_documents s (without uri s.documents); replies = Withdrawn uri ∷ []; status = None }

abbrev pub closes : Session → Option Data → Step
closes s params = elim (uri_of params) [ None ↦ losing s | Some uri ↦ closes_if_open s uri (found uri s.documents) ]

-- ---- notices

-- 0 exactly behind `shutdown`
abbrev pub exit_status : Phase → ℕ
exit_status Fresh = 1
exit_status Running = 1
exit_status Down = 0

abbrev pub ends : Session → Step
ends s = record { after = s; replies = []; status = Some (exit_status s.phase) }

abbrev pub notice_running : Language → Session → List ℕ → Option Data → Step
notice_running language s method params =
    if bytes_eq method (codes "textDocument/didOpen") then opens language s params
    else if bytes_eq method (codes "textDocument/didChange") then changes language s params
    else if bytes_eq method (codes "textDocument/didClose") then closes s params
    else silent s

abbrev pub notice_in : Phase → Language → Session → List ℕ → Option Data → Step
notice_in Fresh language s method params = silent s
notice_in Running language s method params = notice_running language s method params
notice_in Down language s method params = silent s

abbrev pub notice : Language → Session → List ℕ → Option Data → Step
notice language s method params =
    if bytes_eq method (codes "exit") then ends s else notice_in s.phase language s method params

-- ---- requests

abbrev pub refusal : Session → Id → refusals.the_data → Step
refusal s id why = telling s (Refused (Some id) why)

abbrev pub begins : Session → Id → Option Data → Step
begins s id params =
    record {
      after = record { phase = Running; facts = facts_in params; documents = s.documents };
      replies = Begun id (facts_in params).encoding ∷ [];
      status = None;
    }

abbrev pub shuts_down : Session → Id → Step
shuts_down s id =
    record { after = record { phase = Down; facts = s.facts; documents = s.documents }; replies = Done id ∷ []; status = None }

abbrev pub told : Id → Open → Reply
told id d = Told id d.version d.text

abbrev pub tells : Session → Id → Option Open → Step
tells s id None = refusal s id refusals.Document
tells s id (Some d) = telling s (told id d)

abbrev pub request_running : Session → Id → List ℕ → Option Data → Step
request_running s id method params =
    if bytes_eq method (codes "initialize") then refusal s id refusals.Initialized
    else if bytes_eq method (codes "shutdown") then shuts_down s id
    else if bytes_eq method (codes "tevondimby/text") then tells s id (option_and_then (λ uri. found uri s.documents) (uri_of params))
    else refusal s id refusals.Method

abbrev pub request_fresh : Session → Id → List ℕ → Option Data → Step
request_fresh s id method params =
    if bytes_eq method (codes "initialize") then begins s id params else refusal s id refusals.NotInitialized

abbrev pub request_in : Phase → Session → Id → List ℕ → Option Data → Step
request_in Fresh s id method params = request_fresh s id method params
request_in Running s id method params = request_running s id method params
request_in Down s id method params = refusal s id refusals.ShutDown

-- ---- messages

abbrev pub step_message : Language → Session → Message → Step
step_message language s (Request id method params) = request_in s.phase s id method params
step_message language s (Notice method params) = notice language s method params
step_message language s Answer = silent s
step_message language s (Invalid id) = refusing s id refusals.Message

abbrev pub step_value : Language → Session → Option Data → Step
step_value language s None = refusing s None refusals.Json
step_value language s (Some d) = step_message language s (message_in d)

-- what the body of a message makes of a session
abbrev pub step : Language → Session → List ℕ → Step
step language s body = step_value language s (body_value body)

-- the replies as they are written
abbrev pub written : List Reply → List ℕ
written replies = flat_map (λ r. message (reply_body r)) replies
