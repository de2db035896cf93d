-- What the messages of a client say of one document, whatever they say of others.
use Rattle.std.specs.Prelude.{ℕ, List, [], ◌∷◌, Option, Some, None, option_map, codes, if◌then◌else◌}
use Rattle.std.specs.Str.{bytes_eq}
use Rattle.serde_json.specs.Data.{Data}
use Rattle.session_words.specs.Bodies.{body_value}
use Rattle.session_words.specs.Facts.{facts_in}
use Rattle.session_words.specs.Members.{uri_of}
use Rattle.session_words.specs.Messages.{Message, Request, Notice, Answer, Invalid, message_in}
use Rattle.session_words.specs.declared.facts.Facts.{Facts}
use Rattle.language_session.specs.Sessions.{Open, begun, lost}
use Rattle.language_session.specs.Steps.{changed, opened}
use Rattle.language_session.specs.declared.session.Phase.{Phase}
use Rattle.language_session.specs.declared.session.Phase.TheVariants.{Fresh, Running, Down}

-- what a client has asked for, and a document, if it is open
pub record Client : Type 0 where
  pub phase : Phase
  pub facts : Facts
  pub document : Option Open

abbrev pub with_document : Client → Option Open → Client
with_document c d = record { phase = c.phase; facts = c.facts; document = d }

-- A message could not be read, and it may have been a change.
abbrev pub client_lost : Client → Client
client_lost c = with_document c (option_map lost c.document)

-- the document with the name that a message has becomes so, if it is this one
abbrev pub client_put : List ℕ → Client → List ℕ → Option Open → Client
client_put uri c told d = with_document c (if bytes_eq told uri then d else c.document)

abbrev pub client_opens : List ℕ → Client → Option Data → Client
client_opens uri c params = elim (uri_of params) [ None ↦ client_lost c | Some told ↦ client_put uri c told (Some (opened told params)) ]

abbrev pub client_changes : List ℕ → Client → Option Data → Client
client_changes uri c params = elim (uri_of params) [ None ↦ client_lost c | Some told ↦ client_put uri c told (option_map (changed c.facts params) c.document) ]

abbrev pub client_closes : List ℕ → Client → Option Data → Client
client_closes uri c params = elim (uri_of params) [ None ↦ client_lost c | Some told ↦ client_put uri c told None ]

abbrev pub client_running : List ℕ → Client → List ℕ → Option Data → Client
client_running uri c method params =
    if bytes_eq method (codes "textDocument/didOpen") then client_opens uri c params
    else if bytes_eq method (codes "textDocument/didChange") then client_changes uri c params
    else if bytes_eq method (codes "textDocument/didClose") then client_closes uri c params
    else c

-- a notice, which counts between `initialize` and `shutdown`
abbrev pub client_notice : Phase → List ℕ → Client → List ℕ → Option Data → Client
client_notice Fresh uri c method params = c
client_notice Running uri c method params = client_running uri c method params
client_notice Down uri c method params = c

abbrev pub client_begins : Client → Option Data → Client
client_begins c params = record { phase = Running; facts = facts_in params; document = c.document }

abbrev pub client_shuts_down : Client → Client
client_shuts_down c = record { phase = Down; facts = c.facts; document = c.document }

abbrev pub client_request : Phase → Client → List ℕ → Option Data → Client
client_request Fresh c method params = if bytes_eq method (codes "initialize") then client_begins c params else c
client_request Running c method params =
    if bytes_eq method (codes "initialize") then c
    else if bytes_eq method (codes "shutdown") then client_shuts_down c
    else c
client_request Down c method params = c

abbrev pub client_message : List ℕ → Client → Message → Client
client_message uri c (Request id method params) = client_request c.phase c method params
client_message uri c (Notice method params) = if bytes_eq method (codes "exit") then c else client_notice c.phase uri c method params
client_message uri c Answer = c
client_message uri c (Invalid id) = client_lost c

abbrev pub client_value : List ℕ → Client → Option Data → Client
client_value uri c None = client_lost c
client_value uri c (Some d) = client_message uri c (message_in d)

-- before the first message
abbrev pub client_begun : Client
client_begun = record { phase = begun.phase; facts = begun.facts; document = None }

abbrev pub client_after_from : List ℕ → Client → List (List ℕ) → Client
client_after_from uri c [] = c
client_after_from uri c (body ∷ bodies) = client_after_from uri (client_value uri c (body_value body)) bodies

-- what the client has asked for by messages with these bodies, and what they make of the document with this name
abbrev pub client_after : List ℕ → List (List ℕ) → Client
client_after uri bodies = client_after_from uri client_begun bodies
