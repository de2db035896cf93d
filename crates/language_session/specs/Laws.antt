-- Laws of sessions.
use Rattle.std.specs.Prelude.{◌≡◌, ◌⊎◌, ℕ, List, [], ◌∷◌, ⊤, Option, Some, None, option_map}
use Rattle.std.specs.List.{flat_map}
use Rattle.serde_json.specs.Data.{Data}
use Rattle.session_words.specs.Bodies.{body_value}
use Rattle.session_words.specs.Messages.{Id, Message, Request, Notice, Answer, Invalid, message_in}
use Rattle.session_words.specs.Replies.{Reply, Begun, Done, Told, Refused, Published, Lost, Withdrawn}
use Rattle.language_session.specs.Sessions.{Session, begun, found}
use Rattle.language_session.specs.Steps.{Language, step}
use Rattle.language_session.specs.Runs.{run}
use Rattle.language_session.specs.Clients.{client_after}

-- ---- documents

-- The documents of a session are those that the client's messages give, one by one.
abbrev pub DocumentsAreTold : Type 0
DocumentsAreTold =
    (language : Language) (uri : List ℕ) (bodies : List (List ℕ)) → (run language begun bodies).status ≡ None
    → found uri (run language begun bodies).after.documents ≡ (client_after uri bodies).document

-- What a reply says of a document is so: the list of messages is that of its text, or its text is lost, or it is not open.
abbrev pub IsSo : Language → Session → Reply → Type 0
IsSo language s (Begun id encoding) = ⊤
IsSo language s (Done id) = ⊤
IsSo language s (Told id version text) = ⊤
IsSo language s (Refused id why) = ⊤
IsSo language s (Published uri version list) =
    (text : List ℕ) × (found uri s.documents ≡ Some (record { uri = uri; version = version; text = Some text })) × (list ≡ language s.facts text)
IsSo language s (Lost uri version) = found uri s.documents ≡ Some (record { uri = uri; version = version; text = None })
IsSo language s (Withdrawn uri) = found uri s.documents ≡ None

abbrev pub AreSo : Language → Session → List Reply → Type 0
AreSo language s [] = ⊤
AreSo language s (r ∷ rs) = IsSo language s r × AreSo language s rs

-- Whatever messages came before, what the replies to a message say of documents is so behind it.
abbrev pub PublishedIsRead : Type 0
PublishedIsRead =
    (language : Language) (bodies : List (List ℕ)) (body : List ℕ) → (run language begun bodies).status ≡ None
    → let k = step language (run language begun bodies).after body in AreSo language k.after k.replies

-- the document that a reply tells of
abbrev pub document_in : Reply → Option (List ℕ)
document_in (Begun id encoding) = None
document_in (Done id) = None
document_in (Told id version text) = None
document_in (Refused id why) = None
document_in (Published uri version list) = Some uri
document_in (Lost uri version) = Some uri
document_in (Withdrawn uri) = Some uri

-- a reply tells of the document with this name
abbrev pub Tells : List ℕ → List Reply → Type 0
Tells uri [] = ⊥
Tells uri (r ∷ rs) = (document_in r ≡ Some uri) ⊎ Tells uri rs

-- the text of the document with this name: None where it is not open, Some None where it is lost
abbrev pub text_in : List ℕ → Session → Option (Option (List ℕ))
text_in uri s = option_map (λ d. d.text) (found uri s.documents)

-- A change of a text is published.
abbrev pub EachIsPublished : Type 0
EachIsPublished =
    (language : Language) (uri : List ℕ) (bodies : List (List ℕ)) (body : List ℕ) → (run language begun bodies).status ≡ None
    → let s = (run language begun bodies).after in let k = step language s body in
    (text_in uri k.after ≡ text_in uri s) ⊎ Tells uri k.replies

-- ---- answers

-- the id that a reply answers, None where it is not known
abbrev pub answered_in : Reply → List (Option Id)
answered_in (Begun id encoding) = Some id ∷ []
answered_in (Done id) = Some id ∷ []
answered_in (Told id version text) = Some id ∷ []
answered_in (Refused id why) = id ∷ []
answered_in (Published uri version list) = []
answered_in (Lost uri version) = []
answered_in (Withdrawn uri) = []

-- the ids that a message has to be answered by
abbrev pub asked_in : Message → List (Option Id)
asked_in (Request id method params) = Some id ∷ []
asked_in (Notice method params) = []
asked_in Answer = []
asked_in (Invalid id) = id ∷ []

abbrev pub asked_in_value : Option Data → List (Option Id)
asked_in_value None = None ∷ []
asked_in_value (Some d) = asked_in (message_in d)

-- Each request is answered once, in order; so is what is no message.
abbrev pub AnsweredOnce : Type 0
AnsweredOnce =
    (language : Language) (bodies : List (List ℕ)) → (run language begun bodies).status ≡ None
    → flat_map answered_in (run language begun bodies).replies ≡ flat_map (λ body. asked_in_value (body_value body)) bodies
