-- Each request is answered once.
use Rattle.std.proofs.Common.{◌≡◌, ℕ, Bool, true, false, List, [], ◌∷◌, ◌++◌, Option, Some, None, refl, ap, ◌∙◌}
use Rattle.std.specs.Prelude.{option_and_then, is_some, ◌||◌, codes, if◌then◌else◌}
use Rattle.std.specs.List.{flat_map}
use Rattle.std.specs.Str.{bytes_eq}
use Rattle.std.proofs.lemmas.Grind.{flat_map-append}
use Rattle.serde_json.specs.Data.{Data}
use Rattle.session_words.specs.Bodies.{body_value}
use Rattle.session_words.specs.Members.{uri_of}
use Rattle.session_words.specs.Messages.{Id, Message, Request, Notice, Answer, Invalid, message_in}
use Rattle.session_words.specs.Replies.{Lost, Published}
use Rattle.session_words.specs.declared.reply.Refusal.TheVariants as refusals
use Rattle.language_session.specs.declared.session.Phase.{Phase}
use Rattle.language_session.specs.declared.session.Phase.TheVariants.{Fresh, Running, Down}
use Rattle.language_session.specs.Sessions.{Open, Session, begun, found}
use Rattle.language_session.specs.Steps.{Language, Step, changed, changes, changes_if_open, closes, closes_if_open, ends, loss, losing, notice, notice_in, notice_running, opened, opens, put, put_changed, refusal, refusing, request_in, shuts_down, step, step_message, step_value, tells, begins}
use Rattle.language_session.specs.Runs.{run}
use Rattle.language_session.specs.Laws.{answered_in, asked_in, asked_in_value}
use Rattle.language_session.proofs.Whole.{goes-on, run-nil}

-- the ids that a step answers
abbrev answers : Step → List (Option Id)
answers k = flat_map answered_in k.replies

losses-answer : (ds : List Open) → flat_map answered_in (flat_map loss ds) ≡ []
losses-answer [] = refl
losses-answer (d ∷ ds) = flat_map-append answered_in (loss d) (flat_map loss ds) ∙ ap (λ ids. ids ++ flat_map answered_in (flat_map loss ds)) (by d.text) ∙ losses-answer ds
  where
    by : (o : Option (List ℕ)) → flat_map answered_in (elim o [ None ↦ [] | Some text ↦ Lost d.uri d.version ∷ [] ]) ≡ []
    by None = refl
    by (Some text) = refl

losing-answers : (s : Session) → answers (losing s) ≡ []
losing-answers s = losses-answer s.documents

refusing-answers : (s : Session) (id : Option Id) (why : refusals.the_data) → answers (refusing s id why) ≡ id ∷ []
refusing-answers s id why = ap (λ ids. id ∷ ids) (losses-answer s.documents)

put-answers : (l : Language) (s : Session) (u : List ℕ) (d : Open) → answers (put l s u d) ≡ []
put-answers l s u d = by d.text
  where
    by : (o : Option (List ℕ)) → flat_map answered_in (elim o [ None ↦ Lost d.uri d.version | Some text ↦ Published d.uri d.version (l s.facts text) ] ∷ []) ≡ []
    by None = refl
    by (Some text) = refl

if-answers : (b : Bool) (k m : Step) (ids : List (Option Id)) → answers k ≡ ids → answers m ≡ ids → answers (if b then k else m) ≡ ids
if-answers true k m ids f g = f
if-answers false k m ids f g = g

opens-answers : (l : Language) (s : Session) (params : Option Data) → answers (opens l s params) ≡ []
opens-answers l s params = by (uri_of params)
  where
    by : (o : Option (List ℕ)) → answers (elim o [ None ↦ losing s | Some u ↦ put l s u (opened u params) ]) ≡ []
    by None = losing-answers s
    by (Some u) = put-answers l s u (opened u params)

changed-answers : (l : Language) (s : Session) (u : List ℕ) (old new : Open) → answers (put_changed l s u old new) ≡ []
changed-answers l s u old new = if-answers (is_some old.text || is_some new.text) (put l s u new) _ [] (put-answers l s u new) refl

changes-answers : (l : Language) (s : Session) (params : Option Data) → answers (changes l s params) ≡ []
changes-answers l s params = by (uri_of params)
  where
    open-by : (u : List ℕ) (f : Option Open) → answers (changes_if_open l s u params f) ≡ []
    open-by u None = refl
    open-by u (Some d) = changed-answers l s u d (changed s.facts params d)

    by : (o : Option (List ℕ)) → answers (elim o [ None ↦ losing s | Some u ↦ changes_if_open l s u params (found u s.documents) ]) ≡ []
    by None = losing-answers s
    by (Some u) = open-by u (found u s.documents)

closes-answers : (s : Session) (params : Option Data) → answers (closes s params) ≡ []
closes-answers s params = by (uri_of params)
  where
    open-by : (u : List ℕ) (f : Option Open) → answers (closes_if_open s u f) ≡ []
    open-by u None = refl
    open-by u (Some d) = refl

    by : (o : Option (List ℕ)) → answers (elim o [ None ↦ losing s | Some u ↦ closes_if_open s u (found u s.documents) ]) ≡ []
    by None = losing-answers s
    by (Some u) = open-by u (found u s.documents)

notice-answers : (l : Language) (s : Session) (method : List ℕ) (params : Option Data) → answers (notice l s method params) ≡ []
notice-answers l s method params = if-answers (bytes_eq method (codes "exit")) (ends s) _ [] refl (by s.phase)
  where
    running : answers (notice_running l s method params) ≡ []
    running =
        if-answers (bytes_eq method (codes "textDocument/didOpen")) _ _ [] (opens-answers l s params)
        (if-answers (bytes_eq method (codes "textDocument/didChange")) _ _ [] (changes-answers l s params)
        (if-answers (bytes_eq method (codes "textDocument/didClose")) _ _ [] (closes-answers s params) refl))

    by : (p : Phase) → answers (notice_in p l s method params) ≡ []
    by Fresh = refl
    by Running = running
    by Down = refl

request-answers : (s : Session) (id : Id) (method : List ℕ) (params : Option Data) (p : Phase) → answers (request_in p s id method params) ≡ Some id ∷ []
request-answers s id method params Fresh = if-answers (bytes_eq method (codes "initialize")) (begins s id params) (refusal s id refusals.NotInitialized) (Some id ∷ []) refl refl
request-answers s id method params Running =
    if-answers (bytes_eq method (codes "initialize")) (refusal s id refusals.Initialized) _ (Some id ∷ []) refl
    (if-answers (bytes_eq method (codes "shutdown")) (shuts_down s id) _ (Some id ∷ []) refl
    (if-answers (bytes_eq method (codes "tevondimby/text")) _ (refusal s id refusals.Method) (Some id ∷ []) (told (option_and_then (λ v. found v s.documents) (uri_of params))) refl))
  where
    told : (o : Option Open) → answers (tells s id o) ≡ Some id ∷ []
    told None = refl
    told (Some d) = refl
request-answers s id method params Down = refl

message-answers : (l : Language) (s : Session) (m : Message) → answers (step_message l s m) ≡ asked_in m
message-answers l s (Request id method params) = request-answers s id method params s.phase
message-answers l s (Notice method params) = notice-answers l s method params
message-answers l s Answer = refl
message-answers l s (Invalid id) = refusing-answers s id refusals.Message

value-answers : (l : Language) (s : Session) (o : Option Data) → answers (step_value l s o) ≡ asked_in_value o
value-answers l s None = refusing-answers s None refusals.Json
value-answers l s (Some d) = message-answers l s (message_in d)

answers-run : (l : Language) (s : Session) (bodies : List (List ℕ)) → (run l s bodies).status ≡ None →
    answers (run l s bodies) ≡ flat_map (λ body. asked_in_value (body_value body)) bodies
answers-run l s [] none = ap answers (run-nil l s)
answers-run l s (b ∷ bs) none =
    let g = goes-on l s b bs none in
    let k = step l s b in
    let t = run l k.after bs in
    ap answers g.all ∙ flat_map-append answered_in k.replies t.replies
    ∙ ap (λ ids. ids ++ answers t) (value-answers l s (body_value b))
    ∙ ap (λ ids. asked_in_value (body_value b) ++ ids) (answers-run l k.after bs g.later)

pub answered-once : (l : Language) (bodies : List (List ℕ)) → (run l begun bodies).status ≡ None →
    flat_map answered_in (run l begun bodies).replies ≡ flat_map (λ body. asked_in_value (body_value body)) bodies
answered-once l bodies none = answers-run l begun bodies none
