-- What a message makes of a session is what it makes of each document.
use Rattle.std.proofs.Common.{◌≡◌, ◌⊎◌, ℕ, Bool, true, false, List, [], ◌∷◌, ◌++◌, map, Option, Some, None, inl, inr, refl, ap, sym, subst, ◌∙◌}
use Rattle.std.specs.Prelude.{⊤, option_map, option_and_then, is_some, ◌||◌, codes, if◌then◌else◌}
use Rattle.std.specs.List.{flat_map}
use Rattle.std.specs.Str.{bytes_eq}
use Rattle.std.proofs.lemmas.Bool.{cases_Bool}
use Rattle.serde_json.specs.Data.{Data}
use Rattle.session_words.specs.Bodies.{body_value}
use Rattle.session_words.specs.Members.{uri_of}
use Rattle.session_words.specs.Messages.{Id, Message, Request, Notice, Answer, Invalid, message_in}
use Rattle.session_words.specs.Replies.{Reply, Told, Refused, Published, Lost, Withdrawn}
use Rattle.session_words.specs.declared.reply.Refusal.TheVariants as refusals
use Rattle.language_session.specs.declared.session.Phase.{Phase}
use Rattle.language_session.specs.declared.session.Phase.TheVariants.{Fresh, Running, Down}
use Rattle.language_session.specs.Sessions.{Open, Session, found, lost, without}
use Rattle.language_session.specs.Steps.{Language, Step, changed, changes, changes_if_open, closes, closes_if_open, begins, ends, loss, losing, notice, notice_in, notice_running, opened, opens, publication, put, put_changed, refusal, refusing, request_in, shuts_down, silent, step, step_message, step_value, telling, tells, with_documents}
use Rattle.language_session.specs.Clients.{Client, client_begins, client_changes, client_closes, client_lost, client_message, client_notice, client_opens, client_put, client_request, client_running, client_shuts_down, client_value}
use Rattle.language_session.specs.Laws.{AreSo, IsSo, Tells, document_in, text_in}
use Rattle.language_session.proofs.Names.{Distinct, distinct-last, distinct-lost, distinct-without, eq-is, eq-same, found-here, found-last, found-later, found-lost, found-other, found-without, found-without-other}

-- a session is what a client has told of one document
pub record Knows (uri : List ℕ) (s : Session) (c : Client) : Type 0 where
  pub phase : s.phase ≡ c.phase
  pub facts : s.facts ≡ c.facts
  pub document : found uri s.documents ≡ c.document
  pub distinct : Distinct s.documents

-- a step is what the client has told, and so are its replies
pub record Follows (l : Language) (uri : List ℕ) (s : Session) (c : Client) (k : Step) : Type 0 where
  pub knows : Knows uri k.after c
  pub so : AreSo l k.after k.replies
  pub told : (text_in uri k.after ≡ text_in uri s) ⊎ Tells uri k.replies

-- ---- replies

pub tells-behind : (uri : List ℕ) (rs qs : List Reply) → Tells uri qs → Tells uri (rs ++ qs)
tells-behind uri [] qs t = t
tells-behind uri (r ∷ rs) qs t = inr (tells-behind uri rs qs t)

so-both : (l : Language) (s : Session) (rs qs : List Reply) → AreSo l s rs → AreSo l s qs → AreSo l s (rs ++ qs)
so-both l s [] qs a b = b
so-both l s (r ∷ rs) qs a b = (a.0, so-both l s rs qs a.1 b)

-- ---- a message that changes no document

pub silent-follows : (l : Language) (uri : List ℕ) (s : Session) (c : Client) → Knows uri s c → Follows l uri s c (silent s)
silent-follows l uri s c h = record { knows = h; so = tt; told = inl refl }

pub ends-follows : (l : Language) (uri : List ℕ) (s : Session) (c : Client) → Knows uri s c → Follows l uri s c (ends s)
ends-follows l uri s c h = record { knows = h; so = tt; told = inl refl }

pub telling-follows : (l : Language) (uri : List ℕ) (s : Session) (c : Client) (r : Reply) → Knows uri s c → IsSo l s r → Follows l uri s c (telling s r)
telling-follows l uri s c r h so = record { knows = h; so = (so, tt); told = inl refl }

-- ---- all texts are lost

-- each of these documents is found by its name
abbrev AllFound : List Open → List Open → Type 0
AllFound ds [] = ⊤
AllFound ds (e ∷ es) = (found e.uri ds ≡ Some e) × AllFound ds es

more-found : (d : Open) (ds es : List Open) → found d.uri ds ≡ None → AllFound ds es → AllFound (d ∷ ds) es
more-found d ds [] none all = tt
more-found d ds (e ∷ es) none all = elim (cases_Bool (bytes_eq d.uri e.uri)) [
  | inl q ↦ absurd (let some = ap (λ u. found u ds) (eq-is d.uri e.uri q) in let is = all.0 in cc)
  | inr q ↦ (found-later e.uri d ds q ∙ all.0, more-found d ds es none all.1)
]

all-found : (ds : List Open) → Distinct ds → AllFound ds ds
all-found [] distinct = tt
all-found (d ∷ ds) distinct = (found-here d.uri d ds (eq-same d.uri), more-found d ds ds distinct.0 (all-found ds distinct.1))

loss-so : (l : Language) (s : Session) (ds : List Open) (d : Open) → s.documents ≡ map lost ds → found d.uri ds ≡ Some d → (o : Option (List ℕ)) → d.text ≡ o →
    AreSo l s (loss d)
loss-so l s ds d is some o same = by d.text
  where
    at : found d.uri s.documents ≡ Some (lost d)
    at = ap (found d.uri) is ∙ found-lost d.uri ds ∙ ap (option_map lost) some

    by : (o : Option (List ℕ)) → AreSo l s (elim o [ None ↦ [] | Some text ↦ Lost d.uri d.version ∷ [] ])
    by None = tt
    by (Some text) = (at, tt)

losses-so : (l : Language) (s : Session) (ds es : List Open) → s.documents ≡ map lost ds → AllFound ds es → AreSo l s (flat_map loss es)
losses-so l s ds [] is all = tt
losses-so l s ds (e ∷ es) is all = so-both l s (loss e) (flat_map loss es) (loss-so l s ds e is all.0 e.text refl) (losses-so l s ds es is all.1)

-- a text that was not lost is told
loss-told : (uri : List ℕ) (d : Open) (text : List ℕ) (rs : List Reply) → bytes_eq d.uri uri ≡ true → d.text ≡ Some text → Tells uri (loss d ++ rs)
loss-told uri d text rs same some =
    subst (λ (o : Option (List ℕ)). Tells uri (elim o [ None ↦ [] | Some text ↦ Lost d.uri d.version ∷ [] ] ++ rs)) (sym some) (inl (ap Some (eq-is d.uri uri same)))

losses-told : (uri : List ℕ) (ds : List Open) (d : Open) (text : List ℕ) → found uri ds ≡ Some d → d.text ≡ Some text → Tells uri (flat_map loss ds)
losses-told uri [] d text some has = absurd (cc)
losses-told uri (e ∷ ds) d text some has = elim (cases_Bool (bytes_eq e.uri uri)) [
  | inl q ↦
      (let same : Some e ≡ Some d = sym (found-here uri e ds q) ∙ some in
      let is : e ≡ d = cc in
      loss-told uri e text (flat_map loss ds) q (ap (λ (o : Open). o.text) is ∙ has))
  | inr q ↦ tells-behind uri (loss e) (flat_map loss ds) (losses-told uri ds d text (sym (found-later uri e ds q) ∙ some) has)
]

losing-told : (uri : List ℕ) (s : Session) → (text_in uri (losing s).after ≡ text_in uri s) ⊎ Tells uri (losing s).replies
losing-told uri s = by (found uri s.documents) refl
  where
    is : text_in uri (losing s).after ≡ option_map (λ (d : Open). d.text) (option_map lost (found uri s.documents))
    is = ap (option_map (λ (d : Open). d.text)) (found-lost uri s.documents)

    here : (d : Open) (o : Option (List ℕ)) → d.text ≡ o → found uri s.documents ≡ Some d →
        (text_in uri (losing s).after ≡ text_in uri s) ⊎ Tells uri (losing s).replies
    here d None none some =
        inl (is ∙ ap (λ f. option_map (λ (d : Open). d.text) (option_map lost f)) some ∙ ap Some (sym none) ∙ sym (ap (option_map (λ (d : Open). d.text)) some))
    here d (Some text) has some = inr (losses-told uri s.documents d text some has)

    by : (f : Option Open) → found uri s.documents ≡ f → (text_in uri (losing s).after ≡ text_in uri s) ⊎ Tells uri (losing s).replies
    by None none = inl (is ∙ ap (λ f. option_map (λ (d : Open). d.text) (option_map lost f)) none ∙ sym (ap (option_map (λ (d : Open). d.text)) none))
    by (Some d) some = here d d.text refl some

pub losing-follows : (l : Language) (uri : List ℕ) (s : Session) (c : Client) → Knows uri s c → Follows l uri s (client_lost c) (losing s)
losing-follows l uri s c h = record {
  knows = record {
    phase = h.phase;
    facts = h.facts;
    document = found-lost uri s.documents ∙ ap (option_map lost) h.document;
    distinct = distinct-lost s.documents h.distinct;
  };
  so = losses-so l (losing s).after s.documents s.documents refl (all-found s.documents h.distinct);
  told = losing-told uri s;
}

told-later : (a b : Option (Option (List ℕ))) (uri : List ℕ) (r : Reply) (rs : List Reply) → (a ≡ b) ⊎ Tells uri rs → (a ≡ b) ⊎ Tells uri (r ∷ rs)
told-later a b uri r rs (inl same) = inl same
told-later a b uri r rs (inr told) = inr (inr told)

pub refusing-follows : (l : Language) (uri : List ℕ) (s : Session) (c : Client) (id : Option Id) (why : refusals.the_data) → Knows uri s c →
    Follows l uri s (client_lost c) (refusing s id why)
refusing-follows l uri s c id why h =
    let f = losing-follows l uri s c h in
    record { knows = f.knows; so = (tt, f.so); told = told-later _ _ uri (Refused id why) (losing s).replies f.told }

-- ---- a document is put

-- documents in which one is replaced, or a new one is
abbrev replaced : List ℕ → List Open → Open → List Open
replaced u ds d = without u ds ++ d ∷ []

found-replaced : (uri u : List ℕ) (ds : List Open) (d : Open) → d.uri ≡ u → Distinct ds →
    found uri (replaced u ds d) ≡ (if bytes_eq u uri then Some d else found uri ds)
found-replaced uri u ds d name distinct = elim (cases_Bool (bytes_eq u uri)) [
  | inl q ↦
      (let same : u ≡ uri = eq-is u uri q in
      let none : found uri (without u ds) ≡ None = ap (λ v. found v (without u ds)) (sym same) ∙ found-without u ds distinct in
      let here : bytes_eq d.uri uri ≡ true = ap (λ v. bytes_eq v uri) name ∙ q in
      found-last uri (without u ds) (d ∷ []) none ∙ found-here uri d [] here ∙ sym (ap (λ (b : Bool). if b then Some d else found uri ds) q))
  | inr q ↦
      (let other : bytes_eq d.uri uri ≡ false = ap (λ v. bytes_eq v uri) name ∙ q in
      found-other uri (without u ds) d other ∙ found-without-other uri u ds q ∙ sym (ap (λ (b : Bool). if b then Some d else found uri ds) q))
]

distinct-replaced : (u : List ℕ) (ds : List Open) (d : Open) → d.uri ≡ u → Distinct ds → Distinct (replaced u ds d)
distinct-replaced u ds d name distinct =
    distinct-last (without u ds) d (distinct-without u ds distinct) (ap (λ v. found v (without u ds)) name ∙ found-without u ds distinct)

put-knows : (uri : List ℕ) (s : Session) (c : Client) (u : List ℕ) (d : Open) (o : Option Open) → d.uri ≡ u → Knows uri s c → (bytes_eq u uri ≡ true → Some d ≡ o) →
    Knows uri (with_documents s (replaced u s.documents d)) (client_put uri c u o)
put-knows uri s c u d o name h same = record {
  phase = h.phase;
  facts = h.facts;
  document = found-replaced uri u s.documents d name h.distinct ∙ by (bytes_eq u uri) same;
  distinct = distinct-replaced u s.documents d name h.distinct;
}
  where
    by : (b : Bool) → (b ≡ true → Some d ≡ o) → (if b then Some d else found uri s.documents) ≡ (if b then o else c.document)
    by true same = same refl
    by false same = h.document

publication-so : (l : Language) (s t : Session) (d : Open) → t.facts ≡ s.facts → found d.uri t.documents ≡ Some d → IsSo l t (publication l s.facts d)
publication-so l s t d facts some = by d.text some
  where
    by : (o : Option (List ℕ)) → found d.uri t.documents ≡ Some (record { uri = d.uri; version = d.version; text = o }) →
        IsSo l t (elim o [ None ↦ Lost d.uri d.version | Some text ↦ Published d.uri d.version (l s.facts text) ])
    by None some = some
    by (Some text) some = (text, some, ap (λ f. l f text) (sym facts))

publication-told : (l : Language) (s : Session) (d : Open) → document_in (publication l s.facts d) ≡ Some d.uri
publication-told l s d = by d.text
  where
    by : (o : Option (List ℕ)) → document_in (elim o [ None ↦ Lost d.uri d.version | Some text ↦ Published d.uri d.version (l s.facts text) ]) ≡ Some d.uri
    by None = refl
    by (Some text) = refl

pub put-follows : (l : Language) (uri : List ℕ) (s : Session) (c : Client) (u : List ℕ) (d : Open) (o : Option Open) → d.uri ≡ u → Knows uri s c →
    (bytes_eq u uri ≡ true → Some d ≡ o) → Follows l uri s (client_put uri c u o) (put l s u d)
put-follows l uri s c u d o name h same = record {
  knows = put-knows uri s c u d o name h same;
  so = (publication-so l s (put l s u d).after d refl here, tt);
  told = by (bytes_eq u uri) refl;
}
  where
    after : List Open
    after = replaced u s.documents d

    here : found d.uri after ≡ Some d
    here =
        found-replaced d.uri u s.documents d name h.distinct
        ∙ ap (λ (b : Bool). if b then Some d else found d.uri s.documents) (ap (λ v. bytes_eq u v) name ∙ eq-same u)

    by : (b : Bool) → bytes_eq u uri ≡ b → (text_in uri (put l s u d).after ≡ text_in uri s) ⊎ Tells uri (put l s u d).replies
    by true q = inr (inl (publication-told l s d ∙ ap Some (name ∙ eq-is u uri q)))
    by false q = inl (ap (option_map (λ (e : Open). e.text))
        (found-replaced uri u s.documents d name h.distinct ∙ ap (λ (b : Bool). if b then Some d else found uri s.documents) q))

-- ---- a document is changed or closed

found-name : (uri : List ℕ) (ds : List Open) (d : Open) → found uri ds ≡ Some d → d.uri ≡ uri
found-name uri [] d some = absurd (cc)
found-name uri (e ∷ ds) d some = elim (cases_Bool (bytes_eq e.uri uri)) [
  | inl q ↦
      (let same : Some e ≡ Some d = sym (found-here uri e ds q) ∙ some in
      let is : e ≡ d = cc in
      sym (ap (λ (o : Open). o.uri) is) ∙ eq-is e.uri uri q)
  | inr q ↦ found-name uri ds d (sym (found-later uri e ds q) ∙ some)
]

-- a text that stays lost
quiet-follows : (l : Language) (uri : List ℕ) (s : Session) (c : Client) (u : List ℕ) (old new : Open) (o : Option Open) → new.uri ≡ u → Knows uri s c →
    (bytes_eq u uri ≡ true → Some new ≡ o) → found u s.documents ≡ Some old → old.text ≡ None → new.text ≡ None →
    Follows l uri s (client_put uri c u o) (record { after = with_documents s (replaced u s.documents new); replies = []; status = None })
quiet-follows l uri s c u old new o name h same some none lost = record {
  knows = put-knows uri s c u new o name h same;
  so = tt;
  told = inl (ap (option_map (λ (e : Open). e.text)) (found-replaced uri u s.documents new name h.distinct) ∙ by (bytes_eq u uri) refl);
}
  where
    by : (b : Bool) → bytes_eq u uri ≡ b → option_map (λ (e : Open). e.text) (if b then Some new else found uri s.documents) ≡ text_in uri s
    by true q =
        ap Some lost ∙ ap Some (sym none)
        ∙ sym (ap (option_map (λ (e : Open). e.text)) (ap (λ v. found v s.documents) (sym (eq-is u uri q)) ∙ some))
    by false q = refl

put-changed-follows : (l : Language) (uri : List ℕ) (s : Session) (c : Client) (u : List ℕ) (old new : Open) (o : Option Open) → new.uri ≡ u → Knows uri s c →
    (bytes_eq u uri ≡ true → Some new ≡ o) → found u s.documents ≡ Some old → Follows l uri s (client_put uri c u o) (put_changed l s u old new)
put-changed-follows l uri s c u old new o name h same some = by old.text new.text refl refl
  where
    by : (a b : Option (List ℕ)) → old.text ≡ a → new.text ≡ b →
        Follows l uri s (client_put uri c u o)
        (if is_some a || is_some b then put l s u new else record { after = with_documents s (replaced u s.documents new); replies = []; status = None })
    by (Some x) b p q = put-follows l uri s c u new o name h same
    by None (Some y) p q = put-follows l uri s c u new o name h same
    by None None p q = quiet-follows l uri s c u old new o name h same some p q

-- a document with this name is not open
unopened-follows : (l : Language) (uri : List ℕ) (s : Session) (c : Client) (u : List ℕ) (o : Option Open) → Knows uri s c → found u s.documents ≡ None →
    (c.document ≡ None → o ≡ None) → Follows l uri s (client_put uri c u o) (silent s)
unopened-follows l uri s c u o h none is = record {
  knows = record { phase = h.phase; facts = h.facts; document = by (bytes_eq u uri) refl; distinct = h.distinct };
  so = tt;
  told = inl refl;
}
  where
    by : (b : Bool) → bytes_eq u uri ≡ b → found uri s.documents ≡ (if b then o else c.document)
    by true q =
        let here : found uri s.documents ≡ None = ap (λ v. found v s.documents) (sym (eq-is u uri q)) ∙ none in
        here ∙ sym (is (sym h.document ∙ here))
    by false q = h.document

changes-open : (l : Language) (uri : List ℕ) (s : Session) (c : Client) (u : List ℕ) (params : Option Data) → Knows uri s c →
    (f : Option Open) → found u s.documents ≡ f →
    Follows l uri s (client_put uri c u (option_map (changed c.facts params) c.document)) (changes_if_open l s u params f)
changes-open l uri s c u params h None none =
    unopened-follows l uri s c u (option_map (changed c.facts params) c.document) h none (λ is. ap (option_map (changed c.facts params)) is)
changes-open l uri s c u params h (Some d) some =
    put-changed-follows l uri s c u d (changed s.facts params d) (option_map (changed c.facts params) c.document) (found-name u s.documents d some) h
    (λ q.
    let here : c.document ≡ Some d = sym h.document ∙ ap (λ v. found v s.documents) (sym (eq-is u uri q)) ∙ some in
    ap (λ f. Some (changed f params d)) h.facts ∙ sym (ap (option_map (changed c.facts params)) here))
    some

closes-open : (l : Language) (uri : List ℕ) (s : Session) (c : Client) (u : List ℕ) → Knows uri s c → (f : Option Open) → found u s.documents ≡ f →
    Follows l uri s (client_put uri c u None) (closes_if_open s u f)
closes-open l uri s c u h None none = unopened-follows l uri s c u None h none (λ is. refl)
closes-open l uri s c u h (Some d) some = record {
  knows = record { phase = h.phase; facts = h.facts; document = by (bytes_eq u uri) refl; distinct = distinct-without u s.documents h.distinct };
  so = (found-without u s.documents h.distinct, tt);
  told = tells-by (bytes_eq u uri) refl;
}
  where
    by : (b : Bool) → bytes_eq u uri ≡ b → found uri (without u s.documents) ≡ (if b then None else c.document)
    by true q = ap (λ v. found uri (without v s.documents)) (eq-is u uri q) ∙ found-without uri s.documents h.distinct
    by false q = found-without-other uri u s.documents q ∙ h.document

    tells-by : (b : Bool) → bytes_eq u uri ≡ b → (text_in uri (with_documents s (without u s.documents)) ≡ text_in uri s) ⊎ Tells uri (Withdrawn u ∷ [])
    tells-by true q = inr (inl (ap Some (eq-is u uri q)))
    tells-by false q = inl (ap (option_map (λ (e : Open). e.text)) (found-without-other uri u s.documents q))

-- ---- notices

opens-follows : (l : Language) (uri : List ℕ) (s : Session) (c : Client) (params : Option Data) → Knows uri s c →
    Follows l uri s (client_opens uri c params) (opens l s params)
opens-follows l uri s c params h = by (uri_of params)
  where
    by : (o : Option (List ℕ)) →
        Follows l uri s (elim o [ None ↦ client_lost c | Some told ↦ client_put uri c told (Some (opened told params)) ])
        (elim o [ None ↦ losing s | Some u ↦ put l s u (opened u params) ])
    by None = losing-follows l uri s c h
    by (Some u) = put-follows l uri s c u (opened u params) (Some (opened u params)) refl h (λ q. refl)

changes-follows : (l : Language) (uri : List ℕ) (s : Session) (c : Client) (params : Option Data) → Knows uri s c →
    Follows l uri s (client_changes uri c params) (changes l s params)
changes-follows l uri s c params h = by (uri_of params)
  where
    by : (o : Option (List ℕ)) →
        Follows l uri s (elim o [ None ↦ client_lost c | Some told ↦ client_put uri c told (option_map (changed c.facts params) c.document) ])
        (elim o [ None ↦ losing s | Some u ↦ changes_if_open l s u params (found u s.documents) ])
    by None = losing-follows l uri s c h
    by (Some u) = changes-open l uri s c u params h (found u s.documents) refl

closes-follows : (l : Language) (uri : List ℕ) (s : Session) (c : Client) (params : Option Data) → Knows uri s c →
    Follows l uri s (client_closes uri c params) (closes s params)
closes-follows l uri s c params h = by (uri_of params)
  where
    by : (o : Option (List ℕ)) →
        Follows l uri s (elim o [ None ↦ client_lost c | Some told ↦ client_put uri c told None ])
        (elim o [ None ↦ losing s | Some u ↦ closes_if_open s u (found u s.documents) ])
    by None = losing-follows l uri s c h
    by (Some u) = closes-open l uri s c u h (found u s.documents) refl

if-follows : (l : Language) (uri : List ℕ) (s : Session) (b : Bool) (c d : Client) (k m : Step) → Follows l uri s c k → Follows l uri s d m →
    Follows l uri s (if b then c else d) (if b then k else m)
if-follows l uri s true c d k m f g = f
if-follows l uri s false c d k m f g = g

if-either : (l : Language) (uri : List ℕ) (s : Session) (b : Bool) (c : Client) (k m : Step) → Follows l uri s c k → Follows l uri s c m →
    Follows l uri s c (if b then k else m)
if-either l uri s true c k m f g = f
if-either l uri s false c k m f g = g

running-follows : (l : Language) (uri : List ℕ) (s : Session) (c : Client) (method : List ℕ) (params : Option Data) → Knows uri s c →
    Follows l uri s (client_running uri c method params) (notice_running l s method params)
running-follows l uri s c method params h =
    if-follows l uri s (bytes_eq method (codes "textDocument/didOpen")) _ _ _ _ (opens-follows l uri s c params h)
    (if-follows l uri s (bytes_eq method (codes "textDocument/didChange")) _ _ _ _ (changes-follows l uri s c params h)
    (if-follows l uri s (bytes_eq method (codes "textDocument/didClose")) _ _ _ _ (closes-follows l uri s c params h)
    (silent-follows l uri s c h)))

notice-follows : (l : Language) (uri : List ℕ) (s : Session) (c : Client) (method : List ℕ) (params : Option Data) → Knows uri s c →
    Follows l uri s (client_message uri c (Notice method params)) (notice l s method params)
notice-follows l uri s c method params h =
    if-follows l uri s (bytes_eq method (codes "exit")) _ _ _ _ (ends-follows l uri s c h)
    (subst (λ p. Follows l uri s (client_notice p uri c method params) (notice_in s.phase l s method params)) h.phase (by s.phase))
  where
    by : (p : Phase) → Follows l uri s (client_notice p uri c method params) (notice_in p l s method params)
    by Fresh = silent-follows l uri s c h
    by Running = running-follows l uri s c method params h
    by Down = silent-follows l uri s c h

-- ---- requests

refusal-follows : (l : Language) (uri : List ℕ) (s : Session) (c : Client) (id : Id) (why : refusals.the_data) → Knows uri s c → Follows l uri s c (refusal s id why)
refusal-follows l uri s c id why h = telling-follows l uri s c (Refused (Some id) why) h tt

tells-follows : (l : Language) (uri : List ℕ) (s : Session) (c : Client) (id : Id) (o : Option Open) → Knows uri s c → Follows l uri s c (tells s id o)
tells-follows l uri s c id None h = refusal-follows l uri s c id refusals.Document h
tells-follows l uri s c id (Some d) h = telling-follows l uri s c (Told id d.version d.text) h tt

begins-follows : (l : Language) (uri : List ℕ) (s : Session) (c : Client) (id : Id) (params : Option Data) → Knows uri s c →
    Follows l uri s (client_begins c params) (begins s id params)
begins-follows l uri s c id params h = record {
  knows = record { phase = refl; facts = refl; document = h.document; distinct = h.distinct };
  so = (tt, tt);
  told = inl refl;
}

shuts-down-follows : (l : Language) (uri : List ℕ) (s : Session) (c : Client) (id : Id) → Knows uri s c → Follows l uri s (client_shuts_down c) (shuts_down s id)
shuts-down-follows l uri s c id h = record {
  knows = record { phase = refl; facts = h.facts; document = h.document; distinct = h.distinct };
  so = (tt, tt);
  told = inl refl;
}

request-follows : (l : Language) (uri : List ℕ) (s : Session) (c : Client) (id : Id) (method : List ℕ) (params : Option Data) → Knows uri s c →
    Follows l uri s (client_request c.phase c method params) (request_in s.phase s id method params)
request-follows l uri s c id method params h =
    subst (λ p. Follows l uri s (client_request p c method params) (request_in s.phase s id method params)) h.phase (by s.phase)
  where
    by : (p : Phase) → Follows l uri s (client_request p c method params) (request_in p s id method params)
    by Fresh =
        if-follows l uri s (bytes_eq method (codes "initialize")) _ _ _ _ (begins-follows l uri s c id params h)
        (refusal-follows l uri s c id refusals.NotInitialized h)
    by Running =
        if-follows l uri s (bytes_eq method (codes "initialize")) _ _ _ _ (refusal-follows l uri s c id refusals.Initialized h)
        (if-follows l uri s (bytes_eq method (codes "shutdown")) _ _ _ _ (shuts-down-follows l uri s c id h)
        (if-either l uri s (bytes_eq method (codes "tevondimby/text")) _ _ _
        (tells-follows l uri s c id (option_and_then (λ v. found v s.documents) (uri_of params)) h)
        (refusal-follows l uri s c id refusals.Method h)))
    by Down = refusal-follows l uri s c id refusals.ShutDown h

-- ---- messages

message-follows : (l : Language) (uri : List ℕ) (s : Session) (c : Client) (m : Message) → Knows uri s c → Follows l uri s (client_message uri c m) (step_message l s m)
message-follows l uri s c (Request id method params) h = request-follows l uri s c id method params h
message-follows l uri s c (Notice method params) h = notice-follows l uri s c method params h
message-follows l uri s c Answer h = silent-follows l uri s c h
message-follows l uri s c (Invalid id) h = refusing-follows l uri s c id refusals.Message h

value-follows : (l : Language) (uri : List ℕ) (s : Session) (c : Client) (o : Option Data) → Knows uri s c → Follows l uri s (client_value uri c o) (step_value l s o)
value-follows l uri s c None h = refusing-follows l uri s c None refusals.Json h
value-follows l uri s c (Some d) h = message-follows l uri s c (message_in d) h

pub step-follows : (l : Language) (uri : List ℕ) (s : Session) (c : Client) (body : List ℕ) → Knows uri s c →
    Follows l uri s (client_value uri c (body_value body)) (step l s body)
step-follows l uri s c body h = value-follows l uri s c (body_value body) h
