-- Laws of sessions, over the messages of a client from the first one on.
use Rattle.std.proofs.Common.{◌≡◌, ◌⊎◌, ℕ, List, [], ◌∷◌, Option, Some, None, refl, ap, sym, subst, ◌∙◌}
use Rattle.session_words.specs.Bodies.{body_value}
use Rattle.language_session.specs.Sessions.{Session, begun, found}
use Rattle.language_session.specs.Steps.{Language, Step, silent, step}
use Rattle.language_session.specs.Runs.{joined, run}
use Rattle.language_session.specs.Clients.{Client, client_after, client_after_from, client_begun, client_value}
use Rattle.language_session.specs.Laws.{AreSo, Tells, text_in}
use Rattle.language_session.proofs.Following.{Knows, step-follows}

pub run-nil : (l : Language) (s : Session) → run l s [] ≡ silent s
unfolding run
run-nil l s = refl

run-cons : (l : Language) (s : Session) (b : List ℕ) (bs : List (List ℕ)) →
    run l s (b ∷ bs) ≡ joined (step l s b).status (step l s b) (run l (step l s b).after bs)
unfolding run
run-cons l s b bs = refl

-- a run that goes on has gone on behind its first message
pub record GoesOn (l : Language) (s : Session) (b : List ℕ) (bs : List (List ℕ)) : Type 0 where
  pub all : run l s (b ∷ bs) ≡ joined None (step l s b) (run l (step l s b).after bs)
  pub later : (run l (step l s b).after bs).status ≡ None

pub goes-on : (l : Language) (s : Session) (b : List ℕ) (bs : List (List ℕ)) → (run l s (b ∷ bs)).status ≡ None → GoesOn l s b bs
goes-on l s b bs none = by (step l s b).status refl
  where
    k : Step
    k = step l s b

    t : Step
    t = run l k.after bs

    here : (o : Option ℕ) → k.status ≡ o → run l s (b ∷ bs) ≡ joined o k t
    here o is = run-cons l s b bs ∙ ap (λ (p : Option ℕ). joined p k t) is

    by : (o : Option ℕ) → k.status ≡ o → GoesOn l s b bs
    by None is = record { all = here None is; later = sym (ap (λ (j : Step). j.status) (here None is)) ∙ none }
    by (Some code) is = absurd (let ends = ap (λ (j : Step). j.status) (here (Some code) is) in cc)

knows-run : (l : Language) (uri : List ℕ) (s : Session) (c : Client) (bodies : List (List ℕ)) → Knows uri s c → (run l s bodies).status ≡ None →
    Knows uri (run l s bodies).after (client_after_from uri c bodies)
knows-run l uri s c [] h none = subst (λ (j : Step). Knows uri j.after c) (sym (run-nil l s)) h
knows-run l uri s c (b ∷ bs) h none =
    let g = goes-on l s b bs none in
    let f = step-follows l uri s c b h in
    subst (λ (j : Step). Knows uri j.after (client_after_from uri c (b ∷ bs))) (sym g.all)
    (knows-run l uri (step l s b).after (client_value uri c (body_value b)) bs f.knows g.later)

knows-begun : (uri : List ℕ) → Knows uri begun client_begun
knows-begun uri = record { phase = refl; facts = refl; document = refl; distinct = tt }

knows : (l : Language) (uri : List ℕ) (bodies : List (List ℕ)) → (run l begun bodies).status ≡ None → Knows uri (run l begun bodies).after (client_after uri bodies)
knows l uri bodies none = knows-run l uri begun client_begun bodies (knows-begun uri) none

pub documents-told : (l : Language) (uri : List ℕ) (bodies : List (List ℕ)) → (run l begun bodies).status ≡ None →
    found uri (run l begun bodies).after.documents ≡ (client_after uri bodies).document
documents-told l uri bodies none = (knows l uri bodies none).document

pub published-so : (l : Language) (bodies : List (List ℕ)) (body : List ℕ) → (run l begun bodies).status ≡ None →
    AreSo l (step l (run l begun bodies).after body).after (step l (run l begun bodies).after body).replies
published-so l bodies body none = (step-follows l [] (run l begun bodies).after (client_after [] bodies) body (knows l [] bodies none)).so

pub each-told : (l : Language) (uri : List ℕ) (bodies : List (List ℕ)) (body : List ℕ) → (run l begun bodies).status ≡ None →
    (text_in uri (step l (run l begun bodies).after body).after ≡ text_in uri (run l begun bodies).after)
    ⊎ Tells uri (step l (run l begun bodies).after body).replies
each-told l uri bodies body none = (step-follows l uri (run l begun bodies).after (client_after uri bodies) body (knows l uri bodies none)).told
