-- Lemmas on what is sent behind a read.
use Rattle.std.proofs.Common.{◌≡◌, ℕ, List, [], ◌∷◌, ◌++◌, Option, Some, None, refl, ap, sym, subst, ◌∙◌, append_assoc}
use Rattle.std.proofs.lemmas.List.{append-nil}
use Rattle.message_frames.specs.Frames.{IsBroken, IsMessage}
use Rattle.message_frames.specs.Messages.{message}
use Rattle.message_frames.proofs.FrameLemmas.{messages-more}
use Rattle.session_words.specs.Replies.{Refused, Reply, reply_body}
use Rattle.session_words.specs.declared.reply.Refusal.TheVariants as refusals
use Rattle.language_session.specs.Sessions.{Session}
use Rattle.language_session.specs.Steps.{Language, Step, silent, step, written}
use Rattle.language_session.specs.Runs.{joined, run}
use Rattle.session_server.specs.Answers.{refusal}
use Rattle.session_server.specs.Turns.{AreAnswered, EndsNow, IsEnded}
use Rattle.session_server.proofs.Runs.{messages-append, on-none, run-cons, run-nil, run-on, with, written-both}

pub are-none : (l : Language) (s : Session) (bytes : List ℕ) → AreAnswered l s bytes bytes s []
are-none l s bytes = record {
  bodies = [];
  messages = refl;
  after = ap (λ (k : Step). k.after) (run-nil l s);
  goes_on = ap (λ (k : Step). k.status) (run-nil l s);
  told_is = sym (ap (λ (k : Step). written k.replies) (run-nil l s));
}

-- ---- messages behind others

-- what a run is behind messages that are answered
behind : (l : Language) (s : Session) (bytes rest : List ℕ) (mid : Session) (told : List ℕ) (a : AreAnswered l s bytes rest mid told) (ys : List (List ℕ)) →
    run l s (a.bodies ++ ys) ≡ joined None (run l s a.bodies) (run l mid ys)
behind l s bytes rest mid told a ys =
    run-on l s a.bodies ys a.goes_on ∙ ap (λ (t : Session). joined None (run l s a.bodies) (run l t ys)) a.after

pub are-join : (l : Language) (s : Session) (bytes rest : List ℕ) (mid : Session) (told more later : List ℕ) (new : Session) (next : List ℕ) →
    AreAnswered l s bytes rest mid told → AreAnswered l mid (rest ++ more) later new next → AreAnswered l s (bytes ++ more) later new (told ++ next)
are-join l s bytes rest mid told more later new next a b =
    let r = run l s a.bodies in
    let all = behind l s bytes rest mid told a b.bodies in
    record {
      bodies = a.bodies ++ b.bodies;
      messages = messages-append (bytes ++ more) a.bodies (rest ++ more) b.bodies later (messages-more bytes a.bodies rest more a.messages) b.messages;
      after = ap (λ (k : Step). k.after) all ∙ b.after;
      goes_on = ap (λ (k : Step). k.status) all ∙ b.goes_on;
      told_is =
          ap (λ bs. bs ++ next) a.told_is ∙ ap (λ bs. written r.replies ++ bs) b.told_is
          ∙ sym (ap (λ (k : Step). written k.replies) all ∙ written-both r.replies (run l mid b.bodies).replies);
    }

ends-behind : (r u : Step) (told out rest : List ℕ) (status : ℕ) → told ≡ written r.replies → EndsNow u.status u rest out status →
    EndsNow (joined None r u).status (joined None r u) rest (told ++ out) status
ends-behind r u told out rest status is e = by u.after u.replies u.status e
  where
    by : (a : Session) (rs : List Reply) (p : Option ℕ) → EndsNow p (with a rs p) rest out status →
        EndsNow p (joined None r (with a rs p)) rest (told ++ out) status
    by a rs (Some code) e = (ap (λ bs. bs ++ out) is ∙ ap (λ bs. written r.replies ++ bs) e.0 ∙ sym (written-both r.replies rs), e.1)
    by a rs None e = (
      e.0,
      ap (λ bs. bs ++ out) is ∙ ap (λ bs. written r.replies ++ bs) e.1
          ∙ sym (ap written (append_assoc r.replies rs refusal) ∙ written-both r.replies (rs ++ refusal)),
      e.2,
    )

pub ended-join : (l : Language) (s : Session) (bytes rest : List ℕ) (mid : Session) (told more out : List ℕ) (status : ℕ) →
    AreAnswered l s bytes rest mid told → IsEnded l mid (rest ++ more) out status → IsEnded l s (bytes ++ more) (told ++ out) status
ended-join l s bytes rest mid told more out status a b =
    let r = run l s a.bodies in
    record {
      bodies = a.bodies ++ b.bodies;
      rest = b.rest;
      messages = messages-append (bytes ++ more) a.bodies (rest ++ more) b.bodies b.rest (messages-more bytes a.bodies rest more a.messages) b.messages;
      ends = subst (λ (k : Step). EndsNow k.status k b.rest (told ++ out) status) (sym (behind l s bytes rest mid told a b.bodies))
          (ends-behind r (run l mid b.bodies) told out b.rest status a.told_is b.ends);
    }

-- ---- one message

one-run : (l : Language) (s : Session) (body : List ℕ) → (step l s body).status ≡ None →
    run l s (body ∷ []) ≡ with (step l s body).after ((step l s body).replies ++ []) None
one-run l s body none =
    let k = step l s body in
    run-cons l s body [] ∙ ap (joined k.status k) (run-nil l k.after) ∙ on-none k.status k (silent k.after) none

are-one : (l : Language) (s : Session) (bytes body rest : List ℕ) → IsMessage bytes body rest → (step l s body).status ≡ None →
    AreAnswered l s bytes rest (step l s body).after (written (step l s body).replies)
are-one l s bytes body rest m none =
    let is = one-run l s body none in
    record {
      bodies = body ∷ [];
      messages = (rest, m, refl);
      after = ap (λ (k : Step). k.after) is;
      goes_on = ap (λ (k : Step). k.status) is;
      told_is = sym (ap (λ (k : Step). written k.replies) is ∙ ap written (append-nil (step l s body).replies));
    }

last-run : (l : Language) (s : Session) (body : List ℕ) (status : ℕ) → (step l s body).status ≡ Some status →
    run l s (body ∷ []) ≡ with (step l s body).after (step l s body).replies (Some status)
last-run l s body status some =
    let k = step l s body in
    run-cons l s body [] ∙ ap (λ (o : Option ℕ). joined o k (run l k.after [])) some ∙ ap (with k.after k.replies) some

ended-one : (l : Language) (s : Session) (bytes body rest : List ℕ) (status : ℕ) → IsMessage bytes body rest → (step l s body).status ≡ Some status →
    IsEnded l s bytes (written (step l s body).replies) status
ended-one l s bytes body rest status m some =
    record {
      bodies = body ∷ [];
      rest = rest;
      messages = (rest, m, refl);
      ends = subst (λ (k : Step). EndsNow k.status k rest (written (step l s body).replies) status) (sym (last-run l s body status some)) (refl, refl);
    }

broken-none : (l : Language) (s : Session) (bytes : List ℕ) → IsBroken bytes → IsEnded l s bytes (written refusal) 1
broken-none l s bytes broken =
    record {
      bodies = [];
      rest = bytes;
      messages = refl;
      ends = subst (λ (k : Step). EndsNow k.status k bytes (written refusal) 1) (sym (run-nil l s)) (broken, refl, refl);
    }

-- ---- the turns of a loop: bytes of which a front is answered

are-joined : (l : Language) (s : Session) (bytes rest : List ℕ) (mid : Session) (told later : List ℕ) (new : Session) (next : List ℕ) →
    AreAnswered l s bytes rest mid told → AreAnswered l mid rest later new next → AreAnswered l s bytes later new (told ++ next)
are-joined l s bytes rest mid told later new next a b =
    subst (λ bs. AreAnswered l s bs later new (told ++ next)) (append-nil bytes)
    (are-join l s bytes rest mid told [] later new next a (subst (λ bs. AreAnswered l mid bs later new next) (sym (append-nil rest)) b))

ended-joined : (l : Language) (s : Session) (bytes rest : List ℕ) (mid : Session) (told out : List ℕ) (status : ℕ) →
    AreAnswered l s bytes rest mid told → IsEnded l mid rest out status → IsEnded l s bytes (told ++ out) status
ended-joined l s bytes rest mid told out status a b =
    subst (λ bs. IsEnded l s bs (told ++ out) status) (append-nil bytes)
    (ended-join l s bytes rest mid told [] out status a (subst (λ bs. IsEnded l mid bs out status) (sym (append-nil rest)) b))

pub are-more : (l : Language) (s : Session) (bytes rest : List ℕ) (mid : Session) (told body later : List ℕ) →
    AreAnswered l s bytes rest mid told → IsMessage rest body later → (step l mid body).status ≡ None →
    AreAnswered l s bytes later (step l mid body).after (told ++ written (step l mid body).replies)
are-more l s bytes rest mid told body later a m none =
    are-joined l s bytes rest mid told later _ _ a (are-one l mid rest body later m none)

pub are-ended : (l : Language) (s : Session) (bytes rest : List ℕ) (mid : Session) (told body later : List ℕ) (status : ℕ) →
    AreAnswered l s bytes rest mid told → IsMessage rest body later → (step l mid body).status ≡ Some status →
    IsEnded l s bytes (told ++ written (step l mid body).replies) status
are-ended l s bytes rest mid told body later status a m some =
    ended-joined l s bytes rest mid told _ status a (ended-one l mid rest body later status m some)

pub are-broken : (l : Language) (s : Session) (bytes rest : List ℕ) (mid : Session) (told : List ℕ) →
    AreAnswered l s bytes rest mid told → IsBroken rest → IsEnded l s bytes (told ++ message (reply_body (Refused None refusals.Header))) 1
are-broken l s bytes rest mid told a broken =
    subst (λ out. IsEnded l s bytes (told ++ out) 1) (append-nil (message (reply_body (Refused None refusals.Header))))
    (ended-joined l s bytes rest mid told (written refusal) 1 a (broken-none l mid rest broken))
