-- Lemmas on messages that are answered one after another.
use Rattle.std.proofs.Common.{◌≡◌, ℕ, List, [], ◌∷◌, ◌++◌, Option, Some, None, refl, ap, sym, subst, ◌∙◌, append_assoc}
use Rattle.std.proofs.lemmas.Grind.{flat_map-append}
use Rattle.message_frames.specs.Frames.{AreMessages}
use Rattle.message_frames.specs.Messages.{message}
use Rattle.session_words.specs.Replies.{Reply, reply_body}
use Rattle.language_session.specs.Sessions.{Session}
use Rattle.language_session.specs.Steps.{Language, Step, silent, step, written}
use Rattle.language_session.specs.Runs.{joined, run}

pub run-nil : (l : Language) (s : Session) → run l s [] ≡ silent s
unfolding run
run-nil l s = refl

pub run-cons : (l : Language) (s : Session) (b : List ℕ) (bs : List (List ℕ)) →
    run l s (b ∷ bs) ≡ joined (step l s b).status (step l s b) (run l (step l s b).after bs)
unfolding run
run-cons l s b bs = refl

pub written-both : (a b : List Reply) → written (a ++ b) ≡ written a ++ written b
written-both a b = flat_map-append (λ r. message (reply_body r)) a b

-- ---- steps one after another

-- one step, and then what goes on from it
abbrev pub onwards : Step → (Session → Step) → Step
onwards k go = joined k.status k (go k.after)

abbrev pub with : Session → List Reply → Option ℕ → Step
with after replies status = record { after = after; replies = replies; status = status }

onwards-by : (a : Session) (rs : List Reply) (o : Option ℕ) (b : Session) (qs : List Reply) (p : Option ℕ) (go : Session → Step) →
    joined o (with a rs o) (joined p (with b qs p) (go b)) ≡ onwards (joined o (with a rs o) (with b qs p)) go
onwards-by a rs (Some status) b qs p go = refl
onwards-by a rs None b qs (Some status) go = refl
onwards-by a rs None b qs None go =
    let u = go b in
    ap (λ replies. with u.after replies u.status) (sym (append_assoc rs qs u.replies))

onwards-both : (k t : Step) (go : Session → Step) → joined k.status k (joined t.status t (go t.after)) ≡ onwards (joined k.status k t) go
onwards-both k t go = onwards-by k.after k.replies k.status t.after t.replies t.status go

-- messages behind others
pub run-append : (l : Language) (s : Session) (xs ys : List (List ℕ)) → run l s (xs ++ ys) ≡ onwards (run l s xs) (λ t. run l t ys)
run-append l s [] ys = subst (λ (k : Step). run l s ys ≡ onwards k (λ t. run l t ys)) (sym (run-nil l s)) refl
run-append l s (x ∷ xs) ys =
    let go = λ (t : Session). run l t ys in
    let first = step l s x in
    let later = run l first.after xs in
    run-cons l s x (xs ++ ys)
    ∙ ap (joined first.status first) (run-append l first.after xs ys)
    ∙ onwards-both first later go
    ∙ ap (λ (k : Step). onwards k go) (sym (run-cons l s x xs))

pub on-none : (o : Option ℕ) (k t : Step) → o ≡ None → joined o k t ≡ joined None k t
on-none o k t none = ap (λ (o : Option ℕ). joined o k t) none

-- behind messages that the server goes on after
pub run-on : (l : Language) (s : Session) (xs ys : List (List ℕ)) → (run l s xs).status ≡ None →
    run l s (xs ++ ys) ≡ joined None (run l s xs) (run l (run l s xs).after ys)
run-on l s xs ys none = run-append l s xs ys ∙ on-none (run l s xs).status (run l s xs) (run l (run l s xs).after ys) none

-- ---- messages behind others

pub messages-append : (bytes : List ℕ) (xs : List (List ℕ)) (mid : List ℕ) (ys : List (List ℕ)) (rest : List ℕ) →
    AreMessages bytes xs mid → AreMessages mid ys rest → AreMessages bytes (xs ++ ys) rest
messages-append bytes [] mid ys rest is more = subst (λ b. AreMessages b ys rest) (sym is) more
messages-append bytes (x ∷ xs) mid ys rest is more = (is.0, is.1, messages-append is.0 xs mid ys rest is.2 more)
