-- What a server answers is a function of what it reads.
use Rattle.std.proofs.Common.{◌≡◌, ◌⊎◌, ℕ, List, [], ◌∷◌, ◌++◌, Option, Some, None, inl, inr, refl, ap, sym, subst, ◌∙◌, append_assoc}
use Rattle.std.proofs.lemmas.List.{append-nil}
use Rattle.message_frames.specs.Frames.{AreMessages, End, IsEnd, IsMessage, Malformed}
use Rattle.message_frames.proofs.FrameLemmas.{end-none, ends-one, messages-one}
use Rattle.session_words.specs.Replies.{Reply}
use Rattle.language_session.specs.Sessions.{Session, begun}
use Rattle.language_session.specs.Steps.{Language, Step, silent, step, written}
use Rattle.language_session.specs.Runs.{joined, run}
use Rattle.session_server.specs.Answers.{Ends, IsAnswered, IsLast, IsPartlyAnswered, last_status, last_words}
use Rattle.session_server.proofs.Runs.{run-cons, run-nil, written-both}

-- ---- one answer

abbrev EndsWith : Step → List ℕ → List ℕ → ℕ → Type 0
EndsWith k rest out status = Ends k.status k rest out status

-- where no message is left
nil-ends : (s : Session) (rest out : List ℕ) (status : ℕ) → EndsWith (silent s) rest out status →
    (end : End) × IsEnd end rest × (out ≡ written (last_words end)) × (status ≡ last_status end s)
nil-ends s rest out status e = e

nil-one : (s : Session) (rest out other : List ℕ) (status code : ℕ) → EndsWith (silent s) rest out status → EndsWith (silent s) rest other code →
    (out ≡ other) × (status ≡ code)
nil-one s rest out other status code a b =
    let same = ends-one a.0 b.0 rest a.1 b.1 in
    (a.2 ∙ ap (λ end. written (last_words end)) same ∙ sym b.2, a.3 ∙ ap (λ end. last_status end s) same ∙ sym b.3)

-- behind a message, what comes first is the same
after-first : (k t : Step) (rest out : List ℕ) (status : ℕ) → k.status ≡ None → EndsWith (joined k.status k t) rest out status →
    (behind : List ℕ) × EndsWith t rest behind status × (out ≡ written k.replies ++ behind)
after-first k t rest out status none e = by t.after t.replies t.status (subst (λ (o : Option ℕ). EndsWith (joined o k t) rest out status) none e)
  where
    by : (a : Session) (rs : List Reply) (p : Option ℕ)
        → EndsWith (joined None k (record { after = a; replies = rs; status = p })) rest out status
        → (behind : List ℕ) × EndsWith (record { after = a; replies = rs; status = p }) rest behind status × (out ≡ written k.replies ++ behind)
    by a rs (Some told) e = (written rs, (refl, e.1), e.0 ∙ written-both k.replies rs)
    by a rs None e = (
      written (rs ++ last_words e.0),
      (e.0, e.1, refl, e.3),
      e.2 ∙ ap written (append_assoc k.replies rs (last_words e.0)) ∙ written-both k.replies (rs ++ last_words e.0),
    )

ended-first : (k t u : Step) (rest other out more : List ℕ) (status code told : ℕ) → k.status ≡ Some told →
    EndsWith (joined k.status k t) rest out status → EndsWith (joined k.status k u) other more code → (out ≡ more) × (status ≡ code)
ended-first k t u rest other out more status code told is a b =
    let x = subst (λ (o : Option ℕ). Ends o k rest out status) is (by-some k t rest out status told is a) in
    let y = subst (λ (o : Option ℕ). Ends o k other more code) is (by-some k u other more code told is b) in
    (x.0 ∙ sym y.0, x.1 ∙ sym y.1)
  where
    by-some : (k t : Step) (rest out : List ℕ) (status told : ℕ) → k.status ≡ Some told → EndsWith (joined k.status k t) rest out status → EndsWith k rest out status
    by-some k t rest out status told is e = subst (λ (j : Step). EndsWith j rest out status) (ap (λ (o : Option ℕ). joined o k t) is) e

cases-status : (o : Option ℕ) → (o ≡ None) ⊎ ((told : ℕ) × (o ≡ Some told))
cases-status None = inl refl
cases-status (Some told) = inr (told, refl)

-- both go on behind the same message
abbrev Onwards : Language → Session → List ℕ → List (List ℕ) → List (List ℕ) → Type 0
Onwards l s mid xs ys =
    (rest other out more : List ℕ) (status code : ℕ) → AreMessages mid xs rest → AreMessages mid ys other
    → EndsWith (run l s xs) rest out status → EndsWith (run l s ys) other more code → (out ≡ more) × (status ≡ code)

one-more : (l : Language) (s : Session) (x mid : List ℕ) (xs ys : List (List ℕ)) (rest other out more : List ℕ) (status code : ℕ) →
    AreMessages mid xs rest → AreMessages mid ys other → Onwards l (step l s x).after mid xs ys →
    EndsWith (run l s (x ∷ xs)) rest out status → EndsWith (run l s (x ∷ ys)) other more code → (out ≡ more) × (status ≡ code)
one-more l s x mid xs ys rest other out more status code a b onwards e f =
    let k = step l s x in
    let t = run l k.after xs in
    let u = run l k.after ys in
    let e' = subst (λ (j : Step). EndsWith j rest out status) (run-cons l s x xs) e in
    let f' = subst (λ (j : Step). EndsWith j other more code) (run-cons l s x ys) f in
    elim (cases-status k.status) [
      | inl none ↦
          (let p = after-first k t rest out status none e' in
          let q = after-first k u other more code none f' in
          let same = onwards rest other p.0 q.0 status code a b p.1 q.1 in
          (p.2 ∙ ap (λ behind. written k.replies ++ behind) same.0 ∙ sym q.2, same.1))
      | inr told ↦ ended-first k t u rest other out more status code told.0 told.1 e' f'
    ]

one : (l : Language) (s : Session) (input : List ℕ) (xs ys : List (List ℕ)) (rest other out more : List ℕ) (status code : ℕ) →
    AreMessages input xs rest → AreMessages input ys other → EndsWith (run l s xs) rest out status → EndsWith (run l s ys) other more code →
    (out ≡ more) × (status ≡ code)
one l s input [] [] rest other out more status code a b e f =
    nil-one s other out more status code
    (subst (λ r. EndsWith (silent s) r out status) (sym a ∙ b) (subst (λ (k : Step). EndsWith k rest out status) (run-nil l s) e))
    (subst (λ (k : Step). EndsWith k other more code) (run-nil l s) f)
one l s input [] (y ∷ ys) rest other out more status code a b e f =
    let end = subst (λ (k : Step). EndsWith k rest out status) (run-nil l s) e in
    absurd (end-none end.0 input y b.0 (subst (IsEnd end.0) (sym a) end.1) b.1)
one l s input (x ∷ xs) [] rest other out more status code a b e f =
    let end = subst (λ (k : Step). EndsWith k other more code) (run-nil l s) f in
    absurd (end-none end.0 input x a.0 (subst (IsEnd end.0) (sym b) end.1) a.1)
one l s input (x ∷ xs) (y ∷ ys) rest other out more status code a b e f =
    let same = messages-one input x a.0 y b.0 a.1 b.1 in
    let b' = subst (λ mid. AreMessages mid ys other) (sym same.1) b.2 in
    let f' = subst (λ z. EndsWith (run l s (z ∷ ys)) other more code) (sym same.0) f in
    one-more l s x a.0 xs ys rest other out more status code a.2 b'
    (λ rest other out more status code m n e f. one l (step l s x).after a.0 xs ys rest other out more status code m n e f) e f'

pub answers-one : (l : Language) (input out other : List ℕ) (status code : ℕ) → IsAnswered l input out status → IsAnswered l input other code → (out ≡ other) × (status ≡ code)
answers-one l input out other status code a b = one l begun input a.bodies b.bodies a.rest b.rest out other status code a.messages b.messages a.ends b.ends

-- ---- a part of the answer

-- what comes first of these
abbrev IsFront : List ℕ → List ℕ → Type 0
IsFront part out = (more : List ℕ) × (part ++ more ≡ out)

nil-is : (a b : List ℕ) → a ++ b ≡ [] → a ≡ []
nil-is [] b is = refl
nil-is (x ∷ a) b is = absurd (cc)

no-front : (part more out : List ℕ) → part ++ more ≡ [] → IsFront part out
no-front part more out is = (out, ap (λ p. p ++ out) (nil-is part more is))

-- no message was read
nil-front : (s : Session) (rest part more out : List ℕ) (last : List Reply) (status : ℕ) →
    IsLast None rest last → part ++ more ≡ written last → EndsWith (silent s) rest out status → IsFront part out
nil-front s rest part more out last status (inl none) front e = no-front part more out (front ∙ ap written none)
nil-front s rest part more out last status (inr ends) front e =
    let same = ends-one e.0 Malformed rest e.1 ends.1 in
    (more, front ∙ ap written ends.2 ∙ sym (e.2 ∙ ap (λ end. written (last_words end)) same))

-- messages were read, and none is there
nil-early : (input part more out x behind : List ℕ) (last : List Reply) → IsMessage input x behind → IsLast None input last → part ++ more ≡ written last → IsFront part out
nil-early input part more out x behind last m (inl none) front = no-front part more out (front ∙ ap written none)
nil-early input part more out x behind last m (inr ends) front = absurd (end-none Malformed input x behind ends.1 m)

-- where one list ends within another
split-two : (p m a b : List ℕ) → p ++ m ≡ a ++ b → ((q : List ℕ) × (p ≡ a ++ q) × (q ++ m ≡ b)) ⊎ ((d : List ℕ) × (p ++ d ≡ a))
split-two p m [] b is = inl (p, refl, is)
split-two [] m (x ∷ a) b is = inr (x ∷ a, refl)
split-two (y ∷ p) m (x ∷ a) b is =
    let heads : y ≡ x = cc in
    let tails : p ++ m ≡ a ++ b = cc in
    elim (split-two p m a b tails) [
      | inl q ↦ inl (q.0, ap (λ z. z ∷ p) heads ∙ ap (λ zs. x ∷ zs) q.1, q.2)
      | inr d ↦ inr (d.0, ap (λ z. z ∷ (p ++ d.0)) heads ∙ ap (λ zs. x ∷ zs) d.1)
    ]

front-behind : (part more w tail behind : List ℕ) → part ++ more ≡ w ++ tail → ((q : List ℕ) → q ++ more ≡ tail → IsFront q behind) → IsFront part (w ++ behind)
front-behind part more w tail behind is later =
    elim (split-two part more w tail is) [
      | inl q ↦
          (let f = later q.0 q.2 in
          (f.0, ap (λ p. p ++ f.0) q.1 ∙ append_assoc w q.0 f.0 ∙ ap (λ r. w ++ r) f.1))
      | inr d ↦ (d.0 ++ behind, sym (append_assoc part d.0 behind) ∙ ap (λ p. p ++ behind) d.1)
    ]

last-some : (told : ℕ) (rest : List ℕ) (last : List Reply) → IsLast (Some told) rest last → last ≡ []
last-some told rest last (inl none) = none
last-some told rest last (inr ends) = absurd (let no = ends.0 in cc)

-- behind the same message
abbrev Fronts : Language → Session → List ℕ → List (List ℕ) → List (List ℕ) → Type 0
Fronts l s mid xs ys =
    (rest other part more out : List ℕ) (last : List Reply) (status : ℕ) → AreMessages mid xs rest → AreMessages mid ys other
    → IsLast (run l s xs).status rest last → part ++ more ≡ written ((run l s xs).replies ++ last) → EndsWith (run l s ys) other out status → IsFront part out

more-front : (l : Language) (s : Session) (x mid : List ℕ) (xs ys : List (List ℕ)) (rest other part more out : List ℕ) (last : List Reply) (status : ℕ) →
    AreMessages mid xs rest → AreMessages mid ys other → Fronts l (step l s x).after mid xs ys →
    IsLast (run l s (x ∷ xs)).status rest last → part ++ more ≡ written ((run l s (x ∷ xs)).replies ++ last) → EndsWith (run l s (x ∷ ys)) other out status → IsFront part out
more-front l s x mid xs ys rest other part more out last status a b fronts is front e =
    let k = step l s x in
    let t = run l k.after xs in
    let u = run l k.after ys in
    let is' = subst (λ (j : Step). IsLast j.status rest last) (run-cons l s x xs) is in
    let front' = subst (λ (j : Step). part ++ more ≡ written (j.replies ++ last)) (run-cons l s x xs) front in
    let e' = subst (λ (j : Step). EndsWith j other out status) (run-cons l s x ys) e in
    elim (cases-status k.status) [
      | inl none ↦
          (let q = after-first k u other out status none e' in
          let is'' = subst (λ (o : Option ℕ). IsLast (joined o k t).status rest last) none is' in
          let front'' = subst (λ (o : Option ℕ). part ++ more ≡ written ((joined o k t).replies ++ last)) none front' in
          let cut : part ++ more ≡ written k.replies ++ written (t.replies ++ last) =
          front'' ∙ ap written (append_assoc k.replies t.replies last) ∙ written-both k.replies (t.replies ++ last) in
          let f = front-behind part more (written k.replies) (written (t.replies ++ last)) q.0 cut (λ p h. fronts rest other p more q.0 last status a b is'' h q.1) in
          (f.0, f.1 ∙ sym q.2))
      | inr told ↦
          (let is'' = subst (λ (o : Option ℕ). IsLast (joined o k t).status rest last) told.1 is' in
          let front'' = subst (λ (o : Option ℕ). part ++ more ≡ written ((joined o k t).replies ++ last)) told.1 front' in
          let e'' = subst (λ (o : Option ℕ). EndsWith (joined o k u) other out status) told.1 e' in
          let all = ended-out k told.0 other out status told.1 e'' in
          let none = last-some told.0 rest last (subst (λ (o : Option ℕ). IsLast o rest last) told.1 is'') in
          (more, front'' ∙ ap (λ rs. written (k.replies ++ rs)) none ∙ ap written (append-nil k.replies) ∙ sym all))
    ]
  where
    ended-out : (k : Step) (told : ℕ) (rest out : List ℕ) (status : ℕ) → k.status ≡ Some told → EndsWith k rest out status → out ≡ written k.replies
    ended-out k told rest out status is e = (subst (λ (o : Option ℕ). Ends o k rest out status) is e).0

part-front : (l : Language) (s : Session) (input : List ℕ) (xs ys : List (List ℕ)) (rest other part more out : List ℕ) (last : List Reply) (status : ℕ) →
    AreMessages input xs rest → AreMessages input ys other → IsLast (run l s xs).status rest last → part ++ more ≡ written ((run l s xs).replies ++ last) →
    EndsWith (run l s ys) other out status → IsFront part out
part-front l s input [] [] rest other part more out last status a b is front e =
    nil-front s rest part more out last status
    (subst (λ (k : Step). IsLast k.status rest last) (run-nil l s) is)
    (subst (λ (k : Step). part ++ more ≡ written (k.replies ++ last)) (run-nil l s) front)
    (subst (λ r. EndsWith (silent s) r out status) (sym b ∙ a) (subst (λ (k : Step). EndsWith k other out status) (run-nil l s) e))
part-front l s input [] (y ∷ ys) rest other part more out last status a b is front e =
    nil-early input part more out y b.0 last b.1
    (subst (λ r. IsLast None r last) (sym a) (subst (λ (k : Step). IsLast k.status rest last) (run-nil l s) is))
    (subst (λ (k : Step). part ++ more ≡ written (k.replies ++ last)) (run-nil l s) front)
part-front l s input (x ∷ xs) [] rest other part more out last status a b is front e =
    let end = subst (λ (k : Step). EndsWith k other out status) (run-nil l s) e in
    absurd (end-none end.0 input x a.0 (subst (IsEnd end.0) (sym b) end.1) a.1)
part-front l s input (x ∷ xs) (y ∷ ys) rest other part more out last status a b is front e =
    let same = messages-one input x a.0 y b.0 a.1 b.1 in
    let b' = subst (λ mid. AreMessages mid ys other) (sym same.1) b.2 in
    let e' = subst (λ z. EndsWith (run l s (z ∷ ys)) other out status) (sym same.0) e in
    more-front l s x a.0 xs ys rest other part more out last status a.2 b'
    (λ rest other part more out last status m n is front e. part-front l (step l s x).after a.0 xs ys rest other part more out last status m n is front e) is front e'

pub parts-front : (l : Language) (input part out : List ℕ) (status : ℕ) → IsPartlyAnswered l input part → IsAnswered l input out status → (more : List ℕ) × (part ++ more ≡ out)
parts-front l input part out status p a =
    part-front l begun input p.bodies a.bodies p.rest a.rest part p.more out p.last status p.messages a.messages p.is_last p.front a.ends
