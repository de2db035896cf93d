-- Lemmas on a server that reads and writes.
use Rattle.std.proofs.Common.{◌≡◌, ◌≢◌, ◌≤◌, ℕ, List, [], ◌++◌, length, take, drop, Option, Some, None, Result, Ok, Err, inl, inr, refl, ap, sym, subst, ◌∙◌, append_assoc}
use Rattle.std.specs.Prelude.{IfSome, OnErr}
use Rattle.std.specs.Io.KnownBytes.{Appends, Consumes, IsAtEnd}
use Rattle.std.proofs.KnownBytes.{Appends-nil, Appends-trans, Consumes-nil, Consumes-trans, Consumes-whole}
use Rattle.std.proofs.lemmas.List.{append-nil}
use Rattle.line_reader.specs.Clients.{AppendsFront}
use Rattle.message_frames.specs.Frames.{Clean, Cut, IsUnfinished, Malformed}
use Rattle.message_frames.proofs.FrameLemmas.{broken-more, messages-more}
use Rattle.message_frames.proofs.HeaderLemmas.{open-nil}
use Rattle.language_session.specs.Sessions.{Session, begun}
use Rattle.language_session.specs.Steps.{Language, Step, exit_status, written}
use Rattle.language_session.specs.Runs.{run}
use Rattle.session_server.specs.Answers.{Ends, IsAnswered, IsPartlyAnswered, refusal}
use Rattle.session_server.specs.Turns.{AreAnswered, EndsNow, IsEnded, IsTurn}
use Rattle.session_server.specs.declared.server.Next.{Next}
use Rattle.session_server.specs.declared.server.Next.TheVariants as nexts
use Rattle.session_server.proofs.Turning.{are-join, are-none, ended-join}

-- what was read is answered, but for a buffer that has no whole message
pub record IsServing (l : Language) (first now old new : Option (List ℕ)) (buffer : List ℕ) (s : Session) : Type 0 where
  pub taken : List ℕ
  pub told : List ℕ
  pub left : Consumes first now taken
  pub answered : AreAnswered l begun taken buffer s told
  pub contents : Appends old new told
  pub unfinished : IsUnfinished buffer

pub serving-none : (l : Language) (first old : Option (List ℕ)) (buffer : List ℕ) (s : Session) → buffer ≡ [] → s ≡ begun → IsServing l first first old old buffer s
serving-none l first old buffer s none is = record {
  taken = [];
  told = [];
  left = Consumes-nil first;
  answered = subst (λ b. AreAnswered l begun [] b s []) (sym none) (subst (λ t. AreAnswered l begun [] [] t []) (sym is) (are-none l begun []));
  contents = Appends-nil old;
  unfinished = subst (λ b. IsUnfinished b) (sym none) (inl open-nil);
}

-- ---- parts of an input

with-input : (first now : Option (List ℕ)) (taken : List ℕ) (P : List ℕ → Type 0) → Consumes first now taken → ((more : List ℕ) → P (taken ++ more)) → IfSome first P
with-input None now taken P left all = tt
with-input (Some input) None taken P left all = absurd left
with-input (Some input) (Some rest) taken P left all = subst P (sym left) (all rest)

-- what is written on an error
abbrev pub Part : Language → Option (List ℕ) → Option (List ℕ) → List ℕ → Type 0
Part l old new input = (out : List ℕ) × IsPartlyAnswered l input out × Appends old new out

-- what is written by a server that ends
abbrev pub Whole : Language → Option (List ℕ) → Option (List ℕ) → ℕ → List ℕ → Type 0
Whole l old new status input = (out : List ℕ) × IsAnswered l input out status × Appends old new out

are-part : (l : Language) (taken rest : List ℕ) (s : Session) (told part tail more : List ℕ) → AreAnswered l begun taken rest s told → part ++ tail ≡ told →
    IsPartlyAnswered l (taken ++ more) part
are-part l taken rest s told part tail more a is = record {
  bodies = a.bodies;
  rest = rest ++ more;
  messages = messages-more taken a.bodies rest more a.messages;
  last = [];
  is_last = inl refl;
  more = tail;
  front = is ∙ a.told_is ∙ ap written (sym (append-nil (run l begun a.bodies).replies));
}

ended-part : (l : Language) (taken told part tail more : List ℕ) (status : ℕ) → IsEnded l begun taken told status → part ++ tail ≡ told →
    IsPartlyAnswered l (taken ++ more) part
ended-part l taken told part tail more status a is = by (run l begun a.bodies).status refl a.ends
  where
    k : Step
    k = run l begun a.bodies

    by : (o : Option ℕ) → k.status ≡ o → EndsNow o k a.rest told status → IsPartlyAnswered l (taken ++ more) part
    by (Some code) same ends = record {
      bodies = a.bodies;
      rest = a.rest ++ more;
      messages = messages-more taken a.bodies a.rest more a.messages;
      last = [];
      is_last = inl refl;
      more = tail;
      front = is ∙ ends.0 ∙ ap written (sym (append-nil k.replies));
    }
    by None same ends = record {
      bodies = a.bodies;
      rest = a.rest ++ more;
      messages = messages-more taken a.bodies a.rest more a.messages;
      last = refusal;
      is_last = inr (same, broken-more a.rest more ends.0, refl);
      more = tail;
      front = is ∙ ends.1;
    }

ended-whole : (l : Language) (taken told more : List ℕ) (status : ℕ) → IsEnded l begun taken told status → IsAnswered l (taken ++ more) told status
ended-whole l taken told more status a = record {
  bodies = a.bodies;
  rest = a.rest ++ more;
  messages = messages-more taken a.bodies a.rest more a.messages;
  ends = by (run l begun a.bodies).status a.ends;
}
  where
    k : Step
    k = run l begun a.bodies

    by : (o : Option ℕ) → EndsNow o k a.rest told status → Ends o k (a.rest ++ more) told status
    by (Some code) ends = ends
    by None ends = (Malformed, broken-more a.rest more ends.0, ends.1, ends.2)

-- ---- a read fails, or memory is short

pub serving-part : (l : Language) (first now old new : Option (List ℕ)) (buffer : List ℕ) (s : Session) → IsServing l first now old new buffer s →
    IfSome first (Part l old new)
serving-part l first now old new buffer s v =
    with-input first now v.taken (Part l old new) v.left
    (λ more. (v.told, are-part l v.taken buffer s v.told v.told [] more v.answered (append-nil v.told), v.contents))

-- ---- the end of the input

end-whole : (l : Language) (taken buffer : List ℕ) (s : Session) (told : List ℕ) → AreAnswered l begun taken buffer s told → buffer ≡ [] →
    IsAnswered l taken told (exit_status s.phase)
end-whole l taken buffer s told a none = record {
  bodies = a.bodies;
  rest = buffer;
  messages = a.messages;
  ends = subst (λ (o : Option ℕ). Ends o (run l begun a.bodies) buffer told (exit_status s.phase)) (sym a.goes_on)
      (Clean, none, a.told_is ∙ ap written (sym (append-nil (run l begun a.bodies).replies)), ap (λ (t : Session). exit_status t.phase) (sym a.after));
}

cut-whole : (l : Language) (taken buffer : List ℕ) (s : Session) (told : List ℕ) → AreAnswered l begun taken buffer s told → buffer ≢ [] → IsUnfinished buffer →
    IsAnswered l taken told 1
cut-whole l taken buffer s told a some is = record {
  bodies = a.bodies;
  rest = buffer;
  messages = a.messages;
  ends = subst (λ (o : Option ℕ). Ends o (run l begun a.bodies) buffer told 1) (sym a.goes_on)
      (Cut, (some, is), a.told_is ∙ ap written (sym (append-nil (run l begun a.bodies).replies)), refl);
}

pub serving-clean : (l : Language) (first now old new : Option (List ℕ)) (buffer : List ℕ) (s : Session) → IsServing l first now old new buffer s →
    IsAtEnd now → buffer ≡ [] → IfSome first (Whole l old new (exit_status s.phase))
serving-clean l first now old new buffer s v end none =
    Consumes-whole first now v.taken (Whole l old new (exit_status s.phase)) v.left end (v.told, end-whole l v.taken buffer s v.told v.answered none, v.contents)

pub serving-cut : (l : Language) (first now old new : Option (List ℕ)) (buffer : List ℕ) (s : Session) → IsServing l first now old new buffer s →
    IsAtEnd now → buffer ≢ [] → IfSome first (Whole l old new 1)
serving-cut l first now old new buffer s v end some =
    Consumes-whole first now v.taken (Whole l old new 1) v.left end (v.told, cut-whole l v.taken buffer s v.told v.answered some v.unfinished, v.contents)

-- a read that gives nothing
pub end-read : (first now mid : Option (List ℕ)) (l : Language) (old new : Option (List ℕ)) (buffer : List ℕ) (s : Session) →
    IsServing l first now old new buffer s → Consumes now mid [] → IsServing l first mid old new buffer s
end-read first now mid l old new buffer s v none = record {
  taken = v.taken;
  told = v.told;
  left = subst (Consumes first mid) (append-nil v.taken) (Consumes-trans first now mid v.taken [] v.left none);
  answered = v.answered;
  contents = v.contents;
  unfinished = v.unfinished;
}

-- ---- bytes were read

pub serving-more : (l : Language) (first now mid old new later : Option (List ℕ)) (buffer chunk rest : List ℕ) (s t : Session) (told : List ℕ) →
    IsServing l first now old new buffer s → Consumes now mid chunk → AreAnswered l s (buffer ++ chunk) rest t told → IsUnfinished rest →
    Appends new later told → IsServing l first mid old later rest t
serving-more l first now mid old new later buffer chunk rest s t told v read a is wrote = record {
  taken = v.taken ++ chunk;
  told = v.told ++ told;
  left = Consumes-trans first now mid v.taken chunk v.left read;
  answered = are-join l begun v.taken buffer s v.told chunk rest t told v.answered a;
  contents = Appends-trans old new later v.told told v.contents wrote;
  unfinished = is;
}

pub serving-ended : (l : Language) (first now mid old new later : Option (List ℕ)) (buffer chunk : List ℕ) (s : Session) (told : List ℕ) (status : ℕ) →
    IsServing l first now old new buffer s → Consumes now mid chunk → IsEnded l s (buffer ++ chunk) told status → Appends new later told →
    IfSome first (Whole l old later status)
serving-ended l first now mid old new later buffer chunk s told status v read a wrote =
    with-input first mid (v.taken ++ chunk) (Whole l old later status) (Consumes-trans first now mid v.taken chunk v.left read)
    (λ more. (
      v.told ++ told,
      ended-whole l (v.taken ++ chunk) (v.told ++ told) more status (ended-join l begun v.taken buffer s v.told chunk told status v.answered a),
      Appends-trans old new later v.told told v.contents wrote,
    ))

-- a write failed
pub more-part : (l : Language) (first now mid old new later : Option (List ℕ)) (buffer chunk rest : List ℕ) (s t : Session) (told : List ℕ) →
    IsServing l first now old new buffer s → Consumes now mid chunk → AreAnswered l s (buffer ++ chunk) rest t told → AppendsFront new later told →
    IfSome first (Part l old later)
more-part l first now mid old new later buffer chunk rest s t told v read a f =
    with-input first mid (v.taken ++ chunk) (Part l old later) (Consumes-trans first now mid v.taken chunk v.left read)
    (λ more. (
      v.told ++ f.0,
      are-part l (v.taken ++ chunk) rest t (v.told ++ told) (v.told ++ f.0) f.1 more
          (are-join l begun v.taken buffer s v.told chunk rest t told v.answered a)
          (append_assoc v.told f.0 f.1 ∙ ap (λ bs. v.told ++ bs) (sym f.2)),
      Appends-trans old new later v.told f.0 v.contents f.3,
    ))

pub end-part : (l : Language) (first now mid old new later : Option (List ℕ)) (buffer chunk : List ℕ) (s : Session) (told : List ℕ) (status : ℕ) →
    IsServing l first now old new buffer s → Consumes now mid chunk → IsEnded l s (buffer ++ chunk) told status → AppendsFront new later told →
    IfSome first (Part l old later)
end-part l first now mid old new later buffer chunk s told status v read a f =
    with-input first mid (v.taken ++ chunk) (Part l old later) (Consumes-trans first now mid v.taken chunk v.left read)
    (λ more. (
      v.told ++ f.0,
      ended-part l (v.taken ++ chunk) (v.told ++ told) (v.told ++ f.0) f.1 more status
          (ended-join l begun v.taken buffer s v.told chunk told status v.answered a)
          (append_assoc v.told f.0 f.1 ∙ ap (λ bs. v.told ++ bs) (sym f.2)),
      Appends-trans old new later v.told f.0 v.contents f.3,
    ))

-- ---- the answers to a buffer

pub turn-part : (l : Language) (first now mid old new later : Option (List ℕ)) (buffer chunk bytes : List ℕ) (s t : Session) (told : List ℕ) (next : Next) →
    IsServing l first now old new buffer s → Consumes now mid chunk → bytes ≡ buffer ++ chunk → IsTurn l s t bytes told next → AppendsFront new later told →
    IfSome first (Part l old later)
turn-part l first now mid old new later buffer chunk bytes s t told (nexts.GoesOn len) v read is turn f =
    more-part l first now mid old new later buffer chunk (drop len bytes) s t told v read (subst (λ bs. AreAnswered l s bs (drop len bytes) t told) is turn.1) f
turn-part l first now mid old new later buffer chunk bytes s t told (nexts.Ends status) v read is turn f =
    end-part l first now mid old new later buffer chunk s told status v read (subst (λ bs. IsEnded l s bs told status) is turn) f

pub turn-ended : (l : Language) (first now mid old new later : Option (List ℕ)) (buffer chunk bytes : List ℕ) (s t : Session) (told : List ℕ) (next : Next) (status : ℕ) →
    IsServing l first now old new buffer s → Consumes now mid chunk → bytes ≡ buffer ++ chunk → IsTurn l s t bytes told next → next ≡ nexts.Ends status → Appends new later told →
    IfSome first (Whole l old later status)
turn-ended l first now mid old new later buffer chunk bytes s t told next status v read is turn ends wrote =
    let ended = subst (IsTurn l s t bytes told) ends turn in
    serving-ended l first now mid old new later buffer chunk s told status v read (subst (λ bs. IsEnded l s bs told status) is ended) wrote

pub turn-fits : (l : Language) (bytes : List ℕ) (s t : Session) (told : List ℕ) (next : Next) (len : ℕ) → IsTurn l s t bytes told next → next ≡ nexts.GoesOn len → len ≤ length bytes
turn-fits l bytes s t told next len turn on = (subst (IsTurn l s t bytes told) on turn).0

pub turn-more : (l : Language) (first now mid old new later : Option (List ℕ)) (buffer chunk bytes rest : List ℕ) (s t : Session) (told : List ℕ) (next : Next) (len : ℕ) →
    IsServing l first now old new buffer s → Consumes now mid chunk → bytes ≡ buffer ++ chunk → IsTurn l s t bytes told next → next ≡ nexts.GoesOn len →
    Appends new later told → rest ≡ drop len bytes → IsServing l first mid old later rest t
turn-more l first now mid old new later buffer chunk bytes rest s t told next len v read is turn on wrote left =
    let goes = subst (IsTurn l s t bytes told) on turn in
    subst (λ r. IsServing l first mid old later r t) (sym left)
    (serving-more l first now mid old new later buffer chunk (drop len bytes) s t told v read (subst (λ bs. AreAnswered l s bs (drop len bytes) t told) is goes.1) goes.2 wrote)

pub front-whole : (old new : Option (List ℕ)) (bytes : List ℕ) → Appends old new bytes → AppendsFront old new bytes
front-whole old new bytes wrote = (bytes, [], sym (append-nil bytes), wrote)

pub nothing-read : (now mid : Option (List ℕ)) (n : ℕ) (buffer : List ℕ) → n ≡ 0 → Consumes now mid (take n buffer) → Consumes now mid []
nothing-read now mid n buffer none read = subst (λ k. Consumes now mid (take k buffer)) none read

-- ---- results

pub in-err : {T E : Type 0} (r : Result T E) (P : Type 0) → P → OnErr r P
in-err (Ok x) P p = tt
in-err (Err e) P p = p
