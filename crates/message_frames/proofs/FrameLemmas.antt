-- Lemmas on messages of a stream.
use Rattle.std.proofs.Common.{◌≡◌, ℕ, ◌+◌, ◌-◌, ◌≤◌, List, [], ◌∷◌, ◌++◌, length, take, drop, length-append, Option, Some, inl, inr, refl, ap, sym, subst, ◌∙◌, append_assoc, arith}
use Rattle.std.proofs.lemmas.List.{drop-append-le, drop-drop, length-drop, length-take, take-append-drop}
use Rattle.message_frames.specs.Headers.{Begins}
use Rattle.message_frames.specs.Frames.{AreMessages, Clean, Cut, End, IsBroken, IsEnd, IsLongBody, IsMessage, IsUnfinished, MAX_BODY, Malformed}
use Rattle.message_frames.proofs.HeaderLemmas.{begins-fits, begins-more, begins-one, begins-some, no-length-more, no-length-none, no-length-open, open-nil, open-none}

same-front : (a b x y : List ℕ) → a ++ x ≡ b ++ y → length a ≡ length b → (a ≡ b) × (x ≡ y)
same-front [] [] x y is lens = (refl, is)
same-front [] (b ∷ bs) x y is lens = absurd (omega arith)
same-front (a ∷ cs) [] x y is lens = absurd (omega arith)
same-front (a ∷ cs) (b ∷ bs) x y is lens =
    let heads : a ≡ b = cc in
    let tails : cs ++ x ≡ bs ++ y = cc in
    let rest = same-front cs bs x y tails (omega arith) in
    (ap (λ c. c ∷ cs) heads ∙ ap (λ cs. b ∷ cs) rest.0, rest.1)

some-same : (m n : ℕ) → Some m ≡ Some n → m ≡ n
some-same m n is = cc

pub messages-one : (bytes body behind other rest : List ℕ) → IsMessage bytes body behind → IsMessage bytes other rest → (body ≡ other) × (behind ≡ rest)
messages-one bytes body behind other rest a b =
    let same = begins-one bytes a.len b.len (Some (length body)) (Some (length other)) a.begins b.begins in
    let all : body ++ behind ≡ other ++ rest = sym a.all ∙ ap (λ n. drop n bytes) same.0 ∙ b.all in
    same-front body other behind rest all (some-same (length body) (length other) same.1)

-- what is at the front of bytes with a message
message-fits : (bytes body behind : List ℕ) (m : IsMessage bytes body behind) → m.len + length body ≤ length bytes
message-fits bytes body behind m =
    let whole : length (drop m.len bytes) ≡ length (body ++ behind) = ap length m.all in
    let begun = begins-fits bytes m.len (Some (length body)) m.begins in
    omega (arith, length-append body behind, length-drop m.len bytes)

unfinished-none : (bytes body behind : List ℕ) → IsUnfinished bytes → IsMessage bytes body behind → ⊥
unfinished-none bytes body behind (inl o) m = open-none bytes m.len (Some (length body)) o m.begins
unfinished-none bytes body behind (inr o) m =
    let same = begins-one bytes o.len m.len (Some o.body) (Some (length body)) o.begins m.begins in
    let lens = some-same o.body (length body) same.1 in
    let here = same.0 in
    let early = o.ends_early in
    let fits = message-fits bytes body behind m in
    absurd (omega arith)

broken-none : (bytes body behind : List ℕ) → IsBroken bytes → IsMessage bytes body behind → ⊥
broken-none bytes body behind (inl none) m = no-length-none bytes m.len (length body) none m.begins
broken-none bytes body behind (inr l) m =
    let same = begins-one bytes l.len m.len (Some l.body) (Some (length body)) l.begins m.begins in
    let lens = some-same l.body (length body) same.1 in
    let long = l.long in
    let fits = m.fits in
    absurd (omega arith)

clean-none : (bytes : List ℕ) (l : ℕ) (t : Option ℕ) → bytes ≡ [] → Begins bytes l t → ⊥
clean-none bytes l t none b =
    let fits = begins-fits bytes l t b in
    let some = begins-some bytes l t b in
    let len : length bytes ≡ 0 = ap length none in
    absurd (omega arith)

pub end-none : (end : End) (bytes body behind : List ℕ) → IsEnd end bytes → IsMessage bytes body behind → ⊥
end-none Clean bytes body behind is m = clean-none bytes m.len (Some (length body)) is m.begins
end-none Cut bytes body behind is m = unfinished-none bytes body behind is.1 m
end-none Malformed bytes body behind is m = broken-none bytes body behind is m

broken-unfinished : (bytes : List ℕ) → IsBroken bytes → IsUnfinished bytes → ⊥
broken-unfinished bytes (inl none) (inl o) = no-length-open bytes none o
broken-unfinished bytes (inl none) (inr o) = no-length-none bytes o.len o.body none o.begins
broken-unfinished bytes (inr l) (inl o) = open-none bytes l.len (Some l.body) o l.begins
broken-unfinished bytes (inr l) (inr o) =
    let same = begins-one bytes l.len o.len (Some l.body) (Some o.body) l.begins o.begins in
    let lens = some-same l.body o.body same.1 in
    let long = l.long in
    let fits = o.fits in
    absurd (omega arith)

clean-broken : (bytes : List ℕ) → bytes ≡ [] → IsBroken bytes → ⊥
clean-broken bytes none is = broken-unfinished [] (subst IsBroken none is) (inl open-nil)

pub ends-one : (one other : End) (bytes : List ℕ) → IsEnd one bytes → IsEnd other bytes → one ≡ other
ends-one Clean Clean bytes a b = refl
ends-one Clean Cut bytes a b = absurd (b.0 a)
ends-one Clean Malformed bytes a b = absurd (clean-broken bytes a b)
ends-one Cut Clean bytes a b = absurd (a.0 b)
ends-one Cut Cut bytes a b = refl
ends-one Cut Malformed bytes a b = absurd (broken-unfinished bytes b a.1)
ends-one Malformed Clean bytes a b = absurd (clean-broken bytes b a)
ends-one Malformed Cut bytes a b = absurd (broken-unfinished bytes a b.1)
ends-one Malformed Malformed bytes a b = refl

-- ---- bytes that follow

pub message-more : (bytes body behind more : List ℕ) → IsMessage bytes body behind → IsMessage (bytes ++ more) body (behind ++ more)
message-more bytes body behind more m = record {
  len = m.len;
  begins = begins-more bytes more m.len (Some (length body)) m.begins;
  fits = m.fits;
  all = drop-append-le m.len bytes more (begins-fits bytes m.len (Some (length body)) m.begins) ∙ ap (λ bs. bs ++ more) m.all ∙ append_assoc body behind more;
}

pub messages-more : (bytes : List ℕ) (bodies : List (List ℕ)) (rest more : List ℕ) → AreMessages bytes bodies rest → AreMessages (bytes ++ more) bodies (rest ++ more)
messages-more bytes [] rest more is = ap (λ bs. bs ++ more) is
messages-more bytes (body ∷ bodies) rest more is =
    (is.0 ++ more, message-more bytes body is.0 more is.1, messages-more is.0 bodies rest more is.2)

long-body-more : (bytes more : List ℕ) → IsLongBody bytes → IsLongBody (bytes ++ more)
long-body-more bytes more l = record { len = l.len; body = l.body; begins = begins-more bytes more l.len (Some l.body) l.begins; long = l.long }

pub broken-more : (bytes more : List ℕ) → IsBroken bytes → IsBroken (bytes ++ more)
broken-more bytes more (inl none) = inl (no-length-more bytes more none)
broken-more bytes more (inr l) = inr (long-body-more bytes more l)

-- ---- what is read

pub message-read :
    (bytes : List ℕ) (start body : ℕ) → Begins bytes start (Some body) → body ≤ MAX_BODY → start + body ≤ length bytes
    → IsMessage bytes (take ((start + body) - start) (drop start bytes)) (drop (start + body) bytes)
message-read bytes start body b fits whole = record {
  len = start;
  begins = subst (λ n. Begins bytes start (Some n)) (sym len) b;
  fits = (let is = len in omega arith);
  all = sym (take-append-drop ((start + body) - start) (drop start bytes)) ∙ ap (λ r. take ((start + body) - start) (drop start bytes) ++ r) rest;
}
  where
    len : length (take ((start + body) - start) (drop start bytes)) ≡ body
    len = omega (arith, length-take ((start + body) - start) (drop start bytes), length-drop start bytes)

    rest : drop ((start + body) - start) (drop start bytes) ≡ drop (start + body) bytes
    rest = drop-drop ((start + body) - start) start bytes ∙ ap (λ n. drop n bytes) (omega arith)
