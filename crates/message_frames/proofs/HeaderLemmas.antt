-- Lemmas on headers.
use Rattle.std.proofs.Common.{All, ◌≡◌, ℕ, ◌+◌, ◌*◌, ◌<◌, ◌≤◌, List, [], ◌∷◌, ◌++◌, length, drop, length-append, Option, Some, None, Result, Ok, Err, inl, inr, refl, ap, sym, subst, ◌∙◌, append_assoc, arith}
use Rattle.std.specs.Prelude.{OnErr}
use Rattle.std.specs.List.{flat_map}
use Rattle.std.proofs.lemmas.List.{append-nil}
use Rattle.std.proofs.lemmas.List.Elements.{All-head, All-nil, All-tail}
use Rattle.httparse.specs.Grammar.{Field, IsField, LineEnd, crlf, lf, HasNoSection, NeverHasSection, ReadsSection, print_end, print_field, print_section}
use Rattle.httparse.specs.Outcome.{OnInvalid, OnTooManyHeaders}
use Rattle.httparse.specs.Spans.{SectionExceeds, SectionOverflows}
use Rattle.httparse.specs.declared.Error.{Error}
use Rattle.httparse.specs.declared.Error.TheVariants.{HeaderName, HeaderValue, NewLine, Status, Token, TooManyHeaders, Version}
use Rattle.httparse.proofs.GrammarLemmas.{ReadsSection-append, section_unique}
use Rattle.message_frames.specs.Headers.{Begins, HasNoLength, IsLongHeader, IsOpenHeader, MAX_HEADER, told_length}

-- ---- lengths

end-length : (end : LineEnd) → 1 ≤ length (print_end end)
end-length crlf = omega arith
end-length lf = omega arith

field-length : (f : Field) → IsField f → 3 ≤ length (print_field f)
field-length f is =
    let name = is.name.0 in
    let last = end-length f.end in
    simp length-append (omega arith)

fields-length : (fs : List Field) → All IsField fs → 3 * length fs ≤ length (flat_map print_field fs)
fields-length [] is = omega arith
fields-length (f ∷ fs) is =
    let first = field-length f (All-head IsField f fs is) in
    let rest = fields-length fs (All-tail IsField f fs is) in
    omega (arith, length-append (print_field f) (flat_map print_field fs))

section-length : (fs : List Field) (last : LineEnd) → All IsField fs → 3 * length fs < length (print_section fs last)
section-length fs last is =
    let each = fields-length fs is in
    let end = end-length last in
    omega (arith, length-append (flat_map print_field fs) (print_end last))

-- ---- one header at the front

pub begins-one : (bytes : List ℕ) (l m : ℕ) (t u : Option ℕ) → Begins bytes l t → Begins bytes m u → (l ≡ m) × (t ≡ u)
begins-one bytes l m t u a b =
    let same = section_unique bytes a.fields b.fields a.last b.last (drop l bytes) (drop m bytes) a.reads b.reads in
    let lens : l ≡ m = a.len_is ∙ ap (λ fs. length (print_section fs a.last)) same.0 ∙ ap (λ e. length (print_section b.fields e)) same.1 ∙ sym b.len_is in
    (lens, sym a.told_is ∙ ap told_length same.0 ∙ b.told_is)

-- a section that is longer than a header
pub long-section :
    (bytes : List ℕ) (fs : List Field) (last : LineEnd) (rest : List ℕ) (l : ℕ) (t : Option ℕ)
    → ReadsSection bytes fs last rest → MAX_HEADER < length (print_section fs last) → Begins bytes l t → ⊥
long-section bytes fs last rest l t reads long b =
    let same = section_unique bytes fs b.fields last b.last rest (drop l bytes) reads b.reads in
    let lens : length (print_section fs last) ≡ l = ap (λ fs. length (print_section fs last)) same.0 ∙ ap (λ e. length (print_section b.fields e)) same.1 ∙ sym b.len_is in
    let fits = b.fits in
    absurd (omega arith)

pub long-whole :
    (bytes : List ℕ) (l : ℕ) (fs : List Field) (last : LineEnd) → ReadsSection bytes fs last (drop l bytes) → l ≡ 0 + length (print_section fs last)
    → MAX_HEADER < l → l ≤ length bytes → HasNoLength bytes
long-whole bytes l fs last reads is long fits =
    inr (inl (record { long = omega arith; none = λ m t b. long-section bytes fs last (drop l bytes) m t reads (omega arith) b }))

-- ---- headers that the parser refuses

many-fields : (room : ℕ) (bytes : List ℕ) (l : ℕ) (t : Option ℕ) → room ≡ 1365 → SectionOverflows room bytes → Begins bytes l t → ⊥
many-fields room bytes l t is over b =
    let more = over [] b.fields b.last (drop l bytes ++ []) (ReadsSection-append bytes b.fields b.last (drop l bytes) [] b.reads) in
    let long = section-length b.fields b.last b.reads.0 in
    let fits = b.fits in
    let len = b.len_is in
    absurd (omega arith)

long-bytes : (room : ℕ) (bytes : List ℕ) → room ≡ 1365 → SectionExceeds room bytes → MAX_HEADER < length bytes
long-bytes room bytes is e =
    let front = e.0 in
    let rest = e.1 in
    let fields = e.3 in
    let reads = e.4 in
    let long = section-length fields lf reads.0 in
    let many = e.5 in
    let printed : length (front ++ print_end lf) ≡ length (print_section fields lf) = ap length reads.1 ∙ ap length (append-nil (print_section fields lf)) in
    let whole : length bytes ≡ length (front ++ rest) = ap length e.2 in
    omega (arith, length-append front (print_end lf), length-append front rest)

too-many : (room : ℕ) (bytes : List ℕ) → room ≡ 1365 → SectionOverflows room bytes → SectionExceeds room bytes → HasNoLength bytes
too-many room bytes is over e = inr (inl (record { long = long-bytes room bytes is e; none = λ l t b. many-fields room bytes l t is over b }))

pub refused :
    {A : Type 0} (r : Result A Error) (e : Error) (room : ℕ) (bytes : List ℕ) → r ≡ Err e → room ≡ 1365
    → OnInvalid r (NeverHasSection bytes) → OnErr r (SectionOverflows room bytes) → OnTooManyHeaders r (SectionExceeds room bytes) → HasNoLength bytes
refused (Ok x) e room bytes was is invalid over many = absurd (cc)
refused (Err TooManyHeaders) e room bytes was is invalid over many = too-many room bytes is over (many refl)
refused (Err HeaderName) e room bytes was is invalid over many = inl (invalid (λ same. absurd (cc)))
refused (Err HeaderValue) e room bytes was is invalid over many = inl (invalid (λ same. absurd (cc)))
refused (Err NewLine) e room bytes was is invalid over many = inl (invalid (λ same. absurd (cc)))
refused (Err Status) e room bytes was is invalid over many = inl (invalid (λ same. absurd (cc)))
refused (Err Token) e room bytes was is invalid over many = inl (invalid (λ same. absurd (cc)))
refused (Err Version) e room bytes was is invalid over many = inl (invalid (λ same. absurd (cc)))

-- ---- bytes that follow

split-front : (bytes more front rest : List ℕ) → bytes ++ more ≡ front ++ rest → length front ≤ length bytes → bytes ≡ front ++ drop (length front) bytes
split-front bytes more [] rest is fits = refl
split-front [] more (f ∷ front) rest is fits = absurd (omega arith)
split-front (b ∷ bytes) more (f ∷ front) rest is fits =
    let heads : b ≡ f = cc in
    let tails : bytes ++ more ≡ front ++ rest = cc in
    ap (λ x. x ∷ bytes) heads ∙ ap (λ xs. f ∷ xs) (split-front bytes more front rest tails (omega arith))

drop-front : (front rest : List ℕ) → drop (length front) (front ++ rest) ≡ rest
drop-front [] rest = refl
drop-front (f ∷ front) rest = drop-front front rest

pub begins-more : (bytes more : List ℕ) (l : ℕ) (t : Option ℕ) → Begins bytes l t → Begins (bytes ++ more) l t
begins-more bytes more l t b = record {
  fields = b.fields;
  last = b.last;
  reads = subst (ReadsSection (bytes ++ more) b.fields b.last) (sym rest) (ReadsSection-append bytes b.fields b.last (drop l bytes) more b.reads);
  len_is = b.len_is;
  told_is = b.told_is;
  fits = b.fits;
}
  where
    printed : List ℕ
    printed = print_section b.fields b.last

    rest : drop l (bytes ++ more) ≡ drop l bytes ++ more
    rest =
        ap (λ bs. drop l (bs ++ more)) b.reads.1 ∙ ap (drop l) (append_assoc printed (drop l bytes) more)
        ∙ ap (λ n. drop n (printed ++ (drop l bytes ++ more))) b.len_is ∙ drop-front printed (drop l bytes ++ more)

-- a header at the front of many bytes is at the front of the first of them
pub begins-less : (bytes more : List ℕ) (l : ℕ) (t : Option ℕ) → MAX_HEADER < length bytes → Begins (bytes ++ more) l t → Begins bytes l t
begins-less bytes more l t long b = record {
  fields = b.fields;
  last = b.last;
  reads = (b.reads.0, split-front bytes more printed (drop l (bytes ++ more)) b.reads.1 short ∙ ap (λ n. printed ++ drop n bytes) (sym b.len_is));
  len_is = b.len_is;
  told_is = b.told_is;
  fits = b.fits;
}
  where
    printed : List ℕ
    printed = print_section b.fields b.last

    short : length printed ≤ length bytes
    short = (let fits = b.fits in let is = b.len_is in omega arith)

pub begins-fits : (bytes : List ℕ) (l : ℕ) (t : Option ℕ) → Begins bytes l t → l ≤ length bytes
begins-fits bytes l t b =
    let whole : length bytes ≡ length (print_section b.fields b.last ++ drop l bytes) = ap length b.reads.1 in
    let is = b.len_is in
    omega (arith, length-append (print_section b.fields b.last) (drop l bytes))

pub begins-some : (bytes : List ℕ) (l : ℕ) (t : Option ℕ) → Begins bytes l t → 0 < l
begins-some bytes l t b =
    let long = section-length b.fields b.last b.reads.0 in
    let is = b.len_is in
    omega arith

-- ---- no header

pub open-none : (bytes : List ℕ) (l : ℕ) (t : Option ℕ) → IsOpenHeader bytes → Begins bytes l t → ⊥
open-none bytes l t o b = absurd (o.none b.fields b.last (drop l bytes) b.reads)

pub never-none : (bytes : List ℕ) (l : ℕ) (t : Option ℕ) → NeverHasSection bytes → Begins bytes l t → ⊥
never-none bytes l t never b = absurd (never [] b.fields b.last (drop l bytes ++ []) (ReadsSection-append bytes b.fields b.last (drop l bytes) [] b.reads))

pub never-open : (bytes : List ℕ) → NeverHasSection bytes → IsOpenHeader bytes → ⊥
never-open bytes never o =
    let may = o.may in
    absurd (never may.0 may.1 may.2 [] may.3)

never-more : (bytes more : List ℕ) → NeverHasSection bytes → NeverHasSection (bytes ++ more)
never-more bytes more never after = subst HasNoSection (sym (append_assoc bytes more after)) (never (more ++ after))

long-more : (bytes more : List ℕ) → IsLongHeader bytes → IsLongHeader (bytes ++ more)
long-more bytes more h = record {
  long = (let long = h.long in omega (arith, length-append bytes more));
  none = λ l t b. h.none l t (begins-less bytes more l t h.long b);
}

pub no-length-more : (bytes more : List ℕ) → HasNoLength bytes → HasNoLength (bytes ++ more)
no-length-more bytes more (inl never) = inl (never-more bytes more never)
no-length-more bytes more (inr (inl long)) = inr (inl (long-more bytes more long))
no-length-more bytes more (inr (inr told)) = inr (inr (told.0, begins-more bytes more told.0 None told.1))

pub no-length-none : (bytes : List ℕ) (l n : ℕ) → HasNoLength bytes → Begins bytes l (Some n) → ⊥
no-length-none bytes l n (inl never) b = never-none bytes l (Some n) never b
no-length-none bytes l n (inr (inl long)) b = long.none l (Some n) b
no-length-none bytes l n (inr (inr told)) b =
    let same = begins-one bytes l told.0 (Some n) None b told.1 in
    absurd (let two = same.1 in cc)

pub no-length-open : (bytes : List ℕ) → HasNoLength bytes → IsOpenHeader bytes → ⊥
no-length-open bytes (inl never) o = never-open bytes never o
no-length-open bytes (inr (inl long)) o = absurd (let l = long.long in let f = o.fits in omega arith)
no-length-open bytes (inr (inr told)) o = open-none bytes told.0 None o told.1

-- nothing is the front of a header
pub open-nil : IsOpenHeader []
open-nil = record {
  none = λ fs last rest reads.
      let long = section-length fs last reads.0 in
      let whole : 0 ≡ length (print_section fs last ++ rest) = ap length reads.1 in
      absurd (omega (arith, length-append (print_section fs last) rest));
  may = (print_end lf, [], lf, (All-nil IsField, refl));
  fits = omega arith;
}
