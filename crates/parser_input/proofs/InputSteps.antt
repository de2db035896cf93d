-- The parser's input, leaf by leaf.
use Rattle.std.proofs.Common.{◌≡◌, ◌∙◌, ◌≤◌, ◌<◌, ◌+◌, ◌-◌, ◌==◌, ℕ, zero, suc, Bool, true, false, not, ◌&&◌, List, [], ◌∷◌, ◌++◌, length, take, drop, get_or, refl, sym, subst, ap, arith, chars, append_assoc, append-nil, slice_range, inl, inr, None, if◌then◌else◌}
use Rattle.std.specs.Bool.{MatchBool}
use Rattle.std.specs.Option.{unwrap_or}
use Rattle.std.specs.Str.{IsAscii, IsUtf8, IsCharBoundary}
use Rattle.std.specs.Str.Pattern.{FindsCharSuffix, HasSuffixMatch}
use Rattle.std.proofs.Math.Seq.{drop-cons, drop-length}
use Rattle.std.proofs.Math.Utf8.{encodes}
use Rattle.std.proofs.lemmas.List.{drop_all, take-append-drop}
use Rattle.std.proofs.lemmas.Bool.Decides.{nat_tests}
use Rattle.std.proofs.lemmas.Str.{IsUtf8-take, IsCharBoundary-from_drop, chars-append, chars-IsAscii, encodes-append, encodes-chars}
use Rattle.rustc_lexer.proofs.Booleans.{bool_cases}
use Rattle.parser_input.specs.Input.{Token, contextual_of, ends_in_dot, input, is_before_angle, is_joint, token_of, touches}
use Rattle.parser_input.specs.Keywords.{contextual_kind}
use Rattle.parser_input.specs.Kind.{raw_of}
use Rattle.parser_input.specs.Kind as kind
use Rattle.parser_input.specs.Kinds.{EOF, FLOAT_NUMBER, IDENT, PIPE, PIPE_GT, R_ANGLE}
use Rattle.parser_input.specs.Leaf.{Leaf, is_trivia}
use Rattle.parser_input.specs.Lexed.{leaves_of}
use Rattle.parser_input.specs.Stored.{AreSpans, Passed, seen, seen_from}
use Rattle.parser_input.specs.declared.edition.Edition.{Edition}
use Rattle.parser_input.specs.declared.edition.Edition.TheVariants.{EditionNext}
use Rattle.parser_input.specs.Edition.{is_from}
use denote.Enum.Bare.{sameb}
use Rattle.parser_input.specs.contracts.syntax_kind.SyntaxKind.{the_type}
use Rattle.parser_input.specs.declared.lexed_str.StoredLeaf.{StoredLeaf}
use Rattle.parser_input.specs.declared.syntax_kind.SyntaxKind.{SyntaxKind}
use Rattle.parser_input.specs.declared.syntax_kind.SyntaxKind.TheVariants as kinds

-- A dot at the end.

dot-last : (xs : List ℕ) → ends_in_dot (xs ++ 46 ∷ []) ≡ true
unfolding ends_in_dot
dot-last [] = refl
dot-last (x ∷ []) = refl
dot-last (x ∷ y ∷ xs) = dot-last (y ∷ xs)

eq-true : (a b : ℕ) → (a == b) ≡ true → a ≡ b
eq-true a b e = grind (arith, nat_tests)

dot-front : (xs : List ℕ) → ends_in_dot xs ≡ true → (front : List ℕ) × (xs ≡ front ++ 46 ∷ [])
unfolding ends_in_dot
dot-front [] e = absurd (cc)
dot-front (x ∷ []) e = ([], ap (λ (k : ℕ). k ∷ []) (eq-true x 46 e))
dot-front (x ∷ y ∷ xs) e = let rest = dot-front (y ∷ xs) e in (x ∷ rest.0, ap (λ (l : List ℕ). x ∷ l) rest.1)

dot_ascii : IsAscii (46 ∷ [])
dot_ascii zero = omega arith
dot_ascii (suc k) = omega arith

dot-kept : (s : List ℕ) (n : ℕ) → IsUtf8 s → n ≤ length s → IsCharBoundary s (length s - n) → drop (length s - n) s ≡ 46 ∷ drop (length s) s → ends_in_dot (chars s) ≡ true
dot-kept s n u within at split =
    let k = length s - n in
    let own : IsUtf8 (take k s) = IsUtf8-take s k u at in
    let last : drop k s ≡ 46 ∷ [] = split ∙ ap (λ (l : List ℕ). 46 ∷ l) (drop-length s) in
    let whole : s ≡ take k s ++ 46 ∷ [] = sym (take-append-drop k s) ∙ ap (λ (l : List ℕ). take k s ++ l) last in
    let read : chars s ≡ chars (take k s) ++ 46 ∷ [] = ap (λ (l : List ℕ). chars l) whole ∙ chars-append (take k s) (46 ∷ []) own ∙ ap (λ (l : List ℕ). chars (take k s) ++ l) (chars-IsAscii (46 ∷ []) dot_ascii) in
    ap ends_in_dot read ∙ dot-last (chars (take k s))

pub dot-told : (r : Bool) (s : List ℕ) → IsUtf8 s → MatchBool r (HasSuffixMatch (FindsCharSuffix 46) s) (FindsCharSuffix 46 s None) → r ≡ ends_in_dot (chars s)
unfolding lib.Utf8.encode
dot-told true s u m = sym (dot-kept s m.0 u m.2 m.3 m.1.1.split)
dot-told false s u none = elim (bool_cases (ends_in_dot (chars s))) [
  | inl t ↦
      let f = dot-front (chars s) t in
      absurd (none (encodes f.0) (sym (encodes-chars s u) ∙ ap encodes f.1 ∙ encodes-append f.0 (46 ∷ [])))
  | inr f ↦ sym f
]

-- Joint bits.

not_float : (kind : SyntaxKind) → (kind ≡ kinds.FLOAT_NUMBER → ⊥) → (raw_of kind == FLOAT_NUMBER) ≡ false
not_float kinds.FLOAT_NUMBER h = absurd (h refl)
not_float _ h = refl

not_ident : (kind : SyntaxKind) → (kind ≡ kinds.IDENT → ⊥) → (raw_of kind == IDENT) ≡ false
not_ident kinds.IDENT h = absurd (h refl)
not_ident _ h = refl

pub joint-float : (k : SyntaxKind) (text : List ℕ) (next : List Leaf) (r : Bool) → k ≡ kinds.FLOAT_NUMBER → r ≡ ends_in_dot text → not r ≡ is_joint record { kind = raw_of k; text = text } next
unfolding is_joint
joint-float k text next r is e = rw is (ap not e)

pub joint-other : (k : SyntaxKind) (text : List ℕ) (next : List Leaf) (r : Bool) → (k ≡ kinds.FLOAT_NUMBER → ⊥) → r ≡ touches next → r ≡ is_joint record { kind = raw_of k; text = text } next
unfolding is_joint
joint-other k text next r is e = rw (not_float k is) e

-- Contextual kinds.

pub named : (k : SyntaxKind) (edition : Edition) (text : List ℕ) (before : Bool) (r : ℕ) → k ≡ kinds.IDENT → r ≡ unwrap_or (contextual_kind edition text) IDENT → r ≡ contextual_of edition (raw_of k) text before
named k edition text before r is e = rw is e

not_pipe : (kind : SyntaxKind) → (kind ≡ kinds.PIPE → ⊥) → (raw_of kind == PIPE) ≡ false
not_pipe kinds.PIPE h = absurd (h refl)
not_pipe _ h = refl

pub piped : (k : SyntaxKind) (edition : Edition) (text : List ℕ) (before : Bool) (r : ℕ) → k ≡ kinds.PIPE → r ≡ (if before && is_from EditionNext edition then PIPE_GT else EOF) → r ≡ contextual_of edition (raw_of k) text before
piped k edition text before r is e = rw is e

pub unnamed : (k : SyntaxKind) (edition : Edition) (text : List ℕ) (before : Bool) → (k ≡ kinds.IDENT → ⊥) → (k ≡ kinds.PIPE → ⊥) → EOF ≡ contextual_of edition (raw_of k) text before
unnamed k edition text before is other = rw (not_ident k is, not_pipe k other) refl

-- The next leaf.

pub touches-none : (text : List ℕ) (place : ℕ) (ps : List StoredLeaf) (i : ℕ) → length ps ≤ i → false ≡ touches (leaves_of (seen_from text place (drop i ps)))
unfolding touches
touches-none text place ps i h = ap (λ (l : List StoredLeaf). touches (leaves_of (seen_from text place l))) (sym (drop_all i ps h))

pub touches-some : (text : List ℕ) (place : ℕ) (ps : List StoredLeaf) (i : ℕ) (p : StoredLeaf) (r : Bool) → i < length ps → p ≡ get_or ps i p → r ≡ kind.is_trivia (raw_of p.kind) → not r ≡ touches (leaves_of (seen_from text place (drop i ps)))
unfolding touches is_trivia
touches-some text place ps i p r h is e =
    let rest : drop i ps ≡ p ∷ drop (suc i) ps = drop-cons ps i p h ∙ ap (λ (q : StoredLeaf). q ∷ drop (suc i) ps) (sym is) in
    ap not e ∙ ap (λ (l : List StoredLeaf). touches (leaves_of (seen_from text place l))) (sym rest)

pub angle-none : (text : List ℕ) (place : ℕ) (ps : List StoredLeaf) (i : ℕ) → length ps ≤ i → false ≡ is_before_angle (leaves_of (seen_from text place (drop i ps)))
unfolding is_before_angle
angle-none text place ps i h = ap (λ (l : List StoredLeaf). is_before_angle (leaves_of (seen_from text place l))) (sym (drop_all i ps h))

pub angle-some : (text : List ℕ) (place : ℕ) (ps : List StoredLeaf) (i : ℕ) (p : StoredLeaf) (r : Bool) → i < length ps → p ≡ get_or ps i p → r ≡ (raw_of p.kind == R_ANGLE) → r ≡ is_before_angle (leaves_of (seen_from text place (drop i ps)))
unfolding is_before_angle
angle-some text place ps i p r h is e =
    let rest : drop i ps ≡ p ∷ drop (suc i) ps = drop-cons ps i p h ∙ ap (λ (q : StoredLeaf). q ∷ drop (suc i) ps) (sym is) in
    e ∙ ap (λ (l : List StoredLeaf). is_before_angle (leaves_of (seen_from text place l))) (sym rest)

-- the test for one kind, as the code makes it
same-angle : (kind : SyntaxKind) → sameb the_type kind kinds.R_ANGLE ≡ (raw_of kind == R_ANGLE)
same-angle kinds.TOMBSTONE = refl
same-angle _ = refl

pub angle-told : (kind : SyntaxKind) (flag : Bool) → flag ≡ sameb the_type kind kinds.R_ANGLE → flag ≡ (raw_of kind == R_ANGLE)
angle-told kind flag e = e ∙ same-angle kind

-- The tokens of the leaves that are passed.

pub passed-none : (whole : Bool) (edition : Edition) (text : List ℕ) (ps : List StoredLeaf) (tokens : List Token) → IsUtf8 text → AreSpans text 0 ps → tokens ≡ [] → Passed whole edition text ps 0 0 tokens
passed-none whole edition text ps tokens u s none =
    record {
      spans = s;
      boundary = IsCharBoundary-from_drop text 0 (omega arith) u;
      input_is = ap (λ (ts : List Token). ts ++ input whole edition (leaves_of (seen_from text 0 ps))) (sym none);
    }

pub passed-all : (whole : Bool) (edition : Edition) (text : List ℕ) (ps : List StoredLeaf) (i place : ℕ) (tokens : List Token) → Passed whole edition text ps i place tokens → length ps ≤ i → tokens ≡ input whole edition (leaves_of (seen_from text 0 ps))
unfolding input
passed-all whole edition text ps i place tokens p h =
    sym (p.input_is ∙ ap (λ (l : List StoredLeaf). tokens ++ input whole edition (leaves_of (seen_from text place l))) (drop_all i ps h) ∙ append-nil tokens)

-- the next leaf ends after where it starts, between characters
pub record Ahead (text : List ℕ) (ps : List StoredLeaf) (i place : ℕ) (p : StoredLeaf) : Type 0 where
  pub order : place ≤ p.end
  pub boundary : IsCharBoundary text p.end
  pub spans : AreSpans text p.end (drop (i + 1) ps)
  pub rest : drop i ps ≡ p ∷ drop (i + 1) ps

pub ahead : (whole : Bool) (edition : Edition) (text : List ℕ) (ps : List StoredLeaf) (i place : ℕ) (tokens : List Token) (p d : StoredLeaf) → Passed whole edition text ps i place tokens → i < length ps → p ≡ get_or ps i d → Ahead text ps i place p
ahead whole edition text ps i place tokens p d f h is =
    let more : suc i ≡ i + 1 = omega arith in
    let rest : drop i ps ≡ p ∷ drop (i + 1) ps = drop-cons ps i d h ∙ ap (λ (q : StoredLeaf). q ∷ drop (suc i) ps) (sym is) ∙ ap (λ (k : ℕ). p ∷ drop k ps) more in
    let s : AreSpans text place (p ∷ drop (i + 1) ps) = subst (λ (l : List StoredLeaf). AreSpans text place l) rest f.spans in
    record { order = s.0; boundary = s.1; spans = s.2; rest = rest }

input-trivia : (whole : Bool) (edition : Edition) (l : Leaf) (ls : List Leaf) → is_trivia l ≡ true → input whole edition (l ∷ ls) ≡ input whole edition ls
unfolding input
input-trivia whole edition l ls e = rw e refl

input-solid : (whole : Bool) (edition : Edition) (l : Leaf) (ls : List Leaf) → is_trivia l ≡ false → input whole edition (l ∷ ls) ≡ token_of whole edition l ls ∷ input whole edition ls
unfolding input
input-solid whole edition l ls e = rw e refl

trivia-told : (text : List ℕ) (place : ℕ) (p : StoredLeaf) (r : Bool) → r ≡ kind.is_trivia (raw_of p.kind) → r ≡ is_trivia (seen text place p).leaf
unfolding is_trivia
trivia-told text place p r e = e

pub passed-trivia : (whole : Bool) (edition : Edition) (text : List ℕ) (ps : List StoredLeaf) (i place : ℕ) (tokens : List Token) (p d : StoredLeaf) → Passed whole edition text ps i place tokens → i < length ps → p ≡ get_or ps i d → true ≡ kind.is_trivia (raw_of p.kind) → Passed whole edition text ps (i + 1) p.end tokens
passed-trivia whole edition text ps i place tokens p d f h is e =
    let a = ahead whole edition text ps i place tokens p d f h is in
    let skip = input-trivia whole edition (seen text place p).leaf (leaves_of (seen_from text p.end (drop (i + 1) ps))) (sym (trivia-told text place p true e)) in
    record {
      spans = a.spans;
      boundary = a.boundary;
      input_is =
          f.input_is ∙ ap (λ (l : List StoredLeaf). tokens ++ input whole edition (leaves_of (seen_from text place l))) a.rest
          ∙ ap (λ (ts : List Token). tokens ++ ts) skip;
    }

-- what is recorded of a leaf
pub record IsTokenOf (whole : Bool) (edition : Edition) (text : List ℕ) (place : ℕ) (p : StoredLeaf) (rest : List StoredLeaf) (t : Token) : Type 0 where
  pub kind : t.kind ≡ raw_of p.kind
  pub contextual : t.contextual ≡ contextual_of edition (raw_of p.kind) (chars (slice_range text place p.end)) (is_before_angle (leaves_of (seen_from text p.end rest)))
  pub joint : t.joint ≡ is_joint (seen text place p).leaf (leaves_of (seen_from text p.end rest))
  pub whole_is : t.whole ≡ whole

token-is : (whole : Bool) (edition : Edition) (text : List ℕ) (place : ℕ) (p : StoredLeaf) (rest : List StoredLeaf) (t : Token) → IsTokenOf whole edition text place p rest t → t ≡ token_of whole edition (seen text place p).leaf (leaves_of (seen_from text p.end rest))
unfolding token_of
token-is whole edition text place p rest t is =
    let l = (seen text place p).leaf in
    let word = contextual_of edition (raw_of p.kind) l.text (is_before_angle (leaves_of (seen_from text p.end rest))) in
    ap (λ (k : ℕ). record { kind = k; contextual = t.contextual; joint = t.joint; whole = t.whole }) is.kind
    ∙ ap (λ (k : ℕ). record { kind = raw_of p.kind; contextual = k; joint = t.joint; whole = t.whole }) is.contextual
    ∙ ap (λ (b : Bool). record { kind = raw_of p.kind; contextual = word; joint = b; whole = t.whole }) is.joint
    ∙ ap (λ (b : Bool). record { kind = raw_of p.kind; contextual = word; joint = is_joint l (leaves_of (seen_from text p.end rest)); whole = b }) is.whole_is

pub passed-token : (whole : Bool) (edition : Edition) (text : List ℕ) (ps : List StoredLeaf) (i place : ℕ) (tokens : List Token) (p d : StoredLeaf) (t : Token) (new : List Token) → Passed whole edition text ps i place tokens → i < length ps → p ≡ get_or ps i d → false ≡ kind.is_trivia (raw_of p.kind) → IsTokenOf whole edition text place p (drop (i + 1) ps) t → new ≡ tokens ++ t ∷ [] → Passed whole edition text ps (i + 1) p.end new
passed-token whole edition text ps i place tokens p d t new f h is e token pushed =
    let a = ahead whole edition text ps i place tokens p d f h is in
    let rest = leaves_of (seen_from text p.end (drop (i + 1) ps)) in
    let one = input-solid whole edition (seen text place p).leaf rest (sym (trivia-told text place p false e)) in
    let same = token-is whole edition text place p (drop (i + 1) ps) t token in
    record {
      spans = a.spans;
      boundary = a.boundary;
      input_is =
          f.input_is ∙ ap (λ (l : List StoredLeaf). tokens ++ input whole edition (leaves_of (seen_from text place l))) a.rest
          ∙ ap (λ (ts : List Token). tokens ++ ts) (one ∙ ap (λ (u : Token). u ∷ input whole edition rest) (sym same))
          ∙ sym (append_assoc tokens (t ∷ []) (input whole edition rest)) ∙ ap (λ (ts : List Token). ts ++ input whole edition rest) (sym pushed);
    }
