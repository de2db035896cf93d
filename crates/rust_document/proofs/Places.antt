-- Tokens with their places, leaf by leaf.
use Rattle.std.proofs.Common.{◌≡◌, ℕ, ◌+◌, ◌≤◌, ◌<◌, List, [], ◌∷◌, ◌++◌, map, drop, length, length-append, refl, sym, ◌∙◌, ap, arith, append_assoc, append-nil}
use Rattle.std.proofs.Math.Utf8.{encodes}
use Rattle.std.proofs.lemmas.Str.{encodes-append}
use Rattle.std.proofs.lemmas.List.{map-append, drop_more, drop_all}
use Rattle.parser_input.specs.Kind.{raw_of}
use Rattle.parser_input.specs.Kinds.{EOF}
use Rattle.rustc_lexer.specs.Characters.{size}
use Rattle.rustc_lexer.proofs.Sizes.{size-encodes}
use Rattle.parser_input.specs.Lexed.{Lexed, leaves_of, quiet}
use Rattle.parser_input.specs.Stored.{leaf_at}
use Rattle.parser_events.specs.Dress.{joined}
use Rattle.rust_document.specs.Seen.{in_bytes}
use Rattle.rust_document.specs.Tokens.{Span, span_of, spans_from}
use Rattle.rust_document.specs.declared.tokens.LexedToken.{LexedToken}

-- how many bytes the leaves have
abbrev pub bytes_in : List Lexed → ℕ
bytes_in [] = 0
bytes_in (l ∷ ls) = length (encodes l.leaf.text) + bytes_in ls

pub bytes-joined : (ls : List Lexed) → length (encodes (joined (leaves_of ls))) ≡ bytes_in ls
unfolding joined
bytes-joined [] = refl
bytes-joined (l ∷ ls) =
    ap (λ (bs : List ℕ). length bs) (encodes-append l.leaf.text (joined (leaves_of ls)))
    ∙ length-append (encodes l.leaf.text) (encodes (joined (leaves_of ls)))
    ∙ ap (λ (n : ℕ). length (encodes l.leaf.text) + n) (bytes-joined ls)

abbrev spans : ℕ → List Lexed → List Span
spans place ls = spans_from place (map in_bytes (leaves_of ls))

-- i leaves were passed: their tokens, and those of the leaves left, are those of all, and the limit is kept.
pub record Passed (all : List Lexed) (i place : ℕ) (done : List LexedToken) : Type 0 where
  pub so_far : map span_of done ++ spans place (drop i all) ≡ spans 0 all
  pub fits : place + bytes_in (drop i all) ≤ 16777216

-- the span of a leaf that begins at a byte
abbrev pub span_at : ℕ → Lexed → Span
span_at place l = record { kind = l.leaf.kind; start = place; end = place + length (encodes l.leaf.text) }

pub next_fits : (all : List Lexed) (i place len : ℕ) (done : List LexedToken) → i < length all → Passed all i place done → len ≡ size (leaf_at all i).leaf.text → place + len ≤ 16777216
next_fits all i place len done within p is =
    omega (arith, p.fits, ap bytes_in (drop_more all i (quiet EOF []) within), is, size-encodes (leaf_at all i).leaf.text)

pub passed_more :
    (all : List Lexed) (i place stop len : ℕ) (done more : List LexedToken) (t : LexedToken)
    → i < length all
    → Passed all i place done
    → more ≡ done ++ t ∷ []
    → raw_of t.kind ≡ (leaf_at all i).leaf.kind
    → t.range.start.0 ≡ place
    → t.range.end.0 ≡ place + len
    → len ≡ size (leaf_at all i).leaf.text
    → stop ≡ t.range.end.0
    → Passed all (i + 1) stop more
passed_more all i place stop len done more t within p put same begins ends is stops =
    let l = leaf_at all i in
    let split = drop_more all i (quiet EOF []) within in
    let long : t.range.end.0 ≡ place + length (encodes l.leaf.text) = omega (arith, ends, is, size-encodes l.leaf.text) in
    let end : stop ≡ place + length (encodes l.leaf.text) = stops ∙ long in
    let here : span_of t ≡ span_at place l = λ j. record { kind = same j; start = begins j; end = long j } in
    let rest = spans (place + length (encodes l.leaf.text)) (drop (i + 1) all) in
    record {
      so_far =
          ap (λ (ts : List LexedToken). map span_of ts ++ spans stop (drop (i + 1) all)) put
          ∙ ap (λ (n : ℕ). map span_of (done ++ t ∷ []) ++ spans n (drop (i + 1) all)) end
          ∙ ap (λ (ss : List Span). ss ++ rest) (map-append span_of done (t ∷ []))
          ∙ append_assoc (map span_of done) (span_of t ∷ []) rest
          ∙ ap (λ (s : Span). map span_of done ++ (s ∷ rest)) here
          ∙ ap (λ (ls : List Lexed). map span_of done ++ spans place ls) (sym split)
          ∙ p.so_far;
      fits = omega (arith, p.fits, ap bytes_in split, end);
    }

-- at the end none is left
pub passed_all : (all : List Lexed) (i place : ℕ) (done : List LexedToken) → length all ≤ i → Passed all i place done → map span_of done ≡ spans 0 all
passed_all all i place done past p =
    sym (append-nil (map span_of done))
    ∙ ap (λ (ls : List Lexed). map span_of done ++ spans place ls) (sym (drop_all i all past))
    ∙ p.so_far

-- at the start none was passed
pub passed_none : (all : List Lexed) (place : ℕ) (done : List LexedToken) → done ≡ [] → place ≡ 0 → length (encodes (joined (leaves_of all))) ≤ 16777216 → Passed all 0 place done
passed_none all place done none start h = record {
  so_far = ap (λ (ts : List LexedToken). map span_of ts ++ spans place all) none ∙ ap (λ (n : ℕ). spans n all) start;
  fits = omega (arith, h, start, bytes-joined all);
}
