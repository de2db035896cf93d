-- How many leaves a text has, and how many bytes these have.
use Rattle.std.proofs.Common.{◌≡◌, ℕ, zero, suc, ◌≤◌, ◌+◌, ◌==◌, pred, true, false, List, [], ◌∷◌, length, drop, refl, sym, subst, ◌∙◌, ap, arith, chars, length-append, flat_map, ◌++◌, inl, inr, is_some, Option, None, Result, Ok, Err}
use Rattle.std.specs.Str.{IsUtf8}
use Rattle.std.proofs.Math.Utf8.{encodes}
use Rattle.std.proofs.lemmas.Bool.{eqb-true}
use Rattle.std.proofs.lemmas.List.{length-drop}
use Rattle.std.proofs.lemmas.Str.{encodes-chars, length-le-encodes}
use Rattle.rustc_lexer.specs.Shebang.{shebang, has_shebang, line_len}
use Rattle.rustc_lexer.specs.Scan.{peek, run_len}
use Rattle.rustc_lexer.specs.Tokens.{first_lexeme}
use Rattle.rustc_lexer.proofs.Booleans.{bool_cases, and_left}
use Rattle.rustc_lexer.proofs.Lines.{shebang-none}
use Rattle.parser_input.specs.Lexed.{Lexed, lexed, leaves_of, next_leaf, cut, preface, content, content_of, shebang_leaf, frontmatter_leaf}
use Rattle.parser_input.specs.Lines.{after_line, blank_len, dashes}
use Rattle.parser_input.specs.Preface.{Piece, Source, bare, after_shebang, fenced, opening_line, shebang_piece, source}
use Rattle.parser_input.specs.declared.edition.Edition.{Edition}
use Rattle.parser_input.specs.declared.frontmatter_error.FrontmatterError.{FrontmatterError}
use Rattle.parser_input.proofs.LexedTexts as whole
use Rattle.parser_input.proofs.PrefaceSteps.{Form, Bare, Refused, Closed, form, Suffix, after-suffix}
use Rattle.parser_input.proofs.Prefaces.{after-some, after-none, piece-some, piece-none, after-shorter, source-bare}
use Rattle.parser_events.specs.Dress as dress
use Rattle.rust_document.specs.Reading.{leaves_in}

pub all-texts : (ls : List Lexed) → dress.joined (leaves_of ls) ≡ flat_map (λ (l : Lexed). l.leaf.text) ls
unfolding dress.joined
all-texts [] = refl
all-texts (l ∷ ls) = ap (λ (t : List ℕ). l.leaf.text ++ t) (all-texts ls)

-- the leaves of a text have as many bytes as the text
pub bytes-all : (edition : Edition) (bs : List ℕ) → IsUtf8 bs → length (encodes (dress.joined (leaves_in edition (chars bs)))) ≡ length bs
bytes-all edition bs u =
    ap (λ (t : List ℕ). length (encodes t)) (all-texts (lexed edition (chars bs)) ∙ whole.leaves-joined edition (chars bs))
    ∙ ap (λ (t : List ℕ). length t) (encodes-chars bs u)

-- each leaf of a content begins with a character of its own
few-cut : (edition : Edition) (held : ℕ) (cs : List ℕ) → length (cut edition held cs) ≤ length cs
unfolding cut
few-cut edition held [] = omega arith
few-cut edition zero (c ∷ cs) = omega (arith, few-cut edition (pred (length (next_leaf edition (first_lexeme (c ∷ cs))).leaf.text)) cs)
few-cut edition (suc held) (c ∷ cs) = omega (arith, few-cut edition held cs)

-- the line of a shebang has a character
line-goes : (c : ℕ) (cs : List ℕ) → c ≡ 35 → 1 ≤ line_len (c ∷ cs)
unfolding line_len
line-goes c cs e = subst (λ (x : ℕ). 1 ≤ line_len (x ∷ cs)) (sym e) (omega arith)

hash-line : (text : List ℕ) → has_shebang text ≡ true → 1 ≤ line_len text
hash-line [] h = absurd (let z : false ≡ true = h in cc)
hash-line (c ∷ cs) h = line-goes c cs (eqb-true c 35 (and_left (c == 35) (peek 1 (c ∷ cs) == 33) h))

shebang-line : (text : List ℕ) → is_some (shebang text) ≡ true → 1 ≤ line_len text
shebang-line text h = elim (bool_cases (has_shebang text)) [
  | inl there ↦ hash-line text there
  | inr none ↦ let z : false ≡ true = sym (ap is_some (shebang-none text none)) ∙ h in absurd (cc)
]

abbrev with_shebang : List ℕ → ℕ
with_shebang t = length (shebang_leaf (shebang_piece t)) + length (after_shebang t)

one-less : (n : ℕ) (t : List ℕ) → 1 ≤ n → 1 ≤ length t → 1 + length (drop n t) ≤ length t
one-less n t some long = omega (arith, length-drop n t, some, long)

line-within : (t : List ℕ) → 1 ≤ line_len t → 1 ≤ length t
unfolding line_len
line-within [] h = absurd (omega (arith, h))
line-within (c ∷ cs) h = omega arith

few-shebang : (t : List ℕ) → with_shebang t ≤ length t
few-shebang t = elim (bool_cases (is_some (shebang t))) [
  | inl there ↦
      let line = shebang-line t there in
      omega (
        arith,
        ap (λ (o : Option Piece). length (shebang_leaf o)) (piece-some t there),
        ap (λ (r : List ℕ). length r) (after-some t there),
        one-less (line_len t) t line (line-within t line),
      )
  | inr none ↦
      omega (arith, ap (λ (o : Option Piece). length (shebang_leaf o)) (piece-none t none), ap (λ (r : List ℕ). length r) (after-none t none))
]

abbrev with_frontmatter : List ℕ → ℕ
with_frontmatter t = length (frontmatter_leaf t (source t)) + length (content t)

suffix-within : (xs ys : List ℕ) → Suffix xs ys → length xs ≤ length ys
suffix-within xs ys s = omega (arith, ap (λ (l : List ℕ). length l) s.1, length-drop s.0 ys)

-- a closed frontmatter was opened by dashes
never-closed : (t closing : List ℕ) → source t ≡ Ok (fenced t (opening_line t) closing) → opening_line t ≡ [] → ⊥
unfolding bare fenced dashes run_len
never-closed t closing is none =
    let z : Ok (bare t) ≡ Ok (fenced t (opening_line t) closing) = source-bare t (ap dashes none) ∙ is in
    let closings : Result Source FrontmatterError → Option Piece = λ r. elim r [ Ok s ↦ s.closing | Err e ↦ None ] in
    let y = ap closings z in cc

few-frontmatter : (t : List ℕ) → Form t → with_frontmatter t ≤ length (after_shebang t)
unfolding content bare fenced opening_line
few-frontmatter t (Bare is) =
    omega (arith, ap (λ (r : Result Source FrontmatterError). length (frontmatter_leaf t r)) is, ap (λ (r : Result Source FrontmatterError). length (content_of t r)) is)
few-frontmatter t (Refused e is) =
    omega (arith, ap (λ (r : Result Source FrontmatterError). length (frontmatter_leaf t r)) is, ap (λ (r : Result Source FrontmatterError). length (content_of t r)) is)
few-frontmatter t (Closed closing is at) =
    omega (
      arith,
      ap (λ (r : Result Source FrontmatterError). length (frontmatter_leaf t r)) is,
      ap (λ (r : Result Source FrontmatterError). length (content_of t r)) is,
      suffix-within (after_line closing) closing (after-suffix closing),
      suffix-within closing (after_line (opening_line t)) at,
      after-shorter (opening_line t) (never-closed t closing is),
      length-drop (blank_len (after_shebang t)) (after_shebang t),
    )

-- a text has no more leaves than characters
few-leaves : (edition : Edition) (t : List ℕ) → length (lexed edition t) ≤ length t
unfolding lexed preface
few-leaves edition t =
    omega (
      arith,
      length-append (preface t) (cut edition 0 (content t)),
      length-append (shebang_leaf (shebang_piece t)) (frontmatter_leaf t (source t)),
      few-cut edition 0 (content t),
      few-frontmatter t (form t),
      few-shebang t,
    )

-- and no more than bytes
pub count-all : (edition : Edition) (bs : List ℕ) → IsUtf8 bs → length (lexed edition (chars bs)) ≤ length bs
count-all edition bs u =
    omega (arith, few-leaves edition (chars bs), length-le-encodes (chars bs), ap (λ (t : List ℕ). length t) (encodes-chars bs u))
