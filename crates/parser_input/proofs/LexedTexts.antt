-- The leaves of a text are the text.
use Rattle.std.proofs.Common.{◌≡◌, ℕ, zero, suc, ◌-◌, ◌≤◌, List, [], ◌∷◌, ◌++◌, length, take, drop, refl, sym, ◌∙◌, ap, arith, append_assoc, append-nil, length-drop, Option, Some, None, is_some, Result, inl, inr}
use Rattle.std.specs.List.{flat_map}
use Rattle.std.proofs.lemmas.List.{take-append-drop}
use Rattle.rustc_lexer.specs.Shebang.{shebang, line_len}
use Rattle.rustc_lexer.specs.Tokens as lexer
use Rattle.rustc_lexer.proofs.Booleans.{bool_cases}
use Rattle.parser_input.specs.Lexed.{Lexed, content, content_of, cut, frontmatter_leaf, lexed, preface, shebang_leaf}
use Rattle.parser_input.specs.Lines.{after_line, blank_len}
use Rattle.parser_input.specs.Preface.{Piece, Source, bare, after_shebang, fenced, opening_line, shebang_piece, source}
use Rattle.parser_input.specs.Single.{alone, single}
use Rattle.parser_input.specs.declared.edition.Edition.{Edition}
use Rattle.parser_input.specs.declared.frontmatter_error.FrontmatterError.{FrontmatterError}
use Rattle.parser_input.proofs.LexedSteps.{next-own}
use Rattle.parser_input.proofs.PrefaceSteps.{Form, Bare, Refused, Closed, Suffix, after-suffix, form, suffix-of}
use Rattle.parser_input.proofs.Prefaces.{after-some, after-none, by-length, piece-some, piece-none}

abbrev texts : List Lexed → List ℕ
texts ls = flat_map (λ l. l.leaf.text) ls

texts-append : (xs ys : List Lexed) → texts (xs ++ ys) ≡ texts xs ++ texts ys
texts-append [] ys = refl
texts-append (x ∷ xs) ys =
    ap (λ (t : List ℕ). x.leaf.text ++ t) (texts-append xs ys) ∙ sym (append_assoc x.leaf.text (texts xs) (texts ys))

-- by the length of what is left
cut-bound : (edition : Edition) (k : ℕ) (text : List ℕ) → length text ≤ k → texts (cut edition 0 text) ≡ text
unfolding cut
cut-bound edition k [] h = refl
cut-bound edition zero (c ∷ cs) h = absurd (omega arith)
cut-bound edition (suc k) (c ∷ cs) h =
    let next = next-own edition (c ∷ cs) (omega arith) in
    let n = next.0 in
    let few : length (drop n (c ∷ cs)) ≤ k = omega (arith, length-drop n (c ∷ cs), next.1.some) in
    ap texts next.1.rest
    ∙ ap (λ (t : List ℕ). t ++ texts (cut edition 0 (drop n (c ∷ cs)))) next.1.own
    ∙ ap (λ (t : List ℕ). take n (c ∷ cs) ++ t) (cut-bound edition k (drop n (c ∷ cs)) few)
    ∙ take-append-drop n (c ∷ cs)

cut-joined : (edition : Edition) (text : List ℕ) → texts (cut edition 0 text) ≡ text
cut-joined edition text = cut-bound edition (length text) text (omega arith)

-- the only leaf of a text is all of it
alone-leaf : (ts : List lexer.Lexeme) (ls : List Lexed) (l : Lexed) → alone ts ls ≡ Some l → texts ls ≡ l.leaf.text
alone-leaf (t ∷ []) (k ∷ []) l e = append-nil k.leaf.text ∙ ap (λ (o : Option Lexed). elim o [ None ↦ [] | Some x ↦ x.leaf.text ]) e
alone-leaf [] ls l e = absurd (cc)
alone-leaf (t ∷ []) [] l e = absurd (cc)
alone-leaf (t ∷ []) (j ∷ k ∷ ls) l e = absurd (cc)
alone-leaf (t ∷ u ∷ ts) ls l e = absurd (cc)

pub single-text : (edition : Edition) (text : List ℕ) (l : Lexed) → single edition text ≡ Some l → l.leaf.text ≡ text
unfolding single
single-text edition text l e = sym (alone-leaf (lexer.tokens text) (cut edition 0 text) l e) ∙ cut-joined edition text

-- what is left of a text, after all that was taken
whole-of : (rest left : List ℕ) → Suffix left rest → take (length rest - length left) rest ++ left ≡ rest
whole-of rest left end =
    ap (λ (t : List ℕ). take (length rest - length left) rest ++ t) (by-length end.0 rest left end.1) ∙ take-append-drop (length rest - length left) rest

abbrev Frame : List ℕ → Type 0
Frame t = texts (frontmatter_leaf t (source t)) ++ content t ≡ after_shebang t

framed : (t : List ℕ) → Form t → Frame t
unfolding content bare fenced opening_line
framed t (Bare is) =
    ap (λ (r : Result Source FrontmatterError). texts (frontmatter_leaf t r) ++ content_of t r) is
framed t (Refused x is) =
    ap (λ (r : Result Source FrontmatterError). texts (frontmatter_leaf t r) ++ content_of t r) is
framed t (Closed closing is at) =
    let r = after_shebang t in
    let left = after_line closing in
    let opening : Suffix (opening_line t) r = (blank_len r, refl) in
    let inside = suffix-of (after_line (opening_line t)) (opening_line t) r (after-suffix (opening_line t)) opening in
    let whole = suffix-of left closing r (after-suffix closing) (suffix-of closing (after_line (opening_line t)) r at inside) in
    ap (λ (q : Result Source FrontmatterError). texts (frontmatter_leaf t q) ++ content_of t q) is
    ∙ append_assoc (take (length r - length left) r) [] left
    ∙ whole-of r left whole

shebang-first : (t : List ℕ) → texts (shebang_leaf (shebang_piece t)) ++ after_shebang t ≡ t
shebang-first t = elim (bool_cases (is_some (shebang t))) [
  | inl there ↦
      ap (λ (o : Option Piece). texts (shebang_leaf o) ++ after_shebang t) (sym (piece-some t there))
      ∙ append_assoc (take (line_len t) t) [] (after_shebang t)
      ∙ ap (λ (r : List ℕ). take (line_len t) t ++ r) (sym (after-some t there))
      ∙ take-append-drop (line_len t) t
  | inr none ↦
      ap (λ (o : Option Piece). texts (shebang_leaf o) ++ after_shebang t) (sym (piece-none t none)) ∙ sym (after-none t none)
]

pub leaves-joined : (edition : Edition) (text : List ℕ) → texts (lexed edition text) ≡ text
unfolding lexed preface
leaves-joined edition t =
    let s = shebang_leaf (shebang_piece t) in
    let f = frontmatter_leaf t (source t) in
    let c = cut edition 0 (content t) in
    texts-append (s ++ f) c
    ∙ ap (λ (x : List ℕ). x ++ texts c) (texts-append s f)
    ∙ append_assoc (texts s) (texts f) (texts c)
    ∙ ap (λ (x : List ℕ). texts s ++ (texts f ++ x)) (cut-bound edition (length (content t)) (content t) (omega arith))
    ∙ ap (λ (x : List ℕ). texts s ++ x) (framed t (form t))
    ∙ shebang-first t
