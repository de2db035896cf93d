-- No leaf of a text has the kind of the end.
use Rattle.std.proofs.Common.{◌≡◌, ◌≢◌, ◌∙◌, ◌&&◌, ◌<◌, ℕ, zero, suc, pred, ◌==◌, Bool, true, false, not, inl, inr, List, [], ◌∷◌, length, drop, find, get_or, refl, sym, ap, subst, arith, chars, cond, Option, Some, None, option_and_then, if◌then◌else◌, Result, Ok, Err}
use Rattle.std.specs.List.{All, list_all}
use Rattle.std.specs.Option.{unwrap_or}
use Rattle.std.specs.Str.{bytes_eq}
use Rattle.std.proofs.lemmas.Bool.{and_parts}
use Rattle.std.proofs.lemmas.Bool.Decides.{nat_tests}
use Rattle.std.proofs.lemmas.List.Elements.{All-append, All-cons, All-nil}
use Rattle.rustc_lexer.specs.Characters.{hash, tick}
use Rattle.rustc_lexer.specs.Lexeme.{Case, Name, Tick, Single, lexeme, lexeme_in, line_comment, block_comment, raw_identifier, literal, identifier, lifetime, named, sign, signs}
use Rattle.rustc_lexer.specs.Rows.{Row, first_fit}
use Rattle.rustc_lexer.specs.Scan.{Scan, ◌▸◌, give, skip, look, begin, spelled}
use Rattle.rustc_lexer.specs.Tokens as lexer
use Rattle.rustc_lexer.specs.declared.token.LiteralKind.{LiteralKind}
use Rattle.rustc_lexer.specs.declared.token.LiteralKind.TheVariants as literals
use Rattle.rustc_lexer.specs.declared.token.TokenKind.{TokenKind}
use Rattle.rustc_lexer.specs.declared.token.TokenKind.TheVariants as tokens
use Rattle.parser_input.specs.Keywords.{Word, words, word_of, is_keyword_in}
use Rattle.parser_input.specs.Kind.{raw_of}
use Rattle.parser_input.specs.Kinds.{EOF, IDENT, UNDERSCORE}
use Rattle.parser_input.specs.Leaf.{kind_of, leaf_of, literal_kind, word_kind}
use Rattle.parser_input.specs.Lexed.{Lexed, content, cut, frontmatter_leaf, is_split, lexed, next_leaf, preface, quiet, shebang_leaf}
use Rattle.parser_input.specs.Preface.{Piece, Source, shebang_piece, source}
use Rattle.parser_input.specs.Stored.{seen_from}
use Rattle.parser_input.specs.declared.edition.Edition.{Edition}
use Rattle.parser_input.specs.declared.lexed_str.StoredLeaf.{StoredLeaf}
use Rattle.parser_input.specs.declared.frontmatter_error.FrontmatterError.{FrontmatterError}
use Rattle.parser_input.proofs.LexedSteps.{leaf-split, leaf-whole, seen-at, seen-length}
use Rattle.rustc_lexer.proofs.Booleans.{bool_cases}

-- The kinds of words.

abbrev named_kind : Edition → Option Word → ℕ
named_kind edition o = unwrap_or (option_and_then (λ word. if is_keyword_in edition word then Some word.kind else None) o) IDENT

chosen : (b : Bool) (k : ℕ) → (k == EOF) ≡ false → (unwrap_or (if b then Some k else None) IDENT == EOF) ≡ false
chosen true k e = e
chosen false k e = refl

named-step : (edition : Edition) (w : Word) (o : Option Word) (b : Bool) → (w.kind == EOF) ≡ false → (named_kind edition o == EOF) ≡ false → (named_kind edition (cond b (Some w) o) == EOF) ≡ false
named-step edition w o true e rest = chosen (is_keyword_in edition w) w.kind e
named-step edition w o false e rest = rest

falls : (b : Bool) → not b ≡ true → b ≡ false
falls true e = cc
falls false e = refl

named-real : (edition : Edition) (ws : List Word) (text : List ℕ) → list_all (λ w. not (w.kind == EOF)) ws ≡ true → (named_kind edition (find (λ w. bytes_eq w.text text) ws) == EOF) ≡ false
named-real edition [] text h = refl
named-real edition (w ∷ ws) text h =
    let parts = and_parts (not (w.kind == EOF)) (list_all (λ w. not (w.kind == EOF)) ws) h in
    named-step edition w (find (λ w. bytes_eq w.text text) ws) (bytes_eq w.text text) (falls (w.kind == EOF) parts.0) (named-real edition ws text parts.1)

words-real : list_all (λ w. not (w.kind == EOF)) words ≡ true
unfolding words
words-real = refl

word-choice : (b : Bool) (k : ℕ) → (k == EOF) ≡ false → ((if b then UNDERSCORE else k) == EOF) ≡ false
word-choice true k e = refl
word-choice false k e = e

word-real : (edition : Edition) (text : List ℕ) → (word_kind edition text == EOF) ≡ false
unfolding word_kind word_of
word-real edition text = word-choice _ _ (named-real edition words text words-real)

-- The kinds of tokens.

literal-real : (kind : LiteralKind) → (literal_kind kind == EOF) ≡ false
unfolding literal_kind
literal-real (literals.Int base empty) = refl
literal-real _ = refl

abbrev is_end : TokenKind → Bool
is_end tokens.Eof = true
is_end _ = false

kind-real : (edition : Edition) (kind : TokenKind) (text : List ℕ) → is_end kind ≡ false → (kind_of edition kind text == EOF) ≡ false
unfolding kind_of
kind-real edition tokens.Eof text h = cc
kind-real edition tokens.Ident text h = word-real edition text
kind-real edition tokens.UnknownPrefix text h = word-real edition text
kind-real edition (tokens.Literal kind suffix_start) text h = literal-real kind
kind-real edition _ text h = refl

-- The lexeme of a text that is not empty.

rows-real : (rs : List (Row TokenKind)) (o : TokenKind) → list_all (λ r. not (is_end r.answer)) rs ≡ true → is_end o ≡ false → is_end (first_fit rs o) ≡ false
unfolding first_fit
rows-real [] o h e = e
rows-real (r ∷ rs) o h e =
    let parts = and_parts (not (is_end r.answer)) (list_all (λ r. not (is_end r.answer)) rs) h in
    elim (bool_cases r.test) [
      | inl t ↦ rw t (falls (is_end r.answer) parts.0)
      | inr f ↦ rw f (rows-real rs o parts.1 e)
    ]

sign-real : (c : ℕ) → is_end (sign c) ≡ false
unfolding sign
sign-real c = rows-real (signs c) tokens.Unknown refl refl

prefix-real : (b : Bool) → is_end (if b then tokens.UnknownPrefix else tokens.Ident) ≡ false
prefix-real true = refl
prefix-real false = refl

after-real : (b : Bool) (n : ℕ) (digit : Bool) → is_end (if b then tokens.UnknownPrefixLifetime else tokens.Lifetime digit) ≡ false
after-real true n digit = refl
after-real false n digit = refl

abbrev AreReal : Scan (ℕ → TokenKind) → Type 0
AreReal f = (xs : List ℕ) (n : ℕ) → is_end ((f xs).value n) ≡ false

bind-real : {A : Type 0} (f : Scan A) (g : A → Scan (ℕ → TokenKind)) → ((a : A) → AreReal (g a)) → AreReal (f ▸ g)
unfolding ◌▸◌
bind-real f g h xs n = h (f xs).value (drop (f xs).taken xs) n

give-real : (k : ℕ → TokenKind) → ((n : ℕ) → is_end (k n) ≡ false) → AreReal (give k)
unfolding give
give-real k h xs n = h n

choice-real : (b : Bool) (f g : Scan (ℕ → TokenKind)) → AreReal f → AreReal g → AreReal (if b then f else g)
choice-real true f g e h = e
choice-real false f g e h = h

tick-real : (b : Bool) → AreReal (named b)
unfolding named
tick-real true = bind-real _ _ (λ u. bind-real _ _ (λ v. give-real _ (λ n. refl)))
tick-real false =
    bind-real _ _ (λ digit. bind-real _ _ (λ u. bind-real _ _ (λ v. bind-real _ _ (λ next. choice-real (next == tick) _ _ (bind-real _ _ (λ w. give-real _ (λ n. refl))) (give-real _ (λ n. after-real (next == hash && not digit) n digit))))))

case-real : (k : Case) (xs : List ℕ) → is_end (lexeme_in k xs).value ≡ false
unfolding lexeme_in line_comment block_comment raw_identifier literal identifier lifetime begin spelled look skip give ◌▸◌
case-real Name xs = prefix-real _
case-real Tick xs = tick-real _ _ _
case-real Single xs = sign-real _
case-real _ xs = refl

lexeme-real : (xs : List ℕ) → is_end (lexeme xs).value ≡ false
unfolding lexeme begin
lexeme-real xs = case-real _ xs

-- The leaves of a text.

abbrev pub IsReal : Lexed → Type 0
IsReal l = l.leaf.kind ≢ EOF

differs : (k : ℕ) → (k == EOF) ≡ false → k ≢ EOF
differs k e = grind (arith, nat_tests)

next-real : (edition : Edition) (xs : List ℕ) → IsReal (next_leaf edition (lexer.first_lexeme xs))
unfolding lexer.first_lexeme leaf_of
next-real edition xs =
    let l = lexer.first_lexeme xs in
    elim (bool_cases (is_split edition l.kind)) [
      | inl split ↦ subst IsReal (sym (leaf-split edition l split)) (omega arith)
      | inr whole ↦ subst IsReal (sym (leaf-whole edition l whole)) (differs (kind_of edition l.kind l.text) (kind-real edition l.kind l.text (lexeme-real xs)))
    ]

cut-real : (edition : Edition) (held : ℕ) (xs : List ℕ) → All IsReal (cut edition held xs)
unfolding cut
cut-real edition zero [] = All-nil IsReal
cut-real edition (suc held) [] = All-nil IsReal
cut-real edition (suc held) (c ∷ cs) = cut-real edition held cs
cut-real edition zero (c ∷ cs) =
    let l = next_leaf edition (lexer.first_lexeme (c ∷ cs)) in
    let held = pred (length l.leaf.text) in
    All-cons IsReal l (cut edition held cs) (next-real edition (c ∷ cs)) (cut-real edition held cs)

shebang-real : (p : Option Piece) → All IsReal (shebang_leaf p)
shebang-real None = All-nil IsReal
shebang-real (Some p) = All-cons IsReal _ [] (omega arith) (All-nil IsReal)

closed-real : (text : List ℕ) (s : Source) (p : Option Piece) → s.closing ≡ p → All IsReal (frontmatter_leaf text (Ok s))
closed-real text s None e = rw e (All-nil IsReal)
closed-real text s (Some p) e = rw e (All-cons IsReal _ [] (omega arith) (All-nil IsReal))

frontmatter-real : (text : List ℕ) (s : Result Source FrontmatterError) → All IsReal (frontmatter_leaf text s)
frontmatter-real text (Err refusal) = All-nil IsReal
frontmatter-real text (Ok s) = closed-real text s s.closing refl

pub lexed-real : (edition : Edition) (text : List ℕ) → All IsReal (lexed edition text)
unfolding lexed preface
lexed-real edition text =
    let first = shebang-real (shebang_piece text) in
    let second = frontmatter-real text (source text) in
    All-append IsReal (preface text) (cut edition 0 (content text)) (All-append IsReal (shebang_leaf (shebang_piece text)) (frontmatter_leaf text (source text)) first second) (cut-real edition 0 (content text))

-- the stored leaves of a text
pub items-real : (edition : Edition) (text : List ℕ) (ps : List StoredLeaf) → seen_from text 0 ps ≡ lexed edition (chars text) → All (λ p. raw_of p.kind ≢ EOF) ps
items-real edition text ps e k d h same =
    let none = quiet EOF [] in
    let long : k < length (lexed edition (chars text)) = omega (arith, h, seen-length text 0 ps, ap (λ (l : List Lexed). length l) e) in
    lexed-real edition (chars text) k none long
    (ap (λ (l : List Lexed). (get_or l k none).leaf.kind) (sym e) ∙ ap (λ (x : Lexed). x.leaf.kind) (seen-at text 0 ps k d none h) ∙ same)
