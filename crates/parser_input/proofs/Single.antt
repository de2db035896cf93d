-- A text that is one token and one leaf.
use Rattle.std.proofs.Common.{◌≡◌, ◌∙◌, ◌≤◌, ◌<◌, ◌+◌, ℕ, inl, inr, List, [], ◌∷◌, length, take, drop, refl, sym, ap, arith, chars, length-append, length-take, Some, None}
use Rattle.std.specs.Str.{IsUtf8}
use Rattle.std.proofs.lemmas.List.{drop_all, take-append-drop}
use Rattle.std.proofs.lemmas.Str.{chars-nil}
use Rattle.rustc_lexer.specs.Characters.{size}
use Rattle.rustc_lexer.specs.Lexeme.{lexeme}
use Rattle.rustc_lexer.specs.Tokens as lexer
use Rattle.rustc_lexer.proofs.Booleans.{bool_cases}
use Rattle.rustc_lexer.proofs.Cutting.{first-length, tokens-cons}
use Rattle.rustc_lexer.proofs.Sizes.{length-size, size-append, size-chars}
use Rattle.parser_input.specs.Leaf.{leaf_of}
use Rattle.parser_input.specs.Lexed.{Lexed, cut, is_split}
use Rattle.parser_input.specs.Single.{alone, single}
use Rattle.parser_input.specs.Stored.{leaf_next}
use Rattle.parser_input.specs.declared.edition.Edition.{Edition}
use Rattle.parser_input.proofs.LexedSteps.{leaf-split, leaf-whole, next-own, some-chars}

-- the bytes of a text that is cut in two
size-parts : (n : ℕ) (t : List ℕ) → size t ≡ size (take n t) + size (drop n t)
size-parts n t = ap size (sym (take-append-drop n t)) ∙ size-append (take n t) (drop n t)

two_leaves : (ts : List lexer.Lexeme) (k l : Lexed) (ls : List Lexed) → alone ts (k ∷ l ∷ ls) ≡ None
two_leaves [] k l ls = refl
two_leaves (t ∷ []) k l ls = refl
two_leaves (t ∷ u ∷ ts) k l ls = refl

more-leaves : (edition : Edition) (ts : List lexer.Lexeme) (l : Lexed) (rest : List ℕ) → 0 < length rest → alone ts (l ∷ cut edition 0 rest) ≡ None
unfolding cut
more-leaves edition ts l [] h = absurd (omega arith)
more-leaves edition ts l (c ∷ cs) h = two_leaves ts l _ _

some-length : (t : List ℕ) → 0 < size t → 0 < length t
unfolding size
some-length [] h = absurd (omega arith)
some-length (c ∷ cs) h = omega arith

none-single : (edition : Edition) → None ≡ single edition []
unfolding single lexer.tokens lexer.cut cut
none-single edition = refl

pub empty-single : (edition : Edition) (bs : List ℕ) → length bs ≡ 0 → None ≡ single edition (chars bs)
empty-single edition [] h = none-single edition ∙ ap (λ (t : List ℕ). single edition t) (sym chars-nil)
empty-single edition (b ∷ bs) h = absurd (omega arith)

pub single-none : (edition : Edition) (bs : List ℕ) → IsUtf8 bs → 0 < length bs → size (leaf_next edition (chars bs)).leaf.text < length bs → None ≡ single edition (chars bs)
unfolding single
single-none edition bs u some less =
    let t = chars bs in
    let o = next-own edition t (some-chars bs u some) in
    let rest = drop o.0 t in
    let left : 0 < size rest = omega (arith, less, ap size o.1.own, size-parts o.0 t, size-chars bs u) in
    sym (ap (λ (ls : List Lexed). alone (lexer.tokens t) ls) o.1.rest ∙ more-leaves edition (lexer.tokens t) (leaf_next edition t) rest (some-length rest left))

none-left : (t : List ℕ) → size t ≡ 0 → t ≡ []
none-left [] e = refl
none-left (c ∷ cs) e = absurd (omega (arith, length-size (c ∷ cs)))

-- a leaf is no longer than the lexeme that it comes from
leaf-length : (edition : Edition) (t : List ℕ) → length (leaf_next edition t).leaf.text ≤ (lexeme t).taken
unfolding leaf_of
leaf-length edition t =
    let l = lexer.first_lexeme t in
    elim (bool_cases (is_split edition l.kind)) [
      | inl split ↦ omega (arith, ap (λ (x : Lexed). length x.leaf.text) (leaf-split edition l split), length-take 1 l.text, first-length t)
      | inr whole ↦ omega (arith, ap (λ (x : Lexed). length x.leaf.text) (leaf-whole edition l whole), first-length t)
    ]

one_token : (t : List ℕ) → 1 ≤ length t → length t ≤ (lexeme t).taken → lexer.tokens t ≡ lexer.first_lexeme t ∷ []
unfolding lexer.tokens lexer.cut
one_token [] h k = absurd (omega arith)
one_token (c ∷ cs) h k = tokens-cons c cs ∙ ap (λ (x : List ℕ). lexer.first_lexeme (c ∷ cs) ∷ lexer.tokens x) (drop_all (lexeme (c ∷ cs)).taken (c ∷ cs) k)

pub single-some : (edition : Edition) (bs : List ℕ) → IsUtf8 bs → 0 < length bs → length bs ≤ size (leaf_next edition (chars bs)).leaf.text → Some (leaf_next edition (chars bs)) ≡ single edition (chars bs)
unfolding single cut
single-some edition bs u some whole =
    let t = chars bs in
    let long = some-chars bs u some in
    let o = next-own edition t long in
    let own = o.1.own in
    let left : size (drop o.0 t) ≡ 0 = omega (arith, whole, ap size own, size-parts o.0 t, size-chars bs u) in
    let none : drop o.0 t ≡ [] = none-left (drop o.0 t) left in
    let leaves : cut edition 0 t ≡ leaf_next edition t ∷ [] = o.1.rest ∙ ap (λ (x : List ℕ). leaf_next edition t ∷ cut edition 0 x) none in
    let all : length t ≡ length (take o.0 t) + length (drop o.0 t) = ap (λ (x : List ℕ). length x) (sym (take-append-drop o.0 t)) ∙ length-append (take o.0 t) (drop o.0 t) in
    let gone : length (drop o.0 t) ≡ 0 = ap (λ (x : List ℕ). length x) none in
    let covers : length t ≤ (lexeme t).taken = omega (arith, all, gone, ap (λ (x : List ℕ). length x) own, leaf-length edition t) in
    sym (ap (λ (ls : List Lexed). alone (lexer.tokens t) ls) leaves ∙ ap (λ (ts : List lexer.Lexeme). alone ts (leaf_next edition t ∷ [])) (one_token t long covers))
