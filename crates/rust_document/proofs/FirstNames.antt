-- A text whose first token is a name.
use Rattle.std.proofs.Common.{◌≡◌, ℕ, zero, suc, List, [], ◌∷◌, ◌++◌, length, take, chars, refl, sym, ◌∙◌, ap, arith}
use Rattle.std.specs.Str.{IsUtf8}
use Rattle.std.proofs.lemmas.Str.{chars-append, encodes-chars, len_utf8_bounds}
use Rattle.rustc_lexer.specs.Characters.{size}
use Rattle.rustc_lexer.specs.Lexeme.{lexeme}
use Rattle.rustc_lexer.specs.Tokens.{Lexeme, first_lexeme, next_lexeme, token}
use Rattle.rustc_lexer.specs.declared.token.Token.{Token}
use Rattle.rustc_lexer.specs.declared.token.TokenKind.TheVariants.{Eof, Ident}
use Rattle.rustc_lexer.proofs.Sizes.{size-encodes}
use Rattle.plain_names.specs.TokenNames.{name_lexeme}
use Rattle.plain_names.proofs.Renamed.{no-name}

-- a prefix of a text that has as many bytes as another one
prefix-by-size : (xs ys : List ℕ) (n : ℕ) → size (take n (xs ++ ys)) ≡ size xs → take n (xs ++ ys) ≡ xs
unfolding size
prefix-by-size [] [] zero h = refl
prefix-by-size [] [] (suc n) h = refl
prefix-by-size [] (y ∷ ys) zero h = refl
prefix-by-size [] (y ∷ ys) (suc n) h = let some = (len_utf8_bounds y).0 in absurd (omega (arith, h, some))
prefix-by-size (x ∷ xs) ys zero h = let some = (len_utf8_bounds x).0 in absurd (omega (arith, h, some))
prefix-by-size (x ∷ xs) ys (suc n) h = ap (λ (z : List ℕ). x ∷ z) (prefix-by-size xs ys n (omega (arith, h)))

first-of : (cs : List ℕ) (t : Token) → t ≡ token (next_lexeme cs) → t.kind ≡ Ident → t ≡ token (first_lexeme cs)
unfolding next_lexeme
first-of [] t is kind = let z : Eof ≡ Ident = sym (ap (λ (u : Token). u.kind) is) ∙ kind in absurd (cc)
first-of (c ∷ cs) t is kind = is

pub name-first :
    (text name rest : List ℕ) (t : Token) → IsUtf8 name → name ++ rest ≡ text → t ≡ token (next_lexeme (chars text)) → t.kind ≡ Ident
    → t.len ≡ length name → first_lexeme (chars text) ≡ name_lexeme (chars name)
unfolding first_lexeme
name-first text name rest t u parts is kind len =
    let cs = chars text in
    let own = first-of cs t is kind in
    let n = (lexeme cs).taken in
    let split : cs ≡ chars name ++ chars rest = ap chars (sym parts) ∙ chars-append name rest u in
    let sized : size (take n (chars name ++ chars rest)) ≡ size (chars name) =
    ap (λ (z : List ℕ). size (take n z)) (sym split) ∙ sym (ap (λ (x : Token). x.len) own) ∙ len
    ∙ sym (ap (λ (z : List ℕ). length z) (encodes-chars name u)) ∙ size-encodes (chars name) in
    let text_is : take n cs ≡ chars name = ap (λ (z : List ℕ). take n z) split ∙ prefix-by-size (chars name) (chars rest) n sized in
    let kind_is : (lexeme cs).value ≡ Ident = sym (ap (λ (x : Token). x.kind) own) ∙ kind in
    (λ i. let l : Lexeme = record { kind = kind_is i; text = text_is i } in l)

-- ---- and the other way round

no-text : (n : ℕ) → take n (let none : List ℕ = [] in none) ≡ []
no-text zero = refl
no-text (suc n) = refl

-- no text has no first name
pub none-first : (name : List ℕ) → first_lexeme [] ≡ name_lexeme name → ⊥
unfolding first_lexeme
none-first name is =
    let own : name ≡ [] = sym (ap (λ (l : Lexeme). l.text) is) ∙ no-text (lexeme []).taken in
    no-name [] (is ∙ ap name_lexeme own)

next-is : (cs name : List ℕ) → first_lexeme cs ≡ name_lexeme name → next_lexeme cs ≡ name_lexeme name
unfolding next_lexeme
next-is [] name is = absurd (none-first name is)
next-is (c ∷ cs) name is = is

pub first-kind : (text name : List ℕ) (t : Token) → t ≡ token (next_lexeme (chars text)) → first_lexeme (chars text) ≡ name_lexeme name → t.kind ≡ Ident
first-kind text name t own is = ap (λ (x : Token). x.kind) own ∙ ap (λ (l : Lexeme). l.kind) (next-is (chars text) name is)

pub first-len : (text name : List ℕ) (t : Token) → IsUtf8 name → t ≡ token (next_lexeme (chars text)) → first_lexeme (chars text) ≡ name_lexeme (chars name) → t.len ≡ length name
first-len text name t u own is =
    ap (λ (x : Token). x.len) own ∙ ap (λ (l : Lexeme). (token l).len) (next-is (chars text) (chars name) is)
    ∙ sym (size-encodes (chars name)) ∙ ap (λ (z : List ℕ). length z) (encodes-chars name u)
