-- A token without a message that is neither whitespace nor a comment ends before whitespace.
use Rattle.std.proofs.Common.{◌≡◌, ℕ, Bool, true, false, not, ◌&&◌, List, [], ◌∷◌, map, Some, None, is_none, refl, ◌∙◌, ap, arith}
use Rattle.std.specs.List.{All, list_all}
use Rattle.std.proofs.lemmas.List.Elements.{All-cons}
use Rattle.std.proofs.lemmas.Bool.{and_parts}
use Rattle.rustc_lexer.specs.Rows.{first_fit}
use Rattle.rustc_lexer.specs.Tokens.{Lexeme}
use Rattle.rustc_lexer.specs.declared.token.LiteralKind.{LiteralKind}
use Rattle.rustc_lexer.specs.declared.token.LiteralKind.TheVariants as literals
use Rattle.rustc_lexer.specs.declared.token.TokenKind.{TokenKind}
use Rattle.rustc_lexer.specs.declared.token.TokenKind.TheVariants as kinds
use Rattle.parser_input.specs.Kind as kind
use Rattle.parser_input.specs.Leaf.{leaf_of, kind_of}
use Rattle.parser_input.specs.Lexed.{is_split}
use Rattle.parser_input.specs.Messages.{literal_message, message_of, quoted_message}
use Rattle.parser_input.specs.declared.edition.Edition.{Edition}
use Rattle.plain_names.specs.ClosedTokens.{is_terminated, is_closed}
use Rattle.spaced_core.specs.WellSpaced.{is_sound}

literal-ends : (k : LiteralKind) (text : List ℕ) → is_none (literal_message k text) ≡ true → is_terminated k ≡ true
unfolding literal_message quoted_message first_fit is_terminated
literal-ends (literals.Int base empty) text h = refl
literal-ends (literals.Float base empty) text h = refl
literal-ends (literals.Char true) text h = refl
literal-ends (literals.Char false) text h = let z : false ≡ true = h in absurd (cc)
literal-ends (literals.Byte true) text h = refl
literal-ends (literals.Byte false) text h = let z : false ≡ true = h in absurd (cc)
literal-ends (literals.Str true) text h = refl
literal-ends (literals.Str false) text h = let z : false ≡ true = h in absurd (cc)
literal-ends (literals.ByteStr true) text h = refl
literal-ends (literals.ByteStr false) text h = let z : false ≡ true = h in absurd (cc)
literal-ends (literals.CStr true) text h = refl
literal-ends (literals.CStr false) text h = let z : false ≡ true = h in absurd (cc)
literal-ends (literals.RawStr (Some n)) text h = refl
literal-ends (literals.RawStr None) text h = let z : false ≡ true = h in absurd (cc)
literal-ends (literals.RawByteStr (Some n)) text h = refl
literal-ends (literals.RawByteStr None) text h = let z : false ≡ true = h in absurd (cc)
literal-ends (literals.RawCStr (Some n)) text h = refl
literal-ends (literals.RawCStr None) text h = let z : false ≡ true = h in absurd (cc)

token-ends : (edition : Edition) (k : TokenKind) (text : List ℕ) → kind.is_trivia (kind_of edition k text) ≡ false → is_none (message_of edition k text) ≡ true → is_closed k ≡ true
unfolding kind_of message_of is_closed
token-ends edition (kinds.LineComment style) text solid h = let z : true ≡ false = solid in absurd (cc)
token-ends edition (kinds.BlockComment style terminated) text solid h = let z : true ≡ false = solid in absurd (cc)
token-ends edition kinds.Whitespace text solid h = let z : true ≡ false = solid in absurd (cc)
token-ends edition (kinds.Literal k start) text solid h = literal-ends k _ h
token-ends edition kinds.Ident text solid h = refl
token-ends edition kinds.UnknownPrefix text solid h = refl
token-ends edition kinds.RawIdent text solid h = refl
token-ends edition kinds.UnknownPrefixLifetime text solid h = refl
token-ends edition kinds.RawLifetime text solid h = refl
token-ends edition (kinds.Lifetime digit) text solid h = refl
token-ends edition kinds.GuardedStrPrefix text solid h = refl
token-ends edition kinds.Semi text solid h = refl
token-ends edition kinds.Comma text solid h = refl
token-ends edition kinds.Dot text solid h = refl
token-ends edition kinds.OpenParen text solid h = refl
token-ends edition kinds.CloseParen text solid h = refl
token-ends edition kinds.OpenBrace text solid h = refl
token-ends edition kinds.CloseBrace text solid h = refl
token-ends edition kinds.OpenBracket text solid h = refl
token-ends edition kinds.CloseBracket text solid h = refl
token-ends edition kinds.At text solid h = refl
token-ends edition kinds.Pound text solid h = refl
token-ends edition kinds.Tilde text solid h = refl
token-ends edition kinds.Question text solid h = refl
token-ends edition kinds.Colon text solid h = refl
token-ends edition kinds.Dollar text solid h = refl
token-ends edition kinds.Eq text solid h = refl
token-ends edition kinds.Bang text solid h = refl
token-ends edition kinds.Lt text solid h = refl
token-ends edition kinds.Gt text solid h = refl
token-ends edition kinds.Minus text solid h = refl
token-ends edition kinds.And text solid h = refl
token-ends edition kinds.Or text solid h = refl
token-ends edition kinds.Plus text solid h = refl
token-ends edition kinds.Star text solid h = refl
token-ends edition kinds.Slash text solid h = refl
token-ends edition kinds.Caret text solid h = refl
token-ends edition kinds.Percent text solid h = refl
token-ends edition kinds.Unknown text solid h = refl
token-ends edition kinds.Eof text solid h = refl

-- whitespace and comments are no tokens of the parser
abbrev pub is_solid : ℕ → Bool
is_solid k = not (kind.is_trivia k)

not-false : (b : Bool) → not b ≡ true → b ≡ false
not-false true h = absurd (cc)
not-false false h = refl

pub sound-parts : (edition : Edition) (t : Lexeme) → is_sound edition t ≡ true → (is_split edition t.kind ≡ false) × (is_none (message_of edition t.kind t.text) ≡ true)
unfolding is_sound
sound-parts edition t h =
    let both = and_parts (not (is_split edition t.kind)) (is_none (message_of edition t.kind t.text)) h in
    (not-false (is_split edition t.kind) both.0, both.1)

-- sound tokens whose leaves are solid end before whitespace
pub all-closed : (edition : Edition) (ts : List Lexeme) → list_all (is_sound edition) ts ≡ true → list_all is_solid (map (λ l. l.kind) (map (leaf_of edition) ts)) ≡ true → list_all (λ t. is_closed t.kind) ts ≡ true
unfolding leaf_of
all-closed edition [] sound solid = refl
all-closed edition (t ∷ ts) sound solid =
    let a = and_parts (is_sound edition t) (list_all (is_sound edition) ts) sound in
    let b = and_parts (is_solid (kind_of edition t.kind t.text)) (list_all is_solid (map (λ l. l.kind) (map (leaf_of edition) ts))) solid in
    let here = token-ends edition t.kind t.text (not-false (kind.is_trivia (kind_of edition t.kind t.text)) b.0) (sound-parts edition t a.0).1 in
    ap (λ (x : Bool). x && list_all (λ t. is_closed t.kind) ts) here ∙ all-closed edition ts a.1 b.1

-- the token is one leaf
abbrev pub is_whole : Edition → Lexeme → Bool
is_whole edition t = not (is_split edition t.kind)

pub all-whole : (edition : Edition) (ts : List Lexeme) → list_all (is_sound edition) ts ≡ true → list_all (is_whole edition) ts ≡ true
all-whole edition [] sound = refl
all-whole edition (t ∷ ts) sound =
    let a = and_parts (is_sound edition t) (list_all (is_sound edition) ts) sound in
    ap (λ (x : Bool). not x && list_all (is_whole edition) ts) (sound-parts edition t a.0).0 ∙ all-whole edition ts a.1

pub none-split : (edition : Edition) (ts : List Lexeme) → list_all (is_whole edition) ts ≡ true → All (λ t. is_split edition t.kind ≡ false) ts
none-split edition [] h = λ i d l. absurd (omega (arith, l))
none-split edition (t ∷ ts) h =
    let a = and_parts (is_whole edition t) (list_all (is_whole edition) ts) h in
    All-cons (λ (t : Lexeme). is_split edition t.kind ≡ false) t ts (not-false (is_split edition t.kind) a.0) (none-split edition ts a.1)
