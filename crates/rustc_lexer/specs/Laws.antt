-- What holds of the lexemes of every text.
use Rattle.std.specs.Prelude.{◌≡◌, ℕ, suc, ◌+◌, ◌<◌, ◌≤◌, true, false, not, ◌&&◌, ◌||◌, ◌==◌, List, ◌∷◌, length, take, drop, get_or, if◌then◌else◌}
use Rattle.std.specs.Bool.{MatchBool}
use Rattle.std.specs.List.{All, sum_by}
use Rattle.rustc_lexer.specs.Characters.{hash, letter_r, tick, is_digit, is_id_start, is_id_continue, is_ident, size}
use Rattle.rustc_lexer.specs.Scan.{peek, block, quoted, raw, closing, unclosed}
use Rattle.rustc_lexer.specs.Endings.{ClosesAt, ClosesRawAt, Nested, EndsCharacterAt, FirstEnd, lifetime_kind}
use Rattle.rustc_lexer.specs.Numbers.{LongestRun, NumberParts}
use Rattle.rustc_lexer.specs.Reads.{Reads}
use Rattle.rustc_lexer.specs.Lexeme.{is_single, is_raw, character_end, number, lexeme}
use Rattle.rustc_lexer.specs.Tokens.{first_lexeme, tokens, joined, token_list}
use Rattle.rustc_lexer.specs.declared.token.LiteralKind.{LiteralKind}
use Rattle.rustc_lexer.specs.declared.token.LiteralKind.TheVariants.{Char}
use Rattle.rustc_lexer.specs.declared.token.TokenKind.TheVariants.{Ident, Literal, RawLifetime}

-- a lexeme depends on its own characters and on two after it; where fewer follow, on that too
abbrev pub LexemeIsLocal : Type 0
LexemeIsLocal =
    (text other : List ℕ) → take ((lexeme text).taken + 2) text ≡ take ((lexeme text).taken + 2) other →
    lexeme other ≡ lexeme text

-- texts that agree on their first m characters have the same first lexemes, as far as these end two characters before
abbrev pub FrontIsKept : Type 0
FrontIsKept =
    (k m : ℕ) (text other : List ℕ) → take m text ≡ take m other →
    length (joined (take k (tokens text))) + 2 ≤ m → take k (tokens text) ≡ take k (tokens other)

-- a text's lexemes are its first one and those of what is left after it
abbrev pub TokensGoOn : Type 0
TokensGoOn =
    (c : ℕ) (cs : List ℕ) →
    tokens (c ∷ cs) ≡ first_lexeme (c ∷ cs) ∷ tokens (drop (length (first_lexeme (c ∷ cs)).text) (c ∷ cs))

-- from the end of any lexeme on stand those after it
abbrev pub BoundariesCut : Type 0
BoundariesCut = (k : ℕ) (text : List ℕ) → tokens (drop (length (joined (take k (tokens text)))) text) ≡ drop k (tokens text)

-- the lexemes' characters, joined, are the text
abbrev pub TokensJoin : Type 0
TokensJoin = (text : List ℕ) → joined (tokens text) ≡ text

-- each lexeme has a character
abbrev pub EachTakesOne : Type 0
EachTakesOne = (text : List ℕ) → All (λ l. 1 ≤ length l.text) (tokens text)

-- each token has a byte
abbrev pub EachHasLength : Type 0
EachHasLength = (text : List ℕ) → All (λ t. 1 ≤ t.len) (token_list text)

-- the lengths of the tokens sum to the bytes of the text
abbrev pub LengthsSum : Type 0
LengthsSum = (text : List ℕ) → sum_by (λ t. t.len) (token_list text) ≡ size text

-- the characters of an identifier are one
abbrev pub IdentsAreIdents : Type 0
IdentsAreIdents = (text : List ℕ) → All (λ l. l.kind ≡ Ident → is_ident l.text ≡ true) (tokens text)

-- a string closes at the first place where it may, and is taken with it; where there is none it takes all and is open
abbrev pub StringsClose : Type 0
StringsClose =
    (text : List ℕ) → MatchBool (quoted false text).value
    ((k : ℕ) × ((quoted false text).taken ≡ suc k) × ClosesAt text k × ((j : ℕ) → j < k → ClosesAt text j → ⊥))
    (((quoted false text).taken ≡ length text) × ((j : ℕ) → ClosesAt text j → ⊥))

-- so does a raw string, with its hashes
abbrev pub RawStringsClose : Type 0
RawStringsClose =
    (n : ℕ) (text : List ℕ) → MatchBool (raw n text).value
    ((k : ℕ) × ((raw n text).taken ≡ suc k + n) × ClosesRawAt n text k × ((j : ℕ) → j < k → ClosesRawAt n text j → ⊥))
    (((raw n text).taken ≡ length text) × ((j : ℕ) → ClosesRawAt n text j → ⊥))

-- a block comment is closed just where its inside nests, and ends there
abbrev pub CommentsNest : Type 0
CommentsNest =
    (text : List ℕ) →
    ((block 0 text).value ≡ true → Nested text (drop (block 0 text).taken text))
    × ((rest : List ℕ) → Nested text rest → ((block 0 text).value ≡ true) × (rest ≡ drop (block 0 text).taken text))

-- a number is read by its parts, whatever follows them
abbrev pub NumbersAreRead : Type 0
NumbersAreRead =
    (text rest : List ℕ) (kind : LiteralKind) → NumberParts text kind rest →
    Reads number text (record { kind = kind; ends = true }) rest

-- and what is read from a digit on has these parts
abbrev pub NumbersHaveParts : Type 0
NumbersHaveParts =
    (text : List ℕ) → is_digit (peek 0 text) ≡ true →
    NumberParts text (number text).value.kind (drop (number text).taken text)

-- one character and a `'` after it, if it is no `\`
abbrev pub OneCharacterCloses : Type 0
OneCharacterCloses = (text : List ℕ) → is_single (peek 0 text) (peek 1 text) ≡ true → character_end text ≡ closing 2

-- else a character ends at the first place where it may: with the `'` there, or unclosed before what stops it
abbrev pub CharactersEnd : Type 0
CharactersEnd =
    (text : List ℕ) (k : ℕ) → is_single (peek 0 text) (peek 1 text) ≡ false → FirstEnd text k →
    character_end text ≡ (if get_or text k 0 == tick then closing (suc k) else unclosed k)

-- and where there is none it takes all and is open
abbrev pub CharactersStayOpen : Type 0
CharactersStayOpen =
    (text : List ℕ) → is_single (peek 0 text) (peek 1 text) ≡ false →
    ((k : ℕ) → EndsCharacterAt text k → ⊥) →
    character_end text ≡ unclosed (length text)

-- what begins a name, or a digit, with no `'` after it
abbrev pub BeginsLifetime : ℕ → List ℕ → Type 0
BeginsLifetime first text = (not (peek 0 text == tick) && (is_id_start first || is_digit first)) ≡ true

-- a lifetime is a `'`, its first character and all that go on as a name
abbrev pub LifetimesEnd : Type 0
LifetimesEnd =
    (first : ℕ) (text word rest : List ℕ) → BeginsLifetime first text →
    is_raw first (peek 0 text) (peek 1 text) ≡ false →
    LongestRun is_id_continue text word rest → (peek 0 rest == tick) ≡ false →
    Reads lexeme (tick ∷ first ∷ text) (lifetime_kind (is_digit first) (peek 0 rest)) rest

-- with a `'` after it it is a character
abbrev pub QuotedNamesAreCharacters : Type 0
QuotedNamesAreCharacters =
    (first : ℕ) (text word rest : List ℕ) → BeginsLifetime first text →
    is_raw first (peek 0 text) (peek 1 text) ≡ false →
    LongestRun is_id_continue text word (tick ∷ rest) →
    Reads lexeme (tick ∷ first ∷ text) (Literal (Char true) (size (tick ∷ first ∷ word) + 1)) rest

-- a raw lifetime is a `'`, `r#` and a name
abbrev pub RawLifetimesEnd : Type 0
RawLifetimesEnd =
    (first : ℕ) (text word rest : List ℕ) → is_id_start first ≡ true →
    LongestRun is_id_continue text word rest →
    Reads lexeme (tick ∷ letter_r ∷ hash ∷ first ∷ text) RawLifetime rest
