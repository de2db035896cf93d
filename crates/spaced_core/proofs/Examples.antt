-- The examples: a test of spaced leaves whose texts are ASCII, and what it computes to.
use Rattle.std.proofs.Common.{◌≡◌, ℕ, zero, suc, Bool, true, false, not, ◌&&◌, ◌||◌, ◌==◌, leb, ◌<◌, List, [], ◌∷◌, chars, codes, map, None, Option, Some, is_none, refl, sym, ◌∙◌, ap, subst, arith, if◌then◌else◌}
use Rattle.std.specs.List.{All, list_all}
use Rattle.std.proofs.lemmas.List.Elements.{All-cons}
use Rattle.std.specs.Str.{IsAscii, IsUtf8}
use Rattle.std.proofs.lemmas.Bool.{and_parts}
use Rattle.std.proofs.lemmas.Bool.Decides.{nat_tests}
use Rattle.std.proofs.lemmas.Str.{chars_from_encodes, encodes-IsAscii, IsUtf8-from_ascii}
use Rattle.unicode_ident.proofs.Computing.{unicode_ident}
use Rattle.rustc_lexer.specs.Characters.{is_digit, is_hex_digit, is_id_continue, is_id_start, is_whitespace, size}
use Rattle.rustc_lexer.specs.Rows.{first_fit}
use Rattle.rustc_lexer.specs.Scan.{◌▸◌, begin, give, look, name, name_len, run, run_len, skip, spelled}
use Rattle.rustc_lexer.specs.Lexeme.{base_of, based, case_of, digit_or_underscore, digits, digits_of, exponent, fraction, has_digit, identifier, is_exponent, is_point, lexeme, lexeme_in, literal, number, opens_literal, plain_kind, sign, suffix}
use Rattle.rustc_lexer.specs.Tokens.{cut, first_lexeme, tokens}
use Rattle.rowan_green.specs.Leaf as green
use Rattle.parser_input.specs.Edition.{is_from}
use Rattle.parser_input.specs.Keywords.{contextual_kind, word_of, words}
use Rattle.parser_input.specs.Kinds.{COMMENT, PIPE_GT, UNION_KW, WHITESPACE}
use Rattle.parser_input.specs.Leaf.{kind_of, leaf_of, leaves, literal_kind, word_kind}
use Rattle.parser_input.specs.Lexed.{is_split}
use Rattle.parser_input.specs.Messages.{literal_message, message_of}
use Rattle.parser_input.specs.declared.edition.Edition.{Edition}
use Rattle.parser_input.specs.declared.edition.Edition.TheVariants.{Edition2015, Edition2018, Edition2021, Edition2024, EditionNext}
use Rattle.core_language.specs.Expressions.{Binary, Expression, Literal, Named, Parenthesized}
use Rattle.core_language.specs.Items.{Function, ItemThen, Items, NoElement, NoItem, NoReturnType, Private, items_tokens}
use Rattle.core_language.specs.Operators.{Integer, Pipe, Plus, Times}
use Rattle.core_language.specs.Statements.{Braces, NoStatement, Run, StatementThen}
use Rattle.core_language.specs.Types.{Name}
use Rattle.plain_names.proofs.Paths.{same, same-sound}
use Rattle.spaced_core.specs.Examples.{ExamplesAreClassified, a_contextual_keyword, a_pipe, a_product, a_touching_name}
use Rattle.spaced_core.specs.Spelled.{PunctuationIsSpelled, Spelling, punctuation}
use Rattle.spaced_core.specs.WellSpaced.{AreSpaced, IsSpelled, IsWellSpaced, IsWritten, characters_of, is_parted, is_sound, is_space, leaves_of, shape}

-- ---- ASCII

abbrev are_ascii : List ℕ → Bool
are_ascii t = list_all (λ b. leb b 127) t

small : (b : ℕ) → leb b 127 ≡ true → b < 128
small b h = grind (arith, nat_tests)

ascii : (t : List ℕ) → are_ascii t ≡ true → IsAscii t
ascii [] h i = omega arith
ascii (b ∷ t) h zero = small b (and_parts (leb b 127) (are_ascii t) h).0
ascii (b ∷ t) h (suc i) = ascii t (and_parts (leb b 127) (are_ascii t) h).1 i

plain : (t : List ℕ) → are_ascii t ≡ true → IsUtf8 t × (chars t ≡ t)
plain t h =
    let a = ascii t h in
    let u = IsUtf8-from_ascii t a in
    (u, sym (chars_from_encodes t t u (encodes-IsAscii t a)))

-- ---- the test

not-false : (b : Bool) → not b ≡ true → b ≡ false
not-false true h = absurd (cc)
not-false false h = refl

none-is : {A : Type 0} (o : Option A) → is_none o ≡ true → o ≡ None
none-is None h = refl
none-is (Some x) h = absurd (cc)

either-true : (a b : Bool) → a ≡ true → (not a || b) ≡ true → b ≡ true
either-true true b e h = h
either-true false b e h = absurd (cc)

abbrev is_spelled : Edition → ℕ → List ℕ → Bool
is_spelled edition k t =
    (same (map (λ l. l.kind) (leaves edition t)) (characters_of k) && list_all (is_sound edition) (tokens t))
    && (is_none (contextual_kind edition t) && (not (k == PIPE_GT) || is_from EditionNext edition))

spelled-by : (edition : Edition) (k : ℕ) (t : List ℕ) → is_spelled edition k t ≡ true → IsSpelled edition k t
spelled-by edition k t h =
    let a = and_parts (same (map (λ l. l.kind) (leaves edition t)) (characters_of k) && list_all (is_sound edition) (tokens t)) (is_none (contextual_kind edition t) && (not (k == PIPE_GT) || is_from EditionNext edition)) h in
    let b = and_parts (same (map (λ l. l.kind) (leaves edition t)) (characters_of k)) (list_all (is_sound edition) (tokens t)) a.0 in
    let c = and_parts (is_none (contextual_kind edition t)) (not (k == PIPE_GT) || is_from EditionNext edition) a.1 in
    record {
      kinds = same-sound (map (λ l. l.kind) (leaves edition t)) (characters_of k) b.0;
      sound = b.1;
      name = λ _. none-is (contextual_kind edition t) c.0;
      pipe = λ e. either-true (k == PIPE_GT) (is_from EditionNext edition) (ap (λ (n : ℕ). n == PIPE_GT) e) c.1;
    }

abbrev is_written : Edition → green.Leaf → Bool
is_written edition l =
    are_ascii l.text
    && (not (l.kind == COMMENT) && (if l.kind == WHITESPACE then is_space l.text else is_spelled edition l.kind l.text))

if-true : (b x y : Bool) → b ≡ true → (if b then x else y) ≡ true → x ≡ true
if-true b x y e h = subst (λ (c : Bool). (if c then x else y) ≡ true) e h

if-false : (b x y : Bool) → b ≡ false → (if b then x else y) ≡ true → y ≡ true
if-false b x y e h = subst (λ (c : Bool). (if c then x else y) ≡ true) e h

written-by : (edition : Edition) (l : green.Leaf) → is_written edition l ≡ true → IsWritten edition l
written-by edition l h =
    let either = if l.kind == WHITESPACE then is_space l.text else is_spelled edition l.kind l.text in
    let a = and_parts (are_ascii l.text) (not (l.kind == COMMENT) && either) h in
    let b = and_parts (not (l.kind == COMMENT)) either a.1 in
    let p = plain l.text a.0 in
    record {
      utf8 = p.0;
      no_comment = not-false (l.kind == COMMENT) b.0;
      space = λ w. ap is_space p.1 ∙ if-true (l.kind == WHITESPACE) (is_space l.text) (is_spelled edition l.kind l.text) w b.1;
      spelled = λ w. subst (IsSpelled edition l.kind) (sym p.1) (spelled-by edition l.kind l.text (if-false (l.kind == WHITESPACE) (is_space l.text) (is_spelled edition l.kind l.text) w b.1));
    }

abbrev are_spaced : Edition → List green.Leaf → Bool
are_spaced edition [] = true
are_spaced edition (l ∷ ls) = is_written edition l && (is_parted l ls && are_spaced edition ls)

spaced-by : (edition : Edition) (ls : List green.Leaf) → are_spaced edition ls ≡ true → AreSpaced edition ls
spaced-by edition [] h = tt
spaced-by edition (l ∷ ls) h =
    let a = and_parts (is_written edition l) (is_parted l ls && are_spaced edition ls) h in
    let b = and_parts (is_parted l ls) (are_spaced edition ls) a.1 in
    (written-by edition l a.0, b.0, spaced-by edition ls b.1)

-- ---- punctuation

abbrev are_spelled : Edition → List Spelling → Bool
are_spelled edition ss = list_all (λ s. is_spelled edition s.kind s.text) ss

all-spelled : (edition : Edition) (ss : List Spelling) → are_spelled edition ss ≡ true → All (λ s. IsSpelled edition s.kind s.text) ss
all-spelled edition [] h = λ i d l. absurd (omega (arith, l))
all-spelled edition (s ∷ ss) h =
    let a = and_parts (is_spelled edition s.kind s.text) (are_spelled edition ss) h in
    All-cons (λ (s : Spelling). IsSpelled edition s.kind s.text) s ss (spelled-by edition s.kind s.text a.0) (all-spelled edition ss a.1)

each-edition : (edition : Edition) → are_spelled edition punctuation ≡ true
unfolding leaves leaf_of kind_of word_kind literal_kind word_of words tokens cut first_lexeme lexeme begin case_of first_fit lexeme_in identifier number literal suffix spelled based base_of digits digits_of digit_or_underscore has_digit fraction exponent is_exponent is_point plain_kind name name_len ◌▸◌ skip run run_len look give opens_literal is_whitespace is_digit is_hex_digit is_id_start is_id_continue size sign characters_of is_sound is_split message_of literal_message unicode_ident
each-edition Edition2015 = refl
each-edition Edition2018 = refl
each-edition Edition2021 = refl
each-edition Edition2024 = refl
each-edition EditionNext = refl

pipe-alone : is_spelled EditionNext PIPE_GT (codes "|>") ≡ true
unfolding leaves leaf_of kind_of word_kind literal_kind word_of words tokens cut first_lexeme lexeme begin case_of first_fit lexeme_in identifier number literal suffix spelled based base_of digits digits_of digit_or_underscore has_digit fraction exponent is_exponent is_point plain_kind name name_len ◌▸◌ skip run run_len look give opens_literal is_whitespace is_digit is_hex_digit is_id_start is_id_continue size sign characters_of is_sound is_split message_of literal_message unicode_ident
pipe-alone = refl

pub punctuation-spelled : PunctuationIsSpelled
punctuation-spelled = (λ edition. all-spelled edition punctuation (each-edition edition), spelled-by EditionNext PIPE_GT (codes "|>") pipe-alone)

-- ---- the examples

abbrev file_of : Expression → Items
file_of e = ItemThen (Function Private false false false NoElement false NoReturnType (Braces false (StatementThen (Run e false) NoStatement) false)) NoItem

product-spaced : are_spaced Edition2015 (leaves_of a_product.forest) ≡ true
unfolding leaves leaf_of kind_of word_kind literal_kind word_of words tokens cut first_lexeme lexeme begin case_of first_fit lexeme_in identifier number literal suffix spelled based base_of digits digits_of digit_or_underscore has_digit fraction exponent is_exponent is_point plain_kind name name_len ◌▸◌ skip run run_len look give opens_literal is_whitespace is_digit is_hex_digit is_id_start is_id_continue size sign characters_of is_sound is_split message_of literal_message unicode_ident
product-spaced = refl

pipe-spaced : are_spaced EditionNext (leaves_of a_pipe.forest) ≡ true
unfolding leaves leaf_of kind_of word_kind literal_kind word_of words tokens cut first_lexeme lexeme begin case_of first_fit lexeme_in identifier number literal suffix spelled based base_of digits digits_of digit_or_underscore has_digit fraction exponent is_exponent is_point plain_kind name name_len ◌▸◌ skip run run_len look give opens_literal is_whitespace is_digit is_hex_digit is_id_start is_id_continue size sign characters_of is_sound is_split message_of literal_message unicode_ident
pipe-spaced = refl

product-is : IsWellSpaced Edition2015 a_product
unfolding shape characters_of
product-is =
    let is = file_of (Binary (Parenthesized false (Binary (Literal Integer false) Plus false (Literal Integer false)) false) Times false (Named (Name false))) in
    record {
      spaced = spaced-by Edition2015 (leaves_of a_product.forest) product-spaced;
      tokens = items_tokens is [];
      core = record { items = is; well_formed = ((((tt, tt, omega arith, omega arith, refl), tt, omega arith, omega arith, refl), tt), tt); has_tokens = refl; has_tree = refl };
    }

pipe-is : IsWellSpaced EditionNext a_pipe
unfolding shape characters_of
pipe-is =
    let is = file_of (Binary (Named (Name false)) Pipe false (Named (Name false))) in
    record {
      spaced = spaced-by EditionNext (leaves_of a_pipe.forest) pipe-spaced;
      tokens = items_tokens is [];
      core = record { items = is; well_formed = (((tt, tt, omega arith, omega arith, refl), tt), tt); has_tokens = refl; has_tree = refl };
    }

-- before `Next` there is no operator `|>`
pipe-refused : IsWellSpaced Edition2024 a_pipe → ⊥
pipe-refused w = let z : false ≡ true = ((w.spaced.2.2.2.2.2.2.2.2.2.2.2.2.0).spelled refl).pipe refl in cc

union-contextual : (t : List ℕ) → t ≡ codes "union" → contextual_kind Edition2024 t ≡ None → ⊥
unfolding word_of words
union-contextual t is none = let z : Some UNION_KW ≡ None = ap (contextual_kind Edition2024) (sym is) ∙ none in cc

keyword-refused : IsWellSpaced Edition2024 a_contextual_keyword → ⊥
keyword-refused w = union-contextual (chars (codes "union")) (plain (codes "union") refl).1 (((w.spaced.2.2.2.2.2.2.2.2.2.2.0).spelled refl).name refl)

touching-refused : IsWellSpaced Edition2024 a_touching_name → ⊥
touching-refused w = let z : false ≡ true = w.spaced.2.2.1 in cc

pub examples-classified : ExamplesAreClassified
examples-classified = (product-is, pipe-is, pipe-refused, keyword-refused, touching-refused)
