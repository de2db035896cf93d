-- What a text is as a payload, by what was tested.
use Rattle.std.proofs.Common.{◌≡◌, ◌<◌, ◌≤◌, ℕ, Bool, true, false, nat_lt, List, [], ◌∷◌, length, chars, refl, sym, ◌∙◌, ap, Option, Some, None, option_map, map, arith}
use Rattle.std.specs.Str.{IsUtf8}
use Rattle.std.proofs.Math.Utf8.{encodes}
use Rattle.std.proofs.lemmas.Bool.{lt-ltb, le-ltb}
use Rattle.std.proofs.lemmas.List.{length-map}
use Rattle.std.proofs.lemmas.Str.{encodes-chars}
use Rattle.rowan_green.specs.Forest.{Tree}
use Rattle.rustc_lexer.specs.Rows.{row, first_fit}
use Rattle.rustc_lexer.specs.Tokens as lexer
use Rattle.parser_input.specs.Kind.{raw_of}
use Rattle.parser_input.specs.Leaf as leaves
use Rattle.parser_input.specs.Lexed.{Lexed, cut}
use Rattle.parser_input.specs.Messages.{wording}
use Rattle.parser_input.specs.Single.{single, alone, kind_and_message}
use Rattle.parser_input.specs.declared.edition.Edition.{Edition}
use Rattle.parser_input.specs.declared.message.Message as inputs
use Rattle.parser_input.proofs.LexedTexts.{single-text}
use Rattle.rust_grammar.specs.Rule.{Production}
use Rattle.ra_parser.specs.declared.grammar.Grammar.{Grammar}
use Rattle.rust_document.specs.Reading as reading
use Rattle.rust_document.specs.Reading.{of_leaf, of_leaves, tree_by, messages_by}
use Rattle.rust_document.specs.Step.{MAX_TEXT}
use Rattle.rust_document.specs.Seen as own
use Rattle.rust_document.specs.Seen.{seen, in_bytes}
use Rattle.rust_document.specs.declared.syntax_error.SyntaxError.{SyntaxError}
use Rattle.rust_document.specs.Payload.{TooLong, Message, NotOneToken, One, Whole, only, entry_payload, lexer_messages, token_payload}
use Rattle.rust_document.specs.declared.leaf.Leaf.{Leaf}

-- a leaf of code is the leaf of its text
piece-seen : (found : Leaf) (l : leaves.Leaf) → IsUtf8 found.text.now → raw_of found.kind ≡ l.kind → chars found.text.now ≡ l.text → seen found ≡ in_bytes l
piece-seen found l u k t = λ i. record { kind = k i; text = (sym (encodes-chars found.text.now u) ∙ ap (λ (cs : List ℕ). encodes cs) t) i }

payload-is :
    (edition : Edition) (text : List ℕ) (l m : Bool) → nat_lt MAX_TEXT (length text) ≡ l → nat_lt 0 (length (lexer_messages edition (chars text))) ≡ m → token_payload edition text ≡ first_fit (row l TooLong ∷ row m Message ∷ []) (only (single edition (chars text)))
payload-is edition text l m p q = rw (p, q) refl

pub too_long : (edition : Edition) (text : List ℕ) → MAX_TEXT < length text → token_payload edition text ≡ TooLong
unfolding first_fit
too_long edition text h = payload-is edition text true _ (lt-ltb MAX_TEXT (length text) h) refl

-- the lexer has a message
pub with_message : (edition : Edition) (text : List ℕ) → length text ≤ MAX_TEXT → true ≡ nat_lt 0 (length (lexer_messages edition (chars text))) → token_payload edition text ≡ Message
unfolding first_fit
with_message edition text h some = payload-is edition text false true (le-ltb MAX_TEXT (length text) h) (sym some)

by_single : (edition : Edition) (text : List ℕ) (o : Option Lexed) → length text ≤ MAX_TEXT → nat_lt 0 (length (lexer_messages edition (chars text))) ≡ false → single edition (chars text) ≡ o → token_payload edition text ≡ only o
unfolding first_fit
by_single edition text o h none e = payload-is edition text false false (le-ltb MAX_TEXT (length text) h) none ∙ ap only e

-- what was read of a leaf is of that leaf
told-some : (o : Option Lexed) (k : ℕ × Option (List ℕ)) → Some k ≡ option_map kind_and_message o → (l : Lexed) × (o ≡ Some l) × (k.0 ≡ l.leaf.kind) × (k.1 ≡ option_map wording l.message)
told-some (Some l) k e =
    let own : k ≡ kind_and_message l = ap (λ (p : Option (ℕ × Option (List ℕ))). elim p [ None ↦ k | Some q ↦ q ]) e in
    (l, refl, ap (λ (q : ℕ × Option (List ℕ)). q.0) own, ap (λ (q : ℕ × Option (List ℕ)). q.1) own)
told-some None k e = absurd (cc)

told-none : (o : Option Lexed) → None ≡ option_map kind_and_message o → o ≡ None
told-none (Some l) e = absurd (cc)
told-none None e = refl

-- one leaf alone is the whole content
alone-is : (ts : List lexer.Lexeme) (ls : List Lexed) (l : Lexed) → alone ts ls ≡ Some l → ls ≡ l ∷ []
alone-is [] [] l e = absurd (cc)
alone-is [] (k ∷ ls) l e = absurd (cc)
alone-is (t ∷ []) [] l e = absurd (cc)
alone-is (t ∷ []) (k ∷ []) l e = ap (λ (o : Option Lexed). elim o [ None ↦ k ∷ [] | Some j ↦ j ∷ [] ]) e
alone-is (t ∷ []) (k ∷ j ∷ ls) l e = absurd (cc)
alone-is (t ∷ s ∷ ts) [] l e = absurd (cc)
alone-is (t ∷ s ∷ ts) (k ∷ ls) l e = absurd (cc)

alone-messages : (edition : Edition) (text : List ℕ) (l : Lexed) → single edition text ≡ Some l → lexer_messages edition text ≡ of_leaves 0 (l ∷ [])
unfolding single lexer_messages
alone-messages edition text l e = ap (λ (ls : List Lexed). of_leaves 0 ls) (alone-is (lexer.tokens text) (cut edition 0 text) l e)

no-message : (l : Lexed) (m : Option inputs.Message) → l.message ≡ m → None ≡ option_map wording m → nat_lt 0 (length (of_leaves 0 (l ∷ []))) ≡ false
no-message l None e none = rw e refl
no-message l (Some m) e none = absurd (cc)

one-message : (l : Lexed) (m : Option inputs.Message) (words : List ℕ) → l.message ≡ m → Some words ≡ option_map wording m → true ≡ nat_lt 0 (length (of_leaves 0 (l ∷ [])))
one-message l None words e some = absurd (cc)
one-message l (Some m) words e some = rw e refl

pub one_token :
    (edition : Edition) (found : Leaf) → length found.text.now ≤ MAX_TEXT → IsUtf8 found.text.now → Some (raw_of found.kind, None) ≡ option_map kind_and_message (single edition (chars found.text.now)) → token_payload edition found.text.now ≡ One (seen found)
one_token edition found h u e =
    let t = told-some (single edition (chars found.text.now)) (raw_of found.kind, None) e in
    let l = t.0 in
    let none : nat_lt 0 (length (lexer_messages edition (chars found.text.now))) ≡ false =
    ap (λ (ms : List _). nat_lt 0 (length ms)) (alone-messages edition (chars found.text.now) l t.1) ∙ no-message l l.message refl t.3 in
    by_single edition found.text.now (Some l) h none t.1
    ∙ ap One (sym (piece-seen found l.leaf u t.2 (sym (single-text edition (chars found.text.now) l t.1))))

pub faulty_token :
    (edition : Edition) (text : List ℕ) (kind : ℕ) (words : List ℕ) → length text ≤ MAX_TEXT → Some (kind, Some words) ≡ option_map kind_and_message (single edition (chars text)) → token_payload edition text ≡ Message
faulty_token edition text kind words h e =
    let t = told-some (single edition (chars text)) (kind, Some words) e in
    with_message edition text h
    (one-message t.0 t.0.message words refl t.3 ∙ sym (ap (λ (ms : List _). nat_lt 0 (length ms)) (alone-messages edition (chars text) t.0 t.1)))

pub not_one : (edition : Edition) (text : List ℕ) → length text ≤ MAX_TEXT → nat_lt 0 (length (lexer_messages edition (chars text))) ≡ false → None ≡ option_map kind_and_message (single edition (chars text)) → token_payload edition text ≡ NotOneToken
not_one edition text h none e = by_single edition text None h none (told-none (single edition (chars text)) e)

-- ---- entries

entry-is :
    (x : Production) (grammar : Grammar) (edition : Edition) (text : List ℕ) (l m : Bool) → nat_lt MAX_TEXT (length text) ≡ l → nat_lt 0 (length (messages_by x grammar edition (chars text))) ≡ m → entry_payload x grammar edition text ≡ first_fit (row l TooLong ∷ row m Message ∷ []) (Whole (tree_by x grammar edition (chars text)))
entry-is x grammar edition text l m p q = rw (p, q) refl

pub entry_too_long : (x : Production) (grammar : Grammar) (edition : Edition) (text : List ℕ) → MAX_TEXT < length text → entry_payload x grammar edition text ≡ TooLong
unfolding first_fit
entry_too_long x grammar edition text h = entry-is x grammar edition text true _ (lt-ltb MAX_TEXT (length text) h) refl

-- The code has as many messages as the model.
same-count : (es : List SyntaxError) (ms : List reading.Message) → map own.message_of_error es ≡ ms → length es ≡ length ms
same-count es ms e = sym (length-map es own.message_of_error) ∙ ap (λ (xs : List reading.Message). length xs) e

pub entry_message :
    (x : Production) (grammar : Grammar) (edition : Edition) (text : List ℕ) (es : List SyntaxError) → length text ≤ MAX_TEXT → map own.message_of_error es ≡ messages_by x grammar edition (chars text) → 0 < length es → entry_payload x grammar edition text ≡ Message
unfolding first_fit
entry_message x grammar edition text es h e some =
    entry-is x grammar edition text false true (le-ltb MAX_TEXT (length text) h) (lt-ltb 0 (length (messages_by x grammar edition (chars text))) (omega (arith, some, same-count es _ e)))

pub entry_tree :
    (x : Production) (grammar : Grammar) (edition : Edition) (text : List ℕ) (es : List SyntaxError) (root : Tree) → length text ≤ MAX_TEXT → map own.message_of_error es ≡ messages_by x grammar edition (chars text) → length es ≤ 0 → root ≡ tree_by x grammar edition (chars text) → entry_payload x grammar edition text ≡ Whole root
unfolding first_fit
entry_tree x grammar edition text es root h e none is =
    entry-is x grammar edition text false false (le-ltb MAX_TEXT (length text) h) (le-ltb 0 (length (messages_by x grammar edition (chars text))) (omega (arith, none, same-count es _ e)))
    ∙ ap Whole (sym is)
