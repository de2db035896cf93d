-- A `;` in front of a text keeps its first lines from being read as a preface, and what the lexer says of it stays.
use Rattle.std.proofs.Common.{◌≡◌, ℕ, ◌+◌, suc, pred, true, false, nat_lt, List, [], ◌∷◌, ◌++◌, length, map, take, drop, chars, refl, sym, ◌∙◌, ap, arith, Option, Some, None, is_some, Result}
use Rattle.std.specs.Borrow.{Bor}
use Rattle.std.specs.Iterator.{YieldsFirstBy}
use Rattle.std.specs.Str.{IsUtf8}
use Rattle.std.proofs.Math.Utf8.{encode}
use Rattle.std.proofs.lemmas.Str.{chars_past_char}
use Rattle.std.proofs.lemmas.Bool.{lt-ltb}
use Rattle.rustc_lexer.specs.Characters.{is_whitespace, size}
use Rattle.rustc_lexer.specs.Lexeme.{Case, Single, case_of, sign, lexeme_in, lexeme}
use Rattle.rustc_lexer.specs.Rows.{first_fit}
use Rattle.rustc_lexer.specs.Scan.{give, skip, peek, look, ◌▸◌, begin, run_len}
use Rattle.rustc_lexer.specs.Shebang.{shebang}
use Rattle.rustc_lexer.specs.Tokens.{Lexeme, first_lexeme}
use Rattle.rustc_lexer.specs.declared.token.TokenKind.TheVariants as tokens
use Rattle.rustc_lexer.proofs.Cases.{single-case}
use Rattle.rustc_lexer.proofs.Lines.{shebang-none}
use Rattle.rustc_lexer.proofs.Plain.{plain-sign}
use Rattle.parser_input.specs.Kinds.{SEMICOLON}
use Rattle.parser_input.specs.Leaf.{leaf_of, kind_of}
use Rattle.parser_input.specs.Lexed.{Lexed, lexed, cut, quiet, preface, content, content_of, shebang_leaf, frontmatter_leaf, is_split, next_leaf}
use Rattle.parser_input.specs.Lines.{blank_len, dashes}
use Rattle.parser_input.specs.Messages as messages
use Rattle.parser_input.specs.Faults.{faults, fault_of}
use Rattle.parser_input.specs.Preface.{Piece, Source, bare, opening_line, source}
use Rattle.parser_input.specs.declared.edition.Edition.{Edition}
use Rattle.parser_input.specs.declared.frontmatter_error.FrontmatterError.{FrontmatterError}
use Rattle.parser_input.specs.declared.message.Message.{Message}
use Rattle.parser_input.proofs.Prefaces.{after-none, piece-none, source-bare}
use Rattle.rust_document.specs.Reading.{OfLeaf, of_leaves}
use Rattle.rust_document.specs.Payload.{lexer_messages}

-- a text after a `;`
abbrev after_semicolon : List ℕ → List ℕ
after_semicolon t = 59 ∷ t

semicolon-case : (b c : ℕ) → case_of 59 b c ≡ Single
semicolon-case b c = let s = plain-sign 59 refl in single-case 59 b c s.plain s.name s.digit s.ticks s.quotes s.hashes

semicolon-lexeme : (t : List ℕ) → first_lexeme (after_semicolon t) ≡ record { kind = tokens.Semi; text = 59 ∷ [] }
unfolding first_lexeme lexeme begin lexeme_in ◌▸◌ look skip give sign first_fit
semicolon-lexeme t =
    let xs = after_semicolon t in
    let in_case : Case → Lexeme = λ k. let s = lexeme_in k xs in record { kind = s.value; text = take s.taken xs } in
    ap in_case (semicolon-case (peek 1 xs) (peek 2 xs))

semicolon-cut : (edition : Edition) (t : List ℕ) → cut edition 0 (after_semicolon t) ≡ quiet SEMICOLON (59 ∷ []) ∷ cut edition 0 t
unfolding cut next_leaf is_split leaf_of kind_of messages.message_of
semicolon-cut edition t =
    ap (λ (l : Lexeme). next_leaf edition l ∷ cut edition (pred (length (next_leaf edition l).leaf.text)) t) (semicolon-lexeme t)

no-shebang : (t : List ℕ) → is_some (shebang (after_semicolon t)) ≡ false
no-shebang t = ap is_some (shebang-none (after_semicolon t) refl)

no-dashes : (t : List ℕ) → dashes (opening_line (after_semicolon t)) ≡ 0
unfolding opening_line blank_len dashes run_len is_whitespace
no-dashes t = ap (λ (r : List ℕ). dashes (drop (blank_len r) r)) (sym (after-none (after_semicolon t) (no-shebang t)))

-- the leaves after a `;` are those of the text as a content
leaves-after : (edition : Edition) (t : List ℕ) → lexed edition (after_semicolon t) ≡ quiet SEMICOLON (59 ∷ []) ∷ cut edition 0 t
unfolding lexed preface content bare
leaves-after edition t =
    let xs = after_semicolon t in
    let own = source-bare xs (no-dashes t) in
    ap (λ (o : Option Piece). (shebang_leaf o ++ frontmatter_leaf xs (source xs)) ++ cut edition 0 (content_of xs (source xs))) (sym (piece-none xs (no-shebang t)))
    ∙ ap (λ (r : Result Source FrontmatterError). frontmatter_leaf xs r ++ cut edition 0 (content_of xs r)) (sym own)
    ∙ ap (λ (r : List ℕ). cut edition 0 r) (sym (after-none xs (no-shebang t)))
    ∙ semicolon-cut edition t

-- there is a fault of a leaf where there is a message about one
some : {A : Type 0} (x : A) (xs : List A) → nat_lt 0 (length (x ∷ xs)) ≡ true
some x xs = lt-ltb 0 (length (x ∷ xs)) (omega arith)

fault-at :
    (n place : ℕ) (l : Lexed) (ls : List Lexed) (m : Option Message) → l.message ≡ m
    → ((k at : ℕ) → nat_lt 0 (length (faults k (map (λ l. l.message) ls))) ≡ nat_lt 0 (length (of_leaves at ls)))
    → nat_lt 0 (length (faults n (map (λ k. k.message) (l ∷ ls)))) ≡ nat_lt 0 (length (of_leaves place (l ∷ ls)))
fault-at n place l ls None e rest = rw e (rest (suc n) _)
fault-at n place l ls (Some m) e rest =
    rw e
    (some ((n, messages.wording m)) (faults (suc n) (map (λ (k : Lexed). k.message) ls))
    ∙ sym (some ((place, OfLeaf (messages.wording m))) (of_leaves (place + size l.leaf.text) ls)))

some-fault : (n place : ℕ) (ls : List Lexed) → nat_lt 0 (length (faults n (map (λ l. l.message) ls))) ≡ nat_lt 0 (length (of_leaves place ls))
some-fault n place [] = refl
some-fault n place (l ∷ ls) = fault-at n place l ls l.message refl (λ k at. some-fault k at ls)

-- The lexer has messages about a text if and only if it has some about the text after a `;`.
pub has-messages :
    (edition : Edition) (text bytes : List ℕ) → IsUtf8 bytes → bytes ≡ 59 ∷ text → nat_lt 0 (length (faults 0 (map (λ l. l.message) (lexed edition (chars bytes))))) ≡ nat_lt 0 (length (lexer_messages edition (chars text)))
unfolding lexer_messages encode
has-messages edition text bytes u is =
    ap (λ (cs : List ℕ). nat_lt 0 (length (faults 0 (map (λ (l : Lexed). l.message) (lexed edition cs))))) (chars_past_char bytes text 59 u is)
    ∙ ap (λ (ls : List Lexed). nat_lt 0 (length (faults 0 (map (λ (l : Lexed). l.message) ls)))) (leaves-after edition (chars text))
    ∙ some-fault 1 0 (cut edition 0 (chars text))

-- what was taken of faults tells whether there are any
pub taken-tells : (all rest : List (ℕ × List ℕ)) (taken : Option (ℕ × Bor (List ℕ))) → YieldsFirstBy fault_of (λ e. e) all taken rest → is_some taken ≡ nat_lt 0 (length all)
taken-tells all rest None h = sym (ap (λ (fs : List (ℕ × List ℕ)). nat_lt 0 (length fs)) h.0)
taken-tells all rest (Some f) h = sym (ap (λ (fs : List (ℕ × List ℕ)). nat_lt 0 (length fs)) h ∙ some (fault_of f) rest)
