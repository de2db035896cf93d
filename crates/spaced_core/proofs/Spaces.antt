-- Whitespace characters side by side are one token.
use Rattle.std.proofs.Common.{◌≡◌, ℕ, suc, ◌+◌, true, false, List, [], ◌∷◌, ◌++◌, length, take, drop, refl, ◌∙◌, ap, arith}
use Rattle.std.specs.List.{list_all}
use Rattle.std.proofs.lemmas.Bool.{and_parts}
use Rattle.std.proofs.Math.Seq.{drop-append_seam, take-append_seam}
use Rattle.rustc_lexer.specs.Characters.{is_whitespace}
use Rattle.rustc_lexer.specs.Scan.{Taken, ◌▸◌, begin, give, peek, run, run_len, skip}
use Rattle.rustc_lexer.specs.Lexeme.{Case, Blank, lexeme, lexeme_in}
use Rattle.rustc_lexer.specs.Tokens.{Lexeme, first_lexeme, tokens}
use Rattle.rustc_lexer.specs.declared.token.TokenKind.{TokenKind}
use Rattle.rustc_lexer.specs.declared.token.TokenKind.TheVariants.{Whitespace}
use Rattle.rustc_lexer.proofs.Cases.{blank-case}
use Rattle.rustc_lexer.proofs.Cutting.{tokens-cons}
use Rattle.rustc_lexer.proofs.Steps.{run-false, run-true}

-- whitespace runs up to the next other character
run-spaces : (ws rest : List ℕ) → list_all is_whitespace ws ≡ true → is_whitespace (peek 0 rest) ≡ false → run_len is_whitespace (ws ++ rest) ≡ length ws
unfolding run_len
run-spaces [] [] all ends = refl
run-spaces [] (c ∷ cs) all ends = run-false is_whitespace c cs ends
run-spaces (w ∷ ws) rest all ends =
    let both = and_parts (is_whitespace w) (list_all is_whitespace ws) all in
    run-true is_whitespace w (ws ++ rest) both.0 ∙ ap suc (run-spaces ws rest both.1 ends)

blank-taken : (c : ℕ) (cs : List ℕ) → lexeme_in Blank (c ∷ cs) ≡ record { value = Whitespace; taken = 1 + (run_len is_whitespace cs + 0) }
unfolding lexeme_in ◌▸◌ skip run give
blank-taken c cs = refl

space-lexeme : (c : ℕ) (cs : List ℕ) → is_whitespace c ≡ true → lexeme (c ∷ cs) ≡ record { value = Whitespace; taken = suc (run_len is_whitespace cs) }
unfolding lexeme begin
space-lexeme c cs white =
    ap (λ (k : Case). lexeme_in k (c ∷ cs)) (blank-case c (peek 1 (c ∷ cs)) (peek 2 (c ∷ cs)) white)
    ∙ blank-taken c cs
    ∙ ap (λ (n : ℕ). let t : Taken TokenKind = record { value = Whitespace; taken = n } in t) (let n = run_len is_whitespace cs in let e : 1 + (n + 0) ≡ suc n = omega arith in e)

abbrev pub space_token : List ℕ → Lexeme
space_token text = record { kind = Whitespace; text = text }

-- the first token of a text that begins with whitespace
pub space-first : (c : ℕ) (cs : List ℕ) → is_whitespace c ≡ true → first_lexeme (c ∷ cs) ≡ space_token (c ∷ take (run_len is_whitespace cs) cs)
unfolding first_lexeme
space-first c cs white =
    ap (λ (t : Taken TokenKind). let l : Lexeme = record { kind = t.value; text = take t.taken (c ∷ cs) } in l) (space-lexeme c cs white)

-- whitespace before another character, or before the end, is a token
pub space-tokens : (c : ℕ) (ws rest : List ℕ) → is_whitespace c ≡ true → list_all is_whitespace ws ≡ true → is_whitespace (peek 0 rest) ≡ false → tokens (c ∷ ws ++ rest) ≡ space_token (c ∷ ws) ∷ tokens rest
space-tokens c ws rest white all ends =
    let run = run-spaces ws rest all ends in
    let n = run_len is_whitespace (ws ++ rest) in
    let first : first_lexeme (c ∷ ws ++ rest) ≡ space_token (c ∷ ws) =
    space-first c (ws ++ rest) white ∙ ap (λ (k : ℕ). space_token (c ∷ take k (ws ++ rest))) run ∙ ap (λ (t : List ℕ). space_token (c ∷ t)) (take-append_seam ws rest) in
    let left : drop (lexeme (c ∷ ws ++ rest)).taken (c ∷ ws ++ rest) ≡ rest =
    ap (λ (t : Taken TokenKind). drop t.taken (c ∷ ws ++ rest)) (space-lexeme c (ws ++ rest) white) ∙ ap (λ (k : ℕ). drop k (ws ++ rest)) run ∙ drop-append_seam ws rest in
    tokens-cons c (ws ++ rest) ∙ ap (λ (l : Lexeme). l ∷ tokens (drop (lexeme (c ∷ ws ++ rest)).taken (c ∷ ws ++ rest))) first ∙ ap (λ (t : List ℕ). space_token (c ∷ ws) ∷ tokens t) left
