-- A lifetime ends where its word does.
use Rattle.std.proofs.Common.{◌≡◌, ℕ, ◌+◌, true, false, ◌||◌, ◌==◌, List, ◌∷◌, take, drop, refl, sym, ◌∙◌, ap, arith}
use Rattle.rustc_lexer.specs.Characters.{hash, letter_r, tick, is_digit, is_id_start, is_id_continue, size}
use Rattle.rustc_lexer.specs.Scan.{peek, skip, begin, ◌▸◌, name_len}
use Rattle.rustc_lexer.specs.Endings.{lifetime_kind}
use Rattle.rustc_lexer.specs.Laws.{BeginsLifetime}
use Rattle.rustc_lexer.specs.Lexeme.{is_raw, named, lifetime, lexeme_in, lexeme}
use Rattle.rustc_lexer.specs.Numbers.{LongestRun}
use Rattle.rustc_lexer.specs.Reads.{Reads}
use Rattle.rustc_lexer.specs.declared.token.LiteralKind.TheVariants.{Char}
use Rattle.rustc_lexer.specs.declared.token.TokenKind.{TokenKind}
use Rattle.rustc_lexer.specs.declared.token.TokenKind.TheVariants.{Literal, RawLifetime}
use Rattle.rustc_lexer.proofs.Cases.{tick-case, r_starts}
use Rattle.rustc_lexer.proofs.LongestRuns.{run-rest}
use Rattle.rustc_lexer.proofs.Reading.{reads-next, reads-skip, reads-run, reads-name, reads-look, reads-give, reads-else, reads-begin, reads-spelled, reads-size, reads-first}
use Rattle.rustc_lexer.proofs.Sizes.{size-append}
use Rattle.rustc_lexer.proofs.Steps.{name-true}

pub lifetimes-end : (first : ℕ) (text word rest : List ℕ) → BeginsLifetime first text → is_raw first (peek 0 text) (peek 1 text) ≡ false → LongestRun is_id_continue text word rest → (peek 0 rest == tick) ≡ false → Reads lexeme (tick ∷ first ∷ text) (lifetime_kind (is_digit first) (peek 0 rest)) rest
unfolding lifetime named lexeme_in
lifetimes-end first text word rest h plain r other =
    let body : Reads (skip 1 ▸ λ _. begin is_raw named) (tick ∷ first ∷ text) (λ (n : ℕ). lifetime_kind (is_digit first) (peek 0 rest)) rest =
    reads-next _ (reads-skip 1 refl) (reads-begin is_raw named plain
    (reads-next _ (reads-look _) (reads-next _ (reads-skip 1 refl) (reads-next _ (reads-run _ (run-rest r)) (reads-next _ (reads-look _)
    (reads-else _ other (reads-give refl))))))) in
    reads-first tick refl (tick-case first (peek 0 text) h) (reads-next _ (reads-spelled body) (reads-give refl))

pub quoted-names : (first : ℕ) (text word rest : List ℕ) → BeginsLifetime first text → is_raw first (peek 0 text) (peek 1 text) ≡ false → LongestRun is_id_continue text word (tick ∷ rest) → Reads lexeme (tick ∷ first ∷ text) (Literal (Char true) (size (tick ∷ first ∷ word) + 1)) rest
unfolding lifetime named lexeme_in size
quoted-names first text word rest h plain r =
    let body : Reads (skip 1 ▸ λ _. begin is_raw named) (tick ∷ first ∷ text) (λ (n : ℕ). Literal (Char true) n) rest =
    reads-next _ (reads-skip 1 refl) (reads-begin is_raw named plain
    (reads-next _ (reads-look _) (reads-next _ (reads-skip 1 refl) (reads-next _ (reads-run _ (run-rest r)) (reads-next _ (reads-look _)
    (reads-next _ (reads-skip 1 refl) (reads-give refl))))))) in
    let parts : size text ≡ size word + size (tick ∷ rest) = ap size r.whole ∙ size-append word (tick ∷ rest) in
    let bytes : size (take ((skip 1 ▸ λ _. begin is_raw named) (tick ∷ first ∷ text)).taken (tick ∷ first ∷ text)) ≡ size (tick ∷ first ∷ word) + 1 =
    let whole = reads-size body in omega (arith, whole, parts) in
    let K : ℕ → TokenKind = λ n. Literal (Char true) n in
    reads-first tick refl (tick-case first (peek 0 text) h) (reads-next _ (reads-spelled body) (reads-give (ap K bytes)))

pub raw-lifetimes : (first : ℕ) (text word rest : List ℕ) → is_id_start first ≡ true → LongestRun is_id_continue text word rest → Reads lexeme (tick ∷ letter_r ∷ hash ∷ first ∷ text) RawLifetime rest
unfolding lifetime named lexeme_in is_raw
raw-lifetimes first text word rest h r =
    let begins : (is_id_start letter_r || is_digit letter_r) ≡ true = ap (λ t. t || is_digit letter_r) r_starts in
    let name : rest ≡ drop (name_len (first ∷ text)) (first ∷ text) =
    run-rest r ∙ ap (λ n. drop n (first ∷ text)) (sym (name-true first text h)) in
    let body : Reads (skip 1 ▸ λ _. begin is_raw named) (tick ∷ letter_r ∷ hash ∷ first ∷ text) (λ (n : ℕ). RawLifetime) rest =
    reads-next _ (reads-skip 1 refl) (reads-begin is_raw named h
    (reads-next _ (reads-skip 2 refl) (reads-next _ (reads-name name) (reads-give refl)))) in
    reads-first tick refl (tick-case letter_r hash begins) (reads-next _ (reads-spelled body) (reads-give refl))
