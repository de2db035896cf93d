-- Lemmas on escapes.
use Rattle.std.proofs.Common.{◌≡◌, ◌==◌, ◌∙◌, ◌≤◌, ℕ, ◌+◌, Bool, true, false, List, [], ◌∷◌, ◌++◌, length, get_or, drop, refl, sym, ap, arith, append_assoc}
use Rattle.std.proofs.lemmas.Bool.{eqb-true, true≢false}
use Rattle.std.proofs.lemmas.List.{append-nil}
use Rattle.session_words.specs.Escapes.{behind, mended, mended_behind}

-- bytes that are replaced, and those behind them
pub known-first : (known bytes : List ℕ) → length known ≤ length bytes → mended_behind known bytes ≡ known ++ mended (drop (length known) bytes)
unfolding mended_behind
known-first [] bytes fits = refl
known-first (k ∷ known) [] fits = absurd (omega arith)
known-first (k ∷ known) (b ∷ bytes) fits = ap (λ rest. k ∷ rest) (known-first known bytes (omega arith))

pub none-left : mended [] ≡ []
unfolding mended_behind
none-left = refl

one-more : (b : ℕ) (tail : List ℕ) → length (behind b tail) ≤ length tail →
    mended (b ∷ tail) ≡ b ∷ (behind b tail ++ mended (drop (length (behind b tail)) tail))
unfolding mended_behind
one-more b tail fits = ap (λ rest. b ∷ rest) (known-first (behind b tail) tail fits)

written-one :
    (bytes rest all : List ℕ) (x : ℕ) → length (behind x rest) ≤ length rest → bytes ++ mended (x ∷ rest) ≡ all
    → ((bytes ++ x ∷ []) ++ behind x rest) ++ mended (drop (length (behind x rest)) rest) ≡ all
written-one bytes rest all x fits before =
    append_assoc (bytes ++ x ∷ []) (behind x rest) _ ∙ append_assoc bytes (x ∷ []) _
    ∙ ap (λ end. bytes ++ end) (sym (one-more x rest fits)) ∙ before

-- a byte more is written, with what is known behind it
pub written-more :
    (bytes pushed new rest tail known left all : List ℕ) (b d : ℕ)
    → (rest ≡ [] → ⊥) → b ≡ get_or rest 0 d → tail ≡ drop 1 rest → known ≡ behind b tail → length known ≤ length tail
    → left ≡ drop (length known) tail → pushed ≡ bytes ++ b ∷ [] → new ≡ pushed ++ known
    → bytes ++ mended rest ≡ all → new ++ mended left ≡ all
written-more bytes pushed new [] tail known left all b d some first second is fits third put more before = absurd (some refl)
written-more bytes pushed new (x ∷ rest) tail known left all b d some first second is fits third put more before =
    let same : known ≡ behind x rest = is ∙ ap (λ y. behind y tail) first ∙ ap (behind x) second in
    let known-len : length known ≡ length (behind x rest) = ap length same in
    let tail-len : length tail ≡ length rest = ap length second in
    rw (more, third, put, same, second, first) (written-one bytes rest all x (omega arith) before)

pub some-left : (empty : Bool) (rest : List ℕ) → empty ≡ (length rest == 0) → empty ≡ false → rest ≡ [] → ⊥
some-left empty [] is some = absurd (true≢false (sym is ∙ some))
some-left empty (x ∷ rest) is some = λ none. absurd (cc)

pub none-behind : (empty : Bool) (bytes rest all : List ℕ) → empty ≡ (length rest == 0) → empty ≡ true → bytes ++ mended rest ≡ all → bytes ≡ all
none-behind empty bytes [] all is none before = sym (append-nil bytes) ∙ ap (λ end. bytes ++ end) (sym none-left) ∙ before
none-behind empty bytes (x ∷ rest) all is none before =
    let zero-long = eqb-true (length (x ∷ rest)) 0 (sym is ∙ none) in
    absurd (omega arith)
