-- Each token is one leaf, if none is split.
use Rattle.std.proofs.Common.{◌≡◌, ℕ, zero, suc, pred, false, List, [], ◌∷◌, ◌++◌, length, map, refl, ◌∙◌, ap, arith}
use Rattle.std.specs.List.{All}
use Rattle.rustc_lexer.specs.Lexeme.{lexeme}
use Rattle.rustc_lexer.specs.Tokens as lexer
use Rattle.rustc_lexer.proofs.Cutting.{first-length}
use Rattle.parser_input.specs.Leaf.{Leaf, leaf_of, leaves}
use Rattle.parser_input.specs.Lexed.{Lexed, cut, next_leaf, is_split, leaves_of, lexed, preface, content}
use Rattle.parser_input.specs.declared.edition.Edition.{Edition}

pub next-whole : (edition : Edition) (l : lexer.Lexeme) → is_split edition l.kind ≡ false → (next_leaf edition l).leaf ≡ leaf_of edition l
unfolding next_leaf
next-whole edition l whole = rw (whole, next_leaf) refl

cut-whole : (edition : Edition) (held : ℕ) (text : List ℕ) → All (λ l. is_split edition l.kind ≡ false) (lexer.cut held text) → leaves_of (cut edition held text) ≡ map (leaf_of edition) (lexer.cut held text)
unfolding cut lexer.cut leaf_of
cut-whole edition zero [] h = refl
cut-whole edition (suc held) [] h = refl
cut-whole edition (suc held) (c ∷ cs) h = cut-whole edition held cs h
cut-whole edition zero (c ∷ cs) h =
    let l = lexer.first_lexeme (c ∷ cs) in
    let here = next-whole edition l (h 0 l (omega arith)) in
    let n : pred (length (next_leaf edition l).leaf.text) ≡ pred (lexeme (c ∷ cs)).taken = ap (λ (f : Leaf). pred (length f.text)) here ∙ ap pred (first-length (c ∷ cs)) in
    let rest = cut-whole edition (pred (lexeme (c ∷ cs)).taken) cs (λ k d j. h (suc k) d (omega arith)) in
    ap (λ (k : ℕ). (next_leaf edition l).leaf ∷ leaves_of (cut edition k cs)) n
    ∙ ap (λ (f : Leaf). f ∷ leaves_of (cut edition (pred (lexeme (c ∷ cs)).taken) cs)) here
    ∙ ap (λ (fs : List Leaf). leaf_of edition l ∷ fs) rest

pub lexed-leaves : (edition : Edition) (text : List ℕ) → preface text ≡ [] → content text ≡ text → All (λ l. is_split edition l.kind ≡ false) (lexer.tokens text) → leaves_of (lexed edition text) ≡ leaves edition text
unfolding lexed leaves lexer.tokens
lexed-leaves edition text none whole h =
    ap (λ (p : List Lexed). leaves_of (p ++ cut edition 0 (content text))) none
    ∙ ap (λ (t : List ℕ). leaves_of (cut edition 0 t)) whole ∙ cut-whole edition 0 text h
