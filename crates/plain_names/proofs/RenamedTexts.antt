-- Any identifiers of a text are replaced by others.
use Rattle.std.proofs.Common.{◌≡◌, ℕ, suc, ◌+◌, true, List, [], ◌∷◌, ◌++◌, length, take, drop, refl, sym, ◌∙◌, ap, arith, append_assoc}
use Rattle.std.proofs.Math.Seq.{drop-append_seam, take-append_seam, drop-append-add}
use Rattle.rustc_lexer.specs.Characters.{is_ident}
use Rattle.rustc_lexer.specs.Lexeme.{lexeme}
use Rattle.rustc_lexer.specs.Tokens.{Lexeme, first_lexeme, tokens, cut, joined}
use Rattle.plain_names.specs.TokenNames.{AreRenamedTokens, none, same, renamed, name_lexeme, RenamedTextsHaveTheirTokens}
use Rattle.rustc_lexer.proofs.Cutting.{tokens-cons, tokens-joined, tokens-after}
use Rattle.plain_names.proofs.Renamed as one

joined-append : (ls ms : List Lexeme) → joined (ls ++ ms) ≡ joined ls ++ joined ms
joined-append [] ms = refl
joined-append (l ∷ ls) ms = ap (λ z. l.text ++ z) (joined-append ls ms) ∙ sym (append_assoc l.text (joined ls) (joined ms))

-- the first of a text's lexemes is its first lexeme
first-is : (text : List ℕ) (l : Lexeme) (ls : List Lexeme) → tokens text ≡ l ∷ ls → first_lexeme text ≡ l
unfolding tokens cut
first-is [] l ls h = cc
first-is (c ∷ cs) l ls h = let all : first_lexeme (c ∷ cs) ∷ tokens (drop (lexeme (c ∷ cs)).taken (c ∷ cs)) ≡ l ∷ ls = sym (tokens-cons c cs) ∙ h in cc

drop-more : (fs : List Lexeme) (l : Lexeme) (ls : List Lexeme) → drop (suc (length fs)) (fs ++ l ∷ ls) ≡ ls
drop-more fs l ls = ap (λ n. drop n (fs ++ l ∷ ls)) (let z : suc (length fs) ≡ length fs + 1 = omega arith in z) ∙ drop-append-add fs (l ∷ ls) 1

-- one of them, between others
between : (fs : List Lexeme) (name other : List ℕ) (ls : List Lexeme) → is_ident other ≡ true → tokens (joined (fs ++ name_lexeme name ∷ ls)) ≡ fs ++ name_lexeme name ∷ ls
    → tokens (joined (fs ++ name_lexeme other ∷ ls)) ≡ fs ++ name_lexeme other ∷ ls
between fs name other ls is h =
    let front = joined fs in
    let rest = joined ls in
    let whole : joined (fs ++ name_lexeme name ∷ ls) ≡ front ++ (name ++ rest) = joined-append fs (name_lexeme name ∷ ls) in
    let here : tokens (front ++ (name ++ rest)) ≡ fs ++ name_lexeme name ∷ ls = ap tokens (sym whole) ∙ h in
    let fronts : take (length fs) (tokens (front ++ (name ++ rest))) ≡ fs = ap (λ l. take (length fs) l) here ∙ take-append_seam fs (name_lexeme name ∷ ls) in
    let back : tokens (name ++ rest) ≡ name_lexeme name ∷ ls =
    ap tokens (sym (drop-append_seam front (name ++ rest))) ∙ ap (λ n. tokens (drop n (front ++ (name ++ rest)))) (sym (ap (λ l. length (joined l)) fronts))
    ∙ tokens-after (length fs) (front ++ (name ++ rest)) ∙ ap (λ l. drop (length fs) l) here ∙ drop-append_seam fs (name_lexeme name ∷ ls) in
    let first : first_lexeme (name ++ rest) ≡ name_lexeme name = first-is (name ++ rest) (name_lexeme name) ls back in
    let later : drop (suc (length fs)) (tokens (front ++ (name ++ rest))) ≡ ls = ap (λ l. drop (suc (length fs)) l) here ∙ drop-more fs (name_lexeme name) ls in
    ap tokens (joined-append fs (name_lexeme other ∷ ls)) ∙ one.renamed (length fs) front name other rest (ap joined fronts) first is
    ∙ ap (λ l. l ++ name_lexeme other ∷ drop (suc (length fs)) (tokens (front ++ (name ++ rest)))) fronts ∙ ap (λ l. fs ++ name_lexeme other ∷ l) later

-- one by one, from the front
each : {ls ms : List Lexeme} (fs : List Lexeme) → AreRenamedTokens ls ms → tokens (joined (fs ++ ls)) ≡ fs ++ ls → tokens (joined (fs ++ ms)) ≡ fs ++ ms
each fs none h = h
each fs (same {l} {ls} {ms} more) h =
    let own : (ns : List Lexeme) → (fs ++ l ∷ []) ++ ns ≡ fs ++ l ∷ ns = λ ns. append_assoc fs (l ∷ []) ns in
    ap (λ z. tokens (joined z)) (sym (own ms)) ∙ each (fs ++ l ∷ []) more (ap (λ z. tokens (joined z)) (own ls) ∙ h ∙ sym (own ls)) ∙ own ms
each fs (renamed {name} {other} {ls} {ms} is more) h =
    let l = name_lexeme other in
    let own : (ns : List Lexeme) → (fs ++ l ∷ []) ++ ns ≡ fs ++ l ∷ ns = λ ns. append_assoc fs (l ∷ []) ns in
    let next = between fs name other ls is h in
    ap (λ z. tokens (joined z)) (sym (own ms)) ∙ each (fs ++ l ∷ []) more (ap (λ z. tokens (joined z)) (own ls) ∙ next ∙ sym (own ls)) ∙ own ms

pub renamed-texts : RenamedTextsHaveTheirTokens
renamed-texts text ms are = each [] are (ap tokens (tokens-joined text))
