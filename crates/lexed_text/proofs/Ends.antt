-- Where tokens end, in characters and in bytes.
use Rattle.std.proofs.Common.{◌≡◌, ℕ, zero, suc, ◌+◌, ◌<◌, ◌≤◌, inl, inr, List, [], ◌∷◌, ◌++◌, length, take, drop, map, refl, sym, ◌∙◌, ap, arith, length-append}
use Rattle.std.proofs.lemmas.List.{append_assoc, take-append-drop, take_at, drop_at, take_all, length-map, take-map, drop-map}
use Rattle.std.proofs.lemmas.List.Elements.{All-head, All-tail}
use Rattle.std.proofs.lemmas.Str.{len_utf8_bounds}
use Rattle.std.proofs.lemmas.List.Sums.{sum_by-cons}
use Rattle.std.specs.List.{All, sum_by}
use Rattle.rustc_lexer.specs.Characters.{size}
use Rattle.rustc_lexer.specs.Tokens.{Lexeme, tokens, joined, token, token_list}
use Rattle.rustc_lexer.proofs.Agree.{lt_or_ge}
use Rattle.rustc_lexer.proofs.Cutting.{tokens-joined, each-takes}
use Rattle.rustc_lexer.proofs.Sizes.{size-append, size-parts}
use Rattle.lexed_text.specs.Kept.{end_of}
use Rattle.lexed_text.specs.Inside.{taken, left}

joined-append : (xs ys : List Lexeme) → joined (xs ++ ys) ≡ joined xs ++ joined ys
joined-append [] ys = refl
joined-append (x ∷ xs) ys = ap (λ z. x.text ++ z) (joined-append xs ys) ∙ sym (append_assoc x.text (joined xs) (joined ys))

-- the first tokens and the others make the text
parts-joined : (k : ℕ) (text : List ℕ) → joined (take k (tokens text)) ++ joined (drop k (tokens text)) ≡ text
parts-joined k text =
    sym (joined-append (take k (tokens text)) (drop k (tokens text))) ∙ ap joined (take-append-drop k (tokens text)) ∙ tokens-joined text

pub joined-take : (k : ℕ) (text : List ℕ) → joined (take k (tokens text)) ≡ take (end_of k text) text
joined-take k text =
    sym (take_at (joined (take k (tokens text))) (joined (drop k (tokens text))) (end_of k text) refl) ∙ ap (λ z. take (end_of k text) z) (parts-joined k text)

pub joined-drop : (k : ℕ) (text : List ℕ) → joined (drop k (tokens text)) ≡ drop (end_of k text) text
joined-drop k text =
    sym (drop_at (joined (take k (tokens text))) (joined (drop k (tokens text))) (end_of k text) refl) ∙ ap (λ z. drop (end_of k text) z) (parts-joined k text)

pub end-within : (k : ℕ) (text : List ℕ) → end_of k text ≤ length text
end-within k text =
    let whole = ap length (parts-joined k text) in
    omega (arith, length-append (joined (take k (tokens text))) (joined (drop k (tokens text))), whole)

-- after all tokens the text ends
pub end-full : (k : ℕ) (text : List ℕ) → length (tokens text) ≤ k → end_of k text ≡ length text
end-full k text h = ap (λ z. length (joined z)) (take_all k (tokens text) h) ∙ ap length (tokens-joined text)

joined-less : (ls : List Lexeme) → All (λ l. 1 ≤ length l.text) ls → (i j : ℕ) → i < j → j ≤ length ls → length (joined (take i ls)) < length (joined (take j ls))
joined-less [] all i j h w = absurd (omega arith)
joined-less (l ∷ ls) all i zero h w = absurd (omega arith)
joined-less (l ∷ ls) all zero (suc j) h w =
    let one = All-head (λ (x : Lexeme). 1 ≤ length x.text) l ls all in
    omega (arith, length-append l.text (joined (take j ls)))
joined-less (l ∷ ls) all (suc i) (suc j) h w =
    let ih = joined-less ls (All-tail (λ (x : Lexeme). 1 ≤ length x.text) l ls all) i j (omega arith) (omega arith) in
    omega (arith, length-append l.text (joined (take i ls)), length-append l.text (joined (take j ls)))

-- a later token ends later
pub end-less : (i j : ℕ) (text : List ℕ) → i < j → j ≤ length (tokens text) → end_of i text < end_of j text
end-less i j text h w = joined-less (tokens text) (each-takes text) i j h w

pub end-mono : (i j : ℕ) (text : List ℕ) → i ≤ j → j ≤ length (tokens text) → end_of i text ≤ end_of j text
end-mono i j text h w =
    elim (lt_or_ge i j) [
      | inl less ↦ let e = end-less i j text less w in omega arith
      | inr more ↦ let same : i ≡ j = omega arith in let e = ap (λ n. end_of n text) same in omega arith
    ]

-- two counts with one end are one
pub end-one : (i j : ℕ) (text : List ℕ) → i ≤ length (tokens text) → j ≤ length (tokens text) → end_of i text ≡ end_of j text → i ≡ j
end-one i j text wi wj e =
    elim (lt_or_ge i j) [
      | inl less ↦ let l = end-less i j text less wj in absurd (omega arith)
      | inr more ↦ elim (lt_or_ge j i) [ inl less ↦ let l = end-less j i text less wi in absurd (omega arith) | inr other ↦ omega arith ]
    ]

-- more characters take more bytes
pub size-less : (p q : ℕ) (xs : List ℕ) → p < q → q ≤ length xs → size (take p xs) < size (take q xs)
unfolding size
size-less p q [] h w = absurd (omega arith)
size-less p zero (x ∷ xs) h w = absurd (omega arith)
size-less zero (suc q) (x ∷ xs) h w = let one = (len_utf8_bounds x).0 in omega arith
size-less (suc p) (suc q) (x ∷ xs) h w = let ih = size-less p q xs (omega arith) (omega arith) in omega arith

pub size-mono : (p q : ℕ) (xs : List ℕ) → p ≤ q → q ≤ length xs → size (take p xs) ≤ size (take q xs)
size-mono p q xs h w =
    elim (lt_or_ge p q) [
      | inl less ↦ let e = size-less p q xs less w in omega arith
      | inr more ↦ let same : p ≡ q = omega arith in let e = ap (λ n. size (take n xs)) same in omega arith
    ]

-- and leave fewer
pub size-left : (p q : ℕ) (xs : List ℕ) → p < q → q ≤ length xs → size (drop q xs) < size (drop p xs)
size-left p q xs h w = omega (arith, size-less p q xs h w, size-parts p xs, size-parts q xs)

pub left-one : (p q : ℕ) (xs : List ℕ) → p ≤ length xs → q ≤ length xs → size (drop p xs) ≡ size (drop q xs) → p ≡ q
left-one p q xs wp wq e =
    elim (lt_or_ge p q) [
      | inl less ↦ let l = size-left p q xs less wq in absurd (omega arith)
      | inr more ↦ elim (lt_or_ge q p) [ inl less ↦ let l = size-left q p xs less wp in absurd (omega arith) | inr other ↦ omega arith ]
    ]

-- tokens in bytes
sum-sizes : (ls : List Lexeme) → sum_by (λ t. t.len) (map token ls) ≡ size (joined ls)
unfolding size
sum-sizes [] = refl
sum-sizes (l ∷ ls) =
    sum_by-cons (λ t. t.len) (token l) (map token ls) ∙ ap (λ n. size l.text + n) (sum-sizes ls) ∙ sym (size-append l.text (joined ls))

pub taken-size : (k : ℕ) (text : List ℕ) → taken k (token_list text) ≡ size (take (end_of k text) text)
unfolding token_list
taken-size k text =
    ap (λ z. sum_by (λ t. t.len) z) (take-map token k (tokens text)) ∙ sum-sizes (take k (tokens text)) ∙ ap size (joined-take k text)

pub left-size : (k : ℕ) (text : List ℕ) → left k (token_list text) ≡ size (drop (end_of k text) text)
unfolding token_list
left-size k text =
    ap (λ z. sum_by (λ t. t.len) z) (drop-map token k (tokens text)) ∙ sum-sizes (drop k (tokens text)) ∙ ap size (joined-drop k text)

pub list-length : (text : List ℕ) → length (token_list text) ≡ length (tokens text)
unfolding token_list
list-length text = length-map (tokens text) token

-- what is taken and what is left make the whole
pub taken-left : (k : ℕ) (text : List ℕ) → taken k (token_list text) + left k (token_list text) ≡ size text
taken-left k text = omega (arith, taken-size k text, left-size k text, size-parts (end_of k text) text)
