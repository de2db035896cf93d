-- The kinds of leaves, one by one.
use Rattle.std.proofs.Common.{◌≡◌, ℕ, zero, suc, ◌+◌, ◌<◌, ◌≤◌, List, [], ◌∷◌, length, drop, map, refl, sym, ap, ◌∙◌, arith}
use Rattle.parser_input.specs.Lexed.{Lexed}
use Rattle.parser_input.specs.Stored.{leaf_at}
use Rattle.text_levels.specs.Levels.{Count, counted, counted_all, kinds_of}

-- the kind of a leaf, and those after it
pub next-kind : (ls : List Lexed) (i : ℕ) → i < length ls → drop i (kinds_of ls) ≡ (leaf_at ls i).leaf.kind ∷ drop (i + 1) (kinds_of ls)
next-kind [] i within = absurd (omega (arith, within))
next-kind (l ∷ ls) zero within = refl
next-kind (l ∷ ls) (suc i) within =
    let up : suc (i + 1) ≡ suc i + 1 = omega arith in
    next-kind ls i (omega (arith, within)) ∙ ap (λ n. (leaf_at ls i).leaf.kind ∷ drop n (kinds_of (l ∷ ls))) up

-- a token more was counted
pub counts-on :
    (ls : List Lexed) (i kind : ℕ) (c d all : Count) → i < length ls → kind ≡ (leaf_at ls i).leaf.kind → d ≡ counted kind c
    → counted_all (drop i (kinds_of ls)) c ≡ all → counted_all (drop (i + 1) (kinds_of ls)) d ≡ all
counts-on ls i kind c d all within same moved so-far =
    ap (counted_all (drop (i + 1) (kinds_of ls))) (moved ∙ ap (λ k. counted k c) same)
    ∙ ap (λ ks. counted_all ks c) (sym (next-kind ls i within))
    ∙ so-far

none-left : (ls : List Lexed) (i : ℕ) → length ls ≤ i → drop i (kinds_of ls) ≡ []
none-left [] zero past = refl
none-left [] (suc i) past = refl
none-left (l ∷ ls) zero past = absurd (omega (arith, past))
none-left (l ∷ ls) (suc i) past = none-left ls i (omega (arith, past))

-- all tokens were counted
pub counts-all : (ls : List Lexed) (i : ℕ) (c all : Count) → length ls ≤ i → counted_all (drop i (kinds_of ls)) c ≡ all → c ≡ all
counts-all ls i c all past so-far = sym (ap (λ ks. counted_all ks c) (none-left ls i past)) ∙ so-far
