-- Messages of the lexer, leaf by leaf.
use Rattle.std.proofs.Common.{◌≡◌, ◌<◌, ◌+◌, ◌++◌, ℕ, zero, suc, List, [], ◌∷◌, length, drop, Option, Some, None, option_map, refl, sym, ap, ◌∙◌, arith, append_assoc}
use Rattle.rustc_lexer.specs.Characters.{size}
use Rattle.parser_input.specs.Lexed.{Lexed}
use Rattle.parser_input.specs.Messages.{wording}
use Rattle.parser_input.specs.Stored.{leaf_at, offset}
use Rattle.parser_input.specs.declared.message.Message as leaves
use Rattle.rust_document.specs.Reading.{OfLeaf, Message, of_leaf, of_leaves}

-- what the words of a leaf's message say
pub said : (place : ℕ) (words : List ℕ) (m : Option leaves.Message) → Some words ≡ option_map wording m → (place, OfLeaf words) ∷ [] ≡ of_leaf place m
said place words (Some m) e = cc
said place words None e = cc

pub silent : (place : ℕ) (m : Option leaves.Message) → None ≡ option_map wording m → of_leaf place m ≡ []
silent place (Some m) e = cc
silent place None e = refl

-- a leaf's message, with those of the leaves after it
from-leaf :
    (p : ℕ) (ls : List Lexed) (i : ℕ) → i < length ls
    → of_leaf (p + offset ls i) (leaf_at ls i).message ++ of_leaves (p + offset ls (suc i)) (drop (suc i) ls) ≡ of_leaves (p + offset ls i) (drop i ls)
from-leaf p [] i within = absurd (omega (arith, within))
from-leaf p (l ∷ ls) zero within =
    let e : (p + (size l.leaf.text + 0)) ≡ (p + 0 + size l.leaf.text) = omega arith in
    ap (λ (n : ℕ). of_leaf (p + 0) l.message ++ of_leaves n ls) e
from-leaf p (l ∷ ls) (suc i) within =
    let here : (p + (size l.leaf.text + offset ls i)) ≡ (p + size l.leaf.text + offset ls i) = omega arith in
    let next : (p + (size l.leaf.text + offset ls (suc i))) ≡ (p + size l.leaf.text + offset ls (suc i)) = omega arith in
    ap (λ (n : ℕ). of_leaf n (leaf_at ls i).message ++ of_leaves (p + (size l.leaf.text + offset ls (suc i))) (drop (suc i) ls)) here
    ∙ ap (λ (n : ℕ). of_leaf (p + size l.leaf.text + offset ls i) (leaf_at ls i).message ++ of_leaves n (drop (suc i) ls)) next
    ∙ from-leaf (p + size l.leaf.text) ls i (omega (arith, within))
    ∙ ap (λ (n : ℕ). of_leaves n (drop i ls)) (sym here)

from-zero : (n : ℕ) → n ≡ (0 + n)
from-zero n = omega arith

-- `from-leaf` for all leaves
from-leaf-of-all :
    (ls : List Lexed) (i : ℕ) → i < length ls
    → of_leaf (offset ls i) (leaf_at ls i).message ++ of_leaves (offset ls (suc i)) (drop (suc i) ls) ≡ of_leaves (offset ls i) (drop i ls)
from-leaf-of-all ls i within =
    ap (λ (n : ℕ). of_leaf n (leaf_at ls i).message ++ of_leaves (offset ls (suc i)) (drop (suc i) ls)) (from-zero (offset ls i))
    ∙ ap (λ (n : ℕ). of_leaf (0 + offset ls i) (leaf_at ls i).message ++ of_leaves n (drop (suc i) ls)) (from-zero (offset ls (suc i)))
    ∙ from-leaf 0 ls i within
    ∙ ap (λ (n : ℕ). of_leaves n (drop i ls)) (sym (from-zero (offset ls i)))

one-more : (i : ℕ) → (i + 1) ≡ suc i
one-more i = omega arith

-- the messages so far, once this leaf's is appended
pub next-faults :
    (ls : List Lexed) (i : ℕ) (before after all : List Message) → i < length ls
    → after ≡ before ++ of_leaf (offset ls i) (leaf_at ls i).message
    → before ++ of_leaves (offset ls i) (drop i ls) ≡ all
    → after ++ of_leaves (offset ls (i + 1)) (drop (i + 1) ls) ≡ all
next-faults ls i before after all within grown so_far =
    ap (λ (n : ℕ). after ++ of_leaves (offset ls n) (drop n ls)) (one-more i)
    ∙ ap (λ (ms : List Message). ms ++ of_leaves (offset ls (suc i)) (drop (suc i) ls)) grown
    ∙ append_assoc before (of_leaf (offset ls i) (leaf_at ls i).message) (of_leaves (offset ls (suc i)) (drop (suc i) ls))
    ∙ ap (λ (ms : List Message). before ++ ms) (from-leaf-of-all ls i within)
    ∙ so_far
