-- A text that is one token and one leaf is spelled.
use Rattle.std.proofs.Common.{◌≡◌, ℕ, true, false, not, ◌&&◌, ◌==◌, List, [], ◌∷◌, map, Option, Some, None, is_none, refl, sym, ◌∙◌, ap, inl, inr}
use Rattle.std.specs.List.{list_all}
use Rattle.std.proofs.lemmas.Bool.{cases_Bool}
use Rattle.rustc_lexer.specs.Tokens as lexer
use Rattle.rustc_lexer.specs.Tokens.{Lexeme, first_lexeme, tokens}
use Rattle.rustc_lexer.proofs.Cutting.{tokens-cons}
use Rattle.parser_input.specs.Keywords.{contextual_kind}
use Rattle.parser_input.specs.Kinds.{IDENT, PIPE_GT, POUND}
use Rattle.parser_input.specs.Leaf.{kind_of, leaf_of, leaves}
use Rattle.parser_input.specs.Lexed.{Lexed, cut, is_split, next_leaf, quiet}
use Rattle.parser_input.specs.Messages.{message_of}
use Rattle.parser_input.specs.Single.{alone, single}
use Rattle.parser_input.specs.declared.edition.Edition.{Edition}
use Rattle.parser_input.proofs.LexedSteps.{leaf-split, leaf-whole}
use Rattle.spaced_core.specs.Spelled.{SingleTokensAreSpelled}
use Rattle.spaced_core.specs.WellSpaced.{IsSpelled, characters_of, is_sound}
use Rattle.spaced_core.proofs.Characters.{pipe-characters}

-- the leaf of a kind and a text that has no message
same-leaf : (edition : Edition) (t : Lexeme) (kind : ℕ) (text : List ℕ) → (kind == POUND) ≡ false → next_leaf edition t ≡ quiet kind text → (is_split edition t.kind ≡ false) × (kind_of edition t.kind t.text ≡ kind) × (message_of edition t.kind t.text ≡ None)
unfolding leaf_of
same-leaf edition t kind text other e = elim (cases_Bool (is_split edition t.kind)) [
  | inl h ↦
      let own : POUND ≡ kind = ap (λ (l : Lexed). l.leaf.kind) (sym (leaf-split edition t h) ∙ e) in
      let z : true ≡ false = ap (λ (k : ℕ). k == POUND) own ∙ other in
      absurd (cc)
  | inr h ↦
      let both = sym (leaf-whole edition t h) ∙ e in
      (h, ap (λ (l : Lexed). l.leaf.kind) both, ap (λ (l : Lexed). l.message) both)
]

from_some : Lexed → Option Lexed → Lexed
from_some d None = d
from_some d (Some x) = x

some-same : (a b : Lexed) → Some a ≡ Some b → a ≡ b
unfolding from_some
some-same a b e = ap (from_some a) e

-- one token and one leaf
both-alone : (ts : List Lexeme) (ls : List Lexed) (l : Lexed) → alone ts ls ≡ Some l → (t : Lexeme) × ((ts ≡ t ∷ []) × (ls ≡ l ∷ []))
both-alone [] ls l e = absurd (let z : None ≡ Some l = e in cc)
both-alone (t ∷ []) [] l e = absurd (let z : None ≡ Some l = e in cc)
both-alone (t ∷ []) (m ∷ []) l e = (t, (refl, ap (λ (x : Lexed). x ∷ []) (let z : Some m ≡ Some l = e in some-same m l z)))
both-alone (t ∷ []) (m ∷ n ∷ ls) l e = absurd (let z : None ≡ Some l = e in cc)
both-alone (t ∷ u ∷ ts) ls l e = absurd (let z : None ≡ Some l = e in cc)

head_of : Lexed → List Lexed → Lexed
head_of d [] = d
head_of d (l ∷ ls) = l

first_of_tokens : Lexeme → List Lexeme → Lexeme
first_of_tokens d [] = d
first_of_tokens d (t ∷ ts) = t

first-leaf : (edition : Edition) (c : ℕ) (cs : List ℕ) (l : Lexed) → cut edition 0 (c ∷ cs) ≡ l ∷ [] → next_leaf edition (first_lexeme (c ∷ cs)) ≡ l
unfolding cut head_of
first-leaf edition c cs l e = ap (head_of l) e

first-token : (c : ℕ) (cs : List ℕ) (t : Lexeme) → tokens (c ∷ cs) ≡ t ∷ [] → first_lexeme (c ∷ cs) ≡ t
unfolding first_of_tokens
first-token c cs t e = ap (first_of_tokens t) (sym (tokens-cons c cs) ∙ e)

not-pipe : (kind : ℕ) → characters_of kind ≡ kind ∷ [] → kind ≡ PIPE_GT → ⊥
not-pipe kind one e = let z = sym (pipe-characters kind (ap (λ (k : ℕ). k == PIPE_GT) e)) ∙ one in cc

token-spelled :
    (edition : Edition) (kind : ℕ) (text : List ℕ) (t : Lexeme) → tokens text ≡ t ∷ [] → (is_split edition t.kind ≡ false) × (kind_of edition t.kind t.text ≡ kind) × (message_of edition t.kind t.text ≡ None)
    → characters_of kind ≡ kind ∷ [] → (kind ≡ IDENT → contextual_kind edition text ≡ None) → IsSpelled edition kind text
unfolding leaves leaf_of is_sound
token-spelled edition kind text t is own one plain = record {
  kinds = ap (λ (ts : List Lexeme). map (λ l. l.kind) (map (leaf_of edition) ts)) is ∙ ap (λ (k : ℕ). k ∷ []) own.1 ∙ sym one;
  sound = ap (list_all (is_sound edition)) is ∙ (λ i. (not (own.0 i) && is_none (own.2 i)) && true);
  name = plain;
  pipe = λ e. absurd (not-pipe kind one e);
}

no-text : (edition : Edition) (l : Lexed) → single edition [] ≡ Some l → ⊥
unfolding single tokens lexer.cut cut
no-text edition l e = let z : None ≡ Some l = e in cc

pub single-spelled : SingleTokensAreSpelled
unfolding single
single-spelled edition kind [] e one other plain = absurd (no-text edition (quiet kind []) e)
single-spelled edition kind (c ∷ cs) e one other plain =
    let text = c ∷ cs in
    let both = both-alone (tokens text) (cut edition 0 text) (quiet kind text) e in
    let t = both.0 in
    let first = ap (next_leaf edition) (sym (first-token c cs t both.1.0)) ∙ first-leaf edition c cs (quiet kind text) both.1.1 in
    token-spelled edition kind text t both.1.0 (same-leaf edition t kind text other first) one plain
