-- No leaf of an entry's tree is whitespace or a comment.
use Rattle.std.proofs.Common.{◌≡◌, ℕ, zero, suc, Bool, true, false, not, ◌&&◌, ◌||◌, ◌==◌, List, [], ◌∷◌, length, drop, Option, Some, None, unwrap_or, find, option_and_then, refl, sym, subst, inl, inr, if◌then◌else◌, true≢false}
use Rattle.std.proofs.lemmas.Bool.{cases_Bool, eqb-true, or_cases}
use Rattle.parser_input.specs.Kinds.{EOF, IDENT, WHITESPACE, COMMENT, PIPE, PIPE_GT}
use Rattle.parser_input.specs.Keywords.{Word, words, word_of, contextual_kind, is_contextual_in}
use Rattle.parser_input.specs.Leaf.{Leaf, is_trivia}
use Rattle.parser_input.specs.Input.{Token, input, is_before_angle, token_of}
use Rattle.parser_input.specs.declared.edition.Edition.{Edition}
use Rattle.parser_input.specs.declared.edition.Edition.TheVariants.{EditionNext}
use Rattle.parser_input.specs.Edition.{is_from}
use Rattle.parser_events.specs.Forest as forest
use Rattle.rust_grammar.specs.Rule.{Production, Spelling}
use Rattle.rust_grammar.specs.Entry.{entry}
use Rattle.rust_grammar.specs.Spelled.{marks, is_token, has_contextual, is_contextual, is_contextual_word, is_one_of, is_spelled, is_float, are_next, drop_if, then_after, tokens_after}
use Rattle.rust_grammar.specs.Whole.{whole}
use Rattle.ra_parser.specs.Grammars.{is_whole}
use Rattle.ra_parser.specs.declared.grammar.Grammar.{Grammar}
use Rattle.rust_grammar.proofs.Covering.{after-some, dropped}
use Rattle.rust_grammar.proofs.EntriesInOrder.{entries-in-order}
use Rattle.rust_grammar.proofs.Plain.{and_l, and_r}
use Rattle.rust_grammar.proofs.Spelling.{both-true}

-- neither whitespace nor a comment
unfoldable pub is_solid : ℕ → Bool
is_solid kind = not (kind == WHITESPACE || kind == COMMENT)

-- no leaf is one of them; errors are left aside
unfoldable pub has_solid_leaves : forest.Forest → Bool
has_solid_leaves forest.End = true
has_solid_leaves (forest.Leaf k n f) = is_solid k && has_solid_leaves f
has_solid_leaves (forest.Said m f) = has_solid_leaves f
has_solid_leaves (forest.ErrorLeaf m k f) = has_solid_leaves f
has_solid_leaves (forest.Node k c f) = has_solid_leaves c && has_solid_leaves f
has_solid_leaves (forest.Float b c f) = has_solid_leaves c && has_solid_leaves f

-- nor is a token, nor as a contextual keyword
unfoldable are_solid : List Token → Bool
are_solid [] = true
are_solid (t ∷ ts) = (is_solid t.kind && is_solid t.contextual) && are_solid ts

unfoldable are_solid_words : List Word → Bool
are_solid_words [] = true
are_solid_words (w ∷ ws) = is_solid w.kind && are_solid_words ws

unfoldable are_solid_marks : List Spelling → Bool
are_solid_marks [] = true
are_solid_marks (x ∷ xs) = is_solid x.kind && are_solid_marks xs

words-solid : are_solid_words words ≡ true
unfolding are_solid_words is_solid words
words-solid = refl

marks-solid : are_solid_marks marks ≡ true
unfolding are_solid_marks is_solid marks
marks-solid = refl

-- the kind of the first word that passes a test
found-solid : (test : Word → Bool) (ws : List Word) (w : Word) → are_solid_words ws ≡ true → find test ws ≡ Some w → is_solid w.kind ≡ true
unfolding are_solid_words
found-solid test [] w s e = absurd (let z : None ≡ Some w = e in cc)
found-solid test (v ∷ ws) w s e = of (test v) e (found-solid test ws w (and_r (is_solid v.kind) (are_solid_words ws) s))
  where
    of : (b : Bool) → (if b then Some v else find test ws) ≡ Some w → (find test ws ≡ Some w → is_solid w.kind ≡ true) → is_solid w.kind ≡ true
    of true e more = let same : v ≡ w = cc in subst (λ (u : Word). is_solid u.kind ≡ true) same (and_l (is_solid v.kind) (are_solid_words ws) s)
    of false e more = more e

plain-solid : (is_solid IDENT ≡ true) × (is_solid EOF ≡ true)
unfolding is_solid
plain-solid = (refl, refl)

contextual-solid : (edition : Edition) (text : List ℕ) → is_solid (unwrap_or (contextual_kind edition text) IDENT) ≡ true
unfolding word_of
contextual-solid edition text = of (word_of text) refl
  where
    kind_of : (w : Word) → is_solid w.kind ≡ true → (b : Bool) → is_solid (unwrap_or (if b then Some w.kind else None) IDENT) ≡ true
    kind_of w s true = s
    kind_of w s false = plain-solid.0

    of : (o : Option Word) → word_of text ≡ o → is_solid (unwrap_or (option_and_then (λ word. if is_contextual_in edition word then Some word.kind else None) o) IDENT) ≡ true
    of None e = plain-solid.0
    of (Some w) e = kind_of w (found-solid _ words w words-solid e) (is_contextual_in edition w)

token-solid : (w : Bool) (edition : Edition) (l : Leaf) (ls : List Leaf) → is_trivia l ≡ false → (is_solid (token_of w edition l ls).kind && is_solid (token_of w edition l ls).contextual) ≡ true
unfolding token_of is_solid is_trivia
token-solid w edition l ls own = both-true (is_solid l.kind) _ (rw own refl) (of (l.kind == IDENT) (l.kind == PIPE && (is_before_angle ls && is_from EditionNext edition)))
  where
    mark : (b : Bool) → is_solid (if b then PIPE_GT else EOF) ≡ true
    mark true = refl
    mark false = plain-solid.1

    of : (b c : Bool) → is_solid (if b then unwrap_or (contextual_kind edition l.text) IDENT else (if c then PIPE_GT else EOF)) ≡ true
    of true c = contextual-solid edition l.text
    of false c = mark c

input-solid : (w : Bool) (edition : Edition) (ls : List Leaf) → are_solid (input w edition ls) ≡ true
unfolding input are_solid
input-solid w edition [] = refl
input-solid w edition (l ∷ ls) = elim (cases_Bool (is_trivia l)) [
  | inl i ↦ rw i (input-solid w edition ls)
  | inr i ↦ rw i (both-true _ (are_solid (input w edition ls)) (token-solid w edition l ls i) (input-solid w edition ls))
]

drop-solid : (n : ℕ) (ts : List Token) → are_solid ts ≡ true → are_solid (drop n ts) ≡ true
unfolding are_solid
drop-solid zero ts s = s
drop-solid (suc n) [] s = s
drop-solid (suc n) (t ∷ ts) s = drop-solid n ts (and_r (is_solid t.kind && is_solid t.contextual) (are_solid ts) s)

same-kind : (j k : ℕ) → (j == k) ≡ true → is_solid j ≡ true → is_solid k ≡ true
same-kind j k e s = subst (λ (n : ℕ). is_solid n ≡ true) (eqb-true j k e) s

word-solid : (k : ℕ) (ts : List Token) → are_solid ts ≡ true → (is_token k ts || is_contextual_word k ts) ≡ true → is_solid k ≡ true
unfolding are_solid is_token is_contextual is_contextual_word
word-solid k [] s e = absurd (true≢false (sym e))
word-solid k (t ∷ ts) s e =
    let own = and_l (is_solid t.kind && is_solid t.contextual) (are_solid ts) s in
    elim (or_cases (t.kind == k) ((t.contextual == k) && not (k == PIPE_GT)) e) [
      | inl i ↦ same-kind t.kind k i (and_l (is_solid t.kind) (is_solid t.contextual) own)
      | inr i ↦ same-kind t.contextual k (and_l (t.contextual == k) (not (k == PIPE_GT)) i) (and_r (is_solid t.kind) (is_solid t.contextual) own)
    ]

mark-solid : (rs : List Spelling) (k n : ℕ) (ts : List Token) → are_solid_marks rs ≡ true → is_one_of rs k n ts ≡ true → is_solid k ≡ true
unfolding are_solid_marks is_one_of
mark-solid [] k n ts s e = absurd (true≢false (sym e))
mark-solid (x ∷ rs) k n ts s e = elim (or_cases ((x.kind == k) && (length x.parts == n) && (has_contextual x.contextual ts && are_next x.parts ts)) (is_one_of rs k n ts) e) [
  | inl i ↦ same-kind x.kind k (and_l (x.kind == k) (length x.parts == n) (and_l _ (has_contextual x.contextual ts && are_next x.parts ts) i)) (and_l (is_solid x.kind) (are_solid_marks rs) s)
  | inr i ↦ mark-solid rs k n ts (and_r (is_solid x.kind) (are_solid_marks rs) s) i
]

spelled-solid : (k n : ℕ) (ts : List Token) → are_solid ts ≡ true → is_spelled k n ts ≡ true → is_solid k ≡ true
unfolding is_spelled
spelled-solid k n ts s e = elim (or_cases ((n == 1) && (is_token k ts || is_contextual_word k ts)) (is_one_of marks k n ts) e) [
  | inl i ↦ word-solid k ts s (and_r (n == 1) _ i)
  | inr i ↦ mark-solid marks k n ts marks-solid i
]

-- Trees over such tokens have solid leaves, and the tokens after them are such too.
abbrev Solid : forest.Forest → List Token → Type 0
Solid f us = (has_solid_leaves f ≡ true) × (are_solid us ≡ true)

left-solid : (b : Bool) (n : ℕ) (ts us : List Token) → are_solid ts ≡ true → drop_if b n ts ≡ Some us → are_solid us ≡ true
left-solid b n ts us s e = subst (λ (vs : List Token). are_solid vs ≡ true) (dropped b n ts us e).1 (drop-solid n ts s)

trees-solid : (f : forest.Forest) (ts us : List Token) → are_solid ts ≡ true → tokens_after f ts ≡ Some us → Solid f us
unfolding tokens_after has_solid_leaves
trees-solid forest.End ts us s e = (refl, let same : ts ≡ us = cc in subst (λ (vs : List Token). are_solid vs ≡ true) same s)
trees-solid (forest.Leaf k n f) ts us s e =
    let at = after-some (drop_if (is_spelled k n ts) n ts) (tokens_after f) us e in
    let rest = trees-solid f at.0 us (left-solid (is_spelled k n ts) n ts at.0 s at.1.0) at.1.1 in
    (both-true (is_solid k) (has_solid_leaves f) (spelled-solid k n ts s (dropped (is_spelled k n ts) n ts at.0 at.1.0).0) rest.0, rest.1)
trees-solid (forest.Said m f) ts us s e = trees-solid f ts us s e
trees-solid (forest.ErrorLeaf m k f) ts us s e =
    let at = after-some (drop_if (is_token k ts) 1 ts) (tokens_after f) us e in
    trees-solid f at.0 us (left-solid (is_token k ts) 1 ts at.0 s at.1.0) at.1.1
trees-solid (forest.Node k c f) ts us s e =
    let at = after-some (tokens_after c ts) (tokens_after f) us e in
    let inner = trees-solid c ts at.0 s at.1.0 in
    let rest = trees-solid f at.0 us inner.1 at.1.1 in
    (both-true (has_solid_leaves c) (has_solid_leaves f) inner.0 rest.0, rest.1)
trees-solid (forest.Float b c f) ts us s e =
    let at = after-some (tokens_after c ts) (λ vs. then_after (drop_if (is_float b vs) 1 vs) (tokens_after f)) us e in
    let inner = trees-solid c ts at.0 s at.1.0 in
    let after = after-some (drop_if (is_float b at.0) 1 at.0) (tokens_after f) us at.1.1 in
    let rest = trees-solid f after.0 us (left-solid (is_float b at.0) 1 at.0 after.0 inner.1 after.1.0) after.1.1 in
    (both-true (has_solid_leaves c) (has_solid_leaves f) inner.0 rest.0, rest.1)

pub entry-solid : (x : Production) (grammar : Grammar) (edition : Edition) (ls : List Leaf) → has_solid_leaves (entry whole x (input (is_whole grammar) edition ls)) ≡ true
entry-solid x grammar edition ls = (trees-solid (entry whole x (input (is_whole grammar) edition ls)) (input (is_whole grammar) edition ls) [] (input-solid (is_whole grammar) edition ls) (entries-in-order x (input (is_whole grammar) edition ls))).0
