-- What is spelled as a keyword of an item begins with neither `#` nor `-`.
use Rattle.std.proofs.Common.{◌≡◌, ℕ, Bool, true, false, not, ◌||◌, ◌==◌, List, [], ◌∷◌, ◌++◌, chars, map, refl, sym, ◌∙◌, ap, subst, inl, inr}
use Rattle.std.proofs.lemmas.Bool.{cases_Bool, eqb-true, or_cases}
use Rattle.rustc_lexer.specs.Characters.{double_quote, hash}
use Rattle.rustc_lexer.specs.Rows.{first_fit}
use Rattle.rustc_lexer.specs.Scan.{◌▸◌, begin, give, look, peek, skip}
use Rattle.rustc_lexer.specs.Lexeme.{Case, Guard, Single, case_of, lexeme, lexeme_in, sign}
use Rattle.rustc_lexer.specs.Tokens.{Lexeme, first_lexeme}
use Rattle.rustc_lexer.specs.declared.token.TokenKind.{TokenKind}
use Rattle.rustc_lexer.specs.declared.token.TokenKind.TheVariants.{GuardedStrPrefix, Minus, Pound}
use Rattle.rustc_lexer.proofs.Cases.{guard-case, hash-case, single-case}
use Rattle.rustc_lexer.proofs.Cutting.{tokens-cons}
use Rattle.rustc_lexer.proofs.Plain.{PlainSign, plain-sign}
use Rattle.rowan_green.specs.Leaf as green
use Rattle.parser_input.specs.Kind as kind
use Rattle.parser_input.specs.Kinds.{FN_KW, MOD_KW, PUB_KW, STRUCT_KW, WHITESPACE}
use Rattle.parser_input.specs.Leaf.{kind_of, leaf_of, leaves}
use Rattle.parser_input.specs.Lines.{dash}
use Rattle.parser_input.specs.declared.edition.Edition.{Edition}
use Rattle.spaced_core.specs.WellSpaced.{AreSpaced, IsSpelled, characters_of}
use Rattle.spaced_core.specs.SpacedText.{solid, text_of}
use Rattle.spaced_core.proofs.CoreStarts.{begins_item, is_item_word, kinds_of}
use Rattle.spaced_core.proofs.SpacedLeaves.{solid-none, solid-skips, solid-takes, space-all, spelled-first, white-trivia}
use Rattle.spaced_core.proofs.Starts.{spaces-plain, starts_plain, word-plain}

-- ---- a text that begins with `#` or `-`

guard-value : (text : List ℕ) → (lexeme_in Guard text).value ≡ GuardedStrPrefix
unfolding lexeme_in ◌▸◌ skip give
guard-value text = refl

single-value : (c : ℕ) (cs : List ℕ) → (lexeme_in Single (c ∷ cs)).value ≡ sign c
unfolding lexeme_in ◌▸◌ look skip give
single-value c cs = refl

hash-sign : sign hash ≡ Pound
unfolding sign first_fit
hash-sign = refl

dash-sign : sign dash ≡ Minus
unfolding sign first_fit
dash-sign = refl

by-case : (text : List ℕ) (k : Case) → case_of (peek 0 text) (peek 1 text) (peek 2 text) ≡ k → (lexeme text).value ≡ (lexeme_in k text).value
unfolding lexeme begin
by-case text k e = ap (λ (k : Case). (lexeme_in k text).value) e

-- no keyword of an item is a leaf of such a kind
abbrev is_word : Edition → TokenKind → List ℕ → Bool
is_word edition k text = is_item_word (kind_of edition k text)

guard-word : (edition : Edition) (text : List ℕ) → is_word edition GuardedStrPrefix text ≡ false
unfolding kind_of
guard-word edition text = refl

pound-word : (edition : Edition) (text : List ℕ) → is_word edition Pound text ≡ false
unfolding kind_of
pound-word edition text = refl

minus-word : (edition : Edition) (text : List ℕ) → is_word edition Minus text ≡ false
unfolding kind_of
minus-word edition text = refl

hash-word : (edition : Edition) (cs text : List ℕ) → is_word edition (lexeme (hash ∷ cs)).value text ≡ false
hash-word edition cs text =
    let whole = hash ∷ cs in
    elim (cases_Bool (peek 1 whole == hash || peek 1 whole == double_quote)) [
      | inl h ↦
          ap (λ k. is_word edition k text) (by-case whole Guard (guard-case (peek 1 whole) (peek 2 whole) h) ∙ guard-value whole) ∙ guard-word edition text
      | inr h ↦
          ap (λ k. is_word edition k text) (by-case whole Single (hash-case (peek 1 whole) (peek 2 whole) h) ∙ single-value hash cs ∙ hash-sign) ∙ pound-word edition text
    ]

dash-plain : PlainSign dash
dash-plain = plain-sign dash refl

dash-word : (edition : Edition) (cs text : List ℕ) → is_word edition (lexeme (dash ∷ cs)).value text ≡ false
dash-word edition cs text =
    let whole = dash ∷ cs in
    let s = dash-plain in
    let is = single-case dash (peek 1 whole) (peek 2 whole) s.plain s.name s.digit s.ticks s.quotes s.hashes in
    ap (λ k. is_word edition k text) (by-case whole Single is ∙ single-value dash cs ∙ dash-sign) ∙ minus-word edition text

-- ---- what is spelled as a keyword of an item

abbrev begins_word : ℕ → Bool
begins_word k = begins_item (characters_of k)

pub-word : begins_word PUB_KW ≡ true
unfolding characters_of
pub-word = refl

struct-word : begins_word STRUCT_KW ≡ true
unfolding characters_of
struct-word = refl

mod-word : begins_word MOD_KW ≡ true
unfolding characters_of
mod-word = refl

fn-word : begins_word FN_KW ≡ true
unfolding characters_of
fn-word = refl

word-characters : (k : ℕ) → is_item_word k ≡ true → begins_word k ≡ true
word-characters k h = elim (or_cases _ _ h) [
  | inr a ↦ ap begins_word (eqb-true k FN_KW a) ∙ fn-word
  | inl h ↦ elim (or_cases _ _ h) [
    | inr a ↦ ap begins_word (eqb-true k MOD_KW a) ∙ mod-word
    | inl h ↦ elim (or_cases _ _ h) [
      | inr a ↦ ap begins_word (eqb-true k STRUCT_KW a) ∙ struct-word
      | inl a ↦ ap begins_word (eqb-true k PUB_KW a) ∙ pub-word
    ]
  ]
]

first-word : (edition : Edition) (c : ℕ) (cs : List ℕ) → begins_item (map (λ l. l.kind) (leaves edition (c ∷ cs))) ≡ is_word edition (lexeme (c ∷ cs)).value (first_lexeme (c ∷ cs)).text
unfolding leaves leaf_of first_lexeme
first-word edition c cs = ap (λ (ts : List Lexeme). begins_item (map (λ l. l.kind) (map (leaf_of edition) ts))) (tokens-cons c cs)

spelled-word : (edition : Edition) (k c : ℕ) (cs : List ℕ) → is_item_word k ≡ true → IsSpelled edition k (c ∷ cs) → is_word edition (lexeme (c ∷ cs)).value (first_lexeme (c ∷ cs)).text ≡ true
spelled-word edition k c cs h s = sym (first-word edition c cs) ∙ ap begins_item s.kinds ∙ word-characters k h

no-code : (edition : Edition) (code c : ℕ) (cs : List ℕ) → ((rest text : List ℕ) → is_word edition (lexeme (code ∷ rest)).value text ≡ false) → is_word edition (lexeme (c ∷ cs)).value (first_lexeme (c ∷ cs)).text ≡ true → (c == code) ≡ false
no-code edition code c cs none is = elim (cases_Bool (c == code)) [
  | inr h ↦ h
  | inl h ↦
      let z : true ≡ false = sym is ∙ ap (λ (d : ℕ). is_word edition (lexeme (d ∷ cs)).value (first_lexeme (c ∷ cs)).text) (eqb-true c code h) ∙ none cs (first_lexeme (c ∷ cs)).text in
      absurd (cc)
]

word-starts : (edition : Edition) (k : ℕ) (text rest : List ℕ) → kind.is_trivia k ≡ false → is_item_word k ≡ true → IsSpelled edition k text → starts_plain (text ++ rest) ≡ true
word-starts edition k text rest none h s =
    let first = spelled-first edition k text (ap not none) s in
    let c = first.0 in
    let cs = first.1.0 in
    let own = spelled-word edition k c cs h (subst (λ (t : List ℕ). IsSpelled edition k t) first.1.1.0 s) in
    ap (λ (t : List ℕ). starts_plain (t ++ rest)) first.1.1.0 ∙ word-plain c (cs ++ rest) first.1.1.1 (no-code edition hash c cs (hash-word edition) own) (no-code edition dash c cs (dash-word edition) own)

-- ---- spaced leaves of which the first that is solid is such a keyword

pub text-starts : (edition : Edition) (ls : List green.Leaf) → AreSpaced edition ls → begins_item (kinds_of (solid ls)) ≡ true → starts_plain (text_of ls) ≡ true
text-starts edition [] s h = refl
text-starts edition (l ∷ ls) s h = elim (cases_Bool (l.kind == WHITESPACE)) [
  | inl w ↦
      let next = text-starts edition ls s.2 (ap (λ (xs : List green.Leaf). begins_item (kinds_of xs)) (sym (solid-skips l ls (white-trivia l.kind w))) ∙ h) in
      spaces-plain (chars l.text) (text_of ls) (space-all (chars l.text) (s.0.space w)) next
  | inr w ↦
      let none = solid-none l.kind w s.0.no_comment in
      let word : is_item_word l.kind ≡ true = ap (λ (xs : List green.Leaf). begins_item (kinds_of xs)) (sym (solid-takes l ls none)) ∙ h in
      word-starts edition l.kind (chars l.text) (text_of ls) none word (s.0.spelled w)
]
