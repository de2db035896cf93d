-- A plain name is one token and one leaf, without a message.
use Rattle.std.proofs.Common.{◌≡◌, ℕ, true, false, List, [], ◌∷◌, drop, length, append-nil, refl, sym, ap, ◌∙◌, Some, None}
use Rattle.std.proofs.lemmas.Bool.{and_parts}
use Rattle.std.proofs.Math.Seq.{drop-append_seam}
use Rattle.std.specs.List.{list_all}
use Rattle.rustc_lexer.specs.Characters.{is_id_start, is_id_continue, is_ident}
use Rattle.rustc_lexer.specs.Lexeme.{lexeme, opens_literal}
use Rattle.rustc_lexer.specs.Tokens as lexer
use Rattle.rustc_lexer.specs.Tokens.{Lexeme, first_lexeme, tokens}
use Rattle.rustc_lexer.proofs.Cutting.{first-length, tokens-cons}
use Rattle.rustc_lexer.proofs.Wide.{continue_zero}
use Rattle.parser_input.specs.Kinds.{IDENT}
use Rattle.parser_input.specs.Leaf.{kind_of, leaf_of, word_kind}
use Rattle.parser_input.specs.Lexed.{Lexed, cut, is_split, next_leaf, quiet}
use Rattle.parser_input.specs.Messages.{message_of}
use Rattle.parser_input.specs.Single.{alone, single}
use Rattle.parser_input.specs.declared.edition.Edition.{Edition}
use Rattle.plain_names.specs.TokenNames.{name_lexeme}
use Rattle.plain_names.proofs.Renamed.{EndsName, name-first}
use Rattle.plain_names.proofs.RenamedLeaves.{from-name}

-- the end of a text goes on no name
ends-here : EndsName []
unfolding opens_literal
ends-here = record { no_more = continue_zero; no_literal = refl }

first : (c : ℕ) (cs : List ℕ) → is_ident (c ∷ cs) ≡ true → first_lexeme (c ∷ cs) ≡ name_lexeme (c ∷ cs)
unfolding is_ident
first c cs h =
    let both = and_parts (is_id_start c) (list_all is_id_continue cs) h in
    ap (λ (xs : List ℕ). first_lexeme (c ∷ xs)) (sym (append-nil cs)) ∙ name-first c cs [] both.0 both.1 ends-here

leaf-is : (edition : Edition) (name : List ℕ) → word_kind edition name ≡ IDENT → next_leaf edition (name_lexeme name) ≡ quiet IDENT name
unfolding next_leaf is_split leaf_of kind_of message_of
leaf-is edition name h = ap (λ (k : ℕ). let l : Lexed = record { leaf = record { kind = k; text = name }; message = None } in l) h

one-token : (c : ℕ) (cs : List ℕ) → is_ident (c ∷ cs) ≡ true → tokens (c ∷ cs) ≡ name_lexeme (c ∷ cs) ∷ []
unfolding tokens lexer.cut
one-token c cs h =
    let all = c ∷ cs in
    let is = first c cs h in
    let taken : (lexeme all).taken ≡ length all = sym (first-length all) ∙ ap (λ (l : Lexeme). length l.text) is in
    let over : drop (length all) all ≡ [] = ap (drop (length all)) (sym (append-nil all)) ∙ drop-append_seam all [] in
    tokens-cons c cs ∙ (λ i. is i ∷ tokens (drop (taken i) all)) ∙ ap (λ (xs : List ℕ). name_lexeme all ∷ tokens xs) over

one-leaf : (edition : Edition) (c : ℕ) (cs : List ℕ) → is_ident (c ∷ cs) ≡ true → word_kind edition (c ∷ cs) ≡ IDENT → cut edition 0 (c ∷ cs) ≡ quiet IDENT (c ∷ cs) ∷ []
unfolding cut
one-leaf edition c cs h k =
    ap (λ (xs : List ℕ). cut edition 0 (c ∷ xs)) (sym (append-nil cs))
    ∙ from-name edition c cs [] (ap (λ (xs : List ℕ). first_lexeme (c ∷ xs)) (append-nil cs) ∙ first c cs h)
    ∙ ap (λ (l : Lexed). l ∷ []) (leaf-is edition (c ∷ cs) k)

pub names-single : (edition : Edition) (name : List ℕ) → is_ident name ≡ true → word_kind edition name ≡ IDENT
    → (cut edition 0 name ≡ quiet IDENT name ∷ []) × (single edition name ≡ Some (quiet IDENT name))
unfolding is_ident single
names-single edition [] h k = absurd (let z : false ≡ true = h in cc)
names-single edition (c ∷ cs) h k =
    let leaf = one-leaf edition c cs h k in
    let token = one-token c cs h in
    (leaf, λ i. alone (token i) (leaf i))
