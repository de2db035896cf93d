-- An identifier by its characters, a word by its kinds.
use Rattle.std.proofs.Common.{◌≡◌, ◌∙◌, ◌==◌, ◌&&◌, ℕ, Bool, true, false, not, Option, Some, None, chars, is_none, is_some, refl, sym, ap}
use Rattle.std.specs.Option.{option_map}
use Rattle.rustc_lexer.specs.Characters.{is_ident}
use Rattle.parser_input.specs.Keywords.{contextual_kind}
use Rattle.parser_input.specs.Kind.{raw_of}
use Rattle.parser_input.specs.Kinds.{IDENT}
use Rattle.parser_input.specs.Leaf.{word_kind}
use Rattle.parser_input.specs.declared.syntax_kind.SyntaxKind.{SyntaxKind}
use Rattle.parser_input.specs.declared.syntax_kind.SyntaxKind.TheVariants as kinds
use Rattle.parser_input.proofs.Words.{contextual-bytes}
use Rattle.rust_document.proofs.plain_name.is_plain_name.Goals as goal

all-true : (ident word none result : Bool) → ident ≡ true → word ≡ true → result ≡ none → result ≡ (ident && (word && none))
all-true ident word none result i w e = rw (i, w) e

no-word : (ident word none : Bool) → word ≡ false → false ≡ (ident && (word && none))
no-word true word none w = rw w refl
no-word false word none w = refl

none-mapped : (o : Option SyntaxKind) → is_none o ≡ is_none (option_map raw_of o)
none-mapped None = refl
none-mapped (Some k) = refl

not-ident : (kind : SyntaxKind) → (kind ≡ kinds.IDENT → ⊥) → (raw_of kind == IDENT) ≡ false
not-ident kinds.IDENT other = absurd (other refl)
not-ident _ other = refl

told-none : (o : Option SyntaxKind) (result : Bool) → is_some o ≡ not result → result ≡ is_none o
told-none None true e = refl
told-none None false e = e
told-none (Some k) true e = e
told-none (Some k) false e = refl

pub returns-in-IDENT : goal.returns-in-IDENT
returns-in-IDENT c =
    let name = c.args.name.now in
    all-true (is_ident (chars name)) (word_kind c.args.edition (chars name) == IDENT) (is_none (contextual_kind c.args.edition (chars name))) _
    (sym c.is_ident.ensures ∙ c.if-not-is_ident.false)
    (ap (λ (k : ℕ). k == IDENT) (sym c.word_kind.ensures) ∙ ap (λ (k : SyntaxKind). raw_of k == IDENT) c.in-IDENT.is)
    (told-none _ _ c.is_none.ensures ∙ none-mapped _ ∙ ap (λ (o : Option ℕ). is_none o) (c.contextual_keyword.ensures.kind ∙ contextual-bytes c.args.edition name c.utf8.name))

pub returns-in_default : goal.returns-in_default
returns-in_default c =
    let name = c.args.name.now in
    no-word (is_ident (chars name)) (word_kind c.args.edition (chars name) == IDENT) (is_none (contextual_kind c.args.edition (chars name)))
    (ap (λ (k : ℕ). k == IDENT) (sym c.word_kind.ensures) ∙ not-ident _ c.in_default.not-IDENT)
