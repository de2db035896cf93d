-- Which kinds pass the tests of the code, by the variants that it names.
use Rattle.std.proofs.Common.{◌≡◌, ◌∙◌, ℕ, Bool, refl, sym, true, false, ◌==◌, ◌||◌, ◌⊎◌, inl, inr}
use denote.Enum.Bare.{sameb}
use Rattle.parser_input.specs.contracts.syntax_kind.SyntaxKind.{the_type}
use Rattle.parser_input.specs.declared.edition.Edition.TheVariants.{EditionNext}
use Rattle.parser_input.specs.declared.syntax_kind.SyntaxKind.{SyntaxKind}
use Rattle.parser_input.specs.declared.syntax_kind.SyntaxKind.TheVariants.{TOMBSTONE, L_PAREN, R_PAREN, L_CURLY, R_CURLY, L_BRACK, R_BRACK, IDENT, WHITESPACE, COMMENT}
use Rattle.parser_input.specs.Keywords.{is_any_identifier, is_keyword}
use Rattle.parser_input.specs.Kind.{raw_of, is_trivia, is_delimiter, is_l_delimiter, is_r_delimiter}
use Rattle.parser_input.specs.Kinds as kinds

pub trivia-yes : (kind : SyntaxKind) → (kind ≡ WHITESPACE) ⊎ (kind ≡ COMMENT) → true ≡ is_trivia (raw_of kind)
trivia-yes kind (inl e) = rw e refl
trivia-yes kind (inr e) = rw e refl

pub trivia-no : (kind : SyntaxKind) → (kind ≡ WHITESPACE → ⊥) → (kind ≡ COMMENT → ⊥) → false ≡ is_trivia (raw_of kind)
trivia-no WHITESPACE a b = absurd (a refl)
trivia-no COMMENT a b = absurd (b refl)
trivia-no _ a b = refl

pub opening-yes : (kind : SyntaxKind) → (kind ≡ L_PAREN) ⊎ ((kind ≡ L_CURLY) ⊎ (kind ≡ L_BRACK)) → true ≡ is_l_delimiter (raw_of kind)
opening-yes kind (inl e) = rw e refl
opening-yes kind (inr (inl e)) = rw e refl
opening-yes kind (inr (inr e)) = rw e refl

pub opening-no : (kind : SyntaxKind) → (kind ≡ L_PAREN → ⊥) → (kind ≡ L_CURLY → ⊥) → (kind ≡ L_BRACK → ⊥) → false ≡ is_l_delimiter (raw_of kind)
opening-no L_PAREN a b c = absurd (a refl)
opening-no L_CURLY a b c = absurd (b refl)
opening-no L_BRACK a b c = absurd (c refl)
opening-no _ a b c = refl

pub closing-yes : (kind : SyntaxKind) → (kind ≡ R_PAREN) ⊎ ((kind ≡ R_CURLY) ⊎ (kind ≡ R_BRACK)) → true ≡ is_r_delimiter (raw_of kind)
closing-yes kind (inl e) = rw e refl
closing-yes kind (inr (inl e)) = rw e refl
closing-yes kind (inr (inr e)) = rw e refl

pub closing-no : (kind : SyntaxKind) → (kind ≡ R_PAREN → ⊥) → (kind ≡ R_CURLY → ⊥) → (kind ≡ R_BRACK → ⊥) → false ≡ is_r_delimiter (raw_of kind)
closing-no R_PAREN a b c = absurd (a refl)
closing-no R_CURLY a b c = absurd (b refl)
closing-no R_BRACK a b c = absurd (c refl)
closing-no _ a b c = refl

-- what a choice of two tests comes to, by the first
or-true : (a b : Bool) → a ≡ true → a ≡ a || b
or-true a b e = rw e refl

or-false : (a b : Bool) → a ≡ false → b ≡ a || b
or-false a b e = rw e refl

pub bracket-opening : (kind : ℕ) (flag : Bool) → flag ≡ is_l_delimiter kind → flag ≡ true → flag ≡ is_delimiter kind
bracket-opening kind flag is holds = is ∙ or-true (is_l_delimiter kind) (is_r_delimiter kind) (sym is ∙ holds)

pub bracket-other : (kind : ℕ) (flag closes : Bool) → flag ≡ is_l_delimiter kind → flag ≡ false → closes ≡ is_r_delimiter kind → closes ≡ is_delimiter kind
bracket-other kind flag closes is fails rest = rest ∙ or-false (is_l_delimiter kind) (is_r_delimiter kind) (sym is ∙ fails)

-- the test for one kind, as the code makes it
same-ident : (kind : SyntaxKind) → sameb the_type kind IDENT ≡ raw_of kind == kinds.IDENT
same-ident TOMBSTONE = refl
same-ident _ = refl

pub identifier-plain : (kind : SyntaxKind) (flag : Bool) → flag ≡ sameb the_type kind IDENT → flag ≡ true → flag ≡ is_any_identifier (raw_of kind)
identifier-plain kind flag is holds = is ∙ same-ident kind ∙ or-true (raw_of kind == kinds.IDENT) (is_keyword EditionNext (raw_of kind)) (sym (same-ident kind) ∙ sym is ∙ holds)

pub identifier-word : (kind : SyntaxKind) (flag word : Bool) → flag ≡ sameb the_type kind IDENT → flag ≡ false → word ≡ is_keyword EditionNext (raw_of kind) → word ≡ is_any_identifier (raw_of kind)
identifier-word kind flag word is fails rest = rest ∙ or-false (raw_of kind == kinds.IDENT) (is_keyword EditionNext (raw_of kind)) (sym (same-ident kind) ∙ sym is ∙ fails)
