-- The kind of a name.
use Rattle.std.proofs.Common.{◌≡◌, List, [], ◌∷◌, cond, ℕ, Option, Some, None, Bool, true, false, refl, sym, subst, IfSome, bytes_eq}
use Rattle.std.specs.Prelude.{find}
use Rattle.std.proofs.lemmas.Slice.Eq.{bytes_eq-Decides}
use Rattle.parser_input.specs.Kind.{name_of}
use Rattle.parser_input.specs.declared.syntax_kind.SyntaxKind.{SyntaxKind}
use Rattle.parser_input.proofs.KindTable.{find-kinds}
use Rattle.parser_input.specs.KindTable.{all_kinds}
use Rattle.document_requests.specs.Words.{any_kind_named}

first_passes : (p : SyntaxKind → Bool) (other kind : SyntaxKind) (rest : Option SyntaxKind) (b : Bool) → p other ≡ b → cond b (Some other) rest ≡ Some kind → (rest ≡ Some kind → p kind ≡ true) → p kind ≡ true
first_passes p other kind rest true is at later = let same : other ≡ kind = cc in rw (← same) is
first_passes p other kind rest false is at later = later at

found_passes : (p : SyntaxKind → Bool) (kinds : List SyntaxKind) (kind : SyntaxKind) → find p kinds ≡ Some kind → p kind ≡ true
found_passes p [] kind found = absurd (cc)
found_passes p (other ∷ kinds) kind found = first_passes p other kind (find p kinds) (p other) refl found (found_passes p kinds kind)

named_so : (word : List ℕ) (found result : Option SyntaxKind) → any_kind_named word ≡ found → ((kind : SyntaxKind) → name_of kind ≡ word → result ≡ Some kind) → result ≡ None → result ≡ found
unfolding any_kind_named
named_so word None result is inverse none = none
named_so word (Some kind) result is inverse none =
    inverse kind ((bytes_eq-Decides (name_of kind) word).0 (found_passes (λ k. bytes_eq (name_of k) word) all_kinds kind is))

-- what has the name of a kind, or is nothing where no kind has it
pub named_kind : (word : List ℕ) (result : Option SyntaxKind) → IfSome result (λ kind. name_of kind ≡ word) → ((kind : SyntaxKind) → name_of kind ≡ word → result ≡ Some kind) → result ≡ any_kind_named word
unfolding any_kind_named
named_kind word (Some kind) named inverse = sym (subst (λ w. any_kind_named w ≡ Some kind) named (find-kinds kind))
named_kind word None named inverse = named_so word (any_kind_named word) None refl inverse refl
