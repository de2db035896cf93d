-- Tokens that the grammar reads as another tree are no core file with this one.
use Rattle.std.proofs.Common.{◌≡◌, ℕ, ◌==◌, Bool, true, false, ◌&&◌, List, refl, ap, ◌∙◌}
use Rattle.std.proofs.lemmas.Bool.{eq-eqb}
use Rattle.parser_input.specs.Input.{Token}
use Rattle.parser_events.specs.Forest.{Forest, End, Leaf, Said, ErrorLeaf, Node, Float}
use Rattle.rust_grammar.specs.Rule.{source_file}
use Rattle.rust_grammar.specs.Entry.{entry}
use Rattle.rust_grammar.specs.Whole.{whole}
use Rattle.core_language.specs.Language.{IsCoreFile}
use Rattle.core_language.proofs.Read.{files-read}

-- whether two forests have the same nodes and leaves
abbrev pub is_same : Forest → Forest → Bool
is_same End End = true
is_same (Leaf k n f) (Leaf l m g) = k == l && n == m && is_same f g
is_same (Said m f) (Said n g) = is_same f g
is_same (ErrorLeaf m k f) (ErrorLeaf n l g) = is_same f g
is_same (Node k c f) (Node l d g) = k == l && is_same c d && is_same f g
is_same (Float e c f) (Float x d g) = is_same c d && is_same f g
is_same f g = false

equal-self : (k : ℕ) → (k == k) ≡ true
equal-self k = eq-eqb k k refl

same-self : (f : Forest) → is_same f f ≡ true
same-self End = refl
same-self (Leaf k n f) = rw (equal-self k, equal-self n, same-self f) refl
same-self (Said m f) = same-self f
same-self (ErrorLeaf m k f) = same-self f
same-self (Node k c f) = rw (equal-self k, same-self c, same-self f) refl
same-self (Float e c f) = rw (same-self c, same-self f) refl

pub read-otherwise : (tokens : List Token) (tree : Forest) → is_same (entry whole source_file tokens) tree ≡ false → IsCoreFile tokens tree
    → ⊥
read-otherwise tokens tree e c =
    let same : is_same (entry whole source_file tokens) tree ≡ true = ap (λ (f : Forest). is_same f tree) (files-read tokens tree c) ∙ same-self tree in
    absurd cc
