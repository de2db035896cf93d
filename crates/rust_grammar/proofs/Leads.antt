-- Trees that stand first in the one that follows them.
use Rattle.std.proofs.Common.{◌≡◌, ℕ, Bool, refl}
use Rattle.parser_input.specs.Kinds.{ERROR}
use Rattle.parser_events.specs.Forest as forest
use Rattle.parser_events.specs.Forest.{Forest, ◌then◌}
use Rattle.rust_grammar.specs.Meaning.{into}

-- What holds of trees in a node, in a float and in an error holds of them where they are led.
pub into-cases :
    (P : Forest → Type 0) (g f : Forest)
    → ((k : ℕ) (c : Forest) → f ≡ forest.Node k c forest.End → P (forest.Node k (g then c) forest.End))
    → ((e : Bool) (c : Forest) → f ≡ forest.Float e c forest.End → P (forest.Float e (g then c) forest.End))
    → P (forest.Node ERROR (g then f) forest.End)
    → P (into g f)
unfolding into
into-cases P g (forest.Node k c forest.End) node float other = node k c refl
into-cases P g (forest.Float e c forest.End) node float other = float e c refl
into-cases P g f node float other = other
