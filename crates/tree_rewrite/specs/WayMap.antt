-- A map from up-paths to numbers. Model of the code; only proofs use it.
use Rattle.std.specs.Prelude.{ℕ, Option, Vec}
use Rattle.std.specs.HashMap.{get_by, HashMap}
use Rattle.syntax_tree.specs.Element.{Way, same_way}

-- the number of an up-path, if any
abbrev pub number_at : {Z S : Type 0} → HashMap (Vec ℕ Z) ℕ S → Way → Option ℕ
number_at m w = get_by (λ k. same_way w k.items) m
