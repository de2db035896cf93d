-- Laws of indented and dedented texts.
use Rattle.std.specs.Prelude.{◌≡◌, ℕ, zero, suc, ◌-◌, List, [], ◌∷◌, ◌++◌, length, nat_eq, if◌then◌else◌}
use Rattle.std.specs.List.{starts_with}
use Rattle.syntax_editor.specs.Indent.{line_feed, spaces}
use Rattle.tree_indent.specs.Shifted.{set_out}

-- Each occurrence of `find` is replaced by `put`, from left to right; `left` is the number of characters of the last one that are still skipped.
abbrev pub replaced : (find put : List ℕ) → ℕ → List ℕ → List ℕ
replaced find put left [] = []
replaced find put (suc left) (c ∷ cs) = replaced find put left cs
replaced find put zero (c ∷ cs) =
    if starts_with nat_eq (c ∷ cs) find then put ++ replaced find put (length find - 1) cs else (c ∷ replaced find put zero cs)

-- dedenting replaces each line feed with the spaces of the level after it by a line feed, from left to right
abbrev pub DedentingReplaces : Type 0
DedentingReplaces = (n : ℕ) (text : List ℕ) → set_out n text ≡ replaced (line_feed ∷ spaces n) (line_feed ∷ []) 0 text
