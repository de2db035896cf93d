-- What is printed of the matches of a pattern: a row each.
use Rattle.std.specs.Prelude.{◌≡◌, ℕ, ◌+◌, ◌==◌, List, [], ◌∷◌, ◌++◌, codes, length}
use Rattle.std.specs.List.{flat_map, before_first}
use Rattle.std.specs.Fmt.{decimal}
use Rattle.line_index.specs.declared.encoding.Encoding.TheVariants.{Utf32}
use Rattle.line_index.specs.declared.line_col.LineCol.{LineCol}
use Rattle.line_index.specs.Columns.{line_col}
use Rattle.rowan.specs.Place.{text_at, start_of}
use Rattle.syntax_tree.specs.Handle.{element_of}
use Rattle.syntax_tree.specs.declared.element.SyntaxElement.{SyntaxElement}
use Rattle.syntax_tree.specs.declared.element.SyntaxElement.TheVariants.{Node}
use Rattle.rust_document.specs.Step.{State, root_element}
use Rattle.tree_patterns.specs.Patterns.{Shape}
use Rattle.tree_search.specs.Search.{AreMatches, Found}

abbrev pub element_text : SyntaxElement → List ℕ
element_text e = text_at (element_of e).place

-- the text before the first line feed, or all of it
abbrev pub first_line : List ℕ → List ℕ
first_line text = before_first (λ b. b == 10) text

-- path, line and column, both counted from 1, and a text
abbrev pub row : List ℕ → LineCol → List ℕ → List ℕ
row path place text =
    path ++ (codes ":" ++ (decimal (place.line + 1) ++ (codes ":" ++ (decimal (place.col + 1) ++ (codes ": " ++ (text ++ codes "\n"))))))

-- the row of a match in a text
abbrev pub match_row : List ℕ → List ℕ → Found → List ℕ
match_row path text m = row path (line_col Utf32 text (start_of (element_of m.element).place)) (first_line (element_text m.element))

-- These rows behind the old ones are those of the matches of a pattern in a document, as many as there are.
pub record AreRows (path : List ℕ) (d : State) (p : Shape) (old new : List ℕ) (count : ℕ) : Type 0 where
  pub matches : List Found
  pub found : AreMatches p (Node (root_element d) ∷ []) matches
  pub rows : new ≡ old ++ flat_map (match_row path d.text) matches
  pub counted : count ≡ length matches
