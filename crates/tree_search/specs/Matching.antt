-- Matches of a pattern.
use Rattle.std.specs.Prelude.{ℕ, ◌&&◌, ◌||◌, not, Bool, true, List, [], ◌∷◌, map, codes, Option, Some, None, if◌then◌else◌}
use Rattle.std.specs.Str.{bytes_eq}
use Rattle.syntax_tree.specs.declared.element.SyntaxElement.{SyntaxElement}
use Rattle.tree_patterns.specs.Patterns.{Shape, places}
use Rattle.tree_search.specs.Elements.{same_tokens}
use Rattle.tree_search.specs.Fit.{Bound, fit_element}

-- the names of metavariables, one for each place
abbrev pub Names : Type 0
Names = List (List ℕ)

abbrev pub names : Shape → Names
names p = map (λ l. l.text) (places p.tree)

-- two places have one name, which is not `_`
abbrev pub same_name : List ℕ → List ℕ → Bool
same_name n m = not (bytes_eq n (codes "_")) && bytes_eq m n

-- what a place stands for has the tokens of what later places of its name stand for
abbrev pub agrees : List ℕ → List SyntaxElement → Names → Bound → Bool
agrees n v [] bound = true
agrees n v (m ∷ ms) [] = true
agrees n v (m ∷ ms) (w ∷ ws) = (not (same_name n m) || same_tokens v w) && agrees n v ms ws

-- places of one name stand for equal tokens
abbrev pub all_agree : Names → Bound → Bool
all_agree [] bound = true
all_agree (n ∷ ns) [] = true
all_agree (n ∷ ns) (v ∷ vs) = agrees n v ns vs && all_agree ns vs

abbrev pub agreeing : Names → Option Bound → Option Bound
agreeing ns None = None
agreeing ns (Some bound) = if all_agree ns bound then Some bound else None

-- what the places of a pattern stand for if an element matches it: it fits the pattern's tree, and places of one name stand for
-- equal tokens
abbrev pub matched : Shape → SyntaxElement → Option Bound
matched p e = agreeing (names p) (fit_element p.tree.kind p.tree.forest e [])
