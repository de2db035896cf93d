-- Size limits of the nodes of a rewritten tree, and the errors of a rewrite.
use Rattle.std.specs.Prelude.{◌≡◌, ℕ, ◌^◌, Option, Some, List, length, codes, Bool, true, false, ◌&&◌, ◌||◌, nat_lt}
use Rattle.rowan_green.specs.Forest.{Tree, node, empty, same_tree}
use Rattle.rowan_green.specs.Term.{Term, terms, texts_of}
use Rattle.rowan_green.specs.declared.utility_types.NodeOrToken.TheVariants.{Node}
use Rattle.syntax_tree.specs.Element.{term_of}
use Rattle.tree_rewrite.specs.Marked.{Marked, nothing, inner, token, forest_in}
use Rattle.tree_rewrite.specs.declared.error.ExecuteError.{ExecuteError}
use Rattle.tree_rewrite.specs.declared.error.ExecuteError.TheVariants.{TooLong, NoMemory}

-- a node can have these children
abbrev pub fits_node : List Term → Bool
fits_node es = nat_lt (length es) (2 ^ 32) && nat_lt (length (texts_of es)) (2 ^ 32)

-- the term is this tree
abbrev pub is_tree : Option Term → Tree → Bool
is_tree (Some (Node t)) u = same_tree t u
is_tree _ u = false

-- each node of the list that differs from its origin can have its children; all other nodes already have them
abbrev pub new_fits : Marked → Bool
new_fits nothing = true
new_fits (inner m k f r) =
    (is_tree (term_of m.origin) (record { kind = k; forest = forest_in f }) || fits_node (terms (forest_in f))) && (new_fits f && new_fits r)
new_fits (token m l r) = new_fits r

-- the list is this single node
abbrev pub IsNode : Marked → Tree → Type 0
IsNode m t = forest_in m ≡ node t.kind t.forest empty

-- `TooLong` only if a node cannot have its children; `NoMemory` at any point
abbrev pub RefusesRewrite : Marked → ExecuteError → Type 0
RefusesRewrite m TooLong = new_fits m ≡ false
RefusesRewrite m NoMemory = Unit {0}

abbrev pub execute_message : ExecuteError → List ℕ
execute_message TooLong = codes "too long"
execute_message NoMemory = codes "out of memory"
