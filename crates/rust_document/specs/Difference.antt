-- The first difference between a rewritten tree and the reading of its text, trivia aside.
use Rattle.std.specs.Prelude.{◌≡◌, ℕ, ◌+◌, ◌<◌, ◌≤◌, true, false, nat_eq, List, length, chars, Option, None, Some, option_map, if◌then◌else◌}
use Rattle.rowan_green.specs.Leaf.{Leaf, same_leaf}
use Rattle.rowan_green.specs.Forest.{Forest, empty, node, leaf, Tree, forest_text, forest_count, tree_text}
use Rattle.rowan_green.specs.Term.{Term, forest_of, term_count, term_len, texts_of}
use Rattle.rowan_green.specs.declared.utility_types.NodeOrToken.TheVariants.{Node, Token}
use Rattle.parser_input.specs.declared.edition.Edition.{Edition}
use Rattle.parser_input.specs.declared.syntax_kind.SyntaxKind.{SyntaxKind}
use Rattle.syntax_tree.specs.Language.{kind_of_raw}
use Rattle.syntax_tree.specs.Mapping.{or_else}
use Rattle.syntax_editor.specs.Editing.{Editing}
use Rattle.syntax_editor.specs.Rewriting.{IsIntersecting, IsPlaceable, MissesMapping}
use Rattle.ra_parser.specs.declared.grammar.Grammar.{Grammar}
use Rattle.rust_document.specs.Bare.{is_left_out}
use Rattle.rust_document.specs.Reading.{tree_in}
use Rattle.rust_document.specs.Rewrite.{rewritten}
use Rattle.rust_document.specs.Step.{MAX_TEXT, Verdict, is_too_long}
use Rattle.rust_document.specs.Step as step
use Rattle.rust_document.specs.declared.difference.Apart.{Apart}
use Rattle.rust_document.specs.declared.difference.Difference.{Difference}
use Rattle.rust_document.specs.declared.error.CommitError.{CommitError}
use Rattle.rust_document.specs.declared.error.CommitError.TheVariants.{Foreign, Intersecting, MissingMapping, TooLong, Unfaithful, NoTreeNumber, NoMemory}

-- The elements of a forest, each with its range of bytes: none; a node with its kind, its start and end, its children and what follows it; a leaf with its start and end, and what follows it.
pub data Placed : Type 0 where
  nothing : Placed
  node_at : ℕ → ℕ → ℕ → Placed → Placed → Placed
  leaf_at : Leaf → ℕ → ℕ → Placed → Placed

-- the elements of a forest that starts at an offset, without trivia
abbrev pub placed : ℕ → Forest → Placed
placed at empty = nothing
placed at (node k f r) =
    let end = at + length (forest_text f) in node_at k at end (placed at f) (placed end r)
placed at (leaf l r) =
    let end = at + length l.text in
    let rest = placed end r in
    if is_left_out (Token l) then rest else leaf_at l at end rest

-- a tree that is a whole text
abbrev pub placed_tree : Tree → Placed
placed_tree t = placed 0 (node t.kind t.forest empty)

-- the kind of the first element, if there is one
abbrev pub first_kind : Placed → Option ℕ
first_kind nothing = None
first_kind (node_at k start end f r) = Some k
first_kind (leaf_at l start end r) = Some l.kind

-- the start of the first element of the first list, or of the second where the first has none
abbrev pub start_at : Placed → Placed → ℕ
start_at nothing nothing = 0
start_at nothing (node_at k start end f r) = start
start_at nothing (leaf_at l start end r) = start
start_at (node_at k start end f r) q = start
start_at (leaf_at l start end r) q = start

-- the end of that element
abbrev pub end_at : Placed → Placed → ℕ
end_at nothing nothing = 0
end_at nothing (node_at k start end f r) = end
end_at nothing (leaf_at l start end r) = end
end_at (node_at k start end f r) q = end
end_at (leaf_at l start end r) q = end

-- both lists differ in their first elements
abbrev pub apart_at : Placed → Placed → Apart
apart_at p q =
    record { start = start_at p q; end = end_at p q; wanted = first_kind p; read = first_kind q }

-- The first difference in preorder: elements one by one, of nodes with one kind first their children. Leaves are compared by kind and text.
abbrev pub first_apart : Placed → Placed → Option Apart
first_apart nothing nothing = None
first_apart (node_at k i j f r) (node_at l m n g s) =
    if nat_eq k l then or_else (first_apart f g) (first_apart r s)
    else Some (apart_at (node_at k i j f r) (node_at l m n g s))
first_apart (leaf_at a i j r) (leaf_at b m n s) =
    if same_leaf a b then first_apart r s
    else Some (apart_at (leaf_at a i j r) (leaf_at b m n s))
first_apart nothing (node_at l m n g s) = Some (apart_at nothing (node_at l m n g s))
first_apart nothing (leaf_at b m n s) = Some (apart_at nothing (leaf_at b m n s))
first_apart (node_at k i j f r) nothing = Some (apart_at (node_at k i j f r) nothing)
first_apart (node_at k i j f r) (leaf_at b m n s) = Some (apart_at (node_at k i j f r) (leaf_at b m n s))
first_apart (leaf_at a i j r) nothing = Some (apart_at (leaf_at a i j r) nothing)
first_apart (leaf_at a i j r) (node_at l m n g s) = Some (apart_at (leaf_at a i j r) (node_at l m n g s))

-- the first difference between two trees
abbrev pub tree_apart : Tree → Tree → Option Apart
tree_apart t u = first_apart (placed_tree t) (placed_tree u)

-- a list of elements begins with this one, and has the others after it
abbrev pub BeginsWith : Placed → Term → ℕ → ℕ → Placed → Type 0
BeginsWith p (Node t) start end rest = p ≡ node_at t.kind start end (placed start t.forest) rest
BeginsWith p (Token l) start end rest = p ≡ leaf_at l start end rest

-- of the children `old` at an offset, the first that is no trivia is `e`, and `new` are those after it, at its end
pub record Finds (at : ℕ) (old : List Term) (e : Term) (start end : ℕ) (new : List Term) : Type 0 where
  pub begins : BeginsWith (placed at (forest_of old)) e start end (placed end (forest_of new))
  pub ends : start + term_len e ≡ end
  pub left : end + length (texts_of new) ≡ at + length (texts_of old)
  pub fewer : term_count e + forest_count (forest_of new) ≤ forest_count (forest_of old)

-- a difference by its range and kinds; a raw number that is no kind's reads as an error
abbrev pub Told : Type 0
Told = (ℕ × ℕ) × (Option SyntaxKind × Option SyntaxKind)

abbrev pub told : Apart → Told
told a = ((a.start, a.end), (option_map kind_of_raw a.wanted, option_map kind_of_raw a.read))

-- those of a difference that is handed out
abbrev pub told_of : Difference → Told
told_of d = ((d.range.start.0, d.range.end.0), (d.wanted, d.read))

-- the first difference between a tree and the reading of its own text
abbrev pub difference : Grammar → Edition → Tree → Option Told
difference grammar edition t = option_map told (tree_apart t (tree_in grammar edition (chars (tree_text t))))

-- the changes have places, the rewritten tree is within the limits, and this is its first difference from its reading
pub record IsDifference (grammar : Grammar) (edition : Edition) (e : Editing) (r : Option Difference) : Type 0 where
  pub placeable : IsPlaceable e
  pub within : is_too_long e ≡ false
  pub told_is : option_map told_of r ≡ difference grammar edition (rewritten e)

-- when a tree is not compared with its reading: its text is past the limit; out of memory at any point
abbrev pub LacksReading : Tree → CommitError → Type 0
LacksReading t TooLong = MAX_TEXT < length (tree_text t)
LacksReading t NoMemory = Unit {0}
LacksReading t error = ⊥

-- when an editor's changes are not: the first case that fits; out of memory at any point
abbrev pub LacksDifference : Editing → CommitError → Type 0
LacksDifference e Intersecting = IsIntersecting e
LacksDifference e MissingMapping = MissesMapping e
LacksDifference e TooLong = IsPlaceable e × (is_too_long e ≡ true)
LacksDifference e NoMemory = Unit {0}
LacksDifference e error = ⊥

-- When no answer is given: as of a commit, but never because the trees differ or no tree number is left.
abbrev pub RefusesDifference : Verdict → CommitError → Type 0
RefusesDifference v Foreign = v ≡ step.Foreign
RefusesDifference v Intersecting = v ≡ step.Intersecting
RefusesDifference v MissingMapping = v ≡ step.MissingMapping
RefusesDifference v TooLong = v ≡ step.TooLong
RefusesDifference v Unfaithful = ⊥
RefusesDifference v NoTreeNumber = ⊥
RefusesDifference v NoMemory = Unit {0}
