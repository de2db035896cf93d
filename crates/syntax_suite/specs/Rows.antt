-- Rewrites worked by hand. Texts stand for leaves.
use Rattle.std.specs.Prelude.{◌≡◌, ℕ, List, [], ◌∷◌, ◌++◌, reverse, map, codes, Bool, true, false}
use Rattle.std.specs.List.{filter}
use Rattle.rowan_green.specs.Forest.{Forest, empty, node, leaf, Tree, forest_text}
use Rattle.syntax_tree.specs.Element.{Way, Element, element_at}
use Rattle.tree_rewrite.specs.Change.{Change, insert, replace, has_collision}
use Rattle.syntax_tree.specs.Mapping.{Mapping}
use Rattle.tree_rewrite.specs.Marked.{forest_in, origins, changed}
use Rattle.tree_rewrite.specs.Rewrite.{Job, jobs, or_no_jobs, rewrite, is_placeable}
use Rattle.tree_rewrite.specs.Orders.{is_order, put_in_order}

-- kinds of nodes
abbrev pub ARG_LIST : ℕ
ARG_LIST = 1

abbrev pub LITERAL : ℕ
LITERAL = 2

abbrev pub X : ℕ
X = 3

abbrev pub Y : ℕ
Y = 4

abbrev pub W : ℕ
W = 5

abbrev pub ROOT : ℕ
ROOT = 6

abbrev pub TOMBSTONE : ℕ
TOMBSTONE = 0

-- a leaf, and the trees after it
abbrev pub text : List ℕ → Forest → Forest
text s r = leaf (record { kind = 7; text = s }) r

abbrev pub tree : ℕ → Forest → Tree
tree k f = record { kind = k; forest = f }

abbrev pub root : ℕ → ℕ → Forest → Element
root n k f = element_at n (tree k f) []

-- a token of a new tree
abbrev pub detached : ℕ → List ℕ → Element
detached n s = element_at n (tree TOMBSTONE (text s empty)) (0 ∷ [])

-- the text of the tree after the changes
abbrev pub text_after : Element → List Change → Mapping → List ℕ
text_after e cs ms = forest_text (forest_in (rewrite e cs ms))

-- one element, named alone, is replaced by another; a list replaces nothing
abbrev pub by : Way → Element → Change
by w e = replace w 0 (e ∷ []) true

-- ---- two literals in an argument list

abbrev pub arguments : Element
arguments = root 1 ARG_LIST (text (codes "(") (node LITERAL (text (codes "1") empty) (text (codes ",") (text (codes " ") (node LITERAL (text (codes "2") empty) (text (codes ")") empty))))))

abbrev pub three : Element
three = root 2 LITERAL (text (codes "3") empty)

abbrev pub underscore : Element
underscore = detached 3 (codes "_")

abbrev pub unit : Element
unit = root 4 X (text (codes "()") empty)

abbrev pub both_by : Element → List Change
both_by e = by (1 ∷ []) e ∷ by (4 ∷ []) e ∷ []

abbrev pub unit_before_each : List Change
unit_before_each = insert [] 1 (unit ∷ []) ∷ insert [] 4 (unit ∷ []) ∷ []

-- ---- a node that is wrapped, and a token that is inserted into it

abbrev pub one_node : Element
one_node = root 1 ROOT (node X (text (codes "a") empty) empty)

abbrev pub wrapped : Tree
wrapped = tree W (text (codes "(") (node X (text (codes "a") empty) (text (codes ")") empty)))

-- the inner node of the payload stands for the node at a way
abbrev pub mapped : Element → Way → Mapping
mapped e w = (element_at 1 e.place.root w, element_at 2 wrapped (1 ∷ [])) ∷ []

abbrev pub token_b : Element
token_b = detached 3 (codes "b")

abbrev pub wrap_and_insert : List Change
wrap_and_insert = by (0 ∷ []) (element_at 2 wrapped []) ∷ insert (0 ∷ []) 0 (token_b ∷ []) ∷ []

abbrev pub two_in_one_gap : List Change
two_in_one_gap = insert (0 ∷ []) 0 (detached 3 (codes "A") ∷ []) ∷ insert (0 ∷ []) 0 (detached 4 (codes "B") ∷ []) ∷ []

abbrev pub list_in_one_gap : List Change
list_in_one_gap = insert (0 ∷ []) 0 (detached 3 (codes "A") ∷ detached 4 (codes "B") ∷ []) ∷ []

-- ---- a node that is wrapped, next to a node that is deleted

abbrev pub two_nodes : Element
two_nodes = root 1 ROOT (node Y (text (codes "y") empty) (node X (text (codes "a") empty) empty))

abbrev pub three_changes : List Change
three_changes = replace (0 ∷ []) 0 [] true ∷ by (1 ∷ []) (element_at 2 wrapped []) ∷ insert (1 ∷ []) 0 (token_b ∷ []) ∷ []

abbrev pub three_jobs : List Job
three_jobs = or_no_jobs (jobs two_nodes three_changes (mapped two_nodes (1 ∷ [])))

abbrev pub six : List (List ℕ)
six = (0 ∷ 1 ∷ 2 ∷ []) ∷ (0 ∷ 2 ∷ 1 ∷ []) ∷ (1 ∷ 0 ∷ 2 ∷ []) ∷ (1 ∷ 2 ∷ 0 ∷ []) ∷ (2 ∷ 0 ∷ 1 ∷ []) ∷ (2 ∷ 1 ∷ 0 ∷ []) ∷ []

abbrev pub text_in_order : List ℕ → List ℕ
text_in_order os = forest_text (forest_in (put_in_order two_nodes three_jobs os))

abbrev pub gap_jobs : List Job
gap_jobs = or_no_jobs (jobs one_node two_in_one_gap [])

-- ---- an insert at the border of what is deleted, and one inside

abbrev pub border_changes : List Change
border_changes = replace (0 ∷ []) 1 [] false ∷ insert [] 2 (token_b ∷ []) ∷ insert [] 1 (underscore ∷ []) ∷ []

pub record Rows : Type 0 where
  pub literals : text_after arguments (both_by three) [] ≡ codes "(3, 3)"
  pub literals_changed : changed (rewrite arguments (both_by three) []) ≡ (1 ∷ []) ∷ (4 ∷ []) ∷ []
  pub tokens : text_after arguments (both_by underscore) [] ≡ codes "(_, _)"
  pub units : text_after arguments unit_before_each [] ≡ codes "(()1, ()2)"
  pub wrap : text_after one_node wrap_and_insert (mapped one_node (0 ∷ [])) ≡ codes "(ba)"
  pub wrap_changed : changed (rewrite one_node wrap_and_insert (mapped one_node (0 ∷ []))) ≡ (0 ∷ []) ∷ []
  pub wrap_numbers : map (λ e. e.number) (origins (rewrite one_node wrap_and_insert (mapped one_node (0 ∷ [])))) ≡ 1 ∷ 2 ∷ 2 ∷ 2 ∷ 3 ∷ 2 ∷ 2 ∷ []
  pub unmapped : is_placeable one_node wrap_and_insert [] ≡ false
  pub placeable : is_placeable one_node wrap_and_insert (mapped one_node (0 ∷ [])) ≡ true
  pub one_gap : text_after one_node two_in_one_gap [] ≡ codes "BAa"
  pub one_list : text_after one_node list_in_one_gap [] ≡ codes "ABa"
  pub collision : has_collision (both_by three ++ both_by underscore) ≡ true
  pub admitted : filter (is_order three_jobs) six ≡ (0 ∷ 2 ∷ 1 ∷ []) ∷ (2 ∷ 0 ∷ 1 ∷ []) ∷ (2 ∷ 1 ∷ 0 ∷ []) ∷ []
  pub ends_alike : map text_in_order (filter (is_order three_jobs) six) ≡ codes "(ba)" ∷ codes "(ba)" ∷ codes "(ba)" ∷ []
  pub nested_late : text_in_order (0 ∷ 1 ∷ 2 ∷ []) ≡ codes "(a)"
  pub recorded_order : filter (is_order gap_jobs) ((0 ∷ 1 ∷ []) ∷ (1 ∷ 0 ∷ []) ∷ []) ≡ (0 ∷ 1 ∷ []) ∷ []
  pub border : text_after two_nodes border_changes [] ≡ codes "b"
