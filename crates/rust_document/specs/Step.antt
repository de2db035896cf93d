-- What a command makes of a document.
use Rattle.std.specs.Prelude.{ℕ, ◌==◌, Bool, not, ◌||◌, nat_lt, List, [], ◌∷◌, length, chars, Option, option_map, is_none}
use Rattle.rustc_lexer.specs.Rows.{row, first_fit}
use Rattle.rowan_green.specs.Forest.{Tree, tree_text, same_tree}
use Rattle.parser_input.specs.declared.edition.Edition.{Edition}
use Rattle.ra_parser.specs.declared.grammar.Grammar.{Grammar}
use Rattle.syntax_tree.specs.Element.{Element, element_at}
use Rattle.syntax_tree.specs.Handle.{element_of}
use Rattle.syntax_tree.specs.Search.{first_of}
use Rattle.rust_document.specs.Reading.{tree_in}
use Rattle.tree_rewrite.specs.Change.{has_collision}
use Rattle.tree_rewrite.specs.Fits.{new_fits}
use Rattle.tree_rewrite.specs.Rewrite.{jobs}
use Rattle.syntax_editor.specs.Editing.{Editing}
use Rattle.syntax_editor.specs.Rewriting.{rewriting}
use Rattle.rust_document.specs.Rewrite.{rewritten, bare}

-- what contracts see of a document: the edition and the grammar that the text is read by, the bytes of the text, and the number of
-- the present tree. Tokens, messages and tree are the reading of that text, and no part of it.
pub record State : Type 0 where
  pub edition : Edition
  pub grammar : Grammar
  pub text : List ℕ
  pub number : ℕ

-- the most bytes that a text may have
abbrev pub MAX_TEXT : ℕ
MAX_TEXT = 16777216

-- the present tree
abbrev pub present : State → Tree
present d = tree_in d.grammar d.edition (chars d.text)

-- its root, as it is handed out
abbrev pub root_element : State → Element
root_element d = element_at d.number (present d) []

-- the first element in preorder of a kind and a range of bytes, as it is handed out
abbrev pub first_element : State → ℕ → ℕ → ℕ → Option Element
first_element d kind start end = option_map element_of (first_of kind start end (root_element d))

-- a tree without whitespace and comments
abbrev pub bare_tree : Tree → Tree
bare_tree t = record { kind = t.kind; forest = bare t.forest }

-- Without whitespace and comments the tree is that of the reading of its own text.
abbrev pub is_faithful : Grammar → Edition → Tree → Bool
is_faithful grammar edition t = same_tree (bare_tree t) (bare_tree (tree_in grammar edition (chars (tree_text t))))

pub data Verdict : Type 0 where
  Foreign : Verdict
  Intersecting : Verdict
  MissingMapping : Verdict
  TooLong : Verdict
  Unfaithful : Verdict
  Accepted : Verdict

-- an editor of another tree than the present one, by number or by what it holds
abbrev pub is_foreign : State → Editing → Bool
is_foreign d e = not (e.top.number == d.number) || not (same_tree e.top.place.root (present d))

-- the text of the rewritten tree passes the limit, or a node that is new in it may not have its children
abbrev pub is_too_long : Editing → Bool
is_too_long e = nat_lt MAX_TEXT (length (tree_text (rewritten e))) || not (new_fits (rewriting e))

-- The verdict on an editor's changes: the first case that fits.
abbrev pub verdict : State → Editing → Verdict
verdict d e =
    first_fit
    (row (is_foreign d e) Foreign
    ∷ row (has_collision e.changes) Intersecting
    ∷ row (is_none (jobs e.top e.changes e.mapping)) MissingMapping
    ∷ row (is_too_long e) TooLong
    ∷ row (not (is_faithful d.grammar d.edition (rewritten e))) Unfaithful
    ∷ [])
    Accepted
