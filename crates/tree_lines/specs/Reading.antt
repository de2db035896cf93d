-- What a text is read as.
use Rattle.std.specs.Prelude.{◌≡◌, ℕ, Bool, List, map}
use Rattle.parser_input.specs.Lexed.{lexed, leaves_of}
use Rattle.parser_input.specs.declared.edition.Edition.{Edition}
use Rattle.parser_events.specs.Dress.{dress_root}
use Rattle.parser_events.specs.Dressed.{Dressed, sayings_of}
use Rattle.rust_grammar.specs.Laws.{entry_of}
use Rattle.rust_grammar.specs.Rule.{Production}
use Rattle.tree_lines.specs.Elements.{elements}
use Rattle.tree_lines.specs.Listed.{element_of, saying_of}
use Rattle.tree_lines.specs.declared.rows.Row.{Row}
use Rattle.tree_lines.specs.declared.rows.Said.{Said}

-- the tree of a text that is asked to be this, with the text, by the grammar of the whole language or by the profile
unfoldable pub tree_of : (whole : Bool) → Production → Edition → List ℕ → Dressed
tree_of whole asked edition text =
    let leaves = leaves_of (lexed edition text) in
    dress_root (entry_of asked whole edition leaves) leaves

-- The rows are the elements of the tree, and the messages those that stand in it.
pub record IsTreeOf (tree : Dressed) (rows : List Row) (said : List Said) : Type 0 where
  pub elements_are : map element_of rows ≡ elements 0 0 tree
  pub sayings_are : map saying_of said ≡ sayings_of tree
