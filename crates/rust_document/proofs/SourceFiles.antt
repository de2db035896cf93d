-- The root of a document's tree is a source file.
use Rattle.std.proofs.Common.{◌≡◌, ℕ, false, List, refl, ap, ◌∙◌}
use Rattle.parser_input.specs.Kinds.{SOURCE_FILE}
use Rattle.parser_input.specs.Leaf.{Leaf}
use Rattle.parser_input.specs.Input.{Token, input}
use Rattle.parser_input.specs.declared.edition.Edition.{Edition}
use Rattle.parser_events.specs.Forest as forest
use Rattle.parser_events.specs.Dress.{open_node, close_node, root, dress_root}
use Rattle.rust_grammar.specs.Rule.{Rule, Node, source_file}
use Rattle.rust_grammar.specs.Meaning.{Reading, Calls, read, fresh, node, meaning, look_of}
use Rattle.rust_grammar.specs.Entry.{takes_all, entry}
use Rattle.rust_grammar.specs.Items.{items}
use Rattle.rust_grammar.specs.Whole.{rule, whole}
use Rattle.rust_grammar.proofs.WholeTable.{whole-means}
use Rattle.ra_parser.specs.Grammars.{is_whole}
use Rattle.ra_parser.specs.declared.grammar.Grammar.{Grammar}
use Rattle.rust_document.specs.Reading.{terms_of, root_of, leaves_in, dressed_by, tree_by, tree_in}

root-rule : (a : Rule) × (rule source_file ≡ Node SOURCE_FILE a)
unfolding rule items
root-rule = (_, refl)

from : List Token → Reading
from ts = record { given = forest.End; rest = ts }

node-read : (k : ℕ) (a : Rule) (call : Calls) (ts : List Token) → (read (look_of whole) call false (Node k a) (from ts)).given ≡ forest.Node k (read (look_of whole) call false a (fresh (from ts))).given forest.End
unfolding read node from
node-read k a call ts = refl

pub source-entry : (ts : List Token) → (c : forest.Forest) × (entry whole source_file ts ≡ forest.Node SOURCE_FILE c forest.End)
unfolding entry takes_all from
source-entry ts = (
  (read (look_of whole) (meaning whole) false root-rule.0 (fresh (from ts))).given,
  ap (λ (s : Reading). s.given) (whole-means source_file false (from ts))
      ∙ ap (λ (a : Rule). (read (look_of whole) (meaning whole) false a (from ts)).given) root-rule.1
      ∙ node-read SOURCE_FILE root-rule.0 (meaning whole) ts,
)

dressed-kind : (k : ℕ) (c : forest.Forest) (ls : List Leaf) → (root_of (terms_of (dress_root (forest.Node k c forest.End) ls))).kind ≡ k
unfolding dress_root root close_node open_node
dressed-kind k c ls = refl

pub document-root : (grammar : Grammar) (edition : Edition) (text : List ℕ) → (tree_in grammar edition text).kind ≡ SOURCE_FILE
unfolding tree_by dressed_by
document-root grammar edition text =
    let ls = leaves_in edition text in
    let own = source-entry (input (is_whole grammar) edition ls) in
    ap (λ (f : forest.Forest). (root_of (terms_of (dress_root f ls))).kind) own.1 ∙ dressed-kind SOURCE_FILE own.0 ls
