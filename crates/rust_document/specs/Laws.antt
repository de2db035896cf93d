-- What holds of every document.
use Rattle.std.specs.Prelude.{◌≡◌, ℕ, Bool, true, false, List, [], ◌∷◌, ◌++◌, take, drop, length, chars, encode_utf8_all, Some}
use Rattle.std.specs.Str.{IsUtf8}
use Rattle.rowan_green.specs.Leaf.{Leaf}
use Rattle.rowan_green.specs.Forest.{tree_text}
use Rattle.rowan_green.specs.declared.utility_types.NodeOrToken.TheVariants.{Token}
use Rattle.parser_input.specs.Input.{input}
use Rattle.parser_input.specs.declared.edition.Edition.{Edition}
use Rattle.rust_grammar.specs.Rule.{Production}
use Rattle.rust_grammar.specs.Laws.{is_entry}
use Rattle.ra_parser.specs.Grammars.{is_whole}
use Rattle.ra_parser.specs.declared.grammar.Grammar.{Grammar}
use Rattle.rowan.specs.Place.{Place, term_by, start_by}
use Rattle.rowan.specs.Pointer.{found_in}
use Rattle.syntax_tree.specs.Element.{Way}
use Rattle.rust_document.specs.Open.{IsOpened}
use Rattle.rust_document.specs.Reading.{leaves_in, messages_in, tree_by, tree_in}
use Rattle.rust_document.specs.Brackets.{are_token_trees_closed}
use Rattle.rust_document.specs.Operators.{are_operators_placed}
use Rattle.rust_document.specs.Shape.{kinds_of, kinds_from, dots}
use Rattle.rust_document.specs.Tokens.{tokens_of}
use Rattle.tree_rewrite.specs.Change.{Change}
use Rattle.tree_rewrite.specs.Orders.{same_gap_at}
use Rattle.syntax_editor.specs.Editing.{Editing, untouched, with_changes}
use Rattle.rust_document.specs.Rewrite.{rewritten}
use Rattle.rust_document.specs.Step.{State, present, root_element, verdict, Accepted}

-- the leaves of a text's tree, joined, are the text
abbrev pub TreesHaveTheirTexts : Type 0
TreesHaveTheirTexts = (grammar : Grammar) (edition : Edition) (text : List ℕ) → tree_text (tree_in grammar edition text) ≡ encode_utf8_all text

-- the text of a leaf is the slice of the document's text at the leaf's range
abbrev pub LeavesAreSlices : Type 0
LeavesAreSlices =
    (d : State) (way : Way) (l : Leaf) → IsUtf8 d.text → term_by (present d) way ≡ Some (Token l)
    → take (length l.text) (drop (start_by (present d) way) d.text) ≡ l.text

-- two documents have the same tokens, messages and tree
pub record Agree (d e : State) : Type 0 where
  pub tokens : tokens_of d.edition (chars d.text) ≡ tokens_of e.edition (chars e.text)
  pub told : messages_in d.grammar d.edition (chars d.text) ≡ messages_in e.grammar e.edition (chars e.text)
  pub trees : present d ≡ present e

-- Documents of equal edition, grammar and text agree, whatever commands made them.
abbrev pub TextsDecide : Type 0
TextsDecide = (d e : State) → d.edition ≡ e.edition → d.grammar ≡ e.grammar → d.text ≡ e.text → Agree d e

-- In documents of equal edition, grammar and text the first node that passes a test, as the one of a pointer's kind and range,
-- stands at the same place.
abbrev pub PointersFollowTexts : Type 0
PointersFollowTexts =
    (d e : State) (test : Place → Bool)
    → d.edition ≡ e.edition → d.grammar ≡ e.grammar → d.text ≡ e.text
    → found_in test (root_element d).place ≡ found_in test (root_element e).place

-- an editor of the present tree with nothing recorded is accepted, and the text stays
pub record IsKept (d : State) : Type 0 where
  pub accepted : verdict d (untouched (root_element d)) ≡ Accepted
  pub same_text : tree_text (rewritten (untouched (root_element d))) ≡ d.text

abbrev pub UntouchedIsKept : Type 0
UntouchedIsKept = (d : State) → IsUtf8 d.text → IsOpened d.text → IsKept d

-- Two texts with equal input, of whose floats those at equal places both hold a dot or both do not, have trees of equal kinds and
-- nesting, apart from whitespace and comments.
abbrev pub KindsFollowInputs : Type 0
KindsFollowInputs =
    (x : Production) (g h : Grammar) (first second : Edition) (a b : List ℕ)
    → is_entry x ≡ true
    → input (is_whole g) first (leaves_in first a) ≡ input (is_whole h) second (leaves_in second b)
    → dots (leaves_in first a) ≡ dots (leaves_in second b)
    → kinds_of (tree_by x g first a) ≡ kinds_of (tree_by x h second b)

-- In a document without messages each token tree begins with an opening bracket and ends with its partner.
abbrev pub TokenTreesAreClosed : Type 0
TokenTreesAreClosed =
    (grammar : Grammar) (edition : Edition) (text : List ℕ) → messages_in grammar edition text ≡ [] →
    are_token_trees_closed (kinds_from (tree_in grammar edition text)) ≡ true

-- In a document without messages each binary expression has operands that its operator's power allows.
abbrev pub OperatorsBindByPower : Type 0
OperatorsBindByPower =
    (grammar : Grammar) (edition : Edition) (text : List ℕ) → messages_in grammar edition text ≡ [] →
    are_operators_placed (kinds_from (tree_in grammar edition text)) ≡ true

-- two editors end alike: with one verdict, and where that is acceptance, in one tree, and so in one text
pub record CommitsAlike (d : State) (e f : Editing) : Type 0 where
  pub verdicts : verdict d e ≡ verdict d f
  pub trees : verdict d e ≡ Accepted → rewritten e ≡ rewritten f

-- Two neighbouring changes may be recorded in either order, unless both put into one gap.
abbrev pub SwapsAreOne : Type 0
SwapsAreOne = (d : State) (e : Editing) (before after : List Change) (one other : Change) → same_gap_at one other ≡ false
    → CommitsAlike d (with_changes e (before ++ one ∷ (other ∷ after))) (with_changes e (before ++ other ∷ (one ∷ after)))
