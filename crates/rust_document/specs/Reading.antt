-- The reading of a text by an edition and a grammar: its leaves, its messages and its tree. No earlier text and no command enters.
use Rattle.std.specs.Prelude.{ℕ, ◌+◌, List, [], ◌∷◌, ◌++◌, map, Option, None, Some, encode_utf8_all}
use Rattle.rustc_lexer.specs.Characters.{size}
use Rattle.rowan_green.specs.Forest.{Forest, empty, node, leaf, Tree}
use Rattle.parser_input.specs.Kinds.{ERROR}
use Rattle.parser_input.specs.Leaf.{Leaf}
use Rattle.parser_input.specs.Lexed.{Lexed, content, cut, lexed, leaves_of}
use Rattle.parser_input.specs.Messages.{wording}
use Rattle.parser_input.specs.Stored.{leaf_at, offset}
use Rattle.parser_input.specs.declared.message.Message as leaves
use Rattle.parser_input.specs.Input.{input}
use Rattle.parser_input.specs.declared.edition.Edition.{Edition}
use Rattle.parser_events.specs.Forest as forest
use Rattle.parser_events.specs.Dressed as dressed
use Rattle.parser_events.specs.Dressed.{Dressed, Saying, sayings_of}
use Rattle.parser_events.specs.Dress.{dress_root}
use Rattle.rust_grammar.specs.Entry.{entry}
use Rattle.rust_grammar.specs.Rule.{Production, source_file}
use Rattle.rust_grammar.specs.Whole.{whole}
use Rattle.ra_parser.specs.Grammars.{is_whole}
use Rattle.ra_parser.specs.declared.grammar.Grammar.{Grammar}
use Rattle.ra_parser.specs.declared.grammar.Grammar.TheVariants.{Profile}

-- the leaves of a text, preface and all
abbrev pub leaves_in : Edition → List ℕ → List Leaf
leaves_in edition text = leaves_of (lexed edition text)

-- those after the preface
abbrev pub after_preface : Edition → List ℕ → List Lexed
after_preface edition text = cut edition 0 (content text)

-- dressed elements as terms: texts in bytes, and no messages
abbrev pub terms_of : Dressed → Forest
terms_of dressed.End = empty
terms_of (dressed.Leaf kind text d) = leaf (record { kind = kind; text = encode_utf8_all text }) (terms_of d)
terms_of (dressed.Said message place d) = terms_of d
terms_of (dressed.Node kind children d) = node kind (terms_of children) (terms_of d)

-- the node that a forest begins with; other forests come from no entry
abbrev pub root_of : Forest → Tree
root_of (node k f r) = record { kind = k; forest = f }
root_of f = record { kind = ERROR; forest = f }

-- what an entry reads of leaves by a grammar, as trees of the parser
abbrev pub forest_by : Production → Grammar → Edition → List Leaf → forest.Forest
forest_by x grammar edition ls = entry whole x (input (is_whole grammar) edition ls)

-- the trees of an entry, dressed with these leaves
unfoldable pub dressed_by : Production → Grammar → Edition → List Leaf → Dressed
dressed_by x grammar edition ls = dress_root (forest_by x grammar edition ls) ls

-- the tree of a text that is read by an entry
unfoldable pub tree_by : Production → Grammar → Edition → List ℕ → Tree
tree_by x grammar edition text = root_of (terms_of (dressed_by x grammar edition (leaves_in edition text)))

-- the tree of a text, which is read as a source file
abbrev pub tree_in : Grammar → Edition → List ℕ → Tree
tree_in = tree_by source_file

-- the tree of a source file by the profile
abbrev pub tree : Edition → List ℕ → Tree
tree = tree_in Profile

-- what is wrong at a place: by the grammar, or with a leaf, in words
pub data Fault : Type 0 where
  OfGrammar : forest.Message → Fault
  OfLeaf : List ℕ → Fault

-- a message: its place in bytes, and what it says
abbrev pub Message : Type 0
Message = ℕ × Fault

-- a message of the parser
abbrev pub of_grammar : Saying → Message
of_grammar s = (s.place, OfGrammar s.message)

-- the message of the lexer about a leaf, if any; its place is the start of the leaf
abbrev pub of_leaf : ℕ → Option leaves.Message → List Message
of_leaf place None = []
of_leaf place (Some m) = (place, OfLeaf (wording m)) ∷ []

-- the message of the lexer about the leaf of a number
abbrev pub of_leaf_at : List Lexed → ℕ → List Message
of_leaf_at ls i = of_leaf (offset ls i) (leaf_at ls i).message

-- the messages of the lexer about leaves that stand side by side from a place on
abbrev pub of_leaves : ℕ → List Lexed → List Message
of_leaves place [] = []
of_leaves place (l ∷ ls) = of_leaf place l.message ++ of_leaves (place + size l.leaf.text) ls

-- the messages of a text that is read by an entry: the parser's in the order of its steps, then the lexer's in the order of
-- the leaves
unfoldable pub messages_by : Production → Grammar → Edition → List ℕ → List Message
messages_by x grammar edition text =
    map of_grammar (sayings_of (dressed_by x grammar edition (leaves_in edition text))) ++ of_leaves 0 (lexed edition text)

-- the messages of a text, which is read as a source file
abbrev pub messages_in : Grammar → Edition → List ℕ → List Message
messages_in = messages_by source_file

-- the messages of a source file by the profile
abbrev pub messages : Edition → List ℕ → List Message
messages = messages_in Profile
