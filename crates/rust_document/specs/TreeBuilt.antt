-- The tree and the messages that a parser's steps and the leaves of a text make.
use Rattle.std.specs.Prelude.{◌≡◌, ◌<◌, ◌≤◌, ◌^◌, true, List, length, map, encode_utf8_all}
use Rattle.rowan_green.specs.Forest.{Tree}
use Rattle.parser_input.specs.Leaf.{Leaf}
use Rattle.parser_events.specs.Dress.{dress_root, joined}
use Rattle.parser_events.specs.Dressed.{sayings_of}
use Rattle.parser_events.specs.Fits.{fits, IsRooted}
use Rattle.parser_events.specs.Forest.{Forest}
use Rattle.parser_events.specs.Steps.{Step, steps}
use Rattle.parser_events.specs.TextSteps.{text_steps}
use Rattle.rust_document.specs.Seen.{message_of_error}
use Rattle.rust_document.specs.Reading.{root_of, terms_of, of_grammar}
use Rattle.rust_document.specs.declared.syntax_error.SyntaxError.{SyntaxError}

-- the steps are those of one node, and fit the leaves
pub record AreStepsOf (ss : List Step) (ls : List Leaf) (forest : Forest) : Type 0 where
  pub are : ss ≡ steps forest
  pub rooted : IsRooted forest
  pub fit : fits (steps forest) ls ≡ true

-- they are those of one node, whose text has at most 16,777,216 bytes
pub record IsTreeOf (ss : List Step) (ls : List Leaf) : Type 0 where
  pub forest : Forest
  pub steps_of : AreStepsOf ss ls forest
  pub bytes : length (encode_utf8_all (joined ls)) ≤ 16777216
  pub few : length (text_steps (dress_root forest ls)) < 2 ^ 32

-- The messages are those that stand in the node of these steps, dressed with the leaves.
abbrev pub AreMessages : List Step → List Leaf → List SyntaxError → Type 0
AreMessages ss ls errors =
    (f : Forest) → AreStepsOf ss ls f → map message_of_error errors ≡ map of_grammar (sayings_of (dress_root f ls))

-- the tree is the node dressed with the leaves, and the messages are those that stand in it
pub record IsBuilt (ss : List Step) (ls : List Leaf) (root : Tree) (errors : List SyntaxError) : Type 0 where
  pub root_is : (f : Forest) → AreStepsOf ss ls f → root ≡ root_of (terms_of (dress_root f ls))
  pub errors_are : AreMessages ss ls errors
