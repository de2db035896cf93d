-- What each step of a tree with its text makes of a builder and of a list of messages.
use Rattle.std.specs.Prelude.{◌≡◌, ◌+◌, ◌<◌, ◌^◌, List, [], ◌∷◌, ◌++◌, map, length, encode_utf8_all, IsCharBoundary}
use Rattle.rowan_green.specs.Building.{Building, current_children}
use Rattle.rowan_green.specs.TextBuilding.{TextBuilding, with_piece, with_node, with_end}
use Rattle.rowan_green.specs.Refusal.{RefusesUnless}
use Rattle.rowan_green.specs.Term.{FitsNode}
use Rattle.rowan_green.specs.declared.error.GreenError.{GreenError}
use Rattle.rowan_green.specs.declared.error.GreenError.TheVariants.{TooLong, Unbalanced, NoMemory}
use Rattle.parser_events.specs.TextSteps.{TextStep, Token, Enter, Exit, Error}
use Rattle.rust_document.specs.Reading.{Message, OfGrammar}
use Rattle.rust_document.specs.Seen.{message_of_error}
use Rattle.rust_document.specs.declared.tree_sink.TreeSink.{TreeSink}

-- the builder after a step: the next piece of the text is a leaf, a node is opened, the innermost one is closed
abbrev pub built : TextBuilding → TextStep → TextBuilding
built b (Token kind text) = with_piece b kind (length (encode_utf8_all text))
built b (Enter kind) = with_node b kind
built b Exit = with_end b
built b (Error message place) = b

-- the message that a step is, with its place
abbrev pub heard : TextStep → List Message
heard (Token kind text) = []
heard (Enter kind) = []
heard Exit = []
heard (Error message place) = (place, OfGrammar message) ∷ []

-- a step is taken
pub record IsTaken (old : TreeSink) (step : TextStep) (new : TreeSink) : Type 0 where
  pub builder : new.builder ≡ built old.builder step
  pub errors : map message_of_error new.errors.items ≡ map message_of_error old.errors.items ++ heard step

-- why the innermost node cannot be closed
abbrev pub MayNotClose : Building → GreenError → Type 0
MayNotClose b TooLong = FitsNode (current_children b) → ⊥
MayNotClose b Unbalanced = b.open_numbers ≡ []
MayNotClose b NoMemory = Unit {0}

-- why a step may be refused
abbrev pub MayRefuse : TextBuilding → TextStep → GreenError → Type 0
MayRefuse b (Token kind text) error = RefusesUnless (IsCharBoundary b.text (b.used + length (encode_utf8_all text))) error
MayRefuse b (Enter kind) error = RefusesUnless (b.building.started + 1 < 2 ^ 64) error
MayRefuse b Exit error = MayNotClose b.building error
MayRefuse b (Error message place) error = error ≡ NoMemory

-- a step is refused, and nothing has changed
pub record IsRefused (old : TreeSink) (step : TextStep) (error : GreenError) (new : TreeSink) : Type 0 where
  pub reason : MayRefuse old.builder step error
  pub builder : new.builder ≡ old.builder
  pub errors : new.errors.items ≡ old.errors.items
