-- The steps of a forest: its nodes are entered and left, in order.
use Rattle.std.specs.Prelude.{ℕ, zero, suc, Bool, List, [], ◌∷◌, ◌++◌, Option, Some, None, if◌then◌else◌}
use Rattle.parser_input.specs.Kinds.{ERROR, FIELD_EXPR}
use Rattle.parser_events.specs.Forest as forest
use Rattle.parser_events.specs.Forest.{Forest, Message}

-- One step: a leaf over the next `count` tokens of the input; a float after a dot, which also leaves the field access
-- that it ends; a node that is entered; the end of the node that was entered last; a message.
pub data Step : Type 0 where
  Token : (kind count : ℕ) → Step
  FloatSplit : (ends_in_dot : Bool) → Step
  Enter : (kind : ℕ) → Step
  Exit : Step
  Error : (message : Message) → Step

-- A float that does not end in a dot ends two field accesses, one in the other.
unfoldable pub steps : Forest → List Step
steps forest.End = []
steps (forest.Leaf kind count f) = Token kind count ∷ steps f
steps (forest.Said message f) = Error message ∷ steps f
steps (forest.ErrorLeaf message kind f) = Enter ERROR ∷ Error message ∷ Token kind 1 ∷ Exit ∷ steps f
steps (forest.Node kind children f) = Enter kind ∷ (steps children ++ Exit ∷ steps f)
steps (forest.Float ends_in_dot receiver f) =
    let one = Enter FIELD_EXPR ∷ (steps receiver ++ FloatSplit ends_in_dot ∷ steps f) in
    let two = Enter FIELD_EXPR ∷ Enter FIELD_EXPR ∷ (steps receiver ++ FloatSplit ends_in_dot ∷ Exit ∷ steps f) in
    if ends_in_dot then one else two

-- the number of open nodes after the steps, with `level` open before them; `None` if a step leaves a node that is not
-- open
unfoldable pub level_after : ℕ → List Step → Option ℕ
level_after level [] = Some level
level_after level (Token kind count ∷ ss) = level_after level ss
level_after level (Error message ∷ ss) = level_after level ss
level_after level (Enter kind ∷ ss) = level_after (suc level) ss
level_after zero (FloatSplit ends_in_dot ∷ ss) = None
level_after (suc level) (FloatSplit ends_in_dot ∷ ss) = level_after level ss
level_after zero (Exit ∷ ss) = None
level_after (suc level) (Exit ∷ ss) = level_after level ss
