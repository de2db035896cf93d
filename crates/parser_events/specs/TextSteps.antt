-- The steps of a dressed tree: each leaf has its own text, and each message its place.
use Rattle.std.specs.Prelude.{ℕ, List, [], ◌∷◌, ◌++◌, chars}
use Rattle.parser_input.specs.Kind.{raw_of}
use Rattle.parser_input.specs.Leaf as leaves
use Rattle.parser_events.specs.Forest.{Message}
use Rattle.parser_events.specs.Dressed as dressed
use Rattle.parser_events.specs.Dressed.{Dressed}
use Rattle.parser_events.specs.Seen.{message_of}
use Rattle.parser_events.specs.declared.str_step.StrStep.{StrStep}
use Rattle.parser_events.specs.declared.str_step.StrStep.TheVariants as code_steps

-- one step: a leaf, a node that is entered, the end of the node that was entered last, a message
pub data TextStep : Type 0 where
  Token : (kind : ℕ) (text : List ℕ) → TextStep
  Enter : (kind : ℕ) → TextStep
  Exit : TextStep
  Error : (message : Message) (place : ℕ) → TextStep

-- the elements in order; a node is entered before what it holds, and left after it
abbrev pub text_steps : Dressed → List TextStep
text_steps dressed.End = []
text_steps (dressed.Leaf kind text d) = Token kind text ∷ text_steps d
text_steps (dressed.Said message place d) = Error message place ∷ text_steps d
text_steps (dressed.Node kind children d) = Enter kind ∷ (text_steps children ++ Exit ∷ text_steps d)

-- leaves as they are
abbrev pub leaf_steps : List leaves.Leaf → List TextStep
leaf_steps [] = []
leaf_steps (l ∷ ls) = Token l.kind l.text ∷ leaf_steps ls

-- how a step of the code is read
abbrev pub text_step_of : StrStep → TextStep
text_step_of (code_steps.Token kind text) = Token (raw_of kind) (chars text.now)
text_step_of (code_steps.Enter kind) = Enter (raw_of kind)
text_step_of code_steps.Exit = Exit
text_step_of (code_steps.Error message place) = Error (message_of message) place
