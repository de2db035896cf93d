-- How what the code records and lays is read.
use Rattle.std.specs.Prelude.{map, reverse}
use Rattle.parser_input.specs.Kind.{raw_of}
use Rattle.parser_events.specs.Forest as forest
use Rattle.parser_events.specs.Steps as steps
use Rattle.parser_events.specs.Nodes as nodes
use Rattle.parser_events.specs.Unwinding as unwinding
use Rattle.parser_events.specs.declared.message.Message.{Message}
use Rattle.parser_events.specs.declared.message.Message.TheVariants as messages
use Rattle.parser_events.specs.declared.step.Step.{Step}
use Rattle.parser_events.specs.declared.step.Step.TheVariants as code_steps
use Rattle.parser_events.specs.declared.event.Event.{Event}
use Rattle.parser_events.specs.declared.event.Event.TheVariants as events
use Rattle.parser_events.specs.declared.unwinding.Pending.{Pending}
use Rattle.parser_events.specs.declared.unwinding.Unwinding.{Unwinding}

abbrev pub message_of : Message → forest.Message
message_of (messages.Expected kind) = forest.Expected (raw_of kind)
message_of (messages.UnexpectedIn kind) = forest.UnexpectedIn (raw_of kind)
message_of messages.ExpectedType = forest.ExpectedType
message_of messages.ExpectedExpression = forest.ExpectedExpression
message_of messages.ExpectedPattern = forest.ExpectedPattern
message_of messages.ExpectedItem = forest.ExpectedItem
message_of messages.ExpectedStatement = forest.ExpectedStatement
message_of messages.ExpectedMatchArm = forest.ExpectedMatchArm
message_of messages.ExpectedField = forest.ExpectedField
message_of messages.UnexpectedTokens = forest.UnexpectedTokens
message_of messages.IllegalFloat = forest.IllegalFloat

abbrev pub step_of : Step → steps.Step
step_of (code_steps.Token kind count) = steps.Token (raw_of kind) count
step_of (code_steps.FloatSplit ends_in_dot) = steps.FloatSplit ends_in_dot
step_of (code_steps.Enter kind) = steps.Enter (raw_of kind)
step_of code_steps.Exit = steps.Exit
step_of (code_steps.Error message) = steps.Error (message_of message)

abbrev pub event_of : Event → nodes.Entry
event_of (events.Token kind count) = nodes.Token (raw_of kind) count
event_of (events.Error message) = nodes.Said (message_of message)
event_of (events.Close kind start) = nodes.Closed (raw_of kind) start
event_of (events.Split ends_in_dot start) = nodes.Ended ends_in_dot start

abbrev pub pending_of : Pending → unwinding.Pending
pending_of p = record { kind = raw_of p.kind; start = p.start }

-- the steps in order, and the nodes, the innermost first
abbrev pub state_of : Unwinding → unwinding.Unwound
state_of u = record { pending = map pending_of (reverse u.pending.items); laid = map step_of u.steps }
