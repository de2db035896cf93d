-- What messages say.
use Rattle.std.specs.Prelude.{ℕ, List, ◌++◌, codes}
use Rattle.parser_input.specs.Kind.{name_of}
use Rattle.parser_events.specs.declared.message.Message.{Message}
use Rattle.parser_events.specs.declared.message.Message.TheVariants.{Expected, UnexpectedIn, ExpectedType, ExpectedExpression, ExpectedPattern, ExpectedItem, ExpectedStatement, ExpectedMatchArm, ExpectedField, UnexpectedTokens, IllegalFloat}

-- the text of a message; a kind stands by its name
abbrev pub message_text : Message → List ℕ
message_text (Expected kind) = codes "expected " ++ name_of kind
message_text (UnexpectedIn list) = codes "unexpected token in " ++ name_of list
message_text ExpectedType = codes "expected a type"
message_text ExpectedExpression = codes "expected an expression"
message_text ExpectedPattern = codes "expected a pattern"
message_text ExpectedItem = codes "expected an item"
message_text ExpectedStatement = codes "expected a statement"
message_text ExpectedMatchArm = codes "expected a match arm"
message_text ExpectedField = codes "expected field name or number"
message_text UnexpectedTokens = codes "unexpected tokens"
message_text IllegalFloat = codes "illegal float literal"
