-- What messages say.
use Rattle.std.specs.Prelude.{ℕ, List, ◌++◌, codes}
use Rattle.parser_events.specs.Forest.{Message, Expected, UnexpectedIn, ExpectedType, ExpectedExpression, ExpectedPattern, ExpectedItem, ExpectedStatement, ExpectedMatchArm, ExpectedField, UnexpectedTokens, IllegalFloat}
use Rattle.rust_document.specs.Reading.{Fault, OfGrammar, OfLeaf}
use Rattle.document_requests.specs.Lines.{kind_name}

-- the words of a message of the parser; a kind stands by its name
abbrev pub message_words : Message → List ℕ
message_words (Expected kind) = codes "expected " ++ kind_name kind
message_words (UnexpectedIn list) = codes "unexpected token in " ++ kind_name list
message_words ExpectedType = codes "expected a type"
message_words ExpectedExpression = codes "expected an expression"
message_words ExpectedPattern = codes "expected a pattern"
message_words ExpectedItem = codes "expected an item"
message_words ExpectedStatement = codes "expected a statement"
message_words ExpectedMatchArm = codes "expected a match arm"
message_words ExpectedField = codes "expected field name or number"
message_words UnexpectedTokens = codes "unexpected tokens"
message_words IllegalFloat = codes "illegal float literal"

abbrev pub fault_words : Fault → List ℕ
fault_words (OfGrammar m) = message_words m
fault_words (OfLeaf words) = words

-- a message with its words
abbrev pub worded : ℕ × Fault → ℕ × List ℕ
worded m = (m.0, fault_words m.1)
