-- What messages say.
use Rattle.std.specs.Prelude.{ℕ, List, ◌++◌, codes}
use Rattle.parser_events.specs.Forest.{Message, Expected, UnexpectedIn, ExpectedType, ExpectedExpression, ExpectedPattern, ExpectedItem, ExpectedStatement, ExpectedMatchArm, ExpectedField, UnexpectedTokens, IllegalFloat}
use Rattle.kind_words.specs.Words.{words_of}
use Rattle.syntax_tree.specs.Language.{kind_of_raw}
use Rattle.rust_document.specs.Reading.{Fault, OfGrammar, OfLeaf}

-- the words of the language for the kind that a raw number stands for
abbrev pub kind_words : ℕ → List ℕ
kind_words raw = words_of (kind_of_raw raw)

-- the words of a message of the parser
abbrev pub message_words : Message → List ℕ
message_words (Expected kind) = codes "expected " ++ kind_words kind
message_words (UnexpectedIn list) = codes "unexpected token in " ++ kind_words list
message_words ExpectedType = codes "expected a type"
message_words ExpectedExpression = codes "expected an expression"
message_words ExpectedPattern = codes "expected a pattern"
message_words ExpectedItem = codes "expected an item"
message_words ExpectedStatement = codes "expected a statement"
message_words ExpectedMatchArm = codes "expected a match arm"
message_words ExpectedField = codes "expected field name or number"
message_words UnexpectedTokens = codes "unexpected tokens"
message_words IllegalFloat = codes "illegal float literal"

abbrev pub words : Fault → List ℕ
words (OfGrammar m) = message_words m
words (OfLeaf said) = said
