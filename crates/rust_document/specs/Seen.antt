-- How leaves and messages of the code are read.
use Rattle.std.specs.Prelude.{ℕ, List, encode_utf8_all}
use Rattle.rowan_green.specs.Leaf as green
use Rattle.parser_input.specs.Kind.{raw_of}
use Rattle.parser_input.specs.Leaf as leaves
use Rattle.parser_events.specs.MessageTexts.{message_text}
use Rattle.parser_events.specs.Seen.{message_of}
use Rattle.rust_document.specs.declared.leaf.Leaf.{Leaf}
use Rattle.rust_document.specs.Reading.{Fault, OfGrammar, OfLeaf, Message}
use Rattle.rust_document.specs.declared.syntax_error.SyntaxError.{SyntaxError}
use Rattle.rust_document.specs.declared.syntax_error.SyntaxMessage.{SyntaxMessage}
use Rattle.rust_document.specs.declared.syntax_error.SyntaxMessage.TheVariants.{Parser, Lexer}

-- a leaf with its bytes, as code has it and as the definitions have it
abbrev pub seen : Leaf → green.Leaf
seen l = record { kind = raw_of l.kind; text = l.text.now }

abbrev pub in_bytes : leaves.Leaf → green.Leaf
in_bytes l = record { kind = l.kind; text = encode_utf8_all l.text }

-- a message as code has it
abbrev pub fault_of : SyntaxMessage → Fault
fault_of (Parser m) = OfGrammar (message_of m)
fault_of (Lexer words) = OfLeaf words.now

abbrev pub message_of_error : SyntaxError → Message
message_of_error e = (e.offset, fault_of e.message)

-- its text
abbrev pub words_of : SyntaxMessage → List ℕ
words_of (Parser m) = message_text m
words_of (Lexer words) = words.now
